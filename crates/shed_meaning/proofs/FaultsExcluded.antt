-- A text that is a module of what is built has no fault.
use Rattle.std.proofs.Common.{◌≡◌, ℕ, List, [], ◌∷◌, ◌++◌, take, drop, None, Some, refl, sym, ap, ◌∙◌, subst, append-nil, append_assoc, ◌⊎◌, inl, inr}
use Rattle.std.proofs.lemmas.List.{take-append-drop}
use Rattle.py_tokens.specs.Token.{Token as TextToken, Outcome, Tokens, Refused, TooLong}
use Rattle.py_syntax.specs.Token.{Token}
use Rattle.py_syntax.specs.Tree as whole
use Rattle.py_syntax.specs.Grammar.{IsModule}
use Rattle.py_syntax.specs.Laws.{IsLongestFront}
use Rattle.py_syntax.specs.Heights.{IsShallow}
use Rattle.py_nesting.proofs.ShallowModules.{shallow_law}
use Rattle.py_syntax.proofs.TableLaws.{one_tree}
use Rattle.py_meaning.specs.Name.{Name}
use Rattle.py_meaning.specs.Tree.{Body}
use Rattle.py_meaning.specs.Built.{unbuilt, first_place}
use Rattle.py_meaning.specs.Source.{IsSource, grammar_tokens, names_of}
use Rattle.py_meaning.proofs.BuiltLaws.{nothing_unbuilt}
use Rattle.shed_meaning.specs.Fault.{Fault, BadToken, Unexpected, Outside, TooDeep, Unbuilt, HasFault, fault_status}

-- a module is no front of a longer one that breaks off
no_module_at : (ts : List Token) (k : ℕ) (tree : whole.Body) → IsModule tree ts → IsLongestFront (take k ts) (drop k ts) → ⊥
no_module_at ts k tree m l = go (drop k ts) refl l
  where
    go : (rest : List Token) → drop k ts ≡ rest → IsLongestFront (take k ts) rest → ⊥
    go [] e f =
        let whole_of : ts ≡ take k ts = sym (take-append-drop k ts) ∙ ap (λ (r : List Token). take k ts ++ r) e ∙ append-nil (take k ts) in
        f.1 tree (subst (IsModule tree) whole_of m)
    go (t ∷ rest) e f =
        let whole_of : ts ≡ (take k ts ++ t ∷ []) ++ rest =
        sym (take-append-drop k ts) ∙ ap (λ (r : List Token). take k ts ++ r) e ∙ sym (append_assoc (take k ts) (t ∷ []) rest) in
        f.1 (rest, tree, subst (IsModule tree) whole_of m)

same_tokens : (o : Outcome) (ts us : List TextToken) → o ≡ Tokens ts → o ≡ Tokens us → ts ≡ us
same_tokens o ts us a b = let e : Tokens ts ≡ Tokens us = sym a ∙ b in cc

pub no_fault : (text : List ℕ) (body : Body) (fault : Fault) → IsSource text body → HasFault text fault → ⊥
no_fault text body (BadToken r p) s h = let a = s.read.lexed in let e : Tokens s.read.tokens ≡ Refused r p = sym a ∙ h in cc
no_fault text body (Unexpected p said) s h =
    let same = same_tokens _ s.read.tokens h.0 s.read.lexed h.1 in
    no_module_at (grammar_tokens h.0) h.2.count s.tree (subst (λ (ts : List TextToken). IsModule s.tree (grammar_tokens ts)) same s.read.spelt) h.2.longest
no_fault text body (Outside p c) s h =
    let same = same_tokens _ s.read.tokens h.0 s.read.lexed h.1 in
    no_module_at (grammar_tokens h.0) h.2.count s.tree (subst (λ (ts : List TextToken). IsModule s.tree (grammar_tokens ts)) same s.read.spelt) h.2.longest
no_fault text body (TooDeep p) s (inl h) =
    let same = same_tokens _ s.read.tokens h.tokens s.read.lexed h.lexed in
    let tree : s.tree ≡ h.tree =
    one_tree s.tree h.tree (grammar_tokens h.tokens) (subst (λ (ts : List TextToken). IsModule s.tree (grammar_tokens ts)) same s.read.spelt) h.spelt in
    (shallow_law h.tree).0 (subst IsShallow tree s.read.shallow) p h.first.0
no_fault text body (TooDeep p) s (inr h) =
    let same = same_tokens _ s.read.tokens h.tokens s.read.lexed h.lexed in
    no_module_at (grammar_tokens h.tokens) h.count s.tree (subst (λ (ts : List TextToken). IsModule s.tree (grammar_tokens ts)) same s.read.spelt) h.longest
no_fault text body (Unbuilt p) s h =
    let same = same_tokens _ s.read.tokens h.2.tokens s.read.lexed h.2.lexed in
    let tree : s.tree ≡ h.0 =
    one_tree s.tree h.0 (grammar_tokens h.2.tokens) (subst (λ (ts : List TextToken). IsModule s.tree (grammar_tokens ts)) same s.read.spelt) h.2.spelt in
    let names : s.names ≡ h.1 = s.read.numbering ∙ ap names_of same ∙ sym h.2.numbering in
    let nothing : unbuilt s.names [] s.tree ≡ [] = (nothing_unbuilt s.names s.tree).1 (body, s.built, s.sure) in
    let none : unbuilt h.1 [] h.0 ≡ [] = ap (λ (n : List Name). unbuilt n [] h.0) (sym names) ∙ ap (unbuilt s.names []) (sym tree) ∙ nothing in
    let e : None ≡ Some p = sym (ap first_place none) ∙ h.3 in cc

-- its status is one of these
pub not_fault : (f : Fault) (k : ℕ) → (k ≡ 3 → ⊥) → (k ≡ 5 → ⊥) → fault_status f ≡ k → ⊥
not_fault (BadToken TooLong p) k three five e = five (sym e)
not_fault (BadToken r p) k three five e = three (sym e)
not_fault (Unexpected p said) k three five e = three (sym e)
not_fault (Outside p c) k three five e = three (sym e)
not_fault (TooDeep p) k three five e = five (sym e)
not_fault (Unbuilt p) k three five e = three (sym e)

pub either_fault : (f : Fault) → (fault_status f ≡ 3) ⊎ (fault_status f ≡ 5)
either_fault (BadToken TooLong p) = inr refl
either_fault (BadToken r p) = inl refl
either_fault (Unexpected p said) = inl refl
either_fault (Outside p c) = inl refl
either_fault (TooDeep p) = inr refl
either_fault (Unbuilt p) = inl refl
