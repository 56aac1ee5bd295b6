-- Steps through the chain of a row: the next token or part is known, and so are the parts from there on.
use Rattle.std.proofs.Common.{◌≡◌, ℕ, zero, suc, Bool, true, List, [], ◌∷◌, ◌++◌, refl, sym, ap, ◌∙◌, subst, Option, Some, None, append-nil}
use Rattle.grammars.specs.Grammar.{Row}
use Rattle.grammars.specs.Derivation.{Chain}
use Rattle.py_tokens.specs.Token.{Place}
use Rattle.py_syntax.specs.Token.{TName, TText, Token, At}
use Rattle.py_syntax.specs.Kinds.{kind_of}
use Rattle.py_syntax.specs.Tree.{NameAt}
use Rattle.py_syntax.specs.Build.{Part, PToken, Parts, is_some, Action}
use Rattle.py_syntax.specs.Table.{Nonterminal, Symbol, rows, table}
use Rattle.py_syntax.proofs.TokenOf.{ascii_name_is, text_is}
use Rattle.py_syntax.proofs.Means.{Grows, Means}

-- a token of a known kind is read
pub read : {k : ℕ} {A : Type 0} {K : A → Token} {ts : List Token} {C : Token → List Token → Type 0} {Goal : Type 0}
    → ((t : Token) → kind_of t ≡ k → (a : A) × (t ≡ K a))
    → (t : Token) × (after : List Token) × (ts ≡ t ∷ after) × (kind_of t ≡ k) × C t after
    → ((a : A) (after : List Token) → ts ≡ K a ∷ after → C (K a) after → Goal) → Goal
read {A = A} {C = C} is c go =
    let n : (a : A) × (c.0 ≡ _) = is c.0 c.3 in
    go n.0 c.1 (c.2 ∙ ap (λ (t : Token). t ∷ c.1) n.1) (subst (λ (t : Token). C t c.1) n.1 c.4)

-- a nonterminal is read
pub take : {F C : Parts → List Token → Type 0} {Goal : Type 0}
    → (u : Parts) × (after : List Token) × F u after × C u after → ((u : Parts) (after : List Token) → F u after → C u after → Goal) → Goal
take c go = go c.0 c.1 c.2 c.3

-- what the nth row of a nonterminal reads
abbrev symbols_at : ℕ → List (Row Nonterminal Action Parts) → List Symbol
symbols_at n [] = []
symbols_at zero (r ∷ others) = r.symbols
symbols_at (suc n) (r ∷ others) = symbols_at n others

abbrev pub Reading : Nonterminal → ℕ → List Token → Parts → List Token → Parts → Type 0
Reading x n ts w rest v = Chain table Means (symbols_at n (rows x)) v ts w rest

-- the parts are known
pub know : {v u : Parts} (C : Parts → Type 0) {Goal : Type 0} → v ≡ u → C v → (C u → Goal) → Goal
know C is c go = go (subst C is c)

-- a nonterminal is read that is one part more
pub push : {X : Type 0} {part : X → Part} {v : Parts} {Spelt : X → List Token → Type 0} {C : Parts → List Token → Type 0} {Goal : Type 0}
    → (u : Parts) × (after : List Token) × ((x : X) × (u ≡ part x ∷ v) × Spelt x after) × C u after
    → ((x : X) (after : List Token) → Spelt x after → C (part x ∷ v) after → Goal) → Goal
push {C = C} c go = go c.2.0 c.1 c.2.2 (subst (λ (u : Parts). C u c.1) c.2.1 c.3)

-- a name is read
pub name : {v : Parts} {ts : List Token} {C : Parts → List Token → Type 0} {Goal : Type 0}
    → (u : Parts) × (after : List Token)
    × ((x : NameAt) × (ascii : Bool) × (u ≡ PToken (At x.place (TName ascii x.name)) ∷ v) × (ts ≡ At x.place (TName ascii x.name) ∷ after)) × C u after
    → ((x : NameAt) (ascii : Bool) (after : List Token) → ts ≡ At x.place (TName ascii x.name) ∷ after
    → C (PToken (At x.place (TName ascii x.name)) ∷ v) after → Goal) → Goal
name {C = C} c go = go c.2.0 c.2.1 c.1 c.2.3 (subst (λ (u : Parts). C u c.1) c.2.2 c.3)

-- behind the first token comes what is left
pub before : {t : Token} {ts after rest : List Token} → ts ≡ t ∷ after → after ≡ rest → ts ≡ t ∷ rest
before p q = (cc)

-- what a guard found
pub some_of : {A : Type 0} (o : Option A) → is_some o ≡ true → (x : A) × (o ≡ Some x)
some_of None h = absurd (cc)
some_of (Some x) h = (x, refl)

-- one more, and then the others
pub list_grows : {A : Type 0} (xs : List A) (x : A) (ys : List A) → (xs ++ x ∷ []) ++ ys ≡ xs ++ x ∷ ys
list_grows [] x ys = refl
list_grows (first ∷ xs) x ys = ap (λ (l : List _). first ∷ l) (list_grows xs x ys)

-- nothing is added to a list
pub list_stays : {K X : Type 0} (part : K → List X → Part) (Spelt : List X → List Token → List Token → Type 0) (v : Parts) (ts : List Token) (w : Parts) (rest : List Token)
    → v ≡ w → Spelt [] ts rest → Grows part (λ xs ys. xs ++ ys) Spelt v ts w rest
list_stays part Spelt v ts w rest p h k xs u is = ([], sym p ∙ is ∙ ap (λ (l : List _). part k l ∷ u) (sym (append-nil xs)), h)

-- tokens with more than a place
pub the_text_is : (t : Token) → kind_of t ≡ 3 → (a : Place × List ℕ) × (t ≡ At a.0 (TText a.1))
the_text_is t h = let n = text_is t h in ((n.0, n.1), n.2)

pub the_module_name_is : (t : Token) → kind_of t ≡ 1 → (x : NameAt) × (t ≡ At x.place (TName true x.name))
the_module_name_is t h = let n = ascii_name_is t h in (record { place = n.0; name = n.1 }, n.2)
