-- An expression that turns out to be targets is spelt as targets.
use Rattle.std.proofs.Common.{◌≡◌, ℕ, List, [], ◌∷◌, codes, inl, inr, refl, ap, ◌∙◌, subst, arith, Option, Some, None}
use Rattle.std.proofs.lemmas.Option.{same_Some}
use Rattle.py_tokens.specs.Token.{Place}
use Rattle.py_syntax.specs.Token.{Token}
use Rattle.py_syntax.specs.Tree.{Expr, EName, EParenthesis, ETuple, EList, EAttribute, ESubscript, Exprs, no_exprs, more_exprs, Target, Targets, SomeTargets, ParenthesisTargets, BracketTargets}
use Rattle.py_syntax.specs.Build.{target_of, one_more, target_list_of, in_brackets, some_targets, targets_of}
use Rattle.py_syntax.specs.Grammar.{sign, IsEndOrComma, IsExpr, AreItems, IsTarget, AreTargets, IsTargets}
use Rattle.py_syntax.proofs.KeptSteps.{looser}

-- what a value that was found was made of
bracketed_is : (f : Targets → Targets) (o : Option Targets) (t : Targets) → in_brackets f o ≡ Some t → (inner : Targets) × (o ≡ Some inner) × (f inner ≡ t)
bracketed_is f None t h = absurd (cc)
bracketed_is f (Some inner) t h = (inner, refl, (cc))

listed_is : (p : Place) (o : Option (List Target)) (t : Targets) → some_targets p o ≡ Some t → (targets : List Target) × (o ≡ Some targets) × (SomeTargets p targets ≡ t)
listed_is p None t h = absurd (cc)
listed_is p (Some targets) t h = (targets, refl, (cc))

more_is : (a : Option Target) (o : Option (List Target)) (targets : List Target) → one_more a o ≡ Some targets
    → (first : Target) × (others : List Target) × (a ≡ Some first) × (o ≡ Some others) × (first ∷ others ≡ targets)
more_is None o targets h = absurd (cc)
more_is (Some first) None targets h = absurd (cc)
more_is (Some first) (Some others) targets h = (first, others, refl, refl, (cc))

pub target_spelt : (l : ℕ) (e : Expr) (t : Target) (ts rest : List Token) → target_of e ≡ Some t → IsExpr l e ts rest → IsTarget t ts rest
target_spelt l (EName p x) t ts rest is h = subst (λ (t : Target). IsTarget t ts rest) (same_Some _ _ is) h
target_spelt l (EAttribute p e x) t ts rest is h = subst (λ (t : Target). IsTarget t ts rest) (same_Some _ _ is) h
target_spelt l (ESubscript p e i) t ts rest is h = subst (λ (t : Target). IsTarget t ts rest) (same_Some _ _ is) h
target_spelt l _ t ts rest is h = absurd (cc)

target_list_spelt : (es : Exprs) (targets : List Target) (ts rest : List Token) → target_list_of es ≡ Some targets → AreItems es ts rest → AreTargets targets ts rest
target_list_spelt no_exprs targets ts rest is h = subst (λ (targets : List Target). AreTargets targets ts rest) (same_Some _ _ is) h
target_list_spelt (more_exprs e es) targets ts rest is h =
    let m = more_is (target_of e) (target_list_of es) targets is in
    subst (λ (targets : List Target). AreTargets targets ts rest) m.4
    (h.0, target_spelt 1 e m.0 ts h.0 m.2 h.1, behind es m.1 h.0 m.3 (target_list_spelt es) h.2)
  where
    behind : (es : Exprs) (others : List Target) (mid : List Token) → target_list_of es ≡ Some others
        → ((others : List Target) (ts rest : List Token) → target_list_of es ≡ Some others → AreItems es ts rest → AreTargets others ts rest)
        → IsEndOrComma (es ≡ no_exprs) (AreItems es) mid rest → IsEndOrComma (others ≡ []) (AreTargets others) mid rest
    behind es others mid is spelt (inl end) = let none : es ≡ no_exprs = end.0 in inl ((cc), end.1)
    behind es others mid is spelt (inr more) = inr (more.0, more.1, more.2, spelt others more.1 rest is more.3)

-- with a comma behind the first
with_comma : (c : Place) (e : Expr) (es : Exprs) (t : Targets) (ts mid rest : List Token) → some_targets c (target_list_of (more_exprs e es)) ≡ Some t
    → IsExpr 1 e ts (sign c (codes ",") ∷ mid) → AreItems es mid rest → IsTargets t ts rest
with_comma c e es t ts mid rest is first others =
    let n = listed_is c (target_list_of (more_exprs e es)) t is in
    let m = more_is (target_of e) (target_list_of es) n.0 n.1 in
    subst (λ (t : Targets). IsTargets t ts rest) (ap (SomeTargets c) m.4 ∙ n.2)
    (mid, target_spelt 1 e m.0 ts (sign c (codes ",") ∷ mid) m.2 first, target_list_spelt es m.1 mid rest m.3 others)

pub targets_spelt : (e : Expr) (t : Targets) (ts rest : List Token) → targets_of e ≡ Some t → IsExpr 0 e ts rest → IsTargets t ts rest
targets_spelt (EName p x) t ts rest is h = subst (λ (t : Targets). IsTargets t ts rest) (same_Some _ _ is) h
targets_spelt (EAttribute p e x) t ts rest is h = subst (λ (t : Targets). IsTargets t ts rest) (same_Some _ _ is) h
targets_spelt (ESubscript p e i) t ts rest is h = subst (λ (t : Targets). IsTargets t ts rest) (same_Some _ _ is) h
targets_spelt (ETuple p no_exprs) t ts rest is h = absurd h
targets_spelt (ETuple p (more_exprs e es)) t ts rest is h = with_comma p e es t ts h.1 rest is h.2 h.3
targets_spelt (EParenthesis p e) t ts rest is h =
    let m = bracketed_is (ParenthesisTargets p) (targets_of e) t is in
    subst (λ (t : Targets). IsTargets t ts rest) m.2 (h.0, h.1, h.2, targets_spelt e m.0 h.1 _ m.1 h.3)
targets_spelt (EList p None no_exprs) t ts rest is h = absurd (cc)
targets_spelt (EList p None (more_exprs e no_exprs)) t ts rest is h =
    let m = bracketed_is (BracketTargets p) (targets_of e) t is in
    subst (λ (t : Targets). IsTargets t ts rest) m.2 (h.0, h.1, h.2, targets_spelt e m.0 h.1 _ m.1 (looser 1 0 e h.1 _ (omega arith) h.3))
targets_spelt (EList p None (more_exprs e (more_exprs f es))) t ts rest is h = absurd h
targets_spelt (EList p (Some c) no_exprs) t ts rest is h = absurd h
targets_spelt (EList p (Some c) (more_exprs e es)) t ts rest is h =
    let m = bracketed_is (BracketTargets p) (some_targets c (target_list_of (more_exprs e es))) t is in
    subst (λ (t : Targets). IsTargets t ts rest) m.2 (h.0, h.1, h.3, with_comma c e es m.0 h.1 h.2 _ m.1 h.4 h.5)
targets_spelt _ t ts rest is h = absurd (cc)
