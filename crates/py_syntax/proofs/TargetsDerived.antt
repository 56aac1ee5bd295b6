-- What stands before `=` is spelt as an expression, which turns out to be targets.
use Rattle.std.proofs.Common.{◌≡◌, ℕ, true, List, [], ◌∷◌, codes, Some, None, ◌⊎◌, inl, inr, refl, sym, ap, arith}
use Rattle.py_tokens.specs.Token.{Place}
use Rattle.py_syntax.specs.Token.{Token, At}
use Rattle.py_syntax.specs.Tree.{Expr, EName, EParenthesis, ETuple, EList, EAttribute, ESubscript, Exprs, no_exprs, more_exprs, Target, TargetName, TargetAttribute, TargetSubscript, Targets, OneTarget, SomeTargets, ParenthesisTargets, BracketTargets}
use Rattle.py_syntax.specs.Build.{Parts, PExpr, target_of, target_list_of, targets_of, are_targets_last, is_target_last}
use Rattle.py_syntax.specs.Grammar.{sign, IsExpr, AreItems, IsTarget, AreTargets, IsTargets, BeginsAt}

pub same_place : {p q : Place} {ts : List Token} → BeginsAt p ts → BeginsAt q ts → p ≡ q
same_place {p} {q} {ts} a b = let one : ts ≡ At p a.0 ∷ a.1 = a.2 in let other : ts ≡ At q b.0 ∷ b.1 = b.2 in (cc)

pub is_target : (e : Expr) (t : Target) (v : Parts) → target_of e ≡ Some t → is_target_last (PExpr e ∷ v) ≡ true
is_target e t v h = rw h refl

pub are_targets : (e : Expr) (t : Targets) (v : Parts) → targets_of e ≡ Some t → are_targets_last (PExpr e ∷ v) ≡ true
are_targets e t v h = rw h refl

-- an expression, which stands at each level
abbrev AsItem : Targets → List Token → List Token → Type 0
AsItem t ts rest = (e : Expr) × (targets_of e ≡ Some t) × ((l : ℕ) → IsExpr l e ts rest)

-- a tuple
abbrev AsTuple : Targets → List Token → List Token → Type 0
AsTuple t ts rest =
    (p : Place) × (e : Expr) × (es : Exprs) × (targets_of (ETuple p (more_exprs e es)) ≡ Some t) × IsExpr 0 (ETuple p (more_exprs e es)) ts rest

-- one target alone
abbrev pub AsTarget : Target → List Token → List Token → Type 0
AsTarget t ts rest = (e : Expr) × (target_of e ≡ Some t) × (targets_of e ≡ Some (OneTarget t)) × ((l : ℕ) → IsExpr l e ts rest)

pub target_spelt : (t : Target) (ts rest : List Token) → IsTarget t ts rest → AsTarget t ts rest
target_spelt (TargetName x) ts rest h = (EName x.place x.name, refl, refl, λ l. h)
target_spelt (TargetAttribute p e x) ts rest h = (EAttribute p e x, refl, refl, λ l. h)
target_spelt (TargetSubscript p e i) ts rest h = (ESubscript p e i, refl, refl, λ l. h)

more_targets : (e : Expr) (es : Exprs) (t : Target) (targets : List Target) → target_of e ≡ Some t → target_list_of es ≡ Some targets
    → target_list_of (more_exprs e es) ≡ Some (t ∷ targets)
more_targets e es t targets h k = rw (h, k) refl

target_list_spelt : (targets : List Target) (ts rest : List Token) → AreTargets targets ts rest
    → (es : Exprs) × (target_list_of es ≡ Some targets) × AreItems es ts rest
target_list_spelt [] ts rest h = (no_exprs, refl, h)
target_list_spelt (t ∷ targets) ts rest h =
    let first : AsTarget t ts h.0 = target_spelt t ts h.0 h.1 in
    elim h.2 [
      | inl end ↦ (more_exprs first.0 no_exprs, more_targets first.0 no_exprs t targets first.1 (ap Some (sym end.0)), (h.0, first.3 1, inl (refl, end.1)))
      | inr comma ↦
          let others : (es : Exprs) × (target_list_of es ≡ Some targets) × AreItems es comma.1 rest = target_list_spelt targets comma.1 rest comma.3 in (
            more_exprs first.0 others.0,
            more_targets first.0 others.0 t targets first.1 others.1,
            (h.0, first.3 1, inr (comma.0, comma.1, comma.2, others.2)),
          )
    ]

in_parenthesis : (p : Place) (e : Expr) (t : Targets) → targets_of e ≡ Some t → targets_of (EParenthesis p e) ≡ Some (ParenthesisTargets p t)
in_parenthesis p e t h = rw h refl

in_bracket : (p : Place) (e : Expr) (t : Targets) → targets_of e ≡ Some t → targets_of (EList p None (more_exprs e no_exprs)) ≡ Some (BracketTargets p t)
in_bracket p e t h = rw h refl

list_in_bracket : (p c : Place) (es : Exprs) (t : Targets) → targets_of (ETuple c es) ≡ Some t → targets_of (EList p (Some c) es) ≡ Some (BracketTargets p t)
list_in_bracket p c es t h = rw h refl

some_in_tuple : (p : Place) (es : Exprs) (targets : List Target) → target_list_of es ≡ Some targets → targets_of (ETuple p es) ≡ Some (SomeTargets p targets)
some_in_tuple p es targets h = rw h refl

targets_spelt_so : (t : Targets) (ts rest : List Token) → IsTargets t ts rest → AsItem t ts rest ⊎ AsTuple t ts rest
targets_spelt_so (OneTarget t) ts rest h = let one : AsTarget t ts rest = target_spelt t ts rest h in inl (one.0, one.2, one.3)
targets_spelt_so (SomeTargets p []) ts rest h = absurd h
targets_spelt_so (SomeTargets p (t ∷ targets)) ts rest h =
    let first : AsTarget t ts (sign p (codes ",") ∷ h.0) = target_spelt t ts (sign p (codes ",") ∷ h.0) h.1 in
    let others : (es : Exprs) × (target_list_of es ≡ Some targets) × AreItems es h.0 rest = target_list_spelt targets h.0 rest h.2 in
    inr (
      p,
      first.0,
      others.0,
      some_in_tuple p (more_exprs first.0 others.0) (t ∷ targets) (more_targets first.0 others.0 t targets first.1 others.1),
      (omega arith, h.0, first.3 1, others.2),
    )
targets_spelt_so (ParenthesisTargets p t) ts rest h = elim (targets_spelt_so t h.1 (sign h.0 (codes ")") ∷ rest) h.3) [
  | inl item ↦ inl (EParenthesis p item.0, in_parenthesis p item.0 t item.1, λ l. (h.0, h.1, h.2, item.2 0))
  | inr tuple ↦ inl (
    EParenthesis p (ETuple tuple.0 (more_exprs tuple.1 tuple.2)),
    in_parenthesis p (ETuple tuple.0 (more_exprs tuple.1 tuple.2)) t tuple.3,
    λ l. (h.0, h.1, h.2, tuple.4),
  )
]
targets_spelt_so (BracketTargets p t) ts rest h = elim (targets_spelt_so t h.1 (sign h.0 (codes "]") ∷ rest) h.3) [
  | inl item ↦ inl (EList p None (more_exprs item.0 no_exprs), in_bracket p item.0 t item.1, λ l. (h.0, h.1, h.2, item.2 1))
  | inr tuple ↦
      let inner : IsExpr 0 (ETuple tuple.0 (more_exprs tuple.1 tuple.2)) h.1 (sign h.0 (codes "]") ∷ rest) = tuple.4 in
      inl (
        EList p (Some tuple.0) (more_exprs tuple.1 tuple.2),
        list_in_bracket p tuple.0 (more_exprs tuple.1 tuple.2) t tuple.3,
        λ l. (h.0, h.1, inner.1, h.2, inner.2, inner.3),
      )
]

-- targets, as an expression with commas or without
abbrev pub AsTargets : Targets → List Token → List Token → Type 0
AsTargets t ts rest = (e : Expr) × (targets_of e ≡ Some t) × IsExpr 0 e ts rest

pub targets_spelt : (t : Targets) (ts rest : List Token) → IsTargets t ts rest → AsTargets t ts rest
targets_spelt t ts rest h = elim (targets_spelt_so t ts rest h) [
  | inl item ↦ (item.0, item.1, item.2 0)
  | inr tuple ↦ (ETuple tuple.0 (more_exprs tuple.1 tuple.2), tuple.3, tuple.4)
]
