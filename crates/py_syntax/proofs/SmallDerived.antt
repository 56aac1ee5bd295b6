-- The table derives what tokens spell as a statement on one line with others.
use Rattle.std.proofs.Common.{◌≡◌, true, List, [], ◌∷◌, ◌++◌, codes, Some, refl, sym, ap}
use Rattle.std.proofs.lemmas.List.{append_assoc, append-nil}
use Rattle.grammars.specs.Grammar.{Tok, Non, Do}
use Rattle.py_tokens.specs.Token.{Place}
use Rattle.py_syntax.specs.Token.{Token}
use Rattle.py_syntax.specs.Kinds.{kind_of}
use Rattle.py_syntax.specs.Tree.{NameAt, BinaryOperator, BitOr, BitXor, BitAnd, LeftShift, RightShift, Add, Subtract, Multiply, FloorDivide, Modulo, Power, Expr, ESubscript, no_expr, an_expr, Target, Targets, Stmt, SExpr, SAssign, SAugmented, SPass, SBreak, SContinue, SReturn, SRaise, SYield, SGlobal, SAssert, SDelete}
use Rattle.py_syntax.specs.Build.{Parts, PToken, PExpr, PTargets, PStmt, act, start_of, target_of, targets_of, MakeTargets, AddTargets, MakeAugmented, AddGlobal}
use Rattle.py_syntax.specs.Grammar.{sign, augmented_sign, IsExpr, AreAssigned, AreGlobals, IsSmall}
use Rattle.py_syntax.specs.Table.{ExpressionList, SmallTail, AssignTail, AnyName, GlobalNext, Small}
use Rattle.py_syntax.proofs.TakenSteps.{take, take_guarded, read, perform, with_tokens, with_parts, read_name}
use Rattle.py_syntax.proofs.LevelsDerived.{Leads}
use Rattle.py_syntax.proofs.ExpressionsDerived.{everywhere, spelt}
use Rattle.py_syntax.proofs.Starts.{starts}
use Rattle.py_syntax.proofs.TargetsDerived.{same_place, is_target, are_targets, AsTarget, AsTargets, target_spelt, targets_spelt}

-- targets are added where there are some
targets_added : (e : Expr) (t : Targets) (p : Place) (done : List Targets) (equals : Token) (v : Parts) → targets_of e ≡ Some t
    → act AddTargets (PToken equals ∷ PExpr e ∷ PTargets p done ∷ v) ≡ PTargets p (done ++ t ∷ []) ∷ v
targets_added e t p done equals v h = rw h refl

targets_made : (e : Expr) (t : Targets) (p : Place) (equals : Token) (v : Parts) → targets_of e ≡ Some t → start_of e ≡ p
    → act MakeTargets (PToken equals ∷ PExpr e ∷ v) ≡ PTargets p (t ∷ []) ∷ v
targets_made e t p equals v h k = rw (h, k) refl

augmented_made : (o : BinaryOperator) (a e : Expr) (t : Target) (p : Place) (equals : Token) (v : Parts) → target_of a ≡ Some t → start_of a ≡ p
    → act (MakeAugmented o) (PExpr e ∷ PToken equals ∷ PExpr a ∷ v) ≡ PStmt (SAugmented p o t e) ∷ v
augmented_made o a e t p equals v h k = rw (h, k) refl

augmented_row : (o : BinaryOperator) (q : Place) (a : Expr) (t : Target) (v : Parts) (ts : List Token) → target_of a ≡ Some t
    → Leads (Non SmallTail ∷ []) (PExpr a ∷ v) ts
    (Tok (kind_of (sign q (augmented_sign o))) ∷ Non ExpressionList ∷ Do (MakeAugmented o) ∷ []) (PExpr a ∷ v) ts
augmented_row BitOr q a t v ts h s w y = take_guarded 2 refl (is_target a t v h) y
augmented_row BitXor q a t v ts h s w y = take_guarded 3 refl (is_target a t v h) y
augmented_row BitAnd q a t v ts h s w y = take_guarded 4 refl (is_target a t v h) y
augmented_row LeftShift q a t v ts h s w y = take_guarded 5 refl (is_target a t v h) y
augmented_row RightShift q a t v ts h s w y = take_guarded 6 refl (is_target a t v h) y
augmented_row Add q a t v ts h s w y = take_guarded 7 refl (is_target a t v h) y
augmented_row Subtract q a t v ts h s w y = take_guarded 8 refl (is_target a t v h) y
augmented_row Multiply q a t v ts h s w y = take_guarded 9 refl (is_target a t v h) y
augmented_row FloorDivide q a t v ts h s w y = take_guarded 10 refl (is_target a t v h) y
augmented_row Modulo q a t v ts h s w y = take_guarded 11 refl (is_target a t v h) y
augmented_row Power q a t v ts h s w y = take_guarded 12 refl (is_target a t v h) y

-- further targets of an assignment, and its value
assigned_derived : (targets : List Targets) (p : Place) (done : List Targets) (e : Expr) (v : Parts) (ts mid rest : List Token)
    → AreAssigned targets ts mid → IsExpr 0 e mid rest
    → Leads (Non ExpressionList ∷ Non AssignTail ∷ []) (PTargets p done ∷ v) ts [] (PStmt (SAssign p (done ++ targets) e) ∷ v) rest
assigned_derived [] p done e v ts mid rest h value s w y = with_tokens h (spelt {e = e} 0 value (take 0 refl (perform (
    with_parts (ap (λ (x : List Targets). PStmt (SAssign p x e) ∷ v) (sym (append-nil done))) y))))
assigned_derived (t ∷ targets) p done e v ts mid rest h value s w y =
    let found : AsTargets t ts (sign h.0 (codes "=") ∷ h.1) = targets_spelt t ts (sign h.0 (codes "=") ∷ h.1) h.2 in
    spelt {e = found.0} 0 found.2 (take_guarded 1 refl (are_targets found.0 t (PTargets p done ∷ v) found.1) (read {t = sign h.0 (codes "=")} refl (perform (
    with_parts (targets_added found.0 t p done (sign h.0 (codes "=")) v found.1)
    (assigned_derived targets p (done ++ t ∷ []) e v h.1 mid rest h.3 value s w
    (with_parts (ap (λ (x : List Targets). PStmt (SAssign p x e) ∷ v) (append_assoc done (t ∷ []) targets)) y))))))

globals_derived : (names : List NameAt) (p : Place) (done : List NameAt) (v : Parts) (ts rest : List Token) → AreGlobals names ts rest
    → Leads (Non AnyName ∷ Do AddGlobal ∷ Non GlobalNext ∷ []) (PStmt (SGlobal p done) ∷ v) ts [] (PStmt (SGlobal p (done ++ names)) ∷ v) rest
globals_derived [] p done v ts rest h s w y = absurd h
globals_derived (x ∷ []) p done v ts rest h s w y = read_name h (perform (take 0 refl y))
globals_derived (x ∷ z ∷ names) p done v ts rest h s w y =
    read_name h.2 (perform (take 1 refl (read {t = sign h.0 (codes ",")} refl (perform (
    globals_derived (z ∷ names) p (done ++ x ∷ []) v h.1 rest h.3 s w
    (with_parts (ap (λ (x : List NameAt). PStmt (SGlobal p x) ∷ v) (append_assoc done (x ∷ []) (z ∷ names))) y))))))

pub small_derived : (t : Stmt) (v : Parts) (ts rest : List Token) → IsSmall t ts rest → Leads (Non Small ∷ []) v ts [] (PStmt t ∷ v) rest
small_derived (SExpr p e) v ts rest h s w y = take 0 refl (spelt {e = e} 0 h.1 (take 0 refl (perform (
    with_parts (ap (λ (x : Place). PStmt (SExpr x e) ∷ v) (same_place (starts 0 e ts rest h.1) h.0)) y))))
small_derived (SAssign p [] e) v ts rest h s w y = absurd h
small_derived (SAssign p (t ∷ targets) e) v ts rest h s w y =
    let more : AreAssigned (t ∷ targets) ts h.1 = h.2 in
    let found : AsTargets t ts (sign more.0 (codes "=") ∷ more.1) = targets_spelt t ts (sign more.0 (codes "=") ∷ more.1) more.2 in
    take 0 refl (spelt {e = found.0} 0 found.2 (take_guarded 1 refl (are_targets found.0 t v found.1) (read {t = sign more.0 (codes "=")} refl (perform (
    with_parts (targets_made found.0 t p (sign more.0 (codes "=")) v found.1 (same_place (starts 0 found.0 ts _ found.2) h.0))
    (assigned_derived targets p (t ∷ []) e v more.1 h.1 rest more.3 h.3 s w y))))))
small_derived (SAugmented p o t e) v ts rest h s w y =
    let found : AsTarget t ts (sign h.1 (augmented_sign o) ∷ h.2) = target_spelt t ts (sign h.1 (augmented_sign o) ∷ h.2) h.3 in
    take 0 refl (spelt {e = found.0} 0 (found.3 0) (augmented_row o h.1 found.0 t v _ found.1 s w (read {t = sign h.1 (augmented_sign o)} refl (
    spelt {e = e} 0 h.4 (perform (
    with_parts (augmented_made o found.0 e t p (sign h.1 (augmented_sign o)) v found.1 (same_place (starts 0 found.0 ts _ (found.3 0)) h.0)) y))))))
small_derived (SPass p) v ts rest h s w y = take 1 refl (read h (perform y))
small_derived (SBreak p) v ts rest h s w y = take 2 refl (read h (perform y))
small_derived (SContinue p) v ts rest h s w y = take 3 refl (read h (perform y))
small_derived (SReturn p no_expr) v ts rest h s w y = take 4 refl (read h (take 0 refl (perform y)))
small_derived (SReturn p (an_expr e)) v ts rest h s w y = take 4 refl (read h.1 (take 1 refl (spelt {e = e} 0 h.2 (perform y))))
small_derived (SRaise p e) v ts rest h s w y = take 5 refl (read h.1 (spelt {e = e} 1 h.2 (perform y)))
small_derived (SYield p e) v ts rest h s w y = take 6 refl (read h.1 (spelt {e = e} 0 h.2 (perform y)))
small_derived (SGlobal p names) v ts rest h s w y = take 7 refl (read h.1 (perform (globals_derived names p [] v h.0 rest h.2 s w y)))
small_derived (SAssert p e no_expr) v ts rest h s w y = take 8 refl (read h.1 (spelt {e = e} 1 h.2 (take 0 refl (perform y))))
small_derived (SAssert p e (an_expr m)) v ts rest h s w y = take 8 refl (read h.3 (spelt {e = e} 1 h.4 (take 1 refl (read {t = sign h.0 (codes ",")} refl (
    spelt {e = m} 1 h.5 (perform y))))))
small_derived (SDelete p q e i) v ts rest h s w y =
    take 9 refl (read h.1 ((everywhere (ESubscript q e i)).1 true _ h.0 rest h.2 _ w (take 0 refl (perform y))))
small_derived t v ts rest h s w y = absurd h
