-- Heights and depths are of the same shape: no node has more above it than the height tells, and one has as many.
use Rattle.std.proofs.Common.{◌≡◌, ℕ, zero, suc, ◌≤◌, max, Bool, true, false, List, [], ◌∷◌, ◌⊎◌, inl, inr, arith, refl, ap, eq-eqb}
use Rattle.py_tokens.specs.Token.{Place}
use Rattle.py_syntax.specs.Tree.{NameAt, LoopTarget, LoopName, LoopNames, LoopParenthesis, Expr, EName, ENumber, EText, ETrue, EFalse, ENone, EParenthesis, EEmptyTuple, ETuple, EList, EListComprehension, EDict, ESet, EAttribute, ECall, ESubscript, ESlice, EUnary, EBinary, ECompare, ENot, EAnd, EOr, EConditional, Exprs, no_exprs, more_exprs, MaybeExpr, no_expr, an_expr, Pairs, no_pairs, more_pairs, Links, no_links, more_links, Keywords, no_keywords, more_keywords, Loops, no_loops, more_loops, Target, TargetName, TargetAttribute, TargetSubscript, Targets, OneTarget, SomeTargets, ParenthesisTargets, BracketTargets, Parameter, Stmt, SExpr, SAssign, SAugmented, SPass, SBreak, SContinue, SReturn, SRaise, SYield, SGlobal, SAssert, SDelete, SIf, SWhile, SFor, STry, SDef, SClass, SImport, SFromImport, Body, no_stmts, more_stmts, Handlers, no_handlers, more_handlers}
use Rattle.py_syntax.specs.Heights.{loop_target_height, expr_height, exprs_height, maybe_height, pairs_height, links_height, keywords_height, loops_height, target_height, target_list_height, targets_height, assigned_height, parameters_height, stmt_height, body_height, handlers_height}
use Rattle.py_nesting.specs.Depths.{here, up, under, names_depth, loop_target_depth, expr_depth, exprs_depth, maybe_depth, pairs_depth, links_depth, keywords_depth, loops_depth, target_depth, target_list_depth, targets_depth, assigned_depth, parameters_depth, stmt_depth, body_depth, handlers_depth}
use Rattle.py_nesting.specs.TooDeep.{same_place}

-- the height is the greatest depth of a place
abbrev pub Fits : ℕ → ((Place → Bool) → ℕ) → Type 0
Fits h D = ((at : Place → Bool) → D at ≤ h) × ((h ≡ 0) ⊎ ((p : Place) × (h ≤ D (same_place p))))

fits_nothing : Fits 0 (λ at. 0)
fits_nothing = (λ at. omega arith, inl refl)

here_low : (b : Bool) → here b ≤ 1
here_low true = omega arith
here_low false = omega arith

pub itself : (p : Place) → same_place p p ≡ true
itself p = rw (eq-eqb p.«module» p.«module» refl, eq-eqb p.line p.line refl, eq-eqb p.column p.column refl) refl

here_itself : (p : Place) → here (same_place p p) ≡ 1
here_itself p = ap here (itself p)

fits_leaf : (p : Place) → Fits 1 (λ at. here (at p))
fits_leaf p = (λ at. here_low (at p), inr (p, (let e = here_itself p in omega arith)))

up_low : (n : ℕ) → up n ≤ suc n
up_low zero = omega arith
up_low (suc n) = omega arith

under_low : (b : Bool) (n m : ℕ) → n ≤ m → under b n ≤ suc m
under_low b n m h = let a = here_low b in let c = up_low n in omega arith

up_high : (n m : ℕ) → suc m ≤ n → suc (suc m) ≤ up n
up_high zero m h = absurd (omega arith)
up_high (suc n) m h = omega arith

fits_node : {h : ℕ} {D : (Place → Bool) → ℕ} (q : Place) → Fits h D → Fits (suc h) (λ at. under (at q) (D at))
fits_node {h} {D} q f = (λ at. under_low (at q) (D at) h (f.0 at), inr (peak h f.1))
  where
    peak : (k : ℕ) → ((k ≡ 0) ⊎ ((p : Place) × (k ≤ D (same_place p)))) → (p : Place) × (suc k ≤ under (same_place p q) (D (same_place p)))
    peak zero e = (q, (let e = here_itself q in omega arith))
    peak (suc k) (inl e) = absurd (omega arith)
    peak (suc k) (inr p) = (p.0, (let e = up_high (D (same_place p.0)) k p.1 in omega arith))

pub low_or_high : (h k : ℕ) → (h ≤ k) ⊎ (suc k ≤ h)
low_or_high zero k = inl (omega arith)
low_or_high (suc h) zero = inr (omega arith)
low_or_high (suc h) (suc k) = next (low_or_high h k)
  where
    next : ((h ≤ k) ⊎ (suc k ≤ h)) → (suc h ≤ suc k) ⊎ (suc (suc k) ≤ suc h)
    next (inl l) = inl (omega arith)
    next (inr l) = inr (omega arith)

fits_max : {h k : ℕ} {D E : (Place → Bool) → ℕ} → Fits h D → Fits k E → Fits (max h k) (λ at. max (D at) (E at))
fits_max {h} {k} {D} {E} f g = (λ at. (let a = f.0 at in let b = g.0 at in omega arith), peak f.1 g.1)
  where
    peak : ((h ≡ 0) ⊎ ((p : Place) × (h ≤ D (same_place p)))) → ((k ≡ 0) ⊎ ((p : Place) × (k ≤ E (same_place p))))
        → (max h k ≡ 0) ⊎ ((p : Place) × (max h k ≤ max (D (same_place p)) (E (same_place p))))
    peak (inl a) (inl b) = inl (omega arith)
    peak (inl a) (inr q) = inr (q.0, (let b = q.1 in omega arith))
    peak (inr p) (inl b) = inr (p.0, (let a = p.1 in omega arith))
    peak (inr p) (inr q) = higher (low_or_high h k)
      where
        higher : ((h ≤ k) ⊎ (suc k ≤ h)) → (max h k ≡ 0) ⊎ ((p : Place) × (max h k ≤ max (D (same_place p)) (E (same_place p))))
        higher (inl l) = inr (q.0, (let b = q.1 in omega arith))
        higher (inr l) = inr (p.0, (let a = p.1 in omega arith))

fits_names : (p : Place) (xs : List NameAt) → Fits 1 (λ at. names_depth at p xs)
fits_names p [] = fits_leaf p
fits_names p (x ∷ []) = fits_leaf x.place
fits_names p (x ∷ y ∷ xs) = fits_max (fits_leaf x.place) (fits_names p (y ∷ xs))

fits_loop_target : (e : LoopTarget) → Fits (loop_target_height e) (λ at. loop_target_depth at e)
fits_loop_target (LoopName x) = fits_leaf x.place
fits_loop_target (LoopNames p xs) = fits_names p xs
fits_loop_target (LoopParenthesis p t) = fits_node p (fits_loop_target t)

mutual
  fits_expr : (e : Expr) → Fits (expr_height e) (λ at. expr_depth at e)
  fits_expr (EName p x) = fits_leaf p
  fits_expr (ENumber p n) = fits_leaf p
  fits_expr (EText p t) = fits_leaf p
  fits_expr (ETrue p) = fits_leaf p
  fits_expr (EFalse p) = fits_leaf p
  fits_expr (ENone p) = fits_leaf p
  fits_expr (EParenthesis p e) = fits_node p (fits_expr e)
  fits_expr (EEmptyTuple p) = fits_leaf p
  fits_expr (ETuple p es) = fits_node p (fits_exprs es)
  fits_expr (EList p c es) = fits_node p (fits_exprs es)
  fits_expr (EListComprehension p e loops) = fits_node p (fits_max (fits_expr e) (fits_loops loops))
  fits_expr (EDict p pairs) = fits_node p (fits_pairs pairs)
  fits_expr (ESet p es) = fits_node p (fits_exprs es)
  fits_expr (EAttribute p e x) = fits_node p (fits_expr e)
  fits_expr (ECall p e es ks) = fits_node p (fits_max (fits_max (fits_expr e) (fits_exprs es)) (fits_keywords ks))
  fits_expr (ESubscript p e i) = fits_node p (fits_max (fits_expr e) (fits_expr i))
  fits_expr (ESlice p e l u) = fits_node p (fits_max (fits_max (fits_expr e) (fits_maybe l)) (fits_maybe u))
  fits_expr (EUnary p o e) = fits_node p (fits_expr e)
  fits_expr (EBinary p o a b) = fits_node p (fits_max (fits_expr a) (fits_expr b))
  fits_expr (ECompare p o a b links) = fits_node p (fits_max (fits_max (fits_expr a) (fits_expr b)) (fits_links links))
  fits_expr (ENot p e) = fits_node p (fits_expr e)
  fits_expr (EAnd p a b es) = fits_node p (fits_max (fits_max (fits_expr a) (fits_expr b)) (fits_exprs es))
  fits_expr (EOr p a b es) = fits_node p (fits_max (fits_max (fits_expr a) (fits_expr b)) (fits_exprs es))
  fits_expr (EConditional p a t b) = fits_node p (fits_max (fits_max (fits_expr a) (fits_expr t)) (fits_expr b))

  fits_exprs : (e : Exprs) → Fits (exprs_height e) (λ at. exprs_depth at e)
  fits_exprs no_exprs = fits_nothing
  fits_exprs (more_exprs e es) = fits_max (fits_expr e) (fits_exprs es)

  fits_maybe : (e : MaybeExpr) → Fits (maybe_height e) (λ at. maybe_depth at e)
  fits_maybe no_expr = fits_nothing
  fits_maybe (an_expr e) = fits_expr e

  fits_pairs : (e : Pairs) → Fits (pairs_height e) (λ at. pairs_depth at e)
  fits_pairs no_pairs = fits_nothing
  fits_pairs (more_pairs k e pairs) = fits_max (fits_max (fits_expr k) (fits_expr e)) (fits_pairs pairs)

  fits_links : (e : Links) → Fits (links_height e) (λ at. links_depth at e)
  fits_links no_links = fits_nothing
  fits_links (more_links p o e links) = fits_max (fits_expr e) (fits_links links)

  fits_keywords : (e : Keywords) → Fits (keywords_height e) (λ at. keywords_depth at e)
  fits_keywords no_keywords = fits_nothing
  fits_keywords (more_keywords x e ks) = fits_max (fits_expr e) (fits_keywords ks)

  fits_loops : (e : Loops) → Fits (loops_height e) (λ at. loops_depth at e)
  fits_loops no_loops = fits_nothing
  fits_loops (more_loops p t i cs loops) = fits_max (fits_max (fits_max (fits_loop_target t) (fits_expr i)) (fits_exprs cs)) (fits_loops loops)

fits_target : (e : Target) → Fits (target_height e) (λ at. target_depth at e)
fits_target (TargetName x) = fits_leaf x.place
fits_target (TargetAttribute p e x) = fits_node p (fits_expr e)
fits_target (TargetSubscript p e i) = fits_node p (fits_max (fits_expr e) (fits_expr i))

fits_target_list : (e : List Target) → Fits (target_list_height e) (λ at. target_list_depth at e)
fits_target_list [] = fits_nothing
fits_target_list (t ∷ targets) = fits_max (fits_target t) (fits_target_list targets)

fits_targets : (e : Targets) → Fits (targets_height e) (λ at. targets_depth at e)
fits_targets (OneTarget t) = fits_target t
fits_targets (SomeTargets p targets) = fits_target_list targets
fits_targets (ParenthesisTargets p t) = fits_node p (fits_targets t)
fits_targets (BracketTargets p t) = fits_node p (fits_targets t)

fits_assigned : (e : List Targets) → Fits (assigned_height e) (λ at. assigned_depth at e)
fits_assigned [] = fits_nothing
fits_assigned (t ∷ targets) = fits_max (fits_targets t) (fits_assigned targets)

fits_parameters : (e : List Parameter) → Fits (parameters_height e) (λ at. parameters_depth at e)
fits_parameters [] = fits_nothing
fits_parameters (x ∷ parameters) = fits_max (fits_maybe x.default) (fits_parameters parameters)

mutual
  fits_stmt : (e : Stmt) → Fits (stmt_height e) (λ at. stmt_depth at e)
  fits_stmt (SExpr p e) = fits_node p (fits_expr e)
  fits_stmt (SAssign p targets e) = fits_node p (fits_max (fits_assigned targets) (fits_expr e))
  fits_stmt (SAugmented p o t e) = fits_node p (fits_max (fits_target t) (fits_expr e))
  fits_stmt (SPass p) = fits_leaf p
  fits_stmt (SBreak p) = fits_leaf p
  fits_stmt (SContinue p) = fits_leaf p
  fits_stmt (SReturn p e) = fits_node p (fits_maybe e)
  fits_stmt (SRaise p e) = fits_node p (fits_expr e)
  fits_stmt (SYield p e) = fits_node p (fits_expr e)
  fits_stmt (SGlobal p names) = fits_leaf p
  fits_stmt (SAssert p e m) = fits_node p (fits_max (fits_expr e) (fits_maybe m))
  fits_stmt (SDelete p q e i) = fits_node p (fits_node q (fits_max (fits_expr e) (fits_expr i)))
  fits_stmt (SIf p e body other) = fits_node p (fits_max (fits_max (fits_expr e) (fits_body body)) (fits_body other))
  fits_stmt (SWhile p e body) = fits_node p (fits_max (fits_expr e) (fits_body body))
  fits_stmt (SFor p t e body) = fits_node p (fits_max (fits_max (fits_loop_target t) (fits_expr e)) (fits_body body))
  fits_stmt (STry p body handlers) = fits_node p (fits_max (fits_body body) (fits_handlers handlers))
  fits_stmt (SDef p x parameters body) = fits_node p (fits_max (fits_parameters parameters) (fits_body body))
  fits_stmt (SClass p x base body) = fits_node p (fits_body body)
  fits_stmt (SImport p modules) = fits_leaf p
  fits_stmt (SFromImport p m names) = fits_leaf p

  pub fits_body : (e : Body) → Fits (body_height e) (λ at. body_depth at e)
  fits_body no_stmts = fits_nothing
  fits_body (more_stmts s body) = fits_max (fits_stmt s) (fits_body body)

  fits_handlers : (e : Handlers) → Fits (handlers_height e) (λ at. handlers_depth at e)
  fits_handlers no_handlers = fits_nothing
  fits_handlers (more_handlers p c body handlers) = fits_max (fits_body body) (fits_handlers handlers)
