-- What is built has no unbuilt place, and what has none is built.
use Rattle.std.proofs.Common.{◌≡◌, Bool, true, false, ◌&&◌, if◌then◌else◌, List, [], ◌∷◌, ◌++◌, ◌↔◌, refl, sym, ap, ◌∙◌, subst, Option, Some, None}
use Rattle.std.proofs.lemmas.Option.{none-some, same_Some}
use Rattle.grammars.proofs.Bools as bools
use Rattle.grammars.proofs.Bools.{and_left, and_right}
use Rattle.std.specs.Option.{option_map}
use Rattle.py_tokens.specs.Token.{Place}
use Rattle.py_syntax.specs.Tree as whole
use Rattle.py_meaning.specs.Name.{Name}
use Rattle.py_meaning.specs.Rules.{has_name, reads_only, condition_reads_only, stmt_reads_only, body_reads_only, sure_after, are_reads_sure}
use Rattle.py_meaning.specs.Tree.{Negative, Binary, Comparison, Expr, EName, ENumber, EUnary, EBinary, CCompare, Stmt, SAssign, SPrint, SIf, SWhile, none, more}
use Rattle.py_meaning.specs.Built.{text_at, is_variable, built_binary, built_comparison, all_three, built_expr, built_condition, assigned, printed, built_assignment, built_print, both, built_stmt, built_body, unless_built, unbuilt_expr, unbuilt_first, head_of, unless_compared, unbuilt_condition, unbuilt_assignment, unbuilt_print, unbuilt_stmt, unbuilt_block, with_assigned, sure_behind, unbuilt, NothingUnbuilt}

append_left : (l m : List Place) → l ++ m ≡ [] → l ≡ []
append_left [] m h = refl
append_left (p ∷ l) m h = absurd (cc)

append_right : (l m : List Place) → l ++ m ≡ [] → m ≡ []
append_right [] m h = h
append_right (p ∷ l) m h = absurd (cc)

append_none : (l m : List Place) → l ≡ [] → m ≡ [] → l ++ m ≡ []
append_none l m h k = rw (h, k) refl

-- there are no places just where there is something that reads what it may
abbrev Built : {A : Type 0} → (A → Bool) → Option A → Type 0
Built {A} reads o = (a : A) × (o ≡ Some a) × (reads a ≡ true)

abbrev Agrees : {A : Type 0} → (A → Bool) → List Place → Option A → Type 0
Agrees reads places o = (places ≡ []) ↔ Built reads o

never : {A : Type 0} (reads : A → Bool) (p : Place) (places : List Place) → Agrees reads (p ∷ places) None
never reads p places = (λ h. absurd (cc), λ b. absurd (none-some b.0 b.1))

of_what_reads : {A : Type 0} (reads : A → Bool) (a : A) → Built reads (Some a) → reads a ≡ true
of_what_reads reads a b = rw (same_Some a b.0 b.1) b.2

of_one : {A B : Type 0} (f : A → B) (reads : A → Bool) (reads_more : B → Bool)
    → ((a : A) → reads_more (f a) ≡ reads a)
    → (places : List Place) (o : Option A) → Agrees reads places o → Agrees reads_more places (option_map f o)
of_one f reads reads_more e places None h = (λ k. absurd (none-some ((h.0 k).0) ((h.0 k).1)), λ b. absurd (none-some b.0 b.1))
of_one f reads reads_more e places (Some a) h = (
  λ k. (f a, refl, e a ∙ of_what_reads reads a (h.0 k)),
  λ b. h.1 (a, refl, sym (e a) ∙ of_what_reads reads_more (f a) b),
)

of_two : {A B C : Type 0} (f : A → B → C) (o : Option A) (o2 : Option B) (reads : A → Bool) (reads2 : B → Bool) (reads_more : C → Bool)
    → ((a : A) (b : B) → o ≡ Some a → reads_more (f a b) ≡ (reads a && reads2 b))
    → (l m : List Place) → Agrees reads l o → Agrees reads2 m o2 → Agrees reads_more (l ++ m) (both f o o2)
of_two f None o2 reads reads2 reads_more e l m h h2 = (
  λ k. let b : Built reads None = h.0 (append_left l m k) in absurd (none-some b.0 b.1),
  λ b. absurd (none-some b.0 b.1),
)
of_two f (Some a) None reads reads2 reads_more e l m h h2 = (
  λ k. let b : Built reads2 None = h2.0 (append_right l m k) in absurd (none-some b.0 b.1),
  λ b. absurd (none-some b.0 b.1),
)
of_two f (Some a) (Some b) reads reads2 reads_more e l m h h2 = (
  λ k. (f a b, refl, e a b refl ∙ bools.both (reads a) (reads2 b) (of_what_reads reads a (h.0 (append_left l m k))) (of_what_reads reads2 b (h2.0 (append_right l m k)))),
  λ c.
      let r : (reads a && reads2 b) ≡ true = sym (e a b refl) ∙ of_what_reads reads_more (f a b) c in
      append_none l m (h.1 (a, refl, and_left (reads a) (reads2 b) r)) (h2.1 (b, refl, and_right (reads a) (reads2 b) r)),
)

named : (sure : List Name) (p : Place) (x : Name) (a b : Bool) → has_name sure x ≡ b
    → Agrees (reads_only sure) (if a && b then [] else p ∷ []) (if a then Some (EName p x) else None)
named sure p x true true h = (λ k. (EName p x, refl, h), λ k. refl)
named sure p x true false h = (λ k. absurd (cc), λ b. absurd (clash h (of_what_reads (reads_only sure) (EName p x) b)))
  where
    clash : has_name sure x ≡ false → has_name sure x ≡ true → ⊥
    clash f t = (cc)
named sure p x false b h = never (reads_only sure) p []

two_of_three : {A B C D : Type 0} (f : A → B → C → D) (a : A) (o2 : Option B) (o3 : Option C) → both (f a) o2 o3 ≡ all_three f (Some a) o2 o3
two_of_three f a None o3 = refl
two_of_three f a (Some b) None = refl
two_of_three f a (Some b) (Some c) = refl

three_as_two : {A B C D : Type 0} (f : A → B → C → D) (o : Option A) (o2 : Option B) (o3 : Option C)
    → both (λ a (q : B × C). f a q.0 q.1) o (both (λ (b : B) (c : C). (b, c)) o2 o3) ≡ all_three f o o2 o3
three_as_two f None o2 o3 = refl
three_as_two f (Some a) None o3 = refl
three_as_two f (Some a) (Some b) None = refl
three_as_two f (Some a) (Some b) (Some c) = refl

of_three : {A B C D : Type 0} (f : A → B → C → D) (o : Option A) (o2 : Option B) (o3 : Option C)
    (reads : A → Bool) (reads2 : B → Bool) (reads3 : C → Bool) (reads_more : D → Bool)
    → ((a : A) (b : B) (c : C) → reads_more (f a b c) ≡ (reads a && (reads2 b && reads3 c)))
    → (l m n : List Place) → Agrees reads l o → Agrees reads2 m o2 → Agrees reads3 n o3 → Agrees reads_more (l ++ (m ++ n)) (all_three f o o2 o3)
of_three {A} {B} {C} {D} f o o2 o3 reads reads2 reads3 reads_more e l m n h h2 h3 =
    let pairs : Option (B × C) = both (λ (b : B) (c : C). (b, c)) o2 o3 in
    let reads_pair : B × C → Bool = λ q. reads2 q.0 && reads3 q.1 in
    let h23 : Agrees reads_pair (m ++ n) pairs = of_two (λ (b : B) (c : C). (b, c)) o2 o3 reads2 reads3 reads_pair (λ b c k. refl) m n h2 h3 in
    subst (λ (d : Option D). Agrees reads_more (l ++ (m ++ n)) d) (three_as_two f o o2 o3) (of_two (λ a q. f a q.0 q.1) o pairs reads reads_pair reads_more (λ a q k. e a q.0 q.1) l (m ++ n) h h23)

-- an operator before a value, and one between two
after_unary : (texts sure : List Name) (p : Place) (u : whole.UnaryOperator) (e : whole.Expr) → Agrees (reads_only sure) (unbuilt_expr texts sure e) (built_expr texts e)
    → Agrees (reads_only sure) (unbuilt_expr texts sure (whole.EUnary p u e)) (built_expr texts (whole.EUnary p u e))
after_unary texts sure p whole.Negative e h =
    of_one (EUnary p Negative) (reads_only sure) (reads_only sure) (λ a. refl) (unbuilt_expr texts sure e) (built_expr texts e) h
after_unary texts sure p _ e h = never (reads_only sure) p []

between : {O C : Type 0} (sure : List Name) (f : O → Expr → Expr → C) (reads_more : C → Bool)
    → ((u : O) (a b : Expr) → reads_more (f u a b) ≡ (reads_only sure a && reads_only sure b))
    → (u : O) (l m : List Place) (o o2 : Option Expr) → Agrees (reads_only sure) l o → Agrees (reads_only sure) m o2 → Agrees reads_more (l ++ m) (all_three f (Some u) o o2)
between {O} {C} sure f reads_more e u l m o o2 h h2 =
    subst (λ (c : Option C). Agrees reads_more (l ++ m) c) (two_of_three f u o o2) (of_two (f u) o o2 (reads_only sure) (reads_only sure) reads_more (λ a b k. e u a b) l m h h2)

joined : (sure : List Name) (p : Place) (u : Option Binary) (l m : List Place) (o o2 : Option Expr)
    → Agrees (reads_only sure) l o → Agrees (reads_only sure) m o2 → Agrees (reads_only sure) (unless_built p u l m) (all_three (EBinary p) u o o2)
joined sure p None l m o o2 h h2 = never (reads_only sure) p l
joined sure p (Some u) l m o o2 h h2 = between sure (EBinary p) (reads_only sure) (λ u a b. refl) u l m o o2 h h2

compared : (sure : List Name) (p : Place) (u : Option Comparison) (l m : List Place) (o o2 : Option Expr)
    → Agrees (reads_only sure) l o → Agrees (reads_only sure) m o2 → Agrees (condition_reads_only sure) (unless_compared p u l m) (all_three (CCompare p) u o o2)
compared sure p None l m o o2 h h2 = never (condition_reads_only sure) p l
compared sure p (Some u) l m o o2 h h2 = between sure (CCompare p) (condition_reads_only sure) (λ u a b. refl) u l m o o2 h h2

expr : (texts sure : List Name) (e : whole.Expr) → Agrees (reads_only sure) (unbuilt_expr texts sure e) (built_expr texts e)
expr texts sure (whole.EName p x) = named sure p (text_at texts x) (is_variable (text_at texts x)) (has_name sure (text_at texts x)) refl
expr texts sure (whole.ENumber p n) = (λ k. (ENumber p n, refl, refl), λ k. refl)
expr texts sure (whole.EUnary p u e) = after_unary texts sure p u e (expr texts sure e)
expr texts sure (whole.EBinary p o a b) =
    joined sure p (built_binary o) (unbuilt_expr texts sure a) (unbuilt_expr texts sure b) (built_expr texts a) (built_expr texts b) (expr texts sure a) (expr texts sure b)
expr texts sure (whole.ETuple p es) = never (reads_only sure) p (unbuilt_first texts sure es)
expr texts sure (whole.EAttribute p e x) = never (reads_only sure) p (unbuilt_expr texts sure e)
expr texts sure (whole.ECall p e es ks) = never (reads_only sure) p (unbuilt_expr texts sure e)
expr texts sure (whole.ESubscript p e i) = never (reads_only sure) p (unbuilt_expr texts sure e)
expr texts sure (whole.ESlice p e l u) = never (reads_only sure) p (unbuilt_expr texts sure e)
expr texts sure (whole.ECompare p o a b links) = never (reads_only sure) p (unbuilt_expr texts sure a)
expr texts sure (whole.EAnd p a b es) = never (reads_only sure) p (unbuilt_expr texts sure a)
expr texts sure (whole.EOr p a b es) = never (reads_only sure) p (unbuilt_expr texts sure a)
expr texts sure (whole.EConditional p a t b) = never (reads_only sure) p (unbuilt_expr texts sure a)
expr texts sure _ = never (reads_only sure) _ []

condition : (texts sure : List Name) (e : whole.Expr) → Agrees (condition_reads_only sure) (unbuilt_condition texts sure e) (built_condition texts e)
condition texts sure (whole.ECompare p u a b whole.no_links) =
    compared sure p (built_comparison u) (unbuilt_expr texts sure a) (unbuilt_expr texts sure b) (built_expr texts a) (built_expr texts b) (expr texts sure a) (expr texts sure b)
condition texts sure (whole.ECompare p u a b (whole.more_links q v c links)) = never (condition_reads_only sure) p (p ∷ unbuilt_expr texts sure a)
condition texts sure e = never (condition_reads_only sure) (head_of e) (unbuilt_expr texts sure e)

assignment : (texts sure : List Name) (p : Place) (x : Option Name) (e : whole.Expr)
    → Agrees (stmt_reads_only sure) (unbuilt_assignment texts sure p x e) (built_assignment texts p x e)
assignment texts sure p None e = never (stmt_reads_only sure) p []
assignment texts sure p (Some x) e =
    of_one (SAssign p x) (reads_only sure) (stmt_reads_only sure) (λ a. refl) (unbuilt_expr texts sure e) (built_expr texts e) (expr texts sure e)

print : (texts sure : List Name) (p : Place) (call : Option (Place × whole.Expr))
    → Agrees (stmt_reads_only sure) (unbuilt_print texts sure p call) (built_print texts p call)
print texts sure p None = never (stmt_reads_only sure) p []
print texts sure p (Some call) =
    of_one (SPrint p call.0) (reads_only sure) (stmt_reads_only sure) (λ a. refl) (unbuilt_expr texts sure call.1) (built_expr texts call.1) (expr texts sure call.1)

mutual
  stmt : (texts sure : List Name) (s : whole.Stmt) → Agrees (stmt_reads_only sure) (unbuilt_stmt texts sure s) (built_stmt texts s)
  stmt texts sure (whole.SAssign p targets e) = assignment texts sure p (assigned texts targets) e
  stmt texts sure (whole.SExpr p e) = print texts sure p (printed texts e)
  stmt texts sure (whole.SIf p e body other) =
      of_three
      (SIf p)
      (built_condition texts e)
      (built_body texts body)
      (built_body texts other)
      (condition_reads_only sure)
      (body_reads_only sure)
      (body_reads_only sure)
      (stmt_reads_only sure)
      (λ c b d. refl)
      (unbuilt_condition texts sure e)
      (unbuilt_block texts sure body)
      (unbuilt_block texts sure other)
      (condition texts sure e)
      (block texts sure body)
      (block texts sure other)
  stmt texts sure (whole.SWhile p e body) =
      of_two
      (SWhile p)
      (built_condition texts e)
      (built_body texts body)
      (condition_reads_only sure)
      (body_reads_only sure)
      (stmt_reads_only sure)
      (λ c b k. refl)
      (unbuilt_condition texts sure e)
      (unbuilt_block texts sure body)
      (condition texts sure e)
      (block texts sure body)
  stmt texts sure _ = never (stmt_reads_only sure) _ []

  block : (texts sure : List Name) (body : whole.Body) → Agrees (body_reads_only sure) (unbuilt_block texts sure body) (built_body texts body)
  block texts sure whole.no_stmts = (λ k. (none, refl, refl), λ k. refl)
  block texts sure (whole.more_stmts s body) =
      of_two
      more
      (built_stmt texts s)
      (built_body texts body)
      (stmt_reads_only sure)
      (body_reads_only sure)
      (body_reads_only sure)
      (λ t b k. refl)
      (unbuilt_stmt texts sure s)
      (unbuilt_block texts sure body)
      (stmt texts sure s)
      (block texts sure body)

-- what something that was built of parts is
made_of_one : {A B : Type 0} (f : A → B) (o : Option A) (b : B) → option_map f o ≡ Some b → (a : A) × (b ≡ f a)
made_of_one f None b h = absurd (none-some b h)
made_of_one f (Some a) b h = (a, same_Some b (f a) (sym h))

made_of_two : {A B C : Type 0} (f : A → B → C) (o : Option A) (o2 : Option B) (c : C) → both f o o2 ≡ Some c → (a : A) × (b : B) × (c ≡ f a b)
made_of_two f None o2 c h = absurd (none-some c h)
made_of_two f (Some a) None c h = absurd (none-some c h)
made_of_two f (Some a) (Some b) c h = (a, b, same_Some c (f a b) (sym h))

made_of_three : {A B C D : Type 0} (f : A → B → C → D) (o : Option A) (o2 : Option B) (o3 : Option C) (d : D)
    → all_three f o o2 o3 ≡ Some d → (a : A) × (b : B) × (c : C) × (d ≡ f a b c)
made_of_three f None o2 o3 d h = absurd (none-some d h)
made_of_three f (Some a) None o3 d h = absurd (none-some d h)
made_of_three f (Some a) (Some b) None d h = absurd (none-some d h)
made_of_three f (Some a) (Some b) (Some c) d h = (a, b, c, same_Some d (f a b c) (sym h))

-- the names that are sure behind a statement are those behind what it is built as
sure_of_assignment : (texts sure : List Name) (p : Place) (x : Option Name) (e : whole.Expr) (t : Stmt)
    → built_assignment texts p x e ≡ Some t → sure_after t sure ≡ with_assigned x sure
sure_of_assignment texts sure p None e t h = absurd (none-some t h)
sure_of_assignment texts sure p (Some x) e t h = rw (made_of_one (SAssign p x) (built_expr texts e) t h).1 refl

sure_of_print : (texts sure : List Name) (p : Place) (call : Option (Place × whole.Expr)) (t : Stmt)
    → built_print texts p call ≡ Some t → sure_after t sure ≡ sure
sure_of_print texts sure p None t h = absurd (none-some t h)
sure_of_print texts sure p (Some call) t h = rw (made_of_one (SPrint p call.0) (built_expr texts call.1) t h).1 refl

sure_alike : (texts sure : List Name) (s : whole.Stmt) (t : Stmt) → built_stmt texts s ≡ Some t → sure_after t sure ≡ sure_behind texts s sure
sure_alike texts sure (whole.SAssign p targets e) t h = sure_of_assignment texts sure p (assigned texts targets) e t h
sure_alike texts sure (whole.SExpr p e) t h = sure_of_print texts sure p (printed texts e) t h
sure_alike texts sure (whole.SIf p e body other) t h =
    rw (made_of_three (SIf p) (built_condition texts e) (built_body texts body) (built_body texts other) t h).3 refl
sure_alike texts sure (whole.SWhile p e body) t h = rw (made_of_two (SWhile p) (built_condition texts e) (built_body texts body) t h).2 refl
sure_alike texts sure _ t h = absurd (none-some t h)

body_agrees : (texts sure : List Name) (tree : whole.Body) → Agrees (are_reads_sure sure) (unbuilt texts sure tree) (built_body texts tree)
body_agrees texts sure whole.no_stmts = (λ k. (none, refl, refl), λ k. refl)
body_agrees texts sure (whole.more_stmts s body) =
    of_two
    more
    (built_stmt texts s)
    (built_body texts body)
    (stmt_reads_only sure)
    (are_reads_sure (sure_behind texts s sure))
    (are_reads_sure sure)
    (λ t b k. ap (λ (names : List Name). stmt_reads_only sure t && are_reads_sure names b) (sure_alike texts sure s t k))
    (unbuilt_stmt texts sure s)
    (unbuilt texts (sure_behind texts s sure) body)
    (stmt texts sure s)
    (body_agrees texts (sure_behind texts s sure) body)

pub nothing_unbuilt : NothingUnbuilt
nothing_unbuilt texts tree = body_agrees texts [] tree
