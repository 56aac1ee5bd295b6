-- The emission runs as its source does, and both end Done or go on.
use Rattle.std.proofs.Common.{◌≡◌, ℕ, zero, suc, ◌≤◌, ℤ, List, [], ◌∷◌, ◌++◌, Bool, true, false, Some, None, refl, sym, ap, ◌∙◌, subst, append_assoc, arith}
use Rattle.std.proofs.lemmas.List.{append-nil}
use Rattle.std.specs.Prelude.{◌||◌, if◌then◌else◌}
use Rattle.std.specs.Str.{bytes_eq}
use Rattle.runs.specs.Number.{decimal_of}
use Rattle.runs.specs.Run.{Ending, Done, Raised, GoingOn, Wrong, Undefined, Goes, Ticks, Gives, ComesTo}
use Rattle.runs.specs.FiniteMap.{Map, nothing, put}
use Rattle.runs.proofs.FiniteMaps.{put_same, put_other}
use Rattle.runs.proofs.Simulation.{Leads, leads_stay, leads_on, leads_step, waits, ticks_on}
use Rattle.py_meaning.specs.Name.{Name, same_name}
use Rattle.py_tokens.specs.Token.{Place}
use Rattle.py_meaning.specs.Tree.{Expr, Condition, Stmt as SourceStmt, SAssign, SPrint, SIf, SWhile, Body, none as nothing_left, more as and_then}
use Rattle.py_meaning.specs.Rules.{has_name, reads_only, condition_reads_only, stmt_reads_only, body_reads_only, sure_after, are_reads_sure}
use Rattle.py_meaning.specs.Binding.{targets_of, targets, names_bound}
use Rattle.py_meaning.specs.Value.{Value, VBool, VInt}
use Rattle.py_meaning.specs.Program.{Module, Program as Source, Global, In, same_global}
use Rattle.py_meaning.specs.Machine.{Item, Run, Do, Evaluate, Test, Bind, Show, Branch, Turn, Repeat, Context, Looping, Moment as SourceMoment, machine as source_machine, start as source_start}
use Rattle.cpp_meaning.specs.Tree.{Identifier, same_identifier, Int32, Text, NullPointer, Expr as CppExpr, Named, Literal, TextOf, Write, Operand, CallRow, Declare, Assign, Perform, While, Block, none, more, Body as BodyDefinition, Main, Program, sources_of}
use Rattle.cpp_meaning.specs.Typing.{Types, inner_first, in_scope, type_of, global_types}
use Rattle.cpp_meaning.specs.Machine.{Cells, Word, Characters, Null, word_of, held, truth_word, is_true, evaluate, Moment, Here, go, store, with_written, after_writing, row_cell, row_writes, machine, block_in, first_cells, started, start}
use Rattle.shed_meaning.specs.EmittedName.{global_name, body_name}
use Rattle.shed_meaning.specs.Layout.{variables}
use Rattle.cpp_emit.specs.Emit.{emit_expr, emit_condition, printed, emit_if, emit_stmt, emit_body, stmt_prints, prints, emit_block, emit}
use Rattle.cpp_emit.proofs.NamesApart.{same_self, same_globals, other_globals, temporary_apart}
use Rattle.grammars.proofs.Bools.{and_left, and_right, on_right}
use Rattle.cpp_emit.proofs.WellTyped.{no_name, Knows, emitted_type, knows_front, knows_back, knows_after, if_left, if_right, chosen, globals_known, one_main}
use Rattle.cpp_emit.proofs.Evaluation.{one_module, source_at, Agree, evaluates, tests}

-- a moment of the run of the emission
abbrev target_at : Types → List Block → Cells → Cells → List ℕ → List ℕ → Moment
target_at types blocks locals globals input output =
    record {
      frames = record { control = blocks; types = types; cells = locals } ∷ [];
      world = record { globals = globals; input = input; output = output };
    }

abbrev target_here : Types → List Block → Cells → Cells → List ℕ → List ℕ → Here
target_here types blocks locals globals input output =
    record {
      frame = record { control = blocks; types = types; cells = locals };
      below = [];
      world = record { globals = globals; input = input; output = output };
    }

-- the cells that are seen from the body
abbrev seen : Cells → Cells → Cells
seen locals globals x = inner_first (locals x) (globals x)

-- no local hides a global of the source
abbrev Hides : {V : Type 0} → Map Identifier V → Type 0
Hides locals = (x : Name) → locals (global_name 0 x) ≡ None

agree_or : (x : Name) (z : ℤ) (assigned : List Name) (globals : Map Global Value) (cells : Cells) → Agree assigned globals cells → (y : Name) (same : Bool) → same_name x y ≡ same → (same || has_name assigned y) ≡ true → (k : ℤ) × (put same_global globals (In 0 x) (VInt z) (In 0 y) ≡ Some (VInt k)) × (put same_identifier cells (global_name 0 x) (Word z) (global_name 0 y) ≡ Some (Word k))
agree_or x z assigned globals cells agree y true is either = (
  z,
  put_same same_global globals (In 0 x) (In 0 y) (VInt z) is,
  put_same same_identifier cells (global_name 0 x) (global_name 0 y) (Word z)
      (subst (λ i. bytes_eq (global_name 0 x) i ≡ true) (same_globals 0 x y is) (same_self (global_name 0 x))),
)
agree_or x z assigned globals cells agree y false is either =
    let a = agree y either in (
      a.0,
      put_other same_global globals (In 0 x) (In 0 y) (VInt z) is ∙ a.1,
      put_other same_identifier cells (global_name 0 x) (global_name 0 y) (Word z) (other_globals 0 x y is) ∙ a.2,
    )

-- after an assignment of the same number
agree_more : (x : Name) (z : ℤ) (assigned : List Name) (globals : Map Global Value) (cells : Cells) → Agree assigned globals cells → Agree (x ∷ assigned) (put same_global globals (In 0 x) (VInt z)) (put same_identifier cells (global_name 0 x) (Word z))
agree_more x z assigned globals cells agree y either = agree_or x z assigned globals cells agree y (same_name x y) refl either

agree_seen : (assigned : List Name) (globals : Map Global Value) (locals cells : Cells) → Hides locals → Agree assigned globals cells → Agree assigned globals (seen locals cells)
agree_seen assigned globals locals cells hides agree x h =
    let a = agree x h in
    (a.0, a.1, ap (λ o. inner_first o (cells (global_name 0 x))) (hides x) ∙ a.2)

-- how the runs end
abbrev pub IsFine : Ending → Type 0
IsFine Done = Unit {0}
IsFine (Raised class message) = ⊥
IsFine GoingOn = Unit {0}
IsFine Wrong = ⊥
IsFine Undefined = ⊥

-- both runs come to one output and one ending
abbrev pub Both : Source → Program → ℕ → SourceMoment → Moment → Type 0
Both P C n s t = (out : List ℕ) × (e : Ending) × IsFine e × ComesTo (source_machine P) n s (Gives out e) × ComesTo (machine C) n t (Gives out e)

both_from : (P : Source) (C : Program) (n : ℕ) (s s' : SourceMoment) (t t' : Moment) → Leads (source_machine P) s s' → Leads (machine C) t t' → Both P C n s' t' → Both P C n s t
both_from P C n s s' t t' left right b = (b.0, b.1, b.2, left n (Gives b.0 b.1) b.3, right n (Gives b.0 b.1) b.4)

-- both are about to take a tick: they wait, or go on with one tick less
both_wait : (P : Source) (C : Program) (s s' : SourceMoment) (t t' : Moment) (out : List ℕ) → (source_machine P).step s ≡ Ticks s' → (source_machine P).output s ≡ out → (machine C).step t ≡ Ticks t' → (machine C).output t ≡ out → Both P C 0 s t
both_wait P C s s' t t' out left same right so = (out, GoingOn, tt, waits (source_machine P) s s' out left same, waits (machine C) t t' out right so)

both_tick : (P : Source) (C : Program) (n : ℕ) (s s' : SourceMoment) (t t' : Moment) → (source_machine P).step s ≡ Ticks s' → (machine C).step t ≡ Ticks t' → Both P C n s' t' → Both P C (suc n) s t
both_tick P C n s s' t t' left right b =
    (b.0, b.1, b.2, ticks_on (source_machine P) n s s' (Gives b.0 b.1) left b.3, ticks_on (machine C) n t t' (Gives b.0 b.1) right b.4)

agree_fewer : (s : SourceStmt) (assigned : List Name) (globals : Map Global Value) (cells : Cells) → Agree (sure_after s assigned) globals cells → Agree assigned globals cells
agree_fewer (SAssign p x e) assigned globals cells agree y h = agree y (on_right (same_name x y) (has_name assigned y) h)
agree_fewer (SPrint p c e) assigned globals cells agree y h = agree y h
agree_fewer (SIf p c body other) assigned globals cells agree y h = agree y h
agree_fewer (SWhile p c body) assigned globals cells agree y h = agree y h

-- the block that a test picks, where it is told by a word
picked : (b : Bool) (z : ℤ) (yonder other : Block) → z ≡ truth_word b → (if is_true z then yonder else other) ≡ (if b then yonder else other)
picked true z yonder other e = ap (λ (w : ℤ). if is_true w then yonder else other) e
picked false z yonder other e = ap (λ (w : ℤ). if is_true w then yonder else other) e

module _ (main : Module) (C : Program) (locals_types : Types) (hidden : Hides locals_types) (input : List ℕ) where
  abbrev types : Types
  types = in_scope locals_types (global_types C)

  -- what an assignment of the emission leads to
  assign_step : (x : Name) (e : CppExpr) (rest : Block) (blocks : List Block) (z : ℤ) (locals cells : Cells) (output : List ℕ) → evaluate types (seen locals cells) e ≡ Word z → (machine C).step (target_at locals_types (more (Assign (global_name 0 x) (Operand e)) rest ∷ blocks) locals cells input output) ≡ Goes (target_at locals_types (rest ∷ blocks) locals (put same_identifier cells (global_name 0 x) (Word z)) input output)
  assign_step x e rest blocks z locals cells output v =
      ap (λ o. go (store o (with_written (target_here locals_types blocks locals cells input output) []) (global_name 0 x) (evaluate types (seen locals cells) e)) (rest ∷ [])) (hidden x)
      ∙ ap (λ c. go (store None (with_written (target_here locals_types blocks locals cells input output) []) (global_name 0 x) c) (rest ∷ [])) v
      ∙ ap (λ out. Goes (target_at locals_types (rest ∷ blocks) locals (put same_identifier cells (global_name 0 x) (Word z)) input out)) (append-nil output)

  -- the text of what is printed enters the temporary
  text_step : (e : CppExpr) (rest : Block) (blocks : List Block) (z : ℤ) (locals cells : Cells) (output : List ℕ) → locals_types printed ≡ Some Text → type_of types e ≡ Some Int32 → evaluate types (seen locals cells) e ≡ Word z → (machine C).step (target_at locals_types (more (Assign printed (CallRow TextOf (e ∷ []))) rest ∷ blocks) locals cells input output) ≡ Goes (target_at locals_types (rest ∷ blocks) (put same_identifier locals printed (Characters (decimal_of z))) cells input output)
  text_step e rest blocks z locals cells output text type v =
      ap (λ o. go (store o (with_written (target_here locals_types blocks locals cells input output) []) printed (row_cell TextOf (type_of types e ∷ []) (evaluate types (seen locals cells) e ∷ []))) (rest ∷ [])) text
      ∙ ap (λ t. go (store (Some Text) (with_written (target_here locals_types blocks locals cells input output) []) printed (row_cell TextOf (t ∷ []) (evaluate types (seen locals cells) e ∷ []))) (rest ∷ [])) type
      ∙ ap (λ c. go (store (Some Text) (with_written (target_here locals_types blocks locals cells input output) []) printed (row_cell TextOf (Some Int32 ∷ []) (c ∷ []))) (rest ∷ [])) v
      ∙ ap (λ out. Goes (target_at locals_types (rest ∷ blocks) (put same_identifier locals printed (Characters (decimal_of z))) cells input out)) (append-nil output)

  -- it is written
  write_step : (rest : Block) (blocks : List Block) (t : List ℕ) (locals cells : Cells) (output : List ℕ) → locals_types printed ≡ Some Text → locals printed ≡ Some (Characters t) → (machine C).step (target_at locals_types (more (Perform (CallRow Write (Named printed ∷ []))) rest ∷ blocks) locals cells input output) ≡ Goes (target_at locals_types (rest ∷ blocks) locals cells input (output ++ t))
  write_step rest blocks t locals cells output text v =
      let further = λ (out : List ℕ). go (with_written (target_here locals_types blocks locals cells input output) out) (rest ∷ []) in
      ap (λ o. after_writing (row_writes Write (inner_first o (global_types C printed) ∷ []) (held (inner_first (locals printed) (cells printed)) ∷ [])) further) text
      ∙ ap (λ o. after_writing (row_writes Write (Some Text ∷ []) (held (inner_first o (cells printed)) ∷ [])) further) v

  -- a branch goes on with the block that its test picks
  if_step : (e : CppExpr) (block other rest : Block) (blocks : List Block) (b : Bool) (locals cells : Cells) (output : List ℕ) → evaluate types (seen locals cells) e ≡ Word (truth_word b) → (machine C).step (target_at locals_types (more (emit_if e block other) rest ∷ blocks) locals cells input output) ≡ Goes (target_at locals_types ((if b then block else other) ∷ rest ∷ blocks) locals cells input output)
  if_step e block none rest blocks b locals cells output v =
      ap (λ (next : Block). Goes (target_at locals_types (next ∷ rest ∷ blocks) locals cells input output)) (picked b (word_of (evaluate types (seen locals cells) e)) block none (ap word_of v))
  if_step e block (more s other) rest blocks b locals cells output v =
      ap (λ (next : Block). Goes (target_at locals_types (next ∷ rest ∷ blocks) locals cells input output)) (picked b (word_of (evaluate types (seen locals cells) e)) block (more s other) (ap word_of v))

  -- a loop takes a tick, and goes round or is left
  loop_step : (e : CppExpr) (block rest : Block) (blocks : List Block) (b : Bool) (locals cells : Cells) (output : List ℕ) → evaluate types (seen locals cells) e ≡ Word (truth_word b) → (machine C).step (target_at locals_types (more (While e block) rest ∷ blocks) locals cells input output) ≡ Ticks (target_at locals_types (if b then block ∷ more (While e block) rest ∷ blocks else rest ∷ blocks) locals cells input output)
  loop_step e block rest blocks true locals cells output v =
      ap (λ (z : ℤ). Ticks (target_at locals_types ((if is_true z then block ∷ more (While e block) rest ∷ [] else rest ∷ []) ++ blocks) locals cells input output)) (ap word_of v)
  loop_step e block rest blocks false locals cells output v =
      ap (λ (z : ℤ). Ticks (target_at locals_types ((if is_true z then block ∷ more (While e block) rest ∷ [] else rest ∷ []) ++ blocks) locals cells input output)) (ap word_of v)

  abbrev program : Source
  program = one_module main

  -- with n ticks, the runs that go on with these items and with these blocks are alike, where both sides hold the same
  -- numbers in the globals that are sure to be bound
  abbrev Follows : ℕ → List Name → List Item → List Context → List Block → Type 0
  Follows n assigned control contexts blocks =
      (globals : Map Global Value) (locals cells : Cells) (output : List ℕ) → Hides locals → Agree assigned globals cells
      → Both program C n (source_at control contexts [] globals input output) (target_at locals_types blocks locals cells input output)

  -- the same with each number of ticks up to n
  abbrev FollowsUpTo : ℕ → List Name → List Item → List Context → List Block → Type 0
  FollowsUpTo n assigned control contexts blocks = (m : ℕ) → m ≤ n → Follows m assigned control contexts blocks

  assign_alike : (p : Place) (x : Name) (e : Expr) (n : ℕ) (assigned : List Name) (control : List Item) (contexts : List Context) (rest : Block) (blocks : List Block) → reads_only assigned e ≡ true → Knows types (has_name assigned) → Follows n (x ∷ assigned) control contexts (rest ∷ blocks) → Follows n assigned (Do (SAssign p x e) ∷ control) contexts (emit_stmt (SAssign p x e) rest ∷ blocks)
  assign_alike p x e n assigned control contexts rest blocks sure known after globals locals cells output hides agree =
      let m = source_machine program in
      let v = evaluates main types (seen locals cells) globals assigned known (agree_seen assigned globals locals cells hides agree) e sure in
      both_from program C n _ (source_at control contexts [] (put same_global globals (In 0 x) (VInt v.0)) input output) _
      (target_at locals_types (rest ∷ blocks) locals (put same_identifier cells (global_name 0 x) (Word v.0)) input output)
      (leads_on m _ (source_at (Evaluate e ∷ Bind x ∷ control) contexts [] globals input output) _ (leads_step m _ _ refl)
      (leads_on m _ (source_at (Bind x ∷ control) contexts (VInt v.0 ∷ []) globals input output) _ (v.2 (Bind x ∷ control) contexts [] input output)
      (leads_step m _ _ refl)))
      (leads_step (machine C) _ _ (assign_step x (emit_expr e) rest blocks v.0 locals cells output v.1))
      (after (put same_global globals (In 0 x) (VInt v.0)) locals (put same_identifier cells (global_name 0 x) (Word v.0)) output hides (agree_more x v.0 assigned globals cells agree))

  print_alike : (p c : Place) (e : Expr) (n : ℕ) (assigned : List Name) (control : List Item) (contexts : List Context) (rest : Block) (blocks : List Block) → reads_only assigned e ≡ true → Knows types (has_name assigned) → locals_types printed ≡ Some Text → Follows n assigned control contexts (rest ∷ blocks) → Follows n assigned (Do (SPrint p c e) ∷ control) contexts (emit_stmt (SPrint p c e) rest ∷ blocks)
  print_alike p c e n assigned control contexts rest blocks sure known text after globals locals cells output hides agree =
      let m = source_machine program in
      let v = evaluates main types (seen locals cells) globals assigned known (agree_seen assigned globals locals cells hides agree) e sure in
      let digits = decimal_of v.0 in
      let locals' = put same_identifier locals printed (Characters digits) in
      let written : (output ++ digits) ++ 10 ∷ [] ≡ output ++ (digits ++ 10 ∷ []) = append_assoc output digits (10 ∷ []) in
      both_from program C n _ (source_at control contexts [] globals input (output ++ (digits ++ 10 ∷ []))) _
      (target_at locals_types (rest ∷ blocks) locals' cells input (output ++ (digits ++ 10 ∷ [])))
      (leads_on m _ (source_at (Evaluate e ∷ Show ∷ control) contexts [] globals input output) _ (leads_step m _ _ refl)
      (leads_on m _ (source_at (Show ∷ control) contexts (VInt v.0 ∷ []) globals input output) _ (v.2 (Show ∷ control) contexts [] input output)
      (leads_step m _ _ refl)))
      (leads_on (machine C) _ (target_at locals_types (more (Perform (CallRow Write (Named printed ∷ []))) (more (Perform (CallRow Write (Literal (10 ∷ []) ∷ []))) rest) ∷ blocks) locals' cells input output) _
      (leads_step (machine C) _ _ (text_step (emit_expr e) _ blocks v.0 locals cells output text (emitted_type types assigned e known sure) v.1))
      (leads_on (machine C) _ (target_at locals_types (more (Perform (CallRow Write (Literal (10 ∷ []) ∷ []))) rest ∷ blocks) locals' cells input (output ++ digits)) _
      (leads_step (machine C) _ _ (write_step _ blocks digits locals' cells output text (put_same same_identifier locals printed printed (Characters digits) (same_self printed))))
      (leads_step (machine C) _ _ (ap (λ out. Goes (target_at locals_types (rest ∷ blocks) locals' cells input out)) written))))
      (after globals locals' cells (output ++ (digits ++ 10 ∷ []))
      (λ x. put_other same_identifier locals printed (global_name 0 x) (Characters digits) (temporary_apart 0 0 x) ∙ hides x) agree)

  -- one of two bodies
  chosen_alike : (b : Bool) (body other : Body) (n : ℕ) (assigned : List Name) (control : List Item) (contexts : List Context) (rest : Block) (blocks : List Block) → Follows n assigned (Run body ∷ control) contexts (emit_body body ∷ rest ∷ blocks) → Follows n assigned (Run other ∷ control) contexts (emit_body other ∷ rest ∷ blocks) → (globals : Map Global Value) (locals cells : Cells) (output : List ℕ) → Hides locals → Agree assigned globals cells → Both program C n (source_at (Branch body other ∷ control) contexts (VBool b ∷ []) globals input output) (target_at locals_types ((if b then emit_body body else emit_body other) ∷ rest ∷ blocks) locals cells input output)
  chosen_alike true body other n assigned control contexts rest blocks first second globals locals cells output hides agree =
      let m = source_machine program in
      both_from program C n _ (source_at (Run body ∷ control) contexts [] globals input output) _ (target_at locals_types (emit_body body ∷ rest ∷ blocks) locals cells input output)
      (leads_step m _ _ refl) (leads_stay (machine C) _) (first globals locals cells output hides agree)
  chosen_alike false body other n assigned control contexts rest blocks first second globals locals cells output hides agree =
      let m = source_machine program in
      both_from program C n _ (source_at (Run other ∷ control) contexts [] globals input output) _ (target_at locals_types (emit_body other ∷ rest ∷ blocks) locals cells input output)
      (leads_step m _ _ refl) (leads_stay (machine C) _) (second globals locals cells output hides agree)

  if_alike : (p : Place) (c : Condition) (body other : Body) (n : ℕ) (assigned : List Name) (control : List Item) (contexts : List Context) (rest : Block) (blocks : List Block) → condition_reads_only assigned c ≡ true → Knows types (has_name assigned) → Follows n assigned (Run body ∷ control) contexts (emit_body body ∷ rest ∷ blocks) → Follows n assigned (Run other ∷ control) contexts (emit_body other ∷ rest ∷ blocks) → Follows n assigned (Do (SIf p c body other) ∷ control) contexts (emit_stmt (SIf p c body other) rest ∷ blocks)
  if_alike p c body other n assigned control contexts rest blocks sure known first second globals locals cells output hides agree =
      let m = source_machine program in
      let v = tests main types (seen locals cells) globals assigned known (agree_seen assigned globals locals cells hides agree) c sure in
      both_from program C n _ (source_at (Branch body other ∷ control) contexts (VBool v.0 ∷ []) globals input output) _
      (target_at locals_types ((if v.0 then emit_body body else emit_body other) ∷ rest ∷ blocks) locals cells input output)
      (leads_on m _ (source_at (Test c ∷ Branch body other ∷ control) contexts [] globals input output) _ (leads_step m _ _ refl)
      (v.2 (Branch body other ∷ control) contexts [] input output))
      (leads_step (machine C) _ _ (if_step (emit_condition c) (emit_body body) (emit_body other) rest blocks v.0 locals cells output v.1))
      (chosen_alike v.0 body other n assigned control contexts rest blocks first second globals locals cells output hides agree)

  -- a loop that has tested
  round_alike : (b : Bool) (c : Condition) (body : Body) (n : ℕ) (assigned : List Name) (control : List Item) (contexts : List Context) (rest : Block) (blocks : List Block) → Follows n assigned (Run body ∷ Turn ∷ []) (Looping c body control ∷ contexts) (emit_body body ∷ more (While (emit_condition c) (emit_body body)) rest ∷ blocks) → Follows n assigned control contexts (rest ∷ blocks) → (globals : Map Global Value) (locals cells : Cells) (output : List ℕ) → Hides locals → Agree assigned globals cells → Both program C n (source_at (Repeat ∷ []) (Looping c body control ∷ contexts) (VBool b ∷ []) globals input output) (target_at locals_types (if b then emit_body body ∷ more (While (emit_condition c) (emit_body body)) rest ∷ blocks else rest ∷ blocks) locals cells input output)
  round_alike true c body n assigned control contexts rest blocks again after globals locals cells output hides agree =
      both_from program C n _ (source_at (Run body ∷ Turn ∷ []) (Looping c body control ∷ contexts) [] globals input output) _
      (target_at locals_types (emit_body body ∷ more (While (emit_condition c) (emit_body body)) rest ∷ blocks) locals cells input output)
      (leads_step (source_machine program) _ _ refl) (leads_stay (machine C) _) (again globals locals cells output hides agree)
  round_alike false c body n assigned control contexts rest blocks again after globals locals cells output hides agree =
      both_from program C n _ (source_at control contexts [] globals input output) _ (target_at locals_types (rest ∷ blocks) locals cells input output)
      (leads_step (source_machine program) _ _ refl) (leads_stay (machine C) _) (after globals locals cells output hides agree)

  -- how a body that is run again and again goes on
  abbrev BodyFollows : Body → List Name → Type 0
  BodyFollows body assigned =
      (n : ℕ) (control : List Item) (contexts : List Context) (blocks : List Block) → FollowsUpTo n assigned control contexts blocks → Follows n assigned (Run body ∷ control) contexts (emit_body body ∷ blocks)

  -- a loop that is about to test, by induction on the ticks
  loop_alike : (bound n : ℕ) → n ≤ bound → (c : Condition) (body : Body) (assigned : List Name) (control : List Item) (contexts : List Context) (rest : Block) (blocks : List Block) → condition_reads_only assigned c ≡ true → Knows types (has_name assigned) → BodyFollows body assigned → FollowsUpTo n assigned control contexts (rest ∷ blocks) → Follows n assigned (Turn ∷ []) (Looping c body control ∷ contexts) (more (While (emit_condition c) (emit_body body)) rest ∷ blocks)
  loop_alike bound zero le c body assigned control contexts rest blocks sure known again after globals locals cells output hides agree =
      let v = tests main types (seen locals cells) globals assigned known (agree_seen assigned globals locals cells hides agree) c sure in
      both_wait program C _ (source_at (Test c ∷ Repeat ∷ []) (Looping c body control ∷ contexts) [] globals input output) _ _ output refl refl
      (loop_step (emit_condition c) (emit_body body) rest blocks v.0 locals cells output v.1) refl
  loop_alike zero (suc n) le c body assigned control contexts rest blocks sure known again after globals locals cells output hides agree = absurd (omega arith)
  loop_alike (suc bound) (suc n) le c body assigned control contexts rest blocks sure known again after globals locals cells output hides agree =
      let v = tests main types (seen locals cells) globals assigned known (agree_seen assigned globals locals cells hides agree) c sure in
      let inner = Looping c body control ∷ contexts in
      let loop = more (While (emit_condition c) (emit_body body)) rest in
      both_tick program C n _ (source_at (Test c ∷ Repeat ∷ []) inner [] globals input output) _ _ refl
      (loop_step (emit_condition c) (emit_body body) rest blocks v.0 locals cells output v.1)
      (both_from program C n _ (source_at (Repeat ∷ []) inner (VBool v.0 ∷ []) globals input output) _ _
      (v.2 (Repeat ∷ []) inner [] input output) (leads_stay (machine C) _)
      (round_alike v.0 c body n assigned control contexts rest blocks
      (again n (Turn ∷ []) inner (loop ∷ blocks)
      (λ m l. loop_alike bound m (omega arith) c body assigned control contexts rest blocks sure known again (λ k q. after k (omega arith))))
      (after n (omega arith)) globals locals cells output hides agree))

  enter_alike : (p : Place) (c : Condition) (body : Body) (n : ℕ) (assigned : List Name) (control : List Item) (contexts : List Context) (rest : Block) (blocks : List Block) → Follows n assigned (Turn ∷ []) (Looping c body control ∷ contexts) (more (While (emit_condition c) (emit_body body)) rest ∷ blocks) → Follows n assigned (Do (SWhile p c body) ∷ control) contexts (emit_stmt (SWhile p c body) rest ∷ blocks)
  enter_alike p c body n assigned control contexts rest blocks loop globals locals cells output hides agree =
      both_from program C n _ (source_at (Turn ∷ []) (Looping c body control ∷ contexts) [] globals input output) _
      (target_at locals_types (more (While (emit_condition c) (emit_body body)) rest ∷ blocks) locals cells input output)
      (leads_step (source_machine program) _ _ refl) (leads_stay (machine C) _) (loop globals locals cells output hides agree)

  fewer_names : (s : SourceStmt) (n : ℕ) (assigned : List Name) (control : List Item) (contexts : List Context) (blocks : List Block) → FollowsUpTo n assigned control contexts blocks → FollowsUpTo n (sure_after s assigned) control contexts blocks
  fewer_names s n assigned control contexts blocks after m le globals locals cells output hides agree =
      after m le globals locals cells output hides (agree_fewer s assigned globals cells agree)

  -- a body that is begun goes on with its first statement
  more_alike : (s : SourceStmt) (body : Body) (n : ℕ) (assigned : List Name) (control : List Item) (contexts : List Context) (blocks : List Block) → Follows n assigned (Do s ∷ Run body ∷ control) contexts (emit_stmt s (emit_body body) ∷ blocks) → Follows n assigned (Run (and_then s body) ∷ control) contexts (emit_body (and_then s body) ∷ blocks)
  more_alike s body n assigned control contexts blocks first globals locals cells output hides agree =
      both_from program C n _ (source_at (Do s ∷ Run body ∷ control) contexts [] globals input output) _ (target_at locals_types (emit_stmt s (emit_body body) ∷ blocks) locals cells input output)
      (leads_step (source_machine program) _ _ refl) (leads_stay (machine C) _) (first globals locals cells output hides agree)

  none_alike : (n : ℕ) (assigned : List Name) (control : List Item) (contexts : List Context) (blocks : List Block) → Follows n assigned control contexts blocks → Follows n assigned (Run nothing_left ∷ control) contexts (none ∷ blocks)
  none_alike n assigned control contexts blocks after globals locals cells output hides agree =
      both_from program C n _ (source_at control contexts [] globals input output) _ (target_at locals_types blocks locals cells input output)
      (leads_step (source_machine program) _ _ refl) (leads_step (machine C) _ _ refl) (after globals locals cells output hides agree)

  mutual
    stmt_alike : (s : SourceStmt) (n : ℕ) (assigned : List Name) (control : List Item) (contexts : List Context) (rest : Block) (blocks : List Block) → stmt_reads_only assigned s ≡ true → Knows types (has_name assigned) → (stmt_prints s ≡ true → locals_types printed ≡ Some Text) → FollowsUpTo n (sure_after s assigned) control contexts (rest ∷ blocks) → Follows n assigned (Do s ∷ control) contexts (emit_stmt s rest ∷ blocks)
    stmt_alike (SAssign p x e) n assigned control contexts rest blocks sure known text after =
        assign_alike p x e n assigned control contexts rest blocks sure known (after n (omega arith))
    stmt_alike (SPrint p c e) n assigned control contexts rest blocks sure known text after =
        print_alike p c e n assigned control contexts rest blocks sure known (text refl) (after n (omega arith))
    stmt_alike (SIf p c body other) n assigned control contexts rest blocks sure known text after =
        if_alike p c body other n assigned control contexts rest blocks (and_left _ _ sure) known
        (body_alike body assigned (and_left _ _ (and_right _ _ sure)) known (if_left (prints body) (prints other) text) n control contexts (rest ∷ blocks) after)
        (body_alike other assigned (and_right _ _ (and_right _ _ sure)) known (if_right (prints body) (prints other) text) n control contexts (rest ∷ blocks) after)
    stmt_alike (SWhile p c body) n assigned control contexts rest blocks sure known text after =
        enter_alike p c body n assigned control contexts rest blocks
        (loop_alike n n (omega arith) c body assigned control contexts rest blocks (and_left _ _ sure) known
        (body_alike body assigned (and_right _ _ sure) known text) after)

    body_alike : (body : Body) (assigned : List Name) → body_reads_only assigned body ≡ true → Knows types (has_name assigned) → (prints body ≡ true → locals_types printed ≡ Some Text) → BodyFollows body assigned
    body_alike nothing_left assigned sure known text n control contexts blocks after = none_alike n assigned control contexts blocks (after n (omega arith))
    body_alike (and_then s body) assigned sure known text n control contexts blocks after =
        more_alike s body n assigned control contexts blocks
        (stmt_alike s n assigned (Run body ∷ control) contexts (emit_body body) blocks (and_left _ _ sure) known (if_left (stmt_prints s) (prints body) text)
        (fewer_names s n assigned (Run body ∷ control) contexts (emit_body body ∷ blocks)
        (λ m le. body_alike body assigned (and_right _ _ sure) known (if_right (stmt_prints s) (prints body) text) m control contexts blocks (λ k q. after k (omega arith)))))

  done_alike : (n : ℕ) (assigned : List Name) → Follows n assigned (Run nothing_left ∷ []) [] (none ∷ [])
  done_alike n assigned globals locals cells output hides agree = (output, Done, tt, (3, refl), (3, refl))

  -- the whole module, after which both runs are done
  module_alike : (body : Body) (assigned : List Name) → are_reads_sure assigned body ≡ true → Knows types (has_name assigned) → Knows types (has_name (targets body)) → (prints body ≡ true → locals_types printed ≡ Some Text) → (n : ℕ) → Follows n assigned (Run body ∷ []) [] (emit_body body ∷ [])
  module_alike nothing_left assigned sure known bound text n = done_alike n assigned
  module_alike (and_then s body) assigned sure known bound text n =
      more_alike s body n assigned [] [] []
      (stmt_alike s n assigned (Run body ∷ []) [] (emit_body body) [] (and_left _ _ sure) known (if_left (stmt_prints s) (prints body) text)
      (λ m le. module_alike body (sure_after s assigned) (and_right _ _ sure) (knows_after types s assigned (knows_front types (targets_of s) (targets body) bound) known) (knows_back types (targets_of s) (targets body) bound) (if_right (stmt_prints s) (prints body) text) m))

-- no variable stands for the body
block_found : (names : List Name) (name : Name) (block : Block) → block_in ((variables 0 names ++ BodyDefinition (body_name name) block ∷ Main (body_name name) ∷ []) ++ []) (body_name name) ≡ block
block_found [] name block = chosen (bytes_eq (body_name name) (body_name name)) block none (same_self (body_name name))
block_found (x ∷ names) name block = block_found names name block

-- where the run of the emission starts
starts : (name : Name) (body : Body) (input : List ℕ) → start (emit name body) input ≡ target_at nothing (emit_block body ∷ []) nothing (first_cells (sources_of (emit name body).modules)) input []
starts name body input =
    let items = sources_of (emit name body).modules in
    ap (λ block. target_at nothing (block ∷ []) nothing (first_cells items) input [])
    (ap (λ names. started items names) (one_main (names_bound body) (body_name name) (emit_block body))
    ∙ block_found (names_bound body) name (emit_block body))

nothing_assigned : (globals : Map Global Value) (cells : Cells) → Agree [] globals cells
nothing_assigned globals cells x h = cc

-- the block of a body, with its temporary declared or not
same_block : (main : Module) (C : Program) (body : Body) (printing : Bool) (cells : Cells) (input : List ℕ) → prints body ≡ printing → are_reads_sure [] body ≡ true → Knows (global_types C) (has_name (targets body)) → (n : ℕ) → Both (one_module main) C n (source_at (Run body ∷ []) [] [] nothing input []) (target_at nothing ((if printing then more (Declare Text printed NullPointer) (emit_body body) else emit_body body) ∷ []) nothing cells input [])
same_block main C body true cells input is sure bound n =
    let locals_types = put same_identifier nothing printed Text in
    let locals = put same_identifier nothing printed Null in
    let hidden : Hides locals_types = λ x. put_other same_identifier nothing printed (global_name 0 x) Text (temporary_apart 0 0 x) in
    both_from (one_module main) C n _ (source_at (Run body ∷ []) [] [] nothing input []) _ (target_at locals_types (emit_body body ∷ []) locals cells input [])
    (leads_stay (source_machine (one_module main)) _) (leads_step (machine C) _ _ refl)
    (module_alike main C locals_types hidden input body [] sure
    (no_name (in_scope locals_types (global_types C)))
    (λ x h. ap (λ o. inner_first o (global_types C (global_name 0 x))) (hidden x) ∙ bound x h)
    (λ _. put_same same_identifier nothing printed printed Text (same_self printed)) n nothing locals cells []
    (λ x. put_other same_identifier nothing printed (global_name 0 x) Null (temporary_apart 0 0 x))
    (nothing_assigned nothing cells))
same_block main C body false cells input is sure bound n =
    module_alike main C nothing (λ x. refl) input body [] sure (no_name (global_types C)) bound (λ e. cc) n nothing nothing cells [] (λ x. refl) (nothing_assigned nothing cells)

-- every run of both ends Done or goes on, with one output
pub runs_alike : (name : Name) (body : Body) → are_reads_sure [] body ≡ true → (input : List ℕ) (n : ℕ) → Both (one_module (record { name = name; body = body })) (emit name body) n (source_start (one_module (record { name = name; body = body })) input) (start (emit name body) input)
runs_alike name body sure input n =
    let C = emit name body in
    let P = one_module (record { name = name; body = body }) in
    subst (Both P C n (source_start P input)) (sym (starts name body input))
    (same_block (record { name = name; body = body }) C body (prints body) (first_cells (sources_of C.modules)) input refl sure (globals_known name body) n)
