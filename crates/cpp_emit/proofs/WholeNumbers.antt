-- At every moment of a run of the source, each value that is held is a whole number.
use Rattle.std.proofs.Common.{◌≡◌, ℕ, ℤ, List, [], ◌∷◌, Bool, true, false, Option, Some, None, refl, sym, ◌∙◌, subst}
use Rattle.runs.specs.Number.{Width}
use Rattle.runs.specs.Run.{Ending, Next}
use Rattle.runs.specs.Moment.{moment_at}
use Rattle.runs.specs.FiniteMap.{Map, put}
use Rattle.runs.proofs.FiniteMaps.{put_same, put_other}
use Rattle.runs.proofs.Moments.{Keeps, holds_at_each}
use Rattle.py_meaning.specs.Name.{Name}
use Rattle.py_meaning.specs.Tree.{Unary, Binary, Comparison, EName, ENumber, EUnary, EBinary, CCompare, Stmt, SAssign, SPrint, SIf, SWhile, Body, none, more}
use Rattle.py_meaning.specs.Value.{Value, number_of, unary_of_number, binary_of_numbers, unary_value, binary_value, comparison_value, truth_of, text_of_value, IsWhole}
use Rattle.py_meaning.specs.Program.{Program, Global, In, same_global}
use Rattle.py_meaning.specs.Machine.{Item, Run, Do, Evaluate, Test, Apply, Combine, Compare, Bind, Show, Branch, Turn, Repeat, Context, Looping, Frame, World, Moment, Here, push, read, apply, combine, compare, bind, write_line, show, choose, branch, turn, go_round, repeat, act, step_in, step_of, machine, start}

-- what is known of a value on the stack: it is a whole number, or nothing is
data Sort : Type 0 where
  Whole : Sort
  Anything : Sort

abbrev HasSort : Sort → Value → Type 0
HasSort Whole v = IsWhole v
HasSort Anything v = Unit {0}

abbrev HaveSorts : List Sort → List Value → Type 0
HaveSorts [] [] = Unit {0}
HaveSorts [] (v ∷ values) = ⊥
HaveSorts (s ∷ sorts) [] = ⊥
HaveSorts (s ∷ sorts) (v ∷ values) = HasSort s v × HaveSorts sorts values

-- these items bind whole numbers alone, where values of these sorts are on the stack; statements begin with none
abbrev BindWhole : List Item → List Sort → Type 0
BindWhole [] sorts = Unit {0}
BindWhole (Run body ∷ items) [] = BindWhole items []
BindWhole (Run body ∷ items) (s ∷ sorts) = ⊥
BindWhole (Do statement ∷ items) [] = BindWhole items []
BindWhole (Do statement ∷ items) (s ∷ sorts) = ⊥
BindWhole (Evaluate e ∷ items) sorts = BindWhole items (Whole ∷ sorts)
BindWhole (Test c ∷ items) sorts = BindWhole items (Anything ∷ sorts)
BindWhole (Apply o ∷ items) [] = ⊥
BindWhole (Apply o ∷ items) (s ∷ sorts) = BindWhole items (Whole ∷ sorts)
BindWhole (Combine o ∷ items) [] = ⊥
BindWhole (Combine o ∷ items) (s ∷ []) = ⊥
BindWhole (Combine o ∷ items) (s ∷ t ∷ sorts) = BindWhole items (Whole ∷ sorts)
BindWhole (Compare o ∷ items) [] = ⊥
BindWhole (Compare o ∷ items) (s ∷ []) = ⊥
BindWhole (Compare o ∷ items) (s ∷ t ∷ sorts) = BindWhole items (Anything ∷ sorts)
BindWhole (Bind x ∷ items) [] = ⊥
BindWhole (Bind x ∷ items) (Whole ∷ sorts) = BindWhole items sorts
BindWhole (Bind x ∷ items) (Anything ∷ sorts) = ⊥
BindWhole (Show ∷ items) [] = ⊥
BindWhole (Show ∷ items) (s ∷ sorts) = BindWhole items sorts
BindWhole (Branch body other ∷ items) [] = ⊥
BindWhole (Branch body other ∷ items) (s ∷ []) = BindWhole items []
BindWhole (Branch body other ∷ items) (s ∷ t ∷ sorts) = ⊥
BindWhole (Turn ∷ items) [] = BindWhole items []
BindWhole (Turn ∷ items) (s ∷ sorts) = ⊥
BindWhole (Repeat ∷ items) [] = ⊥
BindWhole (Repeat ∷ items) (s ∷ []) = BindWhole items []
BindWhole (Repeat ∷ items) (s ∷ t ∷ sorts) = ⊥

-- and so do those that come after the loops
abbrev ContextsBindWhole : List Context → Type 0
ContextsBindWhole [] = Unit {0}
ContextsBindWhole (Looping c body after ∷ contexts) = BindWhole after [] × ContextsBindWhole contexts

abbrev IsGoodFrame : Frame → Type 0
IsGoodFrame f = (sorts : List Sort) × BindWhole f.control sorts × HaveSorts sorts f.values × ContextsBindWhole f.contexts

abbrev AreGoodFrames : List Frame → Type 0
AreGoodFrames [] = Unit {0}
AreGoodFrames (f ∷ frames) = IsGoodFrame f × AreGoodFrames frames

abbrev GlobalsAreWhole : Map Global Value → Type 0
GlobalsAreWhole globals = (g : Global) (v : Value) → globals g ≡ Some v → IsWhole v

abbrev IsGood : Moment → Type 0
IsGood m = AreGoodFrames m.frames × GlobalsAreWhole m.world.globals

-- a run may end in any way
abbrev Any : Ending → Type 0
Any e = Unit {0}

abbrev Kept : Next Moment → Type 0
Kept next = Keeps IsGood Any next

abbrev HasSortIfAny : Sort → Option Value → Type 0
HasSortIfAny s None = Unit {0}
HasSortIfAny s (Some v) = HasSort s v

anything : (o : Option Value) → HasSortIfAny Anything o
anything None = tt
anything (Some v) = tt

unary_whole : (w : Width) (o : Unary) (a : Option ℤ) → HasSortIfAny Whole (unary_of_number w o a)
unary_whole w o None = tt
unary_whole w o (Some a) = tt

binary_whole : (w : Width) (o : Binary) (a b : Option ℤ) → HasSortIfAny Whole (binary_of_numbers w o a b)
binary_whole w o None b = tt
binary_whole w o (Some a) None = tt
binary_whole w o (Some a) (Some b) = tt

-- a global more
globals_more : (globals : Map Global Value) (k : Global) (v : Value) → GlobalsAreWhole globals → IsWhole v → (g : Global) (u : Value) (same : Bool) → same_global k g ≡ same → put same_global globals k v g ≡ Some u → IsWhole u
globals_more globals k v whole here g u true is e = let this : v ≡ u = cc (put_same same_global globals k g v is) in subst IsWhole this here
globals_more globals k v whole here g u false is e = whole g u (sym (put_other same_global globals k g v is) ∙ e)

module _ (P : Program) where
  -- what is kept of the frame that is run and of all else
  abbrev Rest : Here → Type 0
  Rest h = ContextsBindWhole h.frame.contexts × AreGoodFrames h.below × GlobalsAreWhole h.world.globals

  push_keeps : (h : Here) (o : Option Value) (values : List Value) (s : Sort) (sorts : List Sort) → HasSortIfAny s o → BindWhole h.frame.control (s ∷ sorts) → HaveSorts sorts values → Rest h → Kept (push h o values)
  push_keeps h None values s sorts w b vs r = tt
  push_keeps h (Some v) values s sorts w b vs r = (((s ∷ sorts, b, (w, vs), r.0), r.1), r.2)

  read_keeps : (h : Here) (x : Name) (o : Option Value) (sorts : List Sort) → HasSortIfAny Whole o → BindWhole h.frame.control (Whole ∷ sorts) → HaveSorts sorts h.frame.values → Rest h → Kept (read h x o)
  read_keeps h x None sorts w b vs r = tt
  read_keeps h x (Some v) sorts w b vs r = (((Whole ∷ sorts, b, (w, vs), r.0), r.1), r.2)

  apply_keeps : (o : Unary) (h : Here) (values : List Value) (sorts : List Sort) → BindWhole (Apply o ∷ h.frame.control) sorts → HaveSorts sorts values → Rest h → Kept (apply P o h values)
  apply_keeps o h [] sorts b vs r = tt
  apply_keeps o h (v ∷ values) [] b vs r = absurd b
  apply_keeps o h (v ∷ values) (s ∷ sorts) b vs r = push_keeps h (unary_value P.width o v) values Whole sorts (unary_whole P.width o (number_of v)) b vs.1 r

  combine_keeps : (o : Binary) (h : Here) (values : List Value) (sorts : List Sort) → BindWhole (Combine o ∷ h.frame.control) sorts → HaveSorts sorts values → Rest h → Kept (combine P o h values)
  combine_keeps o h [] sorts b vs r = tt
  combine_keeps o h (v ∷ []) sorts b vs r = tt
  combine_keeps o h (v ∷ u ∷ values) [] b vs r = absurd b
  combine_keeps o h (v ∷ u ∷ values) (s ∷ []) b vs r = absurd b
  combine_keeps o h (v ∷ u ∷ values) (s ∷ t ∷ sorts) b vs r =
      push_keeps h (binary_value P.width o u v) values Whole sorts (binary_whole P.width o (number_of u) (number_of v)) b vs.1.1 r

  compare_keeps : (o : Comparison) (h : Here) (values : List Value) (sorts : List Sort) → BindWhole (Compare o ∷ h.frame.control) sorts → HaveSorts sorts values → Rest h → Kept (compare o h values)
  compare_keeps o h [] sorts b vs r = tt
  compare_keeps o h (v ∷ []) sorts b vs r = tt
  compare_keeps o h (v ∷ u ∷ values) [] b vs r = absurd b
  compare_keeps o h (v ∷ u ∷ values) (s ∷ []) b vs r = absurd b
  compare_keeps o h (v ∷ u ∷ values) (s ∷ t ∷ sorts) b vs r = push_keeps h (comparison_value o u v) values Anything sorts (anything (comparison_value o u v)) b vs.1.1 r

  bind_keeps : (x : Name) (h : Here) (values : List Value) (sorts : List Sort) → BindWhole (Bind x ∷ h.frame.control) sorts → HaveSorts sorts values → Rest h → Kept (bind x h values)
  bind_keeps x h [] sorts b vs r = tt
  bind_keeps x h (v ∷ values) [] b vs r = absurd b
  bind_keeps x h (v ∷ values) (Anything ∷ sorts) b vs r = absurd b
  bind_keeps x h (v ∷ values) (Whole ∷ sorts) b vs r =
      (((sorts, b, vs.1, r.0), r.1), (λ g u e. globals_more h.world.globals (In h.frame.owner x) v r.2 vs.0 g u (same_global (In h.frame.owner x) g) refl e))

  write_keeps : (h : Here) (o : Option (List ℕ)) (values : List Value) (sorts : List Sort) → BindWhole h.frame.control sorts → HaveSorts sorts values → Rest h → Kept (write_line h o values)
  write_keeps h None values sorts b vs r = tt
  write_keeps h (Some t) values sorts b vs r = (((sorts, b, vs, r.0), r.1), r.2)

  show_keeps : (h : Here) (values : List Value) (sorts : List Sort) → BindWhole (Show ∷ h.frame.control) sorts → HaveSorts sorts values → Rest h → Kept (show h values)
  show_keeps h [] sorts b vs r = tt
  show_keeps h (v ∷ values) [] b vs r = absurd b
  show_keeps h (v ∷ values) (s ∷ sorts) b vs r = write_keeps h (text_of_value v) values sorts b vs.1 r

  choose_keeps : (h : Here) (o : Option Bool) (body other : Body) (values : List Value) → BindWhole h.frame.control [] → HaveSorts [] values → Rest h → Kept (choose h o body other values)
  choose_keeps h None body other values b vs r = tt
  choose_keeps h (Some true) body other values b vs r = ((([], b, vs, r.0), r.1), r.2)
  choose_keeps h (Some false) body other values b vs r = ((([], b, vs, r.0), r.1), r.2)

  branch_keeps : (body other : Body) (h : Here) (values : List Value) (sorts : List Sort) → BindWhole (Branch body other ∷ h.frame.control) sorts → HaveSorts sorts values → Rest h → Kept (branch body other h values)
  branch_keeps body other h [] sorts b vs r = tt
  branch_keeps body other h (v ∷ values) [] b vs r = absurd b
  branch_keeps body other h (v ∷ values) (s ∷ []) b vs r = choose_keeps h (truth_of v) body other values b vs.1 r
  branch_keeps body other h (v ∷ values) (s ∷ t ∷ sorts) b vs r = absurd b

  turn_keeps : (h : Here) (contexts : List Context) (sorts : List Sort) → BindWhole (Turn ∷ h.frame.control) sorts → HaveSorts sorts h.frame.values → Rest h → Kept (turn h contexts)
  turn_keeps h [] sorts b vs r = tt
  turn_keeps h (Looping c body after ∷ contexts) [] b vs r = ((([], b, vs, r.0), r.1), r.2)
  turn_keeps h (Looping c body after ∷ contexts) (s ∷ sorts) b vs r = absurd b

  round_keeps : (h : Here) (o : Option Bool) (body : Body) (after : List Item) (contexts : List Context) (values : List Value) → BindWhole h.frame.control [] → HaveSorts [] values → BindWhole after [] → ContextsBindWhole contexts → Rest h → Kept (go_round h o body after contexts values)
  round_keeps h None body after contexts values b vs a cs r = tt
  round_keeps h (Some true) body after contexts values b vs a cs r = ((([], b, vs, r.0), r.1), r.2)
  round_keeps h (Some false) body after contexts values b vs a cs r = ((([], a, vs, cs), r.1), r.2)

  repeat_keeps : (h : Here) (contexts : List Context) (values : List Value) (sorts : List Sort) → BindWhole (Repeat ∷ h.frame.control) sorts → HaveSorts sorts values → ContextsBindWhole contexts → Rest h → Kept (repeat h contexts values)
  repeat_keeps h contexts [] sorts b vs cs r = tt
  repeat_keeps h [] (v ∷ values) sorts b vs cs r = tt
  repeat_keeps h (Looping c body after ∷ contexts) (v ∷ values) [] b vs cs r = absurd b
  repeat_keeps h (Looping c body after ∷ contexts) (v ∷ values) (s ∷ []) b vs cs r = round_keeps h (truth_of v) body after contexts values b vs.1 cs.0 cs.1 r
  repeat_keeps h (Looping c body after ∷ contexts) (v ∷ values) (s ∷ t ∷ sorts) b vs cs r = absurd b

  held_whole : (globals : Map Global Value) (g : Global) (o : Option Value) → globals g ≡ o → GlobalsAreWhole globals → HasSortIfAny Whole o
  held_whole globals g None e whole = tt
  held_whole globals g (Some v) e whole = whole g v e

  do_keeps : (s : Stmt) (h : Here) (sorts : List Sort) → BindWhole (Do s ∷ h.frame.control) sorts → HaveSorts sorts h.frame.values → Rest h → Kept (act P (Do s) h)
  do_keeps s h (t ∷ sorts) b vs r = absurd b
  do_keeps (SAssign p x e) h [] b vs r = ((([], b, vs, r.0), r.1), r.2)
  do_keeps (SPrint p c e) h [] b vs r = ((([], b, vs, r.0), r.1), r.2)
  do_keeps (SIf p c body other) h [] b vs r = ((([], b, vs, r.0), r.1), r.2)
  do_keeps (SWhile p c body) h [] b vs r = ((([], tt, vs, (b, r.0)), r.1), r.2)

  act_keeps : (item : Item) (h : Here) (sorts : List Sort) → BindWhole (item ∷ h.frame.control) sorts → HaveSorts sorts h.frame.values → Rest h → Kept (act P item h)
  act_keeps (Run none) h [] b vs r = ((([], b, vs, r.0), r.1), r.2)
  act_keeps (Run (more s body)) h [] b vs r = ((([], b, vs, r.0), r.1), r.2)
  act_keeps (Run body) h (s ∷ sorts) b vs r = absurd b
  act_keeps (Do s) h sorts b vs r = do_keeps s h sorts b vs r
  act_keeps (Evaluate (EName p x)) h sorts b vs r =
      let g = In h.frame.owner x in
      read_keeps h x (h.world.globals g) sorts (held_whole h.world.globals g (h.world.globals g) refl r.2) b vs r
  act_keeps (Evaluate (ENumber p n)) h sorts b vs r = (((Whole ∷ sorts, b, (tt, vs), r.0), r.1), r.2)
  act_keeps (Evaluate (EUnary p o e)) h sorts b vs r = (((sorts, b, vs, r.0), r.1), r.2)
  act_keeps (Evaluate (EBinary p o a e)) h sorts b vs r = (((sorts, b, vs, r.0), r.1), r.2)
  act_keeps (Test (CCompare p o a e)) h sorts b vs r = (((sorts, b, vs, r.0), r.1), r.2)
  act_keeps (Apply o) h sorts b vs r = apply_keeps o h h.frame.values sorts b vs r
  act_keeps (Combine o) h sorts b vs r = combine_keeps o h h.frame.values sorts b vs r
  act_keeps (Compare o) h sorts b vs r = compare_keeps o h h.frame.values sorts b vs r
  act_keeps (Bind x) h sorts b vs r = bind_keeps x h h.frame.values sorts b vs r
  act_keeps Show h sorts b vs r = show_keeps h h.frame.values sorts b vs r
  act_keeps (Branch body other) h sorts b vs r = branch_keeps body other h h.frame.values sorts b vs r
  act_keeps Turn h sorts b vs r = turn_keeps h h.frame.contexts sorts b vs r
  act_keeps Repeat h sorts b vs r = repeat_keeps h h.frame.contexts h.frame.values sorts b vs r.0 r

  step_keeps : (control : List Item) (h : Here) (sorts : List Sort) → BindWhole control sorts → HaveSorts sorts h.frame.values → Rest h → Kept (step_in P control h)
  step_keeps [] h sorts b vs r = (r.1, r.2)
  step_keeps (item ∷ control) h sorts b vs r =
      act_keeps item (record { frame = record { owner = h.frame.owner; control = control; values = h.frame.values; contexts = h.frame.contexts }; below = h.below; world = h.world }) sorts b vs r

  keeps : (frames : List Frame) (world : World) → AreGoodFrames frames → GlobalsAreWhole world.globals → Kept (step_of P frames world)
  keeps [] world good globals = tt
  keeps (f ∷ below) world good globals =
      step_keeps f.control (record { frame = f; below = below; world = world }) good.0.0 good.0.1 good.0.2 (good.0.3, good.1, globals)

  pub whole_numbers : (input : List ℕ) (k : ℕ) (m : Moment) → moment_at (machine P) k (start P input) ≡ Some m → (g : Global) (v : Value) → m.world.globals g ≡ Some v → IsWhole v
  whole_numbers input k m e =
      (holds_at_each (machine P) IsGood Any (λ s good. keeps s.frames s.world good.0 good.1) k (start P input) m ((([], tt, tt, tt), tt), (λ g v h. cc)) e).1
