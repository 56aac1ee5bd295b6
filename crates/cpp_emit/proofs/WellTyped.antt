-- The emission is well typed and laid out.
use Rattle.std.proofs.Common.{◌≡◌, List, [], ◌∷◌, ◌++◌, Bool, true, false, Some, None, refl, ap, ◌∙◌, subst, append_assoc}
use Rattle.std.specs.Prelude.{◌||◌, if◌then◌else◌}
use Rattle.std.specs.Str.{bytes_eq}
use Rattle.runs.specs.FiniteMap.{nothing, put}
use Rattle.runs.proofs.FiniteMaps.{put_same, put_other}
use Rattle.py_meaning.specs.Name.{Name, same_name}
use Rattle.py_meaning.specs.Tree.{Binary, Add, Subtract, Multiply, Comparison, LessThan, AtMost, GreaterThan, AtLeast, EqualTo, NotEqualTo, Expr, EName, ENumber, EUnary, EBinary, Condition, CCompare, Stmt as SourceStmt, SAssign, SPrint, SIf, SWhile, Body, none as nothing_left, more as and_then}
use Rattle.py_meaning.specs.Rules.{has_name, reads_only, condition_reads_only, stmt_reads_only, body_reads_only, sure_after, are_reads_sure}
use Rattle.py_meaning.specs.Binding.{targets_of, targets, names_bound}
use Rattle.cpp_meaning.specs.Tree.{Identifier, same_identifier, Int32, Truth, Text, NullPointer, Minus, Expr as CppExpr, TextOf, Write, Declare, Block, none, more, Declaration, BodyHead, Definition, Body as BodyDefinition, Main}
use Rattle.cpp_meaning.specs.Typing.{Types, inner_first, in_scope, type_of_operation, type_of, yield_of_row, yield_of_operand, Void, IsTypedBlock, VariableOf, BodyOf, declared, defined, type_of_sort, global_types, AreDeclaredOnce, AreDefinedOnce, AreTyped, mains, IsTyped}
use Rattle.shed_meaning.specs.EmittedName.{global_name, body_name}
use Rattle.shed_meaning.specs.Layout.{externs, variables, HasTemporariesAlone}
use Rattle.cpp_emit.specs.Emit.{emit_operator, emit_expr, printed, emit_comparison, emit_condition, emit_if, emit_stmt, emit_body, stmt_prints, prints, emit_block, emit}
use Rattle.cpp_emit.proofs.NamesApart.{same_self, same_globals, other_globals, temporary_apart}
use Rattle.grammars.proofs.Bools.{and_left, and_right, on_left, on_right}
use Rattle.cpp_emit.proofs.GlobalsBound.{has_front, has_back, once_has, AreDistinct, once_distinct}

-- these names are those of numbers
abbrev pub Knows : Types → (Name → Bool) → Type 0
Knows types has = (x : Name) → has x ≡ true → types (global_name 0 x) ≡ Some Int32

pub emitted_type : (types : Types) (assigned : List Name) (e : Expr) → Knows types (has_name assigned) → reads_only assigned e ≡ true → type_of types (emit_expr e) ≡ Some Int32
emitted_type types assigned (EName p x) knows sure = knows x sure
emitted_type types assigned (ENumber p n) knows sure = refl
emitted_type types assigned (EUnary p o e) knows sure = ap (λ t. type_of_operation Minus t t) (emitted_type types assigned e knows sure)
emitted_type types assigned (EBinary p o a b) knows sure =
    ap (λ t. type_of_operation (emit_operator o) t (type_of types (emit_expr b))) (emitted_type types assigned a knows (and_left _ _ sure))
    ∙ ap (λ t. type_of_operation (emit_operator o) (Some Int32) t) (emitted_type types assigned b knows (and_right _ _ sure))
    ∙ number_result o
  where
    number_result : (o : Binary) → type_of_operation (emit_operator o) (Some Int32) (Some Int32) ≡ Some Int32
    number_result Add = refl
    number_result Subtract = refl
    number_result Multiply = refl

truth_result : (o : Comparison) → type_of_operation (emit_comparison o) (Some Int32) (Some Int32) ≡ Some Truth
truth_result LessThan = refl
truth_result AtMost = refl
truth_result GreaterThan = refl
truth_result AtLeast = refl
truth_result EqualTo = refl
truth_result NotEqualTo = refl

-- what is tested is a truth value
pub condition_type : (types : Types) (assigned : List Name) (c : Condition) → Knows types (has_name assigned) → condition_reads_only assigned c ≡ true → type_of types (emit_condition c) ≡ Some Truth
condition_type types assigned (CCompare p o a b) knows sure =
    ap (λ t. type_of_operation (emit_comparison o) t (type_of types (emit_expr b))) (emitted_type types assigned a knows (and_left _ _ sure))
    ∙ ap (λ t. type_of_operation (emit_comparison o) (Some Int32) t) (emitted_type types assigned b knows (and_right _ _ sure))
    ∙ truth_result o

knows_or : (types : Types) (x : Name) (has : Name → Bool) → types (global_name 0 x) ≡ Some Int32 → Knows types has → (y : Name) (same : Bool) → same_name x y ≡ same → (same || has y) ≡ true → types (global_name 0 y) ≡ Some Int32
knows_or types x has here knows y true is either = subst (λ i. types i ≡ Some Int32) (same_globals 0 x y is) here
knows_or types x has here knows y false is either = knows y either

-- one name more
knows_more : (types : Types) (x : Name) (assigned : List Name) → types (global_name 0 x) ≡ Some Int32 → Knows types (has_name assigned) → Knows types (has_name (x ∷ assigned))
knows_more types x assigned here knows y either = knows_or types x (has_name assigned) here knows y (same_name x y) refl either

-- the names of two lists
pub knows_front : (types : Types) (names others : List Name) → Knows types (has_name (names ++ others)) → Knows types (has_name names)
knows_front types names others knows x h = knows x (has_front names others x h)

pub knows_back : (types : Types) (names others : List Name) → Knows types (has_name (names ++ others)) → Knows types (has_name others)
knows_back types names others knows x h = knows x (has_back names others x h)

pub knows_first : (types : Types) (x : Name) (names : List Name) → Knows types (has_name (x ∷ names)) → types (global_name 0 x) ≡ Some Int32
knows_first types x names knows = knows x (ap (λ b. b || has_name names x) (same_self x))

-- after a statement of the module
pub knows_after : (types : Types) (s : SourceStmt) (assigned : List Name) → Knows types (has_name (targets_of s)) → Knows types (has_name assigned) → Knows types (has_name (sure_after s assigned))
knows_after types (SAssign p x e) assigned bound knows = knows_more types x assigned (knows_first types x [] bound) knows
knows_after types (SPrint p c e) assigned bound knows = knows
knows_after types (SIf p c body other) assigned bound knows = knows
knows_after types (SWhile p c body) assigned bound knows = knows

-- the first of two truths that say the same
pub if_left : {P : Type 0} (p q : Bool) → ((p || q) ≡ true → P) → p ≡ true → P
if_left p q f e = f (on_left p q e)

pub if_right : {P : Type 0} (p q : Bool) → ((p || q) ≡ true → P) → q ≡ true → P
if_right p q f e = f (on_right p q e)

typed_if : (globals locals : Types) (e : CppExpr) (block other rest : Block) → type_of (in_scope locals globals) e ≡ Some Truth → IsTypedBlock false globals locals block → IsTypedBlock false globals locals other → IsTypedBlock false globals locals rest → (first : Bool) → IsTypedBlock first globals locals (more (emit_if e block other) rest)
typed_if globals locals e block none rest test t u v first = (test, t, v)
typed_if globals locals e block (more s other) rest test t u v first = (test, t, u, v)

mutual
  typed_stmt : (s : SourceStmt) (first : Bool) (globals locals : Types) (assigned : List Name) (rest : Block) → stmt_reads_only assigned s ≡ true → Knows (in_scope locals globals) (has_name assigned) → Knows (in_scope locals globals) (has_name (targets_of s)) → (stmt_prints s ≡ true → in_scope locals globals printed ≡ Some Text) → IsTypedBlock false globals locals rest → IsTypedBlock first globals locals (emit_stmt s rest)
  typed_stmt (SAssign p x e) first globals locals assigned rest sure known bound text typed =
      (Int32, knows_first (in_scope locals globals) x [] bound, ap yield_of_operand (emitted_type (in_scope locals globals) assigned e known sure), typed)
  typed_stmt (SPrint p c e) first globals locals assigned rest sure known bound text typed = (
    Text,
    text refl,
    ap (λ t. yield_of_row TextOf (t ∷ [])) (emitted_type (in_scope locals globals) assigned e known sure),
    (Void, ap (λ t. yield_of_row Write (t ∷ [])) (text refl), (Void, refl, typed)),
  )
  typed_stmt (SIf p c body other) first globals locals assigned rest sure known bound text typed =
      typed_if globals locals (emit_condition c) (emit_body body) (emit_body other) rest
      (condition_type (in_scope locals globals) assigned c known (and_left _ _ sure))
      (typed_body body globals locals assigned (and_left _ _ (and_right _ _ sure)) known (knows_front (in_scope locals globals) (targets body) (targets other) bound) (if_left (prints body) (prints other) text))
      (typed_body other globals locals assigned (and_right _ _ (and_right _ _ sure)) known (knows_back (in_scope locals globals) (targets body) (targets other) bound) (if_right (prints body) (prints other) text))
      typed first
  typed_stmt (SWhile p c body) first globals locals assigned rest sure known bound text typed = (
    condition_type (in_scope locals globals) assigned c known (and_left _ _ sure),
    typed_body body globals locals assigned (and_right _ _ sure) known bound text,
    typed,
  )

  -- a block
  typed_body : (body : Body) (globals locals : Types) (assigned : List Name) → body_reads_only assigned body ≡ true → Knows (in_scope locals globals) (has_name assigned) → Knows (in_scope locals globals) (has_name (targets body)) → (prints body ≡ true → in_scope locals globals printed ≡ Some Text) → IsTypedBlock false globals locals (emit_body body)
  typed_body nothing_left globals locals assigned sure known bound text = tt
  typed_body (and_then s body) globals locals assigned sure known bound text =
      typed_stmt s false globals locals assigned (emit_body body) (and_left _ _ sure) known (knows_front (in_scope locals globals) (targets_of s) (targets body) bound) (if_left (stmt_prints s) (prints body) text)
      (typed_body body globals locals assigned (and_right _ _ sure) known (knows_back (in_scope locals globals) (targets_of s) (targets body) bound) (if_right (stmt_prints s) (prints body) text))

-- the whole module
typed_module : (body : Body) (first : Bool) (globals locals : Types) (assigned : List Name) → are_reads_sure assigned body ≡ true → Knows (in_scope locals globals) (has_name assigned) → Knows (in_scope locals globals) (has_name (targets body)) → (prints body ≡ true → in_scope locals globals printed ≡ Some Text) → IsTypedBlock first globals locals (emit_body body)
typed_module nothing_left first globals locals assigned sure known bound text = tt
typed_module (and_then s body) first globals locals assigned sure known bound text =
    let types = in_scope locals globals in
    let front = knows_front types (targets_of s) (targets body) bound in
    typed_stmt s first globals locals assigned (emit_body body) (and_left _ _ sure) known front (if_left (stmt_prints s) (prints body) text)
    (typed_module body false globals locals (sure_after s assigned) (and_right _ _ sure) (knows_after types s assigned front known) (knows_back types (targets_of s) (targets body) bound) (if_right (stmt_prints s) (prints body) text))

-- the locals of a body that prints hide no global
hides_none : (globals : Types) (x : Name) → in_scope (put same_identifier nothing printed Text) globals (global_name 0 x) ≡ globals (global_name 0 x)
hides_none globals x =
    ap (λ o. inner_first o (globals (global_name 0 x)))
    (put_other same_identifier nothing printed (global_name 0 x) Text (temporary_apart 0 0 x))

pub no_name : (types : Types) → Knows types (has_name [])
no_name types x h = cc

typed_block : (body : Body) (printing : Bool) (globals : Types) → prints body ≡ printing → are_reads_sure [] body ≡ true → Knows globals (has_name (targets body)) → IsTypedBlock true globals nothing (if printing then more (Declare Text printed NullPointer) (emit_body body) else emit_body body)
typed_block body true globals is sure bound =
    let locals = put same_identifier nothing printed Text in (
      refl,
      refl,
      refl,
      typed_module body true globals locals [] sure (no_name (in_scope locals globals)) (λ x b. hides_none globals x ∙ bound x b)
          (λ _. ap (λ o. inner_first o (globals printed)) (put_same same_identifier nothing printed printed Text (same_self printed))),
    )
typed_block body false globals is sure bound = typed_module body true globals nothing [] sure (no_name globals) bound (λ e. cc)

pub chosen : {A : Type 0} (p : Bool) (a b : A) → p ≡ true → (if p then a else b) ≡ a
chosen p a b e = ap (λ q. if q then a else b) e

passed : {A : Type 0} (p : Bool) (a b : A) → p ≡ false → (if p then a else b) ≡ b
passed p a b e = ap (λ q. if q then a else b) e

-- the globals of a list are defined, whatever comes behind them
pub variables_define : (names : List Name) (rest : List Definition) (x : Name) → has_name names x ≡ true → defined (variables 0 names ++ rest) (global_name 0 x) ≡ Some (VariableOf Int32)
variables_define [] rest x h = cc
variables_define (y ∷ names) rest x h = at (same_name y x) refl h (λ h'. variables_define names rest x h')
  where
    at : (same : Bool) → same_name y x ≡ same → (same || has_name names x) ≡ true → (has_name names x ≡ true → defined (variables 0 names ++ rest) (global_name 0 x) ≡ Some (VariableOf Int32)) → defined (variables 0 (y ∷ names) ++ rest) (global_name 0 x) ≡ Some (VariableOf Int32)
    at true is h later =
        chosen (bytes_eq (global_name 0 y) (global_name 0 x)) (Some (VariableOf Int32)) (defined (variables 0 names ++ rest) (global_name 0 x))
        (subst (λ i. bytes_eq (global_name 0 y) i ≡ true) (same_globals 0 y x is) (same_self (global_name 0 y)))
    at false is h later =
        passed (bytes_eq (global_name 0 y) (global_name 0 x)) (Some (VariableOf Int32)) (defined (variables 0 names ++ rest) (global_name 0 x)) (other_globals 0 y x is)
        ∙ later h

-- what is not among them is what comes behind
variables_pass : (names : List Name) (rest : List Definition) (x : Name) → has_name names x ≡ false → defined (variables 0 names ++ rest) (global_name 0 x) ≡ defined rest (global_name 0 x)
variables_pass [] rest x h = refl
variables_pass (y ∷ names) rest x h = at (same_name y x) refl h (λ h'. variables_pass names rest x h')
  where
    at : (same : Bool) → same_name y x ≡ same → (same || has_name names x) ≡ false → (has_name names x ≡ false → defined (variables 0 names ++ rest) (global_name 0 x) ≡ defined rest (global_name 0 x)) → defined (variables 0 (y ∷ names) ++ rest) (global_name 0 x) ≡ defined rest (global_name 0 x)
    at true is h later = cc
    at false is h later =
        passed (bytes_eq (global_name 0 y) (global_name 0 x)) (Some (VariableOf Int32)) (defined (variables 0 names ++ rest) (global_name 0 x)) (other_globals 0 y x is)
        ∙ later h

externs_pass : (names : List Name) (rest : List Declaration) (x : Name) → has_name names x ≡ false → declared (externs 0 names ++ rest) (global_name 0 x) ≡ declared rest (global_name 0 x)
externs_pass [] rest x h = refl
externs_pass (y ∷ names) rest x h = at (same_name y x) refl h (λ h'. externs_pass names rest x h')
  where
    at : (same : Bool) → same_name y x ≡ same → (same || has_name names x) ≡ false → (has_name names x ≡ false → declared (externs 0 names ++ rest) (global_name 0 x) ≡ declared rest (global_name 0 x)) → declared (externs 0 (y ∷ names) ++ rest) (global_name 0 x) ≡ declared rest (global_name 0 x)
    at true is h later = cc
    at false is h later =
        passed (bytes_eq (global_name 0 y) (global_name 0 x)) (Some (VariableOf Int32)) (declared (externs 0 names ++ rest) (global_name 0 x)) (other_globals 0 y x is)
        ∙ later h

-- the body's name is no global's
variables_pass_body : (names : List Name) (rest : List Definition) (name : Name) → defined (variables 0 names ++ rest) (body_name name) ≡ defined rest (body_name name)
variables_pass_body [] rest name = refl
variables_pass_body (y ∷ names) rest name = variables_pass_body names rest name

-- a header and a source file with the same globals and the same body say the same of each name
paired : (names : List Name) (i : Identifier) (block : Block) (x : Identifier) → declared ((externs 0 names ++ BodyHead i ∷ []) ++ []) x ≡ defined ((variables 0 names ++ BodyDefinition i block ∷ Main i ∷ []) ++ []) x
paired [] i block x = refl
paired (y ∷ names) i block x =
    ap (λ o. if same_identifier (global_name 0 y) x then Some (VariableOf Int32) else o) (paired names i block x)

declared_once : (names : List Name) (name : Name) → AreDistinct names → AreDeclaredOnce ((externs 0 names ++ BodyHead (body_name name) ∷ []) ++ [])
declared_once [] name distinct = (refl, tt)
declared_once (x ∷ names) name distinct = (
  ap (λ items. declared items (global_name 0 x)) (append_assoc (externs 0 names) (BodyHead (body_name name) ∷ []) [])
      ∙ externs_pass names (BodyHead (body_name name) ∷ []) x distinct.0,
  declared_once names name distinct.1,
)

defined_once : (names : List Name) (name : Name) (block : Block) → AreDistinct names → AreDefinedOnce ((variables 0 names ++ BodyDefinition (body_name name) block ∷ Main (body_name name) ∷ []) ++ [])
defined_once [] name block distinct = (refl, tt)
defined_once (x ∷ names) name block distinct = (
  ap (λ items. defined items (global_name 0 x)) (append_assoc (variables 0 names) (BodyDefinition (body_name name) block ∷ Main (body_name name) ∷ []) [])
      ∙ variables_pass names (BodyDefinition (body_name name) block ∷ Main (body_name name) ∷ []) x distinct.0,
  defined_once names name block distinct.1,
)

typed_definitions : (names : List Name) (i : Identifier) (block : Block) (globals : Types) → IsTypedBlock true globals nothing block → AreTyped globals ((variables 0 names ++ BodyDefinition i block ∷ Main i ∷ []) ++ [])
typed_definitions [] i block globals typed = (typed, tt)
typed_definitions (x ∷ names) i block globals typed = (refl, typed_definitions names i block globals typed)

pub one_main : (names : List Name) (i : Identifier) (block : Block) → mains ((variables 0 names ++ BodyDefinition i block ∷ Main i ∷ []) ++ []) ≡ i ∷ []
one_main [] i block = refl
one_main (x ∷ names) i block = one_main names i block

-- the type of a global that the body binds
pub globals_known : (name : Name) (body : Body) → Knows (global_types (emit name body)) (has_name (targets body))
globals_known name body x bound =
    let tail = BodyDefinition (body_name name) (emit_block body) ∷ Main (body_name name) ∷ [] in
    ap type_of_sort
    (ap (λ items. defined items (global_name 0 x)) (append_assoc (variables 0 (names_bound body)) tail [])
    ∙ variables_define (names_bound body) (tail ++ []) x (once_has (targets body) [] x bound refl))

pub emit_typed : (name : Name) (body : Body) → are_reads_sure [] body ≡ true → IsTyped (emit name body)
emit_typed name body sure =
    let names = names_bound body in
    let block = emit_block body in
    let distinct = once_distinct (targets body) [] in
    record {
      declared_once = declared_once names name distinct;
      defined_once = defined_once names name block distinct;
      paired = paired names (body_name name) block;
      typed =
          typed_definitions names (body_name name) block (global_types (emit name body))
          (typed_block body (prints body) (global_types (emit name body)) refl sure (globals_known name body));
      main = body_name name;
      one_main = one_main names (body_name name) block;
      main_body =
          rw append_assoc (variables_pass_body names (BodyDefinition (body_name name) block ∷ Main (body_name name) ∷ []) name
          ∙ chosen (bytes_eq (body_name name) (body_name name)) (Some BodyOf) None (same_self (body_name name)));
    }

temporaries_of_if : (e : CppExpr) (block other rest : Block) → HasTemporariesAlone block → HasTemporariesAlone other → HasTemporariesAlone rest → HasTemporariesAlone (more (emit_if e block other) rest)
temporaries_of_if e block none rest t u v = (t, v)
temporaries_of_if e block (more s other) rest t u v = (t, u, v)

mutual
  temporaries_of_stmt : (s : SourceStmt) (rest : Block) → HasTemporariesAlone rest → HasTemporariesAlone (emit_stmt s rest)
  temporaries_of_stmt (SAssign p x e) rest h = h
  temporaries_of_stmt (SPrint p c e) rest h = h
  temporaries_of_stmt (SIf p c body other) rest h =
      temporaries_of_if (emit_condition c) (emit_body body) (emit_body other) rest (temporaries_of_body body) (temporaries_of_body other) h
  temporaries_of_stmt (SWhile p c body) rest h = (temporaries_of_body body, h)

  temporaries_of_body : (body : Body) → HasTemporariesAlone (emit_body body)
  temporaries_of_body nothing_left = tt
  temporaries_of_body (and_then s body) = temporaries_of_stmt s (emit_body body) (temporaries_of_body body)

temporaries_of_block : (body : Body) (printing : Bool) → HasTemporariesAlone (if printing then more (Declare Text printed NullPointer) (emit_body body) else emit_body body)
temporaries_of_block body true = (0, refl, temporaries_of_body body)
temporaries_of_block body false = temporaries_of_body body

pub emit_laid_out : (body : Body) → HasTemporariesAlone (emit_block body)
emit_laid_out body = temporaries_of_block body (prints body)
