-- How the symbols behind a front stand while the table's run goes over it.
use Rattle.std.specs.Prelude.{◌≡◌, ℕ, Bool, true, false, not, ◌&&◌, if◌then◌else◌, List, [], ◌∷◌, ◌++◌, Option, Some, ◌⊎◌}
use Rattle.grammars.specs.Grammar.{Tok, Non, Do, Row, IsRow}
use Rattle.py_syntax.specs.Token.{Token}
use Rattle.py_syntax.specs.Build.{Parts, Action, MakeLeaf, MakeTuple, AddItem, MakeTargets, AddTargets}
use Rattle.py_syntax.specs.Laws.{goal}
use Rattle.py_syntax.specs.Table.{Symbol, Nonterminal, rows, AnyName, Module, TopStatement, Statements, Statement, Compound, Otherwise, Suite, Handler, HandlerAlias, MoreHandlers, QualifiedName, QualifiedNameTail, Definition, ParameterList, ParameterNext, ParameterItem, ParameterDefault, ClassDefinition, ClassBase, BaseList, ClassSuite, Member, Members, Brief, ImportStatement, ImportItem, ImportAlias, ImportNext, FromItem, FromNext, Line, LineTail, LineMore, Small, SmallTail, AssignTail, Returned, GlobalNext, AssertMessage, DeletedTail, DeletedAttribute, DeletedEnd, DeletedSubscript, DeletedSubscriptTail}
use Rattle.py_demands.specs.Aimed.{ItemAsks}
use Rattle.py_demands.specs.Aims.{Aim, Target, aimed}
use Rattle.py_demands.specs.Behind.{Behind}
use Rattle.py_demands.specs.Least.{Ask, AtLeast, least}
use Rattle.py_demands.specs.Paired.{is_open}
use Rattle.py_demands.specs.Turning.{is_tail}
use Rattle.py_demands.specs.TurnedPaired.{none_open}

-- the actions that come right behind the first symbol of a row
abbrev pub begins_row : Action → Bool
begins_row MakeLeaf = true
begins_row MakeTuple = true
begins_row MakeTargets = true
begins_row AddTargets = true
begins_row a = false

abbrev pub are_calm : List Symbol → Bool
are_calm [] = true
are_calm (Tok k ∷ symbols) = are_calm symbols
are_calm (Non x ∷ symbols) = are_calm symbols
are_calm (Do a ∷ symbols) = not (begins_row a) && are_calm symbols

-- such an action stands on top alone
abbrev pub are_calm_below : List Symbol → Bool
are_calm_below (Do a ∷ symbols) = are_calm symbols
are_calm_below symbols = are_calm symbols

-- or behind what is read next
abbrev pub are_calm_soon : List Symbol → Bool
are_calm_soon (Tok k ∷ symbols) = are_calm_below symbols
are_calm_soon (Non AnyName ∷ symbols) = are_calm_below symbols
are_calm_soon (Non x ∷ symbols) = are_calm symbols
are_calm_soon (Do a ∷ symbols) = are_calm symbols
are_calm_soon [] = true

abbrev pub IsMore : List Token → Type 0
IsMore [] = ⊥
IsMore (t ∷ ts) = Unit {0}

-- what stands in an expression, and brings nothing that comes behind one
abbrev pub is_inner : Nonterminal → Bool
is_inner Module = false
is_inner TopStatement = false
is_inner Statements = false
is_inner Statement = false
is_inner Compound = false
is_inner Otherwise = false
is_inner Suite = false
is_inner Handler = false
is_inner HandlerAlias = false
is_inner MoreHandlers = false
is_inner QualifiedName = false
is_inner QualifiedNameTail = false
is_inner Definition = false
is_inner ParameterList = false
is_inner ParameterNext = false
is_inner ParameterItem = false
is_inner ParameterDefault = false
is_inner ClassDefinition = false
is_inner ClassBase = false
is_inner BaseList = false
is_inner ClassSuite = false
is_inner Member = false
is_inner Members = false
is_inner Brief = false
is_inner ImportStatement = false
is_inner ImportItem = false
is_inner ImportAlias = false
is_inner ImportNext = false
is_inner FromItem = false
is_inner FromNext = false
is_inner Line = false
is_inner LineTail = false
is_inner LineMore = false
is_inner Small = false
is_inner SmallTail = false
is_inner AssignTail = false
is_inner Returned = false
is_inner GlobalNext = false
is_inner AssertMessage = false
is_inner DeletedTail = false
is_inner DeletedAttribute = false
is_inner DeletedEnd = false
is_inner DeletedSubscript = false
is_inner DeletedSubscriptTail = false
is_inner x = true

abbrev pub makes_targets : Action → Bool
makes_targets MakeTargets = true
makes_targets AddTargets = true
makes_targets a = false

abbrev pub are_inner : List Symbol → Bool
are_inner [] = true
are_inner (Tok k ∷ symbols) = are_inner symbols
are_inner (Non x ∷ symbols) = is_inner x && are_inner symbols
are_inner (Do a ∷ symbols) = not (makes_targets a) && are_inner symbols

-- nothing comes behind an expression
abbrev pub are_quiet : List Symbol → Bool
are_quiet [] = true
are_quiet (Tok k ∷ symbols) = are_quiet symbols
are_quiet (Non x ∷ symbols) = not (is_tail x) && are_quiet symbols
are_quiet (Do a ∷ symbols) = are_quiet symbols

-- something comes behind one expression at most, and before it stands what is in that
abbrev pub are_single : List Symbol → Bool
are_single [] = true
are_single (Tok k ∷ symbols) = are_single symbols
are_single (Non x ∷ symbols) = if is_inner x then are_single symbols else are_quiet symbols
are_single (Do a ∷ symbols) = are_single symbols

abbrev pub adds_to_open : Action → Option (List Ask) → Bool
adds_to_open AddItem (Some (q ∷ qs)) = is_open q
adds_to_open a qs = false

-- no item is added to a tuple that may be assigned to
abbrev pub adds_to_none : List Symbol → Option (List Ask) → Bool
adds_to_none [] qs = true
adds_to_none (Tok k ∷ symbols) qs = adds_to_none symbols qs
adds_to_none (Non x ∷ symbols) qs = adds_to_none symbols qs
adds_to_none (Do a ∷ symbols) qs = not (adds_to_open a (least symbols qs)) && adds_to_none symbols qs

-- an item is read of a tuple that may be assigned to
pub record Itemed (symbols : List Symbol) : Type 0 where
  pub item : List Symbol
  pub rest : List Symbol
  pub symbols_are : symbols ≡ item ++ Do AddItem ∷ rest
  pub asks : ItemAsks item rest
  -- what is asked of the item alone, if it is a target
  pub alone : List Aim
  pub alone_are : aimed item (Some (Target asks.above ∷ [])) ≡ Some alone
  pub inner : are_inner item ≡ true
  pub none_open_below : none_open asks.below ≡ true
  pub rest_calm : are_calm rest ≡ true
  pub rest_settled : adds_to_none rest (Some (AtLeast 0 ∷ [])) ≡ true

pub record Ready (symbols : List Symbol) (ahead : List Token) : Type 0 where
  pub calm : (are_calm_below symbols ≡ true) ⊎ ((are_calm_soon symbols ≡ true) × IsMore ahead)
  pub single : are_single symbols ≡ true
  pub shaped : (adds_to_none symbols (Some (AtLeast 0 ∷ [])) ≡ true) ⊎ Itemed symbols

abbrev pub ReadyBeginning : Type 0
ReadyBeginning = (front : List Token) → Ready goal front

abbrev pub ReadyOverAction : Type 0
ReadyOverAction = (front ahead : List Token) (a : Action) (symbols : List Symbol) (v : Parts) → Behind front ahead (Do a ∷ symbols) v → Ready (Do a ∷ symbols) ahead → Ready symbols ahead

abbrev pub ReadyOverToken : Type 0
ReadyOverToken = (ahead : List Token) (t : Token) (k : ℕ) (symbols : List Symbol) → Ready (Tok k ∷ symbols) (t ∷ ahead) → Ready symbols ahead

abbrev pub ReadyOverRow : Type 0
ReadyOverRow =
    (front ahead : List Token) (t : Token) (x : Nonterminal) (r : Row Nonterminal Action Parts) (symbols : List Symbol) (v : Parts)
    → IsRow r (rows x) → Behind front (t ∷ ahead) (Non x ∷ symbols) v → Ready (Non x ∷ symbols) (t ∷ ahead) → Ready (r.symbols ++ symbols) (t ∷ ahead)

-- From the beginning, each step of the table's run over a front keeps the symbols so.
abbrev pub ReadyLaw : Type 0
ReadyLaw = ReadyBeginning × ReadyOverAction × ReadyOverToken × ReadyOverRow
