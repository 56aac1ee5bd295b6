-- One step of the table's run, and what a pass makes of it.
use Rattle.std.specs.Prelude.{◌≡◌, ℕ, ◌+◌, ◌==◌, if◌then◌else◌, List, [], ◌∷◌, ◌++◌, map, reverse, Option, Some, None}
use Rattle.grammars.specs.Grammar.{Tok, Non, Do, Row}
use Rattle.grammars.specs.Run.{Done, Stuck, run}
use Rattle.py_syntax.specs.Token.{Token}
use Rattle.py_syntax.specs.Kinds.{kind_of}
use Rattle.py_syntax.specs.Build.{Action, Parts, PToken, act}
use Rattle.py_syntax.specs.Table.{Symbol, Nonterminal, table, sets}
use Rattle.py_syntax.specs.Laws.{goal, start}
use Rattle.py_table.specs.Sights.{sight_numbered, number_of_sight, row_before, allowed}
use Rattle.py_table.specs.PlainSymbols.{plain_symbol}
use Rattle.py_table.specs.PlainTokens.{plain_tokens}
use Rattle.py_table.specs.declared.symbol.Symbol.{Symbol as SymbolKept}
use Rattle.py_table.specs.declared.run.Next.{Next}
use Rattle.py_table.specs.declared.run.Next.TheVariants as next
use Rattle.py_table.specs.declared.run.Outcome.{Outcome}
use Rattle.py_table.specs.declared.run.Outcome.TheVariants as outcome

-- the stack of symbols has its top at the end
unfoldable pub stack_of : List SymbolKept → List Symbol
stack_of symbols = map plain_symbol (reverse symbols)

pub data Step : Type 0 where
  Going : (symbols : List Symbol) → (value : Parts) → (rest : List Token) → Step
  Finished : Step
  Halted : Step

abbrev pub expanded : Option (Row Nonterminal Action Parts) → List Symbol → Parts → List Token → Step
expanded None symbols v ts = Halted
expanded (Some r) symbols v ts = Going (r.symbols ++ symbols) v ts

abbrev pub one_step : List Symbol → Parts → List Token → Step
one_step [] v [] = Finished
one_step [] v (t ∷ ts) = Halted
one_step (Tok k ∷ symbols) v [] = Halted
one_step (Tok k ∷ symbols) v (t ∷ ts) = if kind_of t == k then Going symbols (PToken t ∷ v) ts else Halted
one_step (Non x ∷ symbols) v ts = expanded (allowed v (row_before x (sight_numbered (number_of_sight ts)))) symbols v ts
one_step (Do a ∷ symbols) v ts = Going symbols (act a v) ts

-- what has become of a step from a value: where it goes on, a value stands that `Stands` tells
abbrev pub Became : List (List ℕ) → (Parts → Type 0) → Parts → List SymbolKept → Next → Step → Type 0
Became texts Stands v symbols (next.Goes rest) step = (w : Parts) × Stands w × (step ≡ Going (stack_of symbols) w (plain_tokens texts rest.now))
Became texts Stands v symbols next.Done step = (step ≡ Finished) × Stands v
Became texts Stands v symbols next.Stuck step = step ≡ Halted

-- the same where no symbol is left
abbrev pub Ended : Next → Step → Type 0
Ended (next.Goes rest) step = ⊥
Ended next.Done step = step ≡ Finished
Ended next.Stuck step = step ≡ Halted

-- after so many turns, what is left of the run from the start is the run from here, at a value that stands
unfoldable pub RunsOn : ℕ → List Token → (Parts → Type 0) → List Symbol → List Token → Type 0
RunsOn turns ts Stands symbols rest =
    (v : Parts) × Stands v × ((n : ℕ) → run table sets (turns + n) goal start ts ≡ run table sets n symbols v rest)

-- how the run from the start ends
abbrev pub Ends : List (List ℕ) → List Token → (Parts → Type 0) → Outcome → Type 0
Ends texts ts Stands outcome.Done = (n : ℕ) × (v : Parts) × Stands v × (run table sets n goal start ts ≡ Done v)
Ends texts ts Stands (outcome.Stuck rest) = (n : ℕ) × (run table sets n goal start ts ≡ Stuck (plain_tokens texts rest.now))
