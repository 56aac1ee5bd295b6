-- One step of the run of the table with what is added, and what the code makes of it.
use Rattle.std.specs.Prelude.{◌≡◌, ℕ, List, map, reverse}
use Rattle.py_constructs.specs.Values as values
use Rattle.py_constructs.specs.Table.{Symbol}
use Rattle.py_constructs.specs.OneStep.{Step, Going, Finished, Halted}
use Rattle.py_table.specs.PlainTokens.{plain_tokens}
use Rattle.py_outside.specs.PlainSymbols.{plain_symbol}
use Rattle.py_outside.specs.PlainValues.{plain_value}
use Rattle.py_outside.specs.declared.symbol.Symbol.{Symbol as SymbolKept}
use Rattle.py_outside.specs.declared.value.Value.{Value}
use Rattle.py_outside.specs.declared.run.Advance.{Advance}
use Rattle.py_outside.specs.declared.run.Advance.TheVariants as advance
use Rattle.py_outside.specs.declared.run.Next.{Next}
use Rattle.py_outside.specs.declared.run.Next.TheVariants as next

-- the stack of symbols has its top at the end
unfoldable pub stack_of : List SymbolKept → List Symbol
stack_of symbols = map plain_symbol (reverse symbols)

-- what has become of a step from there: where the run goes no further, all is as it was
abbrev pub Became : List (List ℕ) → List Symbol → values.Value → List SymbolKept → Value → Next → Step → Type 0
Became texts symbols v others w (next.Goes rest) step = step ≡ Going (stack_of others) (plain_value w) (plain_tokens texts rest.now)
Became texts symbols v others w next.Done step = (step ≡ Finished) × (stack_of others ≡ symbols) × (plain_value w ≡ v)
Became texts symbols v others w next.Stuck step = (step ≡ Halted) × (stack_of others ≡ symbols) × (plain_value w ≡ v)

-- the same where a symbol was there, which is taken away
abbrev pub Advanced : List (List ℕ) → List Symbol → values.Value → List SymbolKept → Value → Advance → Step → Type 0
Advanced texts symbols v others w (advance.Goes rest) step = step ≡ Going (stack_of others) (plain_value w) (plain_tokens texts rest.now)
Advanced texts symbols v others w advance.Halts step = (step ≡ Halted) × (stack_of others ≡ symbols) × (plain_value w ≡ v)
