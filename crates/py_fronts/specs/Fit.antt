-- Symbols that find on the stack what they take, whatever tokens they derive.
use Rattle.std.specs.Prelude.{◌≡◌, true, List, [], ◌∷◌, ◌++◌, Some}
use Rattle.grammars.specs.Grammar.{Tok, Non, Do}
use Rattle.grammars.specs.Derivation.{Yields}
use Rattle.py_syntax.specs.Token.{Token}
use Rattle.py_syntax.specs.Build.{Parts}
use Rattle.py_syntax.specs.Table.{Symbol, Nonterminal, table}
use Rattle.py_syntax.specs.Laws.{goal, start}
use Rattle.py_nesting.specs.Outlines.{Event}
use Rattle.py_nesting.specs.Shapes.{Entry, entries_of, outlines_of}
use Rattle.py_nesting.specs.Effects.{effect, effect_of, after_all}
use Rattle.py_fronts.specs.Kinds.{fits, all_fit, token_kind, takes, gives}

-- the rest of the stack is left alone
pub record Takes (x : Nonterminal) (es : List Entry) : Type 0 where
  pub front : List Entry
  pub below : List Entry
  pub parts : es ≡ front ++ below
  pub fit : all_fit (takes x) front ≡ true

abbrev pub Fit : List Symbol → List Entry → Type 0
Fit [] es = Unit {0}
Fit (Tok k ∷ symbols) es = (e : Entry) → fits (token_kind k) e ≡ true → Fit symbols (e ∷ es)
Fit (Do a ∷ symbols) es = (new : List Entry) × (events : List Event) × (effect_of a es ≡ Some (effect new events)) × Fit symbols new
Fit (Non x ∷ symbols) es = (t : Takes x es) × ((new : List Entry) → all_fit (gives x) new ≡ true → Fit symbols (new ++ t.below))

-- What symbols derive takes outlines to outlines by events.
abbrev pub FitLaw : Type 0
FitLaw =
    (symbols : List Symbol) (v w : Parts) (ts : List Token) → Fit symbols (entries_of v) → Yields table symbols v ts w
    → (events : List Event) × (after_all events (Some (outlines_of v)) ≡ Some (outlines_of w))

-- at the start
abbrev pub StartLaw : Type 0
StartLaw = Fit goal (entries_of start)
