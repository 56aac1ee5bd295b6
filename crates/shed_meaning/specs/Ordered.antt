-- The tokens of a text as the grammar sees them stand in its order.
use Rattle.std.specs.Prelude.{◌≡◌, ℕ, List, take}
use Rattle.runs.specs.Number.{Width}
use Rattle.py_tokens.specs.Token as texts
use Rattle.py_tokens.specs.Tokens.{tokens_of}
use Rattle.py_syntax.specs.Token.{Token}
use Rattle.py_nesting.specs.Ordered.{AreOrdered}
use Rattle.py_meaning.specs.Source.{grammar_tokens}

-- and so do those of a front
abbrev pub GrammarOrderedLaw : Type 0
GrammarOrderedLaw =
    ((n : ℕ) (w : Width) (text : List ℕ) (ts : List texts.Token) → tokens_of n w text ≡ texts.Tokens ts → AreOrdered (grammar_tokens ts))
    × ((count : ℕ) (ts : List Token) → AreOrdered ts → AreOrdered (take count ts))
