-- The run over the first of some tokens, where it has read them.
use Rattle.std.specs.Prelude.{ℕ, zero, suc, ◌==◌, if◌then◌else◌, List, [], ◌∷◌, ◌++◌, Option, Some, None}
use Rattle.grammars.specs.Grammar.{Tok, Non, Do, Row}
use Rattle.grammars.specs.Run.{pick}
use Rattle.py_syntax.specs.Token.{Token}
use Rattle.py_syntax.specs.Kinds.{kind_of}
use Rattle.py_constructs.specs.Construct.{Construct}
use Rattle.py_constructs.specs.Values.{Value, take_in, Action, act}
use Rattle.py_constructs.specs.Table.{Name, Symbol, extended, sets}

-- where it stands
pub data Standing : Type 0 where
  at : (symbols : List Symbol) → (value : Value) → Standing

abbrev pub through : (List Symbol → Option Standing) → List Symbol → Option (Row Name Action Value) → Option Standing
through again symbols None = None
through again symbols (Some r) = again (r.symbols ++ symbols)

abbrev pub front_read : Construct → ℕ → List Symbol → Value → List Token → Option Standing
front_read c n symbols v [] = Some (at symbols v)
front_read c zero symbols v (t ∷ ts) = None
front_read c (suc n) [] v (t ∷ ts) = None
front_read c (suc n) (Tok k ∷ symbols) v (t ∷ ts) = if kind_of t == k then front_read c n symbols (take_in t v) ts else None
front_read c (suc n) (Non x ∷ symbols) v (t ∷ ts) = through (λ ss. front_read c n ss v (t ∷ ts)) symbols (pick (extended c) sets x v (Some (kind_of t)))
front_read c (suc n) (Do a ∷ symbols) v (t ∷ ts) = front_read c n symbols (act a v) (t ∷ ts)
