-- The ways on in which the last expression is assigned to.
use Rattle.std.specs.Prelude.{◌≡◌, ℕ, zero, suc, ◌≤◌, Bool, true, false, List, [], ◌∷◌, ◌++◌, length, Option, Some, None}
use Rattle.grammars.specs.Grammar.{Tok, Non, Do, IsRow}
use Rattle.grammars.specs.Sets.{have_specimens}
use Rattle.py_tokens.specs.Token.{Place}
use Rattle.py_syntax.specs.Token.{Token, At}
use Rattle.py_syntax.specs.Kinds.{kind_at}
use Rattle.py_syntax.specs.Tree.{Body}
use Rattle.py_syntax.specs.Build.{PToken, Parts, MakeTargets, AddTargets}
use Rattle.py_syntax.specs.Grammar.{IsModule}
use Rattle.py_syntax.specs.Table.{Symbol, Nonterminal, the_equal, row, rows, table, sets, SmallTail, AssignTail, ExpressionList}
use Rattle.py_nesting.specs.Asked.{targets_last}
use Rattle.py_nesting.specs.Depths.{body_depth}
use Rattle.py_nesting.specs.Shapes.{Entry, entry_of, entries_of}
use Rattle.py_nesting.specs.Effects.{Effect, effect, effect_of}
use Rattle.py_nesting.specs.Walk.{Demand, Whole}
use Rattle.py_fronts.specs.AtFront.{AtFront}
use Rattle.py_demands.specs.Asks.{avoids}
use Rattle.py_demands.specs.Bound.{standing}
use Rattle.py_demands.specs.Closing.{closing, exactly}

-- what may come behind an expression with an equals sign after it
abbrev pub is_tail : Nonterminal → Bool
is_tail SmallTail = true
is_tail AssignTail = true
is_tail x = false

abbrev pub turning : Nonterminal → List Symbol
turning AssignTail = the_equal ∷ Do AddTargets ∷ Non ExpressionList ∷ Non AssignTail ∷ []
turning x = the_equal ∷ Do MakeTargets ∷ Non ExpressionList ∷ Non AssignTail ∷ []

abbrev pub with_effect : (List Entry → Option (List Entry)) → Option Effect → Option (List Entry)
with_effect go None = None
with_effect go (Some (effect new events)) = go new

abbrev pub then_ends : (List Entry → Option (List Entry)) → Option (List Entry) → Option (List Entry)
then_ends go None = None
then_ends go (Some es) = go es

-- What symbols leave of the parts before them where they are closed by tokens at p, each nonterminal by its closing row and so many of them
-- below one another at most.
abbrev pub ends : ℕ → Place → List Symbol → List Entry → Option (List Entry)
ends n p [] es = Some es
ends n p (Tok k ∷ symbols) es = ends n p symbols (entry_of (PToken (At p (kind_at k))) ∷ es)
ends n p (Do a ∷ symbols) es = with_effect (ends n p symbols) (effect_of a es)
ends zero p (Non x ∷ symbols) es = None
ends (suc n) p (Non x ∷ symbols) es = then_ends (ends (suc n) p symbols) (ends n p (closing x) es)

-- The front is closed by tokens at that place to a module in which the nodes of the parts have just the depths that these demands tell.
abbrev pub IsReached : List Token → Parts → List Demand → Place → Type 0
IsReached front v ds p =
    (more : List Token) × (body : Body) × IsModule body (front ++ more) × ((at : Place → Bool) → at p ≡ false → avoids at more ≡ true)
    × (length ds ≡ length (entries_of v)) × ((at : Place → Bool) → (standing at v ds ≤ body_depth at body) × (at p ≡ false → body_depth at body ≤ standing at v ds))

-- Where the symbols of an expression are closed and leave what may be targets, it is assigned to.
abbrev pub TurningLaw : Type 0
TurningLaw =
    (front : List Token) (above rest : List Symbol) (x : Nonterminal) (v : Parts) (es : List Entry) (us ds : List Demand) (p : Place) (n : ℕ) → is_tail x ≡ true
    → AtFront front [] (above ++ Non x ∷ rest) v → have_specimens table sets (above ++ Non x ∷ rest) ≡ true
    → ends n p above (entries_of v) ≡ Some es → targets_last es ≡ true
    → exactly (turning x ++ rest) (Some (Whole 0 ∷ [])) ≡ Some us → exactly above (Some us) ≡ Some ds → IsReached front v ds p

-- And where they do so if one of them gives way to another row than the closing one: an attribute or a subscript is made, say.
abbrev pub OtherRowLaw : Type 0
OtherRowLaw =
    (front : List Token) (first these above rest : List Symbol) (y x : Nonterminal) (v : Parts) (fs es : List Entry) (us ws ds : List Demand) (p : Place) (n : ℕ)
    → IsRow (row these) (rows y) → is_tail x ≡ true
    → AtFront front [] (first ++ (Non y ∷ above ++ Non x ∷ rest)) v → have_specimens table sets (first ++ (Non y ∷ above ++ Non x ∷ rest)) ≡ true
    → ends n p first (entries_of v) ≡ Some fs → ends n p (these ++ above) fs ≡ Some es → targets_last es ≡ true
    → exactly (turning x ++ rest) (Some (Whole 0 ∷ [])) ≡ Some us → exactly (these ++ above) (Some us) ≡ Some ws → exactly first (Some ws) ≡ Some ds → IsReached front v ds p
