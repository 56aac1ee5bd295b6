-- Steps of the run.
use Rattle.std.proofs.Common.{◌≡◌, ℕ, Bool, true, false, List, [], ◌∷◌, ◌++◌, Option, Some, None, if◌then◌else◌, sym, ap, ◌∙◌, eq-eqb}
use Rattle.grammars.specs.Grammar.{Tok, Non, allows, Row, Sight, sight}
use Rattle.grammars.specs.Run.{pick}
use Rattle.py_syntax.specs.Token.{Token}
use Rattle.py_syntax.specs.Kinds.{kind_of}
use Rattle.py_constructs.specs.Values as values
use Rattle.py_constructs.specs.Values.{Action, take_in}
use Rattle.py_constructs.specs.Table.{Name, Symbol, Addition, grammar_with, sets}
use Rattle.py_constructs.specs.OneStep.{Going, Halted, expanded, one_step}
use Rattle.py_table.specs.Sights.{sight_numbered, number_of_sight}
use Rattle.py_table.proofs.Turns.{sight_of_number}
use Rattle.py_outside.specs.Sights.{allowed}

pub token_read : (more : List Addition) (k : ℕ) (symbols : List Symbol) (v w : values.Value) (t : Token) (ts all : List Token)
    → all ≡ t ∷ ts → kind_of t ≡ k → w ≡ take_in t v → one_step more (Tok k ∷ symbols) v all ≡ Going symbols w ts
token_read more k symbols v w t ts all e f g = rw (e, eq-eqb (kind_of t) k f) (ap (λ (u : values.Value). Going symbols u ts) (sym g))

-- the sight that a number stands for
abbrev pub AtSight : List Addition → List Token → Sight → Type 0
AtSight more ts s = sight (grammar_with more) ts ≡ s

pub at_sight : (more : List Addition) (ts : List Token) (n : ℕ) → n ≡ number_of_sight ts → AtSight more ts (sight_numbered n)
at_sight more [] n e = sight_of_number [] ∙ ap sight_numbered (sym e)
at_sight more (t ∷ ts) n e = sight_of_number (t ∷ ts) ∙ ap sight_numbered (sym e)

-- a row that is picked takes the place of its name
pub row_taken : (more : List Addition) (x : Name) (symbols others : List Symbol) (v : values.Value) (ts : List Token) (s : Sight) (r : Row Name Action values.Value) → AtSight more ts s
    → pick (grammar_with more) sets x v s ≡ allowed v (Some r) → true ≡ allows r.guard v → others ≡ r.symbols ++ symbols
    → one_step more (Non x ∷ symbols) v ts ≡ Going others v ts
row_taken more x symbols others v ts s r a p g e =
    ap (λ (z : Sight). expanded (pick (grammar_with more) sets x v z) symbols v ts) a
    ∙ ap (λ (o : Option (Row Name Action values.Value)). expanded o symbols v ts) (p ∙ ap (λ (b : Bool). if b then Some r else None) (sym g))
    ∙ ap (λ (l : List Symbol). Going l v ts) (sym e)

-- where none is, or its guard forbids it, the run halts
pub no_row : (more : List Addition) (x : Name) (symbols : List Symbol) (v : values.Value) (ts : List Token) (s : Sight) (o : Option (Row Name Action values.Value)) → AtSight more ts s
    → pick (grammar_with more) sets x v s ≡ o → o ≡ None → one_step more (Non x ∷ symbols) v ts ≡ Halted
no_row more x symbols v ts s o a p n =
    ap (λ (z : Sight). expanded (pick (grammar_with more) sets x v z) symbols v ts) a ∙ ap (λ (q : Option (Row Name Action values.Value)). expanded q symbols v ts) (p ∙ n)

pub forbidden : (v : values.Value) (r : Row Name Action values.Value) → false ≡ allows r.guard v → allowed v (Some r) ≡ None
forbidden v r g = ap (λ (b : Bool). if b then Some r else None) (sym g)
