-- What is asked behind small fronts, worked out by hand: at least, where the front is closed, and how deep its nodes stand there.
use Rattle.std.proofs.Common.{◌≡◌, ℕ, true, List, [], ◌∷◌, map, Option, Some, None, refl}
use Rattle.py_tokens.specs.Token.{Place}
use Rattle.py_syntax.specs.Token.{TName, TKeyword, TOperator, TNumber, TNewline, TIndent, Token, At}
use Rattle.py_syntax.specs.Build.{Parts}
use Rattle.py_nesting.specs.TooDeep.{same_place}
use Rattle.py_nesting.specs.Walk.{Demand, Nothing, Whole, Inside}
use Rattle.py_demands.specs.Least.{Ask, NoNode, AtLeast, WithinAtLeast, OpenAtLeast, least}
use Rattle.py_demands.specs.Closing.{exactly}
use Rattle.py_demands.specs.Bound.{standing}
pub use Rattle.py_demands.specs.Stops.{Stop, nowhere, stop, behind}

abbrev pub spot : ℕ → Place
spot c = record { «module» = 0; line = 1; column = c }

-- tokens at a column
abbrev pub name : ℕ → Token
name c = At (spot c) (TName true 7)

abbrev pub number : ℕ → Token
number c = At (spot c) (TNumber 1)

abbrev pub operator : ℕ → ℕ → Token
operator c s = At (spot c) (TOperator (s ∷ []))

abbrev pub word : ℕ → List ℕ → Token
word c s = At (spot c) (TKeyword s)

-- ( ) [ , . + = :
abbrev pub round : ℕ → Token
round c = operator c 40

abbrev pub close : ℕ → Token
close c = operator c 41

abbrev pub square : ℕ → Token
square c = operator c 91

abbrev pub comma : ℕ → Token
comma c = operator c 44

abbrev pub dot : ℕ → Token
dot c = operator c 46

abbrev pub plus : ℕ → Token
plus c = operator c 43

abbrev pub equals : ℕ → Token
equals c = operator c 61

abbrev pub colon : ℕ → Token
colon c = operator c 58

abbrev pub asks_at : Stop → Option (List Ask)
asks_at nowhere = None
asks_at (stop symbols v) = least symbols (Some (AtLeast 0 ∷ []))

abbrev pub demands_at : Stop → Option (List Demand)
demands_at nowhere = None
demands_at (stop symbols v) = exactly symbols (Some (Whole 0 ∷ []))

abbrev pub depths : Parts → Option (List Demand) → List ℕ → List ℕ
depths v None columns = []
depths v (Some ds) columns = map (λ (c : ℕ). standing (same_place (spot c)) v ds) columns

abbrev pub depths_at : Stop → List ℕ → List ℕ
depths_at nowhere columns = []
depths_at (stop symbols v) columns = depths v (exactly symbols (Some (Whole 0 ∷ []))) columns

-- x = ((
abbrev brackets : List Token
brackets = name 1 ∷ equals 3 ∷ round 5 ∷ round 6 ∷ []

brackets_asked : asks_at (behind brackets) ≡ Some (AtLeast 2 ∷ AtLeast 1 ∷ AtLeast 1 ∷ AtLeast 0 ∷ [])
brackets_asked = refl

brackets_demanded : demands_at (behind brackets) ≡ Some (Whole 2 ∷ Whole 1 ∷ Whole 1 ∷ Whole 0 ∷ [])
brackets_demanded = refl

brackets_deep : depths_at (behind brackets) (1 ∷ 3 ∷ 5 ∷ 6 ∷ []) ≡ 2 ∷ 0 ∷ 2 ∷ 3 ∷ []
brackets_deep = refl

-- (x + ((: what stands below the sign has one more above it
abbrev sum : List Token
sum = round 1 ∷ name 2 ∷ plus 4 ∷ round 6 ∷ round 7 ∷ []

sum_asked : asks_at (behind sum) ≡ Some (AtLeast 4 ∷ AtLeast 3 ∷ AtLeast 2 ∷ AtLeast 3 ∷ AtLeast 1 ∷ AtLeast 0 ∷ [])
sum_asked = refl

sum_demanded : demands_at (behind sum) ≡ Some (Whole 4 ∷ Whole 3 ∷ Whole 2 ∷ Whole 3 ∷ Whole 1 ∷ Whole 0 ∷ [])
sum_demanded = refl

sum_deep : depths_at (behind sum) (1 ∷ 2 ∷ 4 ∷ 6 ∷ 7 ∷ []) ≡ 2 ∷ 4 ∷ 3 ∷ 4 ∷ 5 ∷ []
sum_deep = refl

-- print((1: the call may yet be assigned to, by what comes behind it
abbrev call : List Token
call = name 1 ∷ round 6 ∷ round 7 ∷ number 8 ∷ []

call_asked : asks_at (behind call) ≡ Some (AtLeast 3 ∷ AtLeast 2 ∷ OpenAtLeast 1 ∷ AtLeast 0 ∷ [])
call_asked = refl

call_demanded : demands_at (behind call) ≡ Some (Whole 3 ∷ Whole 2 ∷ Whole 1 ∷ Whole 0 ∷ [])
call_demanded = refl

call_deep : depths_at (behind call) (1 ∷ 6 ∷ 7 ∷ 8 ∷ []) ≡ 3 ∷ 2 ∷ 3 ∷ 4 ∷ []
call_deep = refl

-- if x: and y in its block
abbrev block : List Token
block = word 1 (105 ∷ 102 ∷ []) ∷ name 4 ∷ colon 5 ∷ At (spot 6) TNewline ∷ At (spot 7) TIndent ∷ name 8 ∷ []

block_asked : asks_at (behind block) ≡ Some (OpenAtLeast 2 ∷ AtLeast 1 ∷ NoNode ∷ AtLeast 1 ∷ AtLeast 0 ∷ AtLeast 0 ∷ [])
block_asked = refl

block_demanded : demands_at (behind block) ≡ Some (Whole 2 ∷ Whole 1 ∷ Nothing ∷ Whole 1 ∷ Whole 0 ∷ Whole 0 ∷ [])
block_demanded = refl

block_deep : depths_at (behind block) (1 ∷ 4 ∷ 5 ∷ 8 ∷ []) ≡ 1 ∷ 2 ∷ 0 ∷ 3 ∷ []
block_deep = refl

-- [a, b: items have as many above them in a list as among targets
abbrev list : List Token
list = square 1 ∷ name 2 ∷ comma 3 ∷ name 5 ∷ []

list_asked : asks_at (behind list) ≡ Some (AtLeast 2 ∷ WithinAtLeast 2 ∷ AtLeast 1 ∷ AtLeast 0 ∷ [])
list_asked = refl

list_demanded : demands_at (behind list) ≡ Some (Whole 2 ∷ Inside 2 ∷ Whole 1 ∷ Whole 0 ∷ [])
list_demanded = refl

list_deep : depths_at (behind list) (1 ∷ 2 ∷ 3 ∷ 5 ∷ []) ≡ 2 ∷ 3 ∷ 0 ∷ 3 ∷ []
list_deep = refl

-- a, b: as targets the items have one less above them, so the two do not agree
abbrev pair : List Token
pair = name 1 ∷ comma 2 ∷ name 4 ∷ []

pair_asked : asks_at (behind pair) ≡ Some (AtLeast 1 ∷ OpenAtLeast 1 ∷ AtLeast 0 ∷ [])
pair_asked = refl

pair_demanded : demands_at (behind pair) ≡ Some (Whole 2 ∷ Whole 1 ∷ Whole 0 ∷ [])
pair_demanded = refl

pair_deep : depths_at (behind pair) (1 ∷ 2 ∷ 4 ∷ []) ≡ 3 ∷ 2 ∷ 3 ∷ []
pair_deep = refl

-- f(x)[
abbrev subscript : List Token
subscript = name 1 ∷ round 2 ∷ name 3 ∷ close 4 ∷ square 5 ∷ []

subscript_asked : asks_at (behind subscript) ≡ Some (AtLeast 1 ∷ AtLeast 2 ∷ AtLeast 0 ∷ [])
subscript_asked = refl

subscript_demanded : demands_at (behind subscript) ≡ Some (Whole 1 ∷ Whole 2 ∷ Whole 0 ∷ [])
subscript_demanded = refl

subscript_deep : depths_at (behind subscript) (1 ∷ 2 ∷ 3 ∷ 5 ∷ []) ≡ 4 ∷ 3 ∷ 4 ∷ 2 ∷ []
subscript_deep = refl

-- (a, f(x): nor here
abbrev bracketed_pair : List Token
bracketed_pair = round 1 ∷ name 2 ∷ comma 3 ∷ name 5 ∷ round 6 ∷ name 7 ∷ close 8 ∷ []

bracketed_pair_asked : asks_at (behind bracketed_pair) ≡ Some (AtLeast 2 ∷ OpenAtLeast 2 ∷ AtLeast 1 ∷ AtLeast 0 ∷ [])
bracketed_pair_asked = refl

bracketed_pair_demanded : demands_at (behind bracketed_pair) ≡ Some (Whole 3 ∷ Whole 2 ∷ Whole 1 ∷ Whole 0 ∷ [])
bracketed_pair_demanded = refl

bracketed_pair_deep : depths_at (behind bracketed_pair) (1 ∷ 2 ∷ 3 ∷ 5 ∷ 6 ∷ 7 ∷ []) ≡ 2 ∷ 4 ∷ 3 ∷ 5 ∷ 4 ∷ 5 ∷ []
bracketed_pair_deep = refl

-- x = a.b +
abbrev value : List Token
value = name 1 ∷ equals 3 ∷ name 5 ∷ dot 6 ∷ name 7 ∷ plus 9 ∷ []

value_asked : asks_at (behind value) ≡ Some (AtLeast 1 ∷ AtLeast 2 ∷ AtLeast 1 ∷ AtLeast 0 ∷ [])
value_asked = refl

value_demanded : demands_at (behind value) ≡ Some (Whole 1 ∷ Whole 2 ∷ Whole 1 ∷ Whole 0 ∷ [])
value_demanded = refl

value_deep : depths_at (behind value) (1 ∷ 5 ∷ 6 ∷ 9 ∷ []) ≡ 2 ∷ 4 ∷ 3 ∷ 2 ∷ []
value_deep = refl

-- a.: the dot waits for its name
abbrev attribute : List Token
attribute = name 1 ∷ dot 2 ∷ []

attribute_asked : asks_at (behind attribute) ≡ Some (AtLeast 1 ∷ AtLeast 2 ∷ AtLeast 0 ∷ [])
attribute_asked = refl

attribute_demanded : demands_at (behind attribute) ≡ Some (Whole 1 ∷ Whole 2 ∷ Whole 0 ∷ [])
attribute_demanded = refl

attribute_deep : depths_at (behind attribute) (1 ∷ 2 ∷ []) ≡ 3 ∷ 2 ∷ []
attribute_deep = refl
