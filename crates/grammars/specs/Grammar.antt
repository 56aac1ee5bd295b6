-- A grammar as data: rows of symbols for each nonterminal, with actions that build the value of a sentence.
--
-- N names the nonterminals, A the actions; T is the type of tokens, and V that of values, mostly a stack of what has
-- been built. Of a token the grammar sees a number, its kind; what else it has goes into the value as it is read.
use Rattle.std.specs.Prelude.{◌≡◌, ℕ, Bool, true, List, [], ◌∷◌, ◌⊎◌, Option, Some, None}

pub data Sym (N A : Type 0) : Type 0 where
  -- a token of this kind
  Tok : (kind : ℕ) → Sym N A
  Non : (nonterminal : N) → Sym N A
  -- no token is read, and the value is changed
  Do : (action : A) → Sym N A

-- when a row may be taken, by the value so far
pub data Guard (V : Type 0) : Type 0 where
  Always : Guard V
  Where : (test : V → Bool) → Guard V

abbrev pub allows : {V : Type 0} → Guard V → V → Bool
allows Always v = true
allows (Where test) v = test v

pub record Row (N A V : Type 0) : Type 0 where
  pub guard : Guard V
  pub symbols : List (Sym N A)

pub record Grammar (N A T V : Type 0) : Type 0 where
  pub kind : T → ℕ
  -- the value after a token
  pub take_in : T → V → V
  -- the value after an action
  pub act : A → V → V
  pub rows : N → List (Row N A V)

-- one of the rows
abbrev pub IsRow : {N A V : Type 0} → Row N A V → List (Row N A V) → Type 0
IsRow r [] = ⊥
IsRow r (q ∷ rows) = (r ≡ q) ⊎ IsRow r rows

-- what lies ahead: the kind of the next token, or that there is none
abbrev pub Sight : Type 0
Sight = Option ℕ

abbrev pub sight : {N A T V : Type 0} → Grammar N A T V → List T → Sight
sight G [] = None
sight G (t ∷ ts) = Some (G.kind t)
