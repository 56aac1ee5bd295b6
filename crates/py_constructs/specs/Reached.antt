-- Where a run stands when some tokens have been read, and what it then knows of a construct's head.
use Rattle.std.specs.Option.{option_map}
use Rattle.std.specs.Prelude.{◌≡◌, ℕ, ◌<◌, ◌≤◌, nat_lt, if◌then◌else◌, Bool, true, false, ◌&&◌, List, [], ◌∷◌, ◌++◌, length, Option, Some, None, ◌⊎◌}
use Rattle.grammars.specs.Grammar.{Tok, Non, Do}
use Rattle.grammars.specs.Derivation.{Yields}
use Rattle.grammars.specs.Sets.{have_specimens}
use Rattle.grammars.specs.Run.{Stuck, run}
use Rattle.py_syntax.specs.Token.{Token}
use Rattle.py_constructs.specs.Construct.{Construct}
use Rattle.py_constructs.specs.Values.{Numbered, Told, Value, begin, Own, Head, Hold, Forget, Plain, TellTargets, TellLoop, HoldSlice, act}
use Rattle.py_constructs.specs.Table.{Symbol, extended, sets, goal}
use Rattle.py_constructs.specs.Standing.{StandsAt}

-- a head is told just behind a token; `just` says whether a token stands before these symbols
abbrev pub heads_follow : Bool → List Symbol → Bool
heads_follow just [] = true
heads_follow just (Tok k ∷ symbols) = heads_follow true symbols
heads_follow just (Non x ∷ symbols) = heads_follow false symbols
heads_follow just (Do Head ∷ symbols) = just && heads_follow false symbols
heads_follow just (Do Hold ∷ symbols) = heads_follow false symbols
heads_follow just (Do Forget ∷ symbols) = heads_follow false symbols
heads_follow just (Do Plain ∷ symbols) = heads_follow false symbols
heads_follow just (Do TellTargets ∷ symbols) = just && heads_follow false symbols
heads_follow just (Do TellLoop ∷ symbols) = just && heads_follow false symbols
heads_follow just (Do HoldSlice ∷ symbols) = heads_follow false symbols
heads_follow just (Do (Own a) ∷ symbols) = heads_follow false symbols

-- what is told once the head of a token that was just read is
abbrev pub settled : List Symbol → Value → Option Told
settled (Do Head ∷ symbols) v = (act Head v).told
settled (Do TellTargets ∷ symbols) v = (act TellTargets v).told
settled (Do TellLoop ∷ symbols) v = (act TellLoop v).told
settled symbols v = v.told

-- these symbols and this value are what is left when these tokens have been read
pub record Reached (c : Construct) (before : List Token) (symbols : List Symbol) (v : Value) : Type 0 where
  pub derives : (more : List Token) (w : Value) → Yields (extended c) symbols v more w → Yields (extended c) goal begin (before ++ more) w
  pub specimens : have_specimens (extended c) sets symbols ≡ true
  pub headed : heads_follow true symbols ≡ true
  pub read : v.read ≡ length before
  pub known : (t : Told) → v.told ≡ Some t → t.known ≤ v.read

-- where a run has ended
pub record End (c : Construct) (ts : List Token) (v : Value) : Type 0 where
  pub before : List Token
  pub rest : List Token
  pub symbols : List Symbol
  pub split : ts ≡ before ++ rest
  pub reached : Reached c before symbols v
  pub settled_so : settled symbols v ≡ v.told
  pub steps : ℕ
  pub ended : (run (extended c) sets steps goal begin ts ≡ Stuck rest) ⊎ (rest ≡ [])

-- the head that is told, if the first bad token has been read
abbrev pub head_at : ℕ → Value → Option Numbered
head_at first v = if nat_lt first v.read then option_map (λ (t : Told). t.head) v.told else None

-- where one construct stands
abbrev pub IsHead : Construct → List Token → ℕ → Option Numbered → Type 0
IsHead c ts first None = (head : Numbered) → StandsAt c head ts first → ⊥
IsHead c ts first (Some head) = StandsAt c head ts first

abbrev pub EndLaw : Type 0
EndLaw = (c : Construct) (ts : List Token) (v : Value) (first : ℕ) → End c ts v → IsHead c ts first (head_at first v)

-- a construct stands at one head at most
abbrev pub OnceLaw : Type 0
OnceLaw = (c : Construct) (one other : Numbered) (ts : List Token) (first : ℕ) → StandsAt c one ts first → StandsAt c other ts first → one ≡ other

-- it stands at the head that is told, once the first bad token has been read
abbrev pub ToldLaw : Type 0
ToldLaw =
    (c : Construct) (before rest : List Token) (symbols : List Symbol) (v : Value) (t : Told) (first : ℕ) → Reached c before symbols v
    → v.told ≡ Some t → first < length before → StandsAt c t.head (before ++ rest) first

-- and nowhere, where a run is stuck or at the end that has not come so far or has told nothing
abbrev pub StuckLaw : Type 0
StuckLaw =
    (c : Construct) (n : ℕ) (before rest : List Token) (symbols : List Symbol) (v : Value) (first : ℕ) → Reached c before symbols v
    → (run (extended c) sets n goal begin (before ++ rest) ≡ Stuck rest) ⊎ (rest ≡ []) → (length before ≤ first) ⊎ (settled symbols v ≡ None)
    → (head : Numbered) → StandsAt c head (before ++ rest) first → ⊥
