-- What stands behind a refusal of the parser.
use Rattle.std.specs.Prelude.{◌≡◌, ℕ, false, if◌then◌else◌, List, [], ◌∷◌, take, drop, Option, Some, None, ◌⊎◌}
use Rattle.py_tokens.specs.Token as texts
use Rattle.py_syntax.specs.Tree.{Body}
use Rattle.py_syntax.specs.Grammar.{IsModule}
use Rattle.py_syntax.specs.Laws.{IsLongestFront}
use Rattle.py_tokens.specs.Places.{is_before}
use Rattle.py_nesting.specs.Ordered.{AreOrdered}
use Rattle.py_nesting.specs.TooDeep.{IsFirstTooDeep, IsFirstInFront, IsShallowTo}
use Rattle.py_constructs.specs.Standing.{finding, IsFinding}
use Rattle.py_outside.specs.declared.construct.Construct.{Construct}
use Rattle.py_outside.specs.PlainConstructs.{plain_construct}
use Rattle.py_lexer.specs.PlainTokens.{plain_place, plain_kind, plain_tokens as text_tokens}
use Rattle.py_lexer.specs.declared.token.Token.{Token as TokenRead}
use Rattle.py_table.specs.PlainTokens.{plain_tokens}
use Rattle.shed_base.specs.declared.place.Place.{Place}
use Rattle.py_recogniser.specs.declared.refusal.Found.{Found}
use Rattle.py_recogniser.specs.declared.refusal.Found.TheVariants as found
use Rattle.py_recogniser.specs.declared.refusal.ParseRefusal.{ParseRefusal}
use Rattle.py_recogniser.specs.declared.refusal.ParseRefusal.TheVariants as refusal

abbrev pub beginning : texts.Place
beginning = record { «module» = 0; line = 1; column = 1 }

abbrev pub last_place : List texts.Token → texts.Place
last_place [] = beginning
last_place (t ∷ []) = t.place
last_place (t ∷ u ∷ ts) = last_place (u ∷ ts)

-- what stands at the front of the rest of these tokens: the end has the place of the last one
abbrev pub IsFound : List (List ℕ) → List texts.Token → Place → Found → List texts.Token → Type 0
IsFound names ts p found.End [] = plain_place p ≡ last_place ts
IsFound names ts p (found.Token k) [] = ⊥
IsFound names ts p found.End (t ∷ rest) = ⊥
IsFound names ts p (found.Token k) (t ∷ rest) = (plain_place p ≡ t.place) × (plain_kind names k ≡ t.kind)

-- the first so many tokens are the longest front, and behind it stands what is no module's
abbrev pub IsUnexpectedAt : List (List ℕ) → List TokenRead → ℕ → Place → Found → Type 0
IsUnexpectedAt names ts count p f =
    IsLongestFront (take count (plain_tokens names ts)) (drop count (plain_tokens names ts)) × IsFound names (text_tokens names ts) p f (drop count (text_tokens names ts))
    × IsFinding (plain_tokens names ts) count None

-- or a construct outside the profile
abbrev pub IsOutsideAt : List (List ℕ) → List TokenRead → ℕ → Place → Construct → Type 0
IsOutsideAt names ts count p c =
    IsLongestFront (take count (plain_tokens names ts)) (drop count (plain_tokens names ts)) × IsFinding (plain_tokens names ts) count (Some (finding (plain_construct c) (plain_place p)))

abbrev pub IsStuckAt : List (List ℕ) → List TokenRead → ℕ → Place → Type 0
IsStuckAt names ts count p = ((f : Found) × IsUnexpectedAt names ts count p f) ⊎ ((c : Construct) × IsOutsideAt names ts count p c)

-- where no module comes of the tokens, a place of the longest front that is nested too deep, and stands no later than where they are stuck
abbrev pub IsDeepInFront : List (List ℕ) → List TokenRead → Place → Type 0
IsDeepInFront names ts p =
    (count : ℕ) × (stuck : Place) × IsStuckAt names ts count stuck × (is_before (plain_place stuck) (plain_place p) ≡ false)
    × (AreOrdered (plain_tokens names ts) → IsFirstInFront (Some (plain_place p)) (take count (plain_tokens names ts)))

-- where the tokens are in the order of a text, nothing in their longest front is nested too deep before what is said, nor at it
abbrev pub IsParseRefused : List (List ℕ) → List TokenRead → ParseRefusal → Type 0
IsParseRefused names ts (refusal.Unexpected p f) =
    (count : ℕ) × IsUnexpectedAt names ts count p f × (AreOrdered (plain_tokens names ts) → IsShallowTo (plain_place p) (take count (plain_tokens names ts)))
IsParseRefused names ts (refusal.Outside p c) =
    (count : ℕ) × IsOutsideAt names ts count p c × (AreOrdered (plain_tokens names ts) → IsShallowTo (plain_place p) (take count (plain_tokens names ts)))
IsParseRefused names ts (refusal.TooDeep p) = ((tree : Body) × IsModule tree (plain_tokens names ts) × IsFirstTooDeep (plain_place p) tree) ⊎ IsDeepInFront names ts p
IsParseRefused names ts refusal.NoMemory = Unit {0}

-- a place that stands no later than another
abbrev pub no_later : Option texts.Place → texts.Place → Option texts.Place
no_later None p = None
no_later (Some q) p = if is_before p q then None else Some q
