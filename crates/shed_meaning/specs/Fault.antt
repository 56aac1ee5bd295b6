-- Why the text of a module is not translated: no tokens, no tree, a tree that is too deep, or one that isn't built.
use Rattle.std.specs.Prelude.{◌≡◌, ℕ, false, List, [], ◌∷◌, ◌++◌, take, drop, Some, None, ◌⊎◌, codes}
use Rattle.std.specs.Fmt.{decimal}
use Rattle.runs.specs.Number.{W32}
use Rattle.py_tokens.specs.Token.{Place, Refusal, NotUtf8, BadCharacter, BadIndent, MixedTabs, UnclosedText, UnclosedBracket, BadEscape, WideNumber, NonAsciiText, NotNormal, TooLong, Token, Tokens, Refused}
use Rattle.py_tokens.specs.Tokens.{tokens_of}
use Rattle.py_syntax.specs.Tree as whole
use Rattle.py_syntax.specs.Grammar.{IsModule}
use Rattle.py_syntax.specs.Laws.{IsLongestFront}
use Rattle.py_tokens.specs.Places.{is_before}
use Rattle.py_nesting.specs.TooDeep.{IsFirstTooDeep, IsFirstInFront, IsShallowTo}
use Rattle.py_constructs.specs.Construct.{Construct, construct_text}
use Rattle.py_constructs.specs.Standing.{finding, IsFinding}
use Rattle.py_meaning.specs.Name.{Name, text_of}
use Rattle.py_meaning.specs.Built.{unbuilt, first_place}
use Rattle.py_meaning.specs.Source.{IsText, grammar_tokens}
use Rattle.shed_meaning.specs.TokenText.{token_text}

pub data Fault : Type 0 where
  -- it has no tokens
  BadToken : (refusal : Refusal) → (place : Place) → Fault
  -- its tokens have no tree: the first with which no front of a module goes on, as it is printed
  Unexpected : (place : Place) → (said : List ℕ) → Fault
  -- in place of such a token a construct outside the profile stands, whose head has this place
  Outside : (place : Place) → (construct : Construct) → Fault
  -- the first place by place where a node has too many others above it: one of its tree, or where it has none one that stands so deep in
  -- each module that goes on as it does
  TooDeep : (place : Place) → Fault
  -- the first place by place that isn't built
  Unbuilt : (place : Place) → Fault

abbrev pub beginning : Place
beginning = record { «module» = 0; line = 1; column = 1 }

abbrev pub last_place : List Token → Place
last_place [] = beginning
last_place (t ∷ []) = t.place
last_place (t ∷ u ∷ ts) = last_place (u ∷ ts)

-- what stands at the front of the rest of some tokens: the end has the place of the last token
abbrev pub place_at : List Token → List Token → Place
place_at ts [] = last_place ts
place_at ts (t ∷ rest) = t.place

abbrev pub said_at : List Token → List ℕ
said_at [] = codes "END"
said_at (t ∷ rest) = token_text t.kind

-- the longest front of these tokens has some number of them, and behind it stands what is said
pub record IsUnexpected (ts : List Token) (p : Place) (said : List ℕ) : Type 0 where
  pub count : ℕ
  pub longest : IsLongestFront (take count (grammar_tokens ts)) (drop count (grammar_tokens ts))
  pub place : p ≡ place_at ts (drop count ts)
  pub words : said ≡ said_at (drop count ts)
  pub none : IsFinding (grammar_tokens ts) count None

-- the same with a construct in place of what is said
pub record IsOutside (ts : List Token) (p : Place) (c : Construct) : Type 0 where
  pub count : ℕ
  pub longest : IsLongestFront (take count (grammar_tokens ts)) (drop count (grammar_tokens ts))
  pub found : IsFinding (grammar_tokens ts) count (Some (finding c p))

pub record IsTooDeep (text : List ℕ) (p : Place) : Type 0 where
  pub tokens : List Token
  pub lexed : tokens_of 0 W32 text ≡ Tokens tokens
  pub tree : whole.Body
  pub spelt : IsModule tree (grammar_tokens tokens)
  pub first : IsFirstTooDeep p tree

-- in a text that is no module, a place of the longest front that is nested too deep first, no later than where it is refused else
pub record IsDeepInFront (text : List ℕ) (p : Place) : Type 0 where
  pub tokens : List Token
  pub lexed : tokens_of 0 W32 text ≡ Tokens tokens
  pub count : ℕ
  pub longest : IsLongestFront (take count (grammar_tokens tokens)) (drop count (grammar_tokens tokens))
  pub first : IsFirstInFront (Some p) (take count (grammar_tokens tokens))
  pub place : Place
  pub refused : ((said : List ℕ) × IsUnexpected tokens place said) ⊎ ((c : Construct) × IsOutside tokens place c)
  pub no_later : is_before place p ≡ false

-- the text has this fault; nothing is nested too deep before what is unexpected or outside, nor at it
abbrev pub HasFault : List ℕ → Fault → Type 0
HasFault text (BadToken r p) = tokens_of 0 W32 text ≡ Refused r p
HasFault text (Unexpected p said) = (ts : List Token) × (tokens_of 0 W32 text ≡ Tokens ts) × (u : IsUnexpected ts p said) × IsShallowTo p (take u.count (grammar_tokens ts))
HasFault text (Outside p c) = (ts : List Token) × (tokens_of 0 W32 text ≡ Tokens ts) × (o : IsOutside ts p c) × IsShallowTo p (take o.count (grammar_tokens ts))
HasFault text (TooDeep p) = IsTooDeep text p ⊎ IsDeepInFront text p
HasFault text (Unbuilt p) = (tree : whole.Body) × (names : List Name) × IsText text tree names × (first_place (unbuilt names [] tree) ≡ Some p)

-- a name that is too long passes a limit, and no other reason of the lexer does
abbrev pub refusal_status : Refusal → ℕ
refusal_status TooLong = 5
refusal_status r = 3

-- nesting that is too deep passes a limit as well
abbrev pub fault_status : Fault → ℕ
fault_status (BadToken r p) = refusal_status r
fault_status (TooDeep p) = 5
fault_status f = 3

abbrev pub refusal_text : Refusal → List ℕ
refusal_text NotUtf8 = codes "L1 NotUtf8"
refusal_text BadCharacter = codes "L2 BadCharacter"
refusal_text BadIndent = codes "L3 BadIndent"
refusal_text MixedTabs = codes "L4 MixedTabs"
refusal_text UnclosedText = codes "L5 UnclosedText"
refusal_text UnclosedBracket = codes "L6 UnclosedBracket"
refusal_text BadEscape = codes "L7 BadEscape"
refusal_text WideNumber = codes "L8 WideNumber"
refusal_text NonAsciiText = codes "L9 NonAsciiText"
refusal_text NotNormal = codes "L10 NotNormal"
refusal_text TooLong = codes "L11 TooLong"

-- `NAME.py:LINE:COLUMN: `
abbrev pub located : Name → Place → List ℕ
located name p = text_of name ++ (codes ".py:" ++ (decimal p.line ++ (codes ":" ++ (decimal p.column ++ codes ": "))))

-- where a fault stands, and what is said of it
abbrev pub fault_place : Fault → Place
fault_place (BadToken r p) = p
fault_place (Unexpected p said) = p
fault_place (Outside p c) = p
fault_place (TooDeep p) = p
fault_place (Unbuilt p) = p

abbrev pub fault_said : Fault → List ℕ
fault_said (BadToken r p) = refusal_text r
fault_said (Unexpected p said) = codes "P1 Unexpected " ++ said
fault_said (Outside p c) = codes "P2 Outside " ++ construct_text c
fault_said (TooDeep p) = codes "P3 TooDeep"
fault_said (Unbuilt p) = codes "P2 Outside unbuilt"

abbrev pub fault_text : Name → Fault → List ℕ
fault_text name fault = located name (fault_place fault) ++ (fault_said fault ++ codes "\n")
