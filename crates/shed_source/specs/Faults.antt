-- The faults of a module's text, as the code has them.
use Rattle.std.specs.Prelude.{◌≡◌, ℕ, List, Bool, true, false, codes, string_bytes}
use Rattle.py_tokens.specs.Token as texts
use Rattle.py_lexer.specs.PlainTokens.{plain_place, plain_kind}
use Rattle.py_lexer.specs.declared.refusal.LexRefusal.{LexRefusal}
use Rattle.py_lexer.specs.declared.refusal.LexRefusal.TheVariants as refusal
use Rattle.py_recogniser.specs.declared.refusal.Found.{Found}
use Rattle.py_recogniser.specs.declared.refusal.Found.TheVariants as found
use Rattle.shed_meaning.specs.TokenText.{token_text}
use Rattle.shed_meaning.specs.Fault.{Fault, HasFault, fault_place, fault_said, fault_status, refusal_text}
use Rattle.shed_source.specs.declared.fault.Fault.{Fault as FaultSaid}

-- what was found, as it is printed
abbrev pub found_text : List (List ℕ) → Found → List ℕ
found_text names (found.Token k) = token_text (plain_kind names k)
found_text names found.End = codes "END"

-- the reason for a refusal of the lexer, with its place
abbrev pub refusal_of : LexRefusal → texts.Refusal
refusal_of (refusal.NotUtf8 p) = texts.NotUtf8
refusal_of (refusal.BadCharacter p) = texts.BadCharacter
refusal_of (refusal.BadIndent p) = texts.BadIndent
refusal_of (refusal.MixedTabs p) = texts.MixedTabs
refusal_of (refusal.UnclosedText p) = texts.UnclosedText
refusal_of (refusal.UnclosedBracket p) = texts.UnclosedBracket
refusal_of (refusal.BadEscape p) = texts.BadEscape
refusal_of (refusal.WideNumber p) = texts.WideNumber
refusal_of (refusal.NonAsciiText p) = texts.NonAsciiText
refusal_of (refusal.NotNormal p) = texts.NotNormal
refusal_of (refusal.TooLong p) = texts.TooLong
refusal_of refusal.NoMemory = texts.NotUtf8

abbrev pub HasPlace : LexRefusal → texts.Place → Type 0
HasPlace (refusal.NotUtf8 p) q = q ≡ plain_place p
HasPlace (refusal.BadCharacter p) q = q ≡ plain_place p
HasPlace (refusal.BadIndent p) q = q ≡ plain_place p
HasPlace (refusal.MixedTabs p) q = q ≡ plain_place p
HasPlace (refusal.UnclosedText p) q = q ≡ plain_place p
HasPlace (refusal.UnclosedBracket p) q = q ≡ plain_place p
HasPlace (refusal.BadEscape p) q = q ≡ plain_place p
HasPlace (refusal.WideNumber p) q = q ≡ plain_place p
HasPlace (refusal.NonAsciiText p) q = q ≡ plain_place p
HasPlace (refusal.NotNormal p) q = q ≡ plain_place p
HasPlace (refusal.TooLong p) q = q ≡ plain_place p
HasPlace refusal.NoMemory q = ⊥

abbrev pub is_limit : texts.Refusal → Bool
is_limit texts.TooLong = true
is_limit r = false

abbrev pub IsRefusalSaid : LexRefusal → texts.Place → List ℕ → Bool → Type 0
IsRefusalSaid r p said limit = HasPlace r p × (said ≡ refusal_text (refusal_of r)) × (limit ≡ is_limit (refusal_of r))

-- the status of a fault
abbrev pub status_said : Bool → ℕ
status_said true = 5
status_said false = 3

-- the text has this fault
abbrev pub IsFaultOf : List ℕ → FaultSaid → Type 0
IsFaultOf text f =
    (fault : Fault) × HasFault text fault
    × (plain_place f.place ≡ fault_place fault) × (string_bytes f.said ≡ fault_said fault) × (status_said f.limit ≡ fault_status fault)
