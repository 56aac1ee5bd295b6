-- Tokens that are held keep their texts when others come behind, and one more name is one more text, unless it is there.
use Rattle.std.proofs.Common.{◌≡◌, ℕ, zero, suc, ◌<◌, List, [], ◌∷◌, ◌++◌, length, get_or, slice_get, Some, Bool, true, false, if◌then◌else◌, refl, sym, ap, ap₂, ◌∙◌, subst, arith}
use Rattle.std.proofs.lemmas.List.{map-append, length-append}
use Rattle.py_tokens.specs.Names.{name_before, names_in}
use Rattle.shed_base.specs.Names.{has_text, with_text, with_texts}
use Rattle.py_lexer.specs.declared.token.TokenKind.{TokenKind}
use Rattle.py_lexer.specs.declared.token.TokenKind.TheVariants as kind
use Rattle.py_lexer.specs.declared.token.Token.{Token}
use Rattle.py_lexer.specs.PlainTokens.{plain_kind, plain_tokens}
use Rattle.py_lexer.specs.Reading.{Extends, IsHeld, AreHeld}
use Rattle.py_lexer.specs.Numbering.{number_before, numbers_of, number_behind, ArePlaces, texts_at, AreNumbered}
use Rattle.py_lexer.proofs.StepLemmas.{name-text}
use Rattle.py_lexer.proofs.NamesLemmas.{extends-same}

-- ---- the numbers of tokens

first-number : (k : TokenKind) → number_before k [] ≡ number_behind [] k
first-number (kind.Name name) = refl
first-number _ = refl

further-number : (n : ℕ) (numbers : List ℕ) (k : TokenKind) → n ∷ number_behind numbers k ≡ number_behind (n ∷ numbers) k
further-number n numbers (kind.Name name) = refl
further-number n numbers _ = refl

number-between : (k l : TokenKind) (numbers : List ℕ) → number_before k (number_behind numbers l) ≡ number_behind (number_before k numbers) l
number-between (kind.Name name) l numbers = further-number name.0 numbers l
number-between _ l numbers = refl

pub numbers-pushed : (ts : List Token) (t : Token) → numbers_of (ts ++ t ∷ []) ≡ number_behind (numbers_of ts) t.kind
numbers-pushed [] t = first-number t.kind
numbers-pushed (u ∷ ts) t = ap (number_before u.kind) (numbers-pushed ts t) ∙ number-between u.kind t.kind (numbers_of ts)

text-before : (texts : List (List ℕ)) (k : TokenKind) (numbers : List ℕ) → name_before (plain_kind texts k) (texts_at texts numbers) ≡ texts_at texts (number_before k numbers)
text-before texts (kind.Name name) numbers = refl
text-before texts _ numbers = refl

names_in-numbers : (texts : List (List ℕ)) (ts : List Token) → names_in (plain_tokens texts ts) ≡ texts_at texts (numbers_of ts)
names_in-numbers texts [] = refl
names_in-numbers texts (t ∷ ts) = ap (name_before (plain_kind texts t.kind)) (names_in-numbers texts ts) ∙ text-before texts t.kind (numbers_of ts)

first-held : (texts : List (List ℕ)) (ts : List Token) (k : TokenKind) (numbers : List ℕ) → (ArePlaces texts numbers → AreHeld texts ts) → ArePlaces texts (number_before k numbers) → IsHeld texts k × AreHeld texts ts
first-held texts ts (kind.Name name) numbers others h = (h.0, others h.1)
first-held texts ts _ numbers others h = (tt, others h)

places-held : (texts : List (List ℕ)) (ts : List Token) → ArePlaces texts (numbers_of ts) → AreHeld texts ts
places-held texts [] h = tt
places-held texts (t ∷ ts) h = first-held texts ts t.kind (numbers_of ts) (places-held texts ts) h

-- ---- texts that come behind

get_or-more : (texts further : List (List ℕ)) (n : ℕ) → n < length texts → get_or (texts ++ further) n [] ≡ get_or texts n []
get_or-more [] further n h = absurd (omega (arith, h))
get_or-more (text ∷ texts) further zero h = refl
get_or-more (text ∷ texts) further (suc n) h = get_or-more texts further n (omega (arith, h))

places-more : (texts more : List (List ℕ)) (numbers : List ℕ) → Extends texts more → ArePlaces texts numbers → ArePlaces more numbers
places-more texts more [] x h = tt
places-more texts more (n ∷ numbers) x h = (omega (arith, h.0, ap length x.1, length-append texts x.0), places-more texts more numbers x h.1)

texts_at-more : (texts more : List (List ℕ)) (numbers : List ℕ) → Extends texts more → ArePlaces texts numbers → texts_at more numbers ≡ texts_at texts numbers
texts_at-more texts more [] x h = refl
texts_at-more texts more (n ∷ numbers) x h =
    ap₂ (λ t ts. t ∷ ts) (ap (λ ts. get_or ts n []) x.1 ∙ get_or-more texts x.0 n h.0) (texts_at-more texts more numbers x h.1)

-- ---- one more name

with_texts-one : (first more : List (List ℕ)) (text : List ℕ) → with_texts first (more ++ text ∷ []) ≡ with_text (with_texts first more) text
with_texts-one first [] text = refl
with_texts-one first (t ∷ more) text = with_texts-one (with_text first t) more text

place-behind : (texts : List (List ℕ)) (numbers : List ℕ) (n : ℕ) → ArePlaces texts numbers → n < length texts → ArePlaces texts (numbers ++ n ∷ [])
place-behind texts [] n h below = (below, tt)
place-behind texts (m ∷ numbers) n h below = (h.0, place-behind texts numbers n h.1 below)

place-below : (texts : List (List ℕ)) (n : ℕ) (text : List ℕ) → slice_get texts n ≡ Some text → n < length texts
place-below [] zero text e = absurd (cc)
place-below [] (suc n) text e = absurd (cc)
place-below (t ∷ texts) zero text e = omega arith
place-below (t ∷ texts) (suc n) text e = omega (arith, place-below texts n text e)

with_text-extends : (texts : List (List ℕ)) (text : List ℕ) → Extends texts (with_text texts text)
with_text-extends texts text = by_case (has_text texts text)
  where
    by_case : (there : Bool) → Extends texts (if there then texts else texts ++ text ∷ [])
    by_case true = extends-same texts
    by_case false = (text ∷ [], refl)

pub numbered-one : (first old new : List (List ℕ)) (numbers : List ℕ) (n : ℕ) (text : List ℕ) → new ≡ with_text old text → slice_get new n ≡ Some text
    → AreNumbered first old numbers → AreNumbered first new (numbers ++ n ∷ [])
numbered-one first old new numbers n text added placed h =
    let x = subst (Extends old) (sym added) (with_text-extends old text) in
    let one : texts_at new (numbers ++ n ∷ []) ≡ texts_at old numbers ++ text ∷ [] =
    map-append (λ n. get_or new n []) numbers (n ∷ []) ∙ ap₂ (λ ts t. ts ++ t ∷ []) (texts_at-more old new numbers x h.0) (name-text new n text new placed (extends-same new)) in (
      place-behind new numbers n (places-more old new numbers x h.0) (place-below new n text placed),
      added ∙ ap (λ ts. with_text ts text) h.1 ∙ sym (with_texts-one first (texts_at old numbers) text) ∙ ap (with_texts first) (sym one),
    )

-- ---- tokens with the same numbers

pub numbered-names : (first names : List (List ℕ)) (ts us : List Token) → numbers_of ts ≡ numbers_of us → AreNumbered first names (numbers_of us) → names ≡ with_texts first (names_in (plain_tokens names ts))
numbered-names first names ts us e h = h.1 ∙ ap (with_texts first) (ap (texts_at names) (sym e) ∙ sym (names_in-numbers names ts))

pub numbered-held : (first names : List (List ℕ)) (ts us : List Token) → numbers_of ts ≡ numbers_of us → AreNumbered first names (numbers_of us) → AreHeld names ts
numbered-held first names ts us e h = places-held names ts (subst (ArePlaces names) (sym e) h.0)
