-- What stands behind the longest front.
use Rattle.std.proofs.Common.{◌≡◌, ℕ, suc, ◌+◌, Bool, true, false, if◌then◌else◌, inr, List, [], ◌∷◌, ◌++◌, Option, None, Some, map, length, take, drop, get_or, refl, sym, ap, ◌∙◌, subst, subst₂, arith}
use Rattle.std.proofs.lemmas.List.{map-append, drop-map, length-append, length-map}
use Rattle.std.proofs.Math.Seq.{take-append_seam, drop-append_seam}
use Rattle.py_tokens.specs.Token as texts
use Rattle.py_syntax.specs.Token as meaning
use Rattle.py_syntax.specs.Token.{Token}
use Rattle.py_syntax.specs.Laws.{IsLongestFront}
use Rattle.py_constructs.specs.Standing.{finding, IsFinding}
use Rattle.py_outside.specs.PlainConstructs.{plain_construct}
use Rattle.py_outside.specs.declared.construct.Construct.{Construct}
use Rattle.py_recogniser.specs.declared.refusal.ParseRefusal.TheVariants as refusal
use Rattle.py_lexer.specs.PlainTokens.{plain_place, plain_kind as text_kind, plain_token as text_token, plain_tokens as text_tokens}
use Rattle.py_lexer.specs.declared.token.TokenKind.{TokenKind}
use Rattle.py_lexer.specs.declared.token.TokenKind.TheVariants as kind
use Rattle.py_lexer.specs.declared.token.Token.{Token as TokenRead}
use Rattle.py_table.specs.PlainTokens.{plain_kind, plain_token, plain_tokens}
use Rattle.py_depth.specs.Found.{IsRest}
use Rattle.py_depth.specs.PlainDemands.{plain_first}
use Rattle.py_tokens.specs.Places.{is_before}
use Rattle.py_nesting.specs.Ordered.{AreOrdered}
use Rattle.py_nesting.specs.TooDeep.{IsFirstInFront, IsShallowTo}
use Rattle.py_nesting.proofs.FrontsOrdered.{ordered_front}
use Rattle.py_recogniser.specs.Refused.{last_place, no_later, IsFound, IsUnexpectedAt, IsOutsideAt, IsStuckAt, IsParseRefused}
use Rattle.shed_base.specs.declared.place.Place.{Place}
use Rattle.py_recogniser.specs.declared.refusal.Found.{Found}

last_is : (ts : List texts.Token) (t : texts.Token) → last_place (ts ++ t ∷ []) ≡ t.place
last_is [] t = refl
last_is (u ∷ []) t = refl
last_is (u ∷ (s ∷ ts)) t = last_is (s ∷ ts) t

pub last_place-push : (names : List (List ℕ)) (front : List TokenRead) (t : TokenRead) → last_place (text_tokens names (front ++ t ∷ [])) ≡ plain_place t.place
last_place-push names front t = ap last_place (map-append (text_token names) front (t ∷ [])) ∙ last_is (text_tokens names front) (text_token names t)

pub ruleset lasts = (last_place-push)

-- the token with its text that the grammar's token stands for
abbrev spelt_kind : List (List ℕ) → meaning.Kind → texts.Kind
spelt_kind names (meaning.TName ascii x) = texts.TName (get_or names x [])
spelt_kind names (meaning.TKeyword s) = texts.TKeyword s
spelt_kind names (meaning.TOperator s) = texts.TOperator s
spelt_kind names (meaning.TNumber n) = texts.TNumber n
spelt_kind names (meaning.TText t) = texts.TText t
spelt_kind names meaning.TFloat = texts.TFloat
spelt_kind names meaning.TImaginary = texts.TImaginary
spelt_kind names meaning.TBytes = texts.TBytes
spelt_kind names meaning.TFormatted = texts.TFormatted
spelt_kind names meaning.TNewline = texts.TNewline
spelt_kind names meaning.TIndent = texts.TIndent
spelt_kind names meaning.TDedent = texts.TDedent

abbrev spelt : List (List ℕ) → Token → texts.Token
spelt names (meaning.At p k) = record { place = p; kind = spelt_kind names k }

kind_spelt : (names : List (List ℕ)) (k : TokenKind) → spelt_kind names (plain_kind names k) ≡ text_kind names k
kind_spelt names (kind.Name x) = refl
kind_spelt names _ = refl

all_spelt : (names : List (List ℕ)) (ts : List TokenRead) → map (spelt names) (plain_tokens names ts) ≡ text_tokens names ts
all_spelt names [] = refl
all_spelt names (t ∷ ts) =
    ap (λ (k : texts.Kind). record { place = plain_place t.place; kind = k } ∷ map (spelt names) (plain_tokens names ts)) (kind_spelt names t.kind)
    ∙ ap (λ (l : List texts.Token). text_token names t ∷ l) (all_spelt names ts)

same_split : (front back ahead rest : List Token) → front ++ back ≡ ahead ++ rest → length back ≡ length rest → (front ≡ ahead) × (back ≡ rest)
same_split [] back [] rest e h = (refl, e)
same_split [] back (a ∷ ahead) rest e h = let n : length back ≡ suc (length ahead) + length rest = ap length e ∙ length-append (a ∷ ahead) rest in absurd (omega arith)
same_split (t ∷ front) back [] rest e h = let n : suc (length front) + length back ≡ length rest = sym (length-append (t ∷ front) back) ∙ ap length e in absurd (omega arith)
same_split (t ∷ front) back (a ∷ ahead) rest e h =
    let first : t ≡ a = ap (λ (l : List Token). elim l [ [] ↦ t | x ∷ xs ↦ x ]) e in
    let s = same_split front back ahead rest (ap (λ (l : List Token). elim l [ [] ↦ [] | x ∷ xs ↦ xs ]) e) h in
    (ap (λ (x : Token). x ∷ front) first ∙ ap (λ (l : List Token). a ∷ l) s.0, s.1)

-- tokens that are split where their rest begins
pub front_split : (names : List (List ℕ)) (ts front back rest : List TokenRead) → ts ≡ front ++ back → length back ≡ length rest → IsRest (plain_tokens names ts) (plain_tokens names rest)
    → (plain_tokens names ts ≡ plain_tokens names front ++ plain_tokens names back) × IsLongestFront (plain_tokens names front) (plain_tokens names back)
front_split names ts front back rest e h (ahead, z, l) =
    let plain : plain_tokens names ts ≡ plain_tokens names front ++ plain_tokens names back = ap (plain_tokens names) e ∙ map-append (plain_token names) front back in
    let many : length (plain_tokens names back) ≡ length (plain_tokens names rest) = length-map back (plain_token names) ∙ h ∙ sym (length-map rest (plain_token names)) in
    let s = same_split (plain_tokens names front) (plain_tokens names back) ahead (plain_tokens names rest) (sym plain ∙ z) many in
    (plain, subst₂ (λ (a b : List Token). IsLongestFront a b) (sym s.0) (sym s.1) l)

-- the first so many tokens are the front, and the others the rest
split_at : (ts front back : List Token) (n : ℕ) → ts ≡ front ++ back → n ≡ length front → (take n ts ≡ front) × (drop n ts ≡ back)
split_at ts front back n e h = rw h (ap (take (length front)) e ∙ take-append_seam front back, ap (drop (length front)) e ∙ drop-append_seam front back)

-- what stands behind the front
pub unexpected_at : (names : List (List ℕ)) (ts front back rest : List TokenRead) (n : ℕ) (p : Place) (f : Found) → ts ≡ front ++ back → length back ≡ length rest → n ≡ length front
    → IsFinding (plain_tokens names ts) n None → IsFound names (text_tokens names ts) p f (text_tokens names back) → IsRest (plain_tokens names ts) (plain_tokens names rest) → IsUnexpectedAt names ts n p f
unexpected_at names ts front back rest n p f e h m none found r =
    let s = front_split names ts front back rest e h r in
    let many : n ≡ length (plain_tokens names front) = m ∙ sym (length-map front (plain_token names)) in
    let t = split_at (plain_tokens names ts) (plain_tokens names front) (plain_tokens names back) n s.0 many in
    let behind_texts : drop n (text_tokens names ts) ≡ text_tokens names back =
    ap (drop n) (sym (all_spelt names ts)) ∙ drop-map (spelt names) n (plain_tokens names ts) ∙ ap (map (spelt names)) t.1 ∙ all_spelt names back in (
      subst₂ (λ (a b : List Token). IsLongestFront a b) (sym t.0) (sym t.1) s.1,
      subst (λ (l : List texts.Token). IsFound names (text_tokens names ts) p f l) (sym behind_texts) found,
      none,
    )

pub outside_at : (names : List (List ℕ)) (ts front back rest : List TokenRead) (n : ℕ) (p : Place) (c : Construct) → ts ≡ front ++ back → length back ≡ length rest → n ≡ length front
    → IsFinding (plain_tokens names ts) n (Some (finding (plain_construct c) (plain_place p))) → IsRest (plain_tokens names ts) (plain_tokens names rest) → IsOutsideAt names ts n p c
outside_at names ts front back rest n p c e h m found r =
    let s = front_split names ts front back rest e h r in
    let many : n ≡ length (plain_tokens names front) = m ∙ sym (length-map front (plain_token names)) in
    let t = split_at (plain_tokens names ts) (plain_tokens names front) (plain_tokens names back) n s.0 many in
    (subst₂ (λ (a b : List Token). IsLongestFront a b) (sym t.0) (sym t.1) s.1, found)

-- what is nested too deep first in the front
abbrev pub IsDeepest : List (List ℕ) → List TokenRead → Option Place → Type 0
IsDeepest names front o = AreOrdered (plain_tokens names front) → IsFirstInFront (plain_first o) (plain_tokens names front)

deepest_at : (names : List (List ℕ)) (ts front back : List TokenRead) (n : ℕ) (o : Option Place) → ts ≡ front ++ back → n ≡ length front → IsDeepest names front o → AreOrdered (plain_tokens names ts) → IsFirstInFront (plain_first o) (take n (plain_tokens names ts))
deepest_at names ts front back n o e m d ordered =
    let plain : plain_tokens names ts ≡ plain_tokens names front ++ plain_tokens names back = ap (plain_tokens names) e ∙ map-append (plain_token names) front back in
    let t = split_at (plain_tokens names ts) (plain_tokens names front) (plain_tokens names back) n plain (m ∙ sym (length-map front (plain_token names))) in
    subst (IsFirstInFront (plain_first o)) (sym t.0) (d (subst AreOrdered t.0 (ordered_front n (plain_tokens names ts) ordered)))

behind_so : (p q r : texts.Place) → is_before p q ≡ true → is_before r q ≡ false → is_before p r ≡ true
behind_so p q r h k = grind arith

shallow_to : (o : Option texts.Place) (p : texts.Place) (front : List Token) → no_later o p ≡ None → IsFirstInFront o front → IsShallowTo p front
shallow_to None p front e f q t = absurd (f q t)
shallow_to (Some first) p front e f q t = go (is_before p first) refl e
  where
    go : (b : Bool) → is_before p first ≡ b → (if b then None else Some first) ≡ None → is_before p q ≡ true
    go true i h = behind_so p first q i (f.1 q t)
    go false i h = absurd (cc)

deep_so : (o : Option texts.Place) (p q : texts.Place) → no_later o p ≡ Some q → (o ≡ Some q) × (is_before p q ≡ false)
deep_so None p q e = absurd (cc)
deep_so (Some first) p q e = go (is_before p first) refl e
  where
    go : (b : Bool) → is_before p first ≡ b → (if b then None else Some first) ≡ Some q → (Some first ≡ Some q) × (is_before p q ≡ false)
    go true i h = absurd (cc)
    go false i h = let same : first ≡ q = cc in (h, sym (ap (is_before p) same) ∙ i)

-- the refusals that are told
pub tells_unexpected : (names : List (List ℕ)) (ts front back : List TokenRead) (n : ℕ) (o deep : Option Place) (p : Place) (f : Found) → ts ≡ front ++ back → n ≡ length front → IsDeepest names front o
    → plain_first deep ≡ no_later (plain_first o) (plain_place p) → deep ≡ None → IsUnexpectedAt names ts n p f → IsParseRefused names ts (refusal.Unexpected p f)
tells_unexpected names ts front back n o deep p f e m d l none u =
    (n, u, λ ordered. shallow_to (plain_first o) (plain_place p) (take n (plain_tokens names ts)) (sym l ∙ ap plain_first none) (deepest_at names ts front back n o e m d ordered))

pub tells_outside : (names : List (List ℕ)) (ts front back : List TokenRead) (n : ℕ) (o deep : Option Place) (p : Place) (c : Construct) → ts ≡ front ++ back → n ≡ length front → IsDeepest names front o
    → plain_first deep ≡ no_later (plain_first o) (plain_place p) → deep ≡ None → IsOutsideAt names ts n p c → IsParseRefused names ts (refusal.Outside p c)
tells_outside names ts front back n o deep p c e m d l none u =
    (n, u, λ ordered. shallow_to (plain_first o) (plain_place p) (take n (plain_tokens names ts)) (sym l ∙ ap plain_first none) (deepest_at names ts front back n o e m d ordered))

pub tells_deep : (names : List (List ℕ)) (ts front back : List TokenRead) (n : ℕ) (o deep : Option Place) (p q : Place) → ts ≡ front ++ back → n ≡ length front → IsDeepest names front o
    → plain_first deep ≡ no_later (plain_first o) (plain_place p) → deep ≡ Some q → IsStuckAt names ts n p → IsParseRefused names ts (refusal.TooDeep q)
tells_deep names ts front back n o deep p q e m d l some stuck =
    let s = deep_so (plain_first o) (plain_place p) (plain_place q) (sym l ∙ ap plain_first some) in
    inr (n, p, stuck, s.1, λ ordered. subst (λ (w : Option texts.Place). IsFirstInFront w (take n (plain_tokens names ts))) s.0 (deepest_at names ts front back n o e m d ordered))
