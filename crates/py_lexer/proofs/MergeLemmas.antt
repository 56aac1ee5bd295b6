-- Texts side by side are one: in a list that has none the next token changes only the end.
use Rattle.std.proofs.Common.{◌≡◌, List, [], ◌∷◌, ◌++◌, Bool, true, false, ◌&&◌, refl, sym, ap, ◌∙◌, append_assoc}
use Rattle.py_tokens.specs.Token.{Place, Kind, TName, TKeyword, TOperator, TNumber, TText, TFloat, TImaginary, TBytes, TFormatted, TNewline, TIndent, TDedent, Token, Outcome, Tokens, Refused}
use Rattle.py_tokens.specs.Characters.{Text}
use Rattle.py_tokens.specs.Tokens.{token, preceded, put_before, merged, merged_outcome}
use Rattle.py_lexer.specs.Ahead.{is_text, Apart}

-- ---- nothing is merged where no two texts stand side by side

put-kinds : (p q : Place) (k l : Kind) (ts : List Token) → (is_text k && is_text l) ≡ false → put_before (token p k) (token q l ∷ ts) ≡ token p k ∷ token q l ∷ ts
put-kinds p q (TText x) (TText y) ts h = absurd (cc)
put-kinds p q k l ts h = refl

pub merged-apart : (ts : List Token) → Apart ts → merged ts ≡ ts
merged-apart [] h = refl
merged-apart (t ∷ []) h = refl
merged-apart (t ∷ u ∷ ts) h = ap (put_before t) (merged-apart (u ∷ ts) h.1) ∙ put-kinds t.place u.place t.kind u.kind ts h.0

-- ---- one more token

no_text : (a b : Bool) → b ≡ false → (a && b) ≡ false
no_text true b h = h
no_text false b h = refl

-- a token that is no text
pub apart-more : (ts : List Token) (p : Place) (k : Kind) → is_text k ≡ false → Apart ts → Apart (ts ++ token p k ∷ [])
apart-more [] p k h a = tt
apart-more (t ∷ []) p k h a = (no_text (is_text t.kind) (is_text k) h, tt)
apart-more (t ∷ u ∷ ts) p k h a = (a.0, apart-more (u ∷ ts) p k h a.1)

no_text_first : (a b : Bool) → a ≡ false → (a && b) ≡ false
no_text_first true b h = absurd (cc)
no_text_first false b h = refl

-- any token behind one that is no text
pub apart-behind : (ts : List Token) (p q : Place) (k l : Kind) → is_text k ≡ false → Apart (ts ++ token p k ∷ []) → Apart ((ts ++ token p k ∷ []) ++ token q l ∷ [])
apart-behind [] p q k l h a = (no_text_first (is_text k) (is_text l) h, tt)
apart-behind (t ∷ []) p q k l h a = (a.0, (no_text_first (is_text k) (is_text l) h, tt))
apart-behind (t ∷ u ∷ ts) p q k l h a = (a.0, apart-behind (u ∷ ts) p q k l h a.1)

-- another text in place of the last
pub apart-longer : (ts : List Token) (p : Place) (x y : Text) → Apart (ts ++ token p (TText x) ∷ []) → Apart (ts ++ token p (TText y) ∷ [])
apart-longer [] p x y a = tt
apart-longer (t ∷ []) p x y a = (a.0, tt)
apart-longer (t ∷ u ∷ ts) p x y a = (a.0, apart-longer (u ∷ ts) p x y a.1)

-- ---- two texts

put-texts : (p q : Place) (x y : Text) (ts : List Token) → put_before (token p (TText x)) (put_before (token q (TText y)) ts) ≡ put_before (token p (TText (x ++ y))) ts
put-texts p q x y [] = refl
put-texts p q x y (u ∷ ts) = by_kind u.place u.kind
  where
    by_kind : (r : Place) (k : Kind) → put_before (token p (TText x)) (put_before (token q (TText y)) (token r k ∷ ts)) ≡ put_before (token p (TText (x ++ y))) (token r k ∷ ts)
    by_kind r (TText z) = ap (λ t. token p (TText t) ∷ ts) (sym (append_assoc x y z))
    by_kind r (TName z) = refl
    by_kind r (TKeyword z) = refl
    by_kind r (TOperator z) = refl
    by_kind r (TNumber z) = refl
    by_kind r TFloat = refl
    by_kind r TImaginary = refl
    by_kind r TBytes = refl
    by_kind r TFormatted = refl
    by_kind r TNewline = refl
    by_kind r TIndent = refl
    by_kind r TDedent = refl

merged-texts : (front : List Token) (p q : Place) (x y : Text) (ts : List Token) → merged ((front ++ token p (TText x) ∷ []) ++ token q (TText y) ∷ ts) ≡ merged ((front ++ token p (TText (x ++ y)) ∷ []) ++ ts)
merged-texts [] p q x y ts = put-texts p q x y (merged ts)
merged-texts (t ∷ front) p q x y ts = ap (put_before t) (merged-texts front p q x y ts)

-- a text behind another
pub outcome-texts : (front : List Token) (p q : Place) (x y : Text) (o : Outcome)
    → merged_outcome (preceded (front ++ token p (TText x) ∷ []) (preceded (token q (TText y) ∷ []) o)) ≡ merged_outcome (preceded (front ++ token p (TText (x ++ y)) ∷ []) o)
outcome-texts front p q x y (Tokens ts) = ap Tokens (merged-texts front p q x y ts)
outcome-texts front p q x y (Refused r p1) = refl
