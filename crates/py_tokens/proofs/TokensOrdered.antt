-- The tokens of a text stand in its order.
use Rattle.std.proofs.Common.{◌≡◌, ℕ, zero, suc, ◌+◌, ◌-◌, Bool, true, false, if◌then◌else◌, ◌==◌, List, [], ◌∷◌, ◌++◌, length, take, ◌⊎◌, inl, inr, refl, sym, ap, ◌∙◌, subst, arith, append-nil, chars}
use Rattle.std.specs.Str.Lossy.{utf8_valid_len}
use Rattle.runs.specs.Number.{Width}
use Rattle.py_tokens.specs.Token.{Place, Kind, TName, TKeyword, TOperator, TNumber, TText, TFloat, TImaginary, TBytes, TFormatted, TNewline, TIndent, TDedent, Token, NotUtf8, Outcome, Tokens, Refused, next_place, place_after}
use Rattle.py_tokens.specs.Places.{is_before}
use Rattle.py_tokens.specs.Characters.{Text}
use Rattle.py_tokens.specs.Lexeme.{Lexeme, Blank, Nothing, LineEnd, Word, Broken, front_of}
use Rattle.py_tokens.specs.Lines.{Located, cut, is_opening, is_closing, are_partners, Open, unclosed, closed, bracketed_at, bracketed, Line, in_front, is_line_end, lines_of, Widths, no_width, widths_from, is_word, words_of}
use Rattle.py_tokens.specs.Tokens.{token, preceded, worded, Indentation, Stays, Deeper, Back, Lost, Mixed, dedents, dropped, indented, indented_from, lined, newline_after, all_lines, put_before, merged, merged_outcome, unmarked, beginning, tokens_of_characters}
use Rattle.py_tokens.specs.Ordered.{is_layout, IsBefore, AreOrdered, OrderedLaw}
use Rattle.py_tokens.proofs.PlacesOrdered.{before_neither}

-- the first place behind another
abbrev beyond : Place → Place
beyond p = record { «module» = p.module; line = p.line; column = p.column + 1 }

not_before_itself : (p : Place) → is_before p p ≡ false
not_before_itself p = grind arith

beyond_so : (p : Place) → is_before (beyond p) p ≡ false
beyond_so p = grind arith

behind_beyond : (p q : Place) → is_before q (beyond p) ≡ false → is_before p q ≡ true
behind_beyond p q h = grind arith

no_less : (p q : Place) → is_before q (beyond p) ≡ false → is_before q p ≡ false
no_less p q h = before_neither p (beyond p) q h (beyond_so p)

further : (p q : Place) → is_before q p ≡ false → is_before (beyond q) p ≡ false
further p q h = before_neither p q (beyond q) (beyond_so q) h

next_line : (p : Place) → is_before (record { «module» = p.module; line = p.line + 1; column = 1 }) (beyond p) ≡ false
next_line p = grind arith

next_beyond : (p : Place) (c : ℕ) → is_before (next_place p c) (beyond p) ≡ false
next_beyond p c = go (c == 10)
  where
    go : (b : Bool) → is_before (if b then record { «module» = p.module; line = p.line + 1; column = 1 } else record { «module» = p.module; line = p.line; column = p.column + 1 }) (beyond p) ≡ false
    go true = next_line p
    go false = not_before_itself (beyond p)

abbrev is_broken : Lexeme → Bool
is_broken (Broken r n) = true
is_broken _ = false

-- what holds behind a place holds before it
abbrev Backwards : (Place → Type 0) → Type 0
Backwards end = (p q : Place) → is_before q p ≡ false → end q → end p

-- one behind another from a place on, as far as each forms a token, and what holds at the end
abbrev Rises : (Place → Type 0) → Place → List Located → Type 0
Rises end p [] = end p
Rises end p (l ∷ ls) = is_broken l.lexeme ≡ false → (is_before l.place p ≡ false) × Rises end (beyond l.place) ls

rises_from : (end : Place → Type 0) → Backwards end → (ls : List Located) (p q : Place) → is_before q p ≡ false → Rises end q ls → Rises end p ls
rises_from end back [] p q h r = back p q h r
rises_from end back (l ∷ ls) p q h r = λ b. (before_neither p q l.place (r b).0 h, (r b).1)

abbrev Until : Place → Place → Type 0
Until e p = is_before e p ≡ false

until_back : (e : Place) → Backwards (Until e)
until_back e p q h k = before_neither p q e k h

cut_rises : (w : Width) (p : Place) (left : ℕ) (z : Text) → Rises (Until (place_after p z)) p (cut w p left z)
cut_rises w p left [] = not_before_itself p
cut_rises w p (suc left) (c ∷ z) =
    rises_from (Until (place_after (next_place p c) z)) (until_back (place_after (next_place p c) z)) (cut w (next_place p c) left z) p (next_place p c) (no_less p (next_place p c) (next_beyond p c))
    (cut_rises w (next_place p c) left z)
cut_rises w p zero (c ∷ z) = go ((front_of w (c ∷ z)).lexeme) ((front_of w (c ∷ z)).length_of - 1) (cut_rises w (next_place p c) ((front_of w (c ∷ z)).length_of - 1) z)
  where
    go : (x : Lexeme) (left : ℕ) → Rises (Until (place_after (next_place p c) z)) (next_place p c) (cut w (next_place p c) left z) → Rises (Until (place_after (next_place p c) z)) p (record { place = p; lexeme = x; text = c ∷ z } ∷ cut w (next_place p c) left z)
    go x left r = λ b. (
      not_before_itself p,
      rises_from (Until (place_after (next_place p c) z)) (until_back (place_after (next_place p c) z)) (cut w (next_place p c) left z) (beyond p) (next_place p c) (next_beyond p c) r,
    )

-- brackets leave out line ends alone
unclosed_rises : (end : Place → Type 0) (p q : Place) → Rises end p (unclosed q)
unclosed_rises end p q = λ b. absurd (cc)

closed_rises : (end : Place → Type 0) (l : Located) (again : List Open → List Located) (s : Text) (pending : List Open) (p : Place)
    → ((others : List Open) → Rises end p (l ∷ again others)) → Rises end p (closed l again s pending)
closed_rises end l again s [] p kept = unclosed_rises end p l.place
closed_rises end l again s (o ∷ pending) p kept = go (are_partners o.bracket s)
  where
    go : (b : Bool) → Rises end p (if b then l ∷ again pending else unclosed l.place)
    go true = kept pending
    go false = unclosed_rises end p l.place

operator_rises : (end : Place → Type 0) (l : Located) (again : List Open → List Located) (s : Text) (pending : List Open) (p : Place)
    → ((others : List Open) → Rises end p (l ∷ again others)) → Rises end p (bracketed_at l again (Word (TOperator s)) pending)
operator_rises end l again s pending p kept = go (is_opening s) (is_closing s)
  where
    go : (b d : Bool) → Rises end p (if b then l ∷ again (record { place = l.place; bracket = s } ∷ pending) else (if d then closed l again s pending else l ∷ again pending))
    go true d = kept (record { place = l.place; bracket = s } ∷ pending)
    go false true = closed_rises end l again s pending p kept
    go false false = kept pending

bracketed_at_rises : (end : Place → Type 0) → Backwards end → (l : Located) (again : List Open → List Located) (x : Lexeme) (pending : List Open) (p : Place) → l.lexeme ≡ x
    → (is_broken l.lexeme ≡ false → (is_before l.place p ≡ false) × ((others : List Open) → Rises end (beyond l.place) (again others))) → Rises end p (bracketed_at l again x pending)
bracketed_at_rises end back l again x pending p e h = go x pending e
  where
    kept : (others : List Open) → Rises end p (l ∷ again others)
    kept others = λ b. ((h b).0, (h b).1 others)

    go : (x : Lexeme) (pending : List Open) → l.lexeme ≡ x → Rises end p (bracketed_at l again x pending)
    go LineEnd [] e = kept []
    go LineEnd (o ∷ pending) e =
        let f = h (ap is_broken e) in rises_from end back (again (o ∷ pending)) p (beyond l.place) (further p l.place f.0) (f.1 (o ∷ pending))
    go (Word (TOperator s)) pending e = operator_rises end l again s pending p kept
    go (Word (TName n)) pending e = kept pending
    go (Word (TKeyword s)) pending e = kept pending
    go (Word (TNumber n)) pending e = kept pending
    go (Word (TText t)) pending e = kept pending
    go (Word TFloat) pending e = kept pending
    go (Word TImaginary) pending e = kept pending
    go (Word TBytes) pending e = kept pending
    go (Word TFormatted) pending e = kept pending
    go (Word TNewline) pending e = kept pending
    go (Word TIndent) pending e = kept pending
    go (Word TDedent) pending e = kept pending
    go (Blank c) pending e = kept pending
    go Nothing pending e = kept pending
    go (Broken r n) pending e = kept pending

bracketed_rises : (end : Place → Type 0) → Backwards end → (ls : List Located) (pending : List Open) (p : Place) → Rises end p ls → Rises end p (bracketed pending ls)
bracketed_rises end back [] [] p r = r
bracketed_rises end back [] (o ∷ pending) p r = unclosed_rises end p o.place
bracketed_rises end back (l ∷ ls) [] p r =
    bracketed_at_rises end back l (λ others. bracketed others ls) l.lexeme [] p refl (λ b. ((r b).0, λ others. bracketed_rises end back ls others (beyond l.place) (r b).1))
bracketed_rises end back (l ∷ ls) (o ∷ pending) p r =
    bracketed_at_rises end back l (λ others. bracketed others ls) l.lexeme (o ∷ pending) p refl (λ b. ((r b).0, λ others. bracketed_rises end back ls others (beyond l.place) (r b).1))

-- lines one behind another
abbrev LinesRise : Place → List Line → Type 0
LinesRise p [] = Unit {0}
LinesRise p (line ∷ lines) = Rises (λ q. (is_before line.ended q ≡ false) × LinesRise (beyond line.ended) lines) p line.items

abbrev Ends : Place → List Line → Place → Type 0
Ends e lines q = (is_before e q ≡ false) × LinesRise (beyond e) lines

ends_back : (e : Place) (lines : List Line) → Backwards (Ends e lines)
ends_back e lines p q h k = (before_neither p q e k.0 h, k.1)

in_front_rises : (l : Located) (lines : List Line) (p : Place) → (is_broken l.lexeme ≡ false → (is_before l.place p ≡ false) × LinesRise (beyond l.place) lines) → LinesRise p (in_front l lines)
in_front_rises l [] p h = tt
in_front_rises l (line ∷ lines) p h = h

line_end_not_broken : (x : Lexeme) → is_line_end x ≡ true → is_broken x ≡ false
line_end_not_broken (Blank c) h = refl
line_end_not_broken Nothing h = refl
line_end_not_broken LineEnd h = refl
line_end_not_broken (Word k) h = refl
line_end_not_broken (Broken r n) h = absurd (cc)

lines_rise : (end : Place) (ls : List Located) (p : Place) → Rises (Until end) p ls → LinesRise p (lines_of end ls)
lines_rise end [] p r = (r, tt)
lines_rise end (l ∷ ls) p r = go (is_line_end l.lexeme) refl (λ s. lines_rise end ls (beyond l.place) s)
  where
    go : (b : Bool) → is_line_end l.lexeme ≡ b → (Rises (Until end) (beyond l.place) ls → LinesRise (beyond l.place) (lines_of end ls)) → LinesRise p (if b then record { items = []; ended = l.place } ∷ lines_of end ls else in_front l (lines_of end ls))
    go true e rest = let f = r (line_end_not_broken l.lexeme e) in (f.0, rest f.1)
    go false e rest = in_front_rises l (lines_of end ls) p (λ b. ((r b).0, rest (r b).1))

no_word_not_broken : (x : Lexeme) → is_word x ≡ false → is_broken x ≡ false
no_word_not_broken (Blank c) h = refl
no_word_not_broken Nothing h = refl
no_word_not_broken LineEnd h = refl
no_word_not_broken (Word k) h = refl
no_word_not_broken (Broken r n) h = absurd (cc)

words_rise : (end : Place → Type 0) → Backwards end → (ls : List Located) (p : Place) → Rises end p ls → Rises end p (words_of ls)
words_rise end back [] p r = r
words_rise end back (l ∷ ls) p r = go (is_word l.lexeme) refl (λ s. words_rise end back ls (beyond l.place) s)
  where
    go : (b : Bool) → is_word l.lexeme ≡ b → (Rises end (beyond l.place) ls → Rises end (beyond l.place) (words_of ls)) → Rises end p (if b then l ∷ words_of ls else words_of ls)
    go true e rest = λ b. ((r b).0, rest (r b).1)
    go false e rest = let f = r (no_word_not_broken l.lexeme e) in rises_from end back (words_of ls) p (beyond l.place) (further p l.place f.0) (rest f.1)

-- no token stands before the first place, and only tokens of layout before the second
abbrev StandFrom : Place → Place → List Token → Type 0
StandFrom a p [] = Unit {0}
StandFrom a p (t ∷ ts) = (is_before t.place a ≡ false) × (is_layout t.kind ≡ false → is_before t.place p ≡ false) × StandFrom a p ts

stand_before : (a b p q : Place) (ts : List Token) → is_before b a ≡ false → is_before q p ≡ false → StandFrom b q ts → StandFrom a p ts
stand_before a b p q [] h k s = tt
stand_before a b p q (t ∷ ts) h k s = (before_neither a b t.place s.0 h, (λ i. before_neither p q t.place (s.1 i) k), stand_before a b p q ts h k s.2)

before_word : (t : Token) (ts : List Token) → StandFrom (beyond t.place) (beyond t.place) ts → IsBefore t ts
before_word t [] s = tt
before_word t (u ∷ ts) s = (no_less t.place u.place s.0, (λ i j. behind_beyond t.place u.place s.0), before_word t ts s.2)

before_layout : (t : Token) (p : Place) (ts : List Token) → is_layout t.kind ≡ true → StandFrom t.place p ts → IsBefore t ts
before_layout t p [] l s = tt
before_layout t p (u ∷ ts) l s = (s.0, (λ i j. absurd (let no : true ≡ false = sym l ∙ i in cc)), before_layout t p ts l s.2)

-- if there are tokens, they are ordered, and stand so
abbrev Follows : Place → Place → Outcome → Type 0
Follows a p (Tokens ts) = StandFrom a p ts × AreOrdered ts
Follows a p (Refused r q) = Unit {0}

follows_before : (a b p q : Place) (o : Outcome) → is_before b a ≡ false → is_before q p ≡ false → Follows b q o → Follows a p o
follows_before a b p q (Tokens ts) h k f = (stand_before a b p q ts h k f.0, f.1)
follows_before a b p q (Refused r s) h k f = tt

layout_first : (k : Kind) (q p : Place) (ts : List Token) → is_layout k ≡ true → StandFrom q p ts × AreOrdered ts → StandFrom q p (token q k ∷ ts) × AreOrdered (token q k ∷ ts)
layout_first k q p ts l f = ((not_before_itself q, (λ i. absurd (let no : true ≡ false = sym l ∙ i in cc)), f.0), (before_layout (token q k) p ts l f.0, f.1))

preceded_layout : (k : Kind) (q p : Place) (o : Outcome) → is_layout k ≡ true → Follows q p o → Follows q p (preceded (token q k ∷ []) o)
preceded_layout k q p (Tokens ts) l f = layout_first k q p ts l f
preceded_layout k q p (Refused r s) l f = tt

dedents_first : (n : ℕ) (q p : Place) (ts : List Token) → StandFrom q p ts × AreOrdered ts → StandFrom q p (dedents q n ++ ts) × AreOrdered (dedents q n ++ ts)
dedents_first zero q p ts f = f
dedents_first (suc n) q p ts f = layout_first TDedent q p (dedents q n ++ ts) refl (dedents_first n q p ts f)

preceded_dedents : (n : ℕ) (q p : Place) (o : Outcome) → Follows q p o → Follows q p (preceded (dedents q n) o)
preceded_dedents n q p (Tokens ts) f = dedents_first n q p ts f
preceded_dedents n q p (Refused r s) f = tt

dedents_alone : (n : ℕ) (q p : Place) → Follows q p (Tokens (dedents q n))
dedents_alone n q p = subst (λ (ts : List Token). Follows q p (Tokens ts)) (append-nil (dedents q n)) (dedents_first n q p [] (tt, tt))

preceded_word : (k : Kind) (q p : Place) (o : Outcome) → is_before q p ≡ false → Follows (beyond q) (beyond q) o → Follows p p (preceded (token q k ∷ []) o)
preceded_word k q p (Tokens ts) h f = ((h, (λ i. h), stand_before p (beyond q) p (beyond q) ts (further p q h) (further p q h) f.0), (before_word (token q k) ts f.0, f.1))
preceded_word k q p (Refused r s) h f = tt

-- what is refused
abbrev IsRefused : Outcome → Type 0
IsRefused (Tokens ts) = ⊥
IsRefused (Refused r p) = Unit {0}

refused_follows : (a p : Place) (o : Outcome) → IsRefused o → Follows a p o
refused_follows a p (Tokens ts) h = absurd h
refused_follows a p (Refused r q) h = tt

preceded_refused : (ts : List Token) (o : Outcome) → IsRefused o → IsRefused (preceded ts o)
preceded_refused ts (Tokens others) h = absurd h
preceded_refused ts (Refused r q) h = tt

indented_refused : (i : Indentation) (q : Place) (w : Widths) (levels : List Widths) (after : List Widths → Outcome) → ((now : List Widths) → IsRefused (after now)) → IsRefused (indented i q w levels after)
indented_refused Stays q w levels after h = h levels
indented_refused Deeper q w levels after h = preceded_refused (token q TIndent ∷ []) (after (w ∷ levels)) (h (w ∷ levels))
indented_refused (Back n) q w levels after h = preceded_refused (dedents q n) (after (dropped n levels)) (h (dropped n levels))
indented_refused Lost q w levels after h = tt
indented_refused Mixed q w levels after h = tt

indented_follows : (i : Indentation) (q : Place) (w : Widths) (levels : List Widths) (after : List Widths → Outcome) → ((now : List Widths) → Follows q q (after now)) → Follows q q (indented i q w levels after)
indented_follows Stays q w levels after h = h levels
indented_follows Deeper q w levels after h = preceded_layout TIndent q q (after (w ∷ levels)) refl (h (w ∷ levels))
indented_follows (Back n) q w levels after h = preceded_dedents n q q (after (dropped n levels)) (h (dropped n levels))
indented_follows Lost q w levels after h = tt
indented_follows Mixed q w levels after h = tt

first_word : (q : Place) (x : Lexeme) (z : Text) (ls : List Located) (after : Outcome) (p : Place) → (is_broken x ≡ false → (is_before q p ≡ false) × Follows (beyond q) (beyond q) (worded ls after))
    → Follows p p (worded (record { place = q; lexeme = x; text = z } ∷ ls) after)
first_word q (Word k) z ls after p h = preceded_word k q p (worded ls after) (h refl).0 (h refl).1
first_word q (Broken r n) z ls after p h = tt
first_word q (Blank c) z ls after p h = follows_before p (beyond q) p (beyond q) (worded ls after) (further p q (h refl).0) (further p q (h refl).0) (h refl).1
first_word q Nothing z ls after p h = follows_before p (beyond q) p (beyond q) (worded ls after) (further p q (h refl).0) (further p q (h refl).0) (h refl).1
first_word q LineEnd z ls after p h = follows_before p (beyond q) p (beyond q) (worded ls after) (further p q (h refl).0) (further p q (h refl).0) (h refl).1

first_broken : (q : Place) (x : Lexeme) (z : Text) (ls : List Located) (after : Outcome) → is_broken x ≡ true → IsRefused (worded (record { place = q; lexeme = x; text = z } ∷ ls) after)
first_broken q (Word k) z ls after h = absurd (cc)
first_broken q (Broken r n) z ls after h = tt
first_broken q (Blank c) z ls after h = absurd (cc)
first_broken q Nothing z ls after h = absurd (cc)
first_broken q LineEnd z ls after h = absurd (cc)

worded_follows : (end : Place → Type 0) (after : Outcome) → ((q : Place) → end q → Follows q q after) → (ls : List Located) (p : Place) → Rises end p ls → Follows p p (worded ls after)
worded_follows end after h [] p r = h p r
worded_follows end after h (l ∷ ls) p r = first_word l.place l.lexeme l.text ls after p (λ b. ((r b).0, worded_follows end after h ls (beyond l.place) (r b).1))

-- a line with its words, and the lines behind it
abbrev closing : Place → List Line → List Widths → Outcome
closing e lines now = preceded (token e TNewline ∷ []) (all_lines now e lines)

lined_follows : (line : Line) (lines : List Line) (words : List Located) (levels : List Widths) (last p : Place) → is_before p last ≡ false → Rises (Ends line.ended lines) p words
    → ((now : List Widths) (a q : Place) → is_before q a ≡ false → LinesRise q lines → Follows a q (all_lines now a lines))
    → Follows last p (lined line words levels (λ now. all_lines now (newline_after last line words) lines))
lined_follows line lines [] levels last p h r again =
    follows_before last last p (beyond line.ended) (all_lines levels last lines) (not_before_itself last) (further p line.ended r.0)
    (again levels last (beyond line.ended) (before_neither last p (beyond line.ended) (further p line.ended r.0) h) r.1)
lined_follows line lines (first ∷ others) levels last p h r again = go (is_broken first.lexeme) refl
  where
    ending : (now : List Widths) (q : Place) → Ends line.ended lines q → Follows q q (closing line.ended lines now)
    ending now q k =
        follows_before q line.ended q (beyond line.ended) (closing line.ended lines now) k.0 (further q line.ended k.0)
        (preceded_layout TNewline line.ended (beyond line.ended) (all_lines now line.ended lines) refl (again now line.ended (beyond line.ended) (beyond_so line.ended) k.1))

    go : (b : Bool) → is_broken first.lexeme ≡ b
        → Follows last p (indented (indented_from (widths_from no_width line.items) levels) first.place (widths_from no_width line.items) levels (λ now. worded (first ∷ others) (closing line.ended lines now)))
    go true e =
        refused_follows last p (indented (indented_from (widths_from no_width line.items) levels) first.place (widths_from no_width line.items) levels (λ now. worded (first ∷ others) (closing line.ended lines now)))
        (indented_refused (indented_from (widths_from no_width line.items) levels) first.place (widths_from no_width line.items) levels (λ now. worded (first ∷ others) (closing line.ended lines now))
        (λ now. first_broken first.place first.lexeme first.text others (closing line.ended lines now) e))
    go false e =
        follows_before last first.place p first.place (indented (indented_from (widths_from no_width line.items) levels) first.place (widths_from no_width line.items) levels (λ now. worded (first ∷ others) (closing line.ended lines now)))
        (before_neither last p first.place (r e).0 h) (r e).0
        (indented_follows (indented_from (widths_from no_width line.items) levels) first.place (widths_from no_width line.items) levels (λ now. worded (first ∷ others) (closing line.ended lines now))
        (λ now. worded_follows (Ends line.ended lines) (closing line.ended lines now) (ending now) (first ∷ others) first.place (λ b. (not_before_itself first.place, (r e).1))))

all_follow : (lines : List Line) (levels : List Widths) (last p : Place) → is_before p last ≡ false → LinesRise p lines → Follows last p (all_lines levels last lines)
all_follow [] [] last p h r = (tt, tt)
all_follow [] (top ∷ levels) last p h r = dedents_alone (length levels) last p
all_follow (line ∷ lines) [] last p h r =
    lined_follows line lines (words_of line.items) [] last p h (words_rise (Ends line.ended lines) (ends_back line.ended lines) line.items p r) (λ now a q i s. all_follow lines now a q i s)
all_follow (line ∷ lines) (top ∷ levels) last p h r =
    lined_follows line lines (words_of line.items) (top ∷ levels) last p h (words_rise (Ends line.ended lines) (ends_back line.ended lines) line.items p r) (λ now a q i s. all_follow lines now a q i s)

-- texts side by side stand where the first of them does
abbrev Puts : Token → List Token → Type 0
Puts t us =
    (put_before t us ≡ t ∷ us) ⊎ ((x z : List ℕ) × (u : Token) × (ts : List Token) × (t.kind ≡ TText x) × (us ≡ u ∷ ts) × (put_before t us ≡ token t.place (TText z) ∷ ts))

puts_two : (p : Place) (k : Kind) (q : Place) (j : Kind) (ts : List Token) → Puts (token p k) (token q j ∷ ts)
puts_two p (TText x) q (TText y) ts = inr (x, x ++ y, token q (TText y), ts, refl, refl, refl)
puts_two p (TText x) q (TName n) ts = inl refl
puts_two p (TText x) q (TKeyword s) ts = inl refl
puts_two p (TText x) q (TOperator s) ts = inl refl
puts_two p (TText x) q (TNumber n) ts = inl refl
puts_two p (TText x) q TFloat ts = inl refl
puts_two p (TText x) q TImaginary ts = inl refl
puts_two p (TText x) q TBytes ts = inl refl
puts_two p (TText x) q TFormatted ts = inl refl
puts_two p (TText x) q TNewline ts = inl refl
puts_two p (TText x) q TIndent ts = inl refl
puts_two p (TText x) q TDedent ts = inl refl
puts_two p (TName n) q j ts = inl refl
puts_two p (TKeyword s) q j ts = inl refl
puts_two p (TOperator s) q j ts = inl refl
puts_two p (TNumber n) q j ts = inl refl
puts_two p TFloat q j ts = inl refl
puts_two p TImaginary q j ts = inl refl
puts_two p TBytes q j ts = inl refl
puts_two p TFormatted q j ts = inl refl
puts_two p TNewline q j ts = inl refl
puts_two p TIndent q j ts = inl refl
puts_two p TDedent q j ts = inl refl

puts : (t : Token) (us : List Token) → Puts t us
puts t [] = inl refl
puts t (u ∷ ts) = puts_two t.place t.kind u.place u.kind ts

before_merged : (s : Token) (ts : List Token) → IsBefore s ts → IsBefore s (merged ts)
before_merged s [] b = tt
before_merged s (t ∷ ts) b =
    let r = before_merged s ts b.2 in elim (puts t (merged ts)) [
      | inl e ↦ subst (IsBefore s) (sym e) (b.0, b.1, r)
      | inr e ↦ subst (IsBefore s) (sym e.6) (b.0, (λ i j. b.1 i (ap is_layout e.4)), (subst (IsBefore s) e.5 r).2)
    ]

before_same : (t : Token) (k : Kind) (ts : List Token) → is_layout t.kind ≡ false → IsBefore t ts → IsBefore (token t.place k) ts
before_same t k [] l b = tt
before_same t k (u ∷ ts) l b = (b.0, (λ i j. b.1 l j), before_same t k ts l b.2)

merged_ordered : (ts : List Token) → AreOrdered ts → AreOrdered (merged ts)
merged_ordered [] o = tt
merged_ordered (t ∷ ts) o =
    let r = merged_ordered ts o.1 in let b = before_merged t ts o.0 in elim (puts t (merged ts)) [
      | inl e ↦ subst AreOrdered (sym e) (b, r)
      | inr e ↦ subst AreOrdered (sym e.6) (before_same t (TText e.1) e.3 (ap is_layout e.4) (subst (IsBefore t) e.5 b).2, (subst AreOrdered e.5 r).1)
    ]

abbrev IsInOrder : Outcome → Type 0
IsInOrder (Tokens ts) = AreOrdered ts
IsInOrder (Refused r p) = Unit {0}

merged_in_order : (a p : Place) (o : Outcome) → Follows a p o → IsInOrder (merged_outcome o)
merged_in_order a p (Tokens ts) f = merged_ordered ts f.1
merged_in_order a p (Refused r q) f = tt

characters_in_order : (w : Width) (p : Place) (z : Text) → IsInOrder (tokens_of_characters w p z)
characters_in_order w p z =
    merged_in_order p p (all_lines (no_width ∷ []) p (lines_of (place_after p z) (bracketed [] (cut w p 0 z))))
    (all_follow (lines_of (place_after p z) (bracketed [] (cut w p 0 z))) (no_width ∷ []) p p (not_before_itself p)
    (lines_rise (place_after p z) (bracketed [] (cut w p 0 z)) p (bracketed_rises (Until (place_after p z)) (until_back (place_after p z)) (cut w p 0 z) [] p (cut_rises w p 0 z))))

pub tokens_are_ordered : OrderedLaw
tokens_are_ordered n w text ts e = subst IsInOrder e (go (utf8_valid_len text == length text))
  where
    go : (b : Bool) → IsInOrder (if b then tokens_of_characters w (beginning n) (unmarked (chars text)) else Refused NotUtf8 (place_after (beginning n) (unmarked (chars (take (utf8_valid_len text) text)))))
    go true = characters_in_order w (beginning n) (unmarked (chars text))
    go false = tt
