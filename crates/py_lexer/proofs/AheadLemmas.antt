-- What the rest of a text has to give, by what stands at its front.
use Rattle.std.proofs.Common.{◌≡◌, ℕ, zero, suc, ◌-◌, ◌<◌, List, [], ◌∷◌, ◌++◌, take, drop, length, Bool, true, false, cond, refl, sym, ap, ◌∙◌, arith, subst, append_assoc, ◌||◌}
use Rattle.runs.specs.Number.{Width}
use Rattle.py_tokens.specs.Token.{Place, Kind, TName, TKeyword, TOperator, TNumber, TText, TFloat, TImaginary, TBytes, TFormatted, TNewline, TIndent, TDedent, Refusal, UnclosedBracket, Token, Outcome, Tokens, Refused, next_place, place_after}
use Rattle.py_tokens.specs.Characters.{Text}
use Rattle.py_tokens.specs.Lexeme.{Lexeme, Blank, Nothing, LineEnd, Word, Broken, front, front_of}
use Rattle.py_tokens.specs.Lines.{Located, cut, is_opening, is_closing, are_partners, Open, unclosed, closed, bracketed_at, bracketed, Line, in_front, is_line_end, lines_of, Widths, no_width, wider, widths_from, is_word, words_of}
use Rattle.py_tokens.specs.Tokens.{token, preceded, newline_after, lined, all_lines}
use Rattle.py_lexer.specs.Ahead.{located, Sofar, Blanks, Settled, Words, opened, lines_from, opened_by, is_bracket, settled}

-- ---- whole lines

line_whole : (line : Line) (words : List Located) (others : List Line) (levels : List Widths) (last : Place)
    → lined line words levels (λ now. all_lines now (newline_after last line words) others) ≡ opened (widths_from no_width line.items) line.ended words others levels last
line_whole line [] others levels last = refl
line_whole line (first ∷ words) others levels last = refl

whole : (levels : List Widths) (last : Place) (line : Line) (others : List Line) → all_lines levels last (line ∷ others) ≡ lines_from (Blanks no_width) levels last (line ∷ others)
whole [] last line others = line_whole line (words_of line.items) others [] last
whole (top ∷ levels) last line others = line_whole line (words_of line.items) others (top ∷ levels) last

-- there is always a line
pub record HasLine (lines : List Line) : Type 0 where
  pub line : Line
  pub others : List Line
  pub is : lines ≡ line ∷ others

in_front-line : (l : Located) (lines : List Line) → HasLine lines → HasLine (in_front l lines)
in_front-line l lines h = record { line = record { items = l ∷ h.line.items; ended = h.line.ended }; others = h.others; is = ap (in_front l) h.is }

pub has_line : (end : Place) (ls : List Located) → HasLine (lines_of end ls)
has_line end [] = record { line = record { items = []; ended = end }; others = []; is = refl }
has_line end (l ∷ ls) = by_end (is_line_end l.lexeme) (lines_of end ls) (has_line end ls)
  where
    by_end : (t : Bool) (lines : List Line) → HasLine lines → HasLine (cond t (record { items = []; ended = l.place } ∷ lines) (in_front l lines))
    by_end true lines h = record { line = record { items = []; ended = l.place }; others = lines; is = refl }
    by_end false lines h = in_front-line l lines h

pub all_lines-from : (levels : List Widths) (last end : Place) (ls : List Located) → all_lines levels last (lines_of end ls) ≡ lines_from (Blanks no_width) levels last (lines_of end ls)
all_lines-from levels last end ls =
    let h = has_line end ls in
    ap (all_lines levels last) h.is ∙ whole levels last h.line h.others ∙ ap (lines_from (Blanks no_width) levels last) (sym h.is)

-- ---- what is no word

in_front-blank : (w : Widths) (levels : List Widths) (last p : Place) (c : ℕ) (s : Text) (lines : List Line) → lines_from (Blanks w) levels last (in_front (located p (Blank c) s) lines) ≡ lines_from (Blanks (wider w c)) levels last lines
in_front-blank w levels last p c s [] = refl
in_front-blank w levels last p c s (line ∷ others) = refl

pub items-blank : (w : Widths) (levels : List Widths) (last p end : Place) (c : ℕ) (s : Text) (pending : List Open) (ls : List Located)
    → lines_from (Blanks w) levels last (lines_of end (bracketed pending (located p (Blank c) s ∷ ls))) ≡ lines_from (Blanks (wider w c)) levels last (lines_of end (bracketed pending ls))
items-blank w levels last p end c s [] ls = in_front-blank w levels last p c s (lines_of end (bracketed [] ls))
items-blank w levels last p end c s (o ∷ pending) ls = in_front-blank w levels last p c s (lines_of end (bracketed (o ∷ pending) ls))

-- where blanks do not count
in_front-later_blank : (w : Widths) (levels : List Widths) (last p : Place) (c : ℕ) (s : Text) (lines : List Line) → lines_from (Settled w) levels last (in_front (located p (Blank c) s) lines) ≡ lines_from (Settled w) levels last lines
in_front-later_blank w levels last p c s [] = refl
in_front-later_blank w levels last p c s (line ∷ others) = refl

pub items-later_blank : (w : Widths) (levels : List Widths) (last p end : Place) (c : ℕ) (s : Text) (pending : List Open) (ls : List Located)
    → lines_from (Settled w) levels last (lines_of end (bracketed pending (located p (Blank c) s ∷ ls))) ≡ lines_from (Settled w) levels last (lines_of end (bracketed pending ls))
items-later_blank w levels last p end c s [] ls = in_front-later_blank w levels last p c s (lines_of end (bracketed [] ls))
items-later_blank w levels last p end c s (o ∷ pending) ls = in_front-later_blank w levels last p c s (lines_of end (bracketed (o ∷ pending) ls))

in_front-between : (levels : List Widths) (last p : Place) (c : ℕ) (s : Text) (lines : List Line) → lines_from Words levels last (in_front (located p (Blank c) s) lines) ≡ lines_from Words levels last lines
in_front-between levels last p c s [] = refl
in_front-between levels last p c s (line ∷ others) = refl

pub items-between : (levels : List Widths) (last p end : Place) (c : ℕ) (s : Text) (pending : List Open) (ls : List Located)
    → lines_from Words levels last (lines_of end (bracketed pending (located p (Blank c) s ∷ ls))) ≡ lines_from Words levels last (lines_of end (bracketed pending ls))
items-between levels last p end c s [] ls = in_front-between levels last p c s (lines_of end (bracketed [] ls))
items-between levels last p end c s (o ∷ pending) ls = in_front-between levels last p c s (lines_of end (bracketed (o ∷ pending) ls))

in_front-nothing : (sofar : Sofar) (levels : List Widths) (last p : Place) (s : Text) (lines : List Line) → lines_from sofar levels last (in_front (located p Nothing s) lines) ≡ lines_from (settled sofar) levels last lines
in_front-nothing sofar levels last p s [] = refl
in_front-nothing (Blanks w) levels last p s (line ∷ others) = refl
in_front-nothing (Settled w) levels last p s (line ∷ others) = refl
in_front-nothing Words levels last p s (line ∷ others) = refl

pub items-nothing : (sofar : Sofar) (levels : List Widths) (last p end : Place) (s : Text) (pending : List Open) (ls : List Located)
    → lines_from sofar levels last (lines_of end (bracketed pending (located p Nothing s ∷ ls))) ≡ lines_from (settled sofar) levels last (lines_of end (bracketed pending ls))
items-nothing sofar levels last p end s [] ls = in_front-nothing sofar levels last p s (lines_of end (bracketed [] ls))
items-nothing sofar levels last p end s (o ∷ pending) ls = in_front-nothing sofar levels last p s (lines_of end (bracketed (o ∷ pending) ls))

-- ---- a line end

pub items-end_blanks : (w : Widths) (levels : List Widths) (last p end : Place) (s : Text) (ls : List Located)
    → lines_from (Blanks w) levels last (lines_of end (bracketed [] (located p LineEnd s ∷ ls))) ≡ lines_from (Blanks no_width) levels last (lines_of end (bracketed [] ls))
items-end_blanks w levels last p end s ls = all_lines-from levels last end (bracketed [] ls)

pub items-end_settled : (w : Widths) (levels : List Widths) (last p end : Place) (s : Text) (ls : List Located)
    → lines_from (Settled w) levels last (lines_of end (bracketed [] (located p LineEnd s ∷ ls))) ≡ lines_from (Blanks no_width) levels last (lines_of end (bracketed [] ls))
items-end_settled w levels last p end s ls = all_lines-from levels last end (bracketed [] ls)

pub items-end_words : (levels : List Widths) (last p end : Place) (s : Text) (ls : List Located)
    → lines_from Words levels last (lines_of end (bracketed [] (located p LineEnd s ∷ ls))) ≡ preceded (token p TNewline ∷ []) (lines_from (Blanks no_width) levels p (lines_of end (bracketed [] ls)))
items-end_words levels last p end s ls = ap (preceded (token p TNewline ∷ [])) (all_lines-from levels p end (bracketed [] ls))

pub items-end_within : (sofar : Sofar) (levels : List Widths) (last p end : Place) (s : Text) (o : Open) (pending : List Open) (ls : List Located)
    → lines_from sofar levels last (lines_of end (bracketed (o ∷ pending) (located p LineEnd s ∷ ls))) ≡ lines_from sofar levels last (lines_of end (bracketed (o ∷ pending) ls))
items-end_within sofar levels last p end s o pending ls = refl

-- ---- a word

opens_line : (sofar : Sofar) (levels : List Widths) (last p : Place) (x : Lexeme) (s : Text) (lines : List Line) → is_word x ≡ true → HasLine lines
    → lines_from sofar levels last (in_front (located p x s) lines) ≡ opened_by sofar p levels (λ now. lines_from Words now last (in_front (located p x s) lines))
opens_line sofar levels last p x s [] h some = absurd (cc)
opens_line (Blanks w) levels last p (Word k) s (line ∷ others) h some = refl
opens_line (Blanks w) levels last p (Broken r n) s (line ∷ others) h some = refl
opens_line (Settled w) levels last p (Word k) s (line ∷ others) h some = refl
opens_line (Settled w) levels last p (Broken r n) s (line ∷ others) h some = refl
opens_line Words levels last p x s (line ∷ others) h some = refl
opens_line (Blanks w) levels last p (Blank c) s (line ∷ others) h some = absurd (cc)
opens_line (Blanks w) levels last p Nothing s (line ∷ others) h some = absurd (cc)
opens_line (Blanks w) levels last p LineEnd s (line ∷ others) h some = absurd (cc)
opens_line (Settled w) levels last p (Blank c) s (line ∷ others) h some = absurd (cc)
opens_line (Settled w) levels last p Nothing s (line ∷ others) h some = absurd (cc)
opens_line (Settled w) levels last p LineEnd s (line ∷ others) h some = absurd (cc)

-- before a word levels begin or end
opens_word : (sofar : Sofar) (levels : List Widths) (last p end : Place) (k : Kind) (s : Text) (ls : List Located)
    → lines_from sofar levels last (lines_of end (located p (Word k) s ∷ ls)) ≡ opened_by sofar p levels (λ now. lines_from Words now last (lines_of end (located p (Word k) s ∷ ls)))
opens_word sofar levels last p end k s ls = opens_line sofar levels last p (Word k) s (lines_of end ls) refl (has_line end ls)

opens_broken : (sofar : Sofar) (levels : List Widths) (last p end : Place) (r : Refusal) (n : ℕ) (s : Text) (ls : List Located)
    → lines_from sofar levels last (lines_of end (located p (Broken r n) s ∷ ls)) ≡ opened_by sofar p levels (λ now. lines_from Words now last (lines_of end (located p (Broken r n) s ∷ ls)))
opens_broken sofar levels last p end r n s ls = opens_line sofar levels last p (Broken r n) s (lines_of end ls) refl (has_line end ls)

-- ---- brackets

-- some items begin with a word at a place
pub record Heads (p : Place) (items : List Located) : Type 0 where
  pub lexeme : Lexeme
  pub text : Text
  pub others : List Located
  pub is : items ≡ located p lexeme text ∷ others
  pub word : is_word lexeme ≡ true

heads_word : (p : Place) (k : Kind) (s : Text) (ls : List Located) → Heads p (located p (Word k) s ∷ ls)
heads_word p k s ls = record { lexeme = Word k; text = s; others = ls; is = refl; word = refl }

heads_unclosed : (p : Place) → Heads p (unclosed p)
heads_unclosed p = record { lexeme = Broken UnclosedBracket 0; text = []; others = []; is = refl; word = refl }

heads_partner : (p : Place) (k : Kind) (s : Text) (again : List Located) (t : Bool) → Heads p (cond t (located p (Word k) s ∷ again) (unclosed p))
heads_partner p k s again true = heads_word p k s again
heads_partner p k s again false = heads_unclosed p

heads_closed : (p : Place) (k : Kind) (s t : Text) (again : List Open → List Located) (pending : List Open) → Heads p (closed (located p (Word k) s) again t pending)
heads_closed p k s t again [] = heads_unclosed p
heads_closed p k s t again (o ∷ pending) = heads_partner p k s (again pending) (are_partners o.bracket t)

heads_operator : (p : Place) (k : Kind) (s t : Text) (again : List Open → List Located) (pending : List Open) (opens closes : Bool)
    → Heads p (cond opens (located p (Word k) s ∷ again (record { place = p; bracket = t } ∷ pending)) (cond closes (closed (located p (Word k) s) again t pending) (located p (Word k) s ∷ again pending)))
heads_operator p k s t again pending true close = heads_word p k s (again (record { place = p; bracket = t } ∷ pending))
heads_operator p k s t again pending false true = heads_closed p k s t again pending
heads_operator p k s t again pending false false = heads_word p k s (again pending)

heads_at : (p : Place) (k : Kind) (s : Text) (again : List Open → List Located) (pending : List Open) → Heads p (bracketed_at (located p (Word k) s) again (Word k) pending)
heads_at p (TOperator t) s again pending = heads_operator p (TOperator t) s t again pending (is_opening t) (is_closing t)
heads_at p (TName n) s again pending = heads_word p (TName n) s (again pending)
heads_at p (TKeyword n) s again pending = heads_word p (TKeyword n) s (again pending)
heads_at p (TNumber n) s again pending = heads_word p (TNumber n) s (again pending)
heads_at p (TText n) s again pending = heads_word p (TText n) s (again pending)
heads_at p TFloat s again pending = heads_word p TFloat s (again pending)
heads_at p TImaginary s again pending = heads_word p TImaginary s (again pending)
heads_at p TBytes s again pending = heads_word p TBytes s (again pending)
heads_at p TFormatted s again pending = heads_word p TFormatted s (again pending)
heads_at p TNewline s again pending = heads_word p TNewline s (again pending)
heads_at p TIndent s again pending = heads_word p TIndent s (again pending)
heads_at p TDedent s again pending = heads_word p TDedent s (again pending)

bracketed-cons : (pending : List Open) (l : Located) (ls : List Located) → bracketed pending (l ∷ ls) ≡ bracketed_at l (λ others. bracketed others ls) l.lexeme pending
bracketed-cons [] l ls = refl
bracketed-cons (o ∷ pending) l ls = refl

bracketed-broken : (pending : List Open) (p : Place) (r : Refusal) (n : ℕ) (s : Text) (ls : List Located) → bracketed pending (located p (Broken r n) s ∷ ls) ≡ located p (Broken r n) s ∷ bracketed pending ls
bracketed-broken [] p r n s ls = refl
bracketed-broken (o ∷ pending) p r n s ls = refl

opens_located : (sofar : Sofar) (levels : List Widths) (last p end : Place) (x : Lexeme) (s : Text) (ls : List Located) → is_word x ≡ true
    → lines_from sofar levels last (lines_of end (located p x s ∷ ls)) ≡ opened_by sofar p levels (λ now. lines_from Words now last (lines_of end (located p x s ∷ ls)))
opens_located sofar levels last p end (Word k) s ls h = opens_word sofar levels last p end k s ls
opens_located sofar levels last p end (Broken r n) s ls h = opens_broken sofar levels last p end r n s ls
opens_located sofar levels last p end (Blank c) s ls h = absurd (cc)
opens_located sofar levels last p end Nothing s ls h = absurd (cc)
opens_located sofar levels last p end LineEnd s ls h = absurd (cc)

opens_heads : (sofar : Sofar) (levels : List Widths) (last p end : Place) (items : List Located) → Heads p items → lines_from sofar levels last (lines_of end items) ≡ opened_by sofar p levels (λ now. lines_from Words now last (lines_of end items))
opens_heads sofar levels last p end items h =
    subst (λ items. lines_from sofar levels last (lines_of end items) ≡ opened_by sofar p levels (λ now. lines_from Words now last (lines_of end items))) (sym h.is)
    (opens_located sofar levels last p end h.lexeme h.text h.others h.word)

heads-word : (pending : List Open) (p : Place) (k : Kind) (s : Text) (ls : List Located) → Heads p (bracketed pending (located p (Word k) s ∷ ls))
heads-word pending p k s ls = subst (Heads p) (sym (bracketed-cons pending (located p (Word k) s) ls)) (heads_at p k s (λ others. bracketed others ls) pending)

heads-broken : (pending : List Open) (p : Place) (r : Refusal) (n : ℕ) (s : Text) (ls : List Located) → Heads p (bracketed pending (located p (Broken r n) s ∷ ls))
heads-broken pending p r n s ls = record { lexeme = Broken r n; text = s; others = bracketed pending ls; is = bracketed-broken pending p r n s ls; word = refl }

-- before a word levels begin or end
pub items-opens : (sofar : Sofar) (levels : List Widths) (last p end : Place) (k : Kind) (s : Text) (pending : List Open) (ls : List Located)
    → lines_from sofar levels last (lines_of end (bracketed pending (located p (Word k) s ∷ ls)))
    ≡ opened_by sofar p levels (λ now. lines_from Words now last (lines_of end (bracketed pending (located p (Word k) s ∷ ls))))
items-opens sofar levels last p end k s pending ls = opens_heads sofar levels last p end (bracketed pending (located p (Word k) s ∷ ls)) (heads-word pending p k s ls)

pub items-opens_broken : (sofar : Sofar) (levels : List Widths) (last p end : Place) (r : Refusal) (n : ℕ) (s : Text) (pending : List Open) (ls : List Located)
    → lines_from sofar levels last (lines_of end (bracketed pending (located p (Broken r n) s ∷ ls)))
    ≡ opened_by sofar p levels (λ now. lines_from Words now last (lines_of end (bracketed pending (located p (Broken r n) s ∷ ls))))
items-opens_broken sofar levels last p end r n s pending ls = opens_heads sofar levels last p end (bracketed pending (located p (Broken r n) s ∷ ls)) (heads-broken pending p r n s ls)

pub items-opens_unclosed : (sofar : Sofar) (levels : List Widths) (last end : Place) (o : Open) (pending : List Open)
    → lines_from sofar levels last (lines_of end (bracketed (o ∷ pending) [])) ≡ opened_by sofar o.place levels (λ now. Refused UnclosedBracket o.place)
items-opens_unclosed sofar levels last end o pending = opens_heads sofar levels last o.place end (unclosed o.place) (heads_unclosed o.place)

in_front-word : (levels : List Widths) (last p : Place) (k : Kind) (s : Text) (lines : List Line) → HasLine lines → lines_from Words levels last (in_front (located p (Word k) s) lines) ≡ preceded (token p k ∷ []) (lines_from Words levels last lines)
in_front-word levels last p k s [] h = absurd (cc)
in_front-word levels last p k s (line ∷ others) h = refl

word_located : (levels : List Widths) (last p end : Place) (k : Kind) (s : Text) (ls : List Located) → lines_from Words levels last (lines_of end (located p (Word k) s ∷ ls)) ≡ preceded (token p k ∷ []) (lines_from Words levels last (lines_of end ls))
word_located levels last p end k s ls = in_front-word levels last p k s (lines_of end ls) (has_line end ls)

in_front-broken : (levels : List Widths) (last p : Place) (r : Refusal) (n : ℕ) (s : Text) (lines : List Line) → HasLine lines → lines_from Words levels last (in_front (located p (Broken r n) s) lines) ≡ Refused r (place_after p (take n s))
in_front-broken levels last p r n s [] h = absurd (cc)
in_front-broken levels last p r n s (line ∷ others) h = refl

pub items-broken : (levels : List Widths) (last p end : Place) (r : Refusal) (n : ℕ) (s : Text) (pending : List Open) (ls : List Located)
    → lines_from Words levels last (lines_of end (bracketed pending (located p (Broken r n) s ∷ ls))) ≡ Refused r (place_after p (take n s))
items-broken levels last p end r n s pending ls =
    ap (λ items. lines_from Words levels last (lines_of end items)) (bracketed-broken pending p r n s ls) ∙ in_front-broken levels last p r n s (lines_of end (bracketed pending ls)) (has_line end (bracketed pending ls))

operator_plain : (l : Located) (x y z : List Located) (opens closes : Bool) → (opens || closes) ≡ false → cond opens x (cond closes y z) ≡ z
operator_plain l x y z true close h = absurd (cc)
operator_plain l x y z false true h = absurd (cc)
operator_plain l x y z false false h = refl

at-plain : (p : Place) (k : Kind) (s : Text) (again : List Open → List Located) (pending : List Open) → is_bracket k ≡ false → bracketed_at (located p (Word k) s) again (Word k) pending ≡ located p (Word k) s ∷ again pending
at-plain p (TOperator t) s again pending h =
    operator_plain (located p (Word (TOperator t)) s) (located p (Word (TOperator t)) s ∷ again (record { place = p; bracket = t } ∷ pending)) (closed (located p (Word (TOperator t)) s) again t pending)
    (located p (Word (TOperator t)) s ∷ again pending) (is_opening t) (is_closing t) h
at-plain p (TName n) s again pending h = refl
at-plain p (TKeyword n) s again pending h = refl
at-plain p (TNumber n) s again pending h = refl
at-plain p (TText n) s again pending h = refl
at-plain p TFloat s again pending h = refl
at-plain p TImaginary s again pending h = refl
at-plain p TBytes s again pending h = refl
at-plain p TFormatted s again pending h = refl
at-plain p TNewline s again pending h = refl
at-plain p TIndent s again pending h = refl
at-plain p TDedent s again pending h = refl

pub items-word : (levels : List Widths) (last p end : Place) (k : Kind) (s : Text) (pending : List Open) (ls : List Located) → is_bracket k ≡ false
    → lines_from Words levels last (lines_of end (bracketed pending (located p (Word k) s ∷ ls))) ≡ preceded (token p k ∷ []) (lines_from Words levels last (lines_of end (bracketed pending ls)))
items-word levels last p end k s pending ls h =
    ap (λ items. lines_from Words levels last (lines_of end items)) (bracketed-cons pending (located p (Word k) s) ls ∙ at-plain p k s (λ others. bracketed others ls) pending h)
    ∙ word_located levels last p end k s (bracketed pending ls)

pub items-opening : (levels : List Widths) (last p end : Place) (t s : Text) (pending : List Open) (ls : List Located) → is_opening t ≡ true
    → lines_from Words levels last (lines_of end (bracketed pending (located p (Word (TOperator t)) s ∷ ls)))
    ≡ preceded (token p (TOperator t) ∷ []) (lines_from Words levels last (lines_of end (bracketed (record { place = p; bracket = t } ∷ pending) ls)))
items-opening levels last p end t s pending ls h =
    let l = located p (Word (TOperator t)) s in
    let again : List Open → List Located = λ others. bracketed others ls in
    ap (λ items. lines_from Words levels last (lines_of end items)) (bracketed-cons pending l ls ∙ ap (λ b. cond b (l ∷ again (record { place = p; bracket = t } ∷ pending)) (cond (is_closing t) (closed l again t pending) (l ∷ again pending))) h)
    ∙ word_located levels last p end (TOperator t) s (bracketed (record { place = p; bracket = t } ∷ pending) ls)

closing_at : (p : Place) (t s : Text) (pending : List Open) (ls : List Located) → is_opening t ≡ false → is_closing t ≡ true
    → bracketed pending (located p (Word (TOperator t)) s ∷ ls) ≡ closed (located p (Word (TOperator t)) s) (λ others. bracketed others ls) t pending
closing_at p t s pending ls h k =
    let l = located p (Word (TOperator t)) s in
    let again : List Open → List Located = λ others. bracketed others ls in
    bracketed-cons pending l ls
    ∙ ap (λ b. cond b (l ∷ again (record { place = p; bracket = t } ∷ pending)) (cond (is_closing t) (closed l again t pending) (l ∷ again pending))) h
    ∙ ap (λ b. cond b (closed l again t pending) (l ∷ again pending)) k

pub items-closing : (levels : List Widths) (last p end : Place) (t s : Text) (o : Open) (pending : List Open) (ls : List Located) → is_opening t ≡ false → is_closing t ≡ true → are_partners o.bracket t ≡ true
    → lines_from Words levels last (lines_of end (bracketed (o ∷ pending) (located p (Word (TOperator t)) s ∷ ls)))
    ≡ preceded (token p (TOperator t) ∷ []) (lines_from Words levels last (lines_of end (bracketed pending ls)))
items-closing levels last p end t s o pending ls h k partners =
    let l = located p (Word (TOperator t)) s in
    ap (λ items. lines_from Words levels last (lines_of end items)) (closing_at p t s (o ∷ pending) ls h k ∙ ap (λ b. cond b (l ∷ bracketed pending ls) (unclosed p)) partners)
    ∙ word_located levels last p end (TOperator t) s (bracketed pending ls)

pub items-other_closing : (levels : List Widths) (last p end : Place) (t s : Text) (o : Open) (pending : List Open) (ls : List Located) → is_opening t ≡ false → is_closing t ≡ true → are_partners o.bracket t ≡ false
    → lines_from Words levels last (lines_of end (bracketed (o ∷ pending) (located p (Word (TOperator t)) s ∷ ls))) ≡ Refused UnclosedBracket p
items-other_closing levels last p end t s o pending ls h k partners =
    let l = located p (Word (TOperator t)) s in
    ap (λ items. lines_from Words levels last (lines_of end items)) (closing_at p t s (o ∷ pending) ls h k ∙ ap (λ b. cond b (l ∷ bracketed pending ls) (unclosed p)) partners)

pub items-lone_closing : (levels : List Widths) (last p end : Place) (t s : Text) (ls : List Located) → is_opening t ≡ false → is_closing t ≡ true
    → lines_from Words levels last (lines_of end (bracketed [] (located p (Word (TOperator t)) s ∷ ls))) ≡ Refused UnclosedBracket p
items-lone_closing levels last p end t s ls h k = ap (λ items. lines_from Words levels last (lines_of end items)) (closing_at p t s [] ls h k)

-- ---- what stands one behind another

cut-skip : (w : Width) (p : Place) (n : ℕ) (z : Text) → cut w p n z ≡ cut w (place_after p (take n z)) 0 (drop n z)
cut-skip w p zero [] = refl
cut-skip w p (suc n) [] = refl
cut-skip w p zero (c ∷ z) = refl
cut-skip w p (suc n) (c ∷ z) = cut-skip w (next_place p c) n z

pub cut-front : (w : Width) (p : Place) (z : Text) (n : ℕ) (x : Lexeme) → 0 < length z → 0 < n → front_of w z ≡ front n x → cut w p 0 z ≡ located p x z ∷ cut w (place_after p (take n z)) 0 (drop n z)
cut-front w p [] n x some least h = absurd (omega arith)
cut-front w p (c ∷ z) zero x some least h = absurd (omega arith)
cut-front w p (c ∷ z) (suc n) x some least h =
    ap (λ f. located p f.lexeme (c ∷ z) ∷ cut w (next_place p c) (f.length_of - 1) z) h
    ∙ ap (λ m. located p x (c ∷ z) ∷ cut w (next_place p c) m z) (omega arith)
    ∙ ap (λ ls. located p x (c ∷ z) ∷ ls) (cut-skip w (next_place p c) n z)

pub place_after-append : (p : Place) (x y : Text) → place_after p (x ++ y) ≡ place_after (place_after p x) y
place_after-append p [] y = refl
place_after-append p (c ∷ x) y = place_after-append (next_place p c) x y

-- ---- outcomes

pub preceded-preceded : (xs ys : List Token) (o : Outcome) → preceded xs (preceded ys o) ≡ preceded (xs ++ ys) o
preceded-preceded xs ys (Tokens ts) = ap Tokens (sym (append_assoc xs ys ts))
preceded-preceded xs ys (Refused r p) = refl
