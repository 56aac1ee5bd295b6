-- One step of the code, and what it leaves to come.
use Rattle.std.proofs.Common.{◌≡◌, ℕ, zero, suc, slice_get, get_or, Some, ◌<◌, List, [], ◌∷◌, ◌++◌, length, map, reverse, true, false, refl, sym, ap, ◌∙◌, arith}
use Rattle.std.proofs.lemmas.List.{reverse-append, length-map, length-reverse}
use Rattle.py_tokens.specs.Token as meaning
use Rattle.py_tokens.specs.Characters.{Text}
use Rattle.py_tokens.specs.Lexeme.{Blank, Nothing, LineEnd, Word, Broken}
use Rattle.py_tokens.specs.Lines as meaning_lines
use Rattle.py_tokens.specs.Tokens.{token, preceded, dedents, all_lines, merged, merged_outcome}
use Rattle.py_lexer.specs.declared.token.Token.{Token}
use Rattle.py_lexer.specs.declared.lines.Widths.{Widths}
use Rattle.py_lexer.specs.declared.lines.Bracket.{Bracket}
use Rattle.py_lexer.specs.declared.lines.Bracket.TheVariants as bracket
use Rattle.py_lexer.specs.declared.lines.Progress.{Progress}
use Rattle.py_lexer.specs.declared.lines.Progress.TheVariants as progress
use Rattle.py_lexer.specs.declared.lines.Open.{Open}
use Rattle.py_lexer.specs.declared.lines.Output.{Output}
use Rattle.py_lexer.specs.declared.lines.Lines.{Lines}
use Rattle.py_lexer.specs.PlainTokens.{plain_place, plain_tokens}
use Rattle.py_lexer.specs.Ahead.{located, Sofar, Blanks, Settled, Words, lines_from, settled, blanked, opened_by, Follows, Apart}
use Rattle.py_lexer.specs.Reading.{Extends}
use Rattle.py_lexer.specs.Wanted.{plain_widths, plain_sofar, opening_text, closing_text, plain_open, pending_of, levels_of, followed, ahead}
use Rattle.py_lexer.proofs.AheadLemmas.{items-blank, items-later_blank, items-between, items-nothing, items-end_within, items-opens, items-opens_broken, items-opens_unclosed}
use Rattle.py_lexer.proofs.MergeLemmas.{merged-apart}

-- ---- brackets

pub opening-opens : (b : Bracket) → meaning_lines.is_opening (opening_text b) ≡ true
opening-opens bracket.Round = refl
opening-opens bracket.Square = refl
opening-opens bracket.Curly = refl

pub closing-closes : (b : Bracket) → meaning_lines.is_closing (closing_text b) ≡ true
closing-closes bracket.Round = refl
closing-closes bracket.Square = refl
closing-closes bracket.Curly = refl

pub closing-opens : (b : Bracket) → meaning_lines.is_opening (closing_text b) ≡ false
closing-opens bracket.Round = refl
closing-opens bracket.Square = refl
closing-opens bracket.Curly = refl

abbrev meaning_open : meaning.Place → Text → meaning_lines.Open
meaning_open p t = record { place = p; bracket = t }

pub pending-pushed : (items : List Open) (o : Open) → pending_of (items ++ o ∷ []) ≡ plain_open o ∷ pending_of items
pending-pushed items o = ap (map plain_open) (reverse-append items (o ∷ []))

pub pending-opened : (items : List Open) (o : Open) (t : Text) → t ≡ opening_text o.bracket → meaning_open (plain_place o.place) t ∷ pending_of items ≡ pending_of (items ++ o ∷ [])
pending-opened items o t e = ap (λ b. meaning_open (plain_place o.place) b ∷ pending_of items) e ∙ sym (pending-pushed items o)

pub pending-popped : (old new : List Open) (o : Open) → old ≡ new ++ o ∷ [] → pending_of old ≡ plain_open o ∷ pending_of new
pending-popped old new o e = ap pending_of e ∙ pending-pushed new o

within_pending : (sofar : Sofar) (levels : List meaning_lines.Widths) (last p end : meaning.Place) (s : Text) (pending : List meaning_lines.Open) (ls : List meaning_lines.Located) → 0 < length pending
    → lines_from sofar levels last (meaning_lines.lines_of end (meaning_lines.bracketed pending (located p LineEnd s ∷ ls))) ≡ lines_from sofar levels last (meaning_lines.lines_of end (meaning_lines.bracketed pending ls))
within_pending sofar levels last p end s [] ls some = absurd (omega arith)
within_pending sofar levels last p end s (o ∷ pending) ls some = items-end_within sofar levels last p end s o pending ls

length-pending : (items : List Open) → length (pending_of items) ≡ length items
length-pending items = length-map (reverse items) plain_open ∙ length-reverse items

-- ---- steps that give no token

pub step-within : (texts : List (List ℕ)) (l : Lines) (end p : meaning.Place) (s : Text) (items : List meaning_lines.Located) → 0 < length l.pending.items → ahead texts l end (located p LineEnd s ∷ items) ≡ ahead texts l end items
unfolding ahead followed
step-within texts l end p s items some =
    ap (λ o. merged_outcome (preceded (plain_tokens texts l.output.tokens.items) o))
    (within_pending (plain_sofar l.progress) (levels_of l.output) (plain_place l.last) p end s (pending_of l.pending.items) items (omega (arith, length-pending l.pending.items, some)))

items-blanked : (sofar : Sofar) (levels : List meaning_lines.Widths) (last p end : meaning.Place) (c : ℕ) (s : Text) (pending : List meaning_lines.Open) (ls : List meaning_lines.Located)
    → lines_from sofar levels last (meaning_lines.lines_of end (meaning_lines.bracketed pending (located p (Blank c) s ∷ ls))) ≡ lines_from (blanked sofar c) levels last (meaning_lines.lines_of end (meaning_lines.bracketed pending ls))
items-blanked (Blanks w) levels last p end c s pending ls = items-blank w levels last p end c s pending ls
items-blanked (Settled w) levels last p end c s pending ls = items-later_blank w levels last p end c s pending ls
items-blanked Words levels last p end c s pending ls = items-between levels last p end c s pending ls

pub step-blank : (texts : List (List ℕ)) (l : Lines) (q : Progress) (end p : meaning.Place) (c : ℕ) (s : Text) (items : List meaning_lines.Located) → blanked (plain_sofar l.progress) c ≡ plain_sofar q
    → ahead texts l end (located p (Blank c) s ∷ items) ≡ ahead texts (record { output = l.output; pending = l.pending; progress = q; last = l.last }) end items
unfolding ahead followed
step-blank texts l q end p c s items e =
    ap (λ o. merged_outcome (preceded (plain_tokens texts l.output.tokens.items) o))
    (items-blanked (plain_sofar l.progress) (levels_of l.output) (plain_place l.last) p end c s (pending_of l.pending.items) items
    ∙ ap (λ x. lines_from x (levels_of l.output) (plain_place l.last) (meaning_lines.lines_of end (meaning_lines.bracketed (pending_of l.pending.items) items))) e)

pub step-nothing : (texts : List (List ℕ)) (l : Lines) (q : Progress) (end p : meaning.Place) (s : Text) (items : List meaning_lines.Located) → settled (plain_sofar l.progress) ≡ plain_sofar q
    → ahead texts l end (located p Nothing s ∷ items) ≡ ahead texts (record { output = l.output; pending = l.pending; progress = q; last = l.last }) end items
unfolding ahead followed
step-nothing texts l q end p s items e =
    ap (λ o. merged_outcome (preceded (plain_tokens texts l.output.tokens.items) o))
    (items-nothing (plain_sofar l.progress) (levels_of l.output) (plain_place l.last) p end s (pending_of l.pending.items) items
    ∙ ap (λ x. lines_from x (levels_of l.output) (plain_place l.last) (meaning_lines.lines_of end (meaning_lines.bracketed (pending_of l.pending.items) items))) e)

-- ---- steps that give one

levels-same : (old new : Output) → new.innermost ≡ old.innermost → new.outer ≡ old.outer → levels_of new ≡ levels_of old
levels-same old new e f = ap (λ w. plain_widths w ∷ map plain_widths (reverse new.outer.items)) e ∙ ap (λ v. plain_widths old.innermost ∷ map plain_widths (reverse v.items)) f

pub followed-token : (texts : List (List ℕ)) (old new : Output) (t : meaning.Token) (before after : List meaning_lines.Widths → meaning.Outcome) → Follows (plain_tokens texts old.tokens.items) (plain_tokens texts new.tokens.items) t
    → new.innermost ≡ old.innermost → new.outer ≡ old.outer → ((levels : List meaning_lines.Widths) → before levels ≡ preceded (t ∷ []) (after levels)) → followed texts old before ≡ followed texts new after
unfolding followed
followed-token texts old new t before after follows e f h =
    ap (λ o. merged_outcome (preceded (plain_tokens texts old.tokens.items) o)) (h (levels_of old))
    ∙ follows (after (levels_of old))
    ∙ ap (λ levels. merged_outcome (preceded (plain_tokens texts new.tokens.items) (after levels))) (sym (levels-same old new e f))

pub begun-ahead : (texts : List (List ℕ)) (l : Lines) (end : meaning.Place) (items : List meaning_lines.Located) → l.progress ≡ progress.Begun
    → ahead texts l end items ≡ followed texts l.output (λ levels. lines_from Words levels (plain_place l.last) (meaning_lines.lines_of end (meaning_lines.bracketed (pending_of l.pending.items) items)))
unfolding ahead
begun-ahead texts l end items h = ap (λ q. followed texts l.output (λ levels. lines_from (plain_sofar q) levels (plain_place l.last) (meaning_lines.lines_of end (meaning_lines.bracketed (pending_of l.pending.items) items)))) h

pub begun-step : (texts : List (List ℕ)) (l new : Lines) (end : meaning.Place) (xs ys : List meaning_lines.Located) (t : meaning.Token) → l.progress ≡ progress.Begun → new.progress ≡ progress.Begun → new.last ≡ l.last
    → Follows (plain_tokens texts l.output.tokens.items) (plain_tokens texts new.output.tokens.items) t → new.output.innermost ≡ l.output.innermost → new.output.outer ≡ l.output.outer
    → ((levels : List meaning_lines.Widths) → lines_from Words levels (plain_place l.last) (meaning_lines.lines_of end (meaning_lines.bracketed (pending_of l.pending.items) xs))
    ≡ preceded (t ∷ []) (lines_from Words levels (plain_place l.last) (meaning_lines.lines_of end (meaning_lines.bracketed (pending_of new.pending.items) ys))))
    → ahead texts l end xs ≡ ahead texts new end ys
begun-step texts l new end xs ys t old_begun new_begun last follows e f h =
    begun-ahead texts l end xs old_begun
    ∙ followed-token texts l.output new.output t (λ levels. lines_from Words levels (plain_place l.last) (meaning_lines.lines_of end (meaning_lines.bracketed (pending_of l.pending.items) xs)))
    (λ levels. lines_from Words levels (plain_place l.last) (meaning_lines.lines_of end (meaning_lines.bracketed (pending_of new.pending.items) ys))) follows e f h
    ∙ ap (λ q. followed texts new.output (λ levels. lines_from Words levels (plain_place q) (meaning_lines.lines_of end (meaning_lines.bracketed (pending_of new.pending.items) ys)))) (sym last)
    ∙ sym (begun-ahead texts new end ys new_begun)

pub followed-refused : (texts : List (List ℕ)) (out : Output) (go : List meaning_lines.Widths → meaning.Outcome) (r : meaning.Refusal) (p : meaning.Place) → ((levels : List meaning_lines.Widths) → go levels ≡ meaning.Refused r p) → followed texts out go ≡ meaning.Refused r p
unfolding followed
followed-refused texts out go r p h = ap (λ o. merged_outcome (preceded (plain_tokens texts out.tokens.items) o)) (h (levels_of out))

pub begun-refused : (texts : List (List ℕ)) (l : Lines) (end : meaning.Place) (items : List meaning_lines.Located) (r : meaning.Refusal) (p : meaning.Place) → l.progress ≡ progress.Begun
    → ((levels : List meaning_lines.Widths) → lines_from Words levels (plain_place l.last) (meaning_lines.lines_of end (meaning_lines.bracketed (pending_of l.pending.items) items)) ≡ meaning.Refused r p) → ahead texts l end items ≡ meaning.Refused r p
begun-refused texts l end items r p begun h =
    begun-ahead texts l end items begun ∙ followed-refused texts l.output (λ levels. lines_from Words levels (plain_place l.last) (meaning_lines.lines_of end (meaning_lines.bracketed (pending_of l.pending.items) items))) r p h

-- ---- steps that may begin or end levels

pub opened-word : (texts : List (List ℕ)) (l : Lines) (end p : meaning.Place) (k : meaning.Kind) (s : Text) (items : List meaning_lines.Located)
    → ahead texts l end (located p (Word k) s ∷ items)
    ≡ followed texts l.output (λ levels. opened_by (plain_sofar l.progress) p levels (λ now. lines_from Words now (plain_place l.last) (meaning_lines.lines_of end (meaning_lines.bracketed (pending_of l.pending.items) (located p (Word k) s ∷ items)))))
unfolding ahead followed
opened-word texts l end p k s items =
    ap (λ o. merged_outcome (preceded (plain_tokens texts l.output.tokens.items) o)) (items-opens (plain_sofar l.progress) (levels_of l.output) (plain_place l.last) p end k s (pending_of l.pending.items) items)

pub opened-broken : (texts : List (List ℕ)) (l : Lines) (end p : meaning.Place) (r : meaning.Refusal) (n : ℕ) (s : Text) (items : List meaning_lines.Located)
    → ahead texts l end (located p (Broken r n) s ∷ items)
    ≡ followed texts l.output (λ levels. opened_by (plain_sofar l.progress) p levels (λ now. lines_from Words now (plain_place l.last) (meaning_lines.lines_of end (meaning_lines.bracketed (pending_of l.pending.items) (located p (Broken r n) s ∷ items)))))
unfolding ahead followed
opened-broken texts l end p r n s items =
    ap (λ o. merged_outcome (preceded (plain_tokens texts l.output.tokens.items) o)) (items-opens_broken (plain_sofar l.progress) (levels_of l.output) (plain_place l.last) p end r n s (pending_of l.pending.items) items)

pub opened-unclosed : (texts : List (List ℕ)) (l : Lines) (end : meaning.Place) (o : Open) (new : List Open) → l.pending.items ≡ new ++ o ∷ []
    → ahead texts l end [] ≡ followed texts l.output (λ levels. opened_by (plain_sofar l.progress) (plain_place o.place) levels (λ now. meaning.Refused meaning.UnclosedBracket (plain_place o.place)))
unfolding ahead followed
opened-unclosed texts l end o new e =
    ap (λ o. merged_outcome (preceded (plain_tokens texts l.output.tokens.items) o))
    (ap (λ ps. lines_from (plain_sofar l.progress) (levels_of l.output) (plain_place l.last) (meaning_lines.lines_of end (meaning_lines.bracketed ps []))) (pending-popped l.pending.items new o e)
    ∙ items-opens_unclosed (plain_sofar l.progress) (levels_of l.output) (plain_place l.last) end (plain_open o) (pending_of new))

-- ---- the end of the text

pub followed-closed : (texts : List (List ℕ)) (out : Output) (ts : List Token) (last : meaning.Place) → plain_tokens texts ts ≡ plain_tokens texts out.tokens.items ++ dedents last (length out.outer.items) → Apart (plain_tokens texts ts)
    → followed texts out (λ levels. all_lines levels last []) ≡ meaning.Tokens (plain_tokens texts ts)
unfolding followed
followed-closed texts out ts last e a =
    ap (λ n. meaning.Tokens (merged (plain_tokens texts out.tokens.items ++ dedents last n))) (length-map (reverse out.outer.items) plain_widths ∙ length-reverse out.outer.items)
    ∙ ap (λ x. meaning.Tokens (merged x)) (sym e) ∙ ap meaning.Tokens (merged-apart (plain_tokens texts ts) a)

pub end-fresh : (texts : List (List ℕ)) (l : Lines) (w : Widths) (end : meaning.Place) → l.progress ≡ progress.Fresh w → l.pending.items ≡ [] → ahead texts l end [] ≡ followed texts l.output (λ levels. all_lines levels (plain_place l.last) [])
unfolding ahead
end-fresh texts l w end e f =
    ap (λ q. followed texts l.output (λ levels. lines_from (plain_sofar q) levels (plain_place l.last) (meaning_lines.lines_of end (meaning_lines.bracketed (pending_of l.pending.items) [])))) e
    ∙ ap (λ ps. followed texts l.output (λ levels. lines_from (Blanks (plain_widths w)) levels (plain_place l.last) (meaning_lines.lines_of end (meaning_lines.bracketed (pending_of ps) [])))) f

pub end-settled : (texts : List (List ℕ)) (l : Lines) (w : Widths) (end : meaning.Place) → l.progress ≡ progress.Settled w → l.pending.items ≡ [] → ahead texts l end [] ≡ followed texts l.output (λ levels. all_lines levels (plain_place l.last) [])
unfolding ahead
end-settled texts l w end e f =
    ap (λ q. followed texts l.output (λ levels. lines_from (plain_sofar q) levels (plain_place l.last) (meaning_lines.lines_of end (meaning_lines.bracketed (pending_of l.pending.items) [])))) e
    ∙ ap (λ ps. followed texts l.output (λ levels. lines_from (Settled (plain_widths w)) levels (plain_place l.last) (meaning_lines.lines_of end (meaning_lines.bracketed (pending_of ps) [])))) f

pub end-begun : (texts : List (List ℕ)) (l : Lines) (end : meaning.Place) → l.progress ≡ progress.Begun → l.pending.items ≡ []
    → ahead texts l end [] ≡ followed texts l.output (λ levels. preceded (token end meaning.TNewline ∷ []) (all_lines levels end []))
unfolding ahead
end-begun texts l end e f =
    ap (λ q. followed texts l.output (λ levels. lines_from (plain_sofar q) levels (plain_place l.last) (meaning_lines.lines_of end (meaning_lines.bracketed (pending_of l.pending.items) [])))) e
    ∙ ap (λ ps. followed texts l.output (λ levels. lines_from Words levels (plain_place l.last) (meaning_lines.lines_of end (meaning_lines.bracketed (pending_of ps) [])))) f

-- ---- names

pub name-text : (names : List (List ℕ)) (n : ℕ) (t : List ℕ) (texts : List (List ℕ)) → slice_get names n ≡ Some t → Extends names texts → get_or texts n [] ≡ t
name-text names n t texts e x = ap (λ ts. get_or ts n []) x.1 ∙ within names n e
  where
    within : (names : List (List ℕ)) (n : ℕ) → slice_get names n ≡ Some t → get_or (names ++ x.0) n [] ≡ t
    within [] zero e = absurd (cc)
    within [] (suc n) e = absurd (cc)
    within (name ∷ names) zero e = cc
    within (name ∷ names) (suc n) e = within names n e
