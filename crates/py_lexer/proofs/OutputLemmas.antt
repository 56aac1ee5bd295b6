-- The output as one step of the code leaves it.
use Rattle.std.proofs.Common.{◌≡◌, ℕ, suc, ◌-◌, take, List, [], ◌∷◌, ◌++◌, length, map, reverse, false, refl, sym, ap, ◌∙◌, subst, append_assoc, Option, arith}
use Rattle.std.proofs.lemmas.List.{map-append, reverse-append, length-append}
use Rattle.py_tokens.specs.Token as meaning
use Rattle.py_tokens.specs.Tokens.{token, preceded, dedents, merged_outcome}
use Rattle.py_lexer.specs.declared.refusal.LexRefusal.{LexRefusal}
use Rattle.sqlite_items.specs.declared.items.Items.{Items}
use Rattle.py_lexer.specs.declared.token.TokenKind.{TokenKind}
use Rattle.py_lexer.specs.declared.token.TokenKind.TheVariants as kind
use Rattle.py_lexer.specs.declared.token.Token.{Token}
use Rattle.py_lexer.specs.declared.lines.Widths.{Widths}
use Rattle.py_lexer.specs.PlainTokens.{plain_kind, plain_token, plain_tokens}
use Rattle.py_lexer.specs.Ahead.{is_text, Apart, Follows}
use Rattle.py_lexer.specs.Wanted.{plain_widths, Turned}
use Rattle.py_lexer.proofs.AheadLemmas.{preceded-preceded}
use Rattle.py_lexer.proofs.MergeLemmas.{apart-more}

-- a token that was put at the end
pub follows-pushed : (old new : List meaning.Token) (t : meaning.Token) → new ≡ old ++ t ∷ [] → Follows old new t
follows-pushed old new t e rest = ap merged_outcome (preceded-preceded old (t ∷ []) rest ∙ ap (λ ts. preceded ts rest) (sym e))

pub apart-pushed : (old new : List meaning.Token) (p : meaning.Place) (k : meaning.Kind) → new ≡ old ++ token p k ∷ [] → is_text k ≡ false → Apart old → Apart new
apart-pushed old new p k e h a = subst Apart (sym e) (apart-more old p k h a)

pub tokens-pushed : (texts : List (List ℕ)) (items : List Token) (t : Token) → plain_tokens texts (items ++ t ∷ []) ≡ plain_tokens texts items ++ plain_token texts t ∷ []
tokens-pushed texts items t = map-append (plain_token texts) items (t ∷ [])

-- one more DEDENT, and one level less
pub dedents-one : (front new : List meaning.Token) (p : meaning.Place) (old now : List Widths) (level : Widths) → new ≡ front ++ token p meaning.TDedent ∷ [] → old ≡ now ++ level ∷ [] → new ++ dedents p (length now) ≡ front ++ dedents p (length old)
dedents-one front new p old now level e f =
    let more : length old ≡ suc (length now) = omega (arith, ap length f, length-append now (level ∷ [])) in
    ap (λ ts. ts ++ dedents p (length now)) e ∙ append_assoc front (token p meaning.TDedent ∷ []) (dedents p (length now)) ∙ ap (λ n. front ++ dedents p n) (sym more)

pub outer-pushed : (items : List Widths) (w : Widths) → map plain_widths (reverse (items ++ w ∷ [])) ≡ plain_widths w ∷ map plain_widths (reverse items)
outer-pushed items w = ap (map plain_widths) (reverse-append items (w ∷ []))

pub outer-popped : (old new : List Widths) (w : Widths) → old ≡ new ++ w ∷ [] → map plain_widths (reverse old) ≡ plain_widths w ∷ map plain_widths (reverse new)
outer-popped old new w e = ap (λ items. map plain_widths (reverse items)) e ∙ outer-pushed new w

pub outer-none : {A : Type 0} (old new : List A) {n : ℕ} → old ≡ new ++ [] → new ≡ take (n - 1) old → n ≡ 0 → old ≡ []
outer-none old new e f h = e ∙ ap (λ x. x ++ []) (f ∙ ap (λ n. take (n - 1) old) h)

-- a step as its outcome was before
pub turned-from : (r : Option LexRefusal) (new old older : meaning.Outcome) → older ≡ old → Turned r new old → Turned r new older
turned-from r new old older e h = subst (Turned r new) (sym e) h

pub no_text_kind : (texts : List (List ℕ)) (k : TokenKind) → ((x : Items ℕ) → k ≡ kind.Text x → ⊥) → is_text (plain_kind texts k) ≡ false
no_text_kind texts (kind.Text x) h = absurd (h x refl)
no_text_kind texts (kind.Name n) h = refl
no_text_kind texts (kind.Keyword n) h = refl
no_text_kind texts (kind.Operator n) h = refl
no_text_kind texts (kind.Number n) h = refl
no_text_kind texts kind.Float h = refl
no_text_kind texts kind.Imaginary h = refl
no_text_kind texts kind.Bytes h = refl
no_text_kind texts kind.Formatted h = refl
no_text_kind texts kind.Newline h = refl
no_text_kind texts kind.Indent h = refl
no_text_kind texts kind.Dedent h = refl

pub empty : {A : Type 0} (xs : List A) → length xs ≡ 0 → xs ≡ []
empty [] e = refl
empty (x ∷ xs) e = absurd (omega (arith, e))
