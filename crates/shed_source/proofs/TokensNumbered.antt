-- The tokens that are read, with their numbers of names, are those that the grammar sees of the text.
use Rattle.std.proofs.Common.{◌≡◌, ℕ, zero, suc, ◌<◌, List, [], ◌∷◌, false, length, get_or, refl, sym, ap, ap₂, ◌∙◌, subst, arith}
use Rattle.std.specs.Prelude.{map, if◌then◌else◌}
use Rattle.std.specs.Str.{bytes_eq}
use Rattle.std.proofs.lemmas.Map.Keys.{IsDistinct-tail, apart_from_distinct}
use Rattle.std.proofs.lemmas.Slice.Eq.{bytes_eq-Decides}
use Rattle.shed_base.specs.Names.{special_texts, with_text, with_texts, AreDistinct}
use Rattle.shed_base.proofs.NamesPlaced.{distinct-with_text, nothing-distinct}
use Rattle.py_tokens.specs.Names.{names_in}
use Rattle.py_syntax.specs.Token.{TName, At}
use Rattle.py_syntax.specs.Kinds.{place_among}
use Rattle.py_meaning.specs.Source.{numbered, numbered_kind, grammar_tokens}
use Rattle.py_lexer.specs.Reading.{IsHeld, AreHeld}
use Rattle.py_lexer.specs.PlainTokens.{plain_place, plain_kind as text_kind, plain_tokens as text_tokens}
use Rattle.py_lexer.specs.declared.token.TokenKind.{TokenKind}
use Rattle.py_lexer.specs.declared.token.TokenKind.TheVariants as kind
use Rattle.py_lexer.specs.declared.token.Token.{Token}
use Rattle.py_table.specs.PlainTokens.{is_ascii, plain_kind, plain_tokens}

-- a text stands at its own place among texts of which no two are one
place_of : (texts : List (List ℕ)) (i : ℕ) → AreDistinct texts → i < length texts → place_among texts (get_or texts i []) ≡ i
place_of [] i d within = absurd (omega arith)
place_of (first ∷ texts) zero d within =
    ap (λ b. if b then 0 else suc (place_among texts first)) ((bytes_eq-Decides first first).1 refl)
place_of (first ∷ texts) (suc i) d within =
    let differ : bytes_eq first (get_or texts i []) ≡ false = apart_from_distinct bytes_eq (first ∷ texts) 0 (suc i) [] d (omega arith) within in
    ap (λ b. if b then 0 else suc (place_among texts (get_or texts i []))) differ
    ∙ ap suc (place_of texts i (IsDistinct-tail bytes_eq first texts d) (omega arith))

same_kind : (texts : List (List ℕ)) (k : TokenKind) → AreDistinct texts → IsHeld texts k
    → numbered_kind texts (text_kind texts k) ≡ plain_kind texts k
same_kind texts (kind.Name name) d h = ap (TName (is_ascii (get_or texts name.0 []))) (place_of texts name.0 d h)
same_kind texts (kind.Keyword k) d h = refl
same_kind texts (kind.Operator o) d h = refl
same_kind texts (kind.Number n) d h = refl
same_kind texts (kind.Text t) d h = refl
same_kind texts kind.Float d h = refl
same_kind texts kind.Imaginary d h = refl
same_kind texts kind.Bytes d h = refl
same_kind texts kind.Formatted d h = refl
same_kind texts kind.Newline d h = refl
same_kind texts kind.Indent d h = refl
same_kind texts kind.Dedent d h = refl

same_tokens : (texts : List (List ℕ)) (ts : List Token) → AreDistinct texts → AreHeld texts ts
    → map (numbered texts) (text_tokens texts ts) ≡ plain_tokens texts ts
same_tokens texts [] d h = refl
same_tokens texts (t ∷ ts) d h =
    ap₂ (λ k others. At (plain_place t.place) k ∷ others) (same_kind texts t.kind d h.0) (same_tokens texts ts d h.1)

distinct-with_texts : (texts more : List (List ℕ)) → AreDistinct texts → AreDistinct (with_texts texts more)
distinct-with_texts texts [] d = d
distinct-with_texts texts (text ∷ more) d = distinct-with_texts (with_text texts text) more (distinct-with_text texts text d)

-- the special texts are distinct, and so are all that come behind them
specials-distinct : AreDistinct special_texts
specials-distinct = distinct-with_texts [] special_texts nothing-distinct

pub grammar_sees : (names : List (List ℕ)) (ts : List Token) → names ≡ with_texts special_texts (names_in (text_tokens names ts))
    → AreHeld names ts → grammar_tokens (text_tokens names ts) ≡ plain_tokens names ts
grammar_sees names ts numbering held =
    ap (λ (texts : List (List ℕ)). map (numbered texts) (text_tokens names ts)) (sym numbering)
    ∙ same_tokens names ts (subst AreDistinct (sym numbering) (distinct-with_texts special_texts (names_in (text_tokens names ts)) specials-distinct)) held
