-- Names and literals that begin with a letter.
use Rattle.std.proofs.Common.{◌≡◌, ℕ, [], ◌∷◌, length, take, drop, Bool, true, false, cond, Option, Some, None, refl, sym, ap, ◌∙◌}
use Rattle.std.specs.List.{prefix_len, take_while}
use Rattle.py_tokens.specs.Characters.{Text, continues_name, is_quote}
use Rattle.py_tokens.specs.Lexeme.{Sort, Front, Lexeme, front, literal, literal_behind, sort_of, name_of, name, name_or_literal}
use Rattle.py_lexer.specs.Literals.{sort_before}

no_literal_at : (t : Bool) (o : Option Sort) (f : Sort → Front) → None ≡ cond t o None → ◌≡◌ {A = Option Front} (cond t (elim o [ None ↦ None | Some s ↦ Some (f s) ]) None) None
no_literal_at true None f h = refl
no_literal_at true (Some s) f h = absurd (cc)
no_literal_at false o f h = refl

no_literal : (letters z : Text) → None ≡ sort_before letters z → literal_behind letters z ≡ None
no_literal letters [] h = refl
no_literal letters (q ∷ z) h = no_literal_at (is_quote q) (sort_of letters) (λ s. literal s (length letters) (q ∷ z)) h

named : (z : Text) (o : Option Front) → o ≡ None → ◌≡◌ {A = Front} (name z) (elim o [ Some f ↦ f | None ↦ name z ])
named z o h = rw h refl

pub name_or_literal-name : (z word behind : Text) (n : ℕ) (l : Lexeme) → word ≡ take n z → behind ≡ drop n z → n ≡ prefix_len continues_name z → length word ≡ n → None ≡ sort_before word behind → l ≡ name_of word
    → front n l ≡ name_or_literal z
name_or_literal-name z word behind n l e f g h none k =
    let w : word ≡ take_while continues_name z = e ∙ ap (λ m. take m z) g in
    let m : n ≡ length (take_while continues_name z) = sym h ∙ ap length w in
    let b : behind ≡ drop (length (take_while continues_name z)) z = f ∙ ap (λ i. drop i z) m in
    let none' : None ≡ sort_before (take_while continues_name z) (drop (length (take_while continues_name z)) z) = none ∙ ap (λ t. sort_before t behind) w ∙ ap (sort_before (take_while continues_name z)) b in
    ap (λ i. front i l) m ∙ ap (front (length (take_while continues_name z))) (k ∙ ap name_of w)
    ∙ named z (literal_behind (take_while continues_name z) (drop (length (take_while continues_name z)) z)) (no_literal (take_while continues_name z) (drop (length (take_while continues_name z)) z) none')
