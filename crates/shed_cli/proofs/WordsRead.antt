-- The ending of a word, and how many words there are.
use Rattle.std.proofs.Common.{◌≡◌, ℕ, ◌-◌, List, [], ◌∷◌, ◌++◌, Bool, true, false, None, length, take, get_or, refl, sym, ap, ◌∙◌, arith, length-append}
use Rattle.std.specs.Prelude.{◌≢◌, if◌then◌else◌, codes, map, string_bytes, String}
use Rattle.std.specs.Str.{bytes_eq}
use Rattle.std.proofs.lemmas.Slice.Eq.{bytes_eq-Decides}
use Rattle.shed_meaning.specs.Words.{without_ending, reading}

without_ending-append : (word : List ℕ) → without_ending (word ++ codes ".py") ≡ word
without_ending-append [] = refl
without_ending-append (c ∷ word) = at (bytes_eq ((c ∷ word) ++ codes ".py") (codes ".py")) refl (without_ending-append word)
  where
    at : (same : Bool) → bytes_eq ((c ∷ word) ++ codes ".py") (codes ".py") ≡ same → without_ending (word ++ codes ".py") ≡ word → (if same then [] else c ∷ without_ending (word ++ codes ".py")) ≡ c ∷ word
    at true e h =
        let long = ap length ((bytes_eq-Decides ((c ∷ word) ++ codes ".py") (codes ".py")).0 e) in
        absurd (omega (arith, long, length-append (c ∷ word) (codes ".py")))
    at false e h = ap (λ w. c ∷ w) h

without_ending-none : (word : List ℕ) → ((front : List ℕ) → word ≢ front ++ codes ".py") → without_ending word ≡ word
without_ending-none [] none = refl
without_ending-none (c ∷ word) none = at (bytes_eq (c ∷ word) (codes ".py")) refl (without_ending-none word (λ front e. none (c ∷ front) (ap (λ w. c ∷ w) e)))
  where
    at : (same : Bool) → bytes_eq (c ∷ word) (codes ".py") ≡ same → without_ending word ≡ word → (if same then [] else c ∷ without_ending word) ≡ c ∷ word
    at true e h = absurd (none [] ((bytes_eq-Decides (c ∷ word) (codes ".py")).0 e))
    at false e h = ap (λ w. c ∷ w) h

pub stem_stripped : (word name : List ℕ) (n : ℕ) → word ≡ take (length word - n) word ++ codes ".py" → name ≡ take (length word - n) word → name ≡ without_ending word
stem_stripped word name n e is =
    let whole : word ≡ name ++ codes ".py" = e ∙ ap (λ w. w ++ codes ".py") (sym is) in
    sym (ap without_ending whole ∙ without_ending-append name)

pub stem_whole : (word : List ℕ) → ((front : List ℕ) → word ≢ front ++ codes ".py") → word ≡ without_ending word
stem_whole word none = sym (without_ending-none word none)

-- any other number of words than two says nothing
pub other_count : {Z : Type 0} (words : List (String Z)) → (length words ≡ 2 → ⊥) → None ≡ reading (map string_bytes words)
other_count [] n = refl
other_count (a ∷ []) n = refl
other_count (a ∷ (b ∷ [])) n = absurd (n refl)
other_count (a ∷ (b ∷ (c ∷ words))) n = refl

pub two_words : {Z : Type 0} (words : List (String Z)) (a b : String Z) (command word : List ℕ) → (length words ≡ 2) → a ≡ get_or words 0 a → b ≡ get_or words 1 b → command ≡ string_bytes a → word ≡ string_bytes b → map string_bytes words ≡ command ∷ word ∷ []
two_words [] a b command word n first second c w = absurd (omega arith)
two_words (x ∷ []) a b command word n first second c w = absurd (omega arith)
two_words (x ∷ (y ∷ [])) a b command word n first second c w =
    ap (λ (l : List ℕ). l ∷ string_bytes y ∷ []) (ap string_bytes (sym first) ∙ sym c)
    ∙ ap (λ (l : List ℕ). command ∷ l ∷ []) (ap string_bytes (sym second) ∙ sym w)
two_words (x ∷ (y ∷ (z ∷ words))) a b command word n first second c w = absurd (omega arith)
