-- Names of the source are written character by character, and their encoding is defined byte by byte.
use Rattle.std.proofs.Common.{◌≡◌, ℕ, ◌+◌, ◌/◌, ◌≤◌, List, [], ◌∷◌, ◌++◌, Bool, true, false, cond, sym, ap, ◌∙◌, arith, ⊎_elim, append_assoc, ne_eqb, le-ltb, length}
use Rattle.std.proofs.lemmas.List.{append-nil}
use Rattle.std.specs.Prelude.{◌==◌, ◌&&◌, if◌then◌else◌, codes, nat_lt}
use Rattle.std.proofs.lemmas.Bool.{cases_lt}
use Rattle.std.proofs.lemmas.Str.{encode_ascii}
use Rattle.shed_meaning.specs.EmittedName.{encoded}
use Rattle.cpp_emit.specs.Names.{escaped_character}
use lib.Utf8.{encode, next}

-- a byte above 127 stands for itself
high_byte : (after : Bool) (b : ℕ) (rest : List ℕ) → 128 ≤ b → encoded after (b ∷ rest) ≡ b ∷ encoded false rest
high_byte after b rest high =
    ap (λ z. (if z then codes "ZZ" else (if (b == 95) && after then codes "Z_" else b ∷ [])) ++ encoded (b == 95) rest) (ne_eqb b 90 (λ e. absurd (omega arith)))
    ∙ ap (λ z. (if z && after then codes "Z_" else b ∷ []) ++ encoded z rest) (ne_eqb b 95 (λ e. absurd (omega arith)))

two_high : (after : Bool) (a b : ℕ) (rest : List ℕ) → 128 ≤ a → 128 ≤ b → encoded after (a ∷ b ∷ rest) ≡ a ∷ b ∷ encoded false rest
two_high after a b rest ha hb = high_byte after a (b ∷ rest) ha ∙ ap (λ s. a ∷ s) (high_byte false b rest hb)

high_character : (after two three : Bool) (c : ℕ) (rest : List ℕ) →
    encoded after (cond two ((192 + c / 64) ∷ next c ∷ []) (cond three ((224 + c / 4096) ∷ next (c / 64) ∷ next c ∷ []) ((240 + c / 262144) ∷ next (c / 4096) ∷ next (c / 64) ∷ next c ∷ [])) ++ rest)
    ≡ cond two ((192 + c / 64) ∷ next c ∷ []) (cond three ((224 + c / 4096) ∷ next (c / 64) ∷ next c ∷ []) ((240 + c / 262144) ∷ next (c / 4096) ∷ next (c / 64) ∷ next c ∷ [])) ++ encoded false rest
high_character after true three c rest = two_high after (192 + c / 64) (next c) rest (omega arith) (omega arith)
high_character after false true c rest =
    two_high after (224 + c / 4096) (next (c / 64)) (next c ∷ rest) (omega arith) (omega arith)
    ∙ ap (λ s. (224 + c / 4096) ∷ next (c / 64) ∷ s) (high_byte false (next c) rest (omega arith))
high_character after false false c rest =
    two_high after (240 + c / 262144) (next (c / 4096)) (next (c / 64) ∷ next c ∷ rest) (omega arith) (omega arith)
    ∙ ap (λ s. (240 + c / 262144) ∷ next (c / 4096) ∷ s) (two_high false (next (c / 64)) (next c) rest (omega arith) (omega arith))

-- what stands for a character above 95 is the character
escaped_high : (after : Bool) (c : ℕ) → 128 ≤ c → escaped_character after c ≡ encode c
escaped_high after c high =
    ap (λ z. if z then codes "ZZ" else (if (c == 95) && after then codes "Z_" else encode c)) (ne_eqb c 90 (λ e. absurd (omega arith)))
    ∙ ap (λ z. if z && after then codes "Z_" else encode c) (ne_eqb c 95 (λ e. absurd (omega arith)))

encode_high : (c : ℕ) → 128 ≤ c → encode c ≡ cond (nat_lt c 2048) ((192 + c / 64) ∷ next c ∷ []) (cond (nat_lt c 65536) ((224 + c / 4096) ∷ next (c / 64) ∷ next c ∷ []) ((240 + c / 262144) ∷ next (c / 4096) ∷ next (c / 64) ∷ next c ∷ []))
unfolding encode
encode_high c high =
    ap (λ z. cond z (c ∷ []) (cond (nat_lt c 2048) ((192 + c / 64) ∷ next c ∷ []) (cond (nat_lt c 65536) ((224 + c / 4096) ∷ next (c / 64) ∷ next c ∷ []) ((240 + c / 262144) ∷ next (c / 4096) ∷ next (c / 64) ∷ next c ∷ []))))
    (le-ltb c 128 high)

-- one character more
pub encoded-encode : (after : Bool) (c : ℕ) (rest : List ℕ) → encoded after (encode c ++ rest) ≡ escaped_character after c ++ encoded (c == 95) rest
encoded-encode after c rest =
    ⊎_elim
    (λ low.
    ap (λ s. encoded after (s ++ rest)) (encode_ascii c low)
    ∙ ap (λ s. (if c == 90 then codes "ZZ" else (if (c == 95) && after then codes "Z_" else s)) ++ encoded (c == 95) rest) (sym (encode_ascii c low)))
    (λ high.
    ap (λ s. encoded after (s ++ rest)) (encode_high c high)
    ∙ high_character after (nat_lt c 2048) (nat_lt c 65536) c rest
    ∙ ap (λ s. s ++ encoded false rest) (sym (encode_high c high) ∙ sym (escaped_high after c high))
    ∙ ap (λ b. escaped_character after c ++ encoded b rest) (sym (ne_eqb c 95 (λ e. absurd (omega arith)))))
    (cases_lt c 128)

-- the step of the loop over a name's characters
pub characters_step : (after : Bool) (c : ℕ) (left rest before now all : List ℕ) → left ≡ encode c ++ rest → now ≡ before ++ escaped_character after c → before ++ encoded after left ≡ all → now ++ encoded (c == 95) rest ≡ all
characters_step after c left rest before now all e w h =
    ap (λ s. s ++ encoded (c == 95) rest) w
    ∙ append_assoc before (escaped_character after c) (encoded (c == 95) rest)
    ∙ ap (λ s. before ++ s) (sym (encoded-encode after c rest))
    ∙ ap (λ s. before ++ encoded after s) (sym e)
    ∙ h

pub characters_end : (after : Bool) (left before all : List ℕ) → length left ≡ 0 → before ++ encoded after left ≡ all → before ≡ all
characters_end after [] before all e h = sym (append-nil before) ∙ h
characters_end after (b ∷ left) before all e h = absurd (omega arith)
