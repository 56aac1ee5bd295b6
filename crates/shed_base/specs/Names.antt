-- Names as texts: the number of a name is the place of its text in a list of distinct texts.
use Rattle.std.specs.Prelude.{◌≡◌, ℕ, Bool, if◌then◌else◌, List, [], ◌∷◌, ◌++◌, codes, slice_get, Some}
use Rattle.std.specs.List.{list_any, IsDistinct}
use Rattle.std.specs.Str.{bytes_eq}

-- the texts that are there from the start
abbrev pub special_texts : List (List ℕ)
special_texts = codes "__init__" ∷ codes "__str__" ∷ codes "__eq__" ∷ codes "__lt__" ∷ codes "__len__" ∷ []

-- one of the texts is this one
abbrev pub has_text : List (List ℕ) → List ℕ → Bool
has_text texts text = list_any (bytes_eq text) texts

-- a text comes last, unless it is there
abbrev pub with_text : List (List ℕ) → List ℕ → List (List ℕ)
with_text texts text = if has_text texts text then texts else texts ++ text ∷ []

-- one text after another comes last, unless it is there
abbrev pub with_texts : List (List ℕ) → List (List ℕ) → List (List ℕ)
with_texts texts [] = texts
with_texts texts (text ∷ more) = with_texts (with_text texts text) more

-- no text stands at two places
abbrev pub AreDistinct : List (List ℕ) → Type 0
AreDistinct texts = IsDistinct bytes_eq texts

-- so one text has one place
abbrev pub OnePlace : Type 0
OnePlace = (texts : List (List ℕ)) → AreDistinct texts → (i j : ℕ) (text : List ℕ) → slice_get texts i ≡ Some text → slice_get texts j ≡ Some text → i ≡ j

-- and a text keeps its place when others come
abbrev pub KeptPlace : Type 0
KeptPlace = (texts : List (List ℕ)) (more : List ℕ) (i : ℕ) (text : List ℕ) → slice_get texts i ≡ Some text → slice_get (with_text texts more) i ≡ Some text
