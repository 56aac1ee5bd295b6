-- What the words of the command line say: `translate` and the name of a module.
use Rattle.std.specs.Prelude.{ℕ, List, [], ◌∷◌, Bool, false, not, ◌&&◌, ◌||◌, ◌==◌, Option, Some, None, if◌then◌else◌, codes}
use Rattle.std.specs.Str.{bytes_eq}
use Rattle.std.specs.List.{list_all, list_any}
use Rattle.std.specs.Char.{is_ascii_digit, is_ascii_alphanumeric}
use Rattle.py_meaning.specs.Name.{Name}
use Rattle.py_tokens.specs.Lexeme.{keywords}

-- the word without one `.py` at its end
abbrev pub without_ending : List ℕ → List ℕ
without_ending [] = []
without_ending (c ∷ word) = if bytes_eq (c ∷ word) (codes ".py") then [] else c ∷ without_ending word

-- a letter, a digit or `_`
abbrev pub is_name_part : ℕ → Bool
is_name_part b = is_ascii_alphanumeric b || (b == 95)

abbrev pub is_keyword : List ℕ → Bool
is_keyword word = list_any (λ k. bytes_eq k word) keywords

-- letters, digits and `_` that begin with no digit, and are no keyword
abbrev pub is_module_name : List ℕ → Bool
is_module_name [] = false
is_module_name (c ∷ word) = not (is_ascii_digit c) && (list_all is_name_part (c ∷ word) && not (is_keyword (c ∷ word)))

abbrev pub named : List ℕ → Option Name
named word = if is_module_name word then Some word else None

-- the name of the module to translate, where the words say one
abbrev pub reading : List (List ℕ) → Option Name
reading (command ∷ word ∷ []) = if bytes_eq command (codes "translate") then named (without_ending word) else None
reading _ = None
