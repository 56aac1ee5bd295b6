-- The text at a place, which is empty where there is none.
use Rattle.std.proofs.Common.{◌≡◌, ℕ, List, [], slice_get, get_or, unwrap_or, Option, Some, None, sym, ap, ◌∙◌}
use Rattle.std.proofs.lemmas.Option.{get_or_from_slice_get, unwrap_or-slice_get}

pub text_there : (texts : List (List ℕ)) (i : ℕ) (text : List ℕ) → slice_get texts i ≡ Some text → get_or texts i [] ≡ text
text_there texts i text h = get_or_from_slice_get texts i text [] h

pub no_text_there : (texts : List (List ℕ)) (i : ℕ) → slice_get texts i ≡ None → get_or texts i [] ≡ []
no_text_there texts i h = sym (unwrap_or-slice_get texts i []) ∙ ap (λ (o : Option (List ℕ)). unwrap_or o []) h

pub ruleset texts = (text_there, no_text_there)
