-- Lists of names that grow, and results by their case.
use Rattle.std.proofs.Common.{◌≡◌, ℕ, List, [], ◌++◌, sym, ap, ◌∙◌, subst, append-nil, append_assoc, Result, Ok, Err, IfOk, IfErr}
use Rattle.py_lexer.specs.Reading.{Extends}

pub extends-same : (names : List (List ℕ)) → Extends names names
extends-same names = ([], sym (append-nil names))

pub extends-further : (names more texts : List (List ℕ)) → Extends names more → Extends more texts → Extends names texts
extends-further names more texts e f = (e.0 ++ f.0, f.1 ∙ ap (λ ts. ts ++ f.0) e.1 ∙ append_assoc names e.0 f.0)

pub from_ok : {A E : Type 0} (r : Result A E) (x : A) (P : A → Type 0) → r ≡ Ok x → IfOk r P → P x
from_ok r x P e h = subst (λ r. IfOk r P) e h

pub from_err : {A E : Type 0} (r : Result A E) (x : E) (P : E → Type 0) → r ≡ Err x → IfErr r P → P x
from_err r x P e h = subst (λ r. IfErr r P) e h
