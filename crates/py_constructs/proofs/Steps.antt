-- Where a run stands is known at its beginning and over each step.
use Rattle.std.proofs.Common.{◌≡◌, ℕ, suc, ◌≤◌, false, List, [], ◌∷◌, ◌++◌, Option, Some, None, refl, sym, ap, subst, arith, append_assoc}
use Rattle.std.proofs.lemmas.Option.{none-some, same_Some}
use Rattle.std.proofs.lemmas.List.{length-append}
use Rattle.grammars.specs.Derivation.{Yields}
use Rattle.grammars.proofs.Bools.{and_right}
use Rattle.grammars.proofs.Completions.{row_has_specimens, specimens_joined}
use Rattle.grammars.proofs.Steps.{by_token, by_action, by_row}
use Rattle.py_syntax.specs.Token.{Token}
use Rattle.py_constructs.specs.Values.{Numbered, Told, begin, told_so, last_token, head_of_last, loop_head, less, Own, Head, Hold, Forget, Plain, TellTargets, TellLoop, HoldSlice}
use Rattle.py_constructs.specs.Table.{additions, rows_with, extended, sets, goal}
use Rattle.py_constructs.specs.Steps.{BeginsLaw, OverTokenLaw, OverActionLaw, OverRowLaw}
use Rattle.py_constructs.proofs.TableSets as table
use Rattle.py_constructs.proofs.HeadsFollow.{headed_row, headed_later, headed_joined}

pub begins : BeginsLaw
begins c = record { derives = λ more w y. y; specimens = table.goal_has_specimens c; headed = refl; read = refl; known = λ t e. absurd (none-some t e) }

-- what is told at n is known at n
told_known : (o : Option Told) (h : Option Numbered) (n : ℕ) (t : Told) → ((u : Told) → o ≡ Some u → u.known ≤ n) → told_so o h n ≡ Some t → t.known ≤ n
told_known None None n t k e = absurd (none-some t e)
told_known None (Some h) n t k e = let same : n ≡ t.known = ap (λ (u : Told). u.known) (same_Some _ t e) in omega arith
told_known (Some u) None n t k e = k t e
told_known (Some u) (Some h) n t k e = k t e

pub over_token : OverTokenLaw
over_token c before t symbols v r = record {
  derives = λ more w y. subst (λ (l : List Token). Yields (extended c) goal begin l w) (sym (append_assoc before (t ∷ []) more))
      (r.derives (t ∷ more) w (by_token (extended c) t symbols v more w y));
  specimens = and_right _ _ r.specimens;
  headed = r.headed;
  read = (let n = r.read in let l = length-append before (t ∷ []) in omega arith);
  known = λ u e. told_known v.told v.held (suc v.read) u (λ s k. (let n = r.known s k in omega arith)) e;
}

pub over_row : OverRowLaw
over_row c before x q symbols v r i g = record {
  derives = λ more w y. r.derives more w (by_row (extended c) x q symbols v more w i g y);
  specimens = specimens_joined (extended c) sets q.symbols symbols (row_has_specimens (extended c) sets (rows_with (additions c) x) q (and_right _ _ (table.completable c x)) i) r.specimens;
  headed = headed_later (q.symbols ++ symbols) (headed_joined false q.symbols symbols (headed_row c x q i) r.headed);
  read = r.read;
  known = r.known;
}

pub over_action : OverActionLaw
over_action c before Head symbols v r = record {
  derives = λ more w y. r.derives more w (by_action (extended c) Head symbols v more w y);
  specimens = r.specimens;
  headed = headed_later symbols r.headed;
  read = r.read;
  known = λ t e. told_known v.told (last_token v.items) v.read t r.known e;
}
over_action c before Hold symbols v r = record {
  derives = λ more w y. r.derives more w (by_action (extended c) Hold symbols v more w y);
  specimens = r.specimens;
  headed = headed_later symbols r.headed;
  read = r.read;
  known = r.known;
}
over_action c before Forget symbols v r = record {
  derives = λ more w y. r.derives more w (by_action (extended c) Forget symbols v more w y);
  specimens = r.specimens;
  headed = headed_later symbols r.headed;
  read = r.read;
  known = r.known;
}
over_action c before Plain symbols v r = record {
  derives = λ more w y. r.derives more w (by_action (extended c) Plain symbols v more w y);
  specimens = r.specimens;
  headed = headed_later symbols r.headed;
  read = r.read;
  known = r.known;
}
over_action c before TellTargets symbols v r = record {
  derives = λ more w y. r.derives more w (by_action (extended c) TellTargets symbols v more w y);
  specimens = r.specimens;
  headed = headed_later symbols r.headed;
  read = r.read;
  known = λ t e. told_known v.told (head_of_last (less 1 v.items)) v.read t r.known e;
}
over_action c before TellLoop symbols v r = record {
  derives = λ more w y. r.derives more w (by_action (extended c) TellLoop symbols v more w y);
  specimens = r.specimens;
  headed = headed_later symbols r.headed;
  read = r.read;
  known = λ t e. told_known v.told (loop_head v.left.here.head v.bracket) v.read t r.known e;
}
over_action c before HoldSlice symbols v r = record {
  derives = λ more w y. r.derives more w (by_action (extended c) HoldSlice symbols v more w y);
  specimens = r.specimens;
  headed = headed_later symbols r.headed;
  read = r.read;
  known = r.known;
}
over_action c before (Own a) symbols v r = record {
  derives = λ more w y. r.derives more w (by_action (extended c) (Own a) symbols v more w y);
  specimens = r.specimens;
  headed = headed_later symbols r.headed;
  read = r.read;
  known = r.known;
}
