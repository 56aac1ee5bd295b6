-- The headline holds of a program and the C++ written by hand for it, and not of that program and other C++.
use Rattle.std.proofs.Common.{◌≡◌, ℕ, zero, suc, pos, List, [], Bool, true, false, Option, Some, None, refl, subst, codes}
use Rattle.std.specs.Prelude.{if◌then◌else◌}
use Rattle.std.specs.Int.{int_wrap}
use Rattle.std.specs.Fmt.{digits}
use Rattle.runs.specs.FiniteMap.{put}
use Rattle.runs.specs.Run.{Result, Gives, Done, Wrong, ComesTo}
use Rattle.runs.specs.Moment.{moment_at, NeverEnds}
use Rattle.runs.proofs.OneResult.{one_result}
use Rattle.py_meaning.specs.Value.{Value, VInt, IsWhole}
use Rattle.py_meaning.specs.Program.{Global, In, same_global}
use Rattle.py_meaning.specs.Machine.{Moment, machine as source_machine, start as source_start}
use Rattle.cpp_meaning.specs.Text.{File}
use Rattle.cpp_meaning.specs.Machine.{machine, start}
use Rattle.cpp_meaning.proofs.TreeVectors.{sum, wrapped_sum}
use Rattle.cpp_meaning.proofs.TypingVectors.{sum_typed}
use Rattle.shed_meaning.specs.Headline.{written, Headline}
use Rattle.shed_meaning.proofs.LayoutVectors.{x, sum_source, sum_laid_out}

source_runs : (input : List ℕ) (n : ℕ) → ComesTo (source_machine sum_source) n (source_start sum_source input) (Gives (codes "3\n") Done)
unfolding put int_wrap digits
source_runs input n = (20, refl)

target_runs : (input : List ℕ) (n : ℕ) → ComesTo (machine sum) n (start sum input) (Gives (codes "3\n") Done)
unfolding put int_wrap digits
target_runs input n = (20, refl)

never_wrong : (input : List ℕ) → NeverEnds (source_machine sum_source) (source_start sum_source input) Wrong
never_wrong input n out wrong =
    let same : Gives (codes "3\n") Done ≡ Gives out Wrong = one_result (source_machine sum_source) n (source_start sum_source input) _ _ (source_runs input n) wrong in
    cc same

-- each global of a moment, if there is one, holds a whole number
abbrev AreWhole : Option Moment → Type 0
AreWhole None = Unit {0}
AreWhole (Some m) = (g : Global) (v : Value) → m.world.globals g ≡ Some v → IsWhole v

one_whole : (b : Bool) (v : Value) → (if b then Some (VInt (pos 1)) else None) ≡ Some v → IsWhole v
one_whole true v e = let same : VInt (pos 1) ≡ v = cc e in subst IsWhole same tt
one_whole false v e = cc e

-- nothing is bound for four moments, and then x is, until the run is over
are_whole : (input : List ℕ) (k : ℕ) → AreWhole (moment_at (source_machine sum_source) k (source_start sum_source input))
unfolding put int_wrap digits
are_whole input zero = λ g v e. cc e
are_whole input (suc zero) = λ g v e. cc e
are_whole input (suc (suc zero)) = λ g v e. cc e
are_whole input (suc (suc (suc zero))) = λ g v e. cc e
are_whole input (suc (suc (suc (suc zero)))) = λ g v e. one_whole (same_global (In 0 x) g) v e
are_whole input (suc (suc (suc (suc (suc zero))))) = λ g v e. one_whole (same_global (In 0 x) g) v e
are_whole input (suc (suc (suc (suc (suc (suc zero)))))) = λ g v e. one_whole (same_global (In 0 x) g) v e
are_whole input (suc (suc (suc (suc (suc (suc (suc zero))))))) = λ g v e. one_whole (same_global (In 0 x) g) v e
are_whole input (suc (suc (suc (suc (suc (suc (suc (suc zero)))))))) = λ g v e. one_whole (same_global (In 0 x) g) v e
are_whole input (suc (suc (suc (suc (suc (suc (suc (suc (suc zero))))))))) = λ g v e. one_whole (same_global (In 0 x) g) v e
are_whole input (suc (suc (suc (suc (suc (suc (suc (suc (suc (suc zero)))))))))) = λ g v e. one_whole (same_global (In 0 x) g) v e
are_whole input (suc (suc (suc (suc (suc (suc (suc (suc (suc (suc (suc zero))))))))))) = λ g v e. one_whole (same_global (In 0 x) g) v e
are_whole input (suc (suc (suc (suc (suc (suc (suc (suc (suc (suc (suc (suc zero)))))))))))) = λ g v e. one_whole (same_global (In 0 x) g) v e
are_whole input (suc (suc (suc (suc (suc (suc (suc (suc (suc (suc (suc (suc (suc zero))))))))))))) = λ g v e. one_whole (same_global (In 0 x) g) v e
are_whole input (suc (suc (suc (suc (suc (suc (suc (suc (suc (suc (suc (suc (suc (suc k)))))))))))))) = tt

pub sum_headline : Headline sum_source sum (written sum_source sum)
sum_headline =
    record {
      files = refl;
      typed = (sum_typed, sum_laid_out);
      same_runs = λ input n. (Gives (codes "3\n") Done, source_runs input n, target_runs input n);
      never_wrong = never_wrong;
      moments = λ input k m e. subst AreWhole e (are_whole input k);
    }

-- C++ that prints another number
other_runs : ComesTo (machine wrapped_sum) 0 (start wrapped_sum []) (Gives (codes "-2147483648\n") Done)
unfolding put int_wrap digits
other_runs = (20, refl)

other_headline : (files : List File) → Headline sum_source wrapped_sum files → ⊥
other_headline files t =
    let r : (r : Result) × ComesTo (source_machine sum_source) 0 (source_start sum_source []) r × ComesTo (machine wrapped_sum) 0 (start wrapped_sum []) r = t.same_runs [] 0 in
    let one : Gives (codes "3\n") Done ≡ r.0 = one_result (source_machine sum_source) 0 (source_start sum_source []) _ _ (source_runs [] 0) r.1 in
    let other : Gives (codes "-2147483648\n") Done ≡ r.0 = one_result (machine wrapped_sum) 0 (start wrapped_sum []) _ _ other_runs r.2 in
    cc (one, other)
