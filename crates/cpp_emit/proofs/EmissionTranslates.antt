-- The emission of a module that keeps the rule on reads is its translation.
use Rattle.std.proofs.Common.{◌≡◌, refl, subst}
use Rattle.runs.specs.Run.{Wrong, Gives}
use Rattle.runs.proofs.OneResult.{one_result}
use Rattle.py_meaning.specs.Machine.{machine as source_machine, start as source_start}
use Rattle.cpp_emit.specs.Emit.{emit_block}
use Rattle.cpp_emit.specs.Law.{EmissionTranslates}
use Rattle.cpp_emit.proofs.WellTyped.{emit_typed, emit_laid_out}
use Rattle.cpp_emit.proofs.Evaluation.{one_module}
use Rattle.cpp_emit.proofs.RunsAlike.{IsFine, runs_alike}
use Rattle.cpp_emit.proofs.WholeNumbers.{whole_numbers}

pub emission_translates : EmissionTranslates
emission_translates name body sure =
    let P = one_module (record { name = name; body = body }) in
    record {
      files = refl;
      typed = (emit_typed name body sure, record { block = emit_block body; temporaries = emit_laid_out body; modules = refl });
      same_runs = λ input n. let b = runs_alike name body sure input n in (Gives b.0 b.1, b.3, b.4);
      never_wrong = λ input n out wrong.
          let b = runs_alike name body sure input n in
          let same : Gives b.0 b.1 ≡ Gives out Wrong = one_result (source_machine P) n (source_start P input) (Gives b.0 b.1) (Gives out Wrong) b.3 wrong in
          let ending : b.1 ≡ Wrong = cc in
          subst IsFine ending b.2;
      moments = whole_numbers P;
    }
