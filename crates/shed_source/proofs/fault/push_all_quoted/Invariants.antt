use Rattle.std.proofs.Common.{◌≡◌, ◌++◌, drop}
use Rattle.std.specs.Prelude.{string_bytes}
use Rattle.shed_meaning.specs.TokenText.{all_quoted}
use Rattle.shed_source.proofs.fault.push_all_quoted.Given as goal

abbrev pub invariant-loop-c : goal.invariant-loop-c
invariant-loop-c l = string_bytes l.said ++ all_quoted l.quote (drop l.c-index l.text) ≡ string_bytes l.initial.said ++ all_quoted l.quote l.text
