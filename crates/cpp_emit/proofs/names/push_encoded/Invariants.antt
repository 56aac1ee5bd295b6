use Rattle.std.proofs.Common.{◌≡◌, ◌++◌, true, string_bytes}
use Rattle.shed_meaning.specs.EmittedName.{encoded}
use Rattle.cpp_emit.proofs.names.push_encoded.Given as goal

abbrev pub invariant-loop-c : goal.invariant-loop-c
invariant-loop-c l =
    string_bytes l.emitted ++ encoded l.after l.c-iterator.rest.now ≡ string_bytes l.initial.emitted ++ encoded true l.name
