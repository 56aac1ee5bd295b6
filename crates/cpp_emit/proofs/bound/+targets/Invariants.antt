use Rattle.std.proofs.Common.{◌≡◌, drop}
use Rattle.py_meaning.specs.Binding.{targets}
use Rattle.py_built.specs.PlainTrees.{plain_body}
use Rattle.py_built.specs.Names.{texts}
use Rattle.cpp_emit.specs.Names.{with_names}
use Rattle.cpp_emit.proofs.bound.+targets.Given as goal

abbrev pub invariant-bind_targets-loop-stmt : goal.invariant-bind_targets-loop-stmt
invariant-bind_targets-loop-stmt l =
    with_names (texts l.names) (targets (plain_body (drop l.stmt-index l.body))) ≡ with_names (texts l.initial.names) (targets (plain_body l.body))
