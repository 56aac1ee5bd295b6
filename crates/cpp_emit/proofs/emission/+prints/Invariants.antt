use Rattle.std.proofs.Common.{◌≡◌, drop}
use Rattle.py_built.specs.PlainTrees.{plain_body}
use Rattle.cpp_emit.specs.Emit.{prints}
use Rattle.cpp_emit.proofs.emission.+prints.Given as goal

abbrev pub invariant-prints-loop-stmt : goal.invariant-prints-loop-stmt
invariant-prints-loop-stmt l = prints (plain_body (drop l.stmt-index l.body)) ≡ prints (plain_body l.body)
