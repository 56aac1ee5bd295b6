use Rattle.std.proofs.Common.{◌≡◌, drop}
use Rattle.std.specs.Option.{option_map}
use Rattle.py_ast.specs.PlainTrees.{plain_body}
use Rattle.py_meaning.specs.Built.{built_body}
use Rattle.py_built.specs.Forms.{behind}
use Rattle.py_built.proofs.building.+statements.Given as goal

-- what is built, and what is built behind it
abbrev pub invariant-build_body-loop-stmt : goal.invariant-build_body-loop-stmt
invariant-build_body-loop-stmt l =
    option_map (behind l.built) (built_body l.names (plain_body (drop l.stmt-index l.body))) ≡ built_body l.names (plain_body l.body)
