use Rattle.std.proofs.Common.{◌≡◌, ◌++◌, drop}
use Rattle.std.specs.Prelude.{map, string_bytes}
use Rattle.cpp_ast.specs.Plain.{plain_definition}
use Rattle.shed_meaning.specs.Layout.{variables}
use Rattle.py_built.specs.Names.{texts}
use Rattle.cpp_emit.proofs.emission.emit_source.Given as goal

abbrev pub invariant-loop-global : goal.invariant-loop-global
invariant-loop-global l =
    map plain_definition l.source ++ variables 0 (map string_bytes (drop l.global-index l.global-items)) ≡ variables 0 (texts l.names)
