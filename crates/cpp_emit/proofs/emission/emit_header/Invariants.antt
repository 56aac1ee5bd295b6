use Rattle.std.proofs.Common.{◌≡◌, ◌++◌, drop}
use Rattle.std.specs.Prelude.{map, string_bytes}
use Rattle.cpp_ast.specs.Plain.{plain_declaration}
use Rattle.shed_meaning.specs.Layout.{externs}
use Rattle.py_built.specs.Names.{texts}
use Rattle.cpp_emit.proofs.emission.emit_header.Given as goal

abbrev pub invariant-loop-global : goal.invariant-loop-global
invariant-loop-global l =
    map plain_declaration l.header ++ externs 0 (map string_bytes (drop l.global-index l.global-items)) ≡ externs 0 (texts l.names)
