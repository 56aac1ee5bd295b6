use Rattle.std.proofs.Common.{◌≡◌, ◌++◌, drop}
use Rattle.std.specs.Prelude.{map, string_bytes}
use Rattle.shed_meaning.specs.Table.{global_lines}
use Rattle.shed_cli.proofs.tables.push_globals.Given as goal

abbrev pub invariant-loop-name : goal.invariant-loop-name
invariant-loop-name l = l.out.items ++ global_lines l.module (map string_bytes (drop l.name-index l.names)) ≡ l.initial.out.items ++ global_lines l.module (map string_bytes l.names)
