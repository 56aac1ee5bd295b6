use Rattle.std.proofs.Common.{◌≡◌, ◌++◌}
use Rattle.cpp_meaning.specs.Text.{indent}
use Rattle.cpp_text.proofs.text.push_indent.Given as goal

abbrev pub invariant-loop-level : goal.invariant-loop-level
invariant-loop-level l = l.out.items ≡ l.initial.out.items ++ indent l._level
