use Rattle.std.proofs.Common.{◌≡◌, ◌++◌, drop}
use Rattle.cpp_meaning.specs.Text.{quoted}
use Rattle.cpp_text.proofs.text.push_quoted.Given as goal

abbrev pub invariant-loop-character : goal.invariant-loop-character
invariant-loop-character l = l.out.items ++ quoted (drop l.character-index l.text) ≡ l.initial.out.items ++ quoted l.text
