use Rattle.std.proofs.Common.{◌≡◌, ◌≤◌, drop}
use Rattle.py_tokens.specs.Characters.{value_from}
use Rattle.py_lexer.proofs.number.value.Given as goal

abbrev pub invariant-loop-c : goal.invariant-loop-c
invariant-loop-c l = record {
  rest : value_from l.base l.value (drop l.c-index l.text) ≡ value_from l.base 0 l.text;
  small : l.value ≤ l.greatest;
}
