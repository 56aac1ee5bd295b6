use Rattle.std.proofs.Common.{◌≡◌, [], drop}
use Rattle.std.specs.Option.{option_map}
use Rattle.py_lexer.specs.PlainTokens.{plain_place}
use Rattle.py_ast.specs.PlainTrees.{plain_body}
use Rattle.py_meaning.specs.Built.{first_place, unbuilt}
use Rattle.py_built.specs.First.{earliest}
use Rattle.py_built.specs.Names.{texts}
use Rattle.py_built.proofs.unbuilt.first_unbuilt.Given as goal

-- what was found, and what is found behind it
abbrev pub invariant-loop-stmt : goal.invariant-loop-stmt
invariant-loop-stmt l =
    earliest (option_map plain_place l.place) (first_place (unbuilt l.names (texts l.sure) (plain_body (drop l.stmt-index l.body)))) ≡ first_place (unbuilt l.names [] (plain_body l.body))
