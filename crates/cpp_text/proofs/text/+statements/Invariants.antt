use Rattle.std.proofs.Common.{◌≡◌, ◌++◌, drop}
use Rattle.cpp_meaning.specs.Text.{block_text}
use Rattle.cpp_ast.specs.Plain.{plain_block}
use Rattle.cpp_text.proofs.text.+statements.Given as goal

abbrev pub invariant-push_block-loop-stmt : goal.invariant-push_block-loop-stmt
invariant-push_block-loop-stmt l =
    l.out.items ++ block_text l.depth (plain_block (drop l.stmt-index l.block)) ≡ l.initial.out.items ++ block_text l.depth (plain_block l.block)
