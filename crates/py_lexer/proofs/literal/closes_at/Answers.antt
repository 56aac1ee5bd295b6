use Rattle.std.proofs.Common.{arith}
use Rattle.py_tokens.specs.Lexeme.{closes_at}
use Rattle.py_lexer.proofs.LiteralLemmas.{closes-more}
use Rattle.py_lexer.proofs.literal.closes_at.Goals as goal

pub loop-first-preserved : goal.loop-first-preserved
loop-first-preserved c = record {
  value = closes-more c.loop-first.n (closes_at c.args.three c.args.quote c.loop-first.left c.loop-first.rest.now) (closes_at c.args.three c.args.quote c.in-Goes.kept c.in-Some.after.now) (closes_at c.args.three c.args.quote 0 c.args.text.now) c.loop-first.invariant.value c.in-Goes.ensures.value;
  within = omega (arith, c.in-Some.ensures.cases.1);
}
