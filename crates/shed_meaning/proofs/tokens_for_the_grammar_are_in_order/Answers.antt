use Rattle.shed_meaning.proofs.GrammarOrdered.{grammar_tokens_are_ordered}
use Rattle.shed_meaning.proofs.tokens_for_the_grammar_are_in_order.Goals as goal

pub returns : goal.returns
returns c = record { law = grammar_tokens_are_ordered }
