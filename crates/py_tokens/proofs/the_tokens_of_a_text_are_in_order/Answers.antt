use Rattle.py_tokens.proofs.TokensOrdered.{tokens_are_ordered}
use Rattle.py_tokens.proofs.the_tokens_of_a_text_are_in_order.Goals as goal

pub returns : goal.returns
returns c = record { law = tokens_are_ordered }
