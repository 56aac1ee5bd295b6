use Rattle.py_syntax.proofs.TableLaws.{table_spells}
use Rattle.py_syntax.proofs.table_spells_what_the_grammar_says.Goals as goal

pub returns : goal.returns
returns c = record { law = table_spells }
