use Rattle.std.proofs.lemmas.Result.{on_ok_weaker}
use Rattle.py_table.specs.PlainSymbols.{plain_action}
use Rattle.py_depth.proofs.NestStands.{acted}
use Rattle.py_depth.proofs.depth.NestValues.act.Goals as goal

pub returns : goal.returns
returns c = on_ok_weaker c.act.result (λ after texts v stands. acted (plain_action c.args.action) v c.args.self.now c.act.new.nest after stands) c.act.ensures
