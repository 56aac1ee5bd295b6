use Rattle.shed_cli.proofs.CausesFollow.{causes_follow}
use Rattle.shed_cli.proofs.top.shed.Goals as goal

pub returns-clause-causes : goal.returns-clause-causes
returns-clause-causes g c = causes_follow _ _ _ _ c.carry_out.ensures.outcome
