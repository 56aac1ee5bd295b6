use Rattle.parser_operations.proofs.Taken.{upper_added}
use Rattle.parser_operations.proofs.operations.with_upper.Goals as goal

pub returns-in-None : goal.returns-in-None
returns-in-None c close v =
    upper_added c.args.slice c.args.upper c.in-Slice.object c.in-Slice.place c.in-Slice.lower c.in-Slice.bound close v c.in-Slice.is c.in-None.is
