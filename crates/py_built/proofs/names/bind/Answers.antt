use Rattle.std.proofs.Common.{sym, ◌∙◌}
use Rattle.py_built.proofs.NamesKept.{kept, added}
use Rattle.py_built.proofs.names.bind.Goals as goal

pub returns-in_ok-insert : goal.returns-in_ok-insert
returns-in_ok-insert c =
    added c.args.names.now.keys c.insert.new.self.keys c.in_ok-from_str.field-0 c.args.name.now c.in_ok-from_str.ensures.ok (sym c.contains.ensures ∙ c.if-not-contains.true) c.in_ok-insert.ensures.keys

pub returns-else-not-contains : goal.returns-else-not-contains
returns-else-not-contains c = kept c.args.names.now.keys c.args.name.now (sym c.contains.ensures ∙ c.if-not-contains.false)
