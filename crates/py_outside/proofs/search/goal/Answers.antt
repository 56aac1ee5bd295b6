use Rattle.py_outside.proofs.SymbolStacks.{started}
use Rattle.py_outside.proofs.search.goal.Goals as goal

pub returns : goal.returns
returns c = started _ _ _ c.new-symbols.ensures.items c.in_ok-push.ensures.items c.in_ok-push-2.ensures.items
