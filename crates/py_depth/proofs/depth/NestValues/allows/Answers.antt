use Rattle.std.proofs.Common.{ap, ◌∙◌}
use Rattle.py_nesting.specs.Asked.{targets_last}
use Rattle.py_depth.specs.PlainEntries.{entries_of}
use Rattle.py_depth.proofs.NestStands.{targets_asked}
use Rattle.py_depth.proofs.depth.NestValues.allows.Goals as goal

pub returns-in-AreTargetsLast : goal.returns-in-AreTargetsLast
returns-in-AreTargetsLast c =
    λ texts v s. rw c.in-AreTargetsLast.is (targets_asked v _ _ s.0 (c.are_targets_last.ensures ∙ ap (λ items. targets_last (entries_of items)) c.deref.ensures.value))
