use Rattle.std.proofs.Common.{◌≡◌, take}
use Rattle.shed_base.specs.Names.{special_texts, AreDistinct}
use Rattle.shed_base.proofs.names.Names.new.Given as goal

abbrev pub invariant-loop-text : goal.invariant-loop-text
invariant-loop-text l = (l.names ≡ take l.text-index special_texts) × AreDistinct l.names
