-- That a count rose is kept over longer stretches.
use Rattle.std.proofs.Common.{ℕ, ◌≤◌, arith}
use Rattle.shed_base.specs.Outside.{Rose}

-- a count that rose has risen from each lower one
pub Rose_from_below : (lower before now : ℕ) → lower ≤ before → Rose before now → Rose lower now
Rose_from_below lower before now below rose = omega arith

-- and up to each higher one
pub Rose_to_above : (before now later : ℕ) → Rose before now → now ≤ later → Rose before later
Rose_to_above before now later rose above = omega arith

-- what rose in one of several calls rose over all of them
pub Rose_within : (first before now last : ℕ) → first ≤ before → Rose before now → now ≤ last → Rose first last
Rose_within first before now last below rose above = omega arith
