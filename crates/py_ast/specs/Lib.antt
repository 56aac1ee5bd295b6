pub mod PlainOperators
pub mod PlainExprs
pub mod PlainTrees
