pub mod PlainTrees
pub mod Names
pub mod First
pub mod Forms
