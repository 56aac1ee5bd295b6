pub mod Grammar
pub mod Derivation
pub mod Sets
pub mod Run
pub mod Laws
pub mod Alike
pub mod Least
