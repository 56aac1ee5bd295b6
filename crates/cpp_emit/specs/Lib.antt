pub mod Emit
pub mod Law
pub mod Names
pub mod Blocks
