pub mod Kinds
pub mod Fit
pub mod Begins
pub mod AtFront
