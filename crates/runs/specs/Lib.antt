pub mod Run
pub mod Moment
pub mod FiniteMap
pub mod Laws
pub mod Number
