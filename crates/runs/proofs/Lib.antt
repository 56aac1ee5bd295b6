pub mod OneResult
pub mod Simulation
pub mod Existence
pub mod Moments
pub mod FiniteMaps
pub mod RunVectors
