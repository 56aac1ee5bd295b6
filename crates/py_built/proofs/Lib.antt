pub mod BodiesBuilt
pub mod Calls
pub mod Comparisons
pub mod FirstPlaces
pub mod NamesKept
pub mod UnbuiltAlike
pub mod UnbuiltSteps
pub mod VariableNames
