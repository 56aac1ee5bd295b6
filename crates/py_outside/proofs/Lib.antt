pub mod Picked
pub mod Taken
pub mod Items
pub mod Levels
pub mod SymbolStacks
pub mod Turns
pub mod Ways
