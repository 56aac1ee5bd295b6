pub mod NameTexts
pub mod Picked
pub mod SymbolStacks
pub mod Turns
