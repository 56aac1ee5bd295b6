pub mod PlainConstructs
pub mod PlainSymbols
pub mod RowNumbers
pub mod Sights
pub mod PlainValues
pub mod Steps
pub mod Ways
