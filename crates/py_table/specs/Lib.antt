pub mod PlainSymbols
pub mod PlainTokens
pub mod Sights
pub mod RowNumbers
pub mod Steps
