pub mod PlainEntries
pub mod Nests
pub mod PlainDemands
pub mod Found
