pub mod FaultCounts
pub mod Lists
pub mod LogSearch
pub mod NamesPlaced
pub mod ToldBytes
pub mod WrittenFiles
