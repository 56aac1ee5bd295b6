pub mod Recognised
pub mod Refused
