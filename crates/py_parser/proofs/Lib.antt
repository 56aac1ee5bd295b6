pub mod PartsStand
pub mod Shallow
