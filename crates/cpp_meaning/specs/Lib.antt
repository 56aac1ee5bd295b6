pub mod Tree
pub mod Typing
pub mod Text
pub mod Machine
