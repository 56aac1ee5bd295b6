pub mod TreeVectors
mod TextVectors
pub mod TypingVectors
mod MachineVectors
