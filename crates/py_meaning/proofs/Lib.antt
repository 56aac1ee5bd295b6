mod MachineVectors
mod RuleVectors
pub mod BuiltLaws
pub mod SourceVectors
