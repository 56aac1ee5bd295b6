pub mod NamesApart
pub mod GlobalsBound
pub mod PlainViews
pub mod BlocksGrow
pub mod NamesWritten
pub mod NamesKept
pub mod WellTyped
pub mod Evaluation
pub mod RunsAlike
pub mod WholeNumbers
pub mod EmissionTranslates
pub mod ProgramVectors
mod ProgramVectorsPlain
mod ProgramVectorsBlocks
