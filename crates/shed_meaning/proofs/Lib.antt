mod ConstructVectors
mod NameVectors
mod TableVectors
mod WordVectors
pub mod LayoutVectors
pub mod HeadlineVectors
mod RunVectors
pub mod FaultsExcluded
mod OutcomeVectors
pub mod GrammarOrdered
