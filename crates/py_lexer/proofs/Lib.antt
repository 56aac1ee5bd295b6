pub mod CommentLemmas
pub mod NameLemmas
pub mod NumberLemmas
pub mod LiteralLemmas
pub mod EscapeLemmas
pub mod ContentsLemmas
pub mod FrontLemmas
mod AheadLemmas
mod MergeLemmas
mod LevelLemmas
mod OutputLemmas
mod StepLemmas
mod NamesLemmas
mod TextLemmas
mod NumberingLemmas
