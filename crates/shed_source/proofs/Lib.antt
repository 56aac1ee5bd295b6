pub mod TokensNumbered
pub mod SourceRead
