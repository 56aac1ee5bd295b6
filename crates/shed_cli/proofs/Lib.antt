pub mod Appends
pub mod FilesWritten
pub mod WordsRead
pub mod Judgements
pub mod Endings
pub mod CausesFollow
