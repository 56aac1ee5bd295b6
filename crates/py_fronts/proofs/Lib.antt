mod SubKinds
pub mod TreesBegin
pub mod PartsBegin
mod ActionsFit
pub mod RowsFit
pub mod TableFits
pub mod DerivedFit
pub mod FrontsReached
pub mod DepthsGo
