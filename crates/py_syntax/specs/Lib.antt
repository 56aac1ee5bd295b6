pub mod Token
pub mod Kinds
pub mod Tree
pub mod Grammar
pub mod Build
pub mod Table
pub mod Laws
pub mod Heights
