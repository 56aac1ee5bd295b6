pub mod PlacesOrdered
mod Notation
mod NumberVectors
mod TextVectors
mod SignVectors
mod LineVectors
pub mod TokensOrdered
