pub mod Stacks
pub mod Demands
mod NestStands
mod DepthFound
