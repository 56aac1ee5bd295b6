pub mod PlainTargets
