pub mod PlainParts
