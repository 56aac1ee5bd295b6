pub mod Token
pub mod Places
pub mod Characters
pub mod Lexeme
pub mod Lines
pub mod Tokens
pub mod Names
pub mod Ordered
