pub mod PlainRoles
pub mod PlainAsks
pub mod PlainLeasts
pub mod Reaching
pub mod Reading
pub mod Noted
