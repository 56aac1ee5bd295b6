pub mod CppViews
pub mod FilesGrow
pub mod Appends
