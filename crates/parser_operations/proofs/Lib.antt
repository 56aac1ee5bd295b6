mod Additions
mod Taken
