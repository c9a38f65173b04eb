pub mod Guessing
pub mod Searching
pub mod Starting
