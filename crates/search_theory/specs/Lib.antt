pub mod Settings
pub mod Search
pub mod Guesses
pub mod Ceiling
