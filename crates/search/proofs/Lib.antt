pub mod Tables
pub mod Guesses
pub mod Frames
pub mod Preparing
pub mod Searches
pub mod Starts
