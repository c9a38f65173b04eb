pub mod Giving
pub mod Trying
pub mod Trimming
pub mod Calling
pub mod Once
pub mod Naming
pub mod Ascending
