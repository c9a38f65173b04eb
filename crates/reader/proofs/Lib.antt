pub mod Gaps
pub mod Loading
pub mod Parse
pub mod Steps
pub mod Turns
pub mod Stores
pub mod Keeps
