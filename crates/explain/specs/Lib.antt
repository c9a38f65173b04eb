pub mod Places
pub mod Asking
pub mod Reading
pub mod Dropping
pub mod Promise
