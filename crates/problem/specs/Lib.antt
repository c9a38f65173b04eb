pub mod Named
pub mod Lent
pub mod Places
pub mod Reading
