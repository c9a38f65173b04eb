pub mod Lents
pub mod Readings
