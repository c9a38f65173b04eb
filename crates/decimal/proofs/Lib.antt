pub mod Decimals
pub mod Values
pub mod Apart
pub mod Appends
pub mod Puts
pub mod Readings
