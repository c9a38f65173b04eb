pub mod Text
pub mod Printed
pub mod Lines
pub mod Promise
pub mod Digits
pub mod Advice
