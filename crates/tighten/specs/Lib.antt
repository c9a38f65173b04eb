pub mod Memory
pub mod Meeting
pub mod Stepping
pub mod Ready
pub mod Promise
