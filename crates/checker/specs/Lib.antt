pub mod Demands
pub mod Refusals
pub mod Tests
pub mod Refusal
pub mod Promise
