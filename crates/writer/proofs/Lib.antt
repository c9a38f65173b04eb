pub mod Puts
pub mod Filled
pub mod Wrote
pub mod Answers
