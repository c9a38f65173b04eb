pub mod Tree
pub mod Sizes
pub mod FormTests
pub mod Denotes
pub mod Draft
pub mod Making
pub mod Answers
pub mod Stored
