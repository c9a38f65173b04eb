pub mod Moving
pub mod Undoing
pub mod Keeping
pub mod Room
