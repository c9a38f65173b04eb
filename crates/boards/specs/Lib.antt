pub mod Row
pub mod Boards
pub mod Lines
