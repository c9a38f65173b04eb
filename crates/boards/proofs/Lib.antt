pub mod Sound
pub mod Computed
pub mod Checks
pub mod Boards
pub mod Cases
pub mod Rises
pub mod LongShifts
