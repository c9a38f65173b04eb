pub mod Cause
pub mod Trials
