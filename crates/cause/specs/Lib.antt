pub mod Listing
pub mod Trials
pub mod Promise
