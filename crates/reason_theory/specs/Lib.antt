pub mod Says
pub mod Reason
pub mod Alone
