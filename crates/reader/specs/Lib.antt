pub mod Tests
pub mod Scans
