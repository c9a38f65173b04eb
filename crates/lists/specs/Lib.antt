pub mod Lists
pub mod Every
pub mod Tests
