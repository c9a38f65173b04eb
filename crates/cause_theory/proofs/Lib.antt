pub mod One
pub mod Without
pub mod Irreducible
pub mod Ascending
pub mod Sum
pub mod Named
pub mod Every
pub mod Trials
