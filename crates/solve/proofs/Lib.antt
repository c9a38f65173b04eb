pub mod Storing
pub mod Calling
pub mod Once
pub mod Demands
pub mod ShutOut
