pub mod Sends
pub mod Once
