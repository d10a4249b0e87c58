pub mod Draw
pub mod Refused
pub mod Right
