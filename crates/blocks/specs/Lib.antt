pub mod Answer
pub mod Refused
pub mod Block
