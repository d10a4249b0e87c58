pub mod Dots
pub mod Cost
pub mod Share
