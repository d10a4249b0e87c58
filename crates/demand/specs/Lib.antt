pub mod Picture
pub mod Shown
pub mod Cost
