pub mod Walk
pub mod Address
pub mod Pace
pub mod Line
pub mod Straight
