pub mod Kept
pub mod Left
