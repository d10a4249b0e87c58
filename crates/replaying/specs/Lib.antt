pub mod Replay
pub mod Record
