pub mod Unit
pub mod Run
pub mod Stop
pub mod Answered
