pub mod Figure
pub mod Character
pub mod Reading
