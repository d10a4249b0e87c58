pub mod Command
pub mod Entry
