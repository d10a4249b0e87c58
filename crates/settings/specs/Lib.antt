pub mod Put
pub mod Settings
