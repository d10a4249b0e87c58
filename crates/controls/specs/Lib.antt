pub mod Fields
pub mod Listed
pub mod Port
pub mod Memory
