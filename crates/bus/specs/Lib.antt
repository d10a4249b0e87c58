pub mod Asked
pub mod Bytes
