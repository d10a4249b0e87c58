pub mod Raw
pub mod Decode
pub mod Inside
pub mod Refused
