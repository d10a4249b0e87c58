pub mod Used
pub mod Words
