pub mod Desk
pub mod Output
pub mod Reader
pub mod Upper
