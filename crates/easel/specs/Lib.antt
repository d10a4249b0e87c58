pub mod Parts
pub mod Paper
pub mod Drawing
