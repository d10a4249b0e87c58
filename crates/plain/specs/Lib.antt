pub mod Numbers
pub mod Parts
pub mod Mirror
pub mod Form
