pub mod Sweep
pub mod Place
pub mod Curve
