pub mod Midpoint
