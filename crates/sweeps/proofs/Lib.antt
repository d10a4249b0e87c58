pub mod WalkLaws
pub mod SweepLaws
