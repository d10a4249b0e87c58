pub mod PartLaws
pub mod PlayLaws
