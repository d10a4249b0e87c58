pub mod EndLaws
pub mod FinishLaws
