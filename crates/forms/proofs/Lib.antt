mod FitLaws
mod ZeroLaws
pub mod FormLaws
