pub mod BytesLaws
pub mod DigitLaws
pub mod Laws
pub mod LineLaws
