pub mod OutputLaws
pub mod ReaderLaws
