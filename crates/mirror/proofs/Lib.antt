pub mod AskedLaws
pub mod ExportLaws
