pub mod DrawLaws
pub mod Right
pub mod Zero
