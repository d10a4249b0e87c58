pub mod AnsweredLaws
pub mod ToldLaws
