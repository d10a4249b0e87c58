pub mod EventLaws
pub mod ListLaws
pub mod PartLaws
pub mod TakenLaws
pub mod ListingLaws
