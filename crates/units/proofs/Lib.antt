pub mod AheadLaws
pub mod RunLaws
pub mod UnitLaws
pub mod PowerLaws
pub mod ToldLaws
