pub mod BurstLaws
pub mod CountLaws
