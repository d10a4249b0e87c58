pub mod DotLaws
pub mod CostLaws
