pub mod LeastLaws
pub mod WalkLaws
pub mod BitLaws
pub mod LoopLaws
pub mod PaceLaws
pub mod SideLaws
pub mod RowLaws
