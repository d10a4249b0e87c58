pub mod OutLaws
pub mod WayLaws
pub mod CircleLaws
pub mod SizeLaws
pub mod OutsideLaws
