pub mod ByteLaws
pub mod ImageLaws
pub mod PixelLaws
