pub mod ByteLaws
pub mod HeldLaws
pub mod Laws
pub mod ListingLaws
pub mod QuietLaws
