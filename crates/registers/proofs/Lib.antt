pub mod BoolLaws
pub mod BufferLaws
pub mod FreshLaws
pub mod HeldLaws
