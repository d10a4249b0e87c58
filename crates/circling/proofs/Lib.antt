pub mod ArcLaws
pub mod StrideLaws
pub mod AxisLaws
pub mod DrawnLaws
pub mod ExampleLaws
