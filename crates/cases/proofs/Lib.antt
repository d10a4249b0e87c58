pub mod BenchSheet
