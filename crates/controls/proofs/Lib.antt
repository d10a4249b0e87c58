pub mod MemoryLaws
