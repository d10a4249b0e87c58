pub mod Wdat
