pub mod ByBytes
