pub mod Nibbles
pub mod Caches
