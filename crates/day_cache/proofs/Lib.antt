pub mod Packing
pub mod Afresh
