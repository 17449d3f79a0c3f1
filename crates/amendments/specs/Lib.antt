pub mod Meanings
pub mod Layers
pub mod LayerViews
