pub mod Beginnings
pub mod Blocks
pub mod Naming
pub mod Nearest
pub mod Ordinals
pub mod Pointing
pub mod Reserved
