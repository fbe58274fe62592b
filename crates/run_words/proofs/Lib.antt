pub mod Lines
mod LostLines
mod WholeInput
