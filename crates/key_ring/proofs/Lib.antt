pub mod Cuts
pub mod Rotations
