pub mod Edits
pub mod EditContracts
pub mod Polynomials
pub mod Probe
pub mod Refusals
pub mod Relations
pub mod Replicas
pub mod Shapes
