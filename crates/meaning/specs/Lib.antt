-- What a reader believes of amplitudes, of the matrices of OpenQASM 3, and of what a list does.
pub mod Amplitudes
pub mod Matrices
pub mod States
