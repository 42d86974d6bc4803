-- What a reader believes of the rules: of single gates, of steps, of sweeps.
pub mod Equal
pub mod Runs
pub mod MayPass
pub mod Steps
pub mod Journal
pub mod Sweeps
pub mod Loop
