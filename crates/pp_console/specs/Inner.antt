-- For the contracts of inner functions and for proofs: no contract of a public call needs these.
pub mod Gathering
pub mod PaperCuts
pub mod ServingSteps
