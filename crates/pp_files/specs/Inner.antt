-- For the contracts of inner functions and for proofs: no contract of a public call needs this.
pub mod Loading
