-- What the contracts of inner calls and the proofs need: undo records, views and invariants. What a turn and an action do is
-- defined without them.
pub mod ActionRecords
pub mod IsMachine
pub mod LiftLaws
pub mod Marks
pub mod RigView
pub mod Short
pub mod TurnRecords
