-- A counted device.
use Rattle.std.specs.Prelude.{◌≡◌, ◌⊎◌, ◌<◌, ℕ, Bool, List, [], length, take, None, Some, Result, MatchResult}
use Rattle.pp_lines.specs.Calls.{Call}
use Rattle.pp_lines.specs.declared.counted.Counted.{Counted}

abbrev pub device_of : {D : Type 0} → Counted D → D
device_of counted = counted.device.device

abbrev pub failures_of : {D : Type 0} → Counted D → ℕ
failures_of counted = counted.failures

-- the bytes moved so far
abbrev pub moved_by : {D : Type 0} → Counted D → List ℕ
moved_by counted = counted.device.log.bytes

-- whether the source is at its end
abbrev pub ended_by : {D : Type 0} → Counted D → Bool
ended_by counted = counted.device.log.ended

-- what each call of the device returned, the latest first
abbrev pub calls_of : {D : Type 0} → Counted D → List Call
calls_of counted = counted.device.log.calls

-- A write with this result is this call of the device. It fails if the call fails, or takes no byte of a slice that is not empty.
abbrev pub IsCalled : {E : Type 0} → Call → Result ℕ E → List ℕ → Type 0
IsCalled call result slice = MatchResult result (λ count. call ≡ Some (take count slice))
    (λ _. (call ≡ None) ⊎ ((call ≡ Some []) × (0 < length slice)))
