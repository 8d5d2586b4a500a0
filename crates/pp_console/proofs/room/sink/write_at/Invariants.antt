use Rattle.std.proofs.Common.{◌≡◌, ◌+◌, ◌++◌, take}
use Rattle.pp_console.proofs.room.sink.write_at.Given as goal

abbrev pub invariant-loop-k : goal.invariant-loop-k
invariant-loop-k l = take (l.at + l.k) l.bytes ≡ take l.at l.initial.bytes ++ take l.k l.from
