-- What the calls return.
use Rattle.std.specs.Prelude.{ℕ, Bool, nat_lt, if◌then◌else◌}
use Rattle.pp_console.specs.declared.answering.End.{End}
use Rattle.pp_console.specs.declared.answering.End.TheVariants as end
use Rattle.pp_library.specs.declared.status.TheConstants.{DONE, LIMIT, ROOM, WATCHED}

-- The status of answers: all lines were answered, or the answer to the next one might not fit, or it is past a limit.
abbrev pub end_status : End → ℕ
end_status end.All = DONE
end_status end.Room = ROOM
end_status end.Limit = LIMIT

-- The status of turns: the last one changed a watched number, or there were fewer than were asked for, or all.
abbrev pub run_status : Bool → ℕ → ℕ → ℕ
run_status hit turns most = if hit then WATCHED else (if nat_lt turns most then ROOM else DONE)
