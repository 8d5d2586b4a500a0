-- How much room the answer to a line needs, and a sink over a slice.
use Rattle.std.specs.Prelude.{ℕ, ◌+◌, max, List, [], ◌∷◌, length, take, Option, Some, None, Result, Ok, Err}
use Rattle.pp_actions.specs.Watches.{watches_of}
use Rattle.pp_actions.specs.declared.watched.Watched.{Watched}
use Rattle.pp_actions.specs.declared.watched.Watched.TheVariants.{Central}
use Rattle.pp_command.specs.CommandLine.{command}
use Rattle.pp_command.specs.declared.fault.LineFault.{LineFault}
use Rattle.pp_command.specs.declared.request.Request.{Request}
use Rattle.pp_command.specs.declared.request.Request.TheVariants.{Act, Step, Back, BackToChange, Forward}
use Rattle.pp_console.specs.Commands.{Value, answer, present}
use Rattle.pp_console.specs.Refusals.{fault_text}
use Rattle.pp_lines.specs.Output.{Written}
use Rattle.pp_console.specs.declared.room.Room.{Room}
use Rattle.pp_machine.specs.Machine.{Machine}

-- The most bytes of an answer with a count and the slot, and of any other answer without a dump and without a HIT line (decimal).
abbrev pub longest_move : ℕ
longest_move = 39

-- The most bytes of a HIT line at this place (decimal). All other places have shorter lines than a cell.
abbrev pub hit_size : Watched → ℕ
hit_size (Central a) = 55
hit_size watched = 24

-- The most bytes of a HIT line at one of these places.
abbrev pub longest_hit : List Watched → ℕ
longest_hit [] = 0
longest_hit (watched ∷ others) = max (hit_size watched) (longest_hit others)

-- The most bytes of the answer to a request that may change the session. A dump changes nothing, and has no such bound.
abbrev pub change_room : Request → Machine → Option ℕ
change_room (Act action) s = Some longest_move
change_room (Step most) s = Some (longest_move + longest_hit (watches_of s))
change_room (Back actions) s = Some longest_move
change_room BackToChange s = Some longest_move
change_room (Forward actions) s = Some longest_move
change_room request s = None

-- The room that is asked for before a request is performed.
abbrev pub room_or : Option ℕ → ℕ → ℕ
room_or None exact = exact
room_or (Some most) exact = most

-- The room that a line needs: the exact length of an answer that changes nothing, or the most that the answer may have.
abbrev pub request_room : Value → Request → ℕ
request_room v request = room_or (change_room request (present v)) (length (answer request v).text)

abbrev pub parsed_room : Value → Result (Option Request) LineFault → ℕ
parsed_room v (Ok None) = 0
parsed_room v (Ok (Some request)) = request_room v request
parsed_room v (Err fault) = length (fault_text fault)

unfoldable pub line_room : Value → List ℕ → ℕ
line_room v line = parsed_room v (command line)

-- What a sink over a slice has written. Of what its device holds the first two numbers name the slice, so no call of the sink
-- exchanges it for another.
abbrev pub written_in : Room → Written
written_in room =
    let written = take room.count room.bytes.now in
    record { bytes = written; held = Some (room.bytes.ghost_name ∷ length room.bytes.now ∷ written) }
