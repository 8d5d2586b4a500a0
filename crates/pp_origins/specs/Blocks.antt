-- The origins in a block transfer: for the four codes the places that a step writes, with where each new number comes from.
use Rattle.std.specs.Prelude.{ℕ, true, false, [], ◌∷◌, ◌==◌, ◌||◌, not, nat_lt, if◌then◌else◌}
use Rattle.pp_machine.specs.ChannelNumbers.{state_number}
use Rattle.pp_machine.specs.declared.channel.ChannelState.TheVariants.{Empty, Full}
use Rattle.pp_machine.specs.declared.place.Place.TheVariants.{Cell, RegA, RegP, RegQ, Phase, ChannelMode, ChannelWord, Central}
use Rattle.pp_step.specs.Channels.{is_clock}
use Rattle.pp_origins.specs.Origin.{Origins}
use Rattle.pp_origins.specs.Rows.{Deciding, Row, row, nothing, whole, a, p, register, clock, from, set_to, five_cells, joined}
use Rattle.pp_origins.specs.Rows.{next1, is_in, is_active}
use Rattle.pp_origins.specs.declared.situation.Situation.{Situation}
use Rattle.pp_origins.specs.declared.origin.Operation.TheVariants as by

-- The transfer ends.
abbrev pub finish : Situation → Origins
finish c = (RegP c.pp, from by.After1 ((λ c. whole (Cell c.pp 0)) ∷ []) c) ∷ (Phase c.pp, set_to 0 c) ∷ []

-- A move of a central word, beside what it writes there.
abbrev pub counted : Origins → Situation → Origins
counted rest c =
    (RegP c.pp, from by.After5 (p ∷ []) c) ∷ (RegA c.pp, from by.CentralAfter (a ∷ []) c)
    ∷ (RegQ c.pp, from by.CountDown ((λ c. whole (RegQ c.pp)) ∷ []) c) ∷ rest

abbrev pub central_input : Situation → Origins
central_input c = if c.q == 0 then finish c else counted (five_cells c.p c.a c) c

abbrev pub central_output : Situation → Origins
central_output c =
    if c.q == 0 then finish c else counted (if nat_lt c.a c.size then (Central c.a, joined c.p c) ∷ [] else []) c

-- An input ends on an inactive channel. If P is 0000, the address in cell 0000 becomes 0 first.
abbrev pub cut_off : Situation → Origins
cut_off c =
    (RegP c.pp, if c.p == 0 then set_to 1 c else from by.After1 ((λ c. whole (Cell c.pp 0)) ∷ []) c)
    ∷ (Phase c.pp, set_to 0 c) ∷ (Cell c.pp c.p, set_to 0 c) ∷ []

-- A move of a channel's word, beside what it writes there.
abbrev pub stepped : Origins → Situation → Origins
stepped rest c = (RegP c.pp, next1 c) ∷ (RegA c.pp, from by.CountDown (a ∷ []) c) ∷ rest

abbrev pub channel_input : Situation → Origins
channel_input c =
    if c.a == 0 then finish c else
    (if is_clock c.d then stepped ((Cell c.pp c.p, from by.Moved (clock ∷ []) c) ∷ []) c else
    (if not (is_active c) then cut_off c else
    (if is_in Full c
    then stepped ((Cell c.pp c.p, from by.Moved (register ∷ []) c) ∷ (ChannelMode c.d, set_to (state_number Empty) c) ∷ []) c
    else [])))

abbrev pub channel_output : Situation → Origins
channel_output c =
    if c.a == 0 || not (is_active c) then finish c else
    (if is_in Empty c
    then stepped ((ChannelMode c.d, set_to (state_number Full) c)
    ∷ (ChannelWord c.d, from by.Moved ((λ c. whole (Cell c.pp c.p)) ∷ []) c) ∷ []) c
    else [])

abbrev pub by_a_and_q : Deciding
by_a_and_q = record { a = true; q = true; state = false }

abbrev pub by_a_and_state : Deciding
by_a_and_state = record { a = true; q = false; state = true }

-- The row of a step of the block transfer with this code. No other code has one.
abbrev pub block_row : ℕ → Row
block_row code =
    if code == 0o61 then row by_a_and_q central_input else
    (if code == 0o63 then row by_a_and_q central_output else
    (if code == 0o71 then row by_a_and_state channel_input else
    (if code == 0o73 then row by_a_and_state channel_output else row nothing (λ c. []))))
