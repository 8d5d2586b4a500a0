-- The result of a script, at its end or at a fault.
use Rattle.std.proofs.Common.{◌≡◌, ◌∙◌, ℕ, List, ◌++◌, refl, arith, inl, length-append, append_assoc, Option}
use Rattle.pp_console.proofs.Prelude.{Written, IoFault, ReadFailed, WriteFailed, LineLimit, lines, IsWithin, LINE_LIMIT, BYTE_LIMIT}
use Rattle.pp_console.proofs.Prelude.{State, Origin, Serves, Stops, HasEnded, Interrupts}
use Rattle.pp_lines.proofs.Limits.{finished_within-kept, finished_within-more, passed}
use Rattle.pp_console.specs.declared.progress.Summary.{Summary}

-- a fault among some bytes is a fault among these bytes and more
pub Interrupts-more : (fault : IoFault) (session : State) (text : Written) (origin : Origin) (bytes more all : List ℕ) →
    all ≡ bytes ++ more → Interrupts fault session text origin bytes → Interrupts fault session text origin all
Interrupts-more ReadFailed session text origin bytes more all whole p = p
Interrupts-more LineLimit session text origin bytes more all whole (kept, rest, is, some, within, full, performed) =
    (kept, rest ++ more, rw (whole, is, append_assoc), simp length-append (omega (arith, some)), within, full, performed)
Interrupts-more WriteFailed session text origin bytes more all whole (done, line, later, is, breaks) =
    let (extra, grown) = finished_within-more LINE_LIMIT BYTE_LIMIT bytes more in
    (done, line, later ++ extra, rw (whole, grown, is, append_assoc), breaks)

-- the whole script, if its lines have ended
pub Serves-ended : {summary : Summary} {session : State} {text : Written} {origin : Origin} {bytes : List ℕ}
    {done : List (List ℕ)} → lines bytes ≡ done → HasEnded summary session text origin done →
    IsWithin LINE_LIMIT BYTE_LIMIT bytes → Serves summary session text origin bytes
Serves-ended whole ended within = record {
  performed = rw whole ended.performed;
  counts_lines = ended.counts_lines ∙ rw whole refl;
  counts_refused = ended.counts_refused ∙ rw whole refl;
  within = within;
}

-- a fault among the bytes that were read
pub Stops-interrupted : (fault : IoFault) (session : State) (text : Written)
    (origin : Origin) (bytes : List ℕ) (left : Option (List ℕ)) →
    Interrupts fault session text origin bytes → Stops fault session text origin bytes left
Stops-interrupted ReadFailed session text origin bytes left p = absurd p
Stops-interrupted LineLimit session text origin bytes left (kept, more, is, some, within, full, performed) = rw is (
  rw (finished_within-kept LINE_LIMIT BYTE_LIMIT kept more within full) performed,
  passed LINE_LIMIT BYTE_LIMIT kept more some full,
)
Stops-interrupted WriteFailed session text origin bytes left (done, line, later, is, breaks) = (done, line, later, inl is, breaks)
