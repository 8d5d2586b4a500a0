-- One more line of a script.
use Rattle.std.proofs.Common.{◌≡◌, ℕ, ◌+◌, List, [], ◌∷◌, ◌++◌, take, refl, ap, arith, append_assoc, ◌∙◌, Bool, true, false, Result}
use Rattle.std.proofs.Common.{Ok, Err, Option, not, ◌<◌, length, length-append, if◌then◌else◌, nat_lt}
use Rattle.std.proofs.lemmas.{List.Sums.fold-append, Bool.Decides.nat_tests}
use Rattle.std.specs.{Int.from_bool, List.list_all}
use Rattle.pp_console.proofs.Prelude.{KEPT, Ghosts, State, Value, Performs, answer_line, outcome, Origin, Breaks, HasEnded}
use Rattle.pp_console.specs.{declared.progress.Summary.Summary, Script.answer_parsed, Script.follow}
use Rattle.pp_lines.proofs.{Writing.Appends-again, LongLines.read-kept}
use Rattle.pp_lines.specs.Words.{words}
use Rattle.pp_command.specs.declared.fault.LineFault.{LineFault, TheVariants.TooLong, TheVariants.NotAscii}
use Rattle.pp_command.specs.{declared.request.Request.Request, CommandLine.command, CommandLine.is_printable, CommandLine.sentence}

-- one more line is one more step, and so is a text that has the same answer
pub outcome-line : (start : Value) (done : List (List ℕ)) (text line : List ℕ) →
    ((v : Value) → answer_line v text ≡ answer_line v line) →
    outcome start (done ++ line ∷ []) ≡ follow (outcome start done) text
unfolding outcome
outcome-line start done text line same = rw (same (outcome start done).value)
    (fold-append follow (record { text = []; value = start; refused = 0 }) done (line ∷ []))

-- the request of a line, after its carriage return was dropped
abbrev command_of_text : List ℕ → Result (Option Request) LineFault
command_of_text text =
    if nat_lt 255 (length text) then Err TooLong else (if list_all is_printable text then sentence (words text) else Err NotAscii)

-- the kept prefix of a line has the same answer as the line
pub answer_line-kept : (value : Value) (line : List ℕ) → answer_line value (take KEPT line) ≡ answer_line value line
unfolding answer_line command
answer_line-kept value line =
    ap (answer_parsed value)
    (read-kept command_of_text (Err TooLong) 255 KEPT line (λ text long. grind (arith, nat_tests)) (omega arith))

-- a `bool` as a number counts a rejected line
pub bool-counts : (refused : Bool) → from_bool refused ≡ (if refused then 1 else 0)
bool-counts refused = grind arith

module _ {W E : Type 0} (sink : Ghosts W) {old new : State} {second third : W} {origin : Origin} {done : List (List ℕ)}
    {summary : Summary} (text line : List ℕ) (ended : HasEnded summary old (sink.text second) origin done)
    (same : (v : Value) → answer_line v text ≡ answer_line v line) where
  -- the line was performed and counted, and its answer was written
  pub line-ended : (performed : Bool) (next : Summary) →
      Performs {E = E} sink old new second third (Ok performed) (λ v. answer_line v text) →
      next.lines ≡ summary.lines + 1 → next.refused ≡ summary.refused + from_bool (not performed) →
      HasEnded next new (sink.text third) origin (done ++ line ∷ [])
  line-ended performed next performs one_more counted =
      let step = outcome-line origin.start done text line same in
      let refused = performs.performed _ ended.performed.leaves in
      record {
        performed = record {
          leaves = rw step (performs.session _ ended.performed.leaves);
          writes = rw step (Appends-again _ _ _ _ _ ended.performed.writes (performs.text _ ended.performed.leaves));
        };
        counts_lines = one_more ∙ rw (length-append done (line ∷ [])) (ap (λ n. n + 1) ended.counts_lines);
        counts_refused = counted ∙ rw (step, bool-counts, ended.counts_refused, refused) refl;
      }

  -- the line was performed, and a proper prefix of its answer was written
  pub line-breaks : {fault : E} → Performs sink old new second third (Err fault) (λ v. answer_line v text) →
      Breaks new (sink.text third) origin done line
  line-breaks performs =
      let step = outcome-line origin.start done text line same in
      let (front, written, proper) = performs.text _ ended.performed.leaves in
      record {
        leaves = rw step (performs.session _ ended.performed.leaves);
        front = front;
        writes = Appends-again _ _ _ _ _ ended.performed.writes written;
        prefix = record { rest = proper.rest; all = rw (step, append_assoc, ← proper.all) refl; some = proper.some };
      }
