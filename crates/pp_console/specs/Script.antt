-- The effect of a script of console lines on the value of a session, and the text of its answers.
use Rattle.std.specs.Prelude.{ℕ, ◌+◌, Option, Some, None, Result, Ok, Err, if◌then◌else◌, List, [], ◌++◌, fold}
use Rattle.pp_lines.specs.Lines.{lines}
use Rattle.pp_command.specs.CommandLine.{command}
use Rattle.pp_command.specs.declared.fault.LineFault.{LineFault}
use Rattle.pp_command.specs.declared.request.Request.{Request}
use Rattle.pp_console.specs.Commands.{Value, Answer, answered, rejected, answer}
use Rattle.pp_console.specs.Refusals.{fault_text}

-- The answer to the request of a line. An ignored line has no answer, and a line that is no command is rejected.
abbrev pub answer_parsed : Value → Result (Option Request) LineFault → Answer
answer_parsed v (Ok None) = answered v []
answer_parsed v (Ok (Some request)) = answer request v
answer_parsed v (Err fault) = rejected v (fault_text fault)

-- The answer to a line.
unfoldable pub answer_line : Value → List ℕ → Answer
answer_line v line = answer_parsed v (command line)

-- The outcome of lines: the text of all answers, the session, and how many lines were rejected.
pub record Outcome : Type 0 where
  pub text : List ℕ
  pub value : Value
  pub refused : ℕ

-- The outcome after one more line.
abbrev pub follow : Outcome → List ℕ → Outcome
follow before line =
    let next = answer_line before.value line in
    record { text = before.text ++ next.text; value = next.value; refused = before.refused + (if next.refused then 1 else 0) }

-- The outcome of these lines, one after the other, from this session on.
unfoldable pub outcome : Value → List (List ℕ) → Outcome
outcome start lines = fold follow (record { text = []; value = start; refused = 0 }) lines

-- The outcome of a script: that of its lines.
abbrev pub script : Value → List ℕ → Outcome
script start bytes = outcome start (lines bytes)
