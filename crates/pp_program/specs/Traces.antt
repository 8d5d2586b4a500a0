-- What a run reads and writes.
use Rattle.std.specs.Prelude.{◌≡◌, ℕ, Bool, true, false, All, if◌then◌else◌, List, [], ◌++◌, ◌⊎◌, Some, Result, Ok, Err}
use Rattle.std.specs.{Io.KnownBytes.Consumes, List.flat_map}
use Rattle.pp_arguments.specs.CommandLine.{Text}
use Rattle.pp_host.specs.{Events.events_of, Failures.reads_by, Failures.writes_by, Loading.deck_at, Loading.panel_at}
use Rattle.pp_host.specs.Known.{Content, Found, Missing}
use Rattle.pp_lines.specs.{Device.one_more, Output.Appends, Prefixes.IsProperPrefix}
use Rattle.pp_program.specs.{Course.Course, Outside.Files, Outside.Input, Outside.Output}
use Rattle.pp_trouble.specs.{Message.line_of, declared.trouble.FileKind.FileKind, declared.trouble.Trouble.Trouble}
use Rattle.pp_trouble.specs.declared.trouble.FileKind.TheVariants.{Deck, Panel, Script}
use Rattle.pp_trouble.specs.declared.trouble.Trouble.TheVariants.{CannotOpen, Help, LineLimit}

-- ---- what is read

-- Whether each kind of file, and standard input, was read to its end.
pub record Ended : Type 0 where
  pub files : FileKind → Bool
  pub input : Bool

-- The files of the course were asked for, and these bytes of each were read, to its end or not.
pub record AreRead (before after : Files) (course : Course) (readings : FileKind → Found) (ended : FileKind → Bool) : Type 0 where
  -- The host logged them, in the order of the course, with the bytes that were read.
  pub logged : after.log ≡ before.log ++ flat_map (λ file. events_of file (readings file.kind) (ended file.kind)) course.opened
  -- No read of a file failed, unless a failed read of a file ended the course.
  pub failures : after.failures ≡ (if course.reads_input then before.failures else reads_by course.ended before.failures)

-- These bytes of standard input were read, to its end or not.
pub record IsTyped (before after : Input) (course : Course) (typed : List ℕ) (ended : Bool) : Type 0 where
  pub read : after.read ≡ before.read ++ typed
  pub end : after.ended ≡ ended
  -- If the bytes of the source are known, these are no longer left.
  pub left : Consumes before.left after.left typed
  -- Nothing is read unless the course performs standard input.
  pub unread : course.reads_input ≡ false → typed ≡ []
  -- No read failed, unless a failed read of standard input ended the course.
  pub failures : after.failures ≡ (if course.reads_input then reads_by course.ended before.failures else before.failures)

-- Each file that the course opened was read to its end, and so was standard input if the course performs it.
pub record AreEnded (course : Course) (ended : Ended) : Type 0 where
  pub files : All (λ file. ended.files file.kind ≡ true) course.opened
  pub input : course.reads_input ≡ true → ended.input ≡ true

-- A trouble of the file of this kind and path, of which this was read: it can't be opened; or it is a deck or a panel that has this
-- fault whatever bytes follow; or it is a script that passes a limit.
abbrev pub IsTroubleOf : FileKind → Text → Found → Trouble → Type 0
IsTroubleOf Script path read trouble = (trouble ≡ CannotOpen Script) ⊎ (trouble ≡ LineLimit)
IsTroubleOf kind path Missing trouble = trouble ≡ CannotOpen kind
IsTroubleOf Deck path (Content read) trouble = (later : List ℕ) → deck_at (Some path) (Content (read ++ later)) ≡ Err trouble
IsTroubleOf Panel path (Content read) trouble = (later : List ℕ) → panel_at (Some path) (Content (read ++ later)) ≡ Err trouble

-- Each file that the course opened was read to its end, unless a trouble of this file came first and ended the course. Standard
-- input was read to its end if the course performs it, unless a limit came first.
pub record AreReadEnough (course : Course) (readings : FileKind → Found) (ended : Ended) : Type 0 where
  pub files : All (λ file. (ended.files file.kind ≡ true)
      ⊎ ((trouble : Trouble) × (course.ended ≡ Err trouble)
      × IsTroubleOf file.kind file.path (readings file.kind) trouble)) course.opened
  pub input : course.reads_input ≡ true → (ended.input ≡ true) ⊎ (course.ended ≡ Err LineLimit)

-- ---- what is written

-- This text was written, and so many writes have failed by now.
pub record Writes (before after : Output) (bytes : List ℕ) (failures : ℕ) : Type 0 where
  pub text : Appends before.text after.text bytes
  pub count : after.failures ≡ failures

-- The text was written and no write failed, or a proper prefix of it was written, up to one failed write.
abbrev pub Prints : Output → Output → List ℕ → Type 0
Prints before after bytes =
    Writes before after bytes before.failures
    ⊎ ((front : List ℕ) × Writes before after front (one_more before.failures) × IsProperPrefix front bytes)

-- Standard output has the answers, and after them the usage if the words ask for help. No write failed, unless a failed write ended
-- the course or cut off the usage.
abbrev pub IsOutput : Result ℕ Trouble → List ℕ → Output → Output → Type 0
IsOutput (Err Help) answers before after = Prints before after (answers ++ line_of Help)
IsOutput ended answers before after = Writes before after answers (writes_by ended before.failures)

-- Standard error has the line of what ended the run early, other than the usage, and nothing else.
abbrev pub IsReported : Result ℕ Trouble → Output → Output → Type 0
IsReported (Ok status) before after = Writes before after [] before.failures
IsReported (Err Help) before after = Writes before after [] before.failures
IsReported (Err trouble) before after = Prints before after (line_of trouble)
