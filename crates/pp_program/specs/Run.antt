-- What a run of the program is.
use Rattle.std.specs.Prelude.{◌≡◌, ◌⊎◌, ℕ, List, [], All, IfOk, IfSome, Result, Ok, Err}
use Rattle.pp_arguments.specs.CommandLine.{Text}
use Rattle.pp_host.specs.Known.{Agrees, Found, IsContent, IsInput, Known}
use Rattle.pp_host.specs.Options.{Asked, Means, path_of}
use Rattle.pp_program.specs.{Course.Course, Course.ends, Cuts.IsCut, Order.IsInOrder, Outside.Outside, Outside.dialogue_of}
use Rattle.pp_program.specs.Program.{Given, exit_of, program}
use Rattle.pp_program.specs.Traces.{AreRead, AreReadEnough, Ended, IsOutput, IsReported, IsTyped}
use Rattle.pp_trouble.specs.{declared.trouble.FileKind.FileKind, declared.trouble.Trouble.Trouble}
use Rattle.pp_trouble.specs.declared.trouble.Trouble.TheVariants.{NoMemory}

-- ---- the course

-- Each file that the options name is the known one, if one is known. This holds also of a file that was not asked for.
abbrev pub AreKnown : (Text → Known Found) → Given → Result Asked Trouble → Type 0
AreKnown files given meaning =
    IfOk meaning (λ asked. (kind : FileKind) → IfSome (path_of asked kind) (λ path. Agrees (files path) (given.files kind)))

-- The course is the whole one that `program` prescribes for what the words mean.
pub record IsWhole (files : Text → Known Found) (given : Given) (readings : FileKind → Found) (ended : Ended)
    (course : Course) : Type 0 where
  pub meaning : Result Asked Trouble
  pub means : Means given.words meaning
  pub named : AreKnown files given meaning
  pub whole : course ≡ program given meaning
  -- What it opened, and standard input if it performs it, was read to its end, unless a fault or a limit came first.
  pub read : AreReadEnough course readings ended

-- The run was cut short, while its words were read or after that.
pub data IsCutShort (files : Text → Known Found) (given : Given) (readings : FileKind → Found) (typed : List ℕ)
    (ended : Ended) (course : Course) : Type 0 where
  -- Memory ran out while the words were read, before anything was opened.
  InWords : course ≡ ends [] (Err NoMemory) → IsCutShort files given readings typed ended course
  -- The words ask for these options, and the run was cut short after that.
  AfterWords : (asked : Asked) → Means given.words (Ok asked) → AreKnown files given (Ok asked) →
      IsCut asked given readings typed ended course → IsCutShort files given readings typed ended course

-- ---- the whole run

-- The program was given what is known beforehand. If the bytes of a file or of standard input are not known, it was given those
-- that it read.
pub record IsGiven (before : Outside) (given : Given) (readings : FileKind → Found) (typed : List ℕ)
    (course : Course) : Type 0 where
  pub words : Agrees before.words given.words
  -- It was given the content of each file that the course opens,
  pub files : All (λ file. IsContent (before.files.known file.path) (readings file.kind) (given.files file.kind)) course.opened
  -- and all bytes of standard input.
  pub input : IsInput before.input.left typed given.input

-- A run leads from what is outside before it to what is outside after it, and ends with an exit status.
pub record IsRun (before after : Outside) (status : ℕ) : Type 0 where
  -- There is what the program was given,
  pub given : Given
  -- what it read of each kind of file that it opened,
  pub readings : FileKind → Found
  -- the bytes that it read of standard input,
  pub typed : List ℕ
  -- whether it read each, and standard input, to its end,
  pub ended : Ended
  -- and the course that it took.
  pub course : Course
  -- What it was given is what is known beforehand, or, on the real system, whatever it read.
  pub matches : IsGiven before given readings typed course
  -- The course is the one that the program has for what the words mean, unless the run was cut short.
  pub follows : IsWhole before.files.known given readings ended course
      ⊎ IsCutShort before.files.known given readings typed ended course
  -- It asked for the files of the course, in this order, and read these bytes of each.
  pub files : AreRead before.files after.files course readings ended.files
  -- It read these bytes of standard input, and none if the course does not perform it.
  pub input : IsTyped before.input after.input course typed ended.input
  -- Standard output has the answers of the course, or the usage,
  pub output : IsOutput course.ended course.answers before.output after.output
  -- Each read of standard input was one call, before which each line that had ended was answered, and nothing else was written.
  pub order : IsInOrder given typed (dialogue_of before) before.reads after.reads
  -- Standard error has the line of what ended it early.
  pub errors : IsReported course.ended before.errors after.errors
  -- The exit status is that of the course.
  pub exit : status ≡ exit_of course.ended
