-- What happens to the files of a program, as its host logs it.
use Rattle.std.specs.Prelude.{ℕ, Bool, true, false, List, [], ◌∷◌}
use Rattle.pp_arguments.specs.CommandLine.{Text}
use Rattle.pp_host.specs.Known.{Content, Found}
use Rattle.pp_trouble.specs.declared.trouble.FileKind.{FileKind}

-- A file of this kind was opened by this path, or it could not be opened. Or the file that was opened last was closed, after
-- these bytes were read from it, to its end or not.
pub data Event : Type 0 where
  Opened : FileKind → Text → Event
  Missing : FileKind → Text → Event
  Closed : List ℕ → Bool → Event

-- a file was asked for, and it was opened or not
abbrev pub file_event : Bool → FileKind → Text → Event
file_event true kind path = Opened kind path
file_event false kind path = Event.Missing kind path

-- A file that an option names: its kind and path.
pub record NamedFile : Type 0 where
  pub kind : FileKind
  pub path : Text

-- What the log has of a file, given what was read of it, and whether to its end. It could not be opened; or it was opened, and
-- closed after these bytes.
abbrev pub events_of : NamedFile → Found → Bool → List Event
events_of file Found.Missing ended = Event.Missing file.kind file.path ∷ []
events_of file (Content bytes) ended = Opened file.kind file.path ∷ Closed bytes ended ∷ []
