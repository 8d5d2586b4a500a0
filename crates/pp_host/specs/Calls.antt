-- What the calls of this crate do. Only inner contracts and proofs use this file.
use Rattle.std.specs.Prelude.{◌≡◌, Bool, true, List, [], ◌++◌, Option, Some, None, IfSome, ⊤}
use Rattle.pp_arguments.specs.CommandLine.{Text}
pub use Rattle.pp_arguments.specs.Options.{asked_of}
use Rattle.pp_host.specs.Events.{Event, events_of}
use Rattle.pp_host.specs.Known.{Agrees, Found, IsContent, Known, Words}
use Rattle.pp_trouble.specs.declared.trouble.FileKind.{FileKind}

-- the words of the command line were read, or memory ran out: what they are, and what follows from them
pub record ReadsWords (words_known : Known Words) (Follows : Words → Type 0) : Type 0 where
  pub words : Words
  pub known : Agrees words_known words
  pub follows : Follows words

-- what the log has of the named file, given what was read of it, and whether to its end
abbrev pub log_of : FileKind → Option Text → Found → Bool → List Event
log_of kind None read ended = []
log_of kind (Some path) read ended = events_of (record { kind = kind; path = path }) read ended

-- the named file was read to its end, if there is one
abbrev pub IsAllRead : Option Text → Bool → Type 0
IsAllRead path ended = IfSome path (λ _. ended ≡ true)

-- the named file, of which this was read, has this content
abbrev pub IsNamed : (Text → Known Found) → Option Text → Found → Found → Type 0
IsNamed files None read content = ⊤
IsNamed files (Some path) read content = IsContent (files path) read content

-- a file that an option may name was loaded, or not: what was read of it, whether to its end, its content, and what follows
pub record Loads (files : Text → Known Found) (before after : List Event) (kind : FileKind) (path : Option Text)
    (Follows : Found → Bool → Found → Type 0) : Type 0 where
  pub read : Found
  pub ended : Bool
  pub content : Found
  pub logged : after ≡ before ++ log_of kind path read ended
  pub known : IsNamed files path read content
  pub follows : Follows read ended content
