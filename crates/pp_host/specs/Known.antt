-- What may be known before a run, what is found, and how the two agree.
use Rattle.std.specs.Prelude.{◌≡◌, ℕ, List, ◌++◌, Option, Some, None, IfSome}
use Rattle.pp_arguments.specs.CommandLine.{Text}

-- A value that may be known beforehand: `Some` of the value, or `None`.
abbrev pub Known : Type 0 → Type 0
Known A = Option A

-- What a path names: no file that can be opened, or a file with these bytes.
pub data Found : Type 0 where
  Missing : Found
  Content : List ℕ → Found

-- The words of a command line: one of them is not text, or all are.
pub data Words : Type 0 where
  NotText : Words
  Texts : List Text → Words

-- A value agrees with the known one, if one is known.
abbrev pub Agrees : {A : Type 0} → Known A → A → Type 0
Agrees known value = IfSome known (λ same. same ≡ value)

-- All bytes of a source are the known ones, and those that were read are a prefix of them. If none are known, all are those that
-- were read.
abbrev pub IsInput : Known (List ℕ) → List ℕ → List ℕ → Type 0
IsInput None read bytes = bytes ≡ read
IsInput (Some known) read bytes = (bytes ≡ known) × ((rest : List ℕ) × (bytes ≡ read ++ rest))

-- What a path names is the known file, and the bytes that were read are a prefix of it. If none is known, it is what was read.
abbrev pub IsContent : Known Found → Found → Found → Type 0
IsContent None read content = content ≡ read
IsContent (Some Missing) Missing content = content ≡ Missing
IsContent (Some (Content known)) (Content read) (Content bytes) = IsInput (Some known) read bytes
IsContent (Some known) read content = ⊥
