-- A file that an option may name: what is loaded of it, and how it is lost.
use Rattle.std.specs.Prelude.{◌≡◌, ◌⊎◌, ◌++◌, ℕ, Bool, true, List, [], Option, Some, None, Result, Ok, Err}
use Rattle.std.specs.Result.{result_map_both}
use Rattle.pp_arguments.specs.CommandLine.{Text}
use Rattle.pp_files.specs.Fault.{BreaksOff, IsSettled, RunsOut}
use Rattle.pp_files.specs.Files.{Rule, deck_of_file, file_limit, panel_of_file}
use Rattle.pp_files.specs.Rows.{Row}
use Rattle.pp_trouble.specs.Trouble.{of_load}
use Rattle.pp_trouble.specs.declared.trouble.FileKind.TheVariants.{Deck, Panel}
use Rattle.pp_trouble.specs.declared.trouble.Trouble.{Trouble}
use Rattle.pp_trouble.specs.declared.trouble.Trouble.TheVariants.{CannotOpen, NoMemory, ReadFailed}
use Rattle.pp_host.specs.Known.{Content, Found, Missing}

-- The cards of the named deck, or its first fault. Without a name there are none.
abbrev pub deck_at : Option Text → Found → Result (List Row) Trouble
deck_at None content = Ok []
deck_at (Some path) Missing = Err (CannotOpen Deck)
deck_at (Some path) (Content bytes) = result_map_both (λ cards. cards) (of_load Deck) (deck_of_file bytes)

-- The words of the named panel, or its first fault.
abbrev pub panel_at : Option Text → Found → Result (Option Row) Trouble
panel_at None content = Ok None
panel_at (Some path) Missing = Err (CannotOpen Panel)
panel_at (Some path) (Content bytes) = result_map_both Some (of_load Panel) (panel_of_file bytes)

-- What was read of a file settles this: it holds of its content. And it holds whatever bytes follow those that were read, unless
-- the file was read to its end.
abbrev pub IsFoundSettled : Bool → Found → Found → (Found → Type 0) → Type 0
IsFoundSettled ended Missing content Holds = (content ≡ Missing) × Holds Missing
IsFoundSettled ended (Content read) content Holds =
    Holds content × ((ended ≡ true) ⊎ ((later : List ℕ) → Holds (Content (read ++ later))))

-- Loading the named file failed part-way, after some of its bytes were read, to its end or not. Memory ran out at one of its rows,
-- before any fault of the file, and what was read settles that. Or a read failed, and the lines that were read have no fault.
abbrev pub IsLost : Rule → Option Text → Found → Bool → Found → Trouble → Type 0
IsLost rule (Some path) (Content read) ended (Content bytes) trouble =
    ((trouble ≡ NoMemory) × IsSettled ended read bytes (RunsOut rule file_limit))
    ⊎ ((trouble ≡ ReadFailed) × BreaksOff rule file_limit read)
IsLost rule path read ended content trouble = ⊥
