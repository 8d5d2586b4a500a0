-- The exit status of a run that was cut short.
use Rattle.std.proofs.Common.{◌≡◌, ℕ, ◌≤◌, Bool, List, Option, arith, ◌⊎◌}
use Rattle.pp_arguments.specs.CommandLine.{Text}
use Rattle.pp_files.specs.Files.{Rule, card_rule}
use Rattle.pp_host.specs.{Known.Found, Known.Known, Loading.IsLost, Options.Asked}
use Rattle.pp_program.specs.{Course.Course, Cuts.IsCut, Outside.Outside, Program.Given, Program.exit_of, Run.IsCutShort, Run.IsRun}
use Rattle.pp_program.specs.{Run.IsWhole, Traces.AreEnded, Traces.Ended}
use Rattle.pp_program.proofs.ReadWhole.{all-ended}
use Rattle.pp_trouble.specs.{Trouble.status_of, declared.trouble.FileKind.FileKind, declared.trouble.Trouble.Trouble}
use Rattle.pp_trouble.specs.declared.trouble.FileKind.TheVariants.{Deck}

lost : (rule : Rule) (path : Option Text) (read : Found) (ended : Bool) (content : Found) (trouble : Trouble) →
    IsLost rule path read ended content trouble → (status_of trouble ≡ 2) ⊎ (status_of trouble ≡ 3)
lost rule path read ended content trouble p = grind arith

cut : (asked : Asked) (given : Given) (readings : FileKind → Found) (typed : List ℕ) (ended : Ended) (course : Course) →
    IsCut asked given readings typed ended course →
    (exit_of course.ended ≡ 2) ⊎ (exit_of course.ended ≡ 3)
cut asked given readings typed ended course is_cut =
    grind (arith, lost card_rule asked.deck (readings Deck) (ended.files Deck) (given.files Deck))

cut_short : (files : Text → Known Found) (given : Given) (readings : FileKind → Found) (typed : List ℕ) (ended : Ended)
    (course : Course) → IsCutShort files given readings typed ended course →
    (exit_of course.ended ≡ 2) ⊎ (exit_of course.ended ≡ 3)
cut_short files given readings typed ended course (IsCutShort.AfterWords asked means named is_cut) =
    cut asked given readings typed ended course is_cut
cut_short files given readings typed ended course at = grind arith

-- ---- runs

pub whole_run : (before after : Outside) (status : ℕ) (run : IsRun before after status) → status ≤ 1 →
    IsWhole before.files.known run.given run.readings run.ended run.course
whole_run before after status run small = grind (arith, cut_short)

pub ended_run : (before after : Outside) (status : ℕ) (run : IsRun before after status) → status ≤ 1 → AreEnded run.course run.ended
ended_run before after status run small =
    all-ended run.course run.readings run.ended (whole_run before after status run small).read (rw run.exit at small)

pub cut_run : (before after : Outside) (status : ℕ) (run : IsRun before after status) →
    IsCutShort before.files.known run.given run.readings run.typed run.ended run.course → (status ≡ 2) ⊎ (status ≡ 3)
cut_run before after status run at =
    rw run.exit (cut_short before.files.known run.given run.readings run.typed run.ended run.course at)
