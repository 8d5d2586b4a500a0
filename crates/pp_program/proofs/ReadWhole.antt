-- What a run read of its files and of standard input.
use Rattle.std.proofs.Common.{◌≡◌, ◌≤◌, ◌⊎◌, ℕ, arith, inl, inr, refl, true, Bool, ◌++◌, Err, Ok, OnOk, Option, None, Some, Result}
use Rattle.std.proofs.Common.{List, [], IfSome, ap}
use Rattle.std.proofs.lemmas.List.Elements.{All-cons, All-nil, All-weaker}
use Rattle.std.specs.Result.{result_map_both}
use Rattle.pp_arguments.specs.CommandLine.{Text}
use Rattle.pp_console.specs.Commands.{Value}
use Rattle.pp_files.specs.{Files.deck_of_file, Files.panel_of_file, declared.fault.LoadFault.LoadFault}
use Rattle.pp_host.specs.{Calls.IsAllRead, Known.Content, Known.Found, Known.Missing, Events.NamedFile}
use Rattle.pp_host.specs.Loading.{IsFoundSettled, deck_at, panel_at}
use Rattle.pp_program.specs.{Calls.IsScriptRead, Program.exit_of, Program.script_at, Program.served}
use Rattle.pp_program.specs.Course.{Course, after, ends, opening, performing}
use Rattle.pp_program.specs.Traces.{AreEnded, AreReadEnough, Ended, IsTroubleOf}
use Rattle.pp_trouble.specs.{Trouble.of_load, Trouble.status_of, declared.trouble.FileKind.FileKind}
use Rattle.pp_trouble.specs.{declared.trouble.Trouble.Trouble, declared.trouble.Trouble.TheVariants.LineLimit}
use Rattle.pp_trouble.specs.declared.trouble.FileKind.TheVariants.{Deck, Panel, Script}

-- ---- the troubles of a file

-- what was read of a file settles what holds of its content
pub settled : (ended : Bool) (read content : Found) (Holds : Found → Type 0) → IsFoundSettled ended read content Holds →
    Holds content
settled ended Missing content Holds (same, p) = rw same p
settled ended (Content read) content Holds p = p.0

-- the file of this kind, of which this was read, was read to its end, or this trouble of its own came first
abbrev IsReadUpTo : Ended → FileKind → Text → Found → Trouble → Type 0
IsReadUpTo ended kind path read trouble = (ended.files kind ≡ true) ⊎ IsTroubleOf kind path read trouble

pub deck-stops : (path : Text) (read content : Found) (ended : Ended) (trouble : Trouble) →
    IsFoundSettled (ended.files Deck) read content (λ found. deck_at (Some path) found ≡ Err trouble) →
    IsReadUpTo ended Deck path read trouble
deck-stops path read content ended trouble p = grind (arith, p)

pub panel-stops : (path : Text) (read content : Found) (ended : Ended) (trouble : Trouble) →
    IsFoundSettled (ended.files Panel) read content (λ found. panel_at (Some path) found ≡ Err trouble) →
    IsReadUpTo ended Panel path read trouble
panel-stops path read content ended trouble p = grind (arith, p)

-- ---- the troubles of a script

-- what ended early did so by a limit
abbrev IsLimited : Result ℕ Trouble → Type 0
IsLimited (Ok status) = Unit {0}
IsLimited (Err trouble) = trouble ≡ LineLimit

served-limited : (start : Value) (bytes : List ℕ) → IsLimited (served start bytes).ended
unfolding served
served-limited start bytes = grind arith

-- what ended early did so by a trouble of the script
abbrev StopsAt : Text → Found → Result ℕ Trouble → Type 0
StopsAt path read (Ok status) = Unit {0}
StopsAt path read (Err trouble) = IsTroubleOf Script path read trouble

script-stops : (path : Text) (read content : Found) (input : List ℕ) (start : Value) →
    StopsAt path read (after (script_at (Some path) content input) (served start)).ended
script-stops path read content input start = grind (arith, served-limited)

-- ---- files

-- the file of this kind and path, of which this was read, was read to its end, or a trouble of its own came first
abbrev IsReadEnough : Ended → Result ℕ Trouble → FileKind → Text → Found → Type 0
IsReadEnough ended result kind path read =
    (ended.files kind ≡ true) ⊎ ((trouble : Trouble) × (result ≡ Err trouble) × IsTroubleOf kind path read trouble)

module _ (readings : FileKind → Found) (ended : Ended) where
  -- likewise, for a file that a course opened
  abbrev IsFileRead : Result ℕ Trouble → NamedFile → Type 0
  IsFileRead result file = IsReadEnough ended result file.kind file.path (readings file.kind)

  pub nothing-opened : (answers : List ℕ) (result : Result ℕ Trouble) → AreReadEnough (ends answers result) readings ended
  nothing-opened answers result = record { files = All-nil (IsFileRead result); input = λ none. grind arith }

  opened : (kind : FileKind) (path : Option Text) (course : Course) →
      IfSome path (λ path. IsReadEnough ended course.ended kind path (readings kind)) →
      AreReadEnough course readings ended → AreReadEnough (opening kind path course) readings ended
  opened kind None course p q = record { files = q.files; input = q.input }
  opened kind (Some path) course p q = record {
    files = All-cons (IsFileRead course.ended) (record { kind = kind; path = path }) course.opened p q.files;
    input = q.input;
  }

  -- one more file, which was read to its end
  pub read-opened : (kind : FileKind) (path : Option Text) (course : Course) → IsAllRead path (ended.files kind) →
      AreReadEnough course readings ended → AreReadEnough (opening kind path course) readings ended
  read-opened kind path course p q = opened kind path course (grind arith) q

  -- one more file, which ended the course
  pub stopped-opened : (kind : FileKind) (path : Text) (trouble : Trouble) → IsReadUpTo ended kind path (readings kind) trouble →
      AreReadEnough (opening kind (Some path) (ends [] (Err trouble))) readings ended
  stopped-opened kind path trouble (inl end) = opened kind (Some path) _ (inl end) (nothing-opened [] (Err trouble))
  stopped-opened kind path trouble (inr stops) =
      opened kind (Some path) _ (inr (trouble, refl, stops)) (nothing-opened [] (Err trouble))

  -- ---- the script

  input-on : (result : Result ℕ Trouble) → OnOk result (IsScriptRead None (ended.files Script) ended.input) →
      IsLimited result → (ended.input ≡ true) ⊎ (result ≡ Err LineLimit)
  input-on result all p = grind arith

  file-on : (result : Result ℕ Trouble) (path : Text) →
      OnOk result (IsScriptRead (Some path) (ended.files Script) ended.input) → StopsAt path (readings Script) result →
      IsReadEnough ended result Script path (readings Script)
  file-on result path all p = grind arith

  -- the script was performed as far as its limits
  pub script-read : (path : Option Text) (content : Found) (input : List ℕ) (start : Value) (answers : List ℕ)
      (result : Result ℕ Trouble) → ends answers result ≡ after (script_at path content input) (served start) →
      OnOk result (IsScriptRead path (ended.files Script) ended.input) →
      AreReadEnough (performing path (ends answers result)) readings ended
  script-read None content input start answers result e all = record {
    files = All-nil (IsFileRead result);
    input = λ none. input-on result all (rw (← ap (λ course. course.ended) e) at (served-limited start input));
  }
  script-read (Some path) content input start answers result e all = record {
    files = All-cons (IsFileRead result) (record { kind = Script; path = path }) [] (file-on result path all
        (rw (← ap (λ course. course.ended) e) at (script-stops path (readings Script) content input start)))
        (All-nil (IsFileRead result));
    input = λ none. grind arith;
  }

-- ---- the end of a run

file-status : {A B : Type 0} (kind : FileKind) (make : A → B) (file : Result A LoadFault) (trouble : Trouble) →
    result_map_both make (of_load kind) file ≡ Err trouble → 2 ≤ status_of trouble
file-status kind make file trouble e = grind arith

trouble-status : (kind : FileKind) (path : Text) (read : Found) (trouble : Trouble) → IsTroubleOf kind path read trouble →
    2 ≤ status_of trouble
trouble-status Deck path (Content read) trouble p = file-status Deck (λ cards. cards) (deck_of_file (read ++ [])) trouble (p [])
trouble-status Panel path (Content read) trouble p = file-status Panel Some (panel_of_file (read ++ [])) trouble (p [])
trouble-status kind path read trouble p = grind arith

-- with status 0 or 1 all was read to its end
pub all-ended : (course : Course) (readings : FileKind → Found) (ended : Ended) → AreReadEnough course readings ended →
    exit_of course.ended ≤ 1 → AreEnded course ended
all-ended course readings ended read small = record {
  files = All-weaker (IsFileRead readings ended course.ended) (λ file. ended.files file.kind ≡ true)
      (λ file p. grind (arith, small, trouble-status)) course.opened read.files;
  input = grind arith;
}
