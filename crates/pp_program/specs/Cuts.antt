-- Where a run can be cut short: by memory that runs out, by a failed read or by a failed write.
use Rattle.std.specs.Prelude.{◌≡◌, ℕ, List, [], ◌∷◌, ◌++◌, Option, Ok, Err}
use Rattle.pp_console.specs.{Commands.Value, Script.outcome}
use Rattle.pp_console.specs.declared.progress.TheConstants.{LINE_LIMIT, BYTE_LIMIT}
use Rattle.pp_files.specs.{Files.card_rule, Files.panel_rule, Rows.Row}
use Rattle.pp_lines.specs.{Lines.finished_within, Prefixes.IsProperPrefix}
use Rattle.pp_trouble.specs.{declared.trouble.FileKind.FileKind, declared.trouble.Trouble.Trouble}
use Rattle.pp_trouble.specs.declared.trouble.FileKind.TheVariants.{Deck, Panel, Script}
use Rattle.pp_trouble.specs.declared.trouble.Trouble.TheVariants.{NoMemory, ReadFailed, WriteFailed}
use Rattle.pp_host.specs.{Known.Found, Loading.IsLost, Loading.deck_at, Loading.panel_at, Options.Asked}
use Rattle.pp_program.specs.{Course.Course, Course.ends, Course.opening, Course.performing, Traces.Ended}
use Rattle.pp_program.specs.Program.{Given, performed_lines, script_at, served, session_with}

-- A course that opens the deck, then the panel, and then goes on so.
abbrev pub loading : Asked → Course → Course
loading asked course = opening Deck asked.deck (opening Panel asked.panel course)

-- The deck and the panel were loaded, and this is a new session of the machine.
pub record IsStart (asked : Asked) (given : Given) (start : Value) : Type 0 where
  pub cards : List Row
  pub panel : Option Row
  pub deck_loaded : deck_at asked.deck (given.files Deck) ≡ Ok cards
  pub panel_loaded : panel_at asked.panel (given.files Panel) ≡ Ok panel
  pub made : session_with asked cards panel ≡ Ok start

-- A script of these bytes was cut short, after some of them were read.
pub data IsCutServing (start : Value) (bytes read : List ℕ) (course : Course) : Type 0 where
  -- A read failed. Every line that was finished by then was answered, within the limits of a script.
  ByRead : course ≡ ends (outcome start (finished_within LINE_LIMIT BYTE_LIMIT read)).text (Err ReadFailed) →
      IsCutServing start bytes read course
  -- A write failed. Of the lines that were read, these were answered, and of the answer to the next one a proper prefix was
  -- written. So a proper prefix of all answers was written.
  ByWrite : (done later : List (List ℕ)) (line front : List ℕ) → performed_lines read ≡ done ++ line ∷ later →
      IsProperPrefix ((outcome start done).text ++ front) (outcome start (done ++ line ∷ [])).text →
      IsProperPrefix ((outcome start done).text ++ front) (served start bytes).answers →
      course ≡ ends ((outcome start done).text ++ front) (Err WriteFailed) → IsCutServing start bytes read course

-- A run with these options was cut short. Memory is asked for by the deck and by the machine, and by nothing after.
pub data IsCut (asked : Asked) (given : Given) (readings : FileKind → Found) (typed : List ℕ) (ended : Ended)
    (course : Course) : Type 0 where
  -- Loading the deck failed part-way: memory ran out, or a read failed.
  InDeck : (trouble : Trouble) → IsLost card_rule asked.deck (readings Deck) (ended.files Deck) (given.files Deck) trouble →
      course ≡ opening Deck asked.deck (ends [] (Err trouble)) → IsCut asked given readings typed ended course
  -- The deck was loaded, and a read of the panel failed.
  InPanel : (cards : List Row) → deck_at asked.deck (given.files Deck) ≡ Ok cards →
      IsLost panel_rule asked.panel (readings Panel) (ended.files Panel) (given.files Panel) ReadFailed →
      course ≡ loading asked (ends [] (Err ReadFailed)) → IsCut asked given readings typed ended course
  -- Deck and panel were loaded, and memory ran out for the machine or its session.
  AtMachine : (start : Value) → IsStart asked given start → course ≡ loading asked (ends [] (Err NoMemory)) →
      IsCut asked given readings typed ended course
  -- The script has these bytes, of which these were read. It was cut short by a failed read or write.
  InScript : (start : Value) (bytes read : List ℕ) (performed : Course) → IsStart asked given start →
      script_at asked.script (given.files Script) given.input ≡ Ok bytes →
      script_at asked.script (readings Script) typed ≡ Ok read →
      IsCutServing start bytes read performed → course ≡ loading asked (performing asked.script performed) →
      IsCut asked given readings typed ended course
