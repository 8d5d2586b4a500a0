-- What the lines that load a program do to the machine of a session.
use Rattle.std.proofs.Common.{◌≡◌, ◌≢◌, ◌∙◌, ℕ, zero, suc, ◌+◌, ◌%◌, ◌<◌, ◌≤◌, nat_lt, nat_le, true, false, List, [], ◌∷◌, ◌++◌}
use Rattle.std.proofs.Common.{Some, None, Ok, codes, length, refl, sym, ap, arith, append_assoc, append-nil, get_or, set, take}
use Rattle.std.proofs.Common.{drop, ◌-◌, subst, take_all, length-drop, Option}
use Rattle.std.proofs.lemmas.{Bool.Decides.nat_tests, List.set_comm}
use Rattle.std.proofs.{lemmas.List.length-take-le, Math.Seq.take-add}
use Rattle.pp_notation.specs.Cells.{IsStart}
use Rattle.pp_notation.specs.declared.program.Cell.{Cell as ProgramCell}
use Rattle.pp_history.specs.SessionValue.{after_act}
use Rattle.pp_lines.specs.Lines.{lines, finished, unfinished}
use Rattle.pp_lines.proofs.{LineCuts.finished-feed, LineCuts.unfinished-feed, LineCuts.lines_split}
use Rattle.pp_lines.proofs.{OpenTexts.finished-text, OpenTexts.unfinished-text}
use Rattle.pp_machine.specs.Prelude.{Machine, ProcessorNumbers, Writes, no_processor, over, over-append, put}
use Rattle.pp_machine.specs.declared.place.Place.{Place, TheVariants.Cell}
use Rattle.pp_actions.specs.{Admitting.first_fault, WriteLists.cell_writes}
use Rattle.pp_actions.specs.declared.action.Action.{Action, TheVariants.SetCells, TheVariants.SetP}
use Rattle.pp_command.specs.{CommandLine.command, declared.request.Request.TheVariants.Act}
use Rattle.pp_console.specs.Commands.{Answer, Value, answered, present}
use Rattle.pp_console.specs.Script.{Outcome, answer_line, follow, outcome, script}
use Rattle.pp_console.proofs.Following.{outcome-line}
use Rattle.pp_notation.specs.Rows.{IsRow}
use Rattle.pp_loading.specs.Inner.Rows.{LoadsWhole, cells_line, start_line}
use Rattle.pp_loading.specs.LoadLines.{cell_list, start_list}
use Rattle.pp_loading.proofs.LineCommands.{cells_line-unbroken, command-cells, command-start}
use Rattle.pp_loading.proofs.LineCommands.{row-in_range, start_line-unbroken, values}

-- ---- one more line of a text

-- the lines of a text that ends with a line feed, and one more
lines-more : (text line : List ℕ) → unfinished text ≡ [] → finished line ≡ [] →
    lines (text ++ (line ++ 10 ∷ [])) ≡ lines text ++ line ∷ []
lines-more text line whole unbroken =
    let joined : text ++ (line ++ 10 ∷ []) ≡ (text ++ line) ++ 10 ∷ [] = sym (append_assoc text line (10 ∷ [])) in
    let before : lines text ≡ finished text = lines_split text ∙ rw whole (append-nil (finished text)) in
    let begun : unfinished (text ++ line) ≡ line = unfinished-text text line unbroken ∙ rw whole refl in
    rw joined (lines_split ((text ++ line) ++ 10 ∷ [])
    ∙ rw (
      unfinished-feed (text ++ line),
      finished-feed (text ++ line),
      finished-text text line unbroken,
      begun,
      before,
      append-nil (finished text ++ line ∷ []),
    ) refl)

whole-more : (text line : List ℕ) → unfinished (text ++ (line ++ 10 ∷ [])) ≡ []
whole-more text line = ap unfinished (sym (append_assoc text line (10 ∷ []))) ∙ unfinished-feed (text ++ line)

script-more : (v : Value) (text line : List ℕ) → unfinished text ≡ [] → finished line ≡ [] →
    script v (text ++ (line ++ 10 ∷ [])) ≡ follow (script v text) line
script-more v text line whole unbroken =
    ap (outcome v) (lines-more text line whole unbroken) ∙ outcome-line v (lines text) line line (λ w. refl)

-- ---- a text that loads something

pub loads-none : LoadsWhole [] []
unfolding outcome lines
loads-none = record { whole = refl; loads = record { accepted = λ v. refl; machine = λ v. refl } }

-- the line is accepted, and changes the machine by these writes
record Sets (line : List ℕ) (list : Writes Place) : Type 0 where
  accepted : (v : Value) → (answer_line v line).refused ≡ false
  machine : (v : Value) → present (answer_line v line).value ≡ over (present v) list

loads-more : (text line : List ℕ) (list more : Writes Place) → LoadsWhole text list → finished line ≡ [] →
    Sets line more → LoadsWhole (text ++ (line ++ 10 ∷ [])) (more ++ list)
loads-more text line list more before unbroken sets = record {
  whole = whole-more text line;
  loads = record {
    accepted = λ v. rw (script-more v text line before.whole unbroken, sets.accepted (script v text).value, before.loads.accepted v)
        refl;
    machine = λ v. ap (λ (o : Outcome). present o.value) (script-more v text line before.whole unbroken)
        ∙ sets.machine (script v text).value
        ∙ ap (λ (s : Machine). over s more) (before.loads.machine v)
        ∙ sym (over-append put (present v) more list);
  };
}

-- ---- an action

answer_line-act : (v : Value) (line : List ℕ) (action : Action) → command line ≡ Ok (Some (Act action)) →
    first_fault (present v) action ≡ None → answer_line v line ≡ answered (after_act v action) (codes "OK\n")
unfolding answer_line
answer_line-act v line action e admitted = rw (e, admitted) refl

-- ---- the order of writes

-- a processor with a number in a cell
abbrev with_cell : List ProcessorNumbers → ℕ → ℕ → ℕ → List ProcessorNumbers
with_cell ps n a v = set ps n (record (get_or ps n no_processor) { cells = set (get_or ps n no_processor).cells a v })

with_cell-commute : (ps : List ProcessorNumbers) (n a b v w : ℕ) → a ≢ b →
    with_cell (with_cell ps n a v) n b w ≡ with_cell (with_cell ps n b w) n a v
with_cell-commute [] n a b v w apart = refl
with_cell-commute (x ∷ ps) zero a b v w apart =
    ap (λ (cells : List ℕ). record x { cells = cells } ∷ ps) (set_comm x.cells a b v w apart)
with_cell-commute (x ∷ ps) (suc n) a b v w apart = ap (λ rest. x ∷ rest) (with_cell-commute ps n a b v w apart)

-- writes to two cells of a processor, in either order
cells-commute : (s : Machine) (n a b v w : ℕ) → a ≢ b →
    put (put s (Cell n a) v) (Cell n b) w ≡ put (put s (Cell n b) w) (Cell n a) v
cells-commute s n a b v w apart =
    ap (λ (ps : List ProcessorNumbers). record s { processors = ps }) (with_cell-commute s.processors n a b v w apart)

-- a write to a cell before the cells of a row, in either order
row-after : (s : Machine) (n a first : ℕ) (row : List ProgramCell) (v : ℕ) → a < first → IsRow first row →
    put (over s (cell_writes n first (values row))) (Cell n a) v ≡ over (put s (Cell n a) v) (cell_writes n first (values row))
row-after s n a first [] v h are = refl
row-after s n a first (cell ∷ row) v h are =
    let own : first % 0o10000 ≡ first = omega (arith, are.1) in
    let apart : first ≢ a = λ e. absurd (omega arith) in
    rw own (cells-commute (over s (cell_writes n (first + 1) (values row))) n first a cell.word v apart
    ∙ ap (λ (t : Machine). put t (Cell n first) cell.word) (row-after s n a (first + 1) row v (omega arith) are.3))

-- the write list of a row, from its last cell on
row-written : (s : Machine) (n first : ℕ) (row : List ProgramCell) → IsRow first row →
    over s (cell_writes n first (values row)) ≡ over s (cell_list n row)
row-written s n first [] are = refl
row-written s n first (cell ∷ row) are =
    let own : first % 0o10000 ≡ first = omega (arith, are.1) in
    rw (own, are.0) (row-after s n first (first + 1) row cell.word (omega arith) are.3
    ∙ row-written (put s (Cell n first) cell.word) n (first + 1) row are.3
    ∙ sym (over-append put s (cell_list n row) ((Cell n first, cell.word) ∷ [])))

pub cell_list-append : (n : ℕ) (a b : List ProgramCell) → cell_list n (a ++ b) ≡ cell_list n b ++ cell_list n a
cell_list-append n [] b = sym (append-nil (cell_list n b))
cell_list-append n (cell ∷ a) b = rw (cell_list-append n a b)
    (append_assoc (cell_list n b) (cell_list n a) ((Cell n cell.address, cell.word) ∷ []))

-- ---- the lines

admits-cells : (s : Machine) (n : ℕ) (cell : ProgramCell) (row : List ProgramCell) → n < 10 → IsRow cell.address (cell ∷ row) →
    first_fault s (SetCells n cell.address (values (cell ∷ row))) ≡ None
unfolding first_fault
admits-cells s n cell row h are =
    let processor : nat_lt n 0o12 ≡ true = grind (arith, nat_tests) in
    let address : nat_lt cell.address 0o10000 ≡ true = grind (arith, nat_tests, are.1) in
    let some : nat_lt 0 (length (values (cell ∷ row))) ≡ true = grind (arith, nat_tests) in
    rw (processor, address, some, row-in_range cell.address (cell ∷ row) are) refl

sets-cells : (n : ℕ) (cell : ProgramCell) (row : List ProgramCell) → n < 10 → IsRow cell.address (cell ∷ row) →
    length row ≤ 7 → Sets (cells_line n (cell ∷ row)) (cell_list n (cell ∷ row))
sets-cells n cell row h are few =
    let action = SetCells n cell.address (values (cell ∷ row)) in
    let e = λ (v : Value). answer_line-act v (cells_line n (cell ∷ row)) action (command-cells n cell row h are few)
    (admits-cells (present v) n cell row h are) in
    record {
      accepted = λ v. ap (λ (a : Answer). a.refused) (e v);
      machine = λ v. ap (λ (a : Answer). present a.value) (e v) ∙ row-written (present v) n cell.address (cell ∷ row) are;
    }

admits-start : (s : Machine) (n address : ℕ) → n < 10 → address < 0o10000 → first_fault s (SetP n address) ≡ None
unfolding first_fault
admits-start s n address h k =
    let processor : nat_lt n 0o12 ≡ true = grind (arith, nat_tests) in
    let within : nat_le address 0o7777 ≡ true = grind (arith, nat_tests) in
    rw (processor, within) refl

sets-start : (n address : ℕ) → n < 10 → address < 0o10000 → Sets (start_line n address) (start_list n (Some address))
sets-start n address h k =
    let e = λ (v : Value). answer_line-act v (start_line n address) (SetP n address) (command-start n address h k)
    (admits-start (present v) n address h k) in
    record {
      accepted = λ v. ap (λ (a : Answer). a.refused) (e v);
      machine = λ v. ap (λ (a : Answer). present a.value) (e v);
    }

-- one more row
pub loads-cells : (text : List ℕ) (n : ℕ) (done row : List ProgramCell) (first : ℕ) → LoadsWhole text (cell_list n done) →
    n < 10 → IsRow first row → 0 < length row → length row ≤ 8 →
    LoadsWhole (text ++ (cells_line n row ++ 10 ∷ [])) (cell_list n (done ++ row))
loads-cells text n done [] first before h are some few = absurd (omega arith)
loads-cells text n done (cell ∷ row) first before h are some few =
    let own : IsRow cell.address (cell ∷ row) = rw (← are.0) at are in
    rw (cell_list-append n done (cell ∷ row))
    (loads-more text (cells_line n (cell ∷ row)) (cell_list n done) (cell_list n (cell ∷ row)) before
    (cells_line-unbroken n cell row h own) (sets-cells n cell row h own (omega arith)))

-- the start of the program
pub loads-start : (text : List ℕ) (n address : ℕ) (list : Writes Place) → LoadsWhole text list → n < 10 → address < 0o10000 →
    LoadsWhole (text ++ (start_line n address ++ 10 ∷ [])) (start_list n (Some address) ++ list)
loads-start text n address list before h k =
    loads-more text (start_line n address) list (start_list n (Some address)) before (start_line-unbroken n address h k)
    (sets-start n address h k)

-- ---- the rest of the cells as a slice

rest-is : (cells : List ProgramCell) (done : ℕ) → take (length cells - done) (drop done cells) ≡ drop done cells
rest-is cells done = take_all (length cells - done) (drop done cells) (omega (arith, length-drop done cells))

pub rest-within : (cells : List ProgramCell) (done count : ℕ) → done ≤ length cells →
    count ≤ length (take (length cells - done) (drop done cells)) → done + count ≤ length cells
rest-within cells done count h within =
    let size : length (take (length cells - done) (drop done cells)) ≡ length cells - done =
    ap length (rest-is cells done) ∙ length-drop done cells in
    omega (arith, size)

-- one more row of the cells
pub loads-row : (old new : List ℕ) (n : ℕ) (cells : List ProgramCell) (done count first : ℕ) →
    LoadsWhole old (cell_list n (take done cells)) → n < 10 → done ≤ length cells →
    IsRow first (take count (take (length cells - done) (drop done cells))) → 0 < count →
    count ≤ length (take (length cells - done) (drop done cells)) → count ≤ 8 →
    new ≡ old ++ (cells_line n (take (done + count - done) (drop done cells)) ++ 10 ∷ []) →
    LoadsWhole new (cell_list n (take (done + count) cells))
loads-row old new n cells done count first before h begun are some within few written =
    let rest = rest-is cells done in
    let own : IsRow first (take count (drop done cells)) = subst (λ r. IsRow first (take count r)) rest are in
    let most : count ≤ length (drop done cells) = subst (λ r. count ≤ length r) rest within in
    let size : length (take count (drop done cells)) ≡ count = length-take-le count (drop done cells) most in
    let same : done + count - done ≡ count = omega arith in
    let text : new ≡ old ++ (cells_line n (take count (drop done cells)) ++ 10 ∷ []) =
    written ∙ ap (λ k. old ++ (cells_line n (take k (drop done cells)) ++ 10 ∷ [])) same in
    let loaded : LoadsWhole (old ++ (cells_line n (take count (drop done cells)) ++ 10 ∷ []))
    (cell_list n (take done cells ++ take count (drop done cells))) =
    loads-cells old n (take done cells) (take count (drop done cells)) first before h own (omega (arith, size))
    (omega (arith, size)) in
    subst (λ t. LoadsWhole t (cell_list n (take (done + count) cells))) (sym text)
    (subst (λ cs. LoadsWhole (old ++ (cells_line n (take count (drop done cells)) ++ 10 ∷ [])) (cell_list n cs))
    (sym (take-add done count cells)) loaded)

pub loads-all : (text : List ℕ) (n : ℕ) (cells : List ProgramCell) (done : ℕ) → length cells ≤ done →
    LoadsWhole text (cell_list n (take done cells)) → LoadsWhole text (cell_list n cells)
loads-all text n cells done all loads = subst (λ cs. LoadsWhole text (cell_list n cs)) (take_all done cells all) loads

-- the line of a program's start
pub loads-begin : (old new : List ℕ) (n address : ℕ) (start : Option ℕ) (list : Writes Place) → start ≡ Some address →
    LoadsWhole old list → n < 10 → IsStart start → new ≡ old ++ (start_line n address ++ 10 ∷ []) →
    LoadsWhole new (start_list n start ++ list)
loads-begin old new n address start list e before h k written =
    let own : nat_lt address 0o10000 ≡ true = subst IsStart e k in
    let small : address < 0o10000 = grind (arith, nat_tests) in
    subst (λ s. LoadsWhole new (start_list n s ++ list)) (sym e)
    (subst (λ t. LoadsWhole t (start_list n (Some address) ++ list)) (sym written) (loads-start old n address list before h small))
