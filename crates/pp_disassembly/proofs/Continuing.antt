-- What statements assemble to after one more.
use Rattle.std.proofs.Common.{◌≡◌, ◌∙◌, ℕ, ◌+◌, ◌-◌, ◌<◌, ◌≤◌, true, List, [], ◌∷◌, ◌++◌, Option, Some, None, All, get_or, zero}
use Rattle.std.proofs.Common.{length, take, drop, suc, refl, sym, subst, take_all, length-drop, ap, arith, append-nil}
use Rattle.std.proofs.{lemmas.List.Sums.fold-append, lemmas.Bool.Decides.nat_tests, Math.Seq.take-add, lemmas.List.length-take-le}
use Rattle.std.proofs.{lemmas.List.length-map, lemmas.List.map-append}
use Rattle.pp_notation.specs.{Cells.IsCell, declared.program.Cell.Cell}
use Rattle.pp_notation.proofs.RowCells.{IsRow-one}
use Rattle.pp_disassembly.specs.declared.statement.Name.{Name}
use Rattle.pp_disassembly.specs.declared.statement.Operand.{Operand}
use Rattle.pp_disassembly.specs.declared.statement.Operation.{Operation}
use Rattle.pp_disassembly.specs.declared.statement.Operation.TheVariants.{Base, End, Equal, Origin}
use Rattle.pp_disassembly.specs.declared.statement.Statement.{Statement}
use Rattle.pp_notation.specs.Rows.{IsRow, first_address, words_in}
use Rattle.pp_disassembly.specs.Statements.{Adds, Assembly, Continues, HasAssembled, HasWords, addressed, after, assembled}
use Rattle.pp_disassembly.specs.Statements.{cells_of, follow, is_named, labelled_address, placed, with_words, words_of}

-- a statement
abbrev pub statement : Option Name → Operation → Statement
statement label operation = record { label = label; operation = operation }

assembled-more : (statements : List Statement) (s : Statement) → assembled (statements ++ s ∷ []) ≡ follow (assembled statements) s
unfolding assembled
assembled-more statements s = fold-append follow (Some (record { here = 0; cells = [] })) statements (s ∷ [])

-- a statement that has words
after-words : (before : Assembly) (operation : Operation) (words : List ℕ) → words_of before.here operation ≡ Some words →
    after before operation ≡ with_words before (Some words)
after-words before (Origin address) words h = cc
after-words before operation words h = ap (with_words before) h

follow-words : (before : Assembly) (label : Option Name) (operation : Operation) (words : List ℕ) →
    words_of before.here operation ≡ Some words → is_named label (labelled_address before.here operation) ≡ true →
    follow (Some before) (statement label operation) ≡ with_words before (Some words)
follow-words before label operation words h named = rw named (after-words before operation words h)

placed-row : (address : ℕ) (row : List Cell) → IsRow address row → placed address (words_in row) ≡ addressed row
placed-row address [] are = refl
placed-row address (cell ∷ row) are = rw (are.0, placed-row (address + 1) row are.3) refl

-- one statement with the words of a row
pub continues-one : (old : List Statement) (label : Option Name) (operation : Operation) (row : List Cell) →
    HasWords label operation row → Continues old (old ++ statement label operation ∷ []) row
continues-one old label operation row has = λ before right here.
    assembled-more old (statement label operation) ∙ rw right
    (follow-words before label operation (words_in row) (rw here has.words) (rw here has.named)
    ∙ rw (length-map row (λ (cell : Cell). cell.word), here, placed-row (first_address row) row has.follows) refl)

-- and one after it that has no words
pub continues-equal : (old new : List Statement) (label : Option Name) (row : List Cell) → Continues old new row → length row ≡ 2 →
    is_named label (first_address row + 1) ≡ true → Continues old (new ++ statement label Equal ∷ []) row
continues-equal old new label row continues two named = λ before right here.
    let own : before.here + length row - 1 ≡ first_address row + 1 = omega arith in
    assembled-more new (statement label Equal) ∙ rw (continues before right here, own, named)
    (grind (arith, append-nil))

pub has-words : (label : Option Name) (operation : Operation) (row : List Cell) (address : ℕ) → first_address row ≡ address →
    IsRow (first_address row) row → words_of (first_address row) operation ≡ Some (words_in row) →
    labelled_address (first_address row) operation ≡ first_address row → is_named label address ≡ true →
    HasWords label operation row
has-words label operation row address own follows words place named = record {
  follows = follows;
  words = words;
  named = rw (place, own) named;
}

-- a statement that has the first word of a row
pub adds-one : (old new : List Statement) (label : Option Name) (operation : Operation) (row : List Cell) (d : Cell) →
    All IsCell row → 0 < length row → words_of (get_or row 0 d).address operation ≡ Some ((get_or row 0 d).word ∷ []) →
    labelled_address (get_or row 0 d).address operation ≡ (get_or row 0 d).address →
    is_named label (get_or row 0 d).address ≡ true → ((part : List Cell) → HasWords label operation part → Continues old new part) →
    Adds old new row 1
adds-one old new label operation [] d small some words place named pushed = absurd (omega arith)
adds-one old new label operation (cell ∷ row) d small some words place named pushed =
    let follows = IsRow-one (cell ∷ row) small some in
    record {
      within = omega arith;
      follows = follows;
      continues = pushed (cell ∷ []) (has-words label operation (cell ∷ []) cell.address refl follows words place named);
    }

-- the address of the first cell of some
pub first_address-take : (row : List Cell) (count : ℕ) → 0 < count → first_address (take count row) ≡ first_address row
first_address-take [] zero some = refl
first_address-take (cell ∷ row) zero some = absurd (omega arith)
first_address-take [] (suc count) some = refl
first_address-take (cell ∷ row) (suc count) some = refl

-- statements that have the first words of a row
pub adds-some : (old new : List Statement) (row : List Cell) (count : ℕ) → 0 < count → count ≤ length row →
    IsRow (first_address row) (take count row) → Continues old new (take count row) → Adds old new row count
adds-some old new row count some within follows continues = record { within = within; follows = follows; continues = continues }

-- a statement of data
pub adds-data : (old new : List Statement) (label : Option Name) (operation : Operation) (row : List Cell) (count address : ℕ) →
    0 < count → count ≤ length row → IsRow (first_address row) (take count row) → first_address row ≡ address →
    ((here : ℕ) → words_of here operation ≡ Some (words_in (take count row))) →
    ((here : ℕ) → labelled_address here operation ≡ here) → is_named label address ≡ true →
    ((part : List Cell) → HasWords label operation part → Continues old new part) → Adds old new row count
adds-data old new label operation row count address some within follows own words place named pushed =
    let first = first_address-take row count some in
    record {
      within = within;
      follows = follows;
      continues = pushed (take count row) (has-words label operation (take count row) address (first ∙ own)
          (rw first follows) (words _) (place _) named);
    }

-- the exit of a subroutine and the name of its entry
pub continues-exit : (old middle new : List Statement) (name entry : Name) (operation : Operation) (row : List Cell) (address : ℕ) →
    first_address row ≡ address → length row ≡ 2 → IsRow (first_address row) row →
    words_of (first_address row) operation ≡ Some (words_in row) →
    labelled_address (first_address row) operation ≡ first_address row → name.address ≡ address → entry.address ≡ address + 1 →
    ((part : List Cell) → HasWords (Some name) operation part → Continues old middle part) →
    new ≡ middle ++ statement (Some entry) Equal ∷ [] → Continues old new row
continues-exit old middle new name entry operation row address own two follows words place named next pushed written =
    let is_name : is_named (Some name) address ≡ true = grind (arith, nat_tests) in
    let is_entry : is_named (Some entry) (first_address row + 1) ≡ true = grind (arith, nat_tests) in
    subst (λ s. Continues old s row) (sym written) (continues-equal old middle (Some entry) row
    (pushed row (has-words (Some name) operation row address own follows words place is_name)) two is_entry)

pub ruleset statements = (continues-one, continues-equal)

-- ---- the whole

-- ORG sets the address of the next word
pub origin-more : (old : List Statement) (next : Option ℕ) (address : ℕ) (cells : List Cell) → HasAssembled old next cells →
    HasAssembled (old ++ statement None (Origin address) ∷ []) (Some address) cells
origin-more old next address cells has = record {
  assembly = record has.assembly { here = address };
  right = assembled-more old (statement None (Origin address)) ∙ rw has.right refl;
  words = has.words;
  here = refl;
}

-- one more row
row-more : (old new : List Statement) (address done count : ℕ) (cells : List Cell) →
    HasAssembled old (Some address) (take done cells) → Adds old new (drop done cells) count → 0 < count →
    first_address (drop done cells) ≡ address → HasAssembled new (Some (address + count)) (take (done + count) cells)
row-more old new address done count cells has adds some own =
    let part = take count (drop done cells) in
    let size : length part ≡ count = length-take-le count (drop done cells) adds.within in
    let first : first_address part ≡ address = first_address-take (drop done cells) count some ∙ own in
    let pair : Cell → ℕ × ℕ = λ cell. (cell.address, cell.word) in
    record {
      assembly = record {
        here = has.assembly.here + length part;
        cells = has.assembly.cells ++ addressed part;
      };
      right = adds.continues has.assembly has.right (has.here ∙ sym first);
      words = rw (has.words, take-add done count cells) (sym (map-append pair (take done cells) part));
      here = omega (arith, has.here, size);
    }

-- one more row, of the rest of the cells as a slice
pub row-added : (old new : List Statement) (address done count : ℕ) (cells : List Cell) →
    HasAssembled old (Some address) (take done cells) → Adds old new (take (length cells - done) (drop done cells)) count →
    0 < count → first_address (take (length cells - done) (drop done cells)) ≡ address →
    HasAssembled new (Some (address + count)) (take (done + count) cells)
row-added old new address done count cells has adds some own =
    let rest : take (length cells - done) (drop done cells) ≡ drop done cells =
    take_all (length cells - done) (drop done cells) (omega (arith, length-drop done cells)) in
    row-more old new address done count cells has (subst (λ r. Adds old new r count) rest adds) some
    (subst (λ r. first_address r ≡ address) rest own)

-- all cells
pub all-added : (statements : List Statement) (next : Option ℕ) (done : ℕ) (cells : List Cell) → length cells ≤ done →
    HasAssembled statements next (take done cells) → HasAssembled statements next cells
all-added statements next done cells all has = subst (λ cs. HasAssembled statements next cs) (take_all done cells all) has

-- BASE begins a source
pub base-begins : HasAssembled (statement None Base ∷ []) None []
unfolding assembled
base-begins = record { assembly = record { here = 0; cells = [] }; right = refl; words = refl; here = tt }

-- and END ends it
pub end-ends : (old : List Statement) (next : Option ℕ) (cells : List Cell) (entry : Option Operand) → HasAssembled old next cells →
    cells_of (assembled (old ++ statement None (End entry) ∷ [])) ≡ Some (addressed cells)
end-ends old next cells entry has = ap cells_of (assembled-more old (statement None (End entry)))
    ∙ rw has.right (ap Some (append-nil has.assembly.cells ∙ has.words))

pub ruleset origins = (origin-more)

pub ruleset rows = (row-added, base-begins, end-ends)
