-- Lines for the numbers of a range, one after another.
use Rattle.std.proofs.Common.{add-one, ◌≡◌, ◌∙◌, ℕ, zero, suc, ◌+◌, ◌-◌, ◌*◌, ◌<◌, ◌≤◌, List, [], ◌++◌, refl, sym, ap, arith}
use Rattle.std.proofs.Common.{append_assoc, add-zero, append-nil}
use Rattle.std.proofs.lemmas.Grind.{common_steps}
use Rattle.pp_machine.specs.Machine.{Machine}
use Rattle.pp_console.specs.Dumps.{each, cell_row}

-- the rows one after another
abbrev pub row_at : Machine → ℕ → ℕ → ℕ → ℕ → List ℕ
row_at s n first last row = cell_row s n last (first + 8 * row)

-- a range that is longer by one
each-more : (line : ℕ → List ℕ) (first count : ℕ) → each line first (suc count) ≡ each line first count ++ line (first + count)
each-more line first zero = append-nil (line first) ∙ ap line (sym (add-zero first))
each-more line first (suc count) = let at : first + 1 + count ≡ first + suc count = omega arith in
    rw (each-more line (first + 1) count, at, append_assoc)

-- one more line, after others
pub each_next : (line : ℕ → List ℕ) (first count : ℕ) → each line first (count + 1) ≡ each line first count ++ line (first + count)
each_next line first count = rw (add-one, each-more line first count)

-- one more line, in a range that starts at zero
pub each_push : (line : ℕ → List ℕ) (count : ℕ) → each line 0 (count + 1) ≡ each line 0 count ++ line count
each_push line count = let at : 0 + count ≡ count = omega arith in each_next line 0 count ∙ ap (λ n. each line 0 count ++ line n) at

-- the first line, and the others
pub each-first : (line : ℕ → List ℕ) (first end : ℕ) → first < end →
    each line first (end - first) ≡ line first ++ each line (first + 1) (end - (first + 1))
each-first line first end more = let left : end - first ≡ suc (end - (first + 1)) = omega arith in rw left refl

-- no line after the last
pub each-none : (line : ℕ → List ℕ) (first end : ℕ) → end ≤ first → each line first (end - first) ≡ []
each-none line first end none = let left : end - first ≡ 0 = omega arith in rw left refl

-- what appending one more line needs
pub ruleset each_one = (common_steps, each_next, each_push)
