-- The rows of a file with more lines.
use Rattle.std.proofs.Common.{◌≡◌, ℕ, ◌+◌, ◌-◌, ◌<◌, ◌≤◌, cond, List, [], ◌∷◌, ◌++◌, length, take, refl, sym, ap, arith}
use Rattle.std.proofs.Common.{length-append, append_assoc, Result, Ok, Err, Option, None, if◌then◌else◌, nat_le, nat_lt}
use Rattle.std.proofs.lemmas.{Bool.Decides.nat_tests, Grind.common_steps}
use Rattle.std.proofs.Math.Seq.{take-append_seam, take-append-add}
use Rattle.pp_files.specs.declared.fault.LoadFault.{LoadFault, TheVariants.FileTooLong, TheVariants.LineTooLong}
use Rattle.pp_files.specs.{declared.progress.TheConstants.KEPT, Rows.Row, Rows.row_of_words, Rows.row_of_line}
use Rattle.pp_lines.specs.{Lines.lines, Lines.finished, Lines.unfinished, Lines.last_line, Results.◌>>=◌}
use Rattle.pp_lines.proofs.{LineCuts.lines_split, LineCuts.finished-more, LineCuts.finished-feed, LongLines.read-kept}
use Rattle.pp_lines.specs.Words.{words, is_ignored}
use Rattle.pp_files.specs.Files.{Rule, lines_of_file, rows_of_file, with_lines}
use Rattle.pp_files.specs.Inner.Loading.{HasRows, rows_of_lines, with_line}

-- ---- one line

-- the row of line k, after its carriage return was dropped
abbrev row_of_text : ℕ → List ℕ → Result (Option Row) LoadFault
row_of_text k text =
    if nat_lt 1023 (length text) then Err (LineTooLong k)
    else (if is_ignored (words text) then Ok None else row_of_words k (words text))

-- the kept prefix reads as the line does
pub row-front : (k : ℕ) (line : List ℕ) → row_of_line k (take KEPT line) ≡ row_of_line k line
unfolding row_of_line
row-front k line =
    read-kept (row_of_text k) (Err (LineTooLong k)) 1023 KEPT line (λ text long. grind (arith, nat_tests)) (omega arith)

-- ---- rows of more lines

-- lines, and further lines
lines-both : (rule : Rule) (k : ℕ) (rows : List Row) (done more : List (List ℕ)) →
    with_lines rule k rows (done ++ more) ≡ (with_lines rule k rows done >>= λ read. with_lines rule (k + length done) read more)
unfolding with_lines
lines-both rule k rows [] more = grind arith
lines-both rule k rows (line ∷ done) more = let later = λ (read : List Row). lines-both rule (k + 1) read done more in
    grind (arith, later)

-- one more line
pub lines-next : (rule : Rule) (done : List (List ℕ)) (line : List ℕ) →
    rows_of_lines rule (done ++ line ∷ []) ≡ (rows_of_lines rule done >>= λ rows. with_line rule (length done + 1) rows line)
unfolding with_lines
lines-next rule done line = grind (arith, lines-both rule 0 [] done (line ∷ []))

-- ---- a file

-- the first fault of the lines is the fault of the file
pub file-fault : (rule : Rule) (limit : ℕ) (bytes : List ℕ) (done more : List (List ℕ)) (fault : LoadFault) →
    lines_of_file limit bytes ≡ done ++ more → rows_of_lines rule done ≡ Err fault → rows_of_file rule limit bytes ≡ Err fault
unfolding rows_of_file
file-fault rule limit bytes done more fault split e = rw (split, lines-both rule 0 [] done more, e)

pub lines-short : (limit : ℕ) (bytes : List ℕ) → length bytes ≤ limit → lines_of_file limit bytes ≡ lines bytes
lines-short limit bytes h = grind (arith, nat_tests)

-- a file within the limit
pub file-short : (rule : Rule) (limit : ℕ) (bytes : List ℕ) → length bytes ≤ limit →
    rows_of_file rule limit bytes ≡ rows_of_lines rule (lines bytes)
unfolding rows_of_file
file-short rule limit bytes h = grind (arith, nat_tests)

-- a file that is too long
pub file-long : (rule : Rule) (limit : ℕ) (bytes more : List ℕ) (byte : ℕ) →
    length bytes ≡ limit → HasRows (rows_of_lines rule (finished bytes)) →
    rows_of_file rule limit (bytes ++ byte ∷ more) ≡ Err FileTooLong
unfolding rows_of_file
file-long rule limit bytes more byte full read =
    grind (arith, nat_tests, take-append_seam bytes (byte ∷ more), length-append bytes (byte ∷ more))

append-next : (bytes more : List ℕ) (byte : ℕ) → bytes ++ byte ∷ more ≡ (bytes ++ byte ∷ []) ++ more
append-next bytes more byte = sym (append_assoc bytes (byte ∷ []) more)

take-past : (limit : ℕ) (bytes more : List ℕ) (byte : ℕ) → length bytes < limit →
    take limit (bytes ++ byte ∷ more) ≡ (bytes ++ byte ∷ []) ++ take (limit - (length bytes + 1)) more
take-past limit bytes more byte h = rw append-next
    (grind (arith, common_steps, length-append, take-append-add (bytes ++ byte ∷ []) more (limit - (length bytes + 1))))

-- the finished lines begin with these
finished-feed_more : (bytes more : List ℕ) → (extra : List (List ℕ))
    × (finished ((bytes ++ 10 ∷ []) ++ more) ≡ (finished bytes ++ unfinished bytes ∷ []) ++ extra)
finished-feed_more bytes more = rw finished-feed at (finished-more (bytes ++ 10 ∷ []) more)

-- the lines of a file begin with these lines, if the last one ends with a line feed within the limit
pub lines_of_file-feed : (limit : ℕ) (bytes more : List ℕ) → length bytes < limit →
    (extra : List (List ℕ)) × (lines_of_file limit (bytes ++ 10 ∷ more) ≡ (finished bytes ++ unfinished bytes ∷ []) ++ extra)
lines_of_file-feed limit bytes more h =
    let all = bytes ++ 10 ∷ more in
    let whole = finished-feed_more bytes more in
    let front = finished-feed_more bytes (take (limit - (length bytes + 1)) more) in
    let extra = cond (nat_le (length all) limit) (whole.0 ++ last_line (unfinished all)) front.0 in
    (extra, grind (arith, common_steps, lines_split all, append-next bytes more 10, take-past limit bytes more 10 h))
