-- The progress of a file, and the faults that are reported.
use Rattle.std.proofs.Common.{◌≡◌, ◌∙◌, ℕ, ◌+◌, ◌<◌, ◌≤◌, List, [], ◌∷◌, ◌++◌, length, take, refl, arith, inl, inr, Option, Result}
use Rattle.std.proofs.Common.{Ok, Err, MatchResult, append-nil, append_assoc, Bool, true}
use Rattle.std.proofs.lemmas.{Bool.Decides.nat_tests, Grind.common_steps}
use Rattle.std.specs.Io.KnownBytes.{Consumes, IsAtEnd}
use Rattle.pp_files.specs.{Fault.BreaksOff, Fault.IsLoadCause, Fault.RunsOut, Rows.Row, declared.fault.LoadFault.LoadFault}
use Rattle.pp_files.specs.Files.{Rule, file_limit, lines_of_file, rows_of_file, with_lines}
use Rattle.pp_files.specs.declared.progress.{Progress.Progress, TheConstants.KEPT}
use Rattle.pp_lines.proofs.{Limits.lines-last, Limits.lines-whole, LineCuts.finished-byte, LineCuts.finished-feed}
use Rattle.pp_lines.specs.{Device.all_bytes, Lines.finished, Lines.lines, Lines.unfinished}
use Rattle.pp_lines.proofs.Reading.{all-read, unread}
use Rattle.pp_files.specs.Inner.Loading.{with_line, rows_of_lines, FailsAfter, FailsAt, FailsIn, HasReadFile, HasRows, IsRow, Reads}
use Rattle.pp_files.proofs.MoreLines.{row-front, lines-next, lines-short, file-fault, file-short, file-long, lines_of_file-feed}

-- ---- a fault at a line

-- a fault at the kept prefix of a line of a file is a fault of the file
line-fails : (rule : Rule) (bytes : List ℕ) (rows : List Row) (done : List (List ℕ)) (line front : List ℕ)
    (later : List (List ℕ)) (fault : LoadFault) (k : ℕ) → front ≡ take KEPT line → k ≡ length done + 1 →
    lines_of_file file_limit bytes ≡ (done ++ line ∷ []) ++ later →
    rows_of_lines rule done ≡ Ok rows → with_line rule k rows front ≡ Err fault → rows_of_file rule file_limit bytes ≡ Err fault
line-fails rule bytes rows done line front later fault k kept count split read fails =
    let all : rows_of_lines rule (done ++ line ∷ []) ≡ Err fault = grind (arith, lines-next rule done line, row-front k line) in
    file-fault rule file_limit bytes (done ++ line ∷ []) later fault split all

-- memory that ran out at the kept prefix of a line of a file ran out in the file
line-runs-out : (rule : Rule) (bytes : List ℕ) (rows : List Row) (done : List (List ℕ)) (line front : List ℕ)
    (later : List (List ℕ)) (k : ℕ) → front ≡ take KEPT line → k ≡ length done + 1 →
    lines_of_file file_limit bytes ≡ (done ++ line ∷ []) ++ later →
    rows_of_lines rule done ≡ Ok rows → HasRows (with_line rule k rows front) × IsRow k front → RunsOut rule file_limit bytes
line-runs-out rule bytes rows done line front later k kept count split read out =
    let next = lines-next rule done line in
    let row = row-front k line in
    (done, line, later, grind (arith, common_steps), grind (arith, row), grind (arith, row))

FailsIn-line : (rule : Rule) (bytes : List ℕ) (rows : List Row) (done : List (List ℕ)) (line front : List ℕ)
    (later : List (List ℕ)) (fault : LoadFault) (k : ℕ) → front ≡ take KEPT line → k ≡ length done + 1 →
    lines_of_file file_limit bytes ≡ (done ++ line ∷ []) ++ later →
    rows_of_lines rule done ≡ Ok rows → FailsAt rule k rows front fault → FailsIn rule bytes fault
FailsIn-line rule bytes rows done line front later fault k kept count split read fails = grind (
  arith,
  line-fails rule bytes rows done line front later fault k,
  line-runs-out rule bytes rows done line front later k,
)

-- ---- the progress of a file

pub HasReadFile-within : (progress : Progress) (rule : Rule) (Holds : List Row → Type 0) (bytes : List ℕ) →
    HasReadFile progress rule Holds bytes → length bytes ≤ file_limit
HasReadFile-within progress rule Holds bytes has_read = rw (← has_read.counts_bytes) progress.bytes_within

-- before the first byte
pub HasReadFile-new : (progress : Progress) (rule : Rule) (Holds : List Row → Type 0) → progress.cutter ≡ [] →
    progress.bytes ≡ 0 → progress.lines ≡ 0 → Holds [] → HasReadFile progress rule Holds []
unfolding with_lines
HasReadFile-new progress rule Holds front no_bytes no_lines held = grind (arith, common_steps)

-- the lines of every file that begins with these bytes and a line feed
file-lines : (bytes more : List ℕ) → length bytes < file_limit →
    (extra : List (List ℕ))
    × (lines_of_file file_limit ((bytes ++ 10 ∷ []) ++ more) ≡ (finished bytes ++ unfinished bytes ∷ []) ++ extra)
file-lines bytes more room = rw (append_assoc bytes (10 ∷ []) more) (lines_of_file-feed file_limit bytes more room)

-- a fault at a line that ends with a line feed is one of every file that begins so
line-fault : (rule : Rule) (bytes : List ℕ) (rows : List Row) (front : List ℕ) (fault : LoadFault) (k : ℕ) →
    front ≡ take KEPT (unfinished bytes) → k ≡ length (finished bytes) + 1 → length bytes < file_limit →
    rows_of_lines rule (finished bytes) ≡ Ok rows → FailsAt rule k rows front fault → FailsAfter rule (bytes ++ 10 ∷ []) fault
line-fault rule bytes rows front fault k kept count room read (inl fails) = inl (λ more.
    let (later, split) = file-lines bytes more room in
    line-fails rule ((bytes ++ 10 ∷ []) ++ more) rows _ (unfinished bytes) front later fault k kept count split read fails)
line-fault rule bytes rows front fault k kept count room read (inr (none, has_rows, is_row)) = inr (
  none,
  λ more.
      let (later, split) = file-lines bytes more room in
      line-runs-out rule ((bytes ++ 10 ∷ []) ++ more) rows _ (unfinished bytes) front later k kept count split read
      (has_rows, is_row),
)

pub HasReadFile-fault : (old : Progress) (rule : Rule) (Holds : List Row → Type 0) (fault : LoadFault) (bytes : List ℕ) →
    HasReadFile old rule Holds bytes → old.bytes < file_limit →
    ((rows : List Row) → Holds rows → FailsAt rule (old.lines + 1) rows old.cutter fault) →
    FailsAfter rule (bytes ++ 10 ∷ []) fault
HasReadFile-fault old rule Holds fault bytes has_read room line =
    let (rows, read, held) = has_read.reads in
    line-fault rule bytes rows old.cutter fault (old.lines + 1) has_read.keeps (omega (arith, has_read.counts_lines))
    (omega (arith, has_read.counts_bytes)) read (line rows held)

-- further bytes change nothing
pub FailsAfter-more : (rule : Rule) (bytes more : List ℕ) (fault : LoadFault) → FailsAfter rule bytes fault →
    FailsAfter rule (bytes ++ more) fault
FailsAfter-more rule bytes more fault (inl fails) = inl (λ later. rw (append_assoc bytes more later) (fails (more ++ later)))
FailsAfter-more rule bytes more fault (inr (none, out)) =
    inr (none, λ later. rw (append_assoc bytes more later) (out (more ++ later)))

-- the last line does not end with a line feed
pub file-last : {T : Type 0} (progress : Progress) (rule : Rule) (Holds Holds' : List Row → Type 0)
    (result : Result T LoadFault) (bytes : List ℕ) → HasReadFile progress rule Holds bytes → 0 < length progress.cutter →
    ((rows : List Row) → Holds rows → MatchResult result (λ _. Reads Holds' (with_line rule
    (progress.lines + 1) rows progress.cutter)) (λ fault. FailsAt rule (progress.lines + 1) rows progress.cutter fault)) →
    MatchResult result (λ _. Reads Holds' (rows_of_file rule file_limit bytes)) (λ fault. FailsIn rule bytes fault)
file-last progress rule Holds Holds' (Ok value) bytes has_read begun line =
    let (rows, read, held) = has_read.reads in
    let within = HasReadFile-within progress rule Holds bytes has_read in
    let all = lines-last KEPT progress.cutter bytes has_read.keeps begun in
    let next = lines-next rule (finished bytes) (unfinished bytes) in
    grind (arith, file-short rule file_limit bytes within, row-front (progress.lines + 1) (unfinished bytes), line rows held)
file-last progress rule Holds Holds' (Err fault) bytes has_read begun line =
    let (rows, read, held) = has_read.reads in
    let within = HasReadFile-within progress rule Holds bytes has_read in
    let all = lines-last KEPT progress.cutter bytes has_read.keeps begun in
    FailsIn-line rule bytes rows (finished bytes) (unfinished bytes) progress.cutter [] fault (progress.lines + 1)
    has_read.keeps (omega (arith, has_read.counts_lines))
    (rw (append-nil (finished bytes ++ unfinished bytes ∷ [])) (lines-short file_limit bytes within ∙ all)) read (line rows held)

-- the lines of a file whose last line ends with a line feed
pub lines-none : (bytes : List ℕ) → length (take KEPT (unfinished bytes)) ≡ 0 → lines bytes ≡ finished bytes
lines-none bytes none = lines-whole KEPT (take KEPT (unfinished bytes)) bytes (omega arith) refl none

-- what the bytes of a file need, and its end
pub ruleset bytes_read =
    (common_steps, nat_tests, finished-byte, file-long, file-short, finished-feed, lines-next, lines-none, row-front)

-- ---- the bytes that were read

-- a fault that occurs for all later bytes is the cause
pub fails-after : (rule : Rule) (ended : Bool) (first second : Option (List ℕ)) (taken : List ℕ) (fault : LoadFault) →
    Consumes first second taken → FailsAfter rule taken fault →
    IsLoadCause rule (rows_of_file rule file_limit) ended taken (all_bytes first taken) fault
fails-after rule ended first second taken fault p (inl fails) =
    let rest = unread first second taken p in rw rest.1 (inl (fails rest.0, inr fails))
fails-after rule ended first second taken fault p (inr (none, out)) =
    let rest = unread first second taken p in rw rest.1 (inr (inl (none, (out rest.0, inr out))))

-- the source failed
pub breaks-off : (progress : Progress) (rule : Rule) (Holds : List Row → Type 0) (taken : List ℕ) →
    HasReadFile progress rule Holds taken → BreaksOff rule file_limit taken
breaks-off progress rule Holds taken has_read =
    (HasReadFile-within progress rule Holds taken has_read, (has_read.reads.0, has_read.reads.1))

-- at the end of input
pub ends : {T : Type 0} (result : Result T LoadFault) (P : T → Type 0) (rule : Rule) (ended : Bool)
    (first second : Option (List ℕ)) (taken : List ℕ) → Consumes first second taken → IsAtEnd second → ended ≡ true →
    MatchResult result P (λ fault. FailsIn rule taken fault) →
    MatchResult result P (λ fault. IsLoadCause rule (rows_of_file rule file_limit) ended taken (all_bytes first taken) fault)
ends result P rule ended first second taken p end is_end known = grind (arith, all-read first second taken p end)
