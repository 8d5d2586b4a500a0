use Rattle.std.proofs.Common.{take, ◌++◌, ◌+◌, ◌≡◌, ℕ, List}
use Rattle.pp_files.specs.Inner.Loading.{HasReadFile}
use Rattle.pp_files.proofs.loading.feed.Given as goal

abbrev pub invariant-loop-byte : goal.invariant-loop-byte
invariant-loop-byte g l = record {
  has_read : (bytes : List ℕ) →
      HasReadFile l.initial.progress g.S.Sheet.rule (g.S.Sheet.holds l.initial.sheet) bytes →
      HasReadFile l.progress g.S.Sheet.rule (g.S.Sheet.holds l.sheet) (bytes ++ take l.byte-index l.piece);
  counts_bytes : l.progress.bytes ≡ l.initial.progress.bytes + l.byte-index;
}
