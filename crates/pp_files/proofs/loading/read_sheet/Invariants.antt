use Rattle.std.proofs.Common.{◌-◌, ◌++◌, ◌≡◌, ℕ, List}
use Rattle.std.specs.Io.KnownBytes.{Consumes}
use Rattle.pp_files.specs.{declared.progress.TheConstants.FILE_LIMIT, Inner.Loading.HasReadFile}
use Rattle.pp_files.proofs.loading.read_sheet.Given as goal

abbrev pub invariant-pieces : goal.invariant-pieces
invariant-pieces g l = record {
  has_read : (taken : List ℕ) × Consumes (g.R.Source.rest l.initial.source) (g.R.Source.rest l.source) taken
      × (g.R.Source.given l.source ≡ g.R.Source.given l.initial.source ++ taken)
      × HasReadFile l.progress g.S.Sheet.rule (g.S.Sheet.holds l.sheet) taken;
  reads : g.R.Source.failure_count l.source ≡ g.R.Source.failure_count l.initial.source;
}

abbrev pub decreases-pieces : goal.decreases-pieces
decreases-pieces g l = FILE_LIMIT - l.progress.bytes
