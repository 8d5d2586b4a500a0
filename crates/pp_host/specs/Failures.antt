-- The counts of failures after a run or a call that ended so.
use Rattle.std.specs.Prelude.{ℕ, Result, Err}
use Rattle.pp_lines.specs.Device.{one_more}
use Rattle.pp_trouble.specs.declared.trouble.Trouble.{Trouble}
use Rattle.pp_trouble.specs.declared.trouble.Trouble.TheVariants.{ReadFailed, WriteFailed}

-- The count of failed reads: one more if a failed read ended it.
abbrev pub reads_by : {A : Type 0} → Result A Trouble → ℕ → ℕ
reads_by (Err ReadFailed) count = one_more count
reads_by ended count = count

-- The count of failed writes: one more if a failed write ended it.
abbrev pub writes_by : {A : Type 0} → Result A Trouble → ℕ → ℕ
writes_by (Err WriteFailed) count = one_more count
writes_by ended count = count
