use Rattle.std.proofs.Common.{◌≡◌, ◌≢◌, ◌⊎◌, ◌<◌, ℕ, true}
use Rattle.std.specs.Prelude.{slice_get}
use Rattle.pp_meaning.specs.Lines.{symbol_name}
use Rattle.pp_meaning.specs.Names.{IsLast, is_renamed, last_of}
use Rattle.pp_encoder.proofs.names.all_new.Given as goal

abbrev pub invariant-loop-index : goal.invariant-loop-index
invariant-loop-index l = record {
  last : IsLast l.symbols (last_of l.last) l.index;
  different : (i j : ℕ) → i < j → j < l.index →
      (symbol_name (slice_get l.symbols i) ≢ symbol_name (slice_get l.symbols j)) ⊎ (is_renamed j (slice_get l.symbols i) ≡ true);
}
