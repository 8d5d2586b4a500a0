use Rattle.std.proofs.Common.{◌≡◌, drop, fold}
use Rattle.pp_source.specs.Index.{with_byte}
use Rattle.pp_source.proofs.index.with_bytes.Given as goal

abbrev pub invariant-loop-byte : goal.invariant-loop-byte
invariant-loop-byte l = fold with_byte l.number (drop l.byte-index l.bytes) ≡ fold with_byte l.first l.bytes
