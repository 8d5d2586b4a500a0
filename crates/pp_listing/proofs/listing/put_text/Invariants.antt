use Rattle.std.proofs.Common.{◌≡◌, ◌<◌, ◌++◌, drop}
use Rattle.pp_listing.specs.Listing.{without_tabs}
use Rattle.pp_listing.proofs.listing.put_text.Given as goal

abbrev pub invariant-loop-byte : goal.invariant-loop-byte
invariant-loop-byte l = record {
  below : l.column < 8;
  written : l.out.items ++ without_tabs l.column (drop l.byte-index l.text) ≡ l.initial.out.items ++ without_tabs 0 l.text;
}
