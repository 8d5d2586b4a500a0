-- Numbers read in octal.
use Rattle.std.specs.Prelude.{ℕ, nat_le, if◌then◌else◌, List, Result, Ok, Err}
use Rattle.pp_arith.specs.declared.reading.OctalFault.{OctalFault}
use Rattle.pp_arith.specs.declared.reading.OctalFault.TheVariants.{NotOctal, TooLarge}
use Rattle.pp_arith.specs.Octal.{is_octal, octal_value}

-- the value of an octal word, if it is at most max; `NotOctal` is checked before `TooLarge`
abbrev pub octal_read : List ℕ → ℕ → Result ℕ OctalFault
octal_read word max = if is_octal word then (if nat_le (octal_value word) max then Ok (octal_value word) else Err TooLarge) else Err NotOctal
