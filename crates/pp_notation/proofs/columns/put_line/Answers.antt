use Rattle.std.proofs.Common.{◌≡◌, List, [], ◌∷◌, ◌++◌, ℕ, ap, arith, sym}
use Rattle.std.proofs.lemmas.{Grind.common_steps, Str.Ascii.trim_ascii_end_is}
use Rattle.std.specs.Str.{IsTrimAsciiEnd}
use Rattle.pp_notation.specs.Columns.{ended}
use Rattle.pp_notation.proofs.columns.put_line.Goals as goal

ended-is : (line part : List ℕ) → IsTrimAsciiEnd line part → ended line ≡ part ++ 10 ∷ []
unfolding ended
ended-is line part trimmed = ap (λ text. text ++ 10 ∷ []) (sym (trim_ascii_end_is line part trimmed))

pub returns : goal.returns
returns c = grind (arith, common_steps, ended-is c.args.line.now c.trim_ascii_end.result.now c.trim_ascii_end.ensures.value)
