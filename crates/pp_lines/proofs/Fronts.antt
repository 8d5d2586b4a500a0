-- The kept prefix of a line, after one more byte.
use Rattle.std.proofs.Common.{◌≡◌, ℕ, ◌-◌, ◌≤◌, min, false, eqb, List, [], ◌∷◌, ◌++◌, length, take, sym, arith}
use Rattle.std.proofs.lemmas.{Grind.common_steps, Bool.Decides.nat_tests}
use Rattle.pp_lines.specs.Lines.{finished, unfinished}
use Rattle.pp_lines.proofs.{LineCuts.unfinished-feed, LineCuts.unfinished-byte, OpenTexts.unfinished-text, Limits.take-front}

-- the prefix is the same if it was already taken before more bytes were appended
take-goes_on : (most : ℕ) (xs ys : List ℕ) → take most (take most xs ++ ys) ≡ take most (xs ++ ys)
take-goes_on most xs ys = grind (arith, common_steps)

-- the kept prefix after one more byte
pub byte-kept : (kept : ℕ) (bytes : List ℕ) (byte : ℕ) → eqb byte 10 ≡ false →
    take kept (unfinished (bytes ++ byte ∷ [])) ≡ take kept (take kept (unfinished bytes) ++ byte ∷ [])
byte-kept kept bytes byte h = rw (unfinished-byte bytes byte h) (sym (take-goes_on kept (unfinished bytes) (byte ∷ [])))

-- the kept prefix after a text
pub text-kept : (kept : ℕ) (bytes text : List ℕ) → finished text ≡ [] →
    take kept (unfinished (bytes ++ text)) ≡ take kept (take kept (unfinished bytes) ++ text)
text-kept kept bytes text h = rw (unfinished-text bytes text h) (sym (take-goes_on kept (unfinished bytes) text))

-- the part of a text that a line keeps
pub text-room : (most : ℕ) (front text : List ℕ) → length front ≤ most →
    take most (front ++ text) ≡ front ++ take (min (length text) (most - length front)) text
text-room most front text h = grind (arith, common_steps, take-front most front text h)

-- what the calls of a cutter keep
pub ruleset kept_prefixes = (common_steps, nat_tests, byte-kept, text-kept, text-room, unfinished-feed)
