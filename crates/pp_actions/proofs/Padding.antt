-- Words that are kept with zeros after them.
use Rattle.std.proofs.Common.{◌≡◌, ℕ, List, ◌++◌, ap, drop, length, replicate}
use Rattle.std.proofs.lemmas.{Grind.common_steps, List.drop-replicate}
use Rattle.pp_actions.specs.Padding.{padded}

-- words in the front of eight zeros
pub padded-front : (words : List ℕ) → words ++ drop (length words) (replicate 8 0) ≡ padded words
padded-front words = ap (λ rest. words ++ rest) (drop-replicate (length words) 8 0)

-- what keeping words needs
pub ruleset padding = (common_steps, padded-front)
