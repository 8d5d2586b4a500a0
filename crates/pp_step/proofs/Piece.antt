-- Sixteen central words that are one piece of the memory.
use Rattle.std.proofs.Common.{ℕ, List, [], ◌∷◌, ◌++◌, ◌+◌, ◌<◌, ◌≤◌, ◌≡◌, take, drop, length, slice_index, arith}
use Rattle.std.proofs.lemmas.List.{get_or-drop, get_or-take, set_at, take-append-drop, take_more}
use Rattle.std.proofs.{lemmas.Bool.Decides.nat_tests, lemmas.Grind.common_steps}
use Rattle.pp_step.specs.{Inner.stored_over, Words.central_after}

-- a word of the piece
pub piece-at : (a k : ℕ) (words : List ℕ) → a + 16 ≤ length words → length words ≤ 0o400000 →
    k < 16 → slice_index (take 16 (drop a words)) k ≡ slice_index words (central_after a k)
piece-at a k words fits at_most below = grind (arith, get_or-take 16 (drop a words) k 0, get_or-drop a words k 0)

-- numbers written over a piece, one by one
pub stored_over-piece : (a i : ℕ) (words ws : List ℕ) → a + i + length ws ≤ length words → length words ≤ 0o400000 →
    stored_over a i words ws ≡ take (a + i) words ++ (ws ++ drop (a + i + length ws) words)
stored_over-piece a i words [] fits at_most = grind (arith, take-append-drop (a + i) words)
stored_over-piece a i words (w ∷ ws) fits at_most =
    grind (arith, common_steps, stored_over-piece a (i + 1) words ws, take_more words (a + i) 0, set_at)

pub stored_over-sixteen : (a : ℕ) (words ws : List ℕ) → length ws ≡ 16 → a + 16 ≤ length words →
    length words ≤ 0o400000 → stored_over a 0 words ws ≡ take a words ++ (ws ++ drop (a + 16) words)
stored_over-sixteen a words ws size fits at_most = grind (arith, stored_over-piece a 0 words ws)

-- what reading and writing sixteen words in one piece needs
pub ruleset pieces = (common_steps, nat_tests, piece-at, stored_over-sixteen)
