-- The exchange of the frame with sixteen central words.
use Rattle.std.specs.Prelude.{ℕ, Bool, true, List, [], ◌∷◌, ◌++◌, ◌+◌, nat_lt, if◌then◌else◌, map, length, slice_index}
use Rattle.std.specs.List.{range_with_len}
use Rattle.pp_machine.specs.{Frame.frame_word, Writes.Writes}
use Rattle.pp_step.specs.{View.PpPlace, View.P, View.Central, View.FrameWord, Words.central_after}

-- The writes of a list of numbers to places, beginning with place i. A number whose place is not there is not written.
-- [P19, P22]
abbrev pub pairs_from : (ℕ → PpPlace) → (ℕ → Bool) → ℕ → List ℕ → Writes PpPlace
pairs_from place is_there i [] = []
pairs_from place is_there i (w ∷ ws) =
    if is_there i then (place i, w) ∷ pairs_from place is_there (i + 1) ws else pairs_from place is_there (i + 1) ws

-- The writes of a list of numbers to the frame words from i on. [P22]
abbrev pub frame_pairs : ℕ → List ℕ → Writes PpPlace
frame_pairs = pairs_from FrameWord (λ i. true)

-- The writes of a list of numbers to the central words from a+i on. An address past the size is not written. [P19, P22]
abbrev pub word_pairs : ℕ → ℕ → ℕ → List ℕ → Writes PpPlace
word_pairs size a = pairs_from (λ i. Central (central_after a i)) (λ i. nat_lt (central_after a i) size)

-- The new frame: word i is central word a+i, and word 0 loses the bits in the place of B0. An address past the size
-- reads as 0, which is what `slice_index` finds past the end of a list. [P19, P21, P22]
unfoldable pub loaded : ℕ → List ℕ → List ℕ
loaded a words = map (λ i. frame_word i (slice_index words (central_after a i))) (range_with_len 0 0o20)

-- The exchange at central address a: P goes to the next instruction, the frame gets sixteen (decimal) central words, and
-- these get the old frame. The layout of these words is the manual's. [M18, P20, P22]
abbrev pub exchange : ℕ → ℕ → List ℕ → List ℕ → Writes PpPlace
exchange next a words frame = (P, next) ∷ (frame_pairs 0 (loaded a words) ++ word_pairs (length words) a 0 frame)
