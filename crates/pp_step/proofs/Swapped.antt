-- The number at each place after an exchange.
use Rattle.std.proofs.Common.{◌≡◌, ℕ, zero, suc, List, [], ◌∷◌, ◌++◌, ◌+◌, ◌<◌, ◌≤◌, length, slice_index, refl, arith, zero-add}
use Rattle.std.proofs.{lemmas.Bool.Decides.nat_tests, lemmas.Grind.common_steps, lemmas.List.FromFn.get_or-map-range_with_len}
use Rattle.pp_machine.specs.Frame.{frame_word}
use Rattle.pp_step.proofs.{Exchanged.few_exchanged, Exchanged.over-exchange, Exchanged.over-swap, Exchanged.length-stored_over}
use Rattle.pp_step.specs.{Exchange.exchange, Exchange.frame_pairs, Exchange.loaded, Exchange.word_pairs, Words.central_after}
use Rattle.pp_step.specs.{Inner.loaded_word, Inner.stored_over, View.PpView, View.FrameWord, View.Central, View.number, View.over}

pub length-loaded : (a : ℕ) (words : List ℕ) → length (loaded a words) ≡ 16
unfolding loaded
length-loaded a words = refl

loaded-at : (a : ℕ) (words : List ℕ) (i : ℕ) → i < 16 → slice_index (loaded a words) i ≡ loaded_word a words i
unfolding loaded
loaded-at a words i below = get_or-map-range_with_len (loaded_word a words) 0 16 i i 0 below (zero-add i)

stored-at : (a k j : ℕ) (words ws : List ℕ) → k + length ws ≤ 16 → j < length ws → central_after a (k + j) < length words →
    slice_index (stored_over a k words ws) (central_after a (k + j)) ≡ slice_index ws j
stored-at a k j words [] at_most below within = absurd (omega arith)
stored-at a k zero words (w ∷ ws) at_most below within = grind (arith, common_steps, length-stored_over a (k + 1) words ws)
stored-at a k (suc j) words (w ∷ ws) at_most below within =
    grind (arith, common_steps, nat_tests, stored-at a (k + 1) j words ws)

-- the state after an exchange, but for P
pub over-exchanged : (s : PpView) (a : ℕ) (words ws : List ℕ) → words ≡ s.central → length s.frame ≡ 16 → over s (frame_pairs 0
    (loaded a words) ++ word_pairs (length words) a 0 ws) ≡ record s { frame = loaded a words; central = stored_over a 0 words ws }
over-exchanged s a words ws same size = grind (arith, over-swap s a (loaded a s.central) ws, length-loaded a s.central)

-- the frame after an exchange, whatever P becomes
pub frame_exchange : (s : PpView) (i : ℕ) → length s.frame ≡ 16 → i < 16 →
    number (over s (exchange 0 s.a s.central s.frame)) (FrameWord i) ≡ frame_word i (number s (Central (central_after s.a i)))
frame_exchange s i size below = grind (arith, over-exchanged s s.a s.central s.frame, loaded-at s.a s.central i)

pub central_exchange : (s : PpView) (i : ℕ) → length s.frame ≡ 16 → i < 16 → central_after s.a i < length s.central →
    number (over s (exchange 0 s.a s.central s.frame)) (Central (central_after s.a i)) ≡ number s (FrameWord i)
central_exchange s i size below within =
    grind (arith, over-exchanged s s.a s.central s.frame, stored-at s.a 0 i s.central s.frame)

-- what an exchange, and putting it back, needs
pub ruleset swaps = (common_steps, over-exchange, over-exchanged, few_exchanged)
