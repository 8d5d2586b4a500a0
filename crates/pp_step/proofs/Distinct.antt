-- No step writes a place twice.
use Rattle.std.proofs.Common.{◌≡◌, ◌≢◌, ℕ, ◌+◌, ◌<◌, ◌≤◌, ◌==◌, slice_index, Bool, true, false, nat_lt, List, [], ◌∷◌, ◌++◌, None}
use Rattle.std.proofs.Common.{AllPairs, length, refl, arith, ◌∙◌}
use Rattle.std.proofs.{lemmas.Bool.eq-eqb, lemmas.Bool.ne_eqb, lemmas.Bool.Decides.nat_tests, lemmas.List.append-nil}
use Rattle.pp_machine.specs.Writes.{Writes, places}
use Rattle.pp_machine.proofs.Once.{once, IsOnce, either, each-once}
use Rattle.pp_arith.specs.Words60.{split60}
use Rattle.pp_step.specs.Exchange.{exchange, pairs_from, word_pairs, loaded}
use Rattle.pp_step.specs.InstructionTable.{Row, row_of, instruction_at}
use Rattle.pp_step.specs.View.{PpView, PpPlace, A, P, Central, FrameWord}
use Rattle.pp_step.specs.{Blocks.block_writes, Codes.number_of, Rows.five_cells, Instruction.InstructionNumbers, Seen.same_place}
use Rattle.pp_step.specs.{Seen.lookup, Step.pp_writes, declared.code.Code.Code, Words.central_after}
use Rattle.pp_step.proofs.{ExchangeLookup.absent, ExchangeLookup.none, ExchangeLookup.in_neither, Numbers.each_row}
use Rattle.pp_step.specs.declared.code.Code.TheVariants as code

self : (x : PpPlace) → same_place x x ≡ true
self A = refl
self _ = search eq-eqb

-- places of different numbers, in front of other places
once-from : (place : ℕ → PpPlace) (is_there : ℕ → Bool) (i : ℕ) (ws : List ℕ) (rest : Writes PpPlace) →
    ((j k : ℕ) → i ≤ j → j < k → k < i + length ws → same_place (place k) (place j) ≡ false) → ((k : ℕ) →
    lookup rest (place k) ≡ None) → once same_place rest ≡ true → once same_place (pairs_from place is_there i ws ++ rest) ≡ true
once-from place is_there i [] rest apart behind h = h
once-from place is_there i (w ∷ ws) rest apart behind h =
    let later = absent place is_there (i + 1) ws rest (place i)
    (λ k low high. apart i k (omega arith) (omega (arith, low)) (omega (arith, high))) ∙ behind i in
    let others = once-from place is_there (i + 1) ws rest
    (λ j k low less high. apart j k (omega (arith, low)) less (omega (arith, high))) behind h in
    grind (arith, later, others)

-- five cells in a row
five-once : (address : ℕ) (parts : List ℕ) → once same_place (five_cells address parts) ≡ true
five-once address parts = grind (arith, nat_tests)

-- sixteen central words in a row
words-once : (size a : ℕ) (ws : List ℕ) → length ws ≤ 16 → once same_place (word_pairs size a 0 ws) ≡ true
words-once size a ws at_most =
    rw append-nil at (once-from (λ i. Central (central_after a i)) (λ i. nat_lt (central_after a i) size) 0 ws [] (λ j k low less
    high. ne_eqb (central_after a k) (central_after a j) (λ same. omega (arith, same, less, high, at_most))) (λ k. refl) refl)

exchange-once : (next a : ℕ) (words frame : List ℕ) → length frame ≡ 16 → once same_place (exchange next a words frame) ≡ true
exchange-once next a words frame size = rw (in_neither (length words) a (loaded a words) frame P (λ k. refl) (λ k. refl))
    (once-from FrameWord (λ i. true) 0 (loaded a words) (word_pairs (length words) a 0 frame)
    (λ j k low less high. ne_eqb k j (λ same. omega (arith, same, less)))
    (λ k. none (λ i. Central (central_after a i))
    (λ i. nat_lt (central_after a i) (length words)) 0 frame (FrameWord k) (λ j low high. refl))
    (words-once (length words) a frame (omega (arith, size))))

abbrev one : {ws : Writes PpPlace} → once same_place ws ≡ true → IsOnce same_place ws
one h = record { holds = h }

effect-once : (c : Code) (i : InstructionNumbers) (s : PpView) →
    length s.frame ≡ 16 → IsOnce same_place ((row_of (number_of c)).effect i s)
effect-once code.Exn i s size = one (exchange-once i.next s.a s.central s.frame size)
effect-once code.Crd i s size = one (five-once i.d (split60 (slice_index s.central s.a)))
effect-once _ i s size = search (either same_place)

pub step_each_once : (s : PpView) → length s.frame ≡ 16 → AllPairs (λ one other. one ≢ other) (places (pp_writes s))
unfolding pp_writes
step_each_once s size =
    let i = instruction_at s.p s.cells in
    let outside = each_row (λ (r : Row). IsOnce same_place (r.effect i s)) (λ c. effect-once c i s size) (one refl) i.code in
    let inside : once same_place (block_writes s) ≡ true = grind (arith, five-once s.p (split60 (slice_index s.central s.a))) in
    each-once same_place self (pp_writes s) (either same_place (s.phase == 0) _ _ outside (one inside)).holds
