-- Actions that are performed again, one for each head of a stretch.
use Rattle.pp_history.proofs.Names.{◌≡◌, ◌∙◌, ℕ, suc, ◌+◌, ◌-◌, ◌<◌, ◌≤◌, List, [], ◌∷◌, ◌++◌, Option, Some, None, IsSomeAnd}
use Rattle.pp_history.proofs.Names.{Global, Vec, ap, arith, refl, sym, drop, AreReady, AreRedone, Buffer, Ghosts, IsActed, IsHeads}
use Rattle.pp_history.proofs.Names.{IsSame, IsSession, Heads, Log, Tails, after_forward, drop-append-le, drop-drop, get_or, length}
use Rattle.pp_history.proofs.Names.{length-drop, slice_get, slice_get-append_left, slice_get-drop, slice_get-take, slice_get-get_or}
use Rattle.pp_history.proofs.Names.{slice_get_within, take, take-append-drop, take-set, with_items, with_items_is}
use Rattle.pp_history.proofs.{Blocks.is_still, Joins.drop-at}
use Rattle.pp_history.proofs.Repeats.{length-placed, part_long, placed, take_less, written_block}
use Rattle.pp_history.proofs.Runs.{IsRun, admits_next, forward_more, run_ends, run_here, run_none, run_turned, with_head}

-- the last of the first heads, which are left as they were
pub found_in : {X : Type 0} (left : ℕ) (heads old : List X) (d : X) → 0 < left → left ≤ length old → length heads ≡ length old →
    take left heads ≡ take left old → slice_get old (left - 1) ≡ Some (get_or heads (left - 1) d)
found_in left heads old d some within long same =
    sym (slice_get-take left old (left - 1) (omega (arith, some))) ∙ ap (λ xs. slice_get xs (left - 1)) (sym same)
    ∙ slice_get-take left heads (left - 1) (omega (arith, some)) ∙ slice_get-get_or heads (left - 1) d
    (omega (arith, some, within, long))

pub drop_here : {X : Type 0} (left : ℕ) (heads : List X) (head : X) → 0 < left → slice_get heads (left - 1) ≡ Some head →
    drop (left - 1) heads ≡ head ∷ drop left heads
drop_here left heads head some found =
    let next : suc (left - 1) ≡ left = omega (arith, some) in
    rw next at (drop-at (left - 1) heads head found)

-- heads written from a place on leave those before it
left_alone : {X : Type 0} (slots : List X) (at : ℕ) (heads : List X) → take at (placed slots at heads) ≡ take at slots
left_alone slots at [] = refl
left_alone slots at (head ∷ later) =
    take-set (placed slots (at + 1) later) at head ∙ take_less at (at + 1) (placed slots (at + 1) later) slots (omega arith)
    (left_alone slots (at + 1) later)

-- the head before those that were written
found_before : {X : Type 0} (slots heads rest heads' : List X) (at n slot : ℕ) (head : X) → drop at slots ≡ heads ++ rest →
    slot ≡ at + n → slice_get heads n ≡ Some head → slice_get (placed slots (slot + 1) heads') slot ≡ Some head
found_before slots heads rest heads' at n slot head is here found =
    sym (slice_get-take (slot + 1) (placed slots (slot + 1) heads') slot (omega arith)) ∙ ap (λ xs. slice_get xs slot)
    (left_alone slots (slot + 1) heads')
    ∙ slice_get-take (slot + 1) slots slot (omega arith) ∙ sym (slice_get-drop at slots n slot here) ∙ ap (λ xs. slice_get xs n) is
    ∙ slice_get-append_left heads rest n (slice_get_within heads n head found) ∙ found

module _ {M A R P H : Type 0} (rules : Ghosts M A R P H) where
  -- the ring of tails has the same room
  pub same_room : (old new : M) (tails tails' : Tails A R) (action : Option A) (head : Option H) → 1 ≤ tails.ring.capacity →
      IsSomeAnd action (λ action. IsActed rules old new action head tails tails') → 1 ≤ tails'.ring.capacity
  same_room old new tails tails' None head room acted = absurd acted
  same_room old new tails tails' (Some action) (Some head) room acted = grind (arith, acted.kept)
  same_room old new tails tails' (Some action) None room acted = grind (arith, acted.kept)

  module _ {start : M} {old : Log A R H} (session : IsSession rules start old) where
    -- so many actions were performed again, each with its head
    pub forward_stretch : (count : ℕ) (heads heads' rest : List (Option H)) (at : ℕ) → count ≡ length heads →
        old.at ≡ at + length heads → drop at old.heads.block.items ≡ heads ++ rest → length heads ≤ old.ahead →
        (machine : M) (tails : Tails A R) (undone : Buffer A) →
        AreRedone rules heads heads' start machine old.tails tails old.undone undone → (block : Vec (Option H) Global) →
        block.items ≡ placed old.heads.block.items at heads' → (kept ahead : ℕ) → kept ≡ old.kept + length heads →
        old.ahead ≡ ahead + length heads →
        IsRun rules start old (λ v. after_forward v count) machine (with_head rules old block at kept ahead tails undone)
    forward_stretch count [] heads' rest at done ends is enough machine tails undone (none, same_machine, same_tails, same_undone)
        block set_is kept ahead counted left =
        let here : old.at ≡ at = omega (arith, ends) in
        let kept_is : kept ≡ old.kept = omega (arith, counted) in
        let ahead_is : ahead ≡ old.ahead = omega (arith, left) in
        let same : block.items ≡ old.heads.block.items = rw none at set_is in
        rw (done, same_machine, same_tails, same_undone, kept_is, ahead_is, ← here)
        (run_turned rules (run_none rules start old (λ v. after_forward v 0) (λ v. grind arith) session)
        (record old.heads { block = block }) old.at
        (is_still session.heads (ap length same ∙ session.heads.block) session.heads.others refl refl refl) session.within
        (record { capacity = refl; halves = λ kept ahead few few'. rw same refl }))
    forward_stretch count (head ∷ earlier) [] rest at done ends is enough machine tails undone redone block set_is kept ahead
        counted left = absurd redone
    forward_stretch count (head ∷ earlier) (head' ∷ earlier') rest at done ends is enough machine tails undone
        (was, between, items, before, acted, undone_is) block set_is kept ahead counted left =
        let slots = placed old.heads.block.items (at + 1) earlier' in
        let block' = with_items old.heads.block slots in
        let slots_are : block'.items ≡ slots = with_items_is old.heads.block slots
        (length-placed old.heads.block.items (at + 1) earlier' ∙ sym old.heads.block.ok.0) in
        let next : drop (at + 1) old.heads.block.items ≡ earlier ++ rest = sym (drop-drop 1 at old.heads.block.items) ∙ ap (drop 1)
        is in
        let run = forward_stretch (length earlier) earlier earlier' rest (at + 1) refl (omega (arith, ends)) next
        (omega (arith, enough)) was between items before block' slots_are
        (old.kept + length earlier) (ahead + 1) refl (omega (arith, left)) in
        let found : slice_get block'.items at ≡ Some head =
        rw slots_are (found_before old.heads.block.items (head ∷ earlier) rest earlier' at 0 at head is (omega arith) refl) in
        let more : count ≡ length earlier + 1 = omega (arith, done) in
        rw more (forward_more rules (length earlier) run at refl head found ahead (omega arith) session head' block
        (rw slots_are set_is)
        tails kept (omega (arith, counted)) acted undone_is)

    -- each action of these heads is admitted in its turn
    pub are_ready : (heads rest : List (Option H)) (at : ℕ) → old.at ≡ at + length heads →
        drop at old.heads.block.items ≡ heads ++ rest → length heads ≤ old.ahead → AreReady rules heads start old.tails old.undone
    are_ready heads rest at ends is enough n head found heads' machine tails undone redone =
        let items = old.heads.block.items in
        let slot = at + n in
        let within = slice_get_within heads n head found in
        let later = drop (n + 1) heads in
        let many : length later ≡ length heads - (n + 1) = length-drop (n + 1) heads in
        let sum : at + (n + 1) ≡ slot + 1 = omega arith in
        let next : drop (slot + 1) items ≡ later ++ rest =
        rw sum at (sym (drop-drop (n + 1) at items) ∙ ap (drop (n + 1)) is ∙ drop-append-le (n + 1) heads rest
        (omega (arith, within))) in
        let slots = placed items (slot + 1) heads' in
        let block = with_items old.heads.block slots in
        let slots_are : block.items ≡ slots = with_items_is old.heads.block slots
        (length-placed items (slot + 1) heads' ∙ sym old.heads.block.ok.0) in
        let left = old.ahead - length later in
        let run = forward_stretch (length later) later heads' rest (slot + 1) refl (omega (arith, ends, many, within)) next
        (omega (arith, enough, many)) machine tails undone redone
        block slots_are (old.kept + length later) left refl (omega (arith, enough, many)) in
        admits_next rules (length later) run slot refl head
        (rw slots_are (found_before items heads rest heads' at n slot head is refl found))
        (left - 1) (omega (arith, enough, many, within)) session

  -- the next actions, of the slots before a place
  module _ {start : M} {log : Log A R H} (session : IsSession rules start log) (heads : Heads H) (end : ℕ) (is : IsHeads heads)
      (within : end ≤ 256)
      (same : IsSame log.heads log.at heads end) (count : ℕ) (less : count ≤ end) (enough : count ≤ log.ahead)
      (slots : List (Option H)) (slots_are : slots ≡ heads.block.items) where
    abbrev first : ℕ
    first = end - count

    abbrev part : List (Option H)
    part = take (end - first) (drop first slots)

    abbrev turned : Log A R H
    turned = record log { heads = heads; at = end }

    began : IsSession rules start turned
    began = run_ends rules session (run_here rules session heads end is within same)

    many : end ≤ length slots
    many = omega (arith, within, ap length slots_are, is.block)

    long : length part ≡ count
    long = omega (arith, less, part_long slots part first end (omega (arith, less)) many refl)

    parted : drop first heads.block.items ≡ part ++ drop (end - first) (drop first slots)
    parted = rw (← slots_are) (sym (take-append-drop (end - first) (drop first slots)))

    pub part_ready : AreReady rules part start log.tails log.undone
    part_ready = are_ready began part (drop (end - first) (drop first slots)) first (omega (arith, less, long)) parted
        (omega (arith, enough, long))

    pub part_forward : (heads' : List (Option H)) → length heads' ≡ length part →
        (machine : M) (tails : Tails A R) (undone : Buffer A) →
        AreRedone rules part heads' start machine log.tails tails log.undone undone →
        IsRun rules start log (λ v. after_forward v count) machine
        (with_head rules turned (with_items heads.block (take first slots ++ (heads' ++ drop (end - first) (drop first slots))))
        first
        (log.kept + count) (log.ahead - count) tails undone)
    part_forward heads' same_length machine tails undone redone =
        let none : first + 0 ≡ first = omega arith in
        let written = rw none at (written_block heads.block slots first end heads' 0 slots_are (omega (arith, less)) many
        (omega (arith, less, long, same_length)) (omega arith) refl) in
        let run = forward_stretch began count part heads' (drop (end - first) (drop first slots)) first (sym long)
        (omega (arith, less, long)) parted (omega (arith, enough, long))
        machine tails undone redone _ written (log.kept + count) (log.ahead - count) (omega (arith, long))
        (omega (arith, enough, long)) in
        let here = run_here rules session heads end is within same in
        record {
          heads = run.heads;
          within = run.within;
          full = run.full;
          span = record { joined = run.span.joined; moves = λ v at. run.span.moves v (here.span.moves v at) };
        }
