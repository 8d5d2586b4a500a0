-- An action that is performed again and again.
use Rattle.pp_history.proofs.Names.{◌≡◌, ℕ, zero, suc, ◌+◌, ◌-◌, ◌≤◌, Option, Some, IfSome, add-one, arith, ap, refl, inl, inr}
use Rattle.pp_history.proofs.Names.{cases_lt, first_of, IsUnmarked, AreUnmarked, after_acts, machine_after, SessionValue, after_act}
use Rattle.pp_history.proofs.Names.{replay, IsKept, in_tail, Marks, Ghosts, Tails, Log, IsActed, IsSession, ◌∙◌, ◌<◌, AreActed}
use Rattle.pp_history.proofs.Names.{false, Global, Heads, IsHeads, IsSame, List, [], ◌∷◌, None, Vec, drop, drop-drop, drop-set}
use Rattle.pp_history.proofs.Names.{length, length-take, length-drop, length-set, min, set, sym, take, take-add, take-set}
use Rattle.pp_history.proofs.Names.{append_assoc, ◌++◌, with_items, with_items_is}
use Rattle.std.proofs.lemmas.List.{take-take, take-append-drop}
use Rattle.pp_history.proofs.Runs.{IsRun, act_next, run_none, with_head}

module _ {M A : Type 0} where
  -- once more
  pub after_acts_more : (count : ℕ) (action : A) (v : SessionValue M A) →
      after_acts (count + 1) action v ≡ after_act (after_acts count action v) action
  unfolding after_acts
  after_acts_more count action v = rw add-one refl

-- the action that was kept is that of its head, or else of the newest tail
pub put_first : {A R H : Type 0} (unpacked : H → A × R) (head : Option H) (tails tails' : Tails A R) (action : A) (back : R) →
    1 ≤ tails.ring.capacity → IsKept unpacked head action back tails tails' →
    first_of unpacked in_tail head tails'.ring.items ≡ Some (action, back)
put_first unpacked head tails tails' action back room kept =
    let one : tails.ring.capacity ≡ suc (tails.ring.capacity - 1) = omega (arith, room) in
    grind (arith, one, kept)

module _ {M A R P H : Type 0} (rules : Ghosts M A R P H) where
  -- the replay after the action was performed this many times
  pub acts_replayed : (count : ℕ) (action : A) (v : SessionValue M A) →
      replay rules (after_acts count action v).start (after_acts count action v).standing ≡ machine_after rules count action
      (replay rules v.start v.standing)
  unfolding after_acts
  acts_replayed zero action v = refl
  acts_replayed (suc count) action v = ap (λ machine. rules.after_act machine action) (acts_replayed count action v)

  pub machine_after_more : (count : ℕ) (action : A) (machine : M) →
      machine_after rules (count + 1) action machine ≡ rules.after_act (machine_after rules count action machine) action
  machine_after_more count action machine = rw add-one refl

  -- once more, without a covered place
  pub unmarked_more : (marks_of : P → Option (ℕ × ℕ)) (marks : Marks) {action : A} {count : ℕ} {start machine machine' : M}
      {head' : Option H} {tails tails' : Tails A R}
      → machine ≡ machine_after rules count action start → machine' ≡ machine_after rules (count + 1) action start → IsActed rules
      machine machine' action head' tails tails'
      → 1 ≤ tails.ring.capacity → IfSome (first_of rules.unpacked in_tail head' tails'.ring.items)
      (λ newest. IsUnmarked marks_of rules.old_value marks newest.1)
      → AreUnmarked rules marks_of marks action count start → AreUnmarked rules marks_of marks action (count + 1) start
  unmarked_more marks_of marks {action = action} {count = count} {head' = head'} {tails = tails} {tails' = tails'} old new done room
      unmarked before k less = elim (cases_lt k count) [
        | inl earlier ↦ before k earlier
        | inr past ↦
            let here : k ≡ count = omega (arith, less, past) in
            let first = put_first rules.unpacked head' tails tails' action done.back room done.kept in
            rw (here, ← old, ← new) (done.back, done.fits, done.leads_back, rw first at unmarked)
      ]

  -- the session after the action was performed this many times
  pub record IsRepeated (start : M) (old : Log A R H) (action : A) (count : ℕ) (machine : M) (log : Log A R H) : Type 0 where
    pub machine_is : machine ≡ machine_after rules count action start
    pub run : IsRun rules start old (after_acts count action) machine log

  pub repeat_none : (machine : M) (log : Log A R H) (action : A) → IsSession rules machine log →
      IsRepeated machine log action 0 machine log
  unfolding after_acts
  repeat_none machine log action is = record
      { machine_is = refl; run = run_none rules machine log (after_acts 0 action) (λ v. refl) is }

  pub repeat_more : {start : M} {old : Log A R H} {action : A} {count : ℕ} {now : M} {log : Log A R H} →
      IsRepeated start old action count now log → {machine : M} {log' : Log A R H} → machine ≡ rules.after_act now action →
      IsRun rules start old (λ v. after_act (after_acts count action v) action) machine log' →
      IsRepeated start old action (count + 1) machine log'
  unfolding after_acts
  repeat_more {action = action} repeated next run =
      rw add-one (record { machine_is = next ∙ ap (λ machine. rules.after_act machine action) repeated.machine_is; run = run })

-- the slots before a place, with a head written into the last of them
pub set_last : {X : Type 0} (left : ℕ) (heads : List X) (x : X) → 0 < left → left ≤ length heads →
    drop (left - 1) (set heads (left - 1) x) ≡ x ∷ drop left heads
set_last left heads x some within =
    let next : left - 1 + 1 ≡ left = omega (arith, some) in
    rw next at (drop-set heads (left - 1) x (omega (arith, some, within)))

pub take_less : {X : Type 0} (less more : ℕ) (xs ys : List X) → less ≤ more → take more xs ≡ take more ys →
    take less xs ≡ take less ys
take_less less more xs ys at_most same =
    sym (take-take less more xs at_most) ∙ ap (take less) same ∙ take-take less more ys at_most

-- heads written into the slots from one on
abbrev pub placed : {X : Type 0} → List X → ℕ → List X → List X
placed slots at [] = slots
placed slots at (head ∷ later) = set (placed slots (at + 1) later) at head

pub length-placed : {X : Type 0} (slots : List X) (at : ℕ) (heads : List X) → length (placed slots at heads) ≡ length slots
length-placed slots at [] = refl
length-placed slots at (head ∷ later) = length-set (placed slots (at + 1) later) at head ∙ length-placed slots (at + 1) later

-- the slots before a place stay, and from it on the heads are there
placed_parts : {X : Type 0} (slots : List X) (at : ℕ) (heads : List X) → at + length heads ≤ length slots →
    (take at (placed slots at heads) ≡ take at slots) × (drop at (placed slots at heads) ≡ heads ++ drop (at + length heads) slots)
placed_parts slots at [] fits = let none : at + 0 ≡ at = omega arith in (refl, rw none refl)
placed_parts slots at (head ∷ later) fits =
    let was = placed_parts slots (at + 1) later (omega (arith, fits)) in
    let slots' = placed slots (at + 1) later in
    let next : at + length (head ∷ later) ≡ at + 1 + length later = omega arith in (
      take-set slots' at head ∙ take_less at (at + 1) slots' slots (omega arith) was.0,
      rw next (drop-set slots' at head (omega (arith, fits, length-placed slots (at + 1) later)) ∙ ap (λ xs. head ∷ xs) was.1),
    )

-- the heads of a stretch are as many as its slots
pub part_long : {X : Type 0} (slots heads : List X) (first end : ℕ) → first ≤ end → end ≤ length slots →
    length heads ≡ length (take (end - first) (drop first slots)) → length heads ≡ end - first
part_long slots heads first end some within same =
    omega (arith, some, within, same, length-take (end - first) (drop first slots), length-drop first slots)

-- the slots with those of a stretch written, of which the first so many stay
spliced : {X : Type 0} (slots : List X) (first end : ℕ) (heads : List X) (left : ℕ) → first ≤ end → end ≤ length slots →
    length heads ≡ end - first → left ≤ length heads → take left heads ≡ take left (take (end - first) (drop first slots)) →
    take first slots ++ (heads ++ drop (end - first) (drop first slots)) ≡ placed slots (first + left) (drop left heads)
spliced slots first end heads left some within long less same =
    let many = length-drop left heads in
    let parts = placed_parts slots (first + left) (drop left heads) (omega (arith, some, within, long, less, many)) in
    let ends : first + left + length (drop left heads) ≡ end = omega (arith, some, within, long, less, many) in
    let front : take (first + left) slots ≡ take first slots ++ take left heads =
    take-add first left slots ∙ ap (λ xs. take first slots ++ xs)
    (sym (take-take left (end - first) (drop first slots) (omega (arith, long, less))) ∙ sym same) in
    let there : first + (end - first) ≡ end = omega (arith, some) in
    rw (
      drop-drop (end - first) first slots,
      there,
      ← take-append-drop (first + left) (placed slots (first + left) (drop left heads)),
      parts.0,
      parts.1,
      ends,
      front,
      append_assoc (take first slots) (take left heads) (drop left heads ++ drop end slots),
      ← append_assoc (take left heads) (drop left heads) (drop end slots),
      take-append-drop left heads,
    ) refl

-- the block with the slots of a stretch written
pub written_block : {H : Type 0} (block : Vec (Option H) Global) (slots : List (Option H)) (first end : ℕ) (heads : List (Option H))
    (left : ℕ) →
    slots ≡ block.items → first ≤ end → end ≤ length slots → length heads ≡ end - first → left ≤ length heads →
    take left heads ≡ take left (take (end - first) (drop first slots)) →
    (with_items block (take first slots ++ (heads ++ drop (end - first) (drop first slots)))).items ≡ placed block.items
    (first + left) (drop left heads)
written_block block slots first end heads left is some within long less same =
    let now : take first slots ++ (heads ++ drop (end - first) (drop first slots)) ≡ placed block.items (first + left)
    (drop left heads) =
    rw (← is) (spliced slots first end heads left some within long less same) in
    with_items_is block _ (ap length now ∙ length-placed block.items (first + left) (drop left heads) ∙ sym block.ok.0) ∙ now

module _ {M A R P H : Type 0} (rules : Ghosts M A R P H) where
  -- the machine and the tails after a stretch
  pub acted_machine : (action : A) (heads : List (Option H)) (old new : M) (tails tails' : Tails A R) →
      AreActed rules action heads old new tails tails' →
      (new ≡ machine_after rules (length heads) action old) × (tails'.ring.capacity ≡ tails.ring.capacity)
  acted_machine action [] old new tails tails' (same, same_tails) =
      (same, ap (λ (tails : Tails A R). tails.ring.capacity) same_tails)
  acted_machine action (Some head ∷ earlier) old new tails tails' (machine, between, before, acted) =
      let was = acted_machine action earlier old machine tails between before in grind (arith, was, acted.next, acted.kept)
  acted_machine action (None ∷ earlier) old new tails tails' (machine, between, before, acted) =
      let was = acted_machine action earlier old machine tails between before in grind (arith, was, acted.next, acted.kept)

  -- no undo record has one of the places, since there are none
  pub unmarked_without_places : (marks_of : P → Option (ℕ × ℕ)) (marks : Marks) → marks.has_places ≡ false →
      (action : A) (heads : List (Option H))
      (old new : M) (tails tails' : Tails A R) → AreActed rules action heads old new tails tails' →
      AreUnmarked rules marks_of marks action (length heads) old
  unmarked_without_places marks_of marks none action [] old new tails tails' acted k less = absurd (omega (arith, less))
  unmarked_without_places marks_of marks none action (head ∷ earlier) old new tails tails' (machine, between, before, acted) k
      less = elim (cases_lt k (length earlier)) [
        | inl less' ↦ unmarked_without_places marks_of marks none action earlier old machine tails between before k less'
        | inr past ↦
            let here : k ≡ length earlier = omega (arith, less, past) in
            let was = (acted_machine action earlier old machine tails between before).0 in
            rw (here, machine_after_more rules (length earlier) action old, ← was, ← acted.next)
            (acted.back, acted.fits, acted.leads_back, λ p covered. grind (arith, none, covered))
      ]

  -- first so many times, and then more
  machine_after_both : (count more : ℕ) (action : A) (start : M) →
      machine_after rules more action (machine_after rules count action start) ≡ machine_after rules (count + more) action start
  machine_after_both count zero action start = let none : count + zero ≡ count = omega arith in rw none refl
  machine_after_both count (suc more) action start = let next : count + suc more ≡ suc (count + more) = omega arith in
      rw next (ap (λ machine. rules.after_act machine action) (machine_after_both count more action start))

  pub unmarked_both : (marks_of : P → Option (ℕ × ℕ)) (marks : Marks) (action : A) (count more : ℕ) (start machine : M) →
      machine ≡ machine_after rules count action start → AreUnmarked rules marks_of marks action count start →
      AreUnmarked rules marks_of marks action more machine → AreUnmarked rules marks_of marks action (count + more) start
  unmarked_both marks_of marks action count more start machine is before later k less = elim (cases_lt k count) [
    | inl earlier ↦ before k earlier
    | inr past ↦
        let here : count + (k - count) ≡ k = omega (arith, past) in
        let next : count + (k - count + 1) ≡ k + 1 = omega (arith, past) in
        rw (
          is,
          machine_after_both count (k - count) action start,
          machine_after_both count (k - count + 1) action start,
          here,
          next,
        )
        at (later (k - count) (omega (arith, less, past)))
  ]

  -- a stretch more
  pub repeat_stretch : {start : M} {old : Log A R H} {action : A} {count : ℕ} {now : M} {log : Log A R H} →
      IsRepeated rules start old action count now log → ((machine : M) → rules.admitted machine action) →
      (heads : Heads H) (at end : ℕ) → IsHeads heads → end ≤ 256 → IsSame log.heads log.at heads end →
      (head : Option H) (earlier : List (Option H)) → end ≡ at + length earlier + 1 →
      (machine : M) (tails : Tails A R) → AreActed rules action (head ∷ earlier) now machine log.tails tails →
      (block : Vec (Option H) Global) → block.items ≡ placed heads.block.items at (head ∷ earlier) →
      (kept : ℕ) → kept ≡ min (log.kept + (length earlier + 1)) heads.capacity →
      IsRepeated rules start old action (count + (length earlier + 1)) machine
      (with_head rules (record log { heads = heads }) block at kept 0 tails log.undone)
  repeat_stretch {now = now} {log = log} repeated admits heads at end is within same head [] long machine tails
      (was, between, (same_machine, same_tails), acted) block set_is kept counted =
      let acted' = rw (same_machine, same_tails) at acted in
      let here : end ≡ at + 1 = omega (arith, long) in
      repeat_more rules repeated acted'.next (act_next rules repeated.run heads at is (omega (arith, within, long))
      (rw here at same) head block set_is acted' kept counted (admits now))
  repeat_stretch {count = count} {log = log} repeated admits heads at end is within same head (next ∷ earlier) long machine tails
      (was, between, before, acted) block set_is kept counted =
      let slots = placed heads.block.items (at + 1) (next ∷ earlier) in
      let block' = with_items heads.block slots in
      let slots_are : block'.items ≡ slots = with_items_is heads.block slots
      (length-placed heads.block.items (at + 1) (next ∷ earlier) ∙ sym heads.block.ok.0) in
      let kept' = min (log.kept + (length earlier + 1)) heads.capacity in
      let run = repeat_stretch repeated admits heads (at + 1) end is within same next earlier (omega (arith, long)) was between
      before block' slots_are kept' refl in
      let more : count + (length (next ∷ earlier) + 1) ≡ count + (length earlier + 1) + 1 = omega arith in
      rw more (repeat_more rules run acted.next
      (act_next rules run.run (record heads { block = block' }) at run.run.heads (omega (arith, within, long))
      (record { capacity = refl; halves = λ kept ahead few few'. refl }) head block (rw slots_are set_is) acted kept
      (omega (arith, counted)) (admits was)))

  -- so many repetitions more, which are there
  pub repeat_part : {start : M} {old : Log A R H} {action : A} {count : ℕ} {now : M} {log : Log A R H} →
      IsRepeated rules start old action count now log → ((machine : M) → rules.admitted machine action) →
      (heads : Heads H) (at end : ℕ) → IsHeads heads → end ≤ 256 → IsSame log.heads log.at heads end → at < end →
      (written : List (Option H)) → length written ≡ end - at →
      (machine : M) (tails : Tails A R) → AreActed rules action written now machine log.tails tails →
      (block : Vec (Option H) Global) → block.items ≡ placed heads.block.items at written →
      (kept : ℕ) → kept ≡ min (log.kept + (end - at)) heads.capacity →
      IsRepeated rules start old action (count + (end - at)) machine
      (with_head rules (record log { heads = heads }) block at kept 0 tails log.undone)
  repeat_part repeated admits heads at end is within same some [] long machine tails acted block set_is kept counted = absurd
      (omega (arith, some, long))
  repeat_part repeated admits heads at end is within same some (head ∷ earlier) long machine tails acted block set_is kept counted =
      let many : end - at ≡ length earlier + 1 = omega (arith, long) in
      rw many (repeat_stretch repeated admits heads at end is within same head earlier (omega (arith, some, many)) machine tails
      acted block set_is kept (rw many at counted))
