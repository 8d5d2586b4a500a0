-- What is recorded of an action that is performed again and again.
use Rattle.pp_history.proofs.Names.{◌≡◌, ◌∙◌, ℕ, ◌+◌, ◌-◌, ◌*◌, ◌<◌, ◌≤◌, List, [], ◌∷◌, ◌++◌, Option, Some, IfSome}
use Rattle.pp_history.proofs.Names.{AreActed, Heads, IsHeads, IsSame, IsSession, Log, min, with_items}
use Rattle.pp_history.proofs.Names.{add-one, ap, append-nil, append_assoc, arith, drop, first_of, in_tail, length, length-append}
use Rattle.pp_history.proofs.Names.{machine_after, option_map, refl, sym, take, set, Ghosts, IsActed, Tails}
use Rattle.pp_history.proofs.{Repeats.IsRepeated, Repeats.part_long, Repeats.put_first, Repeats.repeat_none, Repeats.repeat_part}
use Rattle.pp_history.proofs.{Repeats.written_block, Runs.with_head}
use Rattle.pp_history.specs.Recording.{IsRecorded, moment_at, moments_after, olds_after, olds_at}
use Rattle.std.proofs.lemmas.List.{length-map, length-take-le, take_more_set}
use Rattle.std.specs.{Option.IsSome, Prelude.map}

-- a value that is there
pub some_there : {X Y : Type 0} (f : X → Y) (result : Option X) (y : Y) → option_map f result ≡ Some y → IsSome result
some_there f result y is = grind arith

pub is_there : {X Y : Type 0} (f : X → Y) (result : Option X) (x : X) (y : Y) → option_map f result ≡ Some y → result ≡ Some x →
    f x ≡ y
is_there f result x y is found = grind arith

-- places that were put behind others are counted by how far they reach
pub put_count : {B O : Type 0} (f : B → O) (olds olds' : List O) (used end : ℕ) (pairs : List B) → used ≤ length olds →
    end ≤ length olds' → take end olds' ≡ take used olds ++ map f pairs → end ≡ used + length pairs
put_count f olds olds' used end pairs within within' is = omega (
  arith,
  length-take-le used olds within,
  length-take-le end olds' within',
  ap length is,
  length-append (take used olds) (map f pairs),
  length-map pairs f,
)

-- room for one more time
next_room : (left most : ℕ) → (left + 1) * most ≡ left * most + most
next_room left most = grind arith

pub room_more : (left most : ℕ) → 0 < left → left * most ≡ (left - 1) * most + most
room_more left most some = let next : left ≡ left - 1 + 1 = omega (arith, some) in ap (λ n. n * most) next ∙ next_room (left - 1)
    most

module _ {A R P M H : Type 0} (rules : Ghosts M A R P H) where
  -- the undo record that was kept is that of the head, or else of the newest tail
  pub kept_first : {X : Type 0} (whole : X → R) (result : Option X) (old new : M) (action : A) (head : Option H)
      (tails tails' : Tails A R) →
      1 ≤ tails.ring.capacity → (acted : IsActed rules old new action head tails tails') →
      IfSome (first_of rules.unpacked in_tail head tails'.ring.items) (λ entry. option_map whole result ≡ Some entry.1) →
      option_map whole result ≡ Some acted.back
  kept_first whole result old new action head tails tails' room acted found =
      rw (put_first rules.unpacked head tails tails' action acted.back room acted.kept) at found

  -- a stretch alone, of so many repetitions
  pub repeat_alone : {now : M} {log : Log A R H} {action : A} → IsSession rules now log →
      ((machine : M) → rules.admitted machine action) → (heads : Heads H) (end : ℕ) → IsHeads heads → end ≤ 256 →
      IsSame log.heads log.at heads end → (count : ℕ) → 1 ≤ count → count ≤ end → (slots : List (Option H)) →
      slots ≡ heads.block.items → (written : List (Option H)) →
      length written ≡ length (take (end - (end - count)) (drop (end - count) slots)) → (machine : M) (tails : Tails A R) →
      AreActed rules action written now machine log.tails tails → (kept : ℕ) → kept ≡ min (log.kept + count) heads.capacity →
      IsRepeated rules now log action count machine
      (with_head rules (record log { heads = heads })
      (with_items heads.block (take (end - count) slots ++ (written ++ drop (end - (end - count)) (drop (end - count) slots))))
      (end - count) kept 0 tails log.undone)
  repeat_alone {now = now} {log = log} {action = action} is admits heads end are within same count some enough slots slots_are
      written long machine tails acted kept counted =
      let at = end - count in
      let inside : end ≤ length slots = omega (arith, within, ap length slots_are, are.block) in
      let all = part_long slots written at end (omega arith) inside long in
      let many : end - at ≡ count = omega (arith, enough) in
      let first : at + 0 ≡ at = omega arith in
      let times : 0 + (end - at) ≡ count = omega (arith, enough) in
      let block = rw first at (written_block heads.block slots at end written 0 slots_are (omega arith) inside all (omega arith)
      refl) in
      rw times at (repeat_part rules (repeat_none rules now log action is) admits heads at end are within same
      (omega (arith, some, enough)) written all machine tails acted
      (with_items heads.block (take at slots ++ (written ++ drop (end - at) (drop at slots)))) block kept (rw many counted))

  module _ {X O : Type 0} (label_of : M → ℕ) (moment_of : ℕ → ℕ → X) (old_of : P × ℕ → O) (action : A) (s : M) (first : ℕ)
      (made : List X) (used : ℕ)
      (olds : List O) where
    abbrev pub Recorded : ℕ → List X → ℕ → List O → Type 0
    Recorded count made' used' olds' = IsRecorded rules label_of moment_of old_of action count s first made made' used used' olds
        olds'

    pub recorded_none : Recorded 0 made used olds
    unfolding moments_after olds_after
    recorded_none =
        let none : first + 0 ≡ first = omega arith in
        record { moments = rw none (sym (append-nil (take first made))); overwritten = sym (append-nil (take used olds)) }

    moments_more : (count : ℕ) → moments_after rules label_of moment_of (count + 1) action s
        ≡ moments_after rules label_of moment_of count action s ++ moment_at rules label_of moment_of action
        (machine_after rules count action s) ∷ []
    unfolding moments_after
    moments_more count = rw add-one refl

    olds_more : (count : ℕ) → olds_after rules old_of (count + 1) action s
        ≡ olds_after rules old_of count action s ++ olds_at rules old_of action (machine_after rules count action s)
    unfolding olds_after
    olds_more count = rw add-one refl

    -- once more
    pub recorded_more : (count : ℕ) (made' : List X) (used' : ℕ) (olds' : List O) → Recorded count made' used' olds' →
        (machine : M) → machine ≡ machine_after rules count action s → (x : X) →
        x ≡ moment_at rules label_of moment_of action machine → first + count < length made' → (used'' : ℕ) (olds'' : List O) →
        take used'' olds'' ≡ take used' olds' ++ olds_at rules old_of action machine →
        Recorded (count + 1) (set made' (first + count) x) used'' olds''
    recorded_more count made' used' olds' was machine is x x_is within used'' olds'' put =
        let next : first + (count + 1) ≡ first + count + 1 = omega arith in record {
          moments = rw (next, moments_more count) (take_more_set made' (first + count) x within
              ∙ ap (λ moments. moments ++ x ∷ []) was.moments
              ∙ append_assoc (take first made) (moments_after rules label_of moment_of count action s) (x ∷ [])
              ∙ ap (λ x. take first made ++ (moments_after rules label_of moment_of count action s ++ x ∷ []))
              (x_is ∙ ap (moment_at rules label_of moment_of action) is));
          overwritten = rw (olds_more count) (put ∙ ap (λ places. places ++ olds_at rules old_of action machine) was.overwritten
              ∙ append_assoc (take used olds) (olds_after rules old_of count action s) (olds_at rules old_of action machine)
              ∙ ap (λ s'. take used olds ++ (olds_after rules old_of count action s ++ olds_at rules old_of action s')) is);
        }
