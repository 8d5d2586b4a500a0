-- Actions that are undone, one for each head of a stretch.
use Rattle.pp_history.proofs.Names.{◌≡◌, ◌∙◌, ℕ, suc, ◌+◌, ◌-◌, ◌<◌, ◌≤◌, List, [], ◌∷◌, ◌++◌, Option, Some, None, IsSomeAnd}
use Rattle.pp_history.proofs.Names.{ap, arith, refl, sym, drop, AreFitting, AreUndone, IsUndone, Buffer, Ghosts, IsHeads, IsNext}
use Rattle.pp_history.proofs.Names.{IsSame, IsSession, Heads, Log, Tails, after_back, drop-drop, length, length-drop, length-take}
use Rattle.pp_history.proofs.Names.{first_of, in_tail, pushed, slice_get, slice_get-drop, take, take-append-drop}
use Rattle.pp_history.proofs.Runs.{IsRun, back_more, fits_newest, run_none, run_turned}

is_some : {X : Type 0} (o : Option X) (P : X → Type 0) → IsSomeAnd o P → (x : X) × (o ≡ Some x)
is_some None P some = absurd some
is_some (Some x) P some = (x, refl)

-- the undone actions with one more, if no head holds it
abbrev next_undone : {A H : Type 0} → Option H → A → Buffer A → Buffer A
next_undone (Some head) action old = old
next_undone None action old = pushed action old

is_next : {A R H : Type 0} (unpacked : H → A × R) (head : Option H) (action : A) (old : Buffer A) →
    IsNext unpacked head action old (next_undone head action old)
is_next unpacked (Some head) action old = refl
is_next unpacked None action old = refl

same_room : {A R H : Type 0} (unpacked : H → A × R) (head : Option H) (action : A) (old new : Buffer A) →
    IsNext unpacked head action old new → new.capacity ≡ old.capacity
same_room {A = A} unpacked (Some head) action old new next = ap (λ (ring : Buffer A). ring.capacity) next
same_room {A = A} unpacked None action old new next = ap (λ (ring : Buffer A). ring.capacity) next

module _ {M A R P H : Type 0} (rules : Ghosts M A R P H) where
  -- the later records fit after the first head's action was undone
  pub later_fit : (head : Option H) (later : List (Option H)) (old new : M) (tails tails' : Tails A R) (undone undone' : Buffer A) →
      AreFitting rules (head ∷ later) old tails → IsUndone rules head old new tails tails' undone undone' →
      AreFitting rules later new tails' × (undone'.capacity ≡ undone.capacity)
  later_fit head later old new tails tails' undone undone' fit (undid, left) =
      let (newest, first) = is_some (first_of rules.unpacked in_tail head tails.ring.items) _ undid in
      let did = rw first at undid in
      (rw did.0 ((rw first at fit).1 tails' left), same_room rules.unpacked head newest.0 undone undone' did.1)

  -- undoing leads to these undone actions
  undone_by : (head : Option H) (now : M) (tails : Tails A R) (undone : Buffer A) (newest : A × R) →
      first_of rules.unpacked in_tail head tails.ring.items ≡ Some newest →
      IsSomeAnd (first_of rules.unpacked in_tail head tails.ring.items) (λ found.
      (rules.after_undo newest.1 now ≡ rules.after_undo found.1 now)
      × IsNext rules.unpacked head found.0 undone (next_undone head newest.0 undone))
  undone_by head now tails undone newest first = rw first (refl, is_next rules.unpacked head newest.0 undone)

  module _ {start : M} {old : Log A R H} (session : IsSession rules start old) where
    -- the records of the heads behind a place fit
    stretch_fits : (heads rest : List (Option H)) (count : ℕ) {now : M} {log : Log A R H} →
        IsRun rules start old (λ v. after_back v count) now log → drop log.at log.heads.block.items ≡ heads ++ rest →
        length heads ≤ log.kept → log.at + length heads ≤ 256 → AreFitting rules heads now log.tails
    stretch_fits [] rest count run is enough within = tt
    stretch_fits (head ∷ later) rest count {now = now} {log = log} run is enough within =
        let items = log.heads.block.items in
        let found = sym (slice_get-drop log.at items 0 log.at (omega arith)) ∙ ap (λ xs. slice_get xs 0) is in
        let next = sym (drop-drop 1 log.at items) ∙ ap (drop 1) is in
        let less = log.kept - 1 in
        let one : log.kept ≡ suc less = omega (arith, enough) in
        let fits = fits_newest rules count run head found less one session in
        let (newest, first) = is_some (first_of rules.unpacked in_tail head log.tails.ring.items) _ fits in
        rw first (
          rw first at fits,
          λ tails' left. stretch_fits later rest (count + 1)
              (back_more rules count run head found less one {machine = rules.after_undo newest.1 now} {tails = tails'}
              {undone = next_undone head newest.0 log.undone} (log.ahead + 1) (omega arith) (omega (arith, within))
              (undone_by head now log.tails log.undone newest first) left)
              next (omega (arith, enough)) (omega (arith, within)),
        )

    -- the actions of so many heads behind a place were undone
    stretch_back : (heads rest : List (Option H)) (count : ℕ) {now : M} {log : Log A R H} →
        IsRun rules start old (λ v. after_back v count) now log → drop log.at log.heads.block.items ≡ heads ++ rest →
        length heads ≤ log.kept → log.at + length heads ≤ 256 → (machine : M) (tails : Tails A R) (undone : Buffer A) →
        AreUndone rules heads now machine log.tails tails log.undone undone → (count' at kept ahead : ℕ) →
        count' ≡ count + length heads → at ≡ log.at + length heads → log.kept ≡ kept + length heads →
        ahead ≡ log.ahead + length heads → IsRun rules start old (λ v. after_back v count') machine
        (record log { at = at; kept = kept; ahead = ahead; tails = tails; undone = undone })
    stretch_back [] rest count {log = log} run is enough within machine tails undone (same, same_tails, same_undone) count' at kept
        ahead counted ends left more =
        let count_is : count' ≡ count = omega (arith, counted) in
        let at_is : at ≡ log.at = omega (arith, ends) in
        let kept_is : kept ≡ log.kept = omega (arith, left) in
        let ahead_is : ahead ≡ log.ahead = omega (arith, more) in
        rw (count_is, at_is, kept_is, ahead_is, same, same_tails, same_undone) run
    stretch_back (head ∷ later) rest count {log = log} run is enough within machine tails undone
        (between, tails', left, (undid, tails_left), after) count' at kept ahead counted ends fewer more =
        let items = log.heads.block.items in
        let found = sym (slice_get-drop log.at items 0 log.at (omega arith)) ∙ ap (λ xs. slice_get xs 0) is in
        let next = sym (drop-drop 1 log.at items) ∙ ap (drop 1) is in
        let less = log.kept - 1 in
        let one : log.kept ≡ suc less = omega (arith, enough) in
        stretch_back later rest (count + 1)
        (back_more rules count run head found less one (log.ahead + 1) (omega arith) (omega (arith, within)) undid tails_left)
        next (omega (arith, enough)) (omega (arith, within)) machine tails undone after count' at kept ahead
        (omega (arith, counted)) (omega (arith, ends)) (omega (arith, fewer, enough)) (omega (arith, more))

  -- the newest actions, of the slots behind a place
  module _ {start : M} {log : Log A R H} (session : IsSession rules start log) (heads : Heads H) (first : ℕ) (is : IsHeads heads)
      (within : first < 256) (same : IsSame log.heads log.at heads first) (end count : ℕ) (long : end ≡ first + count)
      (fits : end ≤ 256) (enough : count ≤ log.kept)
      (slots : List (Option H)) (slots_are : slots ≡ heads.block.items) where
    abbrev part : List (Option H)
    part = take (end - first) (drop first slots)

    abbrev rest : List (Option H)
    rest = drop (end - first) (drop first slots)

    began : IsRun rules start log (λ v. after_back v 0) start (record log { heads = heads; at = first })
    began = run_turned rules (run_none rules start log (λ v. after_back v 0) (λ v. grind arith) session) heads first is
        (omega (arith, within)) same

    many : length part ≡ count
    many = omega (
      arith,
      long,
      fits,
      length-take (end - first) (drop first slots),
      length-drop first slots,
      ap length slots_are,
      is.block,
    )

    parted : drop first heads.block.items ≡ part ++ rest
    parted = rw (← slots_are) (sym (take-append-drop (end - first) (drop first slots)))

    pub part_fits : AreFitting rules part start log.tails
    part_fits = stretch_fits session part rest 0 began parted (omega (arith, many, enough)) (omega (arith, many, long, fits))

    pub part_back : (machine : M) (tails : Tails A R) (undone : Buffer A) →
        AreUndone rules part start machine log.tails tails log.undone undone →
        IsRun rules start log (λ v. after_back v count) machine (record log {
          heads = heads;
          at = end;
          kept = log.kept - count;
          ahead = log.ahead + count;
          tails = tails;
          undone = undone;
        })
    part_back machine tails undone undid =
        stretch_back session part rest 0 began parted (omega (arith, many, enough)) (omega (arith, many, long, fits)) machine tails
        undone undid count end (log.kept - count) (log.ahead + count) (omega (arith, many)) (omega (arith, many, long))
        (omega (arith, many, enough)) (omega (arith, many))
