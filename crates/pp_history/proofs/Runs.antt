-- Several steps of a session, one after the other.
use Rattle.pp_history.proofs.Names.{◌≡◌, ℕ, suc, ◌+◌, ◌≤◌, ◌<◌, ◌∙◌, min, List, ◌∷◌, length, take, set, Option, Some, IsSomeAnd}
use Rattle.pp_history.proofs.Names.{slice_get, ap, arith, refl, sym, length-take, length-set, Vec, Global, Buffer, buffer, Halves}
use Rattle.pp_history.proofs.Names.{Heads, behind, before, IsActed, IsHeads, IsJoined, IsNext, IsSame, IsSide, Log, AdmitsInTurn}
use Rattle.pp_history.proofs.Names.{IsAt, ahead_in, first_of, halves_in, left_by, contents_of, contents_with, Contents, IsSession}
use Rattle.pp_history.proofs.Names.{Moves, SessionValue, after_act, after_back, after_forward, IsKept, in_tail, Ghosts, Tails}
use Rattle.pp_history.proofs.Blocks.{halves_before, halves_behind, halves_written, is_still, length_halves}
use Rattle.pp_history.proofs.Joins.{ItemAt, kept_more, side_first, side_less, side_more}
use Rattle.pp_history.proofs.Steps.{after_steps-more, back_at, forward_is, newest-step, put_at}

module _ {M A R P H : Type 0} (rules : Ghosts M A R P H) where
  abbrev action_of : H → A
  action_of head = (rules.unpacked head).0

  -- the numbers of actions are what is counted
  module _ (machine : M) (log : Log A R H) (is : IsSession rules machine log) where
    pub kept_is : log.kept ≡ length (contents_of rules.unpacked machine log).records
    kept_is = sym (is.joined.kept.all ∙ (length_halves log.heads is.heads log.at is.within log.kept log.ahead is.full).0)

    pub ahead_is : log.ahead ≡ length (contents_of rules.unpacked machine log).ahead
    ahead_is = sym (is.joined.ahead.all ∙ (length_halves log.heads is.heads log.at is.within log.kept log.ahead is.full).1)

  pub acted : {old new : M} {action : A} {head : Option H} {tails tails' : Tails A R} → new ≡ rules.after_act old action →
      ((back : R) × rules.fits back new × (rules.after_undo back new ≡ old)
      × (rules.record_pairs back ≡ rules.old_values old action) × IsKept rules.unpacked head action back tails tails') →
      IsActed rules old new action head tails tails'
  acted next (back, fits, leads_back, old_values, kept) =
      record { next = next; back = back; fits = fits; leads_back = leads_back; old_values = old_values; kept = kept }

  -- what the heads and the rings hold after some steps, which make `after v` of the session value v
  pub record IsSpan (start : Contents M A R) (after : SessionValue M A → SessionValue M A) (halves : Halves H) (machine : M)
      (tails : Tails A R) (undone : Buffer A) : Type 0 where
    pub joined : IsJoined rules.unpacked halves tails.ring undone
    pub moves : Moves rules start (contents_with rules.unpacked machine halves tails.ring undone) after

  -- the log with a head more, in a slot of the block in use
  abbrev pub with_head : Log A R H → Vec (Option H) Global → ℕ → ℕ → ℕ → Tails A R → Buffer A → Log A R H
  with_head log block slot kept ahead tails undone =
      record { heads = record log.heads { block = block }; at = slot; kept = kept; ahead = ahead; tails = tails; undone = undone }

  -- a session after some steps
  pub record IsRun (start : M) (old : Log A R H) (after : SessionValue M A → SessionValue M A) (machine : M)
      (log : Log A R H) : Type 0 where
    pub heads : IsHeads log.heads
    pub within : log.at ≤ 256
    pub full : log.ahead + log.kept ≤ log.heads.capacity
    pub span : IsSpan (contents_of rules.unpacked start old) after (halves_in log) machine log.tails log.undone

  -- no step yet
  pub run_none : (machine : M) (log : Log A R H) (after : SessionValue M A → SessionValue M A) →
      ((v : SessionValue M A) → after v ≡ v) → IsSession rules machine log → IsRun machine log after machine log
  run_none machine log after none is = record {
    heads = is.heads;
    within = is.within;
    full = is.full;
    span = record { joined = is.joined; moves = λ v at. rw (none v) at };
  }

  module _ {start : M} {old : Log A R H} {after : SessionValue M A → SessionValue M A} {machine : M} {log : Log A R H} where
    -- no more steps
    pub run_ends : IsSession rules start old → IsRun start old after machine log → IsSession rules machine log
    run_ends is run = record {
      heads = run.heads;
      within = run.within;
      full = run.full;
      joined = run.span.joined;
      value = after is.value;
      is_at = run.span.moves is.value is.is_at;
    }

    -- another block came into use
    pub run_turned : IsRun start old after machine log → (heads : Heads H) (at : ℕ) →
        IsHeads heads → at ≤ 256 → IsSame log.heads log.at heads at →
        IsRun start old after machine (record log { heads = heads; at = at })
    run_turned run heads at is within same = record {
      heads = is;
      within = within;
      full = rw same.capacity run.full;
      span = rw (same.halves log.kept log.ahead (omega (arith, run.full)) (omega (arith, run.full))) run.span;
    }

  -- no step yet, and another block came into use
  pub run_here : {machine : M} {log : Log A R H} → IsSession rules machine log → (heads : Heads H) (at : ℕ) → IsHeads heads →
      at ≤ 256 → IsSame log.heads log.at heads at → IsRun machine log (λ v. v) machine (record log { heads = heads; at = at })
  run_here {machine = machine} {log = log} is = run_turned (run_none machine log (λ v. v) (λ v. refl) is)

  module _ {start : M} {old : Log A R H} {now : M} {log : Log A R H} where
    -- one more step back
    module _ (count : ℕ) (run : IsRun start old (λ v. after_back v count) now log) (head : Option H)
        (found : slice_get log.heads.block.items log.at ≡ Some head) (less : ℕ) (one : log.kept ≡ suc less) where
      abbrev ks : List (Option H)
      ks = take less (behind log.heads (log.at + 1))

      abbrev hs : List (Option H)
      hs = take log.ahead (before log.heads log.at)

      here : IsSpan (contents_of rules.unpacked start old) (λ v. after_back v count)
          (record { kept = head ∷ ks; ahead = hs; capacity = log.heads.capacity }) now log.tails log.undone
      here = rw (one, halves_behind log.heads log.at head found less log.ahead) at run.span

      newest : ItemAt rules.unpacked in_tail 0 (head ∷ ks) log.tails.ring.items head
      newest = side_first rules.unpacked in_tail head ks log.tails.ring log.heads.capacity here.joined.kept

      pub fits_newest : IsSession rules start old →
          IsSomeAnd (first_of rules.unpacked in_tail head log.tails.ring.items) (λ newest. rules.fits newest.1 now)
      fits_newest session =
          let found = ap (λ (entries : List (A × R)). slice_get entries 0) newest.split in
          rw newest.is (newest-step rules _ _ (here.moves session.value session.is_at) newest.item found).0

      pub back_more : {machine : M} {tails : Tails A R} {undone : Buffer A} (more : ℕ) → more ≡ suc log.ahead → log.at < 256 →
          IsSomeAnd (first_of rules.unpacked in_tail head log.tails.ring.items) (λ newest.
          (machine ≡ rules.after_undo newest.1 now) × IsNext rules.unpacked head newest.0 log.undone undone) →
          tails.ring ≡ buffer (left_by head log.tails.ring.items) log.tails.ring.capacity → IsRun start old
          (λ v. after_back v (count + 1)) machine
          (record log { at = log.at + 1; kept = less; ahead = more; tails = tails; undone = undone })
      unfolding newest
      back_more {machine = machine} {tails = tails} {undone = undone} more counted within undid left =
          let did = rw newest.is at undid in
          let fewer = side_less rules.unpacked in_tail head ks log.tails.ring log.heads.capacity tails.ring here.joined.kept left in
          let longer = side_more action_of Some head hs log.undone log.heads.capacity undone newest.item.0
          (grind (arith, newest.is, did.1)) here.joined.ahead
          (omega (arith, run.full, one, length-take log.ahead (before log.heads log.at))) in
          record {
            heads = run.heads;
            within = omega (arith, within);
            full = omega (arith, run.full, one, counted);
            span = rw (counted, halves_before log.heads log.at head found less log.ahead) (record {
              joined = record { kept = fewer.1; ahead = longer.1 };
              moves = λ v at. rw (did.0, longer.0, ← (after_steps-more v count 1).0)
                  (back_at rules now newest.item _ _ log.heads.capacity (after_back v count) (rw fewer.0 at (here.moves v at)));
            });
          }

    -- an action was performed, and its head is written in the slot before
    module _ {after : SessionValue M A → SessionValue M A} (run : IsRun start old after now log) (slot : ℕ) (at : log.at ≡ slot + 1)
        (head : Option H) (block : Vec (Option H) Global) (set_is : block.items ≡ set log.heads.block.items slot head)
        {machine : M} {action : A} {tails : Tails A R} (acted : IsActed rules now machine action head log.tails tails)
        (kept : ℕ) (counted : kept ≡ min (log.kept + 1) log.heads.capacity) where
      abbrev later : ℕ → List (Option H)
      later ahead = take ahead (before log.heads slot)

      acted_run : (undone : Buffer A) (ahead : ℕ) → ahead + kept ≤ log.heads.capacity →
          IsSide action_of Some (later ahead) undone log.heads.capacity → rules.admitted now action →
          AdmitsInTurn rules machine (ahead_in rules.unpacked (later ahead) undone.items) →
          (then : SessionValue M A → SessionValue M A) →
          ((v : SessionValue M A) → IsAt rules (contents_of rules.unpacked start old) v → then v ≡ record (after v) {
            standing = action ∷ (after v).standing;
            kept = min (after v).capacity ((after v).kept + 1);
            ahead = ahead_in rules.unpacked (later ahead) undone.items;
          }) → IsRun start old then machine (with_head log block slot kept ahead tails undone)
      acted_run undone ahead full side admitted admits then is =
          let within : slot < length log.heads.block.items = omega (arith, at, run.within, run.heads.block) in
          let ks = take log.kept (behind log.heads (slot + 1)) in
          let joined = rw at at run.span.joined in
          let more = kept_more rules.unpacked head action acted.back log.tails tails ks log.heads.capacity acted.kept joined.kept
          run.heads.some_room in
          record {
            heads = is_still run.heads (rw set_is (length-set log.heads.block.items slot head ∙ run.heads.block)) run.heads.others
                refl refl refl;
            within = omega (arith, at, run.within);
            full = full;
            span = rw (halves_written log.heads slot head block within set_is log.kept kept ahead counted) (record {
              joined = record { kept = more.1; ahead = side };
              moves = λ v was.
                  rw (is v was, more.0) (put_at rules now machine action acted.back _ _ _ log.heads.capacity acted.next acted.fits
                  acted.leads_back acted.old_values admitted admits
                  (omega (
                    arith,
                    full,
                    counted,
                    side.all,
                    joined.kept.all,
                    length-take ahead (before log.heads slot),
                    length-take
                        log.kept (behind log.heads (slot + 1)),
                  ))
                  (after v) ((rw at at run.span).moves v was));
            });
          }

    -- one more step forward
    module _ (count : ℕ) (run : IsRun start old (λ v. after_forward v count) now log) (slot : ℕ) (at : log.at ≡ slot + 1)
        (head : Option H) (found : slice_get log.heads.block.items slot ≡ Some head) (less : ℕ) (one : log.ahead ≡ suc less) where
      there : IsSpan (contents_of rules.unpacked start old) (λ v. after_forward v count) (record {
        kept = take log.kept (behind log.heads (slot + 1));
        ahead = head ∷ take less (before log.heads slot);
        capacity = log.heads.capacity;
      }) now log.tails log.undone
      there = rw (at, one, halves_before log.heads slot head found log.kept less) at run.span

      next : ItemAt action_of Some 0 (head ∷ take less (before log.heads slot)) log.undone.items head
      next = side_first action_of Some head (take less (before log.heads slot)) log.undone log.heads.capacity there.joined.ahead

      pub admits_next : IsSession rules start old →
          IsSomeAnd (first_of action_of Some head log.undone.items) (λ action. rules.admitted now action)
      admits_next session = rw next.is (rw next.split at (there.moves session.value session.is_at).admits_ahead).0

      pub forward_more : IsSession rules start old → (head' : Option H) (block : Vec (Option H) Global) →
          block.items ≡ set log.heads.block.items slot head' → {machine : M} (tails : Tails A R) {undone : Buffer A} (kept : ℕ) →
          kept ≡ log.kept + 1 →
          IsSomeAnd (first_of action_of Some head log.undone.items)
          (λ action. IsActed rules now machine action head' log.tails tails) → undone ≡ buffer (left_by head log.undone.items)
          log.undone.capacity →
          IsRun start old (λ v. after_forward v (count + 1)) machine (with_head log block slot kept less tails undone)
      unfolding next
      forward_more session head' block set_is {machine = machine} tails {undone = undone} kept counted did left =
          let acted = rw next.is at did in
          let fewer = side_less action_of Some head (take less (before log.heads slot)) log.undone log.heads.capacity undone
          there.joined.ahead left in
          let admits = rw fewer.0 at (there.moves session.value session.is_at).admits_ahead in
          acted_run run slot at head' block set_is acted kept (omega (arith, run.full, counted, one)) undone less
          (omega (arith, run.full, counted, one))
          fewer.1 admits.0 (rw acted.next admits.1) _
          (λ v was. sym (after_steps-more v count 1).1 ∙ forward_is rules _ _ _ _ log.heads.capacity (after_forward v count)
          (rw fewer.0 at (there.moves v was)))

  -- one more action
  pub act_next : {start : M} {old : Log A R H} {after : SessionValue M A → SessionValue M A} {now : M} {log : Log A R H} →
      IsRun start old after now log → (heads : Heads H) (slot : ℕ) → IsHeads heads → slot < 256 →
      IsSame log.heads log.at heads (slot + 1) → (head : Option H) (block : Vec (Option H) Global) →
      block.items ≡ set heads.block.items slot head → {machine : M} {action : A} {tails : Tails A R} →
      IsActed rules now machine action head log.tails tails → (kept : ℕ) → kept ≡ min (log.kept + 1) heads.capacity →
      rules.admitted now action →
      IsRun start old (λ v. after_act (after v) action) machine
      (with_head (record log { heads = heads }) block slot kept 0 tails log.undone)
  act_next run heads slot is within same head block set_is acted kept counted admitted =
      let turned = run_turned run heads (slot + 1) is (omega (arith, within)) same in
      acted_run turned slot refl head block set_is acted kept counted _ 0 (omega (arith, counted))
      (record { room = turned.span.joined.ahead.room; all = refl }) admitted tt _ (λ v was. refl)
