-- A stopping run is the shortest.
use Rattle.pp_rig.proofs.Names.{◌≡◌, ◌∙◌, ℕ, zero, suc, ◌+◌, refl, ap, arith, ◌∷◌, ◌++◌, Option, Some, None, replicate}
use Rattle.pp_rig.proofs.Names.{SessionValue, Machine, turn, Hit, Stopped, hit_of, stopped, turned, after_turns, Action, Turn}
use Rattle.pp_rig.specs.Stopping.{hit_or, IsShortest}

-- a turn added first, or added last
pub turned-first : (turns : ℕ) (machine : Machine) → turned turns (turn machine) ≡ turned (suc turns) machine
turned-first zero machine = refl
turned-first (suc turns) machine = ap turn (turned-first turns machine)

-- a run that begins with a turn that changed nothing
none-first : (machine : Machine) (turns : ℕ) → hit_of machine ≡ None →
    ((rest : ℕ) → turns ≡ suc rest → hit_of (turned rest (turn machine)) ≡ None) → hit_of (turned turns machine) ≡ None
none-first machine zero e f = e
none-first machine (suc turns) e f = rw (← turned-first turns machine) (f turns refl)

shortest-by : (most : ℕ) (machine : Machine) (rest : Stopped) (found : Option Hit) → hit_of machine ≡ found →
    IsShortest most (turn machine) rest → IsShortest (suc most) machine (hit_or found rest)
shortest-by most machine rest (Some hit) e ih = record {
  within = omega arith;
  earlier = λ turns less. absurd (omega arith);
  hit = λ h same. (0, (let one : 1 ≡ 0 + 1 = omega arith in one), e ∙ same);
  none = λ same. cc;
}
shortest-by most machine rest None e ih = record {
  within = omega (arith, ih.within);
  earlier = λ turns less. none-first machine turns e (λ n same. ih.earlier n (omega arith));
  hit = λ h same. let (earlier, counted, found) = ih.hit h same in
      (suc earlier, omega (arith, counted), rw (← turned-first earlier machine) found);
  none = λ same. let all = ih.none same in
      (ap suc all.0, λ turns less. none-first machine turns e (λ n more. all.1 n (omega arith)));
}

pub shortest : (most : ℕ) (machine : Machine) → IsShortest most machine (stopped most machine)
unfolding stopped
shortest zero machine = record {
  within = omega arith;
  earlier = λ turns less. absurd (omega arith);
  hit = λ h same. cc;
  none = λ same. (refl, λ turns less. absurd (omega arith));
}
shortest (suc most) machine =
    shortest-by most machine (stopped most (turn machine)) (hit_of machine) refl (shortest most (turn machine))

-- the turns are the newest actions
pub standing_turns : (turns : ℕ) (v : SessionValue Machine Action) →
    (after_turns turns v).standing ≡ replicate turns Turn ++ v.standing
unfolding after_turns
standing_turns zero v = refl
standing_turns (suc turns) v = ap (λ actions. Turn ∷ actions) (standing_turns turns v)
