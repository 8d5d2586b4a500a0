use Rattle.pp_history.proofs.Names.{arith, refl, rules, fresh}
use Rattle.pp_history.proofs.log.Log.new.Goals as goal

pub returns : goal.returns
returns g c = λ machine. (
  record {
    heads = c.in_ok-heads.ensures.0;
    within = omega arith;
    full = omega arith;
    joined = rw (c.in_ok-tails.ensures, c.in_ok-undone.ensures) (search rules);
    value = fresh machine c.args.capacity;
    is_at = record {
      leads_back = refl;
      kept = refl;
      ahead = refl;
      admits_ahead = tt;
      capacity = c.in_ok-heads.ensures.1;
      room =
          omega arith;
    };
  },
  refl,
)
