-- Texts that are written one after the other.
use Rattle.std.proofs.Common.{◌≡◌, ℕ, ◌+◌, ◌-◌, List, [], ◌++◌, length, take, drop, arith}
use Rattle.std.proofs.{lemmas.Grind.common_steps, Math.Seq.take-add}
use Rattle.pp_lines.specs.Output.{Appends, AppendsPrefix, Written}

-- nothing is written
pub Appends-nothing : (written : Written) → Appends written written []
Appends-nothing written = (grind (arith, common_steps), grind (arith, common_steps))

-- one text after another
pub Appends-again : (first second third : Written) (a b : List ℕ) →
    Appends first second a → Appends second third b → Appends first third (a ++ b)
Appends-again first second third a b p q = (grind (arith, common_steps), grind (arith, common_steps))

-- the slice of a text from an index on
pub slice_from : (done : ℕ) (text : List ℕ) → take (length text - done) (drop done text) ≡ drop done text
slice_from done text = grind (arith, common_steps)

-- a piece of the text is written, from an index on
pub Appends-further : (first second third : Written) (done more : ℕ) (text : List ℕ) →
    Appends first second (take done text) → Appends second third (take more (take (length text - done) (drop done text))) →
    Appends first third (take (done + more) text)
Appends-further first second third done more text p q =
    rw (← take-add done more text) at (Appends-again first second third _ _ p (rw slice_from at q))

-- the sink failed, and more text would have followed
pub front_longer : (first second : Written) (text more : List ℕ) →
    AppendsPrefix first second text → AppendsPrefix first second (text ++ more)
front_longer first second text more (front, written, proper) =
    (front, written, record { rest = proper.rest ++ more; all = grind (arith, common_steps); some = grind (arith, common_steps) })

-- the sink failed after a text
pub front_after : (first second third : Written) (text more : List ℕ) → Appends first second text →
    AppendsPrefix second third more → AppendsPrefix first third (text ++ more)
front_after first second third text more p (front, written, proper) = (
  text ++ front,
  Appends-again first second third text front p written,
  record { rest = proper.rest; all = grind (arith, common_steps); some = proper.some },
)
