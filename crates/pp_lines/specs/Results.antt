-- Steps that may fail.
use Rattle.std.specs.Prelude.{Result, Ok, Err}

-- The next step, if the first one did not fail; otherwise its fault.
infixl 10 ◌>>=◌
abbrev pub ◌>>=◌ : {A B F : Type 0} → Result A F → (A → Result B F) → Result B F
(Ok x) >>= f = f x
(Err fault) >>= f = Err fault
