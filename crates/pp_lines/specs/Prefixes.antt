-- Prefixes of lists.
use Rattle.std.specs.Prelude.{◌≡◌, ℕ, ◌<◌, List, ◌++◌, length}

-- The front begins the whole, and is not all of it.
pub record IsProperPrefix (front whole : List ℕ) : Type 0 where
  pub rest : List ℕ
  pub all : whole ≡ front ++ rest
  pub some : 0 < length rest
