-- Pieces that are read one after the other.
use Rattle.std.proofs.Common.{◌≡◌, ℕ, ◌+◌, ◌<◌, List, [], ◌∷◌, ◌++◌, length, take, drop, get_or, refl, sym, arith}
use Rattle.std.proofs.Common.{Option, None, Some, append-nil}
use Rattle.std.specs.Io.KnownBytes.{Consumes, Keeps, IsAtEnd}
use Rattle.pp_lines.specs.Device.{all_bytes}
use Rattle.std.proofs.lemmas.Grind.{common_steps}

-- nothing is read
pub Consumes-nothing : (known : Option (List ℕ)) → Consumes known known []
Consumes-nothing known = grind arith

-- one piece after another
pub Consumes-again : (first second third : Option (List ℕ)) (a b : List ℕ) →
    Consumes first second a → Consumes second third b → Consumes first third (a ++ b)
Consumes-again first second third a b p q = grind (arith, common_steps)

-- a piece, and then nothing
pub Consumes-keeps : (first second third : Option (List ℕ)) (a : List ℕ) →
    Consumes first second a → Keeps second third → Consumes first third a
Consumes-keeps first second third a p q = grind (arith, common_steps)

-- the remaining bytes, of which there are none at the end of input
pub unread : (first second : Option (List ℕ)) (taken : List ℕ) → Consumes first second taken →
    (later : List ℕ) × (all_bytes first taken ≡ taken ++ later) × (IsAtEnd second → later ≡ [])
unread None second taken p = ([], sym (append-nil taken), λ end. refl)
unread (Some x) None taken p = absurd p
unread (Some x) (Some y) taken p = (y, p, λ end. end)

-- at the end of input all bytes were read
pub all-read : (first second : Option (List ℕ)) (taken : List ℕ) →
    Consumes first second taken → IsAtEnd second → all_bytes first taken ≡ taken
all-read first second taken p end = grind (arith, common_steps)

-- the bytes of a piece before, at and after an index
pub piece_at : (bytes piece : List ℕ) (i : ℕ) → i < length piece →
    ((bytes ++ take i piece) ++ get_or piece i 0 ∷ []) ++ drop (i + 1) piece ≡ bytes ++ piece
piece_at bytes piece i h = grind (arith, common_steps)

-- one more byte of a piece
pub piece_next : (bytes piece : List ℕ) (i : ℕ) → i < length piece →
    (bytes ++ take i piece) ++ get_or piece i 0 ∷ [] ≡ bytes ++ take (i + 1) piece
piece_next bytes piece i h = grind (arith, common_steps)
