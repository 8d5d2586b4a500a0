-- What the calls of a device returned.
use Rattle.std.specs.Prelude.{ℕ, List, [], ◌∷◌, ◌++◌, take, Option, Some, None, Result, Ok, Err, unwrap_or}

-- What one call of a device returned: the bytes that it moved, or none if it failed.
abbrev pub Call : Type 0
Call = Option (List ℕ)

-- the call with this result
abbrev pub call_of : {E : Type 0} → Result ℕ E → List ℕ → Call
call_of (Ok count) slice = Some (take count slice)
call_of (Err fault) slice = None

-- The bytes that these calls moved. The latest call is the first in the list, and its bytes are the last.
abbrev pub bytes_moved : List Call → List ℕ
bytes_moved [] = []
bytes_moved (call ∷ earlier) = bytes_moved earlier ++ unwrap_or call []
