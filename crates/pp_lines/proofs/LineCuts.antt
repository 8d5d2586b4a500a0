-- The lines of a list of bytes to which more bytes are appended.
use Rattle.std.proofs.Common.{◌≡◌, ℕ, cond, eqb, List, [], ◌∷◌, ◌++◌, refl, false, ap, arith, drop, length, length-append}
use Rattle.std.proofs.lemmas.Grind.{common_steps}
use Rattle.pp_lines.specs.Lines.{lines, finished, unfinished, last_line}

-- a line feed finishes the unfinished line
pub finished-feed : (bytes : List ℕ) → finished (bytes ++ 10 ∷ []) ≡ finished bytes ++ unfinished bytes ∷ []
finished-feed [] = refl
finished-feed (byte ∷ bytes) = grind (arith, finished-feed bytes)

-- after a line feed no line is begun
pub unfinished-feed : (bytes : List ℕ) → unfinished (bytes ++ 10 ∷ []) ≡ []
unfinished-feed [] = refl
unfinished-feed (byte ∷ bytes) =
    grind (arith, finished-feed bytes, unfinished-feed bytes, ap length (finished-feed bytes), length-append)

-- any other byte finishes no line
pub finished-byte : (bytes : List ℕ) (next : ℕ) → eqb next 10 ≡ false → finished (bytes ++ next ∷ []) ≡ finished bytes
finished-byte [] next h = grind arith
finished-byte (byte ∷ bytes) next h = grind (arith, finished-byte bytes next h)

-- any other byte extends the unfinished line
pub unfinished-byte : (bytes : List ℕ) (next : ℕ) → eqb next 10 ≡ false →
    unfinished (bytes ++ next ∷ []) ≡ unfinished bytes ++ next ∷ []
unfinished-byte [] next h = grind arith
unfinished-byte (byte ∷ bytes) next h = grind (arith, unfinished-byte bytes next h, finished-byte bytes next h)

-- the lines with a byte added to the start of the first line, or as a line of its own if there is no line
abbrev pub begin_first : ℕ → List (List ℕ) → List (List ℕ)
begin_first byte [] = (byte ∷ []) ∷ []
begin_first byte (line ∷ lines) = (byte ∷ line) ∷ lines

-- the lines are the finished lines and the unfinished one
pub lines_split : (bytes : List ℕ) → lines bytes ≡ finished bytes ++ last_line (unfinished bytes)
unfolding lines
lines_split bytes = refl

-- a byte before other lines
pub lines_first : (byte : ℕ) (bytes : List ℕ) →
    lines (byte ∷ bytes) ≡ cond (eqb byte 10) ([] ∷ lines bytes) (begin_first byte (lines bytes))
unfolding lines
lines_first byte bytes = grind arith

finished-front : (bytes more : List ℕ) →
    finished (bytes ++ more) ≡ finished bytes ++ drop (length (finished bytes)) (finished (bytes ++ more))
finished-front [] more = refl
finished-front (byte ∷ bytes) more = grind (arith, common_steps, finished-front bytes more)

-- more bytes do not change the finished lines
pub finished-more : (bytes more : List ℕ) → (extra : List (List ℕ)) × (finished (bytes ++ more) ≡ finished bytes ++ extra)
finished-more bytes more = (drop (length (finished bytes)) (finished (bytes ++ more)), finished-front bytes more)
