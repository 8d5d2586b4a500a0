-- The progress of a script: at its start, and after more bytes.
use Rattle.std.proofs.Common.{◌≡◌, ◌∙◌, ℕ, ◌+◌, ◌-◌, ◌<◌, List, [], ◌∷◌, ◌++◌, length, ap, arith, append_assoc, length-append}
use Rattle.std.proofs.lemmas.Grind.{common_steps}
use Rattle.pp_console.proofs.Prelude.{IsAt, rules, Written, finished, unfinished, finished_within, IsWithin, Progress, KEPT}
use Rattle.pp_console.proofs.Prelude.{LINE_LIMIT, BYTE_LIMIT, State, Value, outcome, Origin, Performed, origin_of, HasRead}
use Rattle.pp_lines.proofs.{Writing.Appends-nothing, LineCuts.finished-feed, OpenTexts.finished-text}
use Rattle.pp_lines.proofs.Limits.{last_line-one, kept-begun, lines-count, finished_within-whole, finished_within-all}

-- before the first byte
pub HasRead-new : (progress : Progress) (session : State) (text : Written) (start : Value) → IsAt rules session start →
    progress.line ≡ [] → progress.bytes ≡ 0 → progress.summary.lines ≡ 0 →
    progress.summary.refused ≡ 0 → HasRead progress session text (origin_of start text) []
unfolding outcome
HasRead-new progress session text start at empty no_bytes no_lines no_refused = record {
  keeps = rw empty (grind (arith, common_steps));
  counts_bytes = no_bytes;
  ended = record {
    performed = record { leaves = at; writes = Appends-nothing text };
    counts_lines = no_lines;
    counts_refused = no_refused;
  };
}

module _ {progress : Progress} {session : State} {text : Written} {origin : Origin} {bytes : List ℕ}
    (has_read : HasRead progress session text origin bytes) where
  -- the bytes read so far are within the limits
  pub HasRead-within : IsWithin LINE_LIMIT BYTE_LIMIT bytes
  HasRead-within =
      let kept = kept-begun KEPT (unfinished bytes) (omega arith) in
      let last = last_line-one (unfinished bytes) in
      record {
        lines_within = rw (lines-count bytes) (grind (arith, kept, last, ap length has_read.keeps, has_read.ended.counts_lines));
        bytes_within = rw (← has_read.counts_bytes) progress.bytes_within;
      }

  -- all finished lines are within the limits
  pub Performed-within : Performed session text origin (finished_within LINE_LIMIT BYTE_LIMIT bytes)
  Performed-within = rw (finished_within-all LINE_LIMIT BYTE_LIMIT bytes HasRead-within) has_read.ended.performed

  -- bytes and a line feed finish the line within the limits
  pub HasRead-finishes : (more : List ℕ) → finished more ≡ [] →
      length more < BYTE_LIMIT - progress.bytes → progress.summary.lines < LINE_LIMIT →
      finished_within LINE_LIMIT BYTE_LIMIT ((bytes ++ more) ++ 10 ∷ []) ≡ finished bytes ++ unfinished (bytes ++ more) ∷ []
  HasRead-finishes more none bytes_within lines_within =
      let text = bytes ++ more in
      let ends : finished (text ++ 10 ∷ []) ≡ finished bytes ++ unfinished text ∷ [] =
      rw (finished-feed text, finished-text bytes more none) in
      finished_within-whole LINE_LIMIT BYTE_LIMIT (text ++ 10 ∷ [])
      (simp length-append (omega (arith, has_read.counts_bytes, bytes_within)))
      (rw ends (simp length-append (omega (arith, has_read.ended.counts_lines, lines_within)))) ∙ ends

-- what reading bytes of a line needs
pub ruleset texts_read = (append_assoc, length-append, finished-text)

-- what reading a line with its line feed needs
pub ruleset lines_read = (length-append, finished-text, finished-feed)
