-- Bytes that are read in pieces, up to the limits.
use Rattle.std.proofs.Common.{◌≡◌, ◌∙◌, ℕ, ◌+◌, ◌-◌, ◌<◌, ◌≤◌, List, [], ◌++◌, length, take, drop, sym, ap, arith, inl, inr, refl}
use Rattle.std.proofs.Common.{append_assoc, length-append, length-take, length-drop, take-append-drop}
use Rattle.std.proofs.lemmas.List.{nil_from_length}
use Rattle.pp_console.proofs.Prelude.{Written, LineLimit, finished, unfinished, IsPrefixOf, Progress, LINE_LIMIT}
use Rattle.pp_console.proofs.Prelude.{BYTE_LIMIT, State, Origin, HasRead, Interrupts}
use Rattle.pp_lines.proofs.Limits.{last_line-one, lines-count}
use Rattle.pp_lines.proofs.OpenTexts.{open-take, finished-text, unfinished-text}
use Rattle.pp_console.proofs.Reading.{HasRead-within}

module _ {progress : Progress} {session : State} {written : Written} {origin : Origin} {bytes : List ℕ}
    (has_read : HasRead progress session written origin bytes) (text rest : List ℕ) where
  -- no more lines may begin
  pub Interrupts-lines : 0 < length text + length rest → progress.summary.lines ≡ LINE_LIMIT →
      Interrupts LineLimit session written origin ((bytes ++ text) ++ rest)
  Interrupts-lines some full = (
    bytes,
    text ++ rest,
    append_assoc bytes text rest,
    simp length-append some,
    HasRead-within has_read,
    inr (sym has_read.ended.counts_lines ∙ full),
    has_read.ended.performed,
  )

  -- the limit leaves no room for all of these bytes
  pub Interrupts-bytes : finished text ≡ [] → BYTE_LIMIT - progress.bytes ≤ length text →
      BYTE_LIMIT - progress.bytes < length text + length rest → progress.summary.lines < LINE_LIMIT →
      Interrupts LineLimit session written origin ((bytes ++ text) ++ rest)
  Interrupts-bytes none reached over lines_within =
      let room = BYTE_LIMIT - progress.bytes in
      let kept = bytes ++ take room text in
      let same : finished kept ≡ finished bytes = finished-text bytes (take room text) (open-take room text none) in
      let size : length kept ≡ BYTE_LIMIT =
      simp (length-append, length-take) (omega (arith, has_read.counts_bytes, progress.bytes_within, reached)) in (
        kept,
        drop room text ++ rest,
        ap (λ all. (bytes ++ all) ++ rest) (sym (take-append-drop room text)) ∙ simp append_assoc,
        simp (length-append, length-drop) (omega (arith, over)),
        record {
          lines_within = omega (
            arith,
            lines-count kept,
            last_line-one (unfinished kept),
            ap length same,
            has_read.ended.counts_lines,
            lines_within,
          );
          bytes_within = omega (arith, size);
        },
        inl size,
        rw same has_read.ended.performed,
      )

-- if no byte of a line was kept, the text that ends it is the whole line
pub whole-line : (kept : ℕ) (front bytes text : List ℕ) → 0 < kept → finished text ≡ [] →
    IsPrefixOf kept front bytes → length front ≡ 0 → text ≡ unfinished (bytes ++ text)
whole-line kept front bytes text some none is_front empty =
    let size = simp length-take at (ap length is_front) in
    rw (unfinished-text bytes text none, nil_from_length (unfinished bytes) (omega (arith, size, empty))) refl
