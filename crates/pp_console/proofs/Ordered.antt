-- Reads before which all lines that had ended were answered.
use Rattle.std.proofs.Common.{◌≡◌, ◌∙◌, ap, List, [], ◌∷◌, ◌++◌, ℕ, All, suc, refl, subst, sym, unwrap_or}
use Rattle.std.proofs.lemmas.List.{Elements.All-cons, Elements.All-nil, append_cancel_left}
use Rattle.pp_lines.specs.{Calls.Call, Dialogue.Dialogue}
use Rattle.pp_console.specs.Order.{HasBytes, IsOnTime, IsPiece, Reads, ReadsOnTime}
use Rattle.pp_console.proofs.Prelude.{HasRead, Progress, State, Value, Written, origin_of}

-- reads that have returned bytes, each of them
abbrev pub ReadsBytes : Value → Dialogue → List ℕ → Reads → Reads → Type 0
ReadsBytes start first bytes before after = (reads : ReadsOnTime start first bytes before after) × All HasBytes reads.calls

module _ {start : Value} {first : Dialogue} {before : Reads} where
  -- no read yet
  pub no-reads : ReadsOnTime start first [] before before
  no-reads = record {
    newer = [];
    calls = [];
    all = refl;
    all_calls = refl;
    one_each = refl;
    moves = refl;
    pieces = All-nil IsPiece;
    only_last_empty = All-nil HasBytes;
    on_time = All-nil (IsOnTime start first);
  }

  pub no-bytes : ReadsBytes start first [] before before
  unfolding no-reads
  no-bytes = (no-reads, All-nil HasBytes)

  -- one more read
  pub one-more-read : {bytes : List ℕ} {between after : Reads} (now : Dialogue) (call : Call) →
      after.dialogues ≡ now ∷ between.dialogues → after.calls ≡ call ∷ between.calls → IsPiece call → IsOnTime start first now →
      ReadsBytes start first bytes before between → ReadsOnTime start first (bytes ++ unwrap_or call []) before after
  one-more-read now call e called piece on_time (reads, full) = record {
    newer = now ∷ reads.newer;
    calls = call ∷ reads.calls;
    all = e ∙ ap (λ others. now ∷ others) reads.all;
    all_calls = called ∙ ap (λ others. call ∷ others) reads.all_calls;
    one_each = ap suc reads.one_each;
    moves = ap (λ bytes. bytes ++ unwrap_or call []) reads.moves;
    pieces = All-cons IsPiece call reads.calls piece reads.pieces;
    only_last_empty = full;
    on_time = All-cons (IsOnTime start first) now reads.newer on_time reads.on_time;
  }

  -- one more read that has returned bytes
  pub more-bytes : {bytes : List ℕ} {between after : Reads} (now : Dialogue) (call : Call) →
      after.dialogues ≡ now ∷ between.dialogues → after.calls ≡ call ∷ between.calls → IsPiece call → HasBytes call →
      IsOnTime start first now → ReadsBytes start first bytes before between →
      ReadsBytes start first (bytes ++ unwrap_or call []) before after
  unfolding one-more-read
  more-bytes now call e called piece has on_time (reads, full) =
      (one-more-read now call e called piece on_time (reads, full), All-cons HasBytes call reads.calls has full)

  -- the bytes that were read are determined
  pub same-reads : {after : Reads} (given read bytes others : List ℕ) → read ≡ given ++ bytes → read ≡ given ++ others →
      ReadsOnTime start first bytes before after → ReadsOnTime start first others before after
  same-reads {after = after} given read bytes others is same reads =
      subst (λ bytes. ReadsOnTime start first bytes before after) (append_cancel_left given bytes others (sym is ∙ same)) reads

-- a script as far as it was read is on time
pub HasRead-on_time : {progress : Progress} {session : State} {before text : Written} {start : Value} {bytes given : List ℕ}
    (read : List ℕ) → read ≡ given ++ bytes → HasRead progress session text (origin_of start before) bytes →
    IsOnTime start (record { read = given; written = before.bytes }) (record { read = read; written = text.bytes })
HasRead-on_time {bytes = bytes} read e has_read = record { bytes = bytes; read = e; written = has_read.ended.performed.writes.0 }
