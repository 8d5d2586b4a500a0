-- What calls do with their out-parameters. The out-parameters of a call, with the session of its handle, are a record: `before` has
-- what they are when the call begins, and `after` what they are when it returns.
use Rattle.std.specs.Prelude.{◌≡◌, ℕ, ◌<◌, ◌≤◌, ◌⊎◌, List, ◌++◌, drop, length}
use Rattle.pp_library.specs.declared.status.TheConstants.{DONE, ROOM}

-- The call returns this status, and changes nothing.
abbrev pub OnlyReturns : {Outs : Type 0} → ℕ → Outs → Outs → ℕ → Type 0
OnlyReturns status before after result = (result ≡ status) × (after ≡ before)

-- The call writes a text into a buffer, and what is behind it is as it was. Or the buffer has no room for all of it, and is as it
-- was. The count is that of the text.
abbrev pub PutsText : List ℕ → List ℕ → List ℕ → ℕ → ℕ → Type 0
PutsText text before after count result =
    (count ≡ length text)
    × (((result ≡ DONE) × (length text ≤ length before) × (after ≡ text ++ drop (length text) before))
    ⊎ ((result ≡ ROOM) × (length before < length text) × (after ≡ before)))

-- The out-parameters of a call that writes a text and nothing else.
pub record TextOuts : Type 0 where
  pub into : List ℕ
  pub count : ℕ
