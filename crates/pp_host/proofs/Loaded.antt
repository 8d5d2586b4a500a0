-- The trouble of a file that was not loaded.
use Rattle.std.proofs.Common.{◌≡◌, ◌≢◌, ◌⊎◌, List, ℕ, Bool, inl, inr, refl, Result, Err, Some}
use Rattle.std.specs.Result.{result_map_both}
use Rattle.pp_arguments.specs.CommandLine.{Text}
use Rattle.pp_files.specs.{Fault.IsLoadCause, Fault.IsSettled, Files.Rule, declared.fault.LoadFault.LoadFault}
use Rattle.pp_files.specs.declared.fault.LoadFault.TheVariants.{NoMemory}
use Rattle.pp_host.specs.{Known.Content, Loading.IsLost}
use Rattle.pp_trouble.specs.{Trouble.of_load, declared.trouble.FileKind.FileKind, declared.trouble.Trouble.TheVariants.ReadFailed}

module _ {A B : Type 0} (make : A → B) (kind : FileKind) (rule : Rule) (file : List ℕ → Result A LoadFault) (path : Text)
    (ended : Bool) (read bytes : List ℕ) (fault : LoadFault) where
  -- the file has this trouble
  abbrev Fails : Type 0
  Fails = IsSettled ended read bytes (λ all. result_map_both make (of_load kind) (file all) ≡ Err (of_load kind fault))

  fails : IsSettled ended read bytes (λ all. file all ≡ Err fault) → Fails
  fails (is, inl end) = (rw is refl, inl end)
  fails (is, inr all) = (rw is refl, inr (λ later. rw (all later) refl))

  -- the file has this trouble, or it was lost
  pub fails_or_lost : IsLoadCause rule file ended read bytes fault →
      Fails ⊎ IsLost rule (Some path) (Content read) ended (Content bytes) (of_load kind fault)
  fails_or_lost (inl settled) = inl (fails settled)
  fails_or_lost (inr (inl (none, out))) = inr (inl (rw none refl, out))
  fails_or_lost (inr (inr (failed, off))) = inr (inr (rw failed refl, off))

  -- likewise, for a file that needs no memory
  pub fails_or_broke_off : fault ≢ NoMemory → IsLoadCause rule file ended read bytes fault →
      Fails ⊎ ((of_load kind fault ≡ ReadFailed) × IsLost rule (Some path) (Content read) ended (Content bytes) ReadFailed)
  fails_or_broke_off some (inl settled) = inl (fails settled)
  fails_or_broke_off some (inr (inl (none, out))) = absurd (some none)
  fails_or_broke_off some (inr (inr (failed, off))) = inr (rw failed refl, inr (refl, off))
