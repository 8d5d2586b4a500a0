-- How the logic stores an event. Only the log of files uses this file.
use Rattle.std.specs.Prelude.{◌≡◌, ℕ, Bool, zero, suc, ◌⊎◌, List}
use Rattle.std.specs.Coded.{Coded, code_by, coded_ℕ, coded_bool, coded_list, coded×, coded⊎}
use mathlib.Core.Logic.{inl, inr}
use mathlib.Core.Path.{refl}
use Rattle.pp_arguments.specs.CommandLine.{Text}
use Rattle.pp_host.specs.Events.{Closed, Event, Missing, Opened}
use Rattle.pp_trouble.specs.declared.trouble.FileKind.{FileKind}
use Rattle.pp_trouble.specs.declared.trouble.FileKind.TheVariants.{Deck, Panel, Script}

abbrev number_of : FileKind → ℕ
number_of Deck = 0
number_of Panel = 1
number_of Script = 2

abbrev kind_of : ℕ → FileKind
kind_of zero = Deck
kind_of (suc zero) = Panel
kind_of (suc (suc n)) = Script

abbrev kind-of-number : (kind : FileKind) → kind_of (number_of kind) ≡ kind
kind-of-number Deck = refl
kind-of-number Panel = refl
kind-of-number Script = refl

abbrev coded_kind : Coded FileKind
coded_kind = code_by ℕ coded_ℕ number_of kind_of kind-of-number

abbrev Stored : Type 0
Stored = (FileKind × Text) ⊎ ((FileKind × Text) ⊎ (List ℕ × Bool))

abbrev stored : Event → Stored
stored (Opened kind path) = inl (kind, path)
stored (Missing kind path) = inr (inl (kind, path))
stored (Closed bytes ended) = inr (inr (bytes, ended))

abbrev restored : Stored → Event
restored (inl (kind, path)) = Opened kind path
restored (inr (inl (kind, path))) = Missing kind path
restored (inr (inr (bytes, ended))) = Closed bytes ended

abbrev restored-stored : (event : Event) → restored (stored event) ≡ event
restored-stored (Opened kind path) = refl
restored-stored (Missing kind path) = refl
restored-stored (Closed bytes ended) = refl

abbrev coded_file : Coded (FileKind × Text)
coded_file = coded× coded_kind (coded_list coded_ℕ)

abbrev coded_end : Coded (List ℕ × Bool)
coded_end = coded× (coded_list coded_ℕ) coded_bool

abbrev pub coded_event : Coded Event
coded_event = code_by Stored (coded⊎ coded_file (coded⊎ coded_file coded_end)) stored restored restored-stored
