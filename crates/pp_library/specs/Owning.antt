-- What a handle owns: nothing, and then its pointer is null, or the same as a `Box<Console>`.
use base.Fml.{Fml, fex, ftrue}
use denote.RawPtr.{Ptr, null_ptr}
use Rattle.std.specs.Prelude.{◌≡◌, Option, None, Some}
use Rattle.std.specs.Box.Ownership.{box_owns}
use Rattle.std.specs.Global.{Global}
use Rattle.std_heap.specs.contracts.GlobalAllocator.TheImpl.{ghosts}
use Rattle.pp_library.specs.contracts.console.Console.{the_row}

abbrev pub handle_owns : Global → Ptr → Option the_row.Denot → Fml
handle_owns alloc at None = fex (at ≡ null_ptr) (λ _. ftrue)
handle_owns alloc at (Some console) = box_owns (ghosts.dealloc_token alloc) the_row at console
