-- Watched places in the texts of answers.
use Rattle.std.specs.Prelude.{ℕ, List, [], ◌++◌, Option, Some, None, codes}
use Rattle.std.specs.List.{flat_map}
use Rattle.pp_rig.specs.declared.stopping.Hit.{Hit}
use Rattle.pp_actions.specs.declared.watched.Watched.{Watched}
use Rattle.pp_actions.specs.declared.watched.Watched.TheVariants.{Cell, RegA, RegP, RegQ, Central, Register}
use Rattle.pp_console.specs.Text.{field}

-- A watched place: its kind and its address, a processor or a channel by two octal digits, a cell by four, a central word by six.
unfoldable pub place_text : Watched → List ℕ
place_text (Cell n a) = field (codes "M ") 2 n ++ field (codes " ") 4 a
place_text (RegA n) = field (codes "A ") 2 n
place_text (RegP n) = field (codes "P ") 2 n
place_text (RegQ n) = field (codes "Q ") 2 n
place_text (Central a) = field (codes "C ") 6 a
place_text (Register c) = field (codes "H ") 2 c

-- The number of octal digits that a place's number has: 6 for A, 20 (decimal) for a central word, and 4 for all else.
unfoldable pub digits_of : Watched → ℕ
digits_of (RegA n) = 6
digits_of (Central a) = 20
digits_of _ = 4

-- DUMP W: a watch.
unfoldable pub watch_text : Watched → List ℕ
watch_text watched = codes "W " ++ place_text watched ++ codes "\n"

-- DUMP W: the watches, the oldest first, or W NONE if there are none.
unfoldable pub watches_text : List Watched → List ℕ
watches_text [] = codes "W NONE\n"
watches_text watches = flat_map watch_text watches

-- The change that ended the turns of a STEP, if there is one: the place, its number before that turn and its number after.
unfoldable pub hit_text : Option Hit → List ℕ
hit_text None = []
hit_text (Some hit) =
    codes "HIT " ++ place_text hit.place ++ field (codes " ") (digits_of hit.place) hit.was
    ++ field (codes " ") (digits_of hit.place) hit.now ++ codes "\n"
