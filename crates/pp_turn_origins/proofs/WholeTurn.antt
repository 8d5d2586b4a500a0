-- A whole turn, and turns one after another.
use Rattle.std.proofs.Common.{◌≡◌, ℕ, ◌+◌, ◌≤◌, ◌==◌, true, false, zero, suc, List, [], ◌∷◌, ◌++◌, add-one, ap, append-nil}
use Rattle.std.proofs.Common.{append_assoc, arith, if◌then◌else◌, length, refl, subst, sym, take, ◌∙◌}
use Rattle.std.proofs.lemmas.List.{length-append, length-take-le}
use Rattle.pp_machine.specs.declared.place.Place.{Place}
use Rattle.pp_machine.specs.Prelude.{Machine, Writes}
use Rattle.pp_machine.specs.declared.place.Place.TheVariants.{Clock}
use Rattle.pp_origins.proofs.LinkLists.{links-append}
use Rattle.pp_origins.specs.Links.{links_of}
use Rattle.pp_origins.specs.declared.origin.Link.{Link}
use Rattle.pp_actions.specs.declared.action.Action.{Action}
use Rattle.pp_actions.specs.declared.action.Action.TheVariants.{Turn}
use Rattle.pp_history.specs.SessionValue.{AreNewest, replay}
use Rattle.pp_rig.proofs.Recordings.{newest_pairs}
use Rattle.pp_rig.proofs.Shortest.{turned-first}
use Rattle.pp_rig.specs.Inner.ActionRecords.{old_values_of}
use Rattle.pp_rig.specs.Inner.TurnRecords.{turn_old_values}
use Rattle.pp_rig.specs.Rules.{rules}
use Rattle.pp_rig.specs.Stopping.{turned}
use Rattle.pp_rig.specs.Turn.{turn}
use Rattle.pp_turn_origins.proofs.Parts.{slot_waits}
use Rattle.pp_turn_origins.proofs.TurnOrigins.{after_processor, after_reader}
use Rattle.pp_turn_origins.specs.Devices.{clock_origins, from, printer_origins, reader_origins, slot_origins}
use Rattle.pp_turn_origins.specs.Inner.{is_turn, rest_origins}
use Rattle.pp_turn_origins.specs.Recording.{all_links, all_made, links_by, made_by, made_of}
use Rattle.pp_turn_origins.specs.Turn.{processor_origins, turn_origins}
use Rattle.pp_turn_origins.specs.declared.recording.Made.{Made}
use Rattle.pp_origins.specs.declared.origin.Operation.TheVariants as by

pub rest_links : (s : Machine) → links_of (rest_origins s)
    ≡ links_of (reader_origins (after_processor s)) ++
    (links_of (printer_origins (after_reader s)) ++ (links_of (clock_origins s) ++ links_of (slot_origins s)))
unfolding rest_origins
rest_links s =
    links-append (reader_origins (after_processor s)) _ ∙ ap (λ ls. links_of (reader_origins (after_processor s)) ++ ls)
    (links-append (printer_origins (after_reader s)) _ ∙ ap (λ ls. links_of (printer_origins (after_reader s)) ++ ls)
    (ap (λ n. links_of ((if n == 0o11 then (Clock, from by.After1 (Clock ∷ [])) ∷ [] else []) ++ (slot_origins s ++ [])))
    (slot_waits s)
    ∙ links-append (clock_origins s) (slot_origins s ++ [])))

pub turn_links : (s : Machine) → links_of (turn_origins s) ≡ links_of (processor_origins s) ++ links_of (rest_origins s)
unfolding turn_origins rest_origins
turn_links s = links-append (processor_origins s) _

-- ---- one more turn

made_last : (turns : ℕ) (s : Machine) → all_made (suc turns) s ≡ all_made turns s ++ made_of (turned turns s) ∷ []
unfolding all_made
made_last zero s = refl
made_last (suc turns) s = ap (λ made. made_of s ∷ made) (made_last turns (turn s)
    ∙ ap (λ m. all_made turns (turn s) ++ made_of m ∷ []) (turned-first turns s))

pub made_more : (turns : ℕ) (s : Machine) → all_made (turns + 1) s ≡ all_made turns s ++ made_of (turned turns s) ∷ []
made_more turns s = rw add-one (made_last turns s)

links_last : (turns : ℕ) (s : Machine) → all_links (suc turns) s ≡ all_links turns s ++ links_of (turn_origins (turned turns s))
unfolding all_links
links_last zero s = append-nil (links_of (turn_origins s))
links_last (suc turns) s = ap (λ ls. links_of (turn_origins s) ++ ls) (links_last turns (turn s)
    ∙ ap (λ m. all_links turns (turn s) ++ links_of (turn_origins m)) (turned-first turns s))
    ∙ sym (append_assoc (links_of (turn_origins s)) (all_links turns (turn s)) (links_of (turn_origins (turned (suc turns) s))))

pub links_more : (turns : ℕ) (s : Machine) → all_links (turns + 1) s ≡ all_links turns s ++ links_of (turn_origins (turned turns s))
links_more turns s = rw add-one (links_last turns s)

-- what the newest action, a turn, overwrote
pub newest_turn : (start : Machine) (standing earlier : List Action) (pairs : Writes Place) → AreNewest rules start standing pairs →
    standing ≡ Turn ∷ earlier → pairs ≡ turn_old_values (replay rules start earlier)
newest_turn start standing earlier pairs newest same = newest_pairs start standing earlier Turn pairs newest same

-- what was put behind others is counted by how far it reaches
pub reaches : {X : Type 0} (links front xs : List X) (used end : ℕ) → end ≤ length links → take end links ≡ front ++ xs →
    length front ≡ used → end ≡ used + length xs
reaches links front xs used end within is count =
    omega (arith, length-take-le end links within, ap length is, length-append front xs, count)

-- the links of a turn were put behind others, first those of its processor
pub record ArePut (s : Machine) (front links : List Link) (used middle end : ℕ) : Type 0 where
  pub own : middle ≡ used + length (links_of (processor_origins s))
  pub all : end ≡ used + length (links_of (turn_origins s))
  pub items : take end links ≡ front ++ links_of (turn_origins s)

pub are_put : (s : Machine) (front first second : List Link) (used middle end : ℕ) → length front ≡ used → middle ≤ length first →
    end ≤ length second → take middle first ≡ front ++ links_of (processor_origins s) →
    take end second ≡ take middle first ++ links_of (rest_origins s) → ArePut s front second used middle end
are_put s front first second used middle end count within within2 own rest =
    let items = rest ∙ ap (λ ls. ls ++ links_of (rest_origins s)) own
    ∙ append_assoc front (links_of (processor_origins s)) (links_of (rest_origins s)) ∙ ap (λ ls. front ++ ls) (sym (turn_links s))
    in
    record {
      own = reaches first front (links_of (processor_origins s)) used middle within own count;
      all = reaches second front (links_of (turn_origins s)) used end within2 items count;
      items = items;
    }

-- a turn is as it is told, if each part is
pub made_same : {processor processor2 address address2 word word2 kind kind2 links links2 own own2 olds olds2 : ℕ} →
    processor ≡ processor2 → address ≡ address2 → word ≡ word2 → kind ≡ kind2 → links ≡ links2 → own ≡ own2 → olds ≡ olds2 →
    ◌≡◌ {A = Made} (record {
      processor = processor;
      address = address;
      word = word;
      kind = kind;
      links = links;
      own = own;
      olds =
          olds;
    })
    (record { processor = processor2; address = address2; word = word2; kind = kind2; links = links2; own = own2; olds = olds2 })
made_same h i j k l m n = cc (h, i, j, k, l, m, n)

-- an action is a turn, or one of the operator's
pub turn_is : (action : Action) → is_turn action ≡ true → action ≡ Turn
turn_is Turn is = refl
turn_is action is = absurd (cc)

pub made_other : (s : Machine) (action : Action) (olds : ℕ) → is_turn action ≡ false → olds ≡ length (old_values_of s action) →
    ◌≡◌ {A = Made} (record { processor = 10; address = 0; word = 0; kind = 0; links = 0; own = 0; olds = olds }) (made_by s action)
made_other s Turn olds is same = absurd (cc)
made_other s action olds is same = rw same refl

pub links_other : (s : Machine) (action : Action) → is_turn action ≡ false → links_by s action ≡ []
links_other s Turn is = absurd (cc)
links_other s action is = refl

-- three lists behind another, one after the other
pub three_more : {X : Type 0} (front a b c x y z rest : List X) → x ≡ front ++ a → y ≡ x ++ b → z ≡ y ++ c → a ++ (b ++ c) ≡ rest →
    z ≡ front ++ rest
three_more front a b c x y z rest h i j k = j ∙ ap (λ ls. ls ++ c) i ∙ ap (λ ls. (ls ++ b) ++ c) h ∙ append_assoc (front ++ a) b c
    ∙ append_assoc front a (b ++ c) ∙ ap (λ ls. front ++ ls) k
