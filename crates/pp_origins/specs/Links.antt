-- Origins as links, which a caller gets: one for each place that is read, or one for a number that is read nowhere.
use Rattle.std.specs.Prelude.{ℕ, List, [], ◌∷◌, ◌++◌, length}
use denote.Enum.Declared.{tag_of}
use Rattle.pp_machine.specs.{Numbering.place_number, declared.place.Place.Place}
use Rattle.pp_origins.specs.Origin.{Origins}
use Rattle.pp_origins.specs.contracts.origin.Field.{the_type as field_type}
use Rattle.pp_origins.specs.contracts.origin.Operation.{the_type as operation_type}
use Rattle.pp_origins.specs.declared.origin.{Link.Link, Operation.Operation, Read.Read, TheConstants.NOTHING}
use Rattle.pp_origins.specs.declared.origin.Field.TheVariants.{Whole}

-- The link of a place that is written and a number that is read, with so many more after it.
abbrev pub link : Place → Operation → Read → ℕ → Link
link place operation r further = record {
  place = place_number place;
  source = place_number r.place;
  operation = tag_of operation_type operation;
  field = tag_of field_type r.field;
  further = further;
}

abbrev pub read_links : Place → Operation → List Read → List Link
read_links place operation [] = []
read_links place operation (r ∷ rs) = link place operation r (length rs) ∷ read_links place operation rs

-- The link of a place whose new number is read nowhere.
abbrev pub link_of_constant : Place → Operation → Link
link_of_constant place operation = record {
  place = place_number place;
  source = NOTHING;
  operation = tag_of operation_type operation;
  field = tag_of field_type Whole;
  further = 0;
}

abbrev pub links_of_one : Place → Operation → List Read → List Link
links_of_one place operation [] = link_of_constant place operation ∷ []
links_of_one place operation (r ∷ rs) = read_links place operation (r ∷ rs)

abbrev pub links_of : Origins → List Link
links_of [] = []
links_of (w ∷ ws) = links_of_one w.0 w.1.operation w.1.reads ++ links_of ws
