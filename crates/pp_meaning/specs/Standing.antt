-- What there is between statements.
use Rattle.std.specs.Prelude.{ℕ, Bool, if◌then◌else◌, Option, Some, None, List, ◌∷◌, Vec, map}
use Rattle.std.specs.Global.{Global}
use Rattle.pp_meaning.specs.declared.expressions.Base.{Base}
use Rattle.pp_meaning.specs.declared.expressions.Base.TheVariants.{Decimal}
use Rattle.pp_meaning.specs.declared.expressions.Place.{Place}
use Rattle.pp_meaning.specs.declared.statements.Block.{Block}
use Rattle.pp_meaning.specs.declared.statements.Counters.{Counters}
use Rattle.pp_meaning.specs.declared.statements.State.{State}
use Rattle.pp_meaning.specs.declared.statements.Synonym.{Synonym}

-- Numbers of a deck are decimal before BASE.
abbrev pub deck_base : Option Base → Base
deck_base None = Decimal
deck_base (Some base) = base

-- What there is so far: whether a system text is performed, the counters, whether PERIPH says that the source is a deck, the base of
-- numbers, those that BASE * goes back to, how many symbols are defined, how many literals are named, the cell after the highest one, the memory, the words in the
-- order of their statements, how many bits of the last word are used, if VFD has not filled it, or 0, and where a processor begins.
-- Of the blocks of USE there are the present one, those that USE * goes back to, how many have been named, and their counters. The
-- synonyms are names of OPSYN, each with the name of its operation. The prefixes are what was before a name with the qualifiers of
-- QUAL, that of the present one at the end.
pub record Standing : Type 0 where
  pub is_system : Bool
  pub location : ℕ
  pub origin : ℕ
  pub is_deck : Bool
  pub base : Option Base
  pub bases : List (Option Base)
  pub defined : ℕ
  pub literals : ℕ
  pub reach : ℕ
  pub memory : List (Option ℕ)
  pub words : List ℕ
  pub used : ℕ
  pub start : Option ℕ
  pub block : ℕ
  pub before : List ℕ
  pub named : ℕ
  pub blocks : List Counters
  pub synonyms : List (List ℕ × List ℕ)
  pub prefixes : List (List ℕ)

abbrev pub place_of : Standing → Place
place_of s = record {
  location = s.location;
  origin = s.origin;
  base = if s.is_deck then Some (deck_base s.base) else s.base;
  defined = s.defined;
  is_system = s.is_system;
}

-- A block begins at its base, and the nominal one at cell 0.
abbrev pub from_cell : ℕ → Counters
from_cell cell = record { location = cell; origin = cell; reach = cell }

abbrev pub first_counters : List Block → List Counters
first_counters blocks = from_cell 0 ∷ map (λ block. from_cell block.base) blocks

abbrev pub synonym_pair : Synonym → List ℕ × List ℕ
synonym_pair synonym = (synonym.name.items, synonym.operation.items)

abbrev pub prefix_text : Vec ℕ Global → List ℕ
prefix_text prefix = prefix.items

abbrev pub standing : State → Standing
standing s = record {
  is_system = s.is_system;
  location = s.location;
  origin = s.origin;
  is_deck = s.is_deck;
  base = s.base;
  bases = s.bases.items;
  defined = s.defined;
  literals = s.literals;
  reach = s.reach;
  memory = s.memory.items;
  words = s.words.items;
  used = s.used;
  start = s.start;
  block = s.block;
  before = s.before.items;
  named = s.named;
  blocks = s.blocks.items;
  synonyms = map synonym_pair s.synonyms.items;
  prefixes = map prefix_text s.prefixes.items;
}
