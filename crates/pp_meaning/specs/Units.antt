-- The programs of a source, behind its system texts. Each has literals, blocks and a memory of its own.
use Rattle.std.specs.Prelude.{◌≡◌, ℕ, Bool, true, false, Option, Some, None, List, [], ◌∷◌, fold, length, map, replicate}
use Rattle.pp_meaning.specs.Blocks.{closed}
use Rattle.pp_meaning.specs.Meaning.{follow, with_blocks, with_literals}
use Rattle.pp_meaning.specs.Standing.{Standing, first_counters, prefix_text, synonym_pair}
use Rattle.pp_meaning.specs.declared.statements.Image.{Image}
use Rattle.pp_meaning.specs.declared.expressions.Base.{Base}
use Rattle.pp_meaning.specs.declared.expressions.Symbol.{Symbol}
use Rattle.pp_meaning.specs.declared.statements.Block.{Block}
use Rattle.pp_meaning.specs.declared.statements.Left.{Left}
use Rattle.pp_meaning.specs.declared.statements.SystemText.{SystemText}
use Rattle.pp_meaning.specs.declared.statements.Unit.{Unit}

-- What units leave to the next one: how many symbols they define, the names that they give to operations, whether PERIPH says that the
-- source is a deck, the base of numbers, those that BASE * goes back to, and the qualifiers of QUAL.
pub record Known : Type 0 where
  pub defined : ℕ
  pub synonyms : List (List ℕ × List ℕ)
  pub is_deck : Bool
  pub base : Option Base
  pub bases : List (Option Base)
  pub prefixes : List (List ℕ)

abbrev pub known : Left → Known
known s = record {
  defined = s.defined;
  synonyms = map synonym_pair s.synonyms.items;
  is_deck = s.is_deck;
  base = s.base;
  bases = s.bases.items;
  prefixes = map prefix_text s.prefixes.items;
}

abbrev pub left_by : Standing → Known
left_by s = record {
  defined = s.defined;
  synonyms = s.synonyms;
  is_deck = s.is_deck;
  base = s.base;
  bases = s.bases;
  prefixes = s.prefixes;
}

-- Before the first system text nothing is defined.
abbrev pub nothing_known : Known
nothing_known = record { defined = 0; synonyms = []; is_deck = false; base = None; bases = []; prefixes = [] }

-- A unit begins in the nominal block, at cell 0 of an empty memory.
abbrev pub first : Bool → List Block → Known → Standing
first is_system blocks before = record {
  is_system = is_system;
  location = 0;
  origin = 0;
  is_deck = before.is_deck;
  base = before.base;
  bases = before.bases;
  defined = before.defined;
  literals = 0;
  reach = 0;
  memory = replicate 0o10000 None;
  words = [];
  used = 0;
  start = None;
  block = 0;
  before = [];
  named = 0;
  blocks = first_counters blocks;
  synonyms = before.synonyms;
  prefixes = before.prefixes;
}

-- The statements of a unit.
abbrev pub performed : List Symbol → Bool → Known → Unit → Option Standing
performed symbols is_system before unit =
    fold (follow symbols unit.literals.items unit.blocks.items) (Some (first is_system unit.blocks.items before)) unit.statements.items

-- ---- system texts

abbrev pub then_left : Option Standing → Option Known
then_left None = None
then_left (Some s) = Some (left_by s)

abbrev pub with_unit : List Symbol → Option Known → Unit → Option Known
with_unit symbols None unit = None
with_unit symbols (Some before) unit = then_left (performed symbols true before unit)

abbrev pub without_bases : Option Known → Option Known
without_bases None = None
without_bases (Some before) = Some (record before { is_deck = false; base = None; bases = []; prefixes = [] })

-- A system text leaves its symbols and its names of OPSYN alone. Its words, literals and blocks have no place.
abbrev pub with_system : List Symbol → Option Known → SystemText → Option Known
with_system symbols before text = without_bases (fold (with_unit symbols) before text.units.items)

abbrev pub begun : List Symbol → List SystemText → Option Known
begun symbols systems = fold (with_system symbols) (Some nothing_known) systems

-- ---- the units of a source

-- Behind the statements of a unit are its literals and its blocks.
abbrev pub assembled : List Symbol → Known → Unit → Option Standing
assembled symbols before unit =
    with_blocks unit.literals.items unit.blocks.items
    (with_literals unit.literals.items (closed (performed symbols false before unit)))

-- An image has the words of a unit.
pub record IsImage (after : Standing) (image : Image) : Type 0 where
  pub memory : after.memory ≡ image.memory.items
  pub words : after.words ≡ image.words.items
  pub start : after.start ≡ image.start

-- Each image is that of its unit, which goes on with what those before have left. Behind the last unit all symbols are defined.
abbrev pub AreAssembled : List Symbol → Known → List Unit → List Image → Type 0
AreAssembled symbols before [] [] = before.defined ≡ length symbols
AreAssembled symbols before [] (image ∷ images) = ⊥
AreAssembled symbols before (unit ∷ units) [] = ⊥
AreAssembled symbols before (unit ∷ units) (image ∷ images) =
    (after : Standing) × (assembled symbols before unit ≡ Some after) × IsImage after image
    × AreAssembled symbols (left_by after) units images

-- The images have the words of the units, behind system texts.
pub record IsAssembled (symbols : List Symbol) (systems : List SystemText) (units : List Unit) (images : List Image) : Type 0 where
  pub before : Known
  pub systems_leave : begun symbols systems ≡ Some before
  pub units_make : AreAssembled symbols before units images
