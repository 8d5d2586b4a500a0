-- What the words of statements are.
use Rattle.std.specs.Prelude.{ℕ, ℤ, pos, negsuc, ◌+◌, ◌-◌, ◌*◌, ◌%◌, ◌==◌, ◌&&◌, ◌||◌, nat_le, nat_lt, not}
use Rattle.std.specs.Prelude.{Bool, true, false, Option, Some, None, List, [], ◌∷◌, ◌++◌, length, replicate}
use Rattle.std.specs.Prelude.{take, drop, slice_get, slice_set, fold, if◌then◌else◌}
use Rattle.std.specs.Ordering.{int_eq}
use Rattle.pp_notation.specs.Instructions.{form}
use Rattle.pp_notation.specs.InstructionWords.{constant_words, one_word, then_distance}
use Rattle.pp_notation.specs.declared.instructions.Form.{Form}
use Rattle.pp_notation.specs.declared.instructions.Form.TheVariants.{Alone, D as OneField, Target, Constant, Indexed, Both}
use Rattle.pp_meaning.specs.Blocks.{block_used, lie_behind, nominal}
use Rattle.pp_meaning.specs.Bits.{bits_left, bits_of, with_bits, words_of_bits, zeros_before}
use Rattle.pp_meaning.specs.Expressions.{address, address_around, chosen, decimal_above, is_above, value, value_above}
use Rattle.pp_meaning.specs.Fields.{is_minus_zero, item_field, operand_field}
use Rattle.pp_meaning.specs.Literals.{are_placed, index_of, is_at, words_of_literals}
use Rattle.pp_meaning.specs.Qualifiers.{in_qualifier, qualified}
use Rattle.pp_meaning.specs.Standing.{Standing, place_of}
use Rattle.pp_meaning.specs.Synonyms.{named, with_synonym}
use Rattle.pp_meaning.specs.Texts.{display, text_words}
use Rattle.pp_meaning.specs.declared.expressions.Atom.{Atom}
use Rattle.pp_meaning.specs.declared.expressions.Atom.TheVariants.{Number}
use Rattle.pp_meaning.specs.declared.expressions.Base.{Base}
use Rattle.pp_meaning.specs.declared.expressions.Item.{Item}
use Rattle.pp_meaning.specs.declared.expressions.Item.TheVariants.{Characters, Nothing, Sum}
use Rattle.pp_meaning.specs.declared.expressions.Literal.{Literal}
use Rattle.pp_meaning.specs.declared.expressions.Operand.{Operand}
use Rattle.pp_meaning.specs.declared.expressions.Operand.TheVariants.{Single, Literal as Named_literal, LiteralBits, Word}
use Rattle.pp_meaning.specs.declared.expressions.Place.{Place}
use Rattle.pp_meaning.specs.declared.expressions.Symbol.{Symbol}
use Rattle.pp_meaning.specs.declared.expressions.Term.{Term}
use Rattle.pp_meaning.specs.declared.expressions.Validity.{Validity}
use Rattle.pp_meaning.specs.declared.expressions.Validity.TheVariants.{Fixed, Set as Changing, Replaced}
use Rattle.pp_meaning.specs.declared.instruction.Words.{Words}
use Rattle.pp_meaning.specs.declared.statements.Block.{Block}
use Rattle.pp_meaning.specs.declared.statements.Label.{Label}
use Rattle.pp_meaning.specs.declared.statements.Label.TheVariants.{Empty, Minus, Named}
use Rattle.pp_meaning.specs.declared.statements.Operation.{Operation}
use Rattle.pp_meaning.specs.declared.statements.Operation.TheVariants.{Blank, Instruction, Constants, Data, Zeros, Space, Origin}
use Rattle.pp_meaning.specs.declared.statements.Operation.TheVariants.{Location, Equate, Set, Choose, Count, SetBase, BaseBefore}
use Rattle.pp_meaning.specs.declared.statements.Operation.TheVariants.{Deck, Display, Bits, Position, Shortest, Pool, Use, Synonym}
use Rattle.pp_meaning.specs.declared.statements.Operation.TheVariants.{Qualify, End}
use Rattle.pp_meaning.specs.declared.statements.Statement.{Statement}

-- ---- the words of a statement

abbrev pub rest_of : Option ℕ → List ℕ
rest_of None = []
rest_of (Some word) = word ∷ []

abbrev pub words_in : Words → List ℕ
words_in words = words.first ∷ rest_of words.second

abbrev pub two_words : ℕ → Option ℕ → Option ℕ → Option (List ℕ)
two_words code (Some d) (Some m) = Some ((code * 0o100 + d) ∷ m ∷ [])
two_words code _ _ = None

-- d of a relative jump.
abbrev pub distance_at : List Symbol → Place → Operand → Option ℕ
distance_at symbols place x = then_distance (place.location % 0o10000) (address_around (value symbols place x))

-- The words of an instruction of this form.
abbrev pub form_words : List Symbol → Place → Form → ℕ → List Operand → Option (List ℕ)
form_words symbols place Alone code [] = one_word code (Some 0)
form_words symbols place Alone code (x ∷ []) = one_word code (operand_field 6 symbols place x)
form_words symbols place OneField code (x ∷ []) = one_word code (operand_field 6 symbols place x)
form_words symbols place Target code (x ∷ []) = one_word code (distance_at symbols place x)
form_words symbols place Constant code (x ∷ []) = constant_words code (operand_field 18 symbols place x)
form_words symbols place Indexed code (x ∷ []) = two_words code (Some 0) (operand_field 12 symbols place x)
form_words symbols place Indexed code (x ∷ y ∷ []) =
    two_words code (operand_field 6 symbols place y) (operand_field 12 symbols place x)
form_words symbols place Both code (x ∷ y ∷ []) =
    two_words code (operand_field 6 symbols place y) (operand_field 12 symbols place x)
form_words symbols place _ code operands = None

-- One word more.
abbrev pub added : List ℕ → Option ℕ → Option (List ℕ)
added words None = None
added words (Some word) = Some (words ++ word ∷ [])

-- Nothing between two commas of CON is zero.
abbrev pub constant : List Symbol → Place → Operand → Option ℕ
constant symbols place (Single Nothing) = Some 0
constant symbols place x = operand_field 12 symbols place x

abbrev pub with_constant : List Symbol → Place → Option (List ℕ) → Operand → Option (List ℕ)
with_constant symbols place None x = None
with_constant symbols place (Some words) x = added words (constant symbols place x)

abbrev pub is_something : Option Operand → Bool
is_something None = false
is_something (Some (Single Nothing)) = false
is_something (Some x) = true

-- The words of CON. Something is behind the last comma.
abbrev pub constants : List Symbol → Place → List Operand → Option (List ℕ)
constants symbols place operands =
    if is_something (slice_get operands (length operands - 1)) then fold (with_constant symbols place) (Some []) operands else None

abbrev pub is_digits : Atom → Bool
is_digits (Number digits radix) = true
is_digits _ = false

-- A number of DATA has no names and no operators.
abbrev pub is_number : List Term → Bool
is_number (term ∷ []) = is_digits term.atom && length term.factors.items == 0
is_number _ = false

-- The words of a number, or of a text.
abbrev pub datum : List Symbol → Place → Item → Option (List ℕ)
datum symbols place (Sum x) = if is_number x.terms.items then added [] (item_field 12 symbols place (Sum x)) else None
datum symbols place (Characters text) = text_words text
datum symbols place Nothing = None

abbrev pub joined : List ℕ → Option (List ℕ) → Option (List ℕ)
joined words None = None
joined words (Some more) = Some (words ++ more)

abbrev pub with_datum : List Symbol → Place → Option (List ℕ) → Operand → Option (List ℕ)
with_datum symbols place None x = None
with_datum symbols place (Some words) (Single item) = joined words (datum symbols place item)
with_datum symbols place (Some words) x = None

-- The words of DATA.
abbrev pub data_words : List Symbol → Place → List Operand → Option (List ℕ)
data_words symbols place operands =
    if length operands == 0 then None else fold (with_datum symbols place) (Some []) operands

-- Words of zero.
abbrev pub zeros : Option ℕ → Option (List ℕ)
zeros None = None
zeros (Some count) = Some (replicate count 0)

-- The instructions of LDK and ADK: for a small number, for one with a minus, also minus zero, and for others.
abbrev pub small_code : Bool → ℕ
small_code is_sum = if is_sum then 0o16 else 0o14

abbrev pub minus_code : Bool → ℕ
minus_code is_sum = if is_sum then 0o17 else 0o15

abbrev pub wide_code : Bool → ℕ
wide_code is_sum = if is_sum then 0o21 else 0o20

abbrev pub wide_words : List Symbol → Place → Bool → Operand → Option (List ℕ)
wide_words symbols place is_sum x = constant_words (wide_code is_sum) (operand_field 18 symbols place x)

abbrev pub sized_words : List Symbol → Place → Bool → Operand → Option ℤ → Option (List ℕ)
sized_words symbols place is_sum x None = None
sized_words symbols place is_sum x (Some (pos n)) =
    if is_minus_zero x then one_word (minus_code is_sum) (Some 0)
    else (if nat_le n 0o77 then one_word (small_code is_sum) (operand_field 6 symbols place x)
    else wide_words symbols place is_sum x)
sized_words symbols place is_sum x (Some (negsuc n)) =
    if nat_lt n 0o77 then one_word (minus_code is_sum) (Some (n + 1)) else wide_words symbols place is_sum x

-- LDK and ADK have one word if the number is small and each name in it is defined above.
abbrev pub shortest : List Symbol → Place → Bool → Operand → Option (List ℕ)
shortest symbols place is_sum x =
    if is_above place x then sized_words symbols place is_sum x (value symbols place x) else wide_words symbols place is_sum x

-- A statement with a label alone has no words.
abbrev pub words_of : List Symbol → Place → Operation → List Operand → Option (List ℕ)
words_of symbols place Blank [] = Some []
words_of symbols place (Instruction code) operands = form_words symbols place (form code) code operands
words_of symbols place Constants operands = constants symbols place operands
words_of symbols place Data operands = data_words symbols place operands
words_of symbols place Zeros (x ∷ []) = zeros (address (value_above symbols place x))
words_of symbols place Display (Single (Characters text) ∷ []) = display text
words_of symbols place (Shortest is_sum) (x ∷ []) = shortest symbols place is_sum x
words_of symbols place _ operands = None

-- ---- statements

-- One word more in the memory.
abbrev pub store : ℕ × List (Option ℕ) → ℕ → ℕ × List (Option ℕ)
store before word = (before.0 + 1, slice_set before.1 before.0 (Some word))

-- Words in cells of the memory from the origin on. A later word replaces an earlier one.
abbrev pub with_words : Standing → Option (List ℕ) → Option Standing
with_words s None = None
with_words s (Some words) =
    let stored = fold store (s.origin, s.memory) words in
    if nat_le (length words) (0o10000 - s.origin)
    then Some (record s {
      origin = stored.0;
      location = s.location + length words;
      memory = stored.1;
      words = s.words ++ words;
      used = if length words == 0 then s.used else 0;
    })
    else None

-- SET makes a symbol that another SET may change, and other statements one that stays. In a system text both may make one that the
-- source defines anew; if it does so by SET, that symbol is as one of SET.
abbrev pub may_make : Bool → Bool → Validity → Bool
may_make is_system is_set Fixed = not is_set
may_make is_system is_set Changing = is_set || is_system
may_make is_system is_set Replaced = is_system

-- Whether a symbol stands for a number, and a statement may make it.
abbrev pub is_symbol : Bool → Bool → ℤ → Option Symbol → Bool
is_symbol is_system is_set number None = false
is_symbol is_system is_set number (Some symbol) = int_eq symbol.value number && may_make is_system is_set symbol.validity

-- A name that a statement defines is the next one of the symbols, and stands for this number.
abbrev pub define : List Symbol → Bool → Standing → ℕ → Option ℤ → Option Standing
define symbols is_set s index None = None
define symbols is_set s index (Some number) =
    if index == s.defined && is_symbol s.is_system is_set number (slice_get symbols index)
    then Some (record s { defined = s.defined + 1 })
    else None

-- A label stands for the location. + and - in its place are none.
abbrev pub labelled : List Symbol → Standing → Label → Option Standing
labelled symbols s (Named index) = define symbols false s index (Some (pos s.location))
labelled symbols s label = Some s

-- So many cells on, or back.
abbrev pub cells_on : ℕ → ℤ → Option ℕ
cells_on cell (pos n) = Some (cell + n)
cells_on cell (negsuc n) = if nat_le (n + 1) cell then Some (cell - (n + 1)) else None

abbrev pub at : Standing → Option ℕ → Option ℕ → Option Standing
at s (Some origin) (Some location) = Some (record s { origin = origin; location = location; used = 0 })
at s _ _ = None

abbrev pub then_at : Option Standing → Option ℕ → Option Standing
then_at None cell = None
then_at (Some s) cell = at s cell cell

abbrev pub moved : Standing → Option ℤ → Option Standing
moved s None = None
moved s (Some number) = at s (cells_on s.origin number) (cells_on s.location number)

abbrev pub then_moved : List Symbol → Option Standing → Operand → Option Standing
then_moved symbols None x = None
then_moved symbols (Some s) x = moved s (value_above symbols (place_of s) x)

abbrev pub then_labelled : List Symbol → Option Standing → Label → Option Standing
then_labelled symbols None label = None
then_labelled symbols (Some s) label = labelled symbols s label

abbrev pub then_words : List Symbol → Option Standing → Operation → List Operand → Option Standing
then_words symbols None operation operands = None
then_words symbols (Some s) operation operands = with_words s (words_of symbols (place_of s) operation operands)

-- BASE * goes back to the base before.
abbrev pub base_before : Standing → Option (Option Base) → Option Standing
base_before s None = None
base_before s (Some base) = Some (record s { base = base; bases = take (length s.bases - 1) s.bases })

abbrev pub ended : Standing → Option ℕ → Option Standing
ended s None = None
ended s (Some start) = Some (record s { start = Some start })

-- A VFD without a label goes on in the word that the one before has not filled.
abbrev pub goes_on : Standing → Label → Bool
goes_on s Empty = not (s.used == 0)
goes_on s Minus = not (s.used == 0)
goes_on s label = false

abbrev pub bits_used : ℕ → Option ℕ → List ℕ
bits_used count None = []
bits_used count (Some word) = take count (bits_of 12 word)

-- The bits before those of a VFD, in the same word.
abbrev pub bits_before : Standing → Label → List ℕ
bits_before s label = if goes_on s label then bits_used s.used (slice_get s.words (length s.words - 1)) else []

abbrev pub without_last : Standing → Standing
without_last s = record s { origin = s.origin - 1; location = s.location - 1; words = take (length s.words - 1) s.words }

abbrev pub opened : ℕ → Option Standing → Option Standing
opened count None = None
opened count (Some s) = Some (record s { used = if count == 0 then s.used else count % 12 })

-- Bits in words. The word that was not full is written once more.
abbrev pub put_bits : Standing → Label → Option (List ℕ) → Option Standing
put_bits s label None = None
put_bits s label (Some bits) =
    opened (length bits) (with_words (if goes_on s label then without_last s else s) (Some (words_of_bits bits)))

abbrev pub then_bits : List Symbol → Option Standing → Label → List Operand → Option Standing
then_bits symbols None label operands = None
then_bits symbols (Some s) label operands =
    if length operands == 0 then None
    else put_bits s label (fold (with_bits symbols (place_of s)) (Some (bits_before s label)) operands)

abbrev pub with_zeros : List ℕ → Option ℕ → Option (List ℕ)
with_zeros bits None = None
with_zeros bits (Some count) = Some (bits ++ replicate count 0)

abbrev pub then_position : List Symbol → Option Standing → Label → Operand → Option Standing
then_position symbols None label x = None
then_position symbols (Some s) label x =
    let bits = bits_before s label in
    put_bits s label (with_zeros bits (zeros_before (bits_left (length bits)) (decimal_above symbols (place_of s) x)))

-- What there is after a statement.
abbrev pub after : List Symbol → Standing → Label → Operation → List Operand → Option Standing
after symbols s label Space (x ∷ []) = then_moved symbols (labelled symbols s label) x
after symbols s label Origin (x ∷ []) =
    then_labelled symbols (then_at (nominal s) (address (value_above symbols (place_of s) x))) label
after symbols s label Location (x ∷ []) =
    then_labelled symbols (at s (Some s.origin) (address (value_above symbols (place_of s) x))) label
after symbols s (Named index) (Equate is_sign) (x ∷ []) = define symbols false s index (value_above symbols (place_of s) x)
after symbols s (Named index) Set (x ∷ []) = define symbols true s index (value_above symbols (place_of s) x)
after symbols s (Named index) (Choose is_greatest) operands = define symbols true s index
    (chosen symbols (place_of s) is_greatest operands)
after symbols s (Named index) (Count number) (Word name ∷ []) = define symbols true s index (Some (pos number))
after symbols s label Bits operands = then_bits symbols (labelled symbols s label) label operands
after symbols s label Position (x ∷ []) = then_position symbols (labelled symbols s label) label x
after symbols s (Named index) (Pool address) operands = define symbols false s index (Some (pos address))
after symbols s Empty (Pool address) operands = Some s
after symbols s Minus (Pool address) operands = Some s
after symbols s Empty (SetBase base more) [] = Some (record s { base = Some base; bases = s.bases ++ s.base ∷ [] })
after symbols s Empty BaseBefore [] = base_before s (slice_get s.bases (length s.bases - 1))
after symbols s Empty Deck [] = Some (record s { is_deck = true })
after symbols s Empty Synonym (Word old ∷ []) = Some s
after symbols s Empty (Qualify left right) operands = qualified s operands
after symbols s Empty End [] = Some s
after symbols s Empty End (x ∷ []) = ended s (operand_field 12 symbols (place_of s) x)
after symbols s label operation operands = then_words symbols (labelled symbols s label) operation operands

-- Literals are in the order in which they are named first.
abbrev pub with_named : Standing → Bool → ℕ → Option Standing
with_named s false index = None
with_named s true index =
    if nat_lt index s.literals then Some s
    else (if index == s.literals then Some (record s { literals = s.literals + 1 }) else None)

-- A literal with these words is at this address.
abbrev pub naming : List Literal → Standing → ℕ → Option ℕ → Option Standing
naming literals s address None = None
naming literals s address (Some index) = with_named s (is_at address (slice_get literals index)) index

abbrev pub with_literal : List Symbol → List Literal → Option Standing → Operand → Option Standing
with_literal symbols literals None x = None
with_literal symbols literals (Some s) (Named_literal address item) =
    naming literals s address (index_of literals (datum symbols (place_of s) item))
with_literal symbols literals (Some s) (LiteralBits width address item) =
    naming literals s address (index_of literals (datum symbols (place_of s) item))
with_literal symbols literals (Some s) x = Some s

-- LIT names the literal that has its words.
abbrev pub with_pool : List Symbol → List Literal → Option Standing → Operation → List Operand → Option Standing
with_pool symbols literals None operation operands = None
with_pool symbols literals (Some s) (Pool address) operands =
    naming literals s address (index_of literals (data_words symbols (place_of s) operands))
with_pool symbols literals (Some s) operation operands = Some s

-- An instruction names the literal of its index before that of its address.
abbrev pub in_order : Operation → List Operand → List Operand
in_order (Instruction code) (x ∷ y ∷ []) = y ∷ x ∷ []
in_order operation operands = operands

abbrev pub with_all_literals : List Symbol → List Literal → Option Standing → Operation → List Operand → Option Standing
with_all_literals symbols literals before operation operands =
    with_pool symbols literals (fold (with_literal symbols literals) before (in_order operation operands)) operation operands

-- USE goes on with a block, in which its label is.
abbrev pub after_any : List Symbol → List Block → Standing → Label → Operation → List Operand → Option Standing
after_any symbols blocks s label Use operands = then_labelled symbols (block_used blocks s operands) label
after_any symbols blocks s label operation operands = after symbols s label operation operands

abbrev pub then_after : List Symbol → List Block → Option Standing → Statement → Option Standing
then_after symbols blocks None statement = None
then_after symbols blocks (Some s) statement = after_any symbols blocks s statement.label statement.operation
    statement.operands.items

abbrev pub reached : Option Standing → Option Standing
reached None = None
reached (Some s) = Some (record s { reach = if nat_lt s.reach s.origin then s.origin else s.reach })

abbrev pub follow : List Symbol → List Literal → List Block → Option Standing → Statement → Option Standing
follow symbols literals blocks before statement =
    reached (with_synonym (then_after symbols blocks
    (with_all_literals symbols literals (named (in_qualifier before statement) statement) statement.operation
    statement.operands.items) statement)
    statement.word.items statement.operation statement.operands.items)

-- The literals are behind the highest cell of the nominal block.
abbrev pub with_literals : List Literal → Option Standing → Option Standing
with_literals literals None = None
with_literals [] (Some s) = Some s
with_literals literals (Some s) =
    if s.literals == length literals && are_placed s.reach literals
    then with_words (record s { origin = s.reach }) (Some (words_of_literals literals))
    else None

-- Behind the nominal block and the literals are the other blocks, each of which USE has named.
abbrev pub with_blocks : List Literal → List Block → Option Standing → Option Standing
with_blocks literals blocks None = None
with_blocks literals blocks (Some s) =
    if s.named == length blocks && lie_behind (s.reach + length (words_of_literals literals)) blocks (drop 1 s.blocks) then Some s
    else None
