-- How statements are written. A line is a label, an operation, operands and a comment, with blanks between two.
use Rattle.std.specs.Prelude.{◌≡◌, ◌+◌, ◌==◌, ◌&&◌, ◌||◌, not, ℕ, Bool, true, false, length, take, drop, Option, Some, None, List}
use Rattle.std.specs.Prelude.{[], ◌∷◌, ◌++◌, ◌-◌, bytes_eq, codes, map, replicate, slice_get, if◌then◌else◌}
use Rattle.std.specs.List.{AllByRecursion, flat_map, list_all}
use Rattle.pp_notation.specs.DisplayCode.{symbol}
use Rattle.pp_notation.specs.Mnemonics.{mnemonic}
use Rattle.pp_meaning.specs.Numbers.{decimal_number}
use Rattle.pp_meaning.specs.Qualifiers.{Names, full_text, is_own, short_text, without_prefix}
use Rattle.pp_meaning.specs.Texts.{has_all, is_without, text_with}
use Rattle.pp_meaning.specs.declared.expressions.Atom.{Atom}
use Rattle.pp_meaning.specs.declared.expressions.Atom.TheVariants.{Number, Name, Qualified, Here, LocationCounter}
use Rattle.pp_meaning.specs.declared.expressions.Atom.TheVariants.{OriginCounter, Nothing, Symbols, Shifted}
use Rattle.pp_meaning.specs.declared.expressions.Base.{Base}
use Rattle.pp_meaning.specs.declared.expressions.Base.TheVariants.{Octal, Decimal, Mixed}
use Rattle.pp_meaning.specs.declared.expressions.Expression.{Expression}
use Rattle.pp_meaning.specs.declared.expressions.Factor.{Factor}
use Rattle.pp_meaning.specs.declared.expressions.Item.{Item}
use Rattle.pp_meaning.specs.declared.expressions.Item.TheVariants.{Characters, Nothing as Null, Sum}
use Rattle.pp_meaning.specs.declared.expressions.Operand.{Operand}
use Rattle.pp_meaning.specs.declared.expressions.Operand.TheVariants.{Single, External, Literal as Named, Bits as Field}
use Rattle.pp_meaning.specs.declared.expressions.Operand.TheVariants.{LiteralBits, ExternalBits, Word}
use Rattle.pp_meaning.specs.declared.expressions.Linkage.{Linkage}
use Rattle.pp_meaning.specs.declared.expressions.Linkage.TheVariants.{S, X, Y}
use Rattle.pp_meaning.specs.declared.expressions.Radix.{Radix}
use Rattle.pp_meaning.specs.declared.expressions.Radix.TheVariants.{B, O, D, Plain}
use Rattle.pp_meaning.specs.declared.expressions.Sign.{Sign}
use Rattle.pp_meaning.specs.declared.expressions.Sign.TheVariants.{Plus as Added, Minus as Subtracted, Differ}
use Rattle.pp_meaning.specs.declared.expressions.Symbol.{Symbol}
use Rattle.pp_meaning.specs.declared.expressions.Term.{Term}
use Rattle.pp_meaning.specs.declared.expressions.Width.{Width}
use Rattle.pp_meaning.specs.declared.expressions.Width.TheVariants.{Digits, Named as Width_name, Rest, Count, Beyond}
use Rattle.pp_meaning.specs.declared.statements.Label.{Label}
use Rattle.pp_meaning.specs.declared.statements.Label.TheVariants.{Empty, Plus, Minus, Named}
use Rattle.pp_meaning.specs.declared.statements.Operation.{Operation}
use Rattle.pp_meaning.specs.declared.statements.Operation.TheVariants.{Blank, Instruction, Constants, Data, Zeros, Space, Origin}
use Rattle.pp_meaning.specs.declared.statements.Operation.TheVariants.{Location, Equate, Set, Choose, Count, SetBase, BaseBefore}
use Rattle.pp_meaning.specs.declared.statements.Operation.TheVariants.{Deck, Display, Bits, Position, Shortest, Pool, Use, Synonym}
use Rattle.pp_meaning.specs.declared.statements.Operation.TheVariants.{Qualify, End}
use Rattle.pp_meaning.specs.declared.statements.Statement.{Statement}
use Rattle.pp_meaning.specs.declared.statements.SystemText.{SystemText}
use Rattle.pp_meaning.specs.declared.statements.Unit.{Unit}
use Rattle.pp_meaning.specs.declared.texts.Cut.{Cut}
use Rattle.pp_meaning.specs.declared.texts.Cut.TheVariants.{Counted, Marked}
use Rattle.pp_meaning.specs.declared.texts.Kind.{Kind}
use Rattle.pp_meaning.specs.declared.texts.Text.{Text}
use Rattle.pp_meaning.specs.declared.texts.Kind.TheVariants.{A, C, H, L, R, Z}

-- ---- operands

abbrev pub letter : Radix → List ℕ
letter B = codes "B"
letter O = codes "O"
letter D = codes "D"
letter Plain = []

abbrev pub symbol_name : Option Symbol → List ℕ
symbol_name None = []
symbol_name (Some symbol) = symbol.name.items

abbrev pub name_at : Names → ℕ → List ℕ
name_at names index = symbol_name (slice_get names.symbols index)

abbrev pub short_name : Names → ℕ → List ℕ
short_name names index = short_text names (name_at names index)

abbrev pub full_name : Names → ℕ → List ℕ
full_name names index = full_text (name_at names index)

abbrev pub atom_text : Names → Atom → List ℕ
atom_text names (Number digits radix) = digits.items ++ letter radix
atom_text names (Name index) = short_name names index
atom_text names (Qualified index) = full_name names index
atom_text names Here = codes "*"
atom_text names LocationCounter = codes "*L"
atom_text names OriginCounter = codes "*O"
atom_text names Nothing = codes "**"
atom_text names (Shifted digits radix shift) = digits.items ++ letter radix ++ codes "S" ++ shift.items
atom_text names (Symbols digits items) = digits.items ++ codes "R" ++ map symbol items.items

abbrev pub factor_text : Names → Factor → List ℕ
factor_text names factor = (if factor.is_quotient then codes "/" else codes "*") ++ atom_text names factor.atom

abbrev pub sign_text : Sign → List ℕ
sign_text Added = codes "+"
sign_text Subtracted = codes "-"
sign_text Differ = codes "^"

-- A term with its sign.
abbrev pub term_text : Names → Term → List ℕ
term_text names term =
    sign_text term.sign ++ atom_text names term.atom ++ flat_map (factor_text names) term.factors.items

-- An expression is its terms. The sign of the first one may be left out.
abbrev pub sum_text : Names → Expression → List ℕ
sum_text names x = drop (if x.has_sign then 0 else 1) (flat_map (term_text names) x.terms.items)

abbrev pub kind_letter : Kind → List ℕ
kind_letter H = codes "H"
kind_letter A = codes "A"
kind_letter L = codes "L"
kind_letter R = codes "R"
kind_letter C = codes "C"
kind_letter Z = codes "Z"

abbrev pub item_text : Names → Item → List ℕ
item_text names (Sum x) = sum_text names x
item_text names (Characters text) = text_with (kind_letter text.kind) text
item_text names Null = []

abbrev pub width_text : Names → Width → List ℕ
width_text names (Digits digits radix) = digits.items ++ letter radix
width_text names (Width_name index) = short_name names index
width_text names Rest = codes "*P"
width_text names (Count x) = sum_text names x
width_text names (Beyond x) = codes "*P" ++ sum_text names x

abbrev pub external_letter : Linkage → List ℕ
external_letter S = codes "S"
external_letter X = codes "X"
external_letter Y = codes "Y"

-- A literal is what its words are, after =. =X, =S and =Y are before a name.
abbrev pub literal_text : Names → Item → List ℕ
literal_text names item = codes "=" ++ item_text names item

abbrev pub external_text : Names → Linkage → ℕ → List ℕ
external_text names letter index = codes "=" ++ external_letter letter ++ short_name names index

-- A field of VFD is its size, / and its expression.
abbrev pub operand_text : Names → Operand → List ℕ
operand_text names (Single item) = item_text names item
operand_text names (Named address item) = literal_text names item
operand_text names (External letter index) = external_text names letter index
operand_text names (Field width item) = width_text names width ++ codes "/" ++ item_text names item
operand_text names (LiteralBits width address item) = width_text names width ++ codes "/" ++ literal_text names item
operand_text names (ExternalBits width letter index) =
    width_text names width ++ codes "/" ++ external_text names letter index
operand_text names (Word name) = name.items

-- Operands have a comma between two.
abbrev pub operands_text : Names → List Operand → List ℕ
operands_text names operands = drop 1 (flat_map (λ operand. codes "," ++ operand_text names operand) operands)

-- ---- operations

abbrev pub base_name : Base → List ℕ
base_name Octal = codes "OCTAL"
base_name Decimal = codes "DECIMAL"
base_name Mixed = codes "MIXED"

abbrev pub operation_name : Operation → List ℕ
operation_name Blank = []
operation_name (Instruction code) = mnemonic code
operation_name Constants = codes "CON"
operation_name Data = codes "DATA"
operation_name Zeros = codes "BSSZ"
operation_name Space = codes "BSS"
operation_name Origin = codes "ORG"
operation_name Location = codes "LOC"
operation_name (Equate is_sign) = if is_sign then codes "=" else codes "EQU"
operation_name Set = codes "SET"
operation_name (Choose is_greatest) = if is_greatest then codes "MAX" else codes "MIN"
operation_name (Count number) = codes "MICCNT"
operation_name (SetBase base more) = codes "BASE"
operation_name BaseBefore = codes "BASE"
operation_name Deck = codes "PERIPH"
operation_name Display = codes "DIS"
operation_name Bits = codes "VFD"
operation_name Position = codes "POS"
operation_name (Shortest is_sum) = if is_sum then codes "ADK" else codes "LDK"
operation_name (Pool address) = codes "LIT"
operation_name Use = codes "USE"
operation_name Synonym = codes "OPSYN"
operation_name (Qualify left right) = codes "QUAL"
operation_name End = codes "END"

-- BASE has the beginning of a base's name, at least its first letter. DIS has a comma before its text. Slashes may be round the
-- qualifier of QUAL.
abbrev pub variable : Names → Operation → List Operand → List ℕ
variable names (SetBase base more) operands = take (more + 1) (base_name base)
variable names BaseBefore operands = codes "*"
variable names Display (Single (Characters text) ∷ []) = text_with (codes ",") text
variable names (Qualify left right) (Word name ∷ []) = replicate left 47 ++ name.items ++ replicate right 47
variable names operation operands = operands_text names operands

-- ---- lines

-- A label has the present qualifier, and is written without it.
abbrev pub label_text : Names → Label → List ℕ
label_text names Empty = []
label_text names Plus = codes "+"
label_text names Minus = codes "-"
label_text names (Named index) = without_prefix names (name_at names index)

abbrev pub line_text : Names → Statement → List ℕ
line_text names statement =
    statement.margin.items ++ label_text names statement.label ++ statement.word.items ++ statement.gap.items
    ++ statement.name.items ++ statement.space.items ++ variable names statement.operation statement.operands.items
    ++ statement.comment.items

-- A blank or a tab.
abbrev pub is_blank : ℕ → Bool
is_blank byte = byte == 32 || byte == 9

abbrev pub begins_blank : List ℕ → Bool
begins_blank [] = true
begins_blank (byte ∷ bytes) = is_blank byte

-- A label begins in column 1 or 2.
abbrev pub is_margin : List ℕ → Bool
is_margin [] = true
is_margin (byte ∷ []) = byte == 32
is_margin _ = false

-- Without a label the operation begins in column 3 or later, or behind a tab.
abbrev pub is_wide : List ℕ → Bool
is_wide [] = false
is_wide (byte ∷ []) = byte == 9
is_wide _ = true

abbrev pub has_no_blank : List ℕ → Bool
has_no_blank word = list_all (λ byte. not (is_blank byte)) word

-- A name of OPSYN is in place of a label. What BASE, QUAL, PERIPH and END have there says nothing.
abbrev pub is_in_place : Operation → List ℕ → Bool
is_in_place Synonym word = not (length word == 0) && has_no_blank word
is_in_place (SetBase base more) word = has_no_blank word
is_in_place BaseBefore word = has_no_blank word
is_in_place (Qualify left right) word = has_no_blank word
is_in_place Deck word = has_no_blank word
is_in_place End word = has_no_blank word
is_in_place operation word = length word == 0

abbrev pub is_gap : Label → List ℕ → Operation → List ℕ → List ℕ → Bool
is_gap Empty [] operation margin gap = length margin == 0 && is_wide gap
is_gap Empty word operation margin gap = is_margin margin && not (length gap == 0)
is_gap label word Blank margin gap = is_margin margin
is_gap label word operation margin gap = is_margin margin && not (length gap == 0)

-- The last column of a statement.
abbrev pub last_column : ℕ
last_column = 72

-- What follows a text of DIS with a count may be anything, if the text has all its symbols, or if it ends in the last column. Behind its
-- second mark another has a comment.
abbrev pub follows_text : Cut → ℕ → ℕ → List ℕ → Bool
follows_text (Counted digits) columns count comment =
    length comment == 0 || columns == last_column || has_all count (decimal_number digits.items)
follows_text (Marked mark) columns count comment = true

-- Under another name DIS has an operand without blanks, as others have, and its text may be short before a comment too.
abbrev pub follows_display : List ℕ → ℕ → Text → List ℕ → Bool
follows_display name columns text comment =
    follows_text text.cut columns (length text.codes.items) comment
    || (not (bytes_eq name (codes "DIS")) && begins_blank comment && is_without 32 text.codes.items)

-- What is a comment behind so many columns.
abbrev pub is_comment : List ℕ → ℕ → Operation → List Operand → List ℕ → Bool
is_comment name columns Display (Single (Characters text) ∷ []) comment = follows_display name columns text comment
is_comment name columns operation operands comment = begins_blank comment

-- Whether a label has the present qualifier.
abbrev pub is_label : Names → Label → Bool
is_label names (Named index) = is_own names (name_at names index)
is_label names label = true

-- How many columns are before a comment.
abbrev pub columns_before : Names → Statement → ℕ
columns_before names statement = length (line_text names statement) - length statement.comment.items

-- Blanks are between two fields, and before a comment.
abbrev pub is_cut : Names → Statement → Bool
is_cut names statement =
    list_all is_blank statement.gap.items && list_all is_blank statement.space.items
    && is_comment statement.name.items (columns_before names statement) statement.operation statement.operands.items
    statement.comment.items
    && is_in_place statement.operation statement.word.items
    && is_label names statement.label
    && is_gap statement.label statement.word.items statement.operation statement.margin.items statement.gap.items
    && (not (length statement.space.items == 0) || length (variable names statement.operation statement.operands.items) == 0)

-- A line with the blanks that it has lost at its end, up to a size.
abbrev pub up_to : ℕ → List ℕ → List ℕ
up_to size line = line ++ replicate (size - length line) 32

abbrev pub names_of : List Symbol → Statement → Names
names_of symbols statement = record { symbols = symbols; prefix = statement.prefix.items }

-- The line of a statement has its fields, and nothing else. It may have lost blanks at its end.
pub record IsWritten (symbols : List Symbol) (statement : Statement) : Type 0 where
  pub line : up_to (length (line_text (names_of symbols statement) statement)) statement.line.items
      ≡ line_text (names_of symbols statement) statement
  pub cut : is_cut (names_of symbols statement) statement ≡ true

-- So have the lines of all statements of a unit, and of a system text.
abbrev pub AreWritten : List Symbol → Unit → Type 0
AreWritten symbols unit = AllByRecursion (IsWritten symbols) unit.statements.items

abbrev pub AreAllWritten : List Symbol → SystemText → Type 0
AreAllWritten symbols text = AllByRecursion (AreWritten symbols) text.units.items
