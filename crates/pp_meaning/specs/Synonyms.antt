-- Names that OPSYN gives to operations.
use Rattle.std.specs.Prelude.{ℕ, ◌++◌, Option, Some, None, List, [], ◌∷◌, bytes_eq, fold, if◌then◌else◌}
use Rattle.pp_meaning.specs.Lines.{operation_name}
use Rattle.pp_meaning.specs.Standing.{Standing}
use Rattle.pp_meaning.specs.declared.expressions.Operand.{Operand}
use Rattle.pp_meaning.specs.declared.expressions.Operand.TheVariants.{Word}
use Rattle.pp_meaning.specs.declared.statements.Operation.{Operation}
use Rattle.pp_meaning.specs.declared.statements.Operation.TheVariants.{Synonym}
use Rattle.pp_meaning.specs.declared.statements.Statement.{Statement}

abbrev pub renamed : List ℕ → List ℕ → List ℕ × List ℕ → List ℕ
renamed name meant synonym = if bytes_eq synonym.0 name then synonym.1 else meant

-- The name of the operation that a name is, or that the last OPSYN of it says.
abbrev pub meant_name : List (List ℕ × List ℕ) → List ℕ → List ℕ
meant_name synonyms name = fold (renamed name) name synonyms

-- A statement has the operation that the name in its operation field says.
abbrev pub named : Option Standing → Statement → Option Standing
named None statement = None
named (Some s) statement =
    if bytes_eq (meant_name s.synonyms statement.name.items) (operation_name statement.operation) then Some s else None

-- NEW OPSYN OLD: NEW is what OLD means there, whatever OLD means later.
abbrev pub with_synonym : Option Standing → List ℕ → Operation → List Operand → Option Standing
with_synonym None name operation operands = None
with_synonym (Some s) name Synonym (Word old ∷ []) =
    Some (record s { synonyms = s.synonyms ++ (name, meant_name s.synonyms old.items) ∷ [] })
with_synonym (Some s) name operation operands = Some s
