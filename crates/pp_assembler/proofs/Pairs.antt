-- Statements of which each is that of a line.
use Rattle.std.proofs.Common.{◌≡◌, ◌∙◌, ◌<◌, ◌+◌, ℕ, true, IfSome, Option, Some, List, []}
use Rattle.std.proofs.Common.{◌∷◌, ◌++◌, length, get_or, ap, refl, subst, sym, take}
use Rattle.std.proofs.lemmas.List.{map-append, take_more}
use Rattle.std.specs.List.{AllByRecursion, AllZip, slice_get}
use Rattle.std.proofs.lemmas.Option.{slice_get-get_or}
use Rattle.pp_meaning.specs.declared.statements.Statement.{Statement}
use Rattle.pp_decks.specs.declared.lines.Lines.{Lines}
use Rattle.pp_statements.specs.declared.scope.Row.{Row}
use Rattle.pp_meaning.specs.declared.statements.Image.{Image}
use Rattle.pp_statements.specs.declared.units.Unit.{Unit}
use Rattle.pp_assembler.specs.Meaning.{IsPerformed, IsProgramOf, read_at, unit_programs}

pub push_both : {A B : Type 0} (R : A → B → Type 0) (xs : List A) (ys : List B) (x : A) (y : B) →
    AllZip R xs ys → R x y → AllZip R (xs ++ x ∷ []) (ys ++ y ∷ [])
push_both R [] [] x y all now = (now, tt)
push_both R (a ∷ xs) (b ∷ ys) x y all now = (all.0, push_both R xs ys x y all.1 now)
push_both R [] (b ∷ ys) x y all now = absurd all
push_both R (a ∷ xs) [] x y all now = absurd all

pub push_one : {A : Type 0} (P : A → Type 0) (xs : List A) (x : A) → AllByRecursion P xs → P x → AllByRecursion P (xs ++ x ∷ [])
push_one P [] x all now = (now, tt)
push_one P (a ∷ xs) x all now = (all.0, push_one P xs x all.1 now)

pub push_taken : {A B : Type 0} (R : A → B → Type 0) (xs : List A) (all ys : List B) (i : ℕ) (x : A) (y d : B) →
    y ≡ get_or all i d → all ≡ ys → i < length all → AllZip R xs (take i ys) → R x y → AllZip R (xs ++ x ∷ []) (take (i + 1) ys)
push_taken R xs all ys i x y d is same within before now =
    subst (λ l. AllZip R (xs ++ x ∷ []) (take (i + 1) l)) same
    (rw (take_more all i d within)
    (push_both R xs (take i all) x (get_or all i d) (subst (λ l. AllZip R xs (take i l)) (sym same) before)
    (subst (λ one. R x one) is now)))

-- the statement of a row
pub performed_at : (lines : Lines) (rows : List Row) (at : ℕ) (row d : Row) (statement : Statement) →
    row ≡ get_or rows at d → at < length rows → row.is_performed ≡ true →
    statement.line.items ≡ read_at lines row.statement → IsPerformed lines rows statement
performed_at lines rows at row d statement same within performed line = record {
  at = at;
  row = row;
  listed = slice_get-get_or rows at d within ∙ ap Some (sym same);
  is_performed = performed;
  line = line;
}

-- the same, of a statement that the row at an index may have
pub performed_of_row : (lines : Lines) (rows : List Row) (at : ℕ) (d : Row) (made : Option Statement) (statement : Statement) →
    IfSome made (λ one. one.line.items ≡ read_at lines (get_or rows at d).statement) → made ≡ Some statement →
    at < length rows → (get_or rows at d).is_performed ≡ true → IsPerformed lines rows statement
performed_of_row lines rows at d made statement right is within performed =
    performed_at lines rows at (get_or rows at d) d statement refl within performed
    (subst (λ one. IfSome one (λ own. own.line.items ≡ read_at lines (get_or rows at d).statement)) is right)

-- a program more
pub push_program : (units : List Unit) (images : List Image) (i : ℕ) (unit : Unit) (image d : Image) →
    image ≡ get_or images i d → i < length images → AllZip IsProgramOf (unit_programs units) (take i images) →
    IsProgramOf unit.program image → AllZip IsProgramOf (unit_programs (units ++ unit ∷ [])) (take (i + 1) images)
push_program units images i unit image d is within before now =
    rw (map-append (λ (one : Unit). one.program) units (unit ∷ []))
    (push_taken IsProgramOf (unit_programs units) images images i unit.program image d is refl within before now)
