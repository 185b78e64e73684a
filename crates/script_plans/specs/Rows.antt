-- Cited by contracts.
-- Programs of a script with what is known of them.
use Rattle.std.specs.Prelude.{◌≡◌, ℕ, if◌then◌else◌, List, [], ◌∷◌, slice_get, Option, Some, None}
use Rattle.std.specs.List.{AllByRecursion}
use Rattle.std.specs.Str.{bytes_eq}
use Rattle.licence.specs.Licensed.{Licensed}
use Rattle.value_text.specs.Inhabited.{Knows}
use Rattle.script_plans.specs.declared.rows.Known.{Known}
use Rattle.script_plans.specs.declared.rows.Row.{Row as DeclaredRow}
use Rattle.script_plans.specs.Programs.{ProgramText, Meaning, IsLicenceOf, text_in}
use Rattle.script_plans.specs.Fates.{IsRefused}

-- a program's name, its text, and what is known of it where it isn't refused
pub record Row : Type 0 where
  pub name : List ℕ
  pub program : ProgramText
  pub known : Option Known

abbrev pub row_of : DeclaredRow → Row
row_of r = record { name = r.name.now; program = text_in r.language r.text.now; known = r.known }

-- the first one of this name
abbrev pub row_among : List Row → List ℕ → Option Row
row_among [] name = None
row_among (r ∷ rows) name = if bytes_eq r.name name then Some r else row_among rows name

-- its program, where there is one
abbrev pub row_program : Option Row → Option ProgramText
row_program None = None
row_program (Some r) = Some r.program

-- the program's licence has this number, and it is known which of its types have values
pub record Holds (licences : List Licensed) (p : ProgramText) (k : Known) : Type 0 where
  pub licence : Licensed
  pub meaning : Meaning
  pub at : slice_get licences k.licence ≡ Some licence
  pub is : IsLicenceOf p licence meaning
  pub knows : Knows licence.code.types k.inhabited

abbrev pub IsKnown : List Licensed → ProgramText → Option Known → Type 0
IsKnown licences p None = IsRefused p
IsKnown licences p (Some k) = Holds licences p k

-- what is known of it is so
abbrev pub IsRow : List Licensed → Row → Type 0
IsRow licences r = IsKnown licences r.program r.known

abbrev pub AreRows : List Licensed → List Row → Type 0
AreRows licences rows = AllByRecursion (IsRow licences) rows
