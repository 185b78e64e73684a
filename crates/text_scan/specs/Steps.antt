-- Private: words for functions of this crate.
-- Words for the contracts of private functions, which look at one place of a text.
use Rattle.std.specs.Prelude.{◌≡◌, ℕ, List}
use Rattle.std.specs.List.{prefix_len}
use Rattle.std.specs.Char.{is_ascii_digit}
use Rattle.text_scan.specs.declared.fault.ScanFault.{ScanFault}
use Rattle.text_scan.specs.Forms.{is_name_part}
use Rattle.text_scan.specs.Reading.{Stops, place_of}

-- how many letters, digits and `_` the bytes begin with
unfoldable pub name_run : List ℕ → ℕ
name_run bytes = prefix_len is_name_part bytes

-- how many digits the bytes begin with
unfoldable pub digit_run : List ℕ → ℕ
digit_run bytes = prefix_len is_ascii_digit bytes

-- the fault names the place `at`, and the bytes there stop the reading for this fault
pub record StopsAt (bytes : List ℕ) (at : ℕ) (fault : ScanFault) : Type 0 where
  pub place : place_of fault ≡ at
  pub stops : Stops bytes fault
