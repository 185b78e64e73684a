-- Private: words for functions of this crate.
-- Reading bytes from the left, as functions on lists. A reader answers a value and the bytes behind it, or where it
-- stopped. What is bad is told by how many bytes are left from there on, so that readers in a row hand it on unchanged.
use Rattle.std.specs.Prelude.{◌≡◌, ℕ, zero, suc, ◌+◌, ◌-◌, ◌*◌, ◌/◌, min, nat_lt, if◌then◌else◌, Bool, List, [], ◌∷◌, length, Result, Ok, Err}
use Rattle.grail_code.specs.declared.decoder.reader.Halt.{Halt}
use Rattle.grail_code.specs.declared.decoder.reader.Halt.TheVariants as halt

pub data Read (A : Type 0) : Type 0 where
  -- a value, and the bytes behind it
  Done : A → List ℕ → Read A
  -- the bytes end before the value does
  More : Read A
  -- no value goes on with the next byte; so many bytes are left, that one among them
  Stop : (left : ℕ) → Read A

abbrev pub then_read : {A B : Type 0} → Read A → (A → List ℕ → Read B) → Read B
then_read (Done x rest) next = next x rest
then_read More next = More
then_read (Stop left) next = Stop left

abbrev pub map_read : {A B : Type 0} → (A → B) → Read A → Read B
map_read f (Done x rest) = Done (f x) rest
map_read f More = More
map_read f (Stop left) = Stop left

-- one, and then the other
abbrev pub pair_at : {A B : Type 0} → (List ℕ → Read A) → (List ℕ → Read B) → List ℕ → Read (A × B)
pair_at first second bytes = then_read (first bytes) (λ x rest. map_read (λ y. (x, y)) (second rest))

-- a byte that passes a test
unfoldable pub byte_at : (ℕ → Bool) → List ℕ → Read ℕ
byte_at ok [] = More
byte_at ok (b ∷ rest) = if ok b then Done b rest else Stop (suc (length rest))

-- a tag: a byte below a limit
unfoldable pub tag_at : ℕ → List ℕ → Read ℕ
tag_at limit bytes = byte_at (λ b. nat_lt b limit) bytes

-- A whole number from `least` to `most` in LEB128, where up to `more` bytes may follow the first. A first byte that is
-- above `most` begins no such number: below 128 it is the number, and else no number with it is smaller.
unfoldable pub leb_at : (more least most : ℕ) → List ℕ → Read ℕ
leb_at more least most [] = More
leb_at zero least most (b ∷ rest) = if nat_lt most b then Stop (suc (length rest)) else if nat_lt b least then Stop (suc (length rest)) else Done b rest
leb_at (suc more) least most (b ∷ rest) = if nat_lt (min most 255) b then Stop (suc (length rest))
    else if nat_lt b 128
    then (if nat_lt b least then Stop (suc (length rest)) else Done b rest)
    else map_read (λ high. b - 128 + 128 * high) (leb_at more 1 ((most - (b - 128)) / 128) rest)

-- so many things in a row
unfoldable pub times_at : {A : Type 0} → (List ℕ → Read A) → ℕ → List ℕ → Read (List A)
times_at read zero bytes = Done [] bytes
times_at read (suc n) bytes = map_read (λ p. p.0 ∷ p.1) (pair_at read (times_at read n) bytes)

-- a count, and then so many things
unfoldable pub counted_at : {A : Type 0} → (List ℕ → Read A) → (least most : ℕ) → List ℕ → Read (List A)
counted_at read least most bytes = then_read (leb_at 4 least most bytes) (λ n rest. times_at read n rest)

-- What a function returned, seen by `view`, is what reading gives, unless memory ran out.
abbrev pub Halts : {A : Type 0} → Halt → Read A → Type 0
Halts halt.Memory read = Unit {0}
Halts halt.Short read = read ≡ More
Halts (halt.Bad left) read = read ≡ Stop left

abbrev pub Gives : {X A : Type 0} → (X → A × List ℕ) → Result X Halt → Read A → Type 0
Gives view (Ok x) read = read ≡ Done (view x).0 (view x).1
Gives view (Err e) read = Halts e read
