-- Loops that read things one after the other: what was read stands in front of what is left to read.
use Rattle.std.proofs.Common.{◌≡◌, ℕ, zero, suc, ◌+◌, ◌-◌, ◌<◌, ◌≤◌, List, [], ◌∷◌, ◌++◌, map, Bool, true, false, take, drop, length, refl, sym, ap, ◌∙◌, append_assoc, append-nil, arith}
use Rattle.std.specs.Prelude.{if◌then◌else◌}
use Rattle.std.proofs.lemmas.List.{map_push}
use Rattle.camelot_values.specs.Names.{is_tail}
use Rattle.grail_code.specs.CodeReader.{tail_at}
use Rattle.grail_code.specs.declared.decoder.reader.Halt.{Halt}
use Rattle.grail_code.specs.declared.decoder.reader.Halt.TheVariants as halt
use Rattle.grail_code.specs.Reader.{Read, Done, More, Stop, map_read, byte_at, times_at, Halts}

unfoldable pub with_front : {A : Type 0} → List A → Read (List A) → Read (List A)
with_front front o = map_read (λ xs. front ++ xs) o

pub starts : {A : Type 0} (o : Read (List A)) → with_front [] o ≡ o
unfolding with_front
starts (Done xs rest) = refl
starts More = refl
starts (Stop left) = refl

regroup : {A : Type 0} (front : List A) (x : A) (o : Read (List A))
    → with_front front (map_read (λ (p : A × List A). p.0 ∷ p.1) (map_read (λ xs. (x, xs)) o)) ≡ with_front (front ++ x ∷ []) o
unfolding with_front
regroup {A} front x (Done xs rest) = ap (λ ys. Done ys rest) (sym (append_assoc front (x ∷ []) xs))
regroup {A} front x More = refl
regroup {A} front x (Stop left) = refl

pub goes_on : {X A : Type 0} (f : X → A) (read : List ℕ → Read A) (front now : List X) (x : X) (count i : ℕ) (bytes after : List ℕ) (total : Read (List A)) → i < count → read bytes ≡ Done (f x) after → now ≡ front ++ x ∷ []
    → with_front (map f front) (times_at read (count - i) bytes) ≡ total → with_front (map f now) (times_at read (count - (i + 1)) after) ≡ total
unfolding times_at
goes_on f read front now x count i bytes after total lt h pushed so_far =
    let k : count - i ≡ suc (count - (i + 1)) = omega arith in
    let one : with_front (map f front) (times_at read (count - i) bytes) ≡ with_front (map f front ++ f x ∷ []) (times_at read (count - (i + 1)) after) = rw (k, h) (regroup (map f front) (f x) (times_at read (count - (i + 1)) after)) in
    ap (λ xs. with_front xs (times_at read (count - (i + 1)) after)) (ap (map f) pushed ∙ map_push f front x) ∙ sym one ∙ so_far

pub ends_by : {X A : Type 0} (f : X → A) (read : List ℕ → Read A) (front : List X) (e : Halt) (count i : ℕ) (bytes : List ℕ) (total : Read (List A))
    → i < count → Halts e (read bytes)
    → with_front (map f front) (times_at read (count - i) bytes) ≡ total → Halts e total
unfolding times_at with_front
ends_by f read front halt.Memory count i bytes total lt h so_far = tt
ends_by f read front halt.Short count i bytes total lt h so_far =
    let k : count - i ≡ suc (count - (i + 1)) = omega arith in
    let one : with_front (map f front) (times_at read (count - i) bytes) ≡ More = rw (k, h) refl in
    sym so_far ∙ one
ends_by f read front (halt.Bad left) count i bytes total lt h so_far =
    let k : count - i ≡ suc (count - (i + 1)) = omega arith in
    let one : with_front (map f front) (times_at read (count - i) bytes) ≡ Stop left = rw (k, h) refl in
    sym so_far ∙ one

pub is_done : {X A : Type 0} (f : X → A) (read : List ℕ → Read A) (front : List X) (count i : ℕ) (bytes : List ℕ) (total : Read (List A)) → count ≤ i
    → with_front (map f front) (times_at read (count - i) bytes) ≡ total → total ≡ Done (map f front) bytes
unfolding times_at with_front
is_done f read front count i bytes total le so_far =
    let k : count - i ≡ 0 = omega arith in
    let one : with_front (map f front) (times_at read (count - i) bytes) ≡ Done (map f front) bytes = rw k (ap (λ xs. Done xs bytes) (append-nil (map f front))) in
    sym so_far ∙ one

-- ---- the letters of a name

tail_was : (c : ℕ) (rest after : List ℕ) (b : ℕ) (v : Bool) → (if v then Done c rest else Stop (suc (length rest))) ≡ Done b after → c ∷ rest ≡ b ∷ after
tail_was c rest after b true h = cc
tail_was c rest after b false h = absurd cc

tail_is : (bytes after : List ℕ) (b : ℕ) → tail_at bytes ≡ Done b after → bytes ≡ b ∷ after
unfolding tail_at byte_at
tail_is [] after b h = absurd cc
tail_is (c ∷ rest) after b h = tail_was c rest after b (is_tail c) h

-- one byte more of a list
record Cut (bytes after : List ℕ) (b i : ℕ) : Type 0 where
  front : take (suc i) bytes ≡ take i bytes ++ b ∷ []
  rest : drop (suc i) bytes ≡ after

cut : (i : ℕ) (bytes after : List ℕ) (b : ℕ) → drop i bytes ≡ b ∷ after → Cut bytes after b i
cut zero [] after b h = absurd cc
cut zero (c ∷ rest) after b h = record { front = cc; rest = cc }
cut (suc i) [] after b h = absurd cc
cut (suc i) (c ∷ rest) after b h = let k = cut i rest after b h in record { front = ap (λ w. c ∷ w) k.front; rest = k.rest }

pub tails_more : (bytes rest after : List ℕ) (b count i : ℕ) (total : Read (List ℕ)) → i < count → rest ≡ drop i bytes → tail_at rest ≡ Done b after
    → with_front (take i bytes) (times_at tail_at (count - i) rest) ≡ total → with_front (take (i + 1) bytes) (times_at tail_at (count - (i + 1)) after) ≡ total
unfolding times_at
tails_more bytes rest after b count i total lt here h so_far =
    let k : count - i ≡ suc (count - (i + 1)) = omega arith in
    let one : with_front (take i bytes) (times_at tail_at (count - i) rest) ≡ with_front (take i bytes ++ b ∷ []) (times_at tail_at (count - (i + 1)) after) = rw (k, h) (regroup (take i bytes) b (times_at tail_at (count - (i + 1)) after)) in
    let c = cut i bytes after b (sym here ∙ tail_is rest after b h) in
    let e : i + 1 ≡ suc i = omega arith in
    ap (λ w. with_front w (times_at tail_at (count - (i + 1)) after)) (ap (λ n. take n bytes) e ∙ c.front) ∙ sym one ∙ so_far

pub tails_here : (bytes rest after : List ℕ) (b i : ℕ) → rest ≡ drop i bytes → tail_at rest ≡ Done b after → after ≡ drop (i + 1) bytes
tails_here bytes rest after b i here h =
    let c = cut i bytes after b (sym here ∙ tail_is rest after b h) in
    let e : i + 1 ≡ suc i = omega arith in
    sym c.rest ∙ ap (λ n. drop n bytes) (sym e)

pub tails_room : (rest after : List ℕ) (b i n : ℕ) → i + length rest ≡ n → tail_at rest ≡ Done b after → i + 1 + length after ≡ n
tails_room rest after b i n room h = let e = ap length (tail_is rest after b h) in omega arith

pub tails_end : (e : Halt) (front bytes : List ℕ) (count i : ℕ) (total : Read (List ℕ)) → i < count → Halts e (tail_at bytes)
    → with_front front (times_at tail_at (count - i) bytes) ≡ total → Halts e total
unfolding times_at with_front
tails_end halt.Memory front bytes count i total lt h so_far = tt
tails_end halt.Short front bytes count i total lt h so_far =
    let k : count - i ≡ suc (count - (i + 1)) = omega arith in
    let one : with_front front (times_at tail_at (count - i) bytes) ≡ More = rw (k, h) refl in
    sym so_far ∙ one
tails_end (halt.Bad left) front bytes count i total lt h so_far =
    let k : count - i ≡ suc (count - (i + 1)) = omega arith in
    let one : with_front front (times_at tail_at (count - i) bytes) ≡ Stop left = rw (k, h) refl in
    sym so_far ∙ one

pub tails_done : (bytes rest : List ℕ) (count i : ℕ) (total : Read (List ℕ)) → count ≤ i → i ≤ count
    → with_front (take i bytes) (times_at tail_at (count - i) rest) ≡ total → total ≡ Done (take count bytes) rest
unfolding times_at with_front
tails_done bytes rest count i total le ge so_far =
    let k : count - i ≡ 0 = omega arith in
    let n : i ≡ count = omega arith in
    let one : with_front (take i bytes) (times_at tail_at (count - i) rest) ≡ Done (take i bytes) rest = rw k (ap (λ xs. Done xs rest) (append-nil (take i bytes))) in
    sym so_far ∙ one ∙ ap (λ j. Done (take j bytes) rest) n
