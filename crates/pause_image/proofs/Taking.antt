-- How the cells of the frames' values are taken.
use Rattle.std.proofs.Common.{◌≡◌, ℕ, zero, suc, ◌+◌, ◌-◌, ◌*◌, ◌≤◌, ◌<◌, Bool, true, false, List, [], ◌∷◌, ◌++◌, map, length, drop, take, Option, Some, None, refl, sym, ap, ◌∙◌, subst, arith, append_assoc}
use Rattle.std.proofs.Math.Path.{fun_ext}
use Rattle.std.specs.Prelude.{get_or, if◌then◌else◌, nat_le, replicate, slice_get, slice_index_or, IsSomeAnd}
use Rattle.std.specs.Borrow.{Bor}
use Rattle.std.specs.Option.{option_map_or}
use Rattle.std.specs.List.{AllByRecursion}
use Rattle.std.proofs.lemmas.Bool.Decides.{nat_tests}
use Rattle.std.proofs.lemmas.List.{append-nil, length-take-le}
use Rattle.std.proofs.lemmas.Option.{slice_get_within}
use Rattle.cell_span.specs.declared.cell.Cell.{Cell}
use Rattle.camelot_values.specs.Value.{Value}
use Rattle.camelot_values.specs.Kinds.{DataType}
use Rattle.camelot_values.specs.declared.kinds.Kind.{Kind}
use Rattle.cell_owners.specs.Marks.{AreMarkedBy, owners}
use Rattle.cell_owners.specs.Values.{AnswerIs, IsOwnable, IsTaken, vector_of}
use Rattle.frame_accounts.specs.Accounts.{AreCarried, account_of, block_at, block_in}
use Rattle.grail_code.specs.Code.{Block, Func, Code}
use Rattle.grail_code.specs.Limits.{FuncIsWithin, IsWithinLimits}
use Rattle.grail_code.specs.WellFormed.{kind_of, local_kinds}
use Rattle.grail_blocks.specs.States as states
use Rattle.frame_locals.specs.Places.{is_ready, ready_at, waits_at}
use Rattle.machine_image.specs.Words as words
use Rattle.machine_image.specs.declared.state.Bound.{Bound as DeclaredBound}
use Rattle.annotations.specs.Vectors.{Vector, at, potential}
use Rattle.licence.specs.Books.{Carried, book_of}
use Rattle.licence.specs.Licensed.{Licensed}
use Rattle.machine_image.specs.Images.{Bound, Frame}
use Rattle.cell_machine.specs.Stands.{times, footprint}
use Rattle.cell_machine.specs.theory.Counting.{times_append}
use Rattle.pause_image.specs.Owning.{kind_in, IsOwn, IsOwnWord, AreOwnWords, words_cells, words_units, AreOwnFrames, frames_cells, frames_ask, left_at, carried_at, callee_at, callee_in, IsValueFault}
use Rattle.pause_image.specs.RightLaws.{few_frames}
use Rattle.pause_image.specs.Shapes.{AreShaped, HasJustReady, IsShaped, ready_among}
use Rattle.pause_image.specs.Taking.{blank, WordAnswer, WordIs, Begins, WordsTaken, WordFails, asked_of, frame_asks, FrameTaken, FramesTaken}

-- ---- marks

pub no_owner : (n at : ℕ) → at < n → owners (replicate n false) at ≡ 0
no_owner zero at k = absurd (omega (arith, k))
no_owner (suc n) zero k = refl
no_owner (suc n) (suc at) k = no_owner n at (omega (arith, k))

no_cell_there : (n at : ℕ) → n ≤ at → owners (replicate n false) at ≡ 1
no_cell_there zero at k = refl
no_cell_there (suc n) zero k = absurd (omega (arith, k))
no_cell_there (suc n) (suc at) k = no_cell_there n at (omega (arith, k))

few_owners : (marks : List Bool) (at : ℕ) → owners marks at ≤ 1
few_owners [] at = omega arith
few_owners (true ∷ marks) zero = omega arith
few_owners (false ∷ marks) zero = omega arith
few_owners (b ∷ marks) (suc at) = few_owners marks at

at_most : (n m : ℕ) → nat_le n m ≡ true → n ≤ m
at_most n m e = grind (arith, nat_tests, e)

not_most : (n m : ℕ) → nat_le n m ≡ false → m < n
not_most n m e = grind (arith, nat_tests, e)

-- what could be owned by the marks is owned beside what was taken, and the other way round
own_by_marks : (types : List DataType) (cells : List Cell) (before : List ℕ) (marks : List Bool) (q : Kind) (w : ℕ) (v : Value) → AreMarkedBy (blank cells) before marks
    → IsOwnable types cells marks q w v → IsOwn types cells before q w v
own_by_marks types cells before marks q w v are o = record {
  fits = o.fits;
  stands = o.stands;
  once = λ at. omega (arith, are at, o.fresh at);
  inside = λ at some. by_test at some (nat_le (length cells) at) refl;
}
  where
    by_test : (at : ℕ) → 1 ≤ times at (footprint types cells v w) → (b : Bool) → nat_le (length cells) at ≡ b → at < length cells
    by_test at some true e = absurd (omega (arith, no_cell_there (length cells) at (at_most (length cells) at e), are at, o.fresh at, some))
    by_test at some false e = not_most (length cells) at e

marks_by_own : (types : List DataType) (cells : List Cell) (before : List ℕ) (marks : List Bool) (q : Kind) (w : ℕ) (v : Value) → AreMarkedBy (blank cells) before marks
    → IsOwn types cells before q w v → IsOwnable types cells marks q w v
marks_by_own types cells before marks q w v are o = record {
  fits = o.fits;
  stands = o.stands;
  fresh = λ at. by_test at (nat_le (length cells) at) refl;
}
  where
    by_count : (at : ℕ) → length cells ≤ at → (n : ℕ) → times at (footprint types cells v w) ≡ n → owners marks at + times at (footprint types cells v w) ≤ 1
    by_count at out zero e = omega (arith, e, few_owners marks at)
    by_count at out (suc n) e = absurd (omega (arith, out, o.inside at (omega (arith, e))))

    by_test : (at : ℕ) → (b : Bool) → nat_le (length cells) at ≡ b → owners marks at + times at (footprint types cells v w) ≤ 1
    by_test at true e = by_count at (at_most (length cells) at e) (times at (footprint types cells v w)) refl
    by_test at false e = omega (arith, no_owner (length cells) at (not_most (length cells) at e), are at, o.once at)

-- ---- vectors

vector_told : (o : Option (Bor Vector)) → option_map_or (λ (v : Bor Vector). v.now) o [] ≡ vector_of o
vector_told None = refl
vector_told (Some v) = refl

-- the vectors, where nothing is none
abbrev pub vectors_of : List (Option (Bor Vector)) → List Vector
vectors_of os = map (λ (o : Option (Bor Vector)). option_map_or (λ (v : Bor Vector). v.now) o []) os

get_mapped : (os : List (Option (Bor Vector))) (x : ℕ) (o : Option (Bor Vector)) → slice_get os x ≡ Some o → get_or (map (λ (o : Option (Bor Vector)). option_map_or (λ (v : Bor Vector). v.now) o []) os) x [] ≡ vector_of o
get_mapped [] x o e = absurd cc
get_mapped (p ∷ os) zero o e = let same : p ≡ o = cc in ap (λ (o : Option (Bor Vector)). option_map_or (λ (v : Bor Vector). v.now) o []) same ∙ vector_told o
get_mapped (p ∷ os) (suc x) o e = get_mapped os x o e

long_mapped : {A B : Type 0} (g : A → B) (xs : List A) → length (map g xs) ≡ length xs
long_mapped g [] = refl
long_mapped g (x ∷ xs) = ap suc (long_mapped g xs)

-- a local carries what its vector says
vector_carries : (carried : Carried ℕ) (os : List (Option (Bor Vector))) (x : ℕ) (o : Option (Bor Vector)) → slice_get os x ≡ Some o → x < length os
    → AreCarried carried (map (λ (o : Option (Bor Vector)). option_map_or (λ (v : Bor Vector). v.now) o []) os) → at (vector_of o) ≡ carried x
unfolding AreCarried
vector_carries carried os x o e few are =
    fun_ext (λ con. ap (λ (v : Vector). at v con) (sym (get_mapped os x o e)) ∙ are x (omega (arith, few, long_mapped (λ (o : Option (Bor Vector)). option_map_or (λ (v : Bor Vector). v.now) o []) os)) con)

-- ---- lists by places

long_append : {A : Type 0} (xs ys : List A) → length (xs ++ ys) ≡ length xs + length ys
long_append [] ys = omega arith
long_append (x ∷ xs) ys = omega (arith, long_append xs ys)

pub read_mapped : {A B : Type 0} (g : A → B) (xs : List A) (n : ℕ) (x : A) → slice_get xs n ≡ Some x → slice_get (map g xs) n ≡ Some (g x)
read_mapped g [] n x e = absurd cc
read_mapped g (y ∷ xs) zero x e = let same : y ≡ x = cc in ap (λ y. Some (g y)) same
read_mapped g (y ∷ xs) (suc n) x e = read_mapped g xs n x e

drop_suc : {A : Type 0} (xs : List A) (n : ℕ) (x : A) → slice_get xs n ≡ Some x → drop n xs ≡ x ∷ drop (suc n) xs
drop_suc [] n x e = absurd cc
drop_suc (y ∷ xs) zero x e = let same : y ≡ x = cc in ap (λ y. y ∷ xs) same
drop_suc (y ∷ xs) (suc n) x e = drop_suc xs n x e

pub drop_here : {A : Type 0} (xs : List A) (n : ℕ) (x : A) → slice_get xs n ≡ Some x → drop n xs ≡ x ∷ drop (n + 1) xs
drop_here xs n x e = let next : suc n ≡ n + 1 = omega arith in drop_suc xs n x e ∙ ap (λ m. x ∷ drop m xs) next

pub drop_all : {A : Type 0} (xs : List A) (n : ℕ) → length xs ≤ n → drop n xs ≡ []
drop_all [] zero k = refl
drop_all [] (suc n) k = refl
drop_all (x ∷ xs) zero k = absurd (omega (arith, k))
drop_all (x ∷ xs) (suc n) k = drop_all xs n (omega (arith, k))

pub drop_map : {A B : Type 0} (g : A → B) (xs : List A) (n : ℕ) → map g (drop n xs) ≡ drop n (map g xs)
drop_map g xs zero = refl
drop_map g [] (suc n) = refl
drop_map g (x ∷ xs) (suc n) = drop_map g xs n

all_read : {A : Type 0} (P : A → Type 0) (xs : List A) (n : ℕ) (x : A) → AllByRecursion P xs → slice_get xs n ≡ Some x → P x
all_read P [] n x all e = absurd cc
all_read P (y ∷ xs) zero x all e = let same : y ≡ x = cc in subst P same all.0
all_read P (y ∷ xs) (suc n) x all e = all_read P xs n x all.1 e

-- a frame's word by its number
pub bound_here : (bs : List DeclaredBound) (n : ℕ) (d : DeclaredBound) → n < length bs → slice_get (map words.bound_of bs) n ≡ Some (words.bound_of (slice_index_or bs n d))
bound_here [] n d k = absurd (omega (arith, k))
bound_here (b ∷ bs) zero d k = refl
bound_here (b ∷ bs) (suc n) d k = bound_here bs n d (omega (arith, k))

-- a number of this word is a vector's
pub small_here : (bs : List Bound) (n most : ℕ) (b : Bound) → AllByRecursion (λ b. b.local < most) bs → slice_get bs n ≡ Some b → b.local < most
small_here bs n most b all e = all_read (λ (b : Bound). b.local < most) bs n b all e

-- ---- one word more

own_more : (p : Code) (cells : List Cell) (before : List ℕ) (f : Frame) (bs : List Bound) (vs : List Value) (b : Bound) (v : Value) → AreOwnWords p cells before f bs vs
    → IsOwnWord p cells (before ++ words_cells p cells bs vs) f b v → AreOwnWords p cells before f (bs ++ b ∷ []) (vs ++ v ∷ [])
own_more p cells before f [] [] b v are own = (subst (λ l. IsOwnWord p cells l f b v) (append-nil before) own, tt)
own_more p cells before f [] (u ∷ vs) b v are own = absurd are
own_more p cells before f (c ∷ bs) [] b v are own = absurd are
own_more p cells before f (c ∷ bs) (u ∷ vs) b v are own =
    (are.0, own_more p cells (before ++ footprint p.types cells u c.word) f bs vs b v are.1 (subst (λ l. IsOwnWord p cells l f b v) (sym (append_assoc before (footprint p.types cells u c.word) (words_cells p cells bs vs))) own))

cells_more : (p : Code) (cells : List Cell) (before : List ℕ) (f : Frame) (bs : List Bound) (vs : List Value) (b : Bound) (v : Value) → AreOwnWords p cells before f bs vs
    → words_cells p cells (bs ++ b ∷ []) (vs ++ v ∷ []) ≡ words_cells p cells bs vs ++ footprint p.types cells v b.word
cells_more p cells before f [] [] b v are = append-nil (footprint p.types cells v b.word)
cells_more p cells before f [] (u ∷ vs) b v are = absurd are
cells_more p cells before f (c ∷ bs) [] b v are = absurd are
cells_more p cells before f (c ∷ bs) (u ∷ vs) b v are =
    ap (λ l. footprint p.types cells u c.word ++ l) (cells_more p cells (before ++ footprint p.types cells u c.word) f bs vs b v are.1)
    ∙ sym (append_assoc (footprint p.types cells u c.word) (words_cells p cells bs vs) (footprint p.types cells v b.word))

units_more : (p : Code) (cells : List Cell) (before : List ℕ) (f : Frame) (carried : Carried ℕ) (bs : List Bound) (vs : List Value) (b : Bound) (v : Value) → AreOwnWords p cells before f bs vs
    → words_units p.types carried (bs ++ b ∷ []) (vs ++ v ∷ []) ≡ words_units p.types carried bs vs + potential p.types (carried b.local) v
units_more p cells before f carried [] [] b v are = omega arith
units_more p cells before f carried [] (u ∷ vs) b v are = absurd are
units_more p cells before f carried (c ∷ bs) [] b v are = absurd are
units_more p cells before f carried (c ∷ bs) (u ∷ vs) b v are = omega (arith, units_more p cells (before ++ footprint p.types cells u c.word) f carried bs vs b v are.1)

-- the words before the rest have their values
pub record WordsMidway (p : Code) (cells : List Cell) (before : List ℕ) (f : Frame) (carried : Carried ℕ) (bs rest : List Bound) (marks : List Bool) (units : ℕ) : Type 0 where
  pub lower : List Bound
  pub is : bs ≡ lower ++ rest
  pub taken : WordsTaken p cells before f carried lower marks units

marks_none : (cells : List Cell) (before : List ℕ) (marks : List Bool) → AreMarkedBy (blank cells) before marks → AreMarkedBy (blank cells) (before ++ []) marks
marks_none cells before marks are = λ at. omega (arith, are at, times_append at before [])

pub words_first : (p : Code) (cells : List Cell) (h : Func) (before : List ℕ) (f : Frame) (carried : Carried ℕ) (vectors : List Vector) (bs : List Bound) (marks : List Bool)
    → Begins p cells h before f carried vectors marks → WordsMidway p cells before f carried bs bs marks 0
words_first p cells h before f carried vectors bs marks b = record {
  lower = [];
  is = refl;
  taken = record { values = []; own = tt; marked = marks_none cells before marks b.marked; sum = refl };
}

pub words_all : (p : Code) (cells : List Cell) (before : List ℕ) (f : Frame) (carried : Carried ℕ) (bs : List Bound) (marks : List Bool) (units : ℕ) → WordsMidway p cells before f carried bs [] marks units
    → WordsTaken p cells before f carried bs marks units
words_all p cells before f carried bs marks units m = subst (λ bs. WordsTaken p cells before f carried bs marks units) (sym (m.is ∙ append-nil m.lower)) m.taken

-- the kind of a frame's local, where the frame is of this function
kind_there : (p : Code) (h : Func) (f : Frame) (x : ℕ) (o : Option Kind) → slice_get p.funcs f.func ≡ Some h → kind_of h x ≡ o → kind_in (slice_get p.funcs f.func) x ≡ o
kind_there p h f x o is e = ap (λ f. kind_in f x) is ∙ e

next_taken : (p : Code) (cells : List Cell) (before : List ℕ) (f : Frame) (carried : Carried ℕ) (bs : List Bound) (b : Bound) (others : List Bound) (marks later : List Bool) (units more : ℕ) (v : Value)
    → (m : WordsMidway p cells before f carried bs (b ∷ others) marks units) → IsOwnWord p cells (before ++ words_cells p cells m.lower m.taken.values) f b v
    → AreMarkedBy marks (footprint p.types cells v b.word) later → more ≡ potential p.types (carried b.local) v → WordsMidway p cells before f carried bs others later (units + more)
next_taken p cells before f carried bs b others marks later units more v m own are e = record {
  lower = m.lower ++ b ∷ [];
  is = m.is ∙ sym (append_assoc m.lower (b ∷ []) others);
  taken = record {
    values = m.taken.values ++ v ∷ [];
    own = own_more p cells before f m.lower m.taken.values b v m.taken.own own;
    marked = λ at. omega (
      arith,
      are at,
      m.taken.marked at,
      ap (times at) (cells_more p cells before f m.lower m.taken.values b v m.taken.own),
      times_append at before (words_cells p cells (m.lower ++ b ∷ []) (m.taken.values ++ v ∷ [])),
      times_append at before (words_cells p cells m.lower m.taken.values),
      times_append at (words_cells p cells m.lower m.taken.values) (footprint p.types cells v b.word),
    );
    sum = omega (arith, e, m.taken.sum, units_more p cells before f carried m.lower m.taken.values b v m.taken.own);
  };
}

own_word : (p : Code) (cells : List Cell) (before : List ℕ) (h : Func) (f : Frame) (b : Bound) (q : Kind) (v : Value) → slice_get p.funcs f.func ≡ Some h → kind_of h b.local ≡ Some q → IsOwn p.types cells before q b.word v
    → IsOwnWord p cells before f b v
own_word p cells before h f b q v is e own = subst (λ o. IsSomeAnd o (λ q. IsOwn p.types cells before q b.word v)) (sym (kind_there p h f b.local (Some q) is e)) own

no_word : (p : Code) (cells : List Cell) (before : List ℕ) (h : Func) (f : Frame) (b : Bound) (v : Value) → slice_get p.funcs f.func ≡ Some h → kind_of h b.local ≡ None → IsOwnWord p cells before f b v → ⊥
no_word p cells before h f b v is e own = subst (λ o. IsSomeAnd o (λ q. IsOwn p.types cells before q b.word v)) (kind_there p h f b.local None is e) own

kind_word : (p : Code) (cells : List Cell) (before : List ℕ) (h : Func) (f : Frame) (b : Bound) (q : Kind) (v : Value) → slice_get p.funcs f.func ≡ Some h → kind_of h b.local ≡ Some q → IsOwnWord p cells before f b v
    → IsOwn p.types cells before q b.word v
kind_word p cells before h f b q v is e own = subst (λ o. IsSomeAnd o (λ q. IsOwn p.types cells before q b.word v)) (kind_there p h f b.local (Some q) is e) own

pub words_next : (p : Code) (cells : List Cell) (h : Func) (before : List ℕ) (f : Frame) (carried : Carried ℕ) (os : List (Option (Bor Vector))) (bs others : List Bound) (b : Bound) (marks later : List Bool)
    (start : List Bool) (units more : ℕ) (o : Option (Bor Vector)) (answer : Option ℕ)
    → Begins p cells h before f carried (map (λ (o : Option (Bor Vector)). option_map_or (λ (v : Bor Vector). v.now) o []) os) start → WordsMidway p cells before f carried bs (b ∷ others) marks units
    → slice_get os b.local ≡ Some o → b.local < length os → WordIs p.types cells h b (vector_of o) marks later answer → answer ≡ Some more → WordsMidway p cells before f carried bs others later (units + more)
words_next p cells h before f carried os bs others b marks later start units more o answer begins m is few word e = by_kind (kind_of h b.local) refl (subst (WordIs p.types cells h b (vector_of o) marks later) e word)
  where
    by_kind : (k : Option Kind) → kind_of h b.local ≡ k → WordAnswer p.types cells k (vector_of o) b.word marks later (Some more) → WordsMidway p cells before f carried bs others later (units + more)
    by_kind None k w = absurd cc
    by_kind (Some q) k w =
        let own = own_by_marks p.types cells (before ++ words_cells p cells m.lower m.taken.values) marks q b.word w.value m.taken.marked w.ownable in
        next_taken p cells before f carried bs b others marks later units more w.value m (own_word p cells (before ++ words_cells p cells m.lower m.taken.values) h f b q w.value begins.func k own) w.marks
        (w.carries ∙ ap (λ c. potential p.types c w.value) (vector_carries carried os b.local o is few begins.carries))

pub word_fails : (p : Code) (cells : List Cell) (h : Func) (before : List ℕ) (f : Frame) (carried : Carried ℕ) (vectors : List Vector) (bs others : List Bound) (b : Bound) (marks later start : List Bool) (units : ℕ)
    (vector : Vector) (answer : Option ℕ) → Begins p cells h before f carried vectors start → WordsMidway p cells before f carried bs (b ∷ others) marks units
    → WordIs p.types cells h b vector marks later answer → answer ≡ None → WordFails p cells before f bs b.local
word_fails p cells h before f carried vectors bs others b marks later start units vector answer begins m word e = record {
  lower = m.lower;
  bound = b;
  higher = others;
  bounds = m.is;
  is = refl;
  values = m.taken.values;
  own = m.taken.own;
  none = λ v own. by_kind v own (kind_of h b.local) refl (subst (WordIs p.types cells h b vector marks later) e word);
}
  where
    by_kind : (v : Value) → IsOwnWord p cells (before ++ words_cells p cells m.lower m.taken.values) f b v → (k : Option Kind) → kind_of h b.local ≡ k → WordAnswer p.types cells k vector b.word marks later None → ⊥
    by_kind v own None k w = no_word p cells (before ++ words_cells p cells m.lower m.taken.values) h f b v begins.func k own
    by_kind v own (Some q) k w =
        w v (marks_by_own p.types cells (before ++ words_cells p cells m.lower m.taken.values) marks q b.word v m.taken.marked (kind_word p cells (before ++ words_cells p cells m.lower m.taken.values) h f b q v begins.func k own))

-- ---- a frame

wider : (x n : ℕ) (ys : List ℕ) → AllByRecursion (λ y. y < suc x + n) ys → AllByRecursion (λ y. y < x + suc n) ys
wider x n [] all = tt
wider x n (y ∷ ys) all = (omega (arith, all.0), wider x n ys all.1)

below_more : (x n : ℕ) (ys : List ℕ) (b : Bool) → AllByRecursion (λ y. y < suc x + n) ys → AllByRecursion (λ y. y < x + suc n) (if b then x ∷ ys else ys)
below_more x n ys true all = (omega arith, wider x n ys all)
below_more x n ys false all = wider x n ys all

ready_below : (s : states.State) (x n : ℕ) → AllByRecursion (λ y. y < x + n) (ready_among s x n)
ready_below s x zero = tt
ready_below s x (suc n) = below_more x n (ready_among s (suc x) n) (is_ready (s x)) (ready_below s (suc x) n)

ready_all : (s : states.State) (n : ℕ) → AllByRecursion (λ y. y < n) (ready_among s 0 n)
ready_all s n = let same : 0 + n ≡ n = omega arith in subst (λ m. AllByRecursion (λ y. y < m) (ready_among s 0 n)) same (ready_below s 0 n)

few_more : (x n : ℕ) (ys : List ℕ) (b : Bool) → length ys ≤ n → length (if b then x ∷ ys else ys) ≤ suc n
few_more x n ys true few = omega (arith, few)
few_more x n ys false few = omega (arith, few)

few_ready : (s : states.State) (x n : ℕ) → length (ready_among s x n) ≤ n
few_ready s x zero = omega arith
few_ready s x (suc n) = few_more x n (ready_among s (suc x) n) (is_ready (s x)) (few_ready s (suc x) n)

-- few words, each of one of the first locals
pub record FewWords (f : Frame) : Type 0 where
  pub small : AllByRecursion (λ b. b.local < 256) f.live
  pub few : length f.live ≤ 256

mapped_below : (bs : List Bound) (ys : List ℕ) (n most : ℕ) → map (λ b. b.local) bs ≡ ys → AllByRecursion (λ y. y < n) ys → n ≤ most → AllByRecursion (λ b. b.local < most) bs
mapped_below bs ys n most e all few = each bs (subst (AllByRecursion (λ y. y < n)) (sym e) all)
  where
    each : (bs : List Bound) → AllByRecursion (λ y. y < n) (map (λ b. b.local) bs) → AllByRecursion (λ b. b.local < most) bs
    each [] all = tt
    each (b ∷ bs) all = (omega (arith, all.0, few), each bs all.1)

few_locals : (p : Code) (func : ℕ) (h : Func) → IsWithinLimits p → slice_get p.funcs func ≡ Some h → length (local_kinds h) ≤ 256
few_locals p func h limits is = let w = all_read FuncIsWithin p.funcs func h limits.funcs is in omega (arith, w.few_params, w.few_locals, long_append h.params h.locals)

just_few : (p : Code) (f : Frame) (h : Func) (s : states.State) → IsWithinLimits p → slice_get p.funcs f.func ≡ Some h → HasJustReady h s f → FewWords f
just_few p f h s limits is just =
    let few = few_locals p f.func h limits is in
    record {
      small = mapped_below f.live (ready_among s 0 (length (local_kinds h))) (length (local_kinds h)) 256 just (ready_all s (length (local_kinds h))) few;
      few = omega (arith, few, few_ready s 0 (length (local_kinds h)), ap length just, long_mapped (λ (b : Bound). b.local) f.live);
    }

pub shaped_few : (l : Licensed) (f : Frame) (others : List Frame) → IsWithinLimits l.code → IsShaped l (f ∷ others) → FewWords f
shaped_few l f [] limits r = just_few l.code f r.h (ready_at l.code f.func f.block (f.place - 1)) limits r.func r.just
shaped_few l f (g ∷ others) limits w = just_few l.code f w.h (waits_at l.code f.func f.block (f.place - 1)) limits w.func w.just

within_some : {A : Type 0} (xs : List A) (n : ℕ) (x : A) → slice_get xs n ≡ Some x → n < length xs
within_some [] n x e = absurd cc
within_some (y ∷ xs) zero x e = omega arith
within_some (y ∷ xs) (suc n) x e = omega (arith, within_some xs n x e)

pub func_within : (l : Licensed) (f : Frame) (others : List Frame) → IsShaped l (f ∷ others) → f.func < length l.code.funcs
func_within l f [] r = within_some l.code.funcs f.func r.h r.func
func_within l f (g ∷ others) w = within_some l.code.funcs f.func w.h w.func

one_some : {A : Type 0} (o : Option A) (a b : A) → o ≡ Some a → o ≡ Some b → a ≡ b
one_some o a b p q = cc

pub block_within : (l : Licensed) (f : Frame) (others : List Frame) (h : Func) → IsShaped l (f ∷ others) → slice_get l.code.funcs f.func ≡ Some h → f.block < length h.blocks
block_within l f [] h r is = subst (λ h. f.block < length h.blocks) (one_some (slice_get l.code.funcs f.func) r.h h r.func is) (within_some r.h.blocks f.block r.b r.block)
block_within l f (g ∷ others) h w is = subst (λ h. f.block < length h.blocks) (one_some (slice_get l.code.funcs f.func) w.h h w.func is) (within_some w.h.blocks f.block w.b w.block)

in_block : (l : Licensed) (f : Frame) (h : Func) (b : Block) → slice_get l.code.funcs f.func ≡ Some h → slice_get h.blocks f.block ≡ Some b → block_at l.code f.func f.block ≡ Some b
in_block l f h b func block = ap (λ o. block_in o f.block) func ∙ block

left_there : (l : Licensed) (f : Frame) (b : Block) → block_at l.code f.func f.block ≡ Some b → left_at l f ≡ (account_of l f.func f.block b (f.place - 1)).left
left_there l f b at = ap (λ o. option_map_or (λ (b : Block). (account_of l f.func f.block b (f.place - 1)).left) o 0) at

carried_there : (l : Licensed) (f : Frame) (b : Block) → block_at l.code f.func f.block ≡ Some b → (account_of l f.func f.block b (f.place - 1)).carried ≡ carried_at l f
carried_there l f b at = sym (ap (λ o. option_map_or (λ (b : Block). (account_of l f.func f.block b (f.place - 1)).carried) o (λ x con. 0)) at)

callee_there : (l : Licensed) (f : Frame) (b : Block) → block_at l.code f.func f.block ≡ Some b → callee_at l f ≡ callee_in b (f.place - 1)
callee_there l f b at = ap (λ o. option_map_or (λ (b : Block). callee_in b (f.place - 1)) o 0) at

asks_are : (l : Licensed) (f : Frame) (b : Block) (others : List Frame) (vs : List Value) (left beside units : ℕ) → block_at l.code f.func f.block ≡ Some b → left ≡ (account_of l f.func f.block b (f.place - 1)).left
    → beside ≡ asked_of l b (f.place - 1) others left → units ≡ words_units l.code.types (carried_at l f) f.live vs → units + beside ≡ frame_asks l f others vs
asks_are l f b [] vs left beside units at e a u = omega (arith, e, a, u, left_there l f b at)
asks_are l f b (g ∷ gs) vs left beside units at e a u =
    omega (arith, e, a, u, left_there l f b at, ap (book_of l.cert).need (callee_there l f b at), ap (book_of l.cert).back (callee_there l f b at))

-- the words of a frame begin so
pub frame_begins : (l : Licensed) (cells : List Cell) (f : Frame) (h : Func) (b : Block) (before : List ℕ) (marks : List Bool) (vectors : List Vector) → slice_get l.code.funcs f.func ≡ Some h
    → slice_get h.blocks f.block ≡ Some b → AreMarkedBy (blank cells) before marks
    → ((b : Block) → block_at l.code f.func f.block ≡ Some b → AreCarried (account_of l f.func f.block b (f.place - 1)).carried vectors) → Begins l.code cells h before f (carried_at l f) vectors marks
frame_begins l cells f h b before marks vectors func block are carried = record {
  func = func;
  marked = are;
  carries = subst (λ c. AreCarried c vectors) (carried_there l f b (in_block l f h b func block)) (carried b (in_block l f h b func block));
}

pub frame_taken : (l : Licensed) (cells : List Cell) (f : Frame) (h : Func) (b : Block) (others : List Frame) (before : List ℕ) (marks : List Bool) (left beside units : ℕ) → slice_get l.code.funcs f.func ≡ Some h
    → slice_get h.blocks f.block ≡ Some b → ((b : Block) → block_at l.code f.func f.block ≡ Some b → left ≡ (account_of l f.func f.block b (f.place - 1)).left) → beside ≡ asked_of l b (f.place - 1) others left
    → WordsTaken l.code cells before f (carried_at l f) f.live marks units → FrameTaken l cells before f others marks (units + beside)
frame_taken l cells f h b others before marks left beside units func block left_is beside_is t = record {
  values = t.values;
  own = t.own;
  marked = t.marked;
  asks = asks_are l f b others t.values left beside units (in_block l f h b func block) (left_is b (in_block l f h b func block)) beside_is t.sum;
}

-- ---- all frames

-- the frame of this number in front of those behind it is as the code has it
pub shaped_here : (l : Licensed) (fs : List Frame) (n : ℕ) (f : Frame) → AreShaped l fs → n < length fs → slice_get fs n ≡ Some f → IsShaped l (f ∷ drop (n + 1) fs)
shaped_here l fs n f shaped k e = subst (IsShaped l) (drop_here fs n f e) (shaped n k).shaped

ask_turn : (l : Licensed) (f : Frame) (others : List Frame) (vs : List Value) (more : List (List Value)) → frames_ask l (f ∷ others) (vs ∷ more) ≡ frame_asks l f others vs + frames_ask l others more
ask_turn l f [] vs more = omega arith
ask_turn l f (g ∷ gs) vs more = refl

frames_more : (p : Code) (cells : List Cell) (before : List ℕ) (fs : List Frame) (vss : List (List Value)) (f : Frame) (vs : List Value) → AreOwnFrames p cells before fs vss
    → AreOwnWords p cells (before ++ frames_cells p cells fs vss) f f.live vs → AreOwnFrames p cells before (fs ++ f ∷ []) (vss ++ vs ∷ [])
frames_more p cells before [] [] f vs are own = (subst (λ l. AreOwnWords p cells l f f.live vs) (append-nil before) own, tt)
frames_more p cells before [] (us ∷ vss) f vs are own = absurd are
frames_more p cells before (g ∷ fs) [] f vs are own = absurd are
frames_more p cells before (g ∷ fs) (us ∷ vss) f vs are own =
    (are.0, frames_more p cells (before ++ words_cells p cells g.live us) fs vss f vs are.1 (subst (λ l. AreOwnWords p cells l f f.live vs) (sym (append_assoc before (words_cells p cells g.live us) (frames_cells p cells fs vss))) own))

frames_cells_more : (p : Code) (cells : List Cell) (before : List ℕ) (fs : List Frame) (vss : List (List Value)) (f : Frame) (vs : List Value) → AreOwnFrames p cells before fs vss
    → frames_cells p cells (fs ++ f ∷ []) (vss ++ vs ∷ []) ≡ frames_cells p cells fs vss ++ words_cells p cells f.live vs
frames_cells_more p cells before [] [] f vs are = append-nil (words_cells p cells f.live vs)
frames_cells_more p cells before [] (us ∷ vss) f vs are = absurd are
frames_cells_more p cells before (g ∷ fs) [] f vs are = absurd are
frames_cells_more p cells before (g ∷ fs) (us ∷ vss) f vs are =
    ap (λ l. words_cells p cells g.live us ++ l) (frames_cells_more p cells (before ++ words_cells p cells g.live us) fs vss f vs are.1)
    ∙ sym (append_assoc (words_cells p cells g.live us) (frames_cells p cells fs vss) (words_cells p cells f.live vs))

long_more : {A : Type 0} (xs : List A) (x : A) → length (xs ++ x ∷ []) ≡ suc (length xs)
long_more [] x = refl
long_more (y ∷ xs) x = ap suc (long_more xs x)

-- a buffer into which as many are written has as many
pub room_stays : {A : Type 0} (n : ℕ) (xs ys : List A) → n ≡ 256 → length xs ≡ 256 → length (take n (xs ++ ys)) ≡ 256
room_stays n xs ys e long = length-take-le n (xs ++ ys) (omega (arith, e, long, long_append xs ys)) ∙ e

-- the frames before the rest have their values
pub record FramesMidway (l : Licensed) (cells : List Cell) (fs rest : List Frame) (number : ℕ) (marks : List Bool) (asked : ℕ) : Type 0 where
  pub front : List Frame
  pub is : fs ≡ front ++ rest
  pub count : number ≡ length front
  pub values : List (List Value)
  pub own : AreOwnFrames l.code cells [] front values
  pub marked : AreMarkedBy (blank cells) (frames_cells l.code cells front values) marks
  pub asks : (more : List (List Value)) → frames_ask l fs (values ++ more) ≡ asked + frames_ask l rest more

pub frames_first : (l : Licensed) (cells : List Cell) (fs : List Frame) (marks : List Bool) → marks ≡ blank cells → FramesMidway l cells fs fs 0 marks 0
frames_first l cells fs marks e = record {
  front = [];
  is = refl;
  count = refl;
  values = [];
  own = tt;
  marked = λ at. omega (arith, ap (λ m. owners m at) e);
  asks = λ more. omega arith;
}

pub frames_next : (l : Licensed) (cells : List Cell) (fs : List Frame) (f : Frame) (others : List Frame) (number : ℕ) (marks later : List Bool) (asked n : ℕ) (m : FramesMidway l cells fs (f ∷ others) number marks asked)
    → FrameTaken l cells (frames_cells l.code cells m.front m.values) f others later n → FramesMidway l cells fs others (number + 1) later (asked + n)
frames_next l cells fs f others number marks later asked n m t = record {
  front = m.front ++ f ∷ [];
  is = m.is ∙ sym (append_assoc m.front (f ∷ []) others);
  count = omega (arith, m.count, long_more m.front f);
  values = m.values ++ t.values ∷ [];
  own = frames_more l.code cells [] m.front m.values f t.values m.own t.own;
  marked = λ at. omega (arith, t.marked at, ap (times at) (frames_cells_more l.code cells [] m.front m.values f t.values m.own));
  asks = λ more. ap (frames_ask l fs) (append_assoc m.values (t.values ∷ []) more) ∙ omega (arith, m.asks (t.values ∷ more), ask_turn l f others t.values more, t.asks);
}

pub frames_fail : (l : Licensed) (cells : List Cell) (fs : List Frame) (f : Frame) (others : List Frame) (number local : ℕ) (marks : List Bool) (asked : ℕ) (m : FramesMidway l cells fs (f ∷ others) number marks asked)
    → WordFails l.code cells (frames_cells l.code cells m.front m.values) f f.live local → IsValueFault l.code cells fs number local
frames_fail l cells fs f others number local marks asked m w = record {
  older = m.front;
  frame = f;
  younger = others;
  frames = m.is;
  count = m.count;
  lower = w.lower;
  bound = w.bound;
  higher = w.higher;
  bounds = w.bounds;
  is = w.is;
  values = m.values;
  own = m.own;
  lower_values = w.values;
  lower_own = w.own;
  none = w.none;
}

pub frames_all : (l : Licensed) (cells : List Cell) (fs : List Frame) (number : ℕ) (marks : List Bool) (asked : ℕ) → FramesMidway l cells fs [] number marks asked → FramesTaken l cells fs marks asked
frames_all l cells fs number marks asked m =
    let whole : fs ≡ m.front = m.is ∙ append-nil m.front in
    record {
      values = m.values;
      own = subst (λ fs. AreOwnFrames l.code cells [] fs m.values) (sym whole) m.own;
      marked = subst (λ fs. AreMarkedBy (blank cells) (frames_cells l.code cells fs m.values) marks) (sym whole) m.marked;
      asks = let all = m.asks [] in omega (arith, all, ap (frames_ask l fs) (append-nil m.values));
    }

pub few_before : (l : Licensed) (cells : List Cell) (fs : List Frame) (f : Frame) (others : List Frame) (number : ℕ) (marks : List Bool) (asked : ℕ) → FramesMidway l cells fs (f ∷ others) number marks asked → AreShaped l fs
    → number ≤ 65536
few_before l cells fs f others number marks asked m shaped =
    let many = few_frames l fs shaped in omega (arith, many, m.count, ap length m.is, long_append m.front (f ∷ others))
