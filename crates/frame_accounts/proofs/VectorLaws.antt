-- What locals carry, as lists of vectors and let by let.
use Rattle.std.proofs.Common.{◌≡◌, ℕ, zero, suc, ◌+◌, ◌<◌, Bool, true, false, List, [], ◌∷◌, ◌++◌, length, map, take, drop, Option, Some, None, refl, sym, ap, ◌∙◌, arith}
use Rattle.std.specs.Prelude.{◌==◌, if◌then◌else◌, slice_get, slice_set, replicate}
use Rattle.std.specs.List.{range_with_len}
use Rattle.std.specs.Option.{option_map}
use Rattle.std.proofs.lemmas.Bool.Decides.{nat_tests}
use Rattle.std.proofs.lemmas.List.{take-map}
use Rattle.std.proofs.lemmas.List.FromFn.{length-map-range_with_len}
use Rattle.std.proofs.lemmas.Option.{slice_get-map}
use Rattle.camelot_values.specs.Kinds.{DataType}
use Rattle.grail_blocks.specs.declared.blocks.Let.{Let as DeclaredLet}
use Rattle.grail_code.specs.Code.{Let, let_of}
use Rattle.annotations.specs.Vectors.{Vector}
use Rattle.certificate.specs.Certificates.{VarCert, FuncCert, Cert}
use Rattle.licence.specs.Books.{vector_of, make_of}
use Rattle.frame_accounts.specs.Walk.{Vectors, listed, putting, first_need, first_vars, Source, source_in, carried_from, putting_from, left_after, vectors_after, left_behind, vectors_behind, left_at, vectors_at}

-- ---- lists of vectors

abbrev nothing : Vector
nothing = []

pub listed_long : (n : ℕ) (v : Vectors) → length (listed n v) ≡ n
unfolding listed
listed_long n v = length-map-range_with_len v 0 n

-- numbers from a higher one on aren't this one
put_below : (a b n : ℕ) (v : Vectors) (w : Vector) → a < b → map v (range_with_len b n) ≡ map (putting v a w) (range_with_len b n)
put_below a b zero v w less = refl
put_below a b (suc n) v w less =
    let other : (a == b) ≡ false = grind (arith, nat_tests, less) in
    ap (λ t. (if t then w else v b) ∷ map v (range_with_len (b + 1) n)) (sym other) ∙ ap (λ l. putting v a w b ∷ l) (put_below a (b + 1) n v w (omega (arith, less)))

put_from : (a n i : ℕ) (v : Vectors) (w : Vector) → slice_set (map v (range_with_len a n)) i w ≡ map (putting v (a + i) w) (range_with_len a n)
put_from a zero i v w = refl
put_from a (suc n) zero v w =
    let here : a + 0 ≡ a = omega arith in
    let test : (a + 0 == a) ≡ true = grind (arith, nat_tests) in
    ap (λ t. (if t then w else v a) ∷ map v (range_with_len (a + 1) n)) (sym test) ∙ ap (λ l. putting v (a + 0) w a ∷ l) (put_below (a + 0) (a + 1) n v w (omega arith))
put_from a (suc n) (suc i) v w =
    let next : a + 1 + i ≡ a + suc i = omega arith in
    let test : (a + suc i == a) ≡ false = grind (arith, nat_tests) in
    ap (λ t. (if t then w else v a) ∷ slice_set (map v (range_with_len (a + 1) n)) i w) (sym test)
    ∙ ap (λ l. putting v (a + suc i) w a ∷ l) (put_from (a + 1) n i v w ∙ ap (λ k. map (putting v k w) (range_with_len (a + 1) n)) next)

pub put_listed : (n x : ℕ) (v : Vectors) (w : Vector) → slice_set (listed n v) x w ≡ listed n (putting v x w)
unfolding listed
put_listed n x v w = put_from 0 n x v w ∙ ap (λ k. map (putting v k w) (range_with_len 0 n)) (let e : 0 + x ≡ x = omega arith in e)

get_from : (a n i : ℕ) (v : Vectors) (o : Vector) → slice_get (map v (range_with_len a n)) i ≡ Some o → o ≡ v (a + i)
get_from a zero i v o e = absurd cc
get_from a (suc n) zero v o e = let same : v a ≡ o = cc in sym same ∙ ap v (let k : a ≡ a + 0 = omega arith in k)
get_from a (suc n) (suc i) v o e = get_from (a + 1) n i v o e ∙ ap v (let k : a + 1 + i ≡ a + suc i = omega arith in k)

pub get_listed : (n x : ℕ) (v : Vectors) (o : Vector) → slice_get (listed n v) x ≡ Some o → o ≡ v x
unfolding listed
get_listed n x v o e = get_from 0 n x v o e ∙ ap v (let k : 0 + x ≡ x = omega arith in k)

none_from : (a n : ℕ) → map (λ (x : ℕ). nothing) (range_with_len a n) ≡ replicate n nothing
none_from a zero = refl
none_from a (suc n) = ap (λ l. nothing ∷ l) (none_from (a + 1) n)

none_mapped : {X : Type 0} (f : X → Vector) (x : X) (n : ℕ) → f x ≡ nothing → map f (replicate n x) ≡ replicate n nothing
none_mapped f x zero e = refl
none_mapped f x (suc n) e = ap (λ v. v ∷ map f (replicate n x)) e ∙ ap (λ l. nothing ∷ l) (none_mapped f x n e)

-- where no local has a vector, none carries anything
pub none_listed : {X : Type 0} (xs : List X) (f : X → Vector) (x : X) → f x ≡ nothing → xs ≡ replicate (length xs) x → map f xs ≡ listed (length xs) (λ x. nothing)
unfolding listed
none_listed xs f x e h = ap (map f) h ∙ none_mapped f x (length xs) e ∙ sym (none_from 0 (length xs))

-- ---- lines of parameters

drop_one : {X : Type 0} (xs : List X) (i : ℕ) (x : X) → slice_get xs i ≡ Some x → drop i xs ≡ x ∷ drop (suc i) xs
drop_one [] i x e = absurd cc
drop_one (y ∷ xs) zero x e = let same : y ≡ x = cc in ap (λ z. z ∷ xs) same
drop_one (y ∷ xs) (suc i) x e = drop_one xs i x e

-- one line more, the last of them first
pub one_var : (n i k : ℕ) (vs : List VarCert) (v : VarCert) (old new : List Vector) → slice_get vs i ≡ Some v → k ≡ suc i → old ≡ listed n (vector_of (drop k vs))
    → new ≡ slice_set old v.var v.vector → new ≡ listed n (vector_of (drop i vs))
one_var n i k vs v old new at next told put =
    put ∙ ap (λ l. slice_set l v.var v.vector) (told ∙ ap (λ j. listed n (vector_of (drop j vs))) next) ∙ put_listed n v.var (vector_of (drop (suc i) vs)) v.vector
    ∙ sym (ap (λ l. listed n (vector_of l)) (drop_one vs i v at))

-- ---- let by let

take_one : {X : Type 0} (xs : List X) (i : ℕ) (x : X) → slice_get xs i ≡ Some x → take (suc i) xs ≡ take i xs ++ x ∷ []
take_one [] i x e = absurd cc
take_one (y ∷ xs) zero x e = let same : y ≡ x = cc in ap (λ z. z ∷ []) same
take_one (y ∷ xs) (suc i) x e = ap (λ l. y ∷ l) (take_one xs i x e)

take_long : {X : Type 0} (xs : List X) (i : ℕ) (x : X) → slice_get xs i ≡ Some x → length (take i xs) ≡ i
take_long [] i x e = absurd cc
take_long (y ∷ xs) zero x e = refl
take_long (y ∷ xs) (suc i) x e = ap suc (take_long xs i x e)

module _ (types : List DataType) (c : Cert) (own : FuncCert) (block : ℕ) where
  vectors_both : (place : ℕ) (v : Vectors) (ls : List Let) (l : Let)
      → vectors_behind types c own block place v (ls ++ l ∷ []) ≡ vectors_after types c (make_of own.makes block (place + length ls)) (vectors_behind types c own block place v ls) l.target l.op
  vectors_both place v [] l = ap (λ p. vectors_after types c (make_of own.makes block p) v l.target l.op) (let e : place ≡ place + 0 = omega arith in e)
  vectors_both place v (k ∷ ls) l =
      vectors_both (suc place) (vectors_after types c (make_of own.makes block place) v k.target k.op) ls l
      ∙ ap (λ p. vectors_after types c (make_of own.makes block p) (vectors_behind types c own block (suc place) (vectors_after types c (make_of own.makes block place) v k.target k.op) ls) l.target l.op)
      (let e : suc place + length ls ≡ place + suc (length ls) = omega arith in e)

  left_both : (place left : ℕ) (ls : List Let) (l : Let)
      → left_behind types c own block place left (ls ++ l ∷ []) ≡ left_after types c (make_of own.makes block (place + length ls)) (left_behind types c own block place left ls) l.op
  left_both place left [] l = ap (λ p. left_after types c (make_of own.makes block p) left l.op) (let e : place ≡ place + 0 = omega arith in e)
  left_both place left (k ∷ ls) l =
      left_both (suc place) (left_after types c (make_of own.makes block place) left k.op) ls l
      ∙ ap (λ p. left_after types c (make_of own.makes block p) (left_behind types c own block (suc place) (left_after types c (make_of own.makes block place) left k.op) ls) l.op)
      (let e : suc place + length ls ≡ place + suc (length ls) = omega arith in e)

  -- one let more
  pub vectors_more : (ls : List Let) (l : Let)
      → vectors_at types c own block (ls ++ l ∷ []) ≡ vectors_after types c (make_of own.makes block (suc (length ls))) (vectors_at types c own block ls) l.target l.op
  unfolding vectors_at
  vectors_more ls l = vectors_both 1 (vector_of (first_vars own block)) ls l
      ∙ ap (λ p. vectors_after types c (make_of own.makes block p) (vectors_behind types c own block 1 (vector_of (first_vars own block)) ls) l.target l.op)
      (let e : 1 + length ls ≡ suc (length ls) = omega arith in e)

  pub left_more : (ls : List Let) (l : Let) → left_at types c own block (ls ++ l ∷ []) ≡ left_after types c (make_of own.makes block (suc (length ls))) (left_at types c own block ls) l.op
  unfolding left_at
  left_more ls l = left_both 1 (first_need own block) ls l
      ∙ ap (λ p. left_after types c (make_of own.makes block p) (left_behind types c own block 1 (first_need own block) ls) l.op)
      (let e : 1 + length ls ≡ suc (length ls) = omega arith in e)

  -- the same of the first lets
  pub vectors_next : (ls : List Let) (i : ℕ) (l : Let) → slice_get ls i ≡ Some l
      → vectors_at types c own block (take (suc i) ls) ≡ vectors_after types c (make_of own.makes block (suc i)) (vectors_at types c own block (take i ls)) l.target l.op
  vectors_next ls i l at =
      ap (vectors_at types c own block) (take_one ls i l at) ∙ vectors_more (take i ls) l
      ∙ ap (λ n. vectors_after types c (make_of own.makes block (suc n)) (vectors_at types c own block (take i ls)) l.target l.op) (take_long ls i l at)

  pub left_next : (ls : List Let) (i : ℕ) (l : Let) → slice_get ls i ≡ Some l
      → left_at types c own block (take (suc i) ls) ≡ left_after types c (make_of own.makes block (suc i)) (left_at types c own block (take i ls)) l.op
  left_next ls i l at =
      ap (left_at types c own block) (take_one ls i l at) ∙ left_more (take i ls) l
      ∙ ap (λ n. left_after types c (make_of own.makes block (suc n)) (left_at types c own block (take i ls)) l.op) (take_long ls i l at)

  -- before any let
  pub vectors_none : (ls : List Let) (n x : ℕ) (vars : List VarCert) → n ≡ 0 → vars ≡ first_vars own block → vector_of vars x ≡ vectors_at types c own block (take n ls) x
  unfolding vectors_at
  vectors_none ls n x vars none begins = ap (λ vs. vector_of vs x) begins ∙ ap (λ m. vectors_behind types c own block 1 (vector_of (first_vars own block)) (take m ls) x) (sym none)

  pub vectors_begin : vector_of (first_vars own block) ≡ vectors_at types c own block []
  unfolding vectors_at
  vectors_begin = refl

  pub left_begin : first_need own block ≡ left_at types c own block []
  unfolding left_at
  left_begin = refl

  -- what a local carries behind a let, by what locals carry before it
  pub one_back : (ls : List Let) (i k : ℕ) (l : Let) (x : ℕ) (s : Source) → slice_get ls i ≡ Some l → k ≡ suc i
      → ((v : Vectors) → carried_from v s ≡ vectors_after types c (make_of own.makes block (i + 1)) v l.target l.op x)
      → carried_from (vectors_at types c own block (take i ls)) s ≡ vectors_at types c own block (take k ls) x
  one_back ls i k l x s at next from =
      from (vectors_at types c own block (take i ls))
      ∙ ap (λ p. vectors_after types c (make_of own.makes block p) (vectors_at types c own block (take i ls)) l.target l.op x) (let e : i + 1 ≡ suc i = omega arith in e)
      ∙ sym (ap (λ (v : Vectors). v x) (vectors_next ls i l at)) ∙ ap (λ n. vectors_at types c own block (take n ls) x) (sym next)

  -- what is left behind one let more
  pub one_left : (ls : List Let) (i : ℕ) (l : Let) (made : Vector) (left new : ℕ) → slice_get ls i ≡ Some l → made ≡ make_of own.makes block (suc i)
      → left ≡ left_at types c own block (take i ls) → new ≡ left_after types c made left l.op → new ≡ left_at types c own block (take (i + 1) ls)
  one_left ls i l made left new at is was now =
      now ∙ ap (λ m. left_after types c m left l.op) is ∙ ap (λ n. left_after types c (make_of own.makes block (suc i)) n l.op) was ∙ sym (left_next ls i l at)
      ∙ ap (λ n. left_at types c own block (take n ls)) (let e : suc i ≡ i + 1 = omega arith in e)

  -- ---- what a let binds

  pub bound_from : (n k : ℕ) (ls : List Let) (l : Let) (made : Vector) (s : Source) (w : Vector) (old new : List Vector) → k ≡ length ls → made ≡ make_of own.makes block (suc k)
      → source_in types c made l.op ≡ Some s → w ≡ carried_from (vectors_at types c own block ls) s → old ≡ listed n (vectors_at types c own block ls)
      → new ≡ slice_set old l.target w → new ≡ listed n (vectors_at types c own block (ls ++ l ∷ []))
  bound_from n k ls l made s w old new long is from carried told put =
      put ∙ ap (λ u. slice_set old l.target u) carried ∙ ap (λ o. slice_set o l.target (carried_from (vectors_at types c own block ls) s)) told
      ∙ put_listed n l.target (vectors_at types c own block ls) (carried_from (vectors_at types c own block ls) s)
      ∙ sym (ap (listed n) (vectors_more ls l ∙ ap (λ m. vectors_after types c m (vectors_at types c own block ls) l.target l.op) (ap (λ j. make_of own.makes block (suc j)) (sym long) ∙ sym is) ∙ ap (putting_from (vectors_at types c own block ls) l.target) from))

  pub bound_nothing : (n k : ℕ) (ls : List Let) (l : Let) (made : Vector) (old : List Vector) → k ≡ length ls → made ≡ make_of own.makes block (suc k)
      → source_in types c made l.op ≡ None → old ≡ listed n (vectors_at types c own block ls) → old ≡ listed n (vectors_at types c own block (ls ++ l ∷ []))
  bound_nothing n k ls l made old long is from told =
      told ∙ sym (ap (listed n) (vectors_more ls l ∙ ap (λ m. vectors_after types c m (vectors_at types c own block ls) l.target l.op) (ap (λ j. make_of own.makes block (suc j)) (sym long) ∙ sym is) ∙ ap (putting_from (vectors_at types c own block ls) l.target) from))

-- ---- the source of what a local carries

pub other_target : (types : List DataType) (c : Cert) (made : Vector) (l : Let) (x : ℕ) → (l.target ≡ x → ⊥) → (v : Vectors) → v x ≡ vectors_after types c made v l.target l.op x
other_target types c made l x differs v = by_source (source_in types c made l.op) (l.target == x) refl
  where
    by_source : (o : Option Source) (t : Bool) → (l.target == x) ≡ t → v x ≡ putting_from v l.target o x
    by_source None t e = refl
    by_source (Some s) true e = absurd (differs (grind (arith, nat_tests, e)))
    by_source (Some s) false e = sym (ap (λ b. if b then carried_from v s else v x) e)

pub target_told : (types : List DataType) (c : Cert) (made : Vector) (l : Let) (x : ℕ) (s : Source) → l.target ≡ x → source_in types c made l.op ≡ Some s → (v : Vectors)
    → carried_from v s ≡ vectors_after types c made v l.target l.op x
target_told types c made l x s same from v =
    let test : (l.target == x) ≡ true = grind (arith, nat_tests, same) in
    sym (ap (λ o. putting_from v l.target o x) from ∙ ap (λ b. if b then carried_from v s else v x) test)

pub target_kept : (types : List DataType) (c : Cert) (made : Vector) (l : Let) (x : ℕ) → source_in types c made l.op ≡ None → (v : Vectors) → v x ≡ vectors_after types c made v l.target l.op x
target_kept types c made l x from v = sym (ap (λ o. putting_from v l.target o x) from)

-- ---- the lets of the code

pub lets_long : (lets : List DeclaredLet) → length lets ≡ length (map let_of lets)
lets_long [] = refl
lets_long (l ∷ lets) = ap suc (lets_long lets)

pub let_read : (lets : List DeclaredLet) (i : ℕ) (l : DeclaredLet) → slice_get lets i ≡ Some l → slice_get (map let_of lets) i ≡ Some (let_of l)
let_read lets i l e = slice_get-map let_of lets i ∙ ap (option_map let_of) e

pub lets_more : (lets : List DeclaredLet) (i : ℕ) (l : DeclaredLet) → slice_get lets i ≡ Some l → map let_of (take i lets) ++ let_of l ∷ [] ≡ take (i + 1) (map let_of lets)
lets_more lets i l e =
    ap (λ ls. ls ++ let_of l ∷ []) (sym (take-map let_of i lets)) ∙ sym (take_one (map let_of lets) i (let_of l) (let_read lets i l e))
    ∙ ap (λ n. take n (map let_of lets)) (let k : suc i ≡ i + 1 = omega arith in k)
