-- When a reader reads a spelling: what it answers is so, and it reads what is spelled. The laws by which readers are
-- put together.
use Rattle.std.proofs.Common.{◌≡◌, ℕ, zero, suc, ◌+◌, ◌-◌, ◌*◌, ◌/◌, ◌%◌, ◌<◌, ◌≤◌, Bool, true, false, List, [], ◌∷◌, ◌++◌, length, refl, sym, ap, subst, ◌∙◌, append_assoc, inl, inr, arith}
use Rattle.std.specs.Prelude.{nat_lt, min, if◌then◌else◌, ◌==◌}
use Rattle.std.proofs.lemmas.Bool.{ltb-true, ltb-false, lt-ltb, le-ltb, eqb-true, cases_lt}
use Rattle.std.proofs.lemmas.List.{nil_from_length}
use Rattle.std.specs.List.{flat_map, AllByRecursion}
use Rattle.std.proofs.lemmas.List.Concat.{flat_map-cons}
use Rattle.grail_code.specs.Spelling.{leb128, number, counted, AreCounted}
use Rattle.grail_code.specs.Reader.{Read, Done, More, Stop, then_read, map_read, pair_at, byte_at, tag_at, leb_at, times_at, counted_at}

-- some value's spelling begins with these bytes
pub record Begins {A : Type 0} (Fits : A → Type 0) (spell : A → List ℕ) (bytes : List ℕ) : Type 0 where
  pub value : A
  pub fits : Fits value
  pub rest : List ℕ
  pub is : spell value ≡ bytes ++ rest

-- no value's spelling, whatever follows it, begins with the good bytes and the bad one
pub record Stops {A : Type 0} (Fits : A → Type 0) (spell : A → List ℕ) (bytes : List ℕ) (left : ℕ) : Type 0 where
  pub good : List ℕ
  pub bad : ℕ
  pub after : List ℕ
  pub left_is : left ≡ suc (length after)
  pub parts : bytes ≡ good ++ (bad ∷ after)
  pub begins : Begins Fits spell good
  pub never : (x : A) (p q : List ℕ) → Fits x → spell x ++ p ≡ good ++ (bad ∷ q) → ⊥

abbrev pub Tells : {A : Type 0} → (A → Type 0) → (A → List ℕ) → List ℕ → Read A → Type 0
Tells Fits spell bytes (Done x rest) = Fits x × (bytes ≡ spell x ++ rest)
Tells Fits spell bytes More = Begins Fits spell bytes
Tells Fits spell bytes (Stop left) = Stops Fits spell bytes left

pub record Lawful {A : Type 0} (Fits : A → Type 0) (spell : A → List ℕ) (read : List ℕ → Read A) : Type 0 where
  pub tells : (bytes : List ℕ) → Tells Fits spell bytes (read bytes)
  pub again : (x : A) (rest : List ℕ) → Fits x → read (spell x ++ rest) ≡ Done x rest

-- ---- what the two laws give

abbrev value_of : {A : Type 0} → A → Read A → A
value_of x (Done y rest) = y
value_of x More = x
value_of x (Stop left) = x

abbrev rest_of : {A : Type 0} → Read A → List ℕ
rest_of (Done y rest) = rest
rest_of More = []
rest_of (Stop left) = []

pub record Same {A : Type 0} (x y : A) (p q : List ℕ) : Type 0 where
  pub value : x ≡ y
  pub rest : p ≡ q

pub one_way : {A : Type 0} (F : A → Type 0) (s : A → List ℕ) (r : List ℕ → Read A) → Lawful F s r → (x y : A) (p q : List ℕ) → F x → F y
    → s x ++ p ≡ s y ++ q → Same x y p q
one_way F s r law x y p q fx fy e =
    let both : Done x p ≡ Done y q = sym (law.again x p fx) ∙ ap r e ∙ law.again y q fy in
    record { value = ap (value_of x) both; rest = ap rest_of both }

pub some_value : {A : Type 0} (F : A → Type 0) (s : A → List ℕ) (bytes : List ℕ) (o : Read A) → Tells F s bytes o → (x : A) × F x
some_value F s bytes (Done x rest) h = (x, h.0)
some_value F s bytes More h = (h.value, h.fits)
some_value F s bytes (Stop left) h = (h.begins.value, h.begins.fits)

-- ---- one after the other: the first part of a value is read, and what follows depends on it

section_then : {A C : Type 0} (F : A → Type 0) (s : A → List ℕ) (r : List ℕ → Read A) (G : A → C → Type 0) (t : A → C → List ℕ) (get : C → A)
    → Lawful F s r → ((x : A) (c : C) → G x c → get c ≡ x) → (bytes : List ℕ) (x : A) (rest : List ℕ) → F x → bytes ≡ s x ++ rest
    → (o : Read C) → Tells (G x) (t x) rest o → Tells (λ c. F (get c) × G (get c) c) (λ c. s (get c) ++ t (get c) c) bytes o
section_then F s r G t get law gets bytes x rest fx e (Done c after) h =
    let k = sym (gets x c h.0) in
    let whole : bytes ≡ (s x ++ t x c) ++ after = e ∙ ap (λ w. s x ++ w) h.1 ∙ sym (append_assoc (s x) (t x c) after) in
    (subst (λ y. F y × G y c) k (fx, h.0), subst (λ y. bytes ≡ (s y ++ t y c) ++ after) k whole)
section_then F s r G t get law gets bytes x rest fx e More h =
    let k = sym (gets x h.value h.fits) in
    let whole : s x ++ t x h.value ≡ bytes ++ h.rest = ap (λ w. s x ++ w) h.is ∙ sym (append_assoc (s x) rest h.rest) ∙ ap (λ w. w ++ h.rest) (sym e) in
    record {
      value = h.value;
      fits = subst (λ y. F y × G y h.value) k (fx, h.fits);
      rest = h.rest;
      is = subst (λ y. s y ++ t y h.value ≡ bytes ++ h.rest) k whole;
    }
section_then F s r G t get law gets bytes x rest fx e (Stop left) h =
    let b = h.begins in
    let k = sym (gets x b.value b.fits) in
    let whole : s x ++ t x b.value ≡ (s x ++ h.good) ++ b.rest = ap (λ w. s x ++ w) b.is ∙ sym (append_assoc (s x) h.good b.rest) in
    record {
      good = s x ++ h.good;
      bad = h.bad;
      after = h.after;
      left_is = h.left_is;
      parts = e ∙ ap (λ w. s x ++ w) h.parts ∙ sym (append_assoc (s x) h.good (h.bad ∷ h.after));
      begins = record {
        value = b.value;
        fits = subst (λ y. F y × G y b.value) k (fx, b.fits);
        rest = b.rest;
        is = subst (λ y. s y ++ t y b.value ≡ (s x ++ h.good) ++ b.rest) k whole;
      };
      never = λ c p q fits d.
          let regrouped : s (get c) ++ (t (get c) c ++ p) ≡ s x ++ (h.good ++ (h.bad ∷ q)) = sym (append_assoc (s (get c)) (t (get c) c) p) ∙ d ∙ append_assoc (s x) h.good (h.bad ∷ q) in
          let one = one_way F s r law (get c) x (t (get c) c ++ p) (h.good ++ (h.bad ∷ q)) fits.0 fx regrouped in
          h.never c p q (subst (λ y. G y c) one.value fits.1) (subst (λ y. t y c ++ p ≡ h.good ++ (h.bad ∷ q)) one.value one.rest);
    }

begins_then : {A C : Type 0} (F : A → Type 0) (s : A → List ℕ) (G : A → C → Type 0) (t : A → C → List ℕ) (q : A → List ℕ → Read C) (get : C → A)
    → ((x : A) (c : C) → G x c → get c ≡ x) → ((x : A) → F x → Lawful (G x) (t x) (q x)) → (bytes : List ℕ) → Begins F s bytes
    → Begins (λ c. F (get c) × G (get c) c) (λ c. s (get c) ++ t (get c) c) bytes
begins_then F s G t q get gets laws bytes h =
    let other = some_value (G h.value) (t h.value) [] (q h.value []) ((laws h.value h.fits).tells []) in
    let c = other.0 in
    let k = sym (gets h.value c other.1) in
    let whole : s h.value ++ t h.value c ≡ bytes ++ (h.rest ++ t h.value c) = ap (λ w. w ++ t h.value c) h.is ∙ append_assoc bytes h.rest (t h.value c) in
    record {
      value = c;
      fits = subst (λ y. F y × G y c) k (h.fits, other.1);
      rest = h.rest ++ t h.value c;
      is = subst (λ y. s y ++ t y c ≡ bytes ++ (h.rest ++ t h.value c)) k whole;
    }

then_tells : {A C : Type 0} (F : A → Type 0) (s : A → List ℕ) (r : List ℕ → Read A) (G : A → C → Type 0) (t : A → C → List ℕ) (q : A → List ℕ → Read C) (get : C → A)
    → Lawful F s r → ((x : A) (c : C) → G x c → get c ≡ x) → ((x : A) → F x → Lawful (G x) (t x) (q x)) → (bytes : List ℕ) (o : Read A) → Tells F s bytes o
    → Tells (λ c. F (get c) × G (get c) c) (λ c. s (get c) ++ t (get c) c) bytes (then_read o q)
then_tells F s r G t q get law gets laws bytes (Done x rest) h = section_then F s r G t get law gets bytes x rest h.0 h.1 (q x rest) ((laws x h.0).tells rest)
then_tells F s r G t q get law gets laws bytes More h = begins_then F s G t q get gets laws bytes h
then_tells F s r G t q get law gets laws bytes (Stop left) h = record {
  good = h.good;
  bad = h.bad;
  after = h.after;
  left_is = h.left_is;
  parts = h.parts;
  begins = begins_then F s G t q get gets laws h.good h.begins;
  never = λ c p w fits d. h.never (get c) (t (get c) c ++ p) w fits.0 (sym (append_assoc (s (get c)) (t (get c) c) p) ∙ d);
}

pub bind : {A C : Type 0} (F : A → Type 0) (s : A → List ℕ) (r : List ℕ → Read A) (G : A → C → Type 0) (t : A → C → List ℕ) (q : A → List ℕ → Read C) (get : C → A)
    → Lawful F s r → ((x : A) (c : C) → G x c → get c ≡ x) → ((x : A) → F x → Lawful (G x) (t x) (q x))
    → Lawful (λ c. F (get c) × G (get c) c) (λ c. s (get c) ++ t (get c) c) (λ bytes. then_read (r bytes) q)
bind F s r G t q get law gets laws = record {
  tells = λ bytes. then_tells F s r G t q get law gets laws bytes (r bytes) (law.tells bytes);
  again = λ c rest fits.
      ap (λ w. then_read (r w) q) (append_assoc (s (get c)) (t (get c) c) rest)
      ∙ ap (λ o. then_read o q) (law.again (get c) (t (get c) c ++ rest) fits.0)
      ∙ (laws (get c) fits.0).again c rest fits.1;
}

-- ---- other words for what fits and how it is spelled

retold_tells : {A : Type 0} (F : A → Type 0) (s : A → List ℕ) (G : A → Type 0) (t : A → List ℕ) → ((x : A) → F x → G x) → ((x : A) → G x → F x)
    → ((x : A) → G x → s x ≡ t x)
    → (bytes : List ℕ) (o : Read A) → Tells F s bytes o → Tells G t bytes o
retold_tells F s G t to from spells bytes (Done x rest) h = (to x h.0, h.1 ∙ ap (λ w. w ++ rest) (spells x (to x h.0)))
retold_tells F s G t to from spells bytes More h = record { value = h.value; fits = to h.value h.fits; rest = h.rest; is = sym (spells h.value (to h.value h.fits)) ∙ h.is }
retold_tells F s G t to from spells bytes (Stop left) h =
    let b = h.begins in
    record {
      good = h.good;
      bad = h.bad;
      after = h.after;
      left_is = h.left_is;
      parts = h.parts;
      begins = record { value = b.value; fits = to b.value b.fits; rest = b.rest; is = sym (spells b.value (to b.value b.fits)) ∙ b.is };
      never = λ x p q fits d. h.never x p q (from x fits) (ap (λ w. w ++ p) (spells x fits) ∙ d);
    }

pub retold : {A : Type 0} (F : A → Type 0) (s : A → List ℕ) (r : List ℕ → Read A) (G : A → Type 0) (t : A → List ℕ) → ((x : A) → F x → G x)
    → ((x : A) → G x → F x) → ((x : A) → G x → s x ≡ t x)
    → Lawful F s r → Lawful G t r
retold F s r G t to from spells law = record {
  tells = λ bytes. retold_tells F s G t to from spells bytes (r bytes) (law.tells bytes);
  again = λ x rest fits. ap (λ w. r (w ++ rest)) (sym (spells x fits)) ∙ law.again x rest (from x fits);
}

-- ---- a value made of what was read: a record of its fields, or a case of its parts

-- what a value was made of
pub record Made {A C : Type 0} (F : A → Type 0) (con : A → C) (c : C) : Type 0 where
  pub value : A
  pub fits : F value
  pub is : con value ≡ c

made_tells : {A C : Type 0} (F : A → Type 0) (s : A → List ℕ) (H : C → Type 0) (t : C → List ℕ) (con : A → C)
    → ((x : A) → F x → H (con x)) → ((c : C) → H c → Made F con c) → ((x : A) → F x → s x ≡ t (con x))
    → (bytes : List ℕ) (o : Read A) → Tells F s bytes o → Tells H t bytes (map_read con o)
made_tells F s H t con to from spells bytes (Done x rest) h = (to x h.0, h.1 ∙ ap (λ w. w ++ rest) (spells x h.0))
made_tells F s H t con to from spells bytes More h = record { value = con h.value; fits = to h.value h.fits; rest = h.rest; is = sym (spells h.value h.fits) ∙ h.is }
made_tells F s H t con to from spells bytes (Stop left) h =
    let b = h.begins in
    record {
      good = h.good;
      bad = h.bad;
      after = h.after;
      left_is = h.left_is;
      parts = h.parts;
      begins = record { value = con b.value; fits = to b.value b.fits; rest = b.rest; is = sym (spells b.value b.fits) ∙ b.is };
      never = λ c p q fits d.
          let m = from c fits in
          h.never m.value p q m.fits (ap (λ w. w ++ p) (spells m.value m.fits ∙ ap t m.is) ∙ d);
    }

pub made : {A C : Type 0} (F : A → Type 0) (s : A → List ℕ) (r : List ℕ → Read A) (H : C → Type 0) (t : C → List ℕ) (con : A → C)
    → ((x : A) → F x → H (con x)) → ((c : C) → H c → Made F con c) → ((x : A) → F x → s x ≡ t (con x))
    → Lawful F s r → Lawful H t (λ bytes. map_read con (r bytes))
made F s r H t con to from spells law = record {
  tells = λ bytes. made_tells F s H t con to from spells bytes (r bytes) (law.tells bytes);
  again = λ c rest fits.
      let m = from c fits in
      ap (λ w. map_read con (r (w ++ rest))) (sym (spells m.value m.fits ∙ ap t m.is))
      ∙ ap (map_read con) (law.again m.value rest m.fits)
      ∙ ap (λ y. Done y rest) m.is;
}

-- ---- one and then the other

pub pair : {A B : Type 0} (F : A → Type 0) (s : A → List ℕ) (r : List ℕ → Read A) (G : B → Type 0) (t : B → List ℕ) (q : List ℕ → Read B)
    → Lawful F s r → Lawful G t q → Lawful (λ (p : A × B). F p.0 × G p.1) (λ p. s p.0 ++ t p.1) (pair_at r q)
pair {A} {B} F s r G t q law other =
    let after : (x : A) → F x → Lawful (λ (p : A × B). G p.1 × (p.0 ≡ x)) (λ p. t p.1) (λ rest. map_read (λ y. (x, y)) (q rest)) =
    λ x fx. made G t q (λ (p : A × B). G p.1 × (p.0 ≡ x)) (λ p. t p.1) (λ y. (x, y)) (λ y gy. (gy, refl)) (λ p h. record { value = p.1; fits = h.0; is = ap (λ (z : A). (z, p.1)) (sym h.1) }) (λ y gy. refl) other in
    retold _ _ _ (λ (p : A × B). F p.0 × G p.1) (λ p. s p.0 ++ t p.1) (λ p h. (h.0, h.1.0)) (λ p h. (h.0, (h.1, refl))) (λ p h. refl)
    (bind F s r (λ x p. G p.1 × (p.0 ≡ x)) (λ x p. t p.1) (λ x rest. map_read (λ y. (x, y)) (q rest)) (λ p. p.0) law (λ x p h. h.1) after)

-- ---- bytes

pub constant : {C : Type 0} (H : C → Type 0) (t : C → List ℕ) (c : C) → H c → ((x : C) → H x → c ≡ x) → t c ≡ [] → Lawful H t (λ bytes. Done c bytes)
constant H t c fits only empty = record {
  tells = λ bytes. (fits, ap (λ w. w ++ bytes) (sym empty));
  again = λ x rest h. ap (λ w. Done c (w ++ rest)) (ap t (sym (only x h)) ∙ empty) ∙ ap (λ y. Done y rest) (only x h);
}

byte_refused : (ok : ℕ → Bool) (b c : ℕ) (p q : List ℕ) → ok b ≡ false → ok c ≡ true → c ∷ p ≡ b ∷ q → ⊥
byte_refused ok b c p q bad good e = let k : c ≡ b = cc in let both : true ≡ false = sym good ∙ ap ok k ∙ bad in cc

byte_tells : (ok : ℕ → Bool) (witness : ℕ) → ok witness ≡ true → (b : ℕ) (rest : List ℕ) (v : Bool) → ok b ≡ v
    → Tells (λ b. ok b ≡ true) (λ b. b ∷ []) (b ∷ rest) (if v then Done b rest else Stop (suc (length rest)))
byte_tells ok witness good b rest true e = (e, refl)
byte_tells ok witness good b rest false e = record {
  good = [];
  bad = b;
  after = rest;
  left_is = refl;
  parts = refl;
  begins = record { value = witness; fits = good; rest = witness ∷ []; is = refl };
  never = λ c p q fits d. byte_refused ok b c p q e fits d;
}

pub byte_law : (ok : ℕ → Bool) (witness : ℕ) → ok witness ≡ true → Lawful (λ b. ok b ≡ true) (λ b. b ∷ []) (byte_at ok)
unfolding byte_at
byte_law ok witness good = record {
  tells = elim [
    | [] ↦ record { value = witness; fits = good; rest = witness ∷ []; is = refl }
    | b ∷ rest ↦ byte_tells ok witness good b rest (ok b) refl
  ];
  again = λ b rest h. ap (λ v. if v then Done b rest else Stop (suc (length rest))) h;
}

-- a reader that answers the same
pub same : {A : Type 0} (F : A → Type 0) (s : A → List ℕ) (r q : List ℕ → Read A) → ((bytes : List ℕ) → r bytes ≡ q bytes) → Lawful F s r → Lawful F s q
same F s r q e law = record {
  tells = λ bytes. subst (Tells F s bytes) (e bytes) (law.tells bytes);
  again = λ x rest h. sym (e (s x ++ rest)) ∙ law.again x rest h;
}

-- a byte that always stands first
eqb-same : (b : ℕ) → (b == b) ≡ true
eqb-same b = grind arith

pub headed : {A : Type 0} (F : A → Type 0) (s : A → List ℕ) (r : List ℕ → Read A) (b : ℕ) → Lawful F s r
    → Lawful F (λ x. b ∷ s x) (λ bytes. then_read (byte_at (λ c. c == b) bytes) (λ c rest. r rest))
headed {A} F s r b law =
    let behind_it : (c : ℕ) → (c == b) ≡ true → Lawful (λ x. F x × (b ≡ c)) s r = λ c h. retold F s r (λ x. F x × (b ≡ c)) s (λ x k. (k, sym (eqb-true c b h))) (λ x k. k.0) (λ x k. refl) law in
    retold _ _ _ F (λ x. b ∷ s x) (λ x h. h.1.0) (λ x h. (eqb-same b, (h, refl))) (λ x h. refl)
    (bind (λ c. (c == b) ≡ true) (λ c. c ∷ []) (byte_at (λ c. c == b)) (λ c x. F x × (b ≡ c)) (λ c x. s x) (λ c rest. r rest) (λ x. b) (byte_law (λ c. c == b) b (eqb-same b)) (λ c x h. h.1) behind_it)

-- ---- a tag, and what follows it

pub tagged_within : {C : Type 0} (Fits : C → Type 0) (spell tail : C → List ℕ) (tag : C → ℕ) (limit : ℕ) (rest : ℕ → List ℕ → Read C)
    → 0 < limit → ((c : C) → Fits c → tag c < limit) → ((c : C) → spell c ≡ tag c ∷ tail c)
    → ((n : ℕ) → n < limit → Lawful (λ c. Fits c × (tag c ≡ n)) tail (rest n))
    → Lawful Fits spell (λ bytes. then_read (tag_at limit bytes) rest)
unfolding tag_at
tagged_within Fits spell tail tag limit rest positive small spells laws =
    retold _ _ _ Fits spell (λ c h. h.1.0) (λ c h. (lt-ltb (tag c) limit (small c h), (h, refl))) (λ c h. sym (spells c))
    (bind (λ b. nat_lt b limit ≡ true) (λ b. b ∷ []) (byte_at (λ b. nat_lt b limit)) (λ n c. Fits c × (tag c ≡ n)) (λ n c. tail c) rest tag
    (byte_law (λ b. nat_lt b limit) 0 (lt-ltb 0 limit positive)) (λ n c h. h.1) (λ n h. laws n (ltb-true n limit h)))

pub tagged : {C : Type 0} (Fits : C → Type 0) (spell tail : C → List ℕ) (tag : C → ℕ) (limit : ℕ) (rest : ℕ → List ℕ → Read C)
    → 0 < limit → ((c : C) → tag c < limit) → ((c : C) → spell c ≡ tag c ∷ tail c)
    → ((n : ℕ) → n < limit → Lawful (λ c. Fits c × (tag c ≡ n)) tail (rest n))
    → Lawful Fits spell (λ bytes. then_read (tag_at limit bytes) rest)
tagged Fits spell tail tag limit rest positive small spells laws = tagged_within Fits spell tail tag limit rest positive (λ c h. small c) spells laws

pub tag_law : (limit : ℕ) → 0 < limit → Lawful (λ n. n < limit) (λ n. n ∷ []) (tag_at limit)
unfolding tag_at
tag_law limit positive = retold _ _ _ (λ n. n < limit) (λ n. n ∷ []) (λ n h. ltb-true n limit h) (λ n h. lt-ltb n limit h) (λ n h. refl) (byte_law (λ b. nat_lt b limit) 0 (lt-ltb 0 limit positive))

-- ---- things in a row

abbrev pub InRow : {A : Type 0} → (A → Type 0) → ℕ → List A → Type 0
InRow F n xs = (length xs ≡ n) × AllByRecursion F xs

row_from : {A : Type 0} (F : A → Type 0) (n : ℕ) (xs : List A) → InRow F (suc n) xs → Made (λ (p : A × List A). F p.0 × InRow F n p.1) (λ p. p.0 ∷ p.1) xs
row_from F n [] h = absurd (omega (arith, h.0))
row_from F n (x ∷ xs) h = record { value = (x, xs); fits = (h.1.0, (omega (arith, h.0), h.1.1)); is = refl }

pub row_law : {A : Type 0} (F : A → Type 0) (s : A → List ℕ) (r : List ℕ → Read A) → Lawful F s r → (n : ℕ)
    → Lawful (InRow F n) (λ xs. flat_map s xs) (times_at r n)
unfolding times_at
row_law F s r law zero = constant (InRow F 0) (λ xs. flat_map s xs) [] (refl, tt) (λ xs h. sym (nil_from_length xs h.0)) refl
row_law {A} F s r law (suc n) =
    made (λ (p : A × List A). F p.0 × InRow F n p.1) (λ p. s p.0 ++ flat_map s p.1) (pair_at r (times_at r n)) (InRow F (suc n)) (λ xs. flat_map s xs) (λ p. p.0 ∷ p.1)
    (λ p h. (ap suc h.1.0, (h.0, h.1.1))) (row_from F n) (λ p h. sym (flat_map-cons s p.0 p.1))
    (pair F s r (InRow F n) (λ xs. flat_map s xs) (times_at r n) law (row_law F s r law n))

-- ---- numbers

-- the first byte of a number, and what of the number stands behind it
abbrev head : ℕ → ℕ
head n = if nat_lt n 128 then n else (128 + n % 128)

abbrev can_begin : ℕ → ℕ → ℕ → Bool
can_begin least most b = if nat_lt (min most 255) b then false else if nat_lt b 128 then (if nat_lt b least then false else true) else true

abbrev Behind : ℕ → Bool → ℕ → ℕ → Type 0
Behind most true b n = n ≡ b
Behind most false b n = (128 ≤ n) × (n ≤ most) × (128 + n % 128 ≡ b)

abbrev behind : ℕ → Bool → ℕ → List ℕ
behind more true n = []
behind more false n = leb128 more (n / 128)

abbrev behind_at : ℕ → ℕ → Bool → ℕ → List ℕ → Read ℕ
behind_at more most true b rest = Done b rest
behind_at more most false b rest = map_read (λ high. b - 128 + 128 * high) (leb_at more 1 ((most - (b - 128)) / 128) rest)

pub record CanBegin (least most b : ℕ) : Type 0 where
  pub below : b ≤ most
  pub byte : b ≤ 255
  pub enough : b < 128 → least ≤ b

can_begin_gives : (least most b : ℕ) (v1 v2 v3 : Bool) → nat_lt (min most 255) b ≡ v1 → nat_lt b 128 ≡ v2 → nat_lt b least ≡ v3
    → (if v1 then false else if v2 then (if v3 then false else true) else true) ≡ true → CanBegin least most b
can_begin_gives least most b true v2 v3 e1 e2 e3 h = absurd cc
can_begin_gives least most b false true true e1 e2 e3 h = absurd cc
can_begin_gives least most b false true false e1 e2 e3 h = let k = ltb-false (min most 255) b e1 in let m = ltb-false b least e3 in record { below = omega arith; byte = omega arith; enough = λ lt. m }
can_begin_gives least most b false false v3 e1 e2 e3 h = let k = ltb-false (min most 255) b e1 in let m = ltb-false b 128 e2 in record { below = omega arith; byte = omega arith; enough = λ lt. absurd (omega arith) }

begins_when : (least most b : ℕ) → CanBegin least most b → can_begin least most b ≡ true
begins_when least most b h = let k : nat_lt (min most 255) b ≡ false = le-ltb _ _ (let p = h.below in let q = h.byte in omega arith) in
    elim (cases_lt b 128) [
      | inl lt ↦ rw (k, lt-ltb b 128 lt, le-ltb b least (h.enough lt)) refl
      | inr le ↦ rw (k, le-ltb b 128 le) refl
    ]

-- the number behind a first byte
behind_law : (more least most b : ℕ) → least ≤ 1 → CanBegin least most b
    → ((l m : ℕ) → l ≤ 1 → l ≤ m → Lawful (λ n. (l ≤ n) × (n ≤ m)) (leb128 more) (leb_at more l m))
    → (v : Bool) → nat_lt b 128 ≡ v → Lawful (Behind most v b) (behind more v) (behind_at more most v b)
behind_law more least most b small h ih true e = constant (λ n. n ≡ b) (λ n. []) b refl (λ n k. sym k) refl
behind_law more least most b small h ih false e =
    let le = ltb-false b 128 e in
    let p = h.below in
    let q = h.byte in
    made (λ n. (1 ≤ n) × (n ≤ (most - (b - 128)) / 128)) (leb128 more) (leb_at more 1 ((most - (b - 128)) / 128)) (Behind most false b) (behind more false) (λ high. b - 128 + 128 * high)
    (λ n k. let k0 = k.0 in let k1 = k.1 in (omega arith, omega arith, omega arith))
    (λ n k. let k0 = k.0 in let k1 = k.1 in let k2 = k.2 in record { value = n / 128; fits = (omega arith, omega arith); is = omega arith })
    (λ n k. ap (leb128 more) (omega arith))
    (ih 1 ((most - (b - 128)) / 128) (omega arith) (omega arith))

-- the head of a number can begin one
head_fits : (least most n : ℕ) → least ≤ 1 → least ≤ n → n ≤ most → CanBegin least most (head n)
head_fits least most n small low high = elim (cases_lt n 128) [
  | inl lt ↦ rw (lt-ltb n 128 lt) (record { below = high; byte = omega arith; enough = λ k. low })
  | inr le ↦ rw (le-ltb n 128 le) (record { below = omega arith; byte = omega arith; enough = λ k. absurd (omega arith) })
]

head_is : (most b n : ℕ) (v : Bool) → nat_lt b 128 ≡ v → Behind most v b n → head n ≡ b
head_is most b n true e h = let k : n < 128 = rw h (ltb-true b 128 e) in rw (lt-ltb n 128 k) h
head_is most b n false e h = rw (le-ltb n 128 h.0) h.2

behind_fits : (most n : ℕ) → n ≤ most → Behind most (nat_lt (head n) 128) (head n) n
behind_fits most n high = elim (cases_lt n 128) as (λ k. Behind most (nat_lt (head n) 128) (head n) n) [
  | inl lt ↦ rw (lt-ltb n 128 lt, lt-ltb n 128 lt) refl
  | inr le ↦ rw (le-ltb n 128 le, le-ltb (128 + n % 128) 128 (omega arith)) (le, high, refl)
]

number_within : (least most b n : ℕ) (v : Bool) → least ≤ 1 → nat_lt b 128 ≡ v → CanBegin least most b → Behind most v b n → (least ≤ n) × (n ≤ most)
number_within least most b n true small e h k = let lt = ltb-true b 128 e in rw k (h.enough lt, h.below)
number_within least most b n false small e h k = let k0 = k.0 in let k1 = k.1 in (omega arith, k1)

spelled_so : (more n : ℕ) → (head n ∷ []) ++ behind more (nat_lt (head n) 128) n ≡ leb128 (suc more) n
spelled_so more n = elim (cases_lt n 128) as (λ k. (head n ∷ []) ++ behind more (nat_lt (head n) 128) n ≡ leb128 (suc more) n) [
  | inl lt ↦ rw (lt-ltb n 128 lt, lt-ltb n 128 lt) refl
  | inr le ↦ rw (le-ltb n 128 le, le-ltb (128 + n % 128) 128 (omega arith)) refl
]

-- the tests in the order of the code
in_order : (more least most b : ℕ) (rest : List ℕ) (v1 v2 v3 : Bool) → nat_lt (min most 255) b ≡ v1 → nat_lt b 128 ≡ v2 → nat_lt b least ≡ v3
    → then_read (if can_begin least most b then Done b rest else Stop (suc (length rest))) (λ b rest. behind_at more most (nat_lt b 128) b rest) ≡ leb_at (suc more) least most (b ∷ rest)
unfolding leb_at
in_order more least most b rest true v2 v3 e1 e2 e3 = rw (e1) refl
in_order more least most b rest false true true e1 e2 e3 = rw (e1, e2, e3) refl
in_order more least most b rest false true false e1 e2 e3 = rw (e1, e2, e3) (rw e2 refl)
in_order more least most b rest false false v3 e1 e2 e3 = rw (e1, e2) (rw e2 refl)

same_number : (more least most : ℕ) (bytes : List ℕ)
    → then_read (byte_at (can_begin least most) bytes) (λ b rest. behind_at more most (nat_lt b 128) b rest) ≡ leb_at (suc more) least most bytes
unfolding byte_at leb_at
same_number more least most [] = refl
same_number more least most (b ∷ rest) = in_order more least most b rest (nat_lt (min most 255) b) (nat_lt b 128) (nat_lt b least) refl refl refl

same_last : (least most : ℕ) (bytes : List ℕ)
    → byte_at (λ b. if nat_lt most b then false else if nat_lt b least then false else true) bytes ≡ leb_at 0 least most bytes
unfolding byte_at leb_at
same_last least most [] = refl
same_last least most (b ∷ rest) = elim (nat_lt most b) as (λ v. (if (if v then false else if nat_lt b least then false else true) then Done b rest else Stop (suc (length rest))) ≡ (if v then Stop (suc (length rest)) else if nat_lt b least then Stop (suc (length rest)) else Done b rest)) [
  | true ↦ refl
  | false ↦ elim (nat_lt b least) as (λ v. (if (if v then false else true) then Done b rest else Stop (suc (length rest))) ≡ (if v then Stop (suc (length rest)) else Done b rest)) [ true ↦ refl | false ↦ refl ]
]

last_within : (least most n : ℕ) (v1 v2 : Bool) → nat_lt most n ≡ v1 → nat_lt n least ≡ v2
    → (if v1 then false else if v2 then false else true) ≡ true → (least ≤ n) × (n ≤ most)
last_within least most n true v2 e1 e2 h = absurd cc
last_within least most n false true e1 e2 h = absurd cc
last_within least most n false false e1 e2 h = (ltb-false n least e2, ltb-false most n e1)

last_fits : (least most n : ℕ) → least ≤ n → n ≤ most → (if nat_lt most n then false else if nat_lt n least then false else true) ≡ true
last_fits least most n low high = rw (le-ltb most n high, le-ltb n least low) refl

-- a number within its limits, in as many bytes as may be
pub leb_law : (more least most : ℕ) → least ≤ 1 → least ≤ most → Lawful (λ n. (least ≤ n) × (n ≤ most)) (leb128 more) (leb_at more least most)
leb_law zero least most small some =
    let ok : ℕ → Bool = λ b. if nat_lt most b then false else if nat_lt b least then false else true in
    same (λ n. (least ≤ n) × (n ≤ most)) (leb128 0) (byte_at ok) (leb_at 0 least most) (same_last least most)
    (retold _ _ _ (λ n. (least ≤ n) × (n ≤ most)) (leb128 0) (λ n h. last_within least most n (nat_lt most n) (nat_lt n least) refl refl h) (λ n h. last_fits least most n h.0 h.1) (λ n h. refl)
    (byte_law ok least (last_fits least most least (omega arith) some)))
leb_law (suc more) least most small some =
    let ih : (l m : ℕ) → l ≤ 1 → l ≤ m → Lawful (λ n. (l ≤ n) × (n ≤ m)) (leb128 more) (leb_at more l m) = leb_law more in
    let gives : (b : ℕ) → can_begin least most b ≡ true → CanBegin least most b = λ b h. can_begin_gives least most b (nat_lt (min most 255) b) (nat_lt b 128) (nat_lt b least) refl refl refl h in
    same (λ n. (least ≤ n) × (n ≤ most)) (leb128 (suc more)) (λ bytes. then_read (byte_at (can_begin least most) bytes) (λ b rest. behind_at more most (nat_lt b 128) b rest)) (leb_at (suc more) least most) (same_number more least most)
    (retold _ _ _ (λ n. (least ≤ n) × (n ≤ most)) (leb128 (suc more))
    (λ n h. number_within least most (head n) n (nat_lt (head n) 128) small refl (gives (head n) h.0) h.1)
    (λ n h. (begins_when least most (head n) (head_fits least most n small h.0 h.1), behind_fits most n h.1))
    (λ n h. spelled_so more n)
    (bind (λ b. can_begin least most b ≡ true) (λ b. b ∷ []) (byte_at (can_begin least most)) (λ b n. Behind most (nat_lt b 128) b n) (λ b n. behind more (nat_lt b 128) n) (λ b rest. behind_at more most (nat_lt b 128) b rest) head
    (byte_law (can_begin least most) (head least) (begins_when least most (head least) (head_fits least most least small (omega arith) some)))
    (λ b n h. head_is most b n (nat_lt b 128) refl h)
    (λ b h. behind_law more least most b small (gives b h) ih (nat_lt b 128) refl)))

pub number_law : (least most : ℕ) → least ≤ 1 → least ≤ most → Lawful (λ n. (least ≤ n) × (n ≤ most)) number (leb_at 4 least most)
unfolding number
number_law least most small some = leb_law 4 least most small some

-- ---- a count, and so many things

pub counted_law : {A : Type 0} (F : A → Type 0) (s : A → List ℕ) (r : List ℕ → Read A) (least most : ℕ) → least ≤ 1 → least ≤ most → Lawful F s r
    → Lawful (AreCounted F least most) (counted s) (counted_at r least most)
unfolding counted_at
counted_law {A} F s r least most small some law =
    retold _ _ _ (AreCounted F least most) (counted s) (λ xs h. record { enough = h.0.0; few = h.0.1; each = h.1.1 }) (λ xs h. ((h.enough, h.few), (refl, h.each))) (λ xs h. refl)
    (bind (λ n. (least ≤ n) × (n ≤ most)) number (leb_at 4 least most) (λ n xs. InRow F n xs) (λ n xs. flat_map s xs) (λ n rest. times_at r n rest) length
    (number_law least most small some) (λ n xs h. h.0) (λ n h. row_law F s r law n))
