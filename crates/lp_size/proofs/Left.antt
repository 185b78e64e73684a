-- What is left in a block: where it begins with the function's need and takes nothing, or just calls its own function
-- once, it's told whole; and else by an unknown that no check of what is left takes away.
use Rattle.std.proofs.Common.{◌≡◌, ℕ, zero, suc, ◌+◌, ◌<◌, ◌≤◌, Bool, true, false, ℤ, pos, negsuc, ◌+ℤ◌, List, [], ◌∷◌, IsTrue, refl, sym, ap, ◌∙◌, subst, arith}
use Rattle.std.specs.Prelude.{◌-ℤ◌, ◌==◌, if◌then◌else◌}
use Rattle.std.proofs.lemmas.Bool.Decides.{nat_tests}
use Rattle.std.proofs.lemmas.Int.{ints}
use Rattle.grail_blocks.specs.declared.blocks.Place.{Place}
use Rattle.grail_blocks.specs.declared.blocks.Place.TheVariants as place
use Rattle.licence.specs.Rules.{build_cost}
use Rattle.licence.specs.Checks.{Site, left_check}
use Rattle.lp_system.specs.Unknowns.{Unknown, Need, Back, BlockNeed, Made, is_listed}
use Rattle.lp_system.specs.Forms.{Form, forms, once, one_cell, is_zero}
use Rattle.lp_size.specs.declared.taken.Taken.{Taken}
use Rattle.lp_size.specs.declared.taken.Taken.TheVariants as taken
use Rattle.lp_size.specs.Counting.{taken_behind_call, need_rows, back_rows}
use Rattle.lp_size.proofs.Asking.{kept, row_by, no_row, once_itself, once_other}
use Rattle.lp_size.proofs.Tests.{are_equal, not_equal}

-- ---- what is left before the let at this place

pub record IsLeft (func block at : ℕ) (left : Form) : Type 0 where
  pub made : (n c : ℕ) → at ≤ n → left.factor (Made func block n c) ≡ pos 0
  pub need : (to : ℕ) → block < to → left.factor (BlockNeed func to) ≡ pos 0
  pub back : (g : ℕ) → (n : ℕ) × (left.factor (Back g) ≡ pos n)

-- just this unknown
pub record IsJust (left : Form) (u : Unknown) : Type 0 where
  pub factor : (v : Unknown) → left.factor v ≡ (once u).factor v
  pub constant : left.constant ≡ pos 0

-- something that stays: what a build took, what a block needs, or what calls give back besides one of the function
-- itself
pub data Beyond (us : List Unknown) (func : ℕ) (left : Form) : Type 0 where
  ByBuild : (b n c : ℕ) → IsTrue (is_listed us (Made func b n c)) → left.factor (Made func b n c) ≡ negsuc 0 → Beyond us func left
  ByNeed : (b : ℕ) → IsTrue (is_listed us (BlockNeed func b)) → left.factor (BlockNeed func b) ≡ pos 1 → Beyond us func left
  ByBack : (g n : ℕ) → IsTrue (is_listed us (Back g)) → left.factor (Back g) ≡ pos (suc n) → (func ≡ g → 1 ≤ n) → Beyond us func left

abbrev pub IsTaken : List Unknown → ℕ → Taken → Form → Type 0
IsTaken us func taken.Nothing left = IsJust left (Need func)
IsTaken us func taken.OwnCall left = IsJust left (Back func)
IsTaken us func taken.More left = Beyond us func left

-- ---- whole numbers

stays : (a x y z : ℤ) → x ≡ pos 0 → y ≡ pos 0 → a ≡ z → (a -ℤ x) +ℤ y ≡ z
stays a x y z e d h = omega (arith, ints, e, d, h)

stays_less : (a x z : ℤ) → x ≡ pos 0 → a ≡ z → a -ℤ x ≡ z
stays_less a x z e h = omega (arith, ints, e, h)

one_less : (a x : ℤ) → a ≡ pos 0 → x ≡ pos 1 → a -ℤ x ≡ negsuc 0
one_less a x h e = omega (arith, ints, h, e)

-- ---- telling unknowns apart

abbrev number_of : Unknown → ℕ
number_of (Need f) = f
number_of (Back f) = f
number_of u = 0

other_need : (g h : ℕ) → (g ≡ h → ⊥) → (once (Need g)).factor (Need h) ≡ pos 0
other_need g h n = once_other (Need g) (Need h) (λ q. n (ap number_of q))

other_back : (g h : ℕ) → (g ≡ h → ⊥) → (once (Back g)).factor (Back h) ≡ pos 0
other_back g h n = once_other (Back g) (Back h) (λ q. n (ap number_of q))

abbrev place_in : Unknown → ℕ
place_in (Made f b m d) = m
place_in v = 0

-- ---- behind a call

abbrev pub behind_call : Form → ℕ → Form
behind_call left g = forms.plus (forms.minus left (once (Need g))) (once (Back g))

-- what a call gives back of one unknown
given : (g h : ℕ) → (n : ℕ) × ((once (Back g)).factor (Back h) ≡ pos n)
given g h = by_test (g == h) refl
  where
    by_test : (t : Bool) → (g == h) ≡ t → (n : ℕ) × ((once (Back g)).factor (Back h) ≡ pos n)
    by_test true e = let q : g ≡ h = grind (arith, nat_tests, e) in (1, subst (λ k. (once (Back g)).factor (Back k) ≡ pos 1) q (once_itself (Back g)))
    by_test false e = (0, other_back g h (not_equal g h e))

pub left_call : (func block at g : ℕ) (left : Form) → IsLeft func block at left → IsLeft func block (suc at) (behind_call left g)
left_call func block at g left l = record {
  made = λ n c k. stays (left.factor (Made func block n c)) ((once (Need g)).factor (Made func block n c)) ((once (Back g)).factor (Made func block n c)) (pos 0) refl refl (l.made n c (omega (arith, k)));
  need = λ to k. stays (left.factor (BlockNeed func to)) ((once (Need g)).factor (BlockNeed func to)) ((once (Back g)).factor (BlockNeed func to)) (pos 0) refl refl (l.need to k);
  back = λ h. (let b = l.back h in let o = given g h in (b.0 + o.0, sums (left.factor (Back h)) ((once (Need g)).factor (Back h)) ((once (Back g)).factor (Back h)) b.0 o.0 refl b.1 o.1));
}
  where
    sums : (a x y : ℤ) (m n : ℕ) → x ≡ pos 0 → a ≡ pos m → y ≡ pos n → (a -ℤ x) +ℤ y ≡ pos (m + n)
    sums a x y m n e h k = omega (arith, ints, e, h, k)

beyond_call : (us : List Unknown) (func g : ℕ) (left : Form) → Beyond us func left → Beyond us func (behind_call left g)
beyond_call us func g left (ByBuild b n c h e) = ByBuild b n c h (stays (left.factor (Made func b n c)) ((once (Need g)).factor (Made func b n c)) ((once (Back g)).factor (Made func b n c)) (negsuc 0) refl refl e)
beyond_call us func g left (ByNeed b h e) = ByNeed b h (stays (left.factor (BlockNeed func b)) ((once (Need g)).factor (BlockNeed func b)) ((once (Back g)).factor (BlockNeed func b)) (pos 1) refl refl e)
beyond_call us func g left (ByBack k n h e few) = let o = given g k in
    ByBack k (n + o.0) h (sums (left.factor (Back k)) ((once (Need g)).factor (Back k)) ((once (Back g)).factor (Back k)) n o.0 refl e o.1) (λ q. omega (arith, few q))
  where
    sums : (a x y : ℤ) (m n : ℕ) → x ≡ pos 0 → a ≡ pos (suc m) → y ≡ pos n → (a -ℤ x) +ℤ y ≡ pos (suc (m + n))
    sums a x y m n e h k = omega (arith, ints, e, h, k)

-- one more is given back of a function that nothing was given back of
first_back : (us : List Unknown) (func g : ℕ) (left : Form) (n : ℕ) → IsTrue (is_listed us (Back g)) → left.factor (Back g) ≡ pos n
    → (func ≡ g → 1 ≤ n) → Beyond us func (behind_call left g)
first_back us func g left n h e few = ByBack g n h (one_more (left.factor (Back g)) ((once (Need g)).factor (Back g)) ((once (Back g)).factor (Back g)) n refl e (once_itself (Back g))) few
  where
    one_more : (a x y : ℤ) (n : ℕ) → x ≡ pos 0 → a ≡ pos n → y ≡ pos 1 → (a -ℤ x) +ℤ y ≡ pos (suc n)
    one_more a x y n e h k = omega (arith, ints, e, h, k)

pub taken_call : (us : List Unknown) (func g : ℕ) (t : Taken) (left : Form) → IsTrue (is_listed us (Back g)) → IsTaken us func t left
    → IsTaken us func (taken_behind_call func t g) (behind_call left g)
taken_call us func g taken.Nothing left h k = by_test (g == func) refl
  where
    own : g ≡ func → IsJust (behind_call left g) (Back func)
    own q = record {
      factor = λ v. (let e : left.factor v ≡ (once (Need g)).factor v = k.factor v ∙ ap (λ f. (once (Need f)).factor v) (sym q) in
          let d : (once (Back g)).factor v ≡ (once (Back func)).factor v = ap (λ f. (once (Back f)).factor v) q in
          cancels (left.factor v) ((once (Need g)).factor v) ((once (Back g)).factor v) ((once (Back func)).factor v) e d);
      constant = stays left.constant (pos 0) (pos 0) (pos 0) refl refl k.constant;
    }
      where
        cancels : (a x y z : ℤ) → a ≡ x → y ≡ z → (a -ℤ x) +ℤ y ≡ z
        cancels a x y z e d = omega (arith, ints, e, d)

    by_test : (b : Bool) → (g == func) ≡ b → IsTaken us func (if b then taken.OwnCall else taken.More) (behind_call left g)
    by_test true e = own (are_equal g func e)
    by_test false e = first_back us func g left 0 h (k.factor (Back g)) (λ q. absurd (not_equal g func e (sym q)))
taken_call us func g taken.OwnCall left h k = by_test (func == g) refl
  where
    by_test : (b : Bool) → (func == g) ≡ b → Beyond us func (behind_call left g)
    by_test true e = first_back us func g left 1 h (k.factor (Back g) ∙ ap (λ f. (once (Back f)).factor (Back g)) (are_equal func g e) ∙ once_itself (Back g)) (λ q. omega arith)
    by_test false e = first_back us func g left 0 h (k.factor (Back g) ∙ other_back func g (not_equal func g e)) (λ q. absurd (not_equal func g e q))
taken_call us func g taken.More left h k = beyond_call us func g left k

-- ---- behind a build

cost_factor : (at : Place) (u v : Unknown) → (build_cost forms one_cell at (once u)).factor v ≡ (once u).factor v
cost_factor place.New u v = plus_none ((once u).factor v)
  where
    plus_none : (a : ℤ) → a +ℤ pos 0 ≡ a
    plus_none a = omega (arith, ints)
cost_factor place.Inline u v = refl
cost_factor (place.Reuse d) u v = refl

abbrev pub behind_build : Form → Place → Unknown → Form
behind_build left at u = forms.minus left (build_cost forms one_cell at (once u))

pub left_build : (func block n c : ℕ) (at : Place) (left : Form) → IsLeft func block n left
    → IsLeft func block (suc n) (behind_build left at (Made func block n c))
left_build func block n c at left l = record {
  made = λ m d k. stays_less (left.factor (Made func block m d)) ((build_cost forms one_cell at (once u)).factor (Made func block m d)) (pos 0) (cost_factor at u (Made func block m d) ∙ once_other u (Made func block m d) (λ q. later m k (ap place_in q))) (l.made m d (omega (arith, k)));
  need = λ to k. stays_less (left.factor (BlockNeed func to)) ((build_cost forms one_cell at (once u)).factor (BlockNeed func to)) (pos 0) (cost_factor at u (BlockNeed func to)) (l.need to k);
  back = λ g. (let b = l.back g in (b.0, stays_less (left.factor (Back g)) ((build_cost forms one_cell at (once u)).factor (Back g)) (pos b.0) (cost_factor at u (Back g)) b.1));
}
  where
    u : Unknown
    u = Made func block n c

    later : (m : ℕ) → suc n ≤ m → n ≡ m → ⊥
    later m k q = absurd (omega (arith, k, q))

pub taken_build : (us : List Unknown) (func block n c : ℕ) (at : Place) (left : Form) → IsTrue (is_listed us (Made func block n c))
    → IsLeft func block n left → Beyond us func (behind_build left at (Made func block n c))
taken_build us func block n c at left h l =
    ByBuild block n c h (one_less (left.factor (Made func block n c)) ((build_cost forms one_cell at (once (Made func block n c))).factor (Made func block n c)) (l.made n c (omega arith)) (cost_factor at (Made func block n c) (Made func block n c) ∙ once_itself (Made func block n c)))

-- ---- checks of what is left

module _ (us : List Unknown) (s : Site) where
  -- what is asked isn't there
  absent : (left need : Form) (u : Unknown) → IsTrue (is_listed us u) → left.factor u ≡ pos 0 → need.factor u ≡ pos 1
      → kept us (left_check s left need ∷ []) ≡ 1
  absent left need u h e d = row_by us (left_check s left need) u h (ap is_zero (one_less (left.factor u) (need.factor u) e d))

  pub build_kept : (func block n c : ℕ) (at : Place) (left : Form) → IsTrue (is_listed us (Made func block n c)) → IsLeft func block n left
      → kept us (left_check s left (build_cost forms one_cell at (once (Made func block n c))) ∷ []) ≡ 1
  build_kept func block n c at left h l =
      absent left (build_cost forms one_cell at (once (Made func block n c))) (Made func block n c) h (l.made n c (omega arith)) (cost_factor at (Made func block n c) (Made func block n c) ∙ once_itself (Made func block n c))

  pub jump_kept : (func to : ℕ) (left : Form) → IsTrue (is_listed us (BlockNeed func to)) → left.factor (BlockNeed func to) ≡ pos 0
      → kept us (left_check s left (once (BlockNeed func to)) ∷ []) ≡ 1
  jump_kept func to left h e = absent left (once (BlockNeed func to)) (BlockNeed func to) h e (once_itself (BlockNeed func to))

  -- an unknown that isn't asked
  present : (left need : Form) (u : Unknown) (z : ℤ) → IsTrue (is_listed us u) → left.factor u ≡ z → need.factor u ≡ pos 0 → is_zero z ≡ false
      → kept us (left_check s left need ∷ []) ≡ 1
  present left need u z h e d k = row_by us (left_check s left need) u h (ap is_zero (stays_less (left.factor u) (need.factor u) z d e) ∙ k)

  just_kept : (left : Form) (u : Unknown) → IsJust left u → kept us (left_check s left (once u) ∷ []) ≡ 0
  just_kept left u k = no_row us (left_check s left (once u)) k.factor k.constant

  pub need_kept : (func g : ℕ) (t : Taken) (left : Form) → IsTrue (is_listed us (Need g)) → IsTaken us func t left
      → kept us (left_check s left (once (Need g)) ∷ []) ≡ need_rows func t g
  need_kept func g taken.Nothing left h k = by_test (g == func) refl
    where
      by_test : (b : Bool) → (g == func) ≡ b → kept us (left_check s left (once (Need g)) ∷ []) ≡ (if b then 0 else 1)
      by_test true e = subst (λ f. kept us (left_check s left (once (Need f)) ∷ []) ≡ 0) (sym (are_equal g func e)) (just_kept left (Need func) k)
      by_test false e = absent left (once (Need g)) (Need g) h (k.factor (Need g) ∙ other_need func g (λ q. not_equal g func e (sym q))) (once_itself (Need g))
  need_kept func g taken.OwnCall left h k = absent left (once (Need g)) (Need g) h (k.factor (Need g)) (once_itself (Need g))
  need_kept func g taken.More left h (ByBuild b n c i e) = present left (once (Need g)) (Made func b n c) (negsuc 0) i e refl refl
  need_kept func g taken.More left h (ByNeed b i e) = present left (once (Need g)) (BlockNeed func b) (pos 1) i e refl refl
  need_kept func g taken.More left h (ByBack o n i e few) = present left (once (Need g)) (Back o) (pos (suc n)) i e refl refl

  pub back_kept : (func : ℕ) (t : Taken) (left : Form) → IsTrue (is_listed us (Need func)) → IsTaken us func t left
      → kept us (left_check s left (once (Back func)) ∷ []) ≡ back_rows t
  back_kept func taken.Nothing left h k = present left (once (Back func)) (Need func) (pos 1) h (k.factor (Need func) ∙ once_itself (Need func)) refl refl
  back_kept func taken.OwnCall left h k = just_kept left (Back func) k
  back_kept func taken.More left h (ByBuild b n c i e) = present left (once (Back func)) (Made func b n c) (negsuc 0) i e refl refl
  back_kept func taken.More left h (ByNeed b i e) = present left (once (Back func)) (BlockNeed func b) (pos 1) i e refl refl
  back_kept func taken.More left h (ByBack g n i e few) = by_test (func == g) refl
    where
      by_more : (n : ℕ) → 1 ≤ n → left.factor (Back g) ≡ pos (suc n) → (once (Back func)).factor (Back g) ≡ pos 1
          → is_zero (left.factor (Back g) -ℤ (once (Back func)).factor (Back g)) ≡ false
      by_more zero l e d = absurd (omega (arith, l))
      by_more (suc m) l e d = ap is_zero (less (left.factor (Back g)) ((once (Back func)).factor (Back g)) m e d)
        where
          less : (a x : ℤ) (m : ℕ) → a ≡ pos (suc (suc m)) → x ≡ pos 1 → a -ℤ x ≡ pos (suc m)
          less a x m e d = omega (arith, ints, e, d)

      by_test : (b : Bool) → (func == g) ≡ b → kept us (left_check s left (once (Back func)) ∷ []) ≡ 1
      by_test true d = row_by us (left_check s left (once (Back func))) (Back g) i (by_more n (few (are_equal func g d)) e (ap (λ f. (once (Back f)).factor (Back g)) (are_equal func g d) ∙ once_itself (Back g)))
      by_test false d = present left (once (Back func)) (Back g) (pos (suc n)) i e (other_back func g (not_equal func g d)) refl
