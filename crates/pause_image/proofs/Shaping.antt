-- Whether frames are as the code has them.
use Rattle.std.proofs.Common.{◌≡◌, ℕ, zero, suc, ◌+◌, ◌-◌, ◌≤◌, ◌<◌, Bool, true, false, List, [], ◌∷◌, map, length, drop, Option, Some, None, refl, sym, ap, ◌∙◌, subst, arith}
use Rattle.std.specs.Prelude.{◌==◌, if◌then◌else◌, slice_get, IsSomeAnd}
use Rattle.std.specs.Option.{option_map_or}
use Rattle.std.proofs.lemmas.Bool.Decides.{nat_tests}
use Rattle.std.proofs.lemmas.Option.{slice_get_within}
use Rattle.grail_blocks.specs.States as states
use Rattle.grail_code.specs.Code.{Call, Let, Block, Func, Code}
use Rattle.grail_code.specs.WellFormed.{local_kinds}
use Rattle.annotations.specs.Vectors.{AtLeast}
use Rattle.licence.specs.Books.{book_of}
use Rattle.licence.specs.Licensed.{Licensed}
use Rattle.frame_locals.specs.Lending.{lends_at}
use Rattle.frame_locals.specs.Marking.{AreMarks, is_set}
use Rattle.frame_locals.specs.Places.{is_ready, ready_at, waits_at}
use Rattle.machine_image.specs.Images.{Bound, Frame}
use Rattle.cell_machine.specs.State.{most_calls}
use Rattle.pause_image.specs.Judging.{Tells, is_empty, behind_first, behind_local, just_set, CallsAt, MayCall, MayReturn}
use Rattle.pause_image.specs.Owning.{callee_of}
use Rattle.pause_image.specs.Shapes.{ready_among, HasJustReady, RunsAt, WaitsAt, IsShaped, IsShapedAt, AreShaped, IsShapeFault}

-- ---- marks

one_less : (x count : ℕ) → x < count → count - x ≡ suc (count - suc x)
one_less x count k = omega (arith, k)

pub just_behind : (marks : List Bool) (x count : ℕ) (ys zs : List ℕ) → x < count → behind_local marks x ys ≡ Some zs → just_set marks (x + 1) (count - (x + 1)) zs ≡ just_set marks x (count - x) ys
just_behind marks x count ys zs k found =
    let next : x + 1 ≡ suc x = omega arith in
    ap (λ y. just_set marks y (count - y) zs) next
    ∙ sym (ap (λ n. just_set marks x n ys) (one_less x count k) ∙ ap (λ o. option_map_or (just_set marks (suc x) (count - suc x)) o false) found)

pub just_missed : (marks : List Bool) (x count : ℕ) (ys : List ℕ) → x < count → behind_local marks x ys ≡ None → just_set marks x (count - x) ys ≡ false
just_missed marks x count ys k found =
    ap (λ n. just_set marks x n ys) (one_less x count k) ∙ ap (λ o. option_map_or (just_set marks (suc x) (count - suc x)) o false) found

pub just_end : (marks : List Bool) (x count : ℕ) (ys : List ℕ) → count ≤ x → just_set marks x (count - x) ys ≡ is_empty ys
just_end marks x count ys k = let none : count - x ≡ 0 = omega (arith, k) in ap (λ n. just_set marks x n ys) none

tells_by : (b : Bool) (A B : Type 0) → Tells b A → (A → B) → (B → A) → Tells b B
tells_by true A B t to from = to t
tells_by false A B t to from = λ x. t (from x)

mark_read : (marks : List Bool) (x : ℕ) (b : Bool) → slice_get marks x ≡ Some b → is_set marks x ≡ b
mark_read marks x b e = ap (λ o. option_map_or (λ mark. mark) o false) e

-- one more
told_more : (marks : List Bool) (s : states.State) (x n : ℕ) (ys : List ℕ) (b : Bool) → ((zs : List ℕ) → Tells (just_set marks (suc x) n zs) (zs ≡ ready_among s (suc x) n))
    → Tells (option_map_or (just_set marks (suc x) n) (if b then behind_first x ys else Some ys) false) (ys ≡ (if b then x ∷ ready_among s (suc x) n else ready_among s (suc x) n))
told_more marks s x n ys false later = later ys
told_more marks s x n [] true later = λ e. absurd cc
told_more marks s x n (y ∷ ys) true later = by_same (y == x) refl
  where
    by_same : (b : Bool) → (y == x) ≡ b → Tells (option_map_or (just_set marks (suc x) n) (if b then Some ys else None) false) (y ∷ ys ≡ x ∷ ready_among s (suc x) n)
    by_same true e =
        let same : y ≡ x = grind (arith, nat_tests, e) in
        tells_by (just_set marks (suc x) n ys) (ys ≡ ready_among s (suc x) n) (y ∷ ys ≡ x ∷ ready_among s (suc x) n) (later ys) (λ h. cc) (λ h. cc)
    by_same false e = λ h. let same : y ≡ x = cc in grind (arith, nat_tests, e, same)

-- marks that say which locals are ready tell whether these are just those
just_told : (marks : List Bool) (s : states.State) (x n : ℕ) (ys : List ℕ) → ((y : ℕ) → y < x + n → slice_get marks y ≡ Some (is_ready (s y))) → Tells (just_set marks x n ys) (ys ≡ ready_among s x n)
just_told marks s x zero [] are = refl
just_told marks s x zero (y ∷ ys) are = λ e. absurd cc
just_told marks s x (suc n) ys are =
    subst (λ b. Tells (option_map_or (just_set marks (suc x) n) (if b then behind_first x ys else Some ys) false) (ys ≡ ready_among s x (suc n))) (sym (mark_read marks x (is_ready (s x)) (are x (omega arith))))
    (told_more marks s x n ys (is_ready (s x)) (λ zs. just_told marks s (suc x) n zs (λ y k. are y (omega (arith, k)))))

marks_tell : (marks : List Bool) (s : states.State) (n : ℕ) (ys : List ℕ) → AreMarks s marks → n ≤ length marks → Tells (just_set marks 0 n ys) (ys ≡ ready_among s 0 n)
unfolding AreMarks
marks_tell marks s n ys are few = just_told marks s 0 n ys (λ y k. are y (omega (arith, k, few)))

-- ---- one value at a place

one_some : {A : Type 0} (o : Option A) (a b : A) → o ≡ Some a → o ≡ Some b → a ≡ b
one_some o a b p q = cc

-- ---- a frame that runs

pub runs_nowhere : (l : Licensed) (f : Frame) → f.place ≡ 0 → RunsAt l f → ⊥
runs_nowhere l f none r = absurd (omega (arith, none, r.first))

pub runs_too_far : (l : Licensed) (f : Frame) (h : Func) (b : Block) → slice_get l.code.funcs f.func ≡ Some h → slice_get h.blocks f.block ≡ Some b → length b.lets < f.place - 1 → RunsAt l f → ⊥
runs_too_far l f h b func block far r =
    let same : r.h ≡ h = one_some (slice_get l.code.funcs f.func) r.h h r.func func in
    let at : slice_get r.h.blocks f.block ≡ Some b = subst (λ h. slice_get h.blocks f.block ≡ Some b) (sym same) block in
    let blocks : r.b ≡ b = one_some (slice_get r.h.blocks f.block) r.b b r.block at in
    absurd (omega (arith, r.place, far, ap (λ (b : Block). length b.lets) blocks))

pub runs_lending : (l : Licensed) (f : Frame) → lends_at l.code f.func f.block ≡ true → RunsAt l f → ⊥
runs_lending l f lends r = let unlent = r.unlent in absurd cc

pub runs_told : (l : Licensed) (f : Frame) (h : Func) (b : Block) (marks : List Bool) (n : ℕ) (told : Bool) → slice_get l.code.funcs f.func ≡ Some h → slice_get h.blocks f.block ≡ Some b → 1 ≤ f.place
    → f.place - 1 ≤ length b.lets → lends_at l.code f.func f.block ≡ false → AreMarks (ready_at l.code f.func f.block (f.place - 1)) marks → n ≡ length (local_kinds h) → n ≤ length marks
    → told ≡ just_set marks 0 n (map (λ b. b.local) f.live) → Tells told (RunsAt l f)
runs_told l f h b marks n told func block first place unlent are many few is =
    let t = marks_tell marks (ready_at l.code f.func f.block (f.place - 1)) n (map (λ b. b.local) f.live) are few in
    subst (λ b. Tells b (RunsAt l f)) (sym is)
    (tells_by (just_set marks 0 n (map (λ b. b.local) f.live)) (map (λ b. b.local) f.live ≡ ready_among (ready_at l.code f.func f.block (f.place - 1)) 0 n) (RunsAt l f) t
    (λ just. record {
      h = h;
      b = b;
      func = func;
      block = block;
      first = first;
      place = place;
      unlent = unlent;
      just = just ∙ ap (ready_among (ready_at l.code f.func f.block (f.place - 1)) 0) many;
    })
    (λ r. let same : r.h ≡ h = one_some (slice_get l.code.funcs f.func) r.h h r.func func in
    r.just ∙ ap (λ h. ready_among (ready_at l.code f.func f.block (f.place - 1)) 0 (length (local_kinds h))) same ∙ ap (ready_among (ready_at l.code f.func f.block (f.place - 1)) 0) (sym many)))

-- ---- a frame that waits

block_same : (l : Licensed) (f next : Frame) (h : Func) (b : Block) → slice_get l.code.funcs f.func ≡ Some h → slice_get h.blocks f.block ≡ Some b → (w : WaitsAt l f next) → w.b ≡ b
block_same l f next h b func block w =
    let same : w.h ≡ h = one_some (slice_get l.code.funcs f.func) w.h h w.func func in
    let at : slice_get w.h.blocks f.block ≡ Some b = subst (λ h. slice_get h.blocks f.block ≡ Some b) (sym same) block in
    one_some (slice_get w.h.blocks f.block) w.b b w.block at

calls_there : (l : Licensed) (f next : Frame) (h : Func) (b : Block) → slice_get l.code.funcs f.func ≡ Some h → slice_get h.blocks f.block ≡ Some b → (w : WaitsAt l f next) → CallsAt b (f.place - 1) w.callee
calls_there l f next h b func block w =
    record { target = w.target; args = w.args; call = subst (λ (b : Block). slice_get b.lets (f.place - 1) ≡ Some (record { target = w.target; op = Call w.callee w.args })) (block_same l f next h b func block w) w.call }

one_callee : (b : Block) (place c d : ℕ) → CallsAt b place c → CallsAt b place d → c ≡ d
one_callee b place c d p q = ap (λ o. option_map_or (λ (t : Let). callee_of t.op) o 0) (sym p.call ∙ q.call)

pub waits_nowhere : (l : Licensed) (f next : Frame) → f.place ≡ 0 → WaitsAt l f next → ⊥
waits_nowhere l f next none w = absurd (omega (arith, none, w.first))

pub waits_uncalled : (l : Licensed) (f next : Frame) (h : Func) (b : Block) → slice_get l.code.funcs f.func ≡ Some h → slice_get h.blocks f.block ≡ Some b → MayCall b (f.place - 1) None → WaitsAt l f next → ⊥
waits_uncalled l f next h b func block none w = none w.callee (calls_there l f next h b func block w)

pub waits_for_another : (l : Licensed) (f next : Frame) (h : Func) (b : Block) (callee : ℕ) → slice_get l.code.funcs f.func ≡ Some h → slice_get h.blocks f.block ≡ Some b → CallsAt b (f.place - 1) callee
    → (MayReturn l callee next.func → ⊥) → WaitsAt l f next → ⊥
waits_for_another l f next h b callee func block calls never w =
    never (subst (λ c. MayReturn l c next.func) (one_callee b (f.place - 1) w.callee callee (calls_there l f next h b func block w) calls) (record { k = w.k; above = w.above; result = w.result; suffices = w.suffices }))

pub waits_lending : (l : Licensed) (f next : Frame) → lends_at l.code f.func f.block ≡ true → WaitsAt l f next → ⊥
waits_lending l f next lends w = let unlent = w.unlent in absurd cc

pub waits_told : (l : Licensed) (f next : Frame) (h : Func) (b : Block) (callee : ℕ) (marks : List Bool) (n : ℕ) (told : Bool) → slice_get l.code.funcs f.func ≡ Some h → slice_get h.blocks f.block ≡ Some b
    → 1 ≤ f.place → CallsAt b (f.place - 1) callee → MayReturn l callee next.func → lends_at l.code f.func f.block ≡ false → AreMarks (waits_at l.code f.func f.block (f.place - 1)) marks
    → n ≡ length (local_kinds h) → n ≤ length marks → told ≡ just_set marks 0 n (map (λ b. b.local) f.live) → Tells told (WaitsAt l f next)
waits_told l f next h b callee marks n told func block first calls returns unlent are many few is =
    let t = marks_tell marks (waits_at l.code f.func f.block (f.place - 1)) n (map (λ b. b.local) f.live) are few in
    subst (λ b. Tells b (WaitsAt l f next)) (sym is)
    (tells_by (just_set marks 0 n (map (λ b. b.local) f.live)) (map (λ b. b.local) f.live ≡ ready_among (waits_at l.code f.func f.block (f.place - 1)) 0 n) (WaitsAt l f next) t
    (λ just. record {
      h = h;
      b = b;
      k = returns.k;
      target = calls.target;
      callee = callee;
      args = calls.args;
      func = func;
      block = block;
      first = first;
      call = calls.call;
      above = returns.above;
      result = returns.result;
      suffices = returns.suffices;
      unlent = unlent;
      just = just ∙ ap (ready_among (waits_at l.code f.func f.block (f.place - 1)) 0) many;
    })
    (λ w. let same : w.h ≡ h = one_some (slice_get l.code.funcs f.func) w.h h w.func func in
    w.just ∙ ap (λ h. ready_among (waits_at l.code f.func f.block (f.place - 1)) 0 (length (local_kinds h))) same ∙ ap (ready_among (waits_at l.code f.func f.block (f.place - 1)) 0) (sym many)))

-- ---- calls and results

pub no_let : (b : Block) (place : ℕ) → slice_get b.lets place ≡ None → MayCall b place None
no_let b place none = λ callee c. let at = c.call in absurd cc

pub no_above : (l : Licensed) (callee next : ℕ) → slice_get l.code.funcs next ≡ None → MayReturn l callee next → ⊥
no_above l callee next none m = let at = m.above in absurd cc

pub no_callee : (l : Licensed) (callee next : ℕ) → slice_get l.code.funcs callee ≡ None → MayReturn l callee next → ⊥
no_callee l callee next none m = subst (λ o. IsSomeAnd o (λ g. g.result ≡ m.k.result)) none m.result

pub no_result : (l : Licensed) (callee next : ℕ) (k g : Func) → slice_get l.code.funcs next ≡ Some k → slice_get l.code.funcs callee ≡ Some g → (g.result ≡ k.result → ⊥) → MayReturn l callee next → ⊥
no_result l callee next k g above called differ m =
    let same : m.k ≡ k = one_some (slice_get l.code.funcs next) m.k k m.above above in
    differ (subst (λ o. IsSomeAnd o (λ g. g.result ≡ m.k.result)) called m.result ∙ ap (λ (k : Func). k.result) same)

pub returns_told : (l : Licensed) (callee next : ℕ) (k g : Func) (told : Bool) → slice_get l.code.funcs next ≡ Some k → slice_get l.code.funcs callee ≡ Some g → g.result ≡ k.result
    → Tells told (AtLeast l.code.types k.result ((book_of l.cert).result next) ((book_of l.cert).result callee)) → Tells told (MayReturn l callee next)
returns_told l callee next k g told above called same t =
    tells_by told (AtLeast l.code.types k.result ((book_of l.cert).result next) ((book_of l.cert).result callee)) (MayReturn l callee next) t
    (λ a. record { k = k; above = above; result = subst (λ o. IsSomeAnd o (λ g. g.result ≡ k.result)) (sym called) same; suffices = a })
    (λ m. subst (λ (k : Func). AtLeast l.code.types k.result ((book_of l.cert).result next) ((book_of l.cert).result callee)) (one_some (slice_get l.code.funcs next) m.k k m.above above) m.suffices)

-- ---- the first of some frames

pub no_func : (l : Licensed) (f : Frame) (fs : List Frame) → slice_get l.code.funcs f.func ≡ None → IsShaped l (f ∷ fs) → ⊥
no_func l f [] none r = let at = r.func in absurd cc
no_func l f (g ∷ fs) none w = let at = w.func in absurd cc

pub no_block : (l : Licensed) (f : Frame) (fs : List Frame) (h : Func) → slice_get l.code.funcs f.func ≡ Some h → slice_get h.blocks f.block ≡ None → IsShaped l (f ∷ fs) → ⊥
no_block l f [] h func none r =
    let same : r.h ≡ h = one_some (slice_get l.code.funcs f.func) r.h h r.func func in
    let at = subst (λ h. slice_get h.blocks f.block ≡ Some r.b) same r.block in
    absurd cc
no_block l f (g ∷ fs) h func none w =
    let same : w.h ≡ h = one_some (slice_get l.code.funcs f.func) w.h h w.func func in
    let at = subst (λ h. slice_get h.blocks f.block ≡ Some w.b) same w.block in
    absurd cc

-- ---- all frames

-- these are the frames from this number on, and those before are as the code has them
pub record ShapedBefore (l : Licensed) (fs rest : List Frame) (number : ℕ) : Type 0 where
  pub left : drop number fs ≡ rest
  pub within : number ≤ length fs
  pub before : (n : ℕ) → n < number → IsShapedAt l fs n

pub shaped_first : (l : Licensed) (fs : List Frame) → ShapedBefore l fs fs 0
shaped_first l fs = record { left = refl; within = omega arith; before = λ n k. absurd (omega (arith, k)) }

length_drop : {A : Type 0} (n : ℕ) (xs : List A) → length (drop n xs) ≡ length xs - n
length_drop zero xs = omega arith
length_drop (suc n) [] = omega arith
length_drop (suc n) (x ∷ xs) = omega (arith, length_drop n xs)

drop_next : {A : Type 0} (n : ℕ) (xs : List A) (y : A) (ys : List A) → drop n xs ≡ y ∷ ys → drop (suc n) xs ≡ ys
drop_next zero [] y ys e = absurd cc
drop_next zero (x ∷ xs) y ys e = cc
drop_next (suc n) [] y ys e = absurd cc
drop_next (suc n) (x ∷ xs) y ys e = drop_next n xs y ys e

is_within : (l : Licensed) (fs : List Frame) (f : Frame) (rest : List Frame) (number : ℕ) → ShapedBefore l fs (f ∷ rest) number → number < length fs
is_within l fs f rest number b = let some : length (f ∷ rest) ≡ length fs - number = sym (ap length b.left) ∙ length_drop number fs in omega (arith, some)

pub shaped_next : (l : Licensed) (fs : List Frame) (f : Frame) (rest : List Frame) (number : ℕ) → ShapedBefore l fs (f ∷ rest) number → number ≤ most_calls → IsShaped l (f ∷ rest) → ShapedBefore l fs rest (number + 1)
shaped_next l fs f rest number b few is =
    let next : number + 1 ≡ suc number = omega arith in
    record {
      left = ap (λ n. drop n fs) next ∙ drop_next number fs f rest b.left;
      within = omega (arith, is_within l fs f rest number b);
      before = λ n k. by_last n (omega (arith, k)) (n == number) refl;
    }
  where
    by_last : (n : ℕ) → n < suc number → (t : Bool) → (n == number) ≡ t → IsShapedAt l fs n
    by_last n k true e =
        let same : number ≡ n = grind (arith, nat_tests, e) in
        subst (IsShapedAt l fs) same (record { few = few; shaped = subst (IsShaped l) (sym b.left) is })
    by_last n k false e = b.before n (grind (arith, nat_tests, e, k))

pub shaped_too_many : (l : Licensed) (fs : List Frame) (f : Frame) (rest : List Frame) (number : ℕ) → ShapedBefore l fs (f ∷ rest) number → number ≡ 65537 → IsShapeFault l fs number
shaped_too_many l fs f rest number b many = record {
  there = is_within l fs f rest number b;
  before = b.before;
  wrong = λ s. let few : number ≤ 65536 = s.few in absurd (omega (arith, few, many));
}

pub shaped_wrong : (l : Licensed) (fs : List Frame) (f : Frame) (rest : List Frame) (number : ℕ) → ShapedBefore l fs (f ∷ rest) number → (IsShaped l (f ∷ rest) → ⊥) → IsShapeFault l fs number
shaped_wrong l fs f rest number b never = record {
  there = is_within l fs f rest number b;
  before = b.before;
  wrong = λ s. never (subst (IsShaped l) b.left s.shaped);
}

pub shaped_all : (l : Licensed) (fs : List Frame) (number : ℕ) → ShapedBefore l fs [] number → AreShaped l fs
shaped_all l fs number b = λ n k. b.before n (let none : 0 ≡ length fs - number = sym (ap length b.left) ∙ length_drop number fs in omega (arith, none, k, b.within))
