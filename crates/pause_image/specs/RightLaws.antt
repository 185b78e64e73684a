-- Laws, for the proofs of this crate and of those above it.
-- What is right was judged: its words stand for values, no cell is in two of them, and the free cells pay for what all
-- ask for. So it can go on.
use Rattle.std.proofs.Common.{◌≡◌, ℕ, zero, suc, ◌+◌, ◌-◌, ◌≤◌, ◌<◌, false, List, [], ◌∷◌, ◌++◌, map, length, Option, Some, None, refl, sym, ap, ◌∙◌, subst, arith}
use Rattle.std.specs.Prelude.{ℤ, pos, negsuc, ◌/◌, IsSomeAnd, drop, replicate, slice_get, if◌then◌else◌}
use Rattle.std.specs.List.{AllByRecursion}
use Rattle.std.specs.Option.{option_map_or}
use Rattle.cell_span.specs.declared.cell.Cell.{Cell}
use Rattle.camelot_values.specs.Value.{Value}
use Rattle.camelot_values.specs.Kinds.{DataType}
use Rattle.camelot_values.specs.Typing.{Fits}
use Rattle.camelot_values.specs.declared.kinds.Kind.{Kind}
use Rattle.grail_blocks.specs.States as states
use Rattle.grail_blocks.specs.States.{Status, Unbound, Ready, Spent}
use Rattle.grail_code.specs.Code.{Call, Let, Block, Func, Code}
use Rattle.grail_code.specs.WellFormed.{kind_of, local_kinds}
use Rattle.licence.specs.Books.{Carried, book_of}
use Rattle.licence.specs.Licensed.{Licensed, IsLicensed}
use Rattle.frame_locals.specs.Places.{is_ready, ready_at, waits_at}
use Rattle.frame_accounts.specs.Accounts.{block_in, block_at}
use Rattle.frame_accounts.specs.Accounts as accounts
use Rattle.machine_image.specs.Images.{Bound, Frame, IsNet, IsFilled, IsImage}
use Rattle.cell_machine.specs.Bounds.{bound_if, bounds, put_back}
use Rattle.cell_machine.specs.Dead.{live_word, live_words}
use Rattle.cell_machine.specs.Saved.{Saved, width_at, highest, below, HasItsLocals, CanGoOn}
use Rattle.cell_machine.specs.Stands.{Stands, footprint, times}
use Rattle.cell_machine.specs.State.{most_calls}
use Rattle.cell_machine.specs.theory.Counting.{times_append}
use Rattle.cell_machine.specs.theory.PutBack.{put_back_live}
use Rattle.pause_image.specs.Faults.{IsWithin, IsRight}
use Rattle.pause_image.specs.Found.{FoundOne, Found, taken, units}
use Rattle.pause_image.specs.Judged.{words_of, account_of, FramesThere, all_taken, all_asks, IsJudged}
use Rattle.pause_image.specs.JudgedLaws.{judged_goes_on}
use Rattle.pause_image.specs.Owning.{kind_in, IsOwn, words_cells, AreOwnWords, frames_cells, AreOwnFrames, left_at, carried_at, callee_of, callee_at, words_units, frames_ask}
use Rattle.pause_image.specs.Pausing.{image_of}
use Rattle.pause_image.specs.Shapes.{ready_among, HasJustReady, RunsAt, WaitsAt, IsShaped, AreShaped}

-- ---- the words of one frame

-- each word stands for its value, by the kind of its local
abbrev HaveValues : List DataType → List Cell → Func → List Bound → List Value → Type 0
HaveValues types cells h [] [] = Unit {0}
HaveValues types cells h [] (v ∷ vs) = ⊥
HaveValues types cells h (b ∷ bs) [] = ⊥
HaveValues types cells h (b ∷ bs) (v ∷ vs) = (IsSomeAnd (kind_of h b.local) (λ q. Fits types q v) × Stands types cells v b.word) × HaveValues types cells h bs vs

one_value : (types : List DataType) (cells : List Cell) (before : List ℕ) (o : Option Kind) (w : ℕ) (v : Value) → IsSomeAnd o (λ q. IsOwn types cells before q w v)
    → IsSomeAnd o (λ q. Fits types q v) × Stands types cells v w
one_value types cells before None w v h = absurd h
one_value types cells before (Some q) w v h = (h.fits, h.stands)

have_values : (p : Code) (cells : List Cell) (before : List ℕ) (f : Frame) (h : Func) → slice_get p.funcs f.func ≡ Some h → (bs : List Bound) (vs : List Value)
    → AreOwnWords p cells before f bs vs → HaveValues p.types cells h bs vs
have_values p cells before f h is [] [] a = tt
have_values p cells before f h is [] (v ∷ vs) a = absurd a
have_values p cells before f h is (b ∷ bs) [] a = absurd a
have_values p cells before f h is (b ∷ bs) (v ∷ vs) a = (
  one_value p.types cells before (kind_of h b.local) b.word v (subst (λ o. IsSomeAnd (kind_in o b.local) (λ q. IsOwn p.types cells before q b.word v)) is a.0),
  have_values p cells (before ++ footprint p.types cells v b.word) f h is bs vs a.1,
)

-- the words of so many locals, and the values that were found
record Filled (p : Code) (cells : List Cell) (h : Func) (s : states.State) (x n most : ℕ) (bs : List Bound) (vs : List Value) : Type 0 where
  ws : List ℕ
  os : List (Option Value)
  many : length ws ≡ n
  kept : bounds s x ws ≡ bs
  live : live_words s x ws ≡ ws
  within : AllByRecursion (λ (b : Bound). b.local < most) bs
  found : Found p.types cells h s x ws os
  takes : taken p.types cells ws os ≡ words_cells p cells bs vs
  carries : (carried : Carried ℕ) → units p.types carried x os ≡ words_units p.types carried bs vs

empty_list : {A : Type 0} (x : ℕ) (xs : List A) (g : A → ℕ) → map g xs ≡ [] → xs ≡ []
empty_list x [] g e = refl
empty_list x (y ∷ xs) g e = absurd cc

heads : (x y : ℕ) (xs ys : List ℕ) → x ∷ xs ≡ y ∷ ys → x ≡ y
heads x y xs ys e = cc

tails : (x y : ℕ) (xs ys : List ℕ) → x ∷ xs ≡ y ∷ ys → xs ≡ ys
tails x y xs ys e = cc

-- a local that is ready has the next word
fill_ready : (p : Code) (cells : List Cell) (h : Func) (s : states.State) (x n most : ℕ) (b : Bound) (bs : List Bound) (v : Value) (vs : List Value) → s x ≡ Ready → b.local ≡ x → x < most
    → IsSomeAnd (kind_of h b.local) (λ q. Fits p.types q v) → Stands p.types cells v b.word → Filled p cells h s (suc x) n most bs vs → Filled p cells h s x (suc n) most (b ∷ bs) (v ∷ vs)
fill_ready p cells h s x n most b bs v vs e at less fits stands r = record {
  ws = b.word ∷ r.ws;
  os = Some v ∷ r.os;
  many = ap suc r.many;
  kept = ap (λ t. bound_if t x b.word (bounds s (suc x) r.ws)) e ∙ ap (λ y. record { local = y; word = b.word } ∷ bounds s (suc x) r.ws) (sym at) ∙ ap (λ l. b ∷ l) r.kept;
  live = ap (λ t. live_word t b.word ∷ live_words s (suc x) r.ws) e ∙ ap (λ l. b.word ∷ l) r.live;
  within = (omega (arith, at, less), r.within);
  found = (subst (λ t. FoundOne p.types cells h t x b.word (Some v)) (sym e) (subst (λ y. IsSomeAnd (kind_of h y) (λ q. Fits p.types q v)) at fits, stands), r.found);
  takes = ap (λ l. footprint p.types cells v b.word ++ l) r.takes;
  carries = λ carried. omega (arith, r.carries carried, ap (λ y. words_units p.types carried (record { local = y; word = b.word } ∷ bs) (v ∷ vs)) at);
}

-- and any other one has none
fill_other : (p : Code) (cells : List Cell) (h : Func) (s : states.State) (x n most : ℕ) (bs : List Bound) (vs : List Value) (t : Status) → s x ≡ t → is_ready t ≡ false
    → Filled p cells h s (suc x) n most bs vs → Filled p cells h s x (suc n) most bs vs
fill_other p cells h s x n most bs vs t e dead r = record {
  ws = 0 ∷ r.ws;
  os = None ∷ r.os;
  many = ap suc r.many;
  kept = ap (λ t. bound_if t x 0 (bounds s (suc x) r.ws)) e ∙ no_bound t dead ∙ r.kept;
  live = ap (λ t. live_word t 0 ∷ live_words s (suc x) r.ws) e ∙ ap (λ w. w ∷ live_words s (suc x) r.ws) (no_word t) ∙ ap (λ l. 0 ∷ l) r.live;
  within = r.within;
  found = (subst (λ t. FoundOne p.types cells h t x 0 None) (sym e) (none_found t dead), r.found);
  takes = r.takes;
  carries = λ carried. omega (arith, r.carries carried);
}
  where
    no_bound : (t : Status) → is_ready t ≡ false → bound_if t x 0 (bounds s (suc x) r.ws) ≡ bounds s (suc x) r.ws
    no_bound Ready k = absurd cc
    no_bound Unbound k = refl
    no_bound Spent k = refl

    no_word : (t : Status) → live_word t 0 ≡ 0
    no_word Ready = refl
    no_word Unbound = refl
    no_word Spent = refl

    none_found : (t : Status) → is_ready t ≡ false → FoundOne p.types cells h t x 0 None
    none_found Ready k = absurd cc
    none_found Unbound k = refl
    none_found Spent k = refl

filled : (p : Code) (cells : List Cell) (h : Func) (s : states.State) (x n most : ℕ) (bs : List Bound) (vs : List Value) → x + n ≤ most
    → map (λ (b : Bound). b.local) bs ≡ ready_among s x n → HaveValues p.types cells h bs vs → Filled p cells h s x n most bs vs
filled p cells h s x zero most [] [] few just a =
    record { ws = []; os = []; many = refl; kept = refl; live = refl; within = tt; found = tt; takes = refl; carries = λ carried. refl }
filled p cells h s x zero most [] (v ∷ vs) few just a = absurd a
filled p cells h s x zero most (b ∷ bs) vs few just a = absurd cc
filled p cells h s x (suc n) most bs vs few just a =
    by_status (s x) refl bs vs (just) a
    (λ bs vs just a. filled p cells h s (suc x) n most bs vs (omega (arith, few)) just a)
  where
    by_ready : s x ≡ Ready → (bs : List Bound) (vs : List Value) → map (λ (b : Bound). b.local) bs ≡ x ∷ ready_among s (suc x) n → HaveValues p.types cells h bs vs
        → ((bs : List Bound) (vs : List Value) → map (λ (b : Bound). b.local) bs ≡ ready_among s (suc x) n → HaveValues p.types cells h bs vs → Filled p cells h s (suc x) n most bs vs)
        → Filled p cells h s x (suc n) most bs vs
    by_ready e [] vs just a go = absurd cc
    by_ready e (b ∷ bs) [] just a go = absurd a
    by_ready e (b ∷ bs) (v ∷ vs) just a go =
        fill_ready p cells h s x n most b bs v vs e (heads b.local x (map (λ (b : Bound). b.local) bs) (ready_among s (suc x) n) just) (omega (arith, few)) a.0.0 a.0.1
        (go bs vs (tails b.local x (map (λ (b : Bound). b.local) bs) (ready_among s (suc x) n) just) a.1)

    by_status : (t : Status) → s x ≡ t → (bs : List Bound) (vs : List Value)
        → map (λ (b : Bound). b.local) bs ≡ (if is_ready (s x) then x ∷ ready_among s (suc x) n else ready_among s (suc x) n) → HaveValues p.types cells h bs vs
        → ((bs : List Bound) (vs : List Value) → map (λ (b : Bound). b.local) bs ≡ ready_among s (suc x) n → HaveValues p.types cells h bs vs → Filled p cells h s (suc x) n most bs vs)
        → Filled p cells h s x (suc n) most bs vs
    by_status Ready e bs vs just a go = by_ready e bs vs (just ∙ ap (λ t. if is_ready t then x ∷ ready_among s (suc x) n else ready_among s (suc x) n) e) a go
    by_status Unbound e bs vs just a go = fill_other p cells h s x n most bs vs Unbound e refl (go bs vs (just ∙ ap (λ t. if is_ready t then x ∷ ready_among s (suc x) n else ready_among s (suc x) n) e) a)
    by_status Spent e bs vs just a go = fill_other p cells h s x n most bs vs Spent e refl (go bs vs (just ∙ ap (λ t. if is_ready t then x ∷ ready_among s (suc x) n else ready_among s (suc x) n) e) a)

-- ---- one frame

-- the values that were found in a frame, with what they take and carry
record FrameFilled (l : Licensed) (cells : List Cell) (h : Func) (s : states.State) (f : Frame) (vs : List Value) : Type 0 where
  os : List (Option Value)
  locals : HasItsLocals l.code f
  found : Found l.code.types cells h s 0 (words_of l.code f) os
  takes : taken l.code.types cells (words_of l.code f) os ≡ words_cells l.code cells f.live vs
  carries : (carried : Carried ℕ) → units l.code.types carried 0 os ≡ words_units l.code.types carried f.live vs

frame_filled : (l : Licensed) (cells : List Cell) (before : List ℕ) (h : Func) (s : states.State) (f : Frame) (vs : List Value) → slice_get l.code.funcs f.func ≡ Some h → HasJustReady h s f
    → AreOwnWords l.code cells before f f.live vs → FrameFilled l cells h s f vs
frame_filled l cells before h s f vs is just own = record {
  os = r.os;
  locals = subst (λ n. AllByRecursion (λ (b : Bound). b.local < n) f.live) (sym width) r.within;
  found = subst (λ ws. Found l.code.types cells h s 0 ws r.os) (sym words) r.found;
  takes = ap (λ ws. taken l.code.types cells ws r.os) words ∙ r.takes;
  carries = r.carries;
}
  where
    width : width_at l.code f.func ≡ length (local_kinds h)
    width = ap (λ o. option_map_or (λ f. length (local_kinds f)) o 0) is

    r : Filled l.code cells h s 0 (length (local_kinds h)) (length (local_kinds h)) f.live vs
    r = filled l.code cells h s 0 (length (local_kinds h)) (length (local_kinds h)) f.live vs (omega arith) just (have_values l.code cells before f h is f.live vs own)

    words : words_of l.code f ≡ r.ws
    words = ap (λ bs. put_back (replicate (width_at l.code f.func) 0) bs) (sym r.kept) ∙ ap (λ n. put_back (replicate n 0) (bounds s 0 r.ws)) (width ∙ sym r.many) ∙ put_back_live s r.ws ∙ r.live

block_is : (p : Code) (func block : ℕ) (h : Func) (b : Block) → slice_get p.funcs func ≡ Some h → slice_get h.blocks block ≡ Some b → block_at p func block ≡ Some b
block_is p func block h b e k = ap (λ o. block_in o block) e ∙ k

-- the account at a frame's place
left_is : (l : Licensed) (f : Frame) (b : Block) → block_at l.code f.func f.block ≡ Some b → left_at l f ≡ (account_of l f b).left
left_is l f b e = ap (λ o. option_map_or (λ b. (accounts.account_of l f.func f.block b (f.place - 1)).left) o 0) e

carried_is : (l : Licensed) (f : Frame) (b : Block) → block_at l.code f.func f.block ≡ Some b → carried_at l f ≡ (account_of l f b).carried
carried_is l f b e = ap (λ o. option_map_or (λ b. (accounts.account_of l f.func f.block b (f.place - 1)).carried) o (λ x con. 0)) e

callee_is : (l : Licensed) (f : Frame) (b : Block) (t : Let) → block_at l.code f.func f.block ≡ Some b → slice_get b.lets (f.place - 1) ≡ Some t → callee_at l f ≡ callee_of t.op
callee_is l f b t e k =
    ap (λ o. option_map_or (λ (b : Block). option_map_or (λ (t : Let). callee_of t.op) (slice_get b.lets (f.place - 1)) 0) o 0) e
    ∙ ap (λ o. option_map_or (λ (t : Let). callee_of t.op) o 0) k

-- ---- all frames

-- frames from this one on: each is as the code says
abbrev AllShaped : Licensed → List Frame → Type 0
AllShaped l [] = ⊥
AllShaped l (f ∷ []) = RunsAt l f
AllShaped l (f ∷ g ∷ fs) = WaitsAt l f g × AllShaped l (g ∷ fs)

all_shaped : (l : Licensed) (f : Frame) (fs : List Frame) → ((n : ℕ) → n < length (f ∷ fs) → IsShaped l (drop n (f ∷ fs))) → AllShaped l (f ∷ fs)
all_shaped l f [] h = h 0 (omega arith)
all_shaped l f (g ∷ fs) h = (h 0 (omega arith), all_shaped l g fs (λ n less. h (suc n) (omega (arith, less))))

-- what was found in all frames, with what they take and ask for
record AllFilled (l : Licensed) (cells : List Cell) (fs : List Frame) (vss : List (List Value)) : Type 0 where
  oss : List (List (Option Value))
  there : FramesThere l cells fs oss
  takes : all_taken l cells fs oss ≡ frames_cells l.code cells fs vss
  asks : all_asks l cells fs oss there ≡ frames_ask l fs vss

all_filled : (l : Licensed) (cells : List Cell) (before : List ℕ) (fs : List Frame) (vss : List (List Value)) → AllShaped l fs → AreOwnFrames l.code cells before fs vss → AllFilled l cells fs vss
all_filled l cells before [] vss r own = absurd r
all_filled l cells before (f ∷ fs) [] r own = absurd own
all_filled l cells before (f ∷ []) (vs ∷ us ∷ vss) r own = absurd own.1
all_filled l cells before (f ∷ []) (vs ∷ []) r own =
    let one = frame_filled l cells before r.h (ready_at l.code f.func f.block (f.place - 1)) f vs r.func r.just own.0 in
    let block = block_is l.code f.func f.block r.h r.b r.func r.block in
    let units_is : units l.code.types (account_of l f r.b).carried 0 one.os ≡ words_units l.code.types (carried_at l f) f.live vs =
    one.carries (account_of l f r.b).carried ∙ ap (λ c. words_units l.code.types c f.live vs) (sym (carried_is l f r.b block)) in
    record {
      oss = one.os ∷ [];
      there = record { h = r.h; b = r.b; func = r.func; block = r.block; place = r.place; unlent = r.unlent; locals = one.locals; found = one.found };
      takes = ap (λ a. a ++ []) one.takes;
      asks = omega (arith, left_is l f r.b block, units_is);
    }
all_filled l cells before (f ∷ g ∷ fs) (vs ∷ vss) r own =
    let w : WaitsAt l f g = r.0 in
    let call : Let = record { target = w.target; op = Call w.callee w.args } in
    let one = frame_filled l cells before w.h (waits_at l.code f.func f.block (f.place - 1)) f vs w.func w.just own.0 in
    let rest = all_filled l cells (before ++ words_cells l.code cells f.live vs) (g ∷ fs) vss r.1 own.1 in
    let block = block_is l.code f.func f.block w.h w.b w.func w.block in
    let callee : callee_at l f ≡ w.callee = callee_is l f w.b call block w.call in
    let units_is : units l.code.types (account_of l f w.b).carried 0 one.os ≡ words_units l.code.types (carried_at l f) f.live vs =
    one.carries (account_of l f w.b).carried ∙ ap (λ c. words_units l.code.types c f.live vs) (sym (carried_is l f w.b block)) in
    record {
      oss = one.os ∷ rest.oss;
      there = (
        record {
          h = w.h;
          b = w.b;
          k = w.k;
          target = w.target;
          callee = w.callee;
          args = w.args;
          func = w.func;
          block = w.block;
          call = w.call;
          above = w.above;
          result = w.result;
          suffices = w.suffices;
          unlent = w.unlent;
          locals = one.locals;
          found = one.found;
        },
        rest.there,
      );
      takes = ap (λ a. a ++ all_taken l cells (g ∷ fs) rest.oss) one.takes ∙ ap (λ m. words_cells l.code cells f.live vs ++ m) rest.takes;
      asks = omega (arith, left_is l f w.b block, units_is, ap (book_of l.cert).need callee, ap (book_of l.cert).back callee, rest.asks);
    }

-- ---- the whole

pub few_frames : (l : Licensed) (fs : List Frame) → AreShaped l fs → length fs ≤ suc most_calls
few_frames l fs h = by_length (length fs) refl
  where
    by_length : (n : ℕ) → length fs ≡ n → length fs ≤ suc most_calls
    by_length zero e = omega (arith, e)
    by_length (suc n) e = omega (arith, e, (h n (omega (arith, e))).few)

top_within : (z : ℤ) (peak : ℕ) → IsNet z → peak ≤ 1099511627776 → highest z peak ≤ 1099511627776
top_within (pos n) peak h k = omega (arith, h, k)
top_within (negsuc n) peak h k = k

record AddUp (z : ℤ) (peak free size : ℕ) : Type 0 where
  counted : below z (highest z peak) ≤ free + highest z peak
  within : free + highest z peak ≤ size + below z (highest z peak)

add_up : (z : ℤ) (peak free size : ℕ) → IsWithin z free size → AddUp z peak free size
add_up (pos n) peak free size h = record { counted = omega (arith, h); within = omega (arith, h) }
add_up (negsuc n) peak free size h = record { counted = omega (arith, h.0); within = omega (arith, h.1) }

-- What is right was judged.
pub right_judged : (l : Licensed) (text : List ℕ) (size : ℕ) (s : Saved) → size ≤ 2147483648 → IsRight l text size s → IsJudged l s size
right_judged l text size s few r = record {
  cells = r.sized.size;
  few_cells = few;
  few_frames = few_frames l s.frames r.owned.frames.shaped;
  values = all.oss;
  frames = all.there;
  free = r.owned.free;
  list = r.owned.runs;
  once = λ at. omega (arith, r.owned.once at, ap (times at) all.takes, times_append at (all_taken l s.cells s.frames all.oss) r.owned.free);
  enough = subst (λ n. n / (book_of l.cert).unit ≤ length r.owned.free) (sym all.asks) r.enough;
  peak = top_within s.net s.peak image.counts.net image.counts.peak;
  steps = image.counts.steps;
  counted = sums.counted;
  within = sums.within;
}
  where
    image : IsImage (image_of s)
    image = r.sized.image.text.right

    shaped : (fs : List Frame) → IsFilled fs → ((n : ℕ) → n < length fs → IsShaped l (drop n fs)) → AllShaped l fs
    shaped [] some h = absurd some
    shaped (f ∷ fs) some h = all_shaped l f fs h

    all : AllFilled l s.cells s.frames r.owned.frames.values
    all = all_filled l s.cells [] s.frames r.owned.frames.values (shaped s.frames image.some (λ n less. (r.owned.frames.shaped n less).shaped)) r.owned.frames.own

    sums : AddUp s.net s.peak (length r.owned.free) size
    sums = add_up s.net s.peak (length r.owned.free) size r.within

-- So it can go on.
pub right_goes_on : (l : Licensed) (text : List ℕ) (size : ℕ) (s : Saved) → IsLicensed l → size ≤ 2147483648 → IsRight l text size s → CanGoOn l s size
right_goes_on l text size s lic few r = judged_goes_on l s size lic (right_judged l text size s few r)
