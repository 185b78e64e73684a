-- What is seen of blocks from the last to the first.
use Rattle.std.proofs.Common.{◌≡◌, ℕ, zero, suc, ◌+◌, ◌-◌, ◌≤◌, ◌<◌, Bool, true, false, List, [], ◌∷◌, ◌++◌, length, map, get_or, drop, refl, sym, ap, ◌∙◌, subst, arith, inl, inr, length-append}
use Rattle.std.specs.Prelude.{◌==◌, ◌||◌, ◌&&◌, nat_lt, not, cond, if◌then◌else◌, ◌⊎◌}
use Rattle.std.specs.List.{filter, list_any, range_with_len}
use Rattle.std.proofs.lemmas.Bool.Decides.{nat_tests}
use Rattle.camelot_values.specs.Lists.{is_among}
use Rattle.grail_blocks.specs.Blocks.{Let, CaseArm, Term, Ret, Tail, Goto, If, Case}
use Rattle.grail_blocks.specs.Events.{bound_by, operands_of, term_uses}
use Rattle.normal_form.specs.Normal.{NormalBlock, NormalFunction}
use Rattle.normal_form.specs.declared.program.NormalBlock.{NormalBlock as DeclaredBlock}
use Rattle.normal_form.specs.Programs.{block_of}
use Rattle.normal_form.specs.Live.{LaterMarks, Marks, lets_live, term_live, live_from}
use Rattle.normal_form.specs.Coded.{coded_blocks}
use Rattle.code_gen.specs.Generated.{local_count, live_params}
use Rattle.code_gen.specs.declared.local_set.LocalSet.{LocalSet}
use Rattle.code_gen.specs.Marked.{AreSeen, IsMarked, either_live, has, marks_at, no_locals, none_live, told, told_params}
use Rattle.code_gen.proofs.Bits.{has_none}
use Rattle.code_gen.proofs.Sorted.{same_or_not}

-- ---- what is live at a local depends on what is live at it further on

pub lets_same : (ls : List Let) (f g : Marks) (y : ℕ) → f y ≡ g y → lets_live ls f y ≡ lets_live ls g y
lets_same [] f g y e = e
lets_same (l ∷ ls) f g y e = ap (λ b. is_among (operands_of l.op) y || (not (l.target == y) && b)) (lets_same ls f g y e)

arms_same : (f g : LaterMarks) (arms : List CaseArm) (y : ℕ) → ((b : ℕ) → f b y ≡ g b y)
    → list_any (λ a. not (is_among (bound_by a) y) && f a.target y) arms ≡ list_any (λ a. not (is_among (bound_by a) y) && g a.target y) arms
arms_same f g [] y e = refl
arms_same f g (a ∷ arms) y e =
    ap (λ b. (not (is_among (bound_by a) y) && b) || list_any (λ a. not (is_among (bound_by a) y) && f a.target y) arms) (e a.target)
    ∙ ap (λ b. (not (is_among (bound_by a) y) && g a.target y) || b) (arms_same f g arms y e)

pub term_same : (f g : LaterMarks) (t : Term) (y : ℕ) → ((b : ℕ) → f b y ≡ g b y) → term_live f t y ≡ term_live g t y
term_same f g (Ret x) y e = refl
term_same f g (Tail func args) y e = refl
term_same f g (Goto b) y e = ap (λ v. is_among (term_uses (Goto b)) y || v) (e b)
term_same f g (If x first second) y e =
    ap (λ v. is_among (term_uses (If x first second)) y || (v || f second y)) (e first) ∙ ap (λ v. is_among (term_uses (If x first second)) y || (g first y || v)) (e second)
term_same f g (Case x arms) y e = ap (λ v. is_among (term_uses (Case x arms)) y || v) (arms_same f g arms y e)

or_false : (b : Bool) → (b || false) ≡ b
or_false true = refl
or_false false = refl

-- nothing else is live behind a block
pub marked_alone : (ms : LocalSet) (ls : List Let) (live : Marks) → IsMarked ms (lets_live ls (either_live live none_live)) → IsMarked ms (lets_live ls live)
marked_alone ms ls live m = record { each = λ y h. m.each y h ∙ lets_same ls (either_live live none_live) live y (or_false (live y)) }

-- ---- from block to block

get_last : {A : Type 0} (xs : List A) (x d : A) → get_or (xs ++ x ∷ []) (length xs) d ≡ x
get_last [] x d = refl
get_last (z ∷ xs) x d = get_last xs x d

get_others : {A : Type 0} (xs : List A) (x d : A) (i : ℕ) → (i ≡ length xs → ⊥) → get_or (xs ++ x ∷ []) i d ≡ get_or xs i d
get_others [] x d zero n = absurd (n refl)
get_others [] x d (suc i) n = refl
get_others (z ∷ xs) x d zero n = refl
get_others (z ∷ xs) x d (suc i) n = get_others xs x d i (λ e. n (ap suc e))

no_marks : (count b y : ℕ) → told [] count b y ≡ false
no_marks count b y = by_test (nat_lt b count)
  where
    by_test : (c : Bool) → has (if c then get_or [] (count - 1 - b) no_locals else no_locals) y ≡ false
    by_test true = has_none y
    by_test false = has_none y

drop_whole : {A : Type 0} (xs : List A) → drop (length xs) xs ≡ []
drop_whole [] = refl
drop_whole (x ∷ xs) = drop_whole xs

pub seen_none : (blocks : List NormalBlock) → AreSeen blocks (length blocks) []
seen_none blocks = record {
  count = omega arith;
  tells = λ b y h. no_marks (length blocks) b y ∙ sym (ap (λ l. live_from (length blocks) l b y) (drop_whole blocks));
}

marks_here : (seen : List LocalSet) (marks : LocalSet) (count n : ℕ) → length seen + suc n ≡ count → marks_at (seen ++ marks ∷ []) count n ≡ marks
marks_here seen marks count n e =
    let t : nat_lt n count ≡ true = grind (arith, nat_tests, e) in
    let i : count - 1 - n ≡ length seen = omega (arith, e) in
    ap (λ c. if c then get_or (seen ++ marks ∷ []) (count - 1 - n) no_locals else no_locals) t ∙ ap (λ k. get_or (seen ++ marks ∷ []) k no_locals) i ∙ get_last seen marks no_locals

marks_there : (seen : List LocalSet) (marks : LocalSet) (count n b : ℕ) → length seen + suc n ≡ count → (n ≡ b → ⊥)
    → marks_at (seen ++ marks ∷ []) count b ≡ marks_at seen count b
marks_there seen marks count n b e differ = by_test (nat_lt b count) refl
  where
    by_test : (c : Bool) → nat_lt b count ≡ c
        → (if c then get_or (seen ++ marks ∷ []) (count - 1 - b) no_locals else no_locals) ≡ (if c then get_or seen (count - 1 - b) no_locals else no_locals)
    by_test true t =
        let less : b < count = grind (arith, nat_tests, t) in
        get_others seen marks no_locals (count - 1 - b) (λ q. differ (omega (arith, e, less, q)))
    by_test false t = refl

live_here : (n : ℕ) (body : NormalBlock) (rest : List NormalBlock) (y : ℕ)
    → live_from n (body ∷ rest) n y ≡ lets_live body.lets (term_live (live_from (suc n) rest) body.term) y
live_here n body rest y =
    let t : (n == n) ≡ true = grind (arith, nat_tests) in
    ap (λ c. if c then lets_live body.lets (term_live (live_from (suc n) rest) body.term) y else live_from (suc n) rest n y) t

live_there : (n b : ℕ) (body : NormalBlock) (rest : List NormalBlock) (y : ℕ) → (n ≡ b → ⊥) → live_from n (body ∷ rest) b y ≡ live_from (suc n) rest b y
live_there n b body rest y differ = by_test (b == n) refl
  where
    by_test : (c : Bool) → (b == n) ≡ c
        → (if c then lets_live body.lets (term_live (live_from (suc n) rest) body.term) y else live_from (suc n) rest b y) ≡ live_from (suc n) rest b y
    by_test true t = absurd (differ (grind (arith, nat_tests, t)))
    by_test false t = refl

one_more : (blocks : List NormalBlock) (n : ℕ) (seen : List LocalSet) (marks : LocalSet) (body : NormalBlock) → drop n blocks ≡ body ∷ drop (suc n) blocks
    → IsMarked marks (lets_live body.lets (term_live (told seen (length blocks)) body.term)) → AreSeen blocks (suc n) seen → AreSeen blocks n (seen ++ marks ∷ [])
one_more blocks n seen marks body is m s = record {
  count = (let more = length-append seen (marks ∷ []) in let count = s.count in omega (arith, more, count));
  tells = λ b y h. tells_of b y h (same_or_not n b);
}
  where
    tells_of : (b y : ℕ) → y < 256 → (n ≡ b) ⊎ (n ≡ b → ⊥) → told (seen ++ marks ∷ []) (length blocks) b y ≡ live_from n (drop n blocks) b y
    tells_of b y h (inl e) =
        let here : told (seen ++ marks ∷ []) (length blocks) n y ≡ live_from n (drop n blocks) n y =
        ap (λ ms. has ms y) (marks_here seen marks (length blocks) n s.count)
        ∙ m.each y h
        ∙ lets_same body.lets (term_live (told seen (length blocks)) body.term) (term_live (live_from (suc n) (drop (suc n) blocks)) body.term) y
        (term_same (told seen (length blocks)) (live_from (suc n) (drop (suc n) blocks)) body.term y (λ k. s.tells k y h))
        ∙ sym (live_here n body (drop (suc n) blocks) y)
        ∙ sym (ap (λ l. live_from n l n y) is) in
        subst (λ k. told (seen ++ marks ∷ []) (length blocks) k y ≡ live_from n (drop n blocks) k y) e here
    tells_of b y h (inr differ) =
        ap (λ ms. has ms y) (marks_there seen marks (length blocks) n b s.count differ)
        ∙ s.tells b y h
        ∙ sym (live_there n b body (drop (suc n) blocks) y differ)
        ∙ sym (ap (λ l. live_from n l b y) is)

block_here : (bs : List DeclaredBlock) (n : ℕ) (d : DeclaredBlock) → n < length bs
    → drop n (map block_of bs) ≡ block_of (get_or bs n d) ∷ drop (suc n) (map block_of bs)
block_here [] n d h = absurd (omega (arith, h))
block_here (b ∷ bs) zero d h = refl
block_here (b ∷ bs) (suc n) d h = block_here bs n d (omega (arith, h))

pub map_length : {A B : Type 0} (f : A → B) (xs : List A) → length (map f xs) ≡ length xs
map_length f [] = refl
map_length f (x ∷ xs) = ap suc (map_length f xs)

-- one block more is seen, that in front of the others
pub seen_more : (bs : List DeclaredBlock) (n left count : ℕ) (seen later next : List LocalSet) (marks : LocalSet) (body : DeclaredBlock)
    → left ≡ suc n → left ≤ length bs → count ≡ length bs → later ≡ seen → next ≡ seen ++ marks ∷ [] → body ≡ get_or bs n body
    → IsMarked marks (lets_live (block_of body).lets (term_live (told later count) (block_of body).term))
    → AreSeen (map block_of bs) left seen → AreSeen (map block_of bs) n next
seen_more bs n left count seen later next marks body is h full same more here m s =
    subst (AreSeen (map block_of bs) n) (sym more)
    (one_more (map block_of bs) n seen marks (block_of body)
    (block_here bs n body (omega (arith, is, h)) ∙ ap (λ b. block_of b ∷ drop (suc n) (map block_of bs)) (sym here))
    (subst (λ k. IsMarked marks (lets_live (block_of body).lets (term_live (told k (length (map block_of bs))) (block_of body).term))) same
    (subst (λ k. IsMarked marks (lets_live (block_of body).lets (term_live (told later k) (block_of body).term))) (full ∙ sym (map_length block_of bs)) m))
    (subst (λ k. AreSeen (map block_of bs) k seen) is s))

-- before the first step
pub seen_start : (count : ℕ) (bs : List DeclaredBlock) → count ≡ length bs → AreSeen (map block_of bs) count []
seen_start count bs e = subst (λ k. AreSeen (map block_of bs) k []) (map_length block_of bs ∙ sym e) (seen_none (map block_of bs))

-- ---- parameters

filter_same : (p q : ℕ → Bool) (a n : ℕ) → ((y : ℕ) → y < a + n → p y ≡ q y) → filter p (range_with_len a n) ≡ filter q (range_with_len a n)
filter_same p q a zero h = refl
filter_same p q a (suc n) h =
    ap (λ b. cond b (a ∷ filter p (range_with_len (a + 1) n)) (filter p (range_with_len (a + 1) n))) (h a (omega arith))
    ∙ ap (λ l. cond (q a) (a ∷ l) l) (filter_same p q (a + 1) n (λ y less. h y (omega (arith, less))))

params_same : (f : NormalFunction) (seen : List LocalSet) (n : ℕ) → local_count f ≤ 256 → AreSeen f.blocks 0 seen
    → told_params (length f.params) (local_count f) seen n ≡ live_params f n
params_same f seen zero few s = refl
params_same f seen (suc n) few s =
    let count = s.count in
    let full : length seen ≡ length f.blocks = omega (arith, count) in
    filter_same (has (marks_at seen (length seen) (suc n))) (live_from 0 f.blocks (suc n)) 0 (local_count f) (λ y less. ap (λ k. told seen k (suc n) y) full ∙ s.tells (suc n) y (omega (arith, less, few)))

coded_same : (takes other : ℕ → List ℕ) (number : ℕ) (bs : List NormalBlock) → ((n : ℕ) → n < number + length bs → takes n ≡ other n)
    → coded_blocks takes number bs ≡ coded_blocks other number bs
coded_same takes other number [] h = refl
coded_same takes other number (b ∷ bs) h =
    ap (λ ps. record { params = ps; lets = b.lets; term = b.term } ∷ coded_blocks takes (suc number) bs) (h number (omega arith))
    ∙ ap (λ l. record { params = other number; lets = b.lets; term = b.term } ∷ l) (coded_same takes other (suc number) bs (λ n less. h n (omega (arith, less))))

-- the blocks with the parameters that are told are those with what is live
pub blocks_same : (f : NormalFunction) (seen : List LocalSet) → local_count f ≤ 256 → AreSeen f.blocks 0 seen
    → coded_blocks (told_params (length f.params) (local_count f) seen) 0 f.blocks ≡ coded_blocks (live_params f) 0 f.blocks
blocks_same f seen few s = coded_same (told_params (length f.params) (local_count f) seen) (live_params f) 0 f.blocks (λ n less. params_same f seen n few s)

-- all blocks are seen
pub seen_all : (left : ℕ) (bs : List DeclaredBlock) (seen : List LocalSet) → left ≡ 0 → AreSeen (map block_of bs) left seen → AreSeen (map block_of bs) 0 seen
seen_all left bs seen e s = subst (λ k. AreSeen (map block_of bs) k seen) e s

-- where nothing was live before
pub block_alone : (ms : LocalSet) (ls : List Let) (live : Marks) (before : LocalSet) → IsMarked before none_live
    → ((given : Marks) → IsMarked before given → IsMarked ms (lets_live ls (either_live live given))) → IsMarked ms (lets_live ls live)
block_alone ms ls live before none made = marked_alone ms ls live (made none_live none)
