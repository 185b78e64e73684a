-- The lines of a function, taken block by block.
use Rattle.std.proofs.Common.{◌≡◌, ◌⊎◌, ◌↔◌, ℕ, ◌+◌, ◌-◌, ◌<◌, ◌≤◌, Bool, true, false, List, [], ◌∷◌, length, map, Option, Some, None, IsTrue, MatchOption, inl, inr, refl, sym, ap, ◌∙◌, subst, arith}
use Rattle.std.specs.Prelude.{slice_get, nat_le, nat_lt, ◌==◌, ◌&&◌, ◌||◌, if◌then◌else◌, min, IsSomeAnd}
use Rattle.std.specs.List.{AllByRecursion}
use Rattle.std.proofs.lemmas.Bool.{cases_lt}
use Rattle.std.proofs.lemmas.Bool.Decides.{nat_tests}
use Rattle.std.proofs.lemmas.Option.{slice_get_past}
use Rattle.camelot_values.specs.Lists.{Ascend, is_among}
use Rattle.grail_blocks.specs.Events.{params_at}
use Rattle.grail_code.specs.Code.{Block, Func, Code}
use Rattle.certificate.specs.Certificates.{BlockCert, MakeCert, FuncCert, MakesAscend, FuncIsFormed}
use Rattle.licence.specs.Fitting.{VarFits, OwnFit, BuildFits, MakeFits, IsRightAt}
use Rattle.certificate_fit.specs.Shapes.{lines_from, makes_from, AreLinesFrom, AreMakesFrom, LineIsRight, VarsFitAt, LineFits, MakesFitAt, first_left, AreRight, IsLeastWrong}

abbrev pub blocks_of : List BlockCert → List ℕ
blocks_of lines = map (λ b. b.block) lines

-- ---- further on, the same is left

pub lines_on : (n k : ℕ) → n ≤ k → (lines : List BlockCert) → lines_from k (lines_from n lines) ≡ lines_from k lines
lines_on n k le [] = refl
lines_on n k le (b ∷ bs) = by_test (nat_lt b.block n) refl (lines_on n k le bs)
  where
    by_test : (t : Bool) → nat_lt b.block n ≡ t → lines_from k (lines_from n bs) ≡ lines_from k bs
        → lines_from k (if t then lines_from n bs else b ∷ bs) ≡ lines_from k (b ∷ bs)
    by_test true e f = let past : nat_lt b.block k ≡ true = grind (arith, nat_tests, e, le) in f ∙ sym (ap (λ t. if t then lines_from k bs else b ∷ bs) past)
    by_test false e f = refl

pub makes_on : (n k : ℕ) → n ≤ k → (makes : List MakeCert) → makes_from k (makes_from n makes) ≡ makes_from k makes
makes_on n k le [] = refl
makes_on n k le (m ∷ ms) = by_test (nat_lt m.block n) refl (makes_on n k le ms)
  where
    by_test : (t : Bool) → nat_lt m.block n ≡ t → makes_from k (makes_from n ms) ≡ makes_from k ms
        → makes_from k (if t then makes_from n ms else m ∷ ms) ≡ makes_from k (m ∷ ms)
    by_test true e f = let past : nat_lt m.block k ≡ true = grind (arith, nat_tests, e, le) in f ∙ sym (ap (λ t. if t then makes_from k ms else m ∷ ms) past)
    by_test false e f = refl

-- ---- order

pub later_ascend : (x : ℕ) (xs : List ℕ) → Ascend (x ∷ xs) → Ascend xs
later_ascend x [] h = tt
later_ascend x (y ∷ ys) h = h.1

-- the first one is the least
pub lines_above : (n : ℕ) (lines : List BlockCert) → Ascend (blocks_of lines) → (b : BlockCert) → Ascend (blocks_of (b ∷ lines)) → n ≤ b.block
    → AllByRecursion (λ x. n ≤ x.block) lines
lines_above n [] h b k le = tt
lines_above n (c ∷ lines) h b k le = (omega (arith, k.0, le), lines_above n lines (later_ascend c.block (blocks_of lines) h) c h (omega (arith, k.0, le)))

pub lines_are_from : (n : ℕ) (lines : List BlockCert) → Ascend (blocks_of lines) → AreLinesFrom n (lines_from n lines)
lines_are_from n [] h = record { ascending = tt; from = tt }
lines_are_from n (b ∷ bs) h = by_test (nat_lt b.block n) refl (lines_are_from n bs (later_ascend b.block (blocks_of bs) h))
  where
    by_test : (t : Bool) → nat_lt b.block n ≡ t → AreLinesFrom n (lines_from n bs) → AreLinesFrom n (if t then lines_from n bs else b ∷ bs)
    by_test true e f = f
    by_test false e f = let here : n ≤ b.block = grind (arith, nat_tests, e) in record { ascending = h; from = (here, lines_above n bs (later_ascend b.block (blocks_of bs) h) b h here) }

pub later_makes : (m : MakeCert) (ms : List MakeCert) → MakesAscend (m ∷ ms) → MakesAscend ms
later_makes m [] h = tt
later_makes m (n ∷ ms) h = h.2

pub makes_above : (n : ℕ) (makes : List MakeCert) (m : MakeCert) → MakesAscend (m ∷ makes) → n ≤ m.block → AllByRecursion (λ x. n ≤ x.block) makes
makes_above n [] m k le = tt
makes_above n (c ∷ makes) m k le = (omega (arith, k.0, le), makes_above n makes c k.2 (omega (arith, k.0, le)))

pub makes_are_from : (n : ℕ) (makes : List MakeCert) → MakesAscend makes → AreMakesFrom n (makes_from n makes)
makes_are_from n [] h = record { ascending = tt; from = tt }
makes_are_from n (m ∷ ms) h = by_test (nat_lt m.block n) refl (makes_are_from n ms (later_makes m ms h))
  where
    by_test : (t : Bool) → nat_lt m.block n ≡ t → AreMakesFrom n (makes_from n ms) → AreMakesFrom n (if t then makes_from n ms else m ∷ ms)
    by_test true e f = f
    by_test false e f = let here : n ≤ m.block = grind (arith, nat_tests, e) in record { ascending = h; from = (here, makes_above n ms m h here) }

-- ---- what is left out says nothing of later blocks

pub among_from : (n k : ℕ) → n ≤ k → (lines : List BlockCert) → is_among (blocks_of (lines_from n lines)) k ≡ is_among (blocks_of lines) k
among_from n k le [] = refl
among_from n k le (b ∷ bs) = by_test (nat_lt b.block n) refl (among_from n k le bs)
  where
    by_test : (t : Bool) → nat_lt b.block n ≡ t → is_among (blocks_of (lines_from n bs)) k ≡ is_among (blocks_of bs) k
        → is_among (blocks_of (if t then lines_from n bs else b ∷ bs)) k ≡ ((b.block == k) || is_among (blocks_of bs) k)
    by_test true e f = let other : (b.block == k) ≡ false = grind (arith, nat_tests, e, le) in f ∙ ap (λ t. t || is_among (blocks_of bs) k) (sym other)
    by_test false e f = refl

pub lines_whole : (n k : ℕ) → n ≤ k → (Q : BlockCert → Type 0) (lines : List BlockCert)
    → AllByRecursion (λ b. b.block ≡ k → Q b) (lines_from n lines) ↔ AllByRecursion (λ b. b.block ≡ k → Q b) lines
lines_whole n k le Q [] = (λ h. h, λ h. h)
lines_whole n k le Q (b ∷ bs) = by_test (nat_lt b.block n) refl (lines_whole n k le Q bs)
  where
    by_test : (t : Bool) → nat_lt b.block n ≡ t → AllByRecursion (λ b. b.block ≡ k → Q b) (lines_from n bs) ↔ AllByRecursion (λ b. b.block ≡ k → Q b) bs
        → AllByRecursion (λ b. b.block ≡ k → Q b) (if t then lines_from n bs else b ∷ bs) ↔ AllByRecursion (λ b. b.block ≡ k → Q b) (b ∷ bs)
    by_test true e f = (λ h. (λ same. let less : b.block < n = grind (arith, nat_tests, e) in absurd (omega (arith, less, same, le)), f.0 h), λ h. f.1 h.1)
    by_test false e f = (λ h. h, λ h. h)

pub makes_whole : (n k : ℕ) → n ≤ k → (Q : MakeCert → Type 0) (makes : List MakeCert) → AllByRecursion (λ m. m.block ≡ k → Q m) (makes_from n makes)
    ↔ AllByRecursion (λ m. m.block ≡ k → Q m) makes
makes_whole n k le Q [] = (λ h. h, λ h. h)
makes_whole n k le Q (m ∷ ms) = by_test (nat_lt m.block n) refl (makes_whole n k le Q ms)
  where
    by_test : (t : Bool) → nat_lt m.block n ≡ t → AllByRecursion (λ m. m.block ≡ k → Q m) (makes_from n ms) ↔ AllByRecursion (λ m. m.block ≡ k → Q m) ms
        → AllByRecursion (λ m. m.block ≡ k → Q m) (if t then makes_from n ms else m ∷ ms) ↔ AllByRecursion (λ m. m.block ≡ k → Q m) (m ∷ ms)
    by_test true e f = (λ h. (λ same. let less : m.block < n = grind (arith, nat_tests, e) in absurd (omega (arith, less, same, le)), f.0 h), λ h. f.1 h.1)
    by_test false e f = (λ h. h, λ h. h)

-- a block is right exactly where its parts are, by the lines that are left
pub right_by_parts : (p : Code) (f : Func) (c : FuncCert) (n k : ℕ) (lines : List BlockCert) (makes : List MakeCert) → n ≤ k
    → lines ≡ lines_from n c.blocks → makes ≡ makes_from n c.makes
    → (k ≡ 0 → OwnFit p f c) → LineIsRight f lines k → VarsFitAt p f lines k → MakesFitAt p f makes k → IsRightAt p f c k
right_by_parts p f c n k lines makes le e d own line vars fit = record {
  own = own;
  line = sym (among_from n k le c.blocks) ∙ ap (λ ls. is_among (blocks_of ls) k) (sym e) ∙ line;
  vars = (lines_whole n k le (λ b. AllByRecursion (VarFits p.types f (params_at f.blocks k)) b.vars) c.blocks).0 (subst (λ ls. VarsFitAt p f ls k) e vars);
  makes = (makes_whole n k le (MakeFits p f) c.makes).0 (subst (λ ms. MakesFitAt p f ms k) d fit);
}

pub line_of_right : (p : Code) (f : Func) (c : FuncCert) (n k : ℕ) (lines : List BlockCert) → n ≤ k → lines ≡ lines_from n c.blocks
    → IsRightAt p f c k → LineIsRight f lines k
line_of_right p f c n k lines le e r = ap (λ ls. is_among (blocks_of ls) k) e ∙ among_from n k le c.blocks ∙ r.line

pub vars_of_right : (p : Code) (f : Func) (c : FuncCert) (n k : ℕ) (lines : List BlockCert) → n ≤ k → lines ≡ lines_from n c.blocks
    → IsRightAt p f c k → VarsFitAt p f lines k
vars_of_right p f c n k lines le e r = subst (λ ls. VarsFitAt p f ls k) (sym e) ((lines_whole n k le (λ b. AllByRecursion (VarFits p.types f (params_at f.blocks k)) b.vars) c.blocks).1 r.vars)

pub makes_of_right : (p : Code) (f : Func) (c : FuncCert) (n k : ℕ) (makes : List MakeCert) → n ≤ k → makes ≡ makes_from n c.makes
    → IsRightAt p f c k → MakesFitAt p f makes k
makes_of_right p f c n k makes le e r = subst (λ ms. MakesFitAt p f ms k) (sym e) ((makes_whole n k le (MakeFits p f) c.makes).1 r.makes)

-- ---- no line of a block

pub none_among : (n k : ℕ) (lines : List BlockCert) → AllByRecursion (λ b. n ≤ b.block) lines → k < n → is_among (blocks_of lines) k ≡ false
none_among n k [] h less = refl
none_among n k (b ∷ bs) h less = let other : (b.block == k) ≡ false = grind (arith, nat_tests, h.0, less) in ap (λ t. t || is_among (blocks_of bs) k) other ∙ none_among n k bs h.1 less

pub no_lines : (n k : ℕ) (Q : BlockCert → Type 0) (lines : List BlockCert) → AllByRecursion (λ b. n ≤ b.block) lines → k < n
    → AllByRecursion (λ b. b.block ≡ k → Q b) lines
no_lines n k Q [] h less = tt
no_lines n k Q (b ∷ bs) h less = (λ same. absurd (omega (arith, h.0, less, same)), no_lines n k Q bs h.1 less)

pub no_makes : (n k : ℕ) (Q : MakeCert → Type 0) (makes : List MakeCert) → AllByRecursion (λ m. n ≤ m.block) makes → k < n
    → AllByRecursion (λ m. m.block ≡ k → Q m) makes
no_makes n k Q [] h less = tt
no_makes n k Q (m ∷ ms) h less = (λ same. absurd (omega (arith, h.0, less, same)), no_makes n k Q ms h.1 less)

-- ---- those that are left

pub lines_left : (c : FuncCert) (n : ℕ) (lines : List BlockCert) → FuncIsFormed c → lines ≡ lines_from n c.blocks → AreLinesFrom n lines
lines_left c n lines formed e = subst (AreLinesFrom n) (sym e) (lines_are_from n c.blocks formed.blocks)

pub makes_left : (c : FuncCert) (n : ℕ) (makes : List MakeCert) → FuncIsFormed c → makes ≡ makes_from n c.makes → AreMakesFrom n makes
makes_left c n makes formed e = subst (AreMakesFrom n) (sym e) (makes_are_from n c.makes formed.makes)

-- a block with its lines in front of those that are left
pub wrong_line : (p : Code) (f : Func) (c : FuncCert) (n : ℕ) (lines : List BlockCert) → lines ≡ lines_from n c.blocks → (LineFits p f lines n → ⊥)
    → IsTrue false ↔ IsRightAt p f c n
wrong_line p f c n lines e wrong = (λ h. let k : false ≡ true = h in absurd cc, λ r. absurd (wrong (line_of_right p f c n n lines (omega arith) e r, vars_of_right p f c n n lines (omega arith) e r)))

pub right_exactly : (p : Code) (f : Func) (c : FuncCert) (n : ℕ) (lines : List BlockCert) (makes : List MakeCert) (t : Bool)
    → lines ≡ lines_from n c.blocks → makes ≡ makes_from n c.makes
    → (n ≡ 0 → OwnFit p f c) → LineFits p f lines n → IsTrue t ↔ MakesFitAt p f makes n → IsTrue t ↔ IsRightAt p f c n
right_exactly p f c n lines makes t e d own line h =
    (λ k. right_by_parts p f c n n lines makes (omega arith) e d own line.0 line.1 (h.0 k), λ r. h.1 (makes_of_right p f c n n makes (omega arith) d r))

-- ---- the walk over the blocks

-- the blocks before this one are right, and of these lines the later ones are left
pub record Walked (p : Code) (f : Func) (c : FuncCert) (n : ℕ) (lines : List BlockCert) (makes : List MakeCert) : Type 0 where
  pub right : (k : ℕ) → k < n → IsRightAt p f c k
  pub lines_same : (k : ℕ) → n ≤ k → lines_from k lines ≡ lines_from k c.blocks
  pub makes_same : (k : ℕ) → n ≤ k → makes_from k makes ≡ makes_from k c.makes

pub walk_begins : (p : Code) (f : Func) (c : FuncCert) (lines : List BlockCert) (makes : List MakeCert) → lines ≡ c.blocks → makes ≡ c.makes
    → Walked p f c 0 lines makes
walk_begins p f c lines makes e d = record { right = λ k less. absurd (omega (arith, less)); lines_same = λ k le. ap (lines_from k) e; makes_same = λ k le. ap (makes_from k) d }

pub walk_goes_on : (p : Code) (f : Func) (c : FuncCert) (n : ℕ) (lines lines' : List BlockCert) (makes makes' : List MakeCert)
    → Walked p f c n lines makes → lines' ≡ lines_from n lines → makes' ≡ makes_from n makes → IsRightAt p f c n → Walked p f c (n + 1) lines' makes'
walk_goes_on p f c n lines lines' makes makes' w e d here = record {
  right = λ k less. by_order k less (cases_lt k n);
  lines_same = λ k le. ap (lines_from k) e ∙ lines_on n k (omega (arith, le)) lines ∙ w.lines_same k (omega (arith, le));
  makes_same = λ k le. ap (makes_from k) d ∙ makes_on n k (omega (arith, le)) makes ∙ w.makes_same k (omega (arith, le));
}
  where
    by_order : (k : ℕ) → k < n + 1 → (k < n) ⊎ (n ≤ k) → IsRightAt p f c k
    by_order k less (inl before) = w.right k before
    by_order k less (inr from) = let same : n ≡ k = omega (arith, less, from) in subst (IsRightAt p f c) same here

pub walk_stops : (p : Code) (f : Func) (c : FuncCert) (n : ℕ) (lines : List BlockCert) (makes : List MakeCert) → Walked p f c n lines makes
    → (IsRightAt p f c n → ⊥) → IsLeastWrong p f c n
walk_stops p f c n lines makes w wrong = record { before = w.right; wrong = wrong }

-- ---- behind the last block

module _ (p : Code) (f : Func) (c : FuncCert) (n : ℕ) (all : n ≡ length f.blocks) (some : 1 ≤ n) (right : (k : ℕ) → k < n → IsRightAt p f c k) where
  -- no block that isn't there has a line
  not_later : (k : ℕ) → n ≤ k → (nat_le 1 k && nat_lt k (length f.blocks)) ≡ false
  not_later k le = let past : nat_lt k (length f.blocks) ≡ false = grind (arith, nat_tests, le, all) in and_false (nat_le 1 k) (nat_lt k (length f.blocks)) past
    where
      and_false : (a b : Bool) → b ≡ false → (a && b) ≡ false
      and_false true b e = e
      and_false false b e = refl

  -- where all that is left is of later blocks, a block is right
  right_below : (lines : List BlockCert) (makes : List MakeCert) (least : ℕ) → lines ≡ lines_from n c.blocks → makes ≡ makes_from n c.makes
      → AllByRecursion (λ b. least ≤ b.block) lines → AllByRecursion (λ m. least ≤ m.block) makes → (k : ℕ) → k < least → IsRightAt p f c k
  right_below lines makes least e d hl hm k less = by_order (cases_lt k n)
    where
      by_order : (k < n) ⊎ (n ≤ k) → IsRightAt p f c k
      by_order (inl before) = right k before
      by_order (inr from) = right_by_parts p f c n k lines makes from e d
          (λ first. absurd (omega (arith, first, from, some)))
          (none_among least k lines hl less ∙ sym (not_later k from))
          (no_lines least k (λ b. AllByRecursion (VarFits p.types f (params_at f.blocks k)) b.vars) lines hl less)
          (no_makes least k (MakeFits p f) makes hm less)

  -- the block of a line that is left is wrong
  line_wrong : (b : BlockCert) (bs : List BlockCert) → b ∷ bs ≡ lines_from n c.blocks → n ≤ b.block → IsRightAt p f c b.block → ⊥
  line_wrong b bs e le r =
      let line : LineIsRight f (b ∷ bs) b.block = line_of_right p f c n b.block (b ∷ bs) le e r in
      let there : is_among (blocks_of (b ∷ bs)) b.block ≡ true = grind (arith, nat_tests) in
      let k : true ≡ false = sym there ∙ line ∙ not_later b.block le in
      absurd cc

  make_wrong : (m : MakeCert) (ms : List MakeCert) → m ∷ ms ≡ makes_from n c.makes → n ≤ m.block → IsRightAt p f c m.block → ⊥
  make_wrong m ms e le r =
      let fits : MakesFitAt p f (m ∷ ms) m.block = makes_of_right p f c n m.block (m ∷ ms) le e r in
      let past : slice_get f.blocks m.block ≡ None = slice_get_past f.blocks m.block (omega (arith, le, all)) in
      no_block (slice_get f.blocks m.block) past (fits.0 refl)
    where
      no_block : (o : Option Block) → o ≡ None
          → (1 ≤ m.place) × IsSomeAnd o (λ b. IsSomeAnd (slice_get b.lets (m.place - 1)) (λ l. BuildFits p m.vector l.op)) → ⊥
      no_block None k h = h.1
      no_block (Some b) k h = absurd cc

  -- what is left decides
  decided : (lines : List BlockCert) (makes : List MakeCert) → lines ≡ lines_from n c.blocks → makes ≡ makes_from n c.makes → AreLinesFrom n lines
      → AreMakesFrom n makes → MatchOption (first_left lines makes) (AreRight p f c) (λ number. IsLeastWrong p f c number)
  decided [] [] e d hl hm = λ k. right_below [] [] (k + 1) e d tt tt k (omega arith)
  decided (b ∷ bs) [] e d hl hm = record {
    before = right_below (b ∷ bs) [] b.block e d (omega arith, lines_above b.block bs (later_ascend b.block (blocks_of bs) hl.ascending) b hl.ascending (omega arith)) tt;
    wrong = line_wrong b bs e hl.from.0;
  }
  decided [] (m ∷ ms) e d hl hm = record {
    before = right_below [] (m ∷ ms) m.block e d tt (omega arith, makes_above m.block ms m hm.ascending (omega arith));
    wrong = make_wrong m ms d hm.from.0;
  }
  decided (b ∷ bs) (m ∷ ms) e d hl hm = record {
    before = right_below (b ∷ bs) (m ∷ ms) (min b.block m.block) e d
        (omega arith, lines_above (min b.block m.block) bs (later_ascend b.block (blocks_of bs) hl.ascending) b hl.ascending (omega arith))
        (omega arith, makes_above (min b.block m.block) ms m hm.ascending (omega arith));
    wrong = by_order (cases_lt b.block m.block);
  }
    where
      by_order : (b.block < m.block) ⊎ (m.block ≤ b.block) → IsRightAt p f c (min b.block m.block) → ⊥
      by_order (inl less) = let is : b.block ≡ min b.block m.block = omega (arith, less) in subst (λ k. IsRightAt p f c k → ⊥) is (line_wrong b bs e hl.from.0)
      by_order (inr le) = let is : m.block ≡ min b.block m.block = omega (arith, le) in subst (λ k. IsRightAt p f c k → ⊥) is (make_wrong m ms d hm.from.0)

pub walk_ends : (p : Code) (f : Func) (c : FuncCert) (n : ℕ) (lines lines' : List BlockCert) (makes makes' : List MakeCert) (o : Option ℕ)
    → FuncIsFormed c → n ≡ length f.blocks → 1 ≤ n → Walked p f c n lines makes
    → lines' ≡ lines_from n lines → makes' ≡ makes_from n makes → o ≡ first_left lines' makes' → MatchOption o (AreRight p f c) (λ number. IsLeastWrong p f c number)
walk_ends p f c n lines lines' makes makes' o formed all some w e d is =
    let el = e ∙ w.lines_same n (omega arith) in
    let em = d ∙ w.makes_same n (omega arith) in
    subst (λ o. MatchOption o (AreRight p f c) (λ number. IsLeastWrong p f c number)) (sym is)
    (decided p f c n all some w.right lines' makes' el em (lines_left c n lines' formed el) (makes_left c n makes' formed em))
