-- What is live in front of lines, and that it is the same for the blocks into which they are cut.
use Rattle.std.proofs.Common.{◌≡◌, ℕ, suc, ◌+◌, ◌≤◌, Bool, true, false, List, [], ◌∷◌, ◌++◌, refl, sym, ap, ◌∙◌, subst, arith}
use Rattle.std.specs.Prelude.{◌==◌, ◌||◌, if◌then◌else◌}
use Rattle.std.proofs.lemmas.Bool.Decides.{nat_tests}
use Rattle.camelot_values.specs.Lists.{is_among}
use Rattle.grail_blocks.specs.Blocks as block
use Rattle.grail_blocks.specs.Blocks.{Term}
use Rattle.grail_blocks.specs.Events.{Reads, operands_of}
use Rattle.grail_code.specs.WellFormed.{looked_at}
use Rattle.normal_form.specs.Normal.{NormalBlock, Line, Bind, Close, in_first, cut}
use Rattle.normal_form.specs.Live.{Marks, LaterMarks, unless_bound, onward_live, term_live, block_live, live_from, op_taken, op_read, term_taken, term_read, Once, BlocksOnce}
use Rattle.normal_form.proofs.Lines.{closes, IsClosed, EndsClosed, ends_is_closed}
use Rattle.normal_form.proofs.Looked.{among_append, looks, looks_append}

abbrev mutual
  pub live_here : ℕ → List Line → Marks
  live_here number [] x = false
  live_here number (Bind l ∷ lines) x = is_among (operands_of l.op) x || unless_bound l.target (live_here number lines) x
  live_here number (Close t ∷ lines) x = term_live (λ b y. if b == suc number then live_here (suc number) lines y else live_behind (suc number) lines b y) t x

  pub live_behind : ℕ → List Line → LaterMarks
  live_behind number [] b x = false
  live_behind number (Bind l ∷ lines) b x = live_behind number lines b x
  live_behind number (Close t ∷ lines) b x = if b == suc number then live_here (suc number) lines x else live_behind (suc number) lines b x

-- which locals are owned, and the marks of the functions that are called
pub record Ownership : Type 0 where
  pub reads : Reads
  pub owned : ℕ → Bool

-- none of these lines takes an owned local that is read or taken again
abbrev pub AllOnce : Ownership → ℕ → List Line → Type 0
AllOnce o number [] = Unit {0}
AllOnce o number (Bind l ∷ lines) = Once o.owned (op_taken o.reads l.op) (op_read o.reads l.op) (unless_bound l.target (live_here number lines)) × AllOnce o number lines
AllOnce o number (Close t ∷ lines) =
    Once o.owned (term_taken o.reads t) (term_read o.reads t) (onward_live (λ b y. if b == suc number then live_here (suc number) lines y else live_behind (suc number) lines b y) t)
    × AllOnce o (suc number) lines

-- ---- jumps

ends_some : (xs : List Line) → EndsClosed xs → 1 ≤ closes xs
ends_some [] h = absurd h
ends_some (Bind l ∷ xs) h = ends_some xs h
ends_some (Close t ∷ xs) h = omega arith

closed_ends : (x : Line) (xs : List Line) → IsClosed (x ∷ xs) → EndsClosed (x ∷ xs)
closed_ends (Bind l) xs h = h
closed_ends (Close t) xs h = h

-- what is live at the block that begins behind so many ends
pub live_in : (n : ℕ) (xs ys : List Line) (b y : ℕ) → EndsClosed xs → b ≡ n + closes xs → live_behind n (xs ++ ys) b y ≡ live_here b ys y
live_in n [] ys b y h is = absurd h
live_in n (Bind l ∷ xs) ys b y h is = live_in n xs ys b y h is
live_in n (Close t ∷ []) ys b y h is =
    let test : (b == suc n) ≡ true = grind (arith, nat_tests, is) in
    ap (λ x. if x then live_here (suc n) ys y else live_behind (suc n) ys b y) test
    ∙ (let same : suc n ≡ b = omega (arith, is) in ap (λ m. live_here m ys y) same)
live_in n (Close t ∷ x ∷ xs) ys b y h is =
    let some : 1 ≤ closes (x ∷ xs) = ends_some (x ∷ xs) (closed_ends x xs h) in
    let far : n + suc (closes (x ∷ xs)) ≡ b = sym is in
    let test : (b == suc n) ≡ false = grind (arith, nat_tests, far, some) in
    ap (λ z. if z then live_here (suc n) ((x ∷ xs) ++ ys) y else live_behind (suc n) ((x ∷ xs) ++ ys) b y) test
    ∙ live_in (suc n) (x ∷ xs) ys b y (closed_ends x xs h) (omega (arith, far))

-- ---- blocks

abbrev behind_first : List NormalBlock → List NormalBlock
behind_first [] = []
behind_first (b ∷ bs) = bs

behind_cut : (l : block.Let) (bs : List NormalBlock) → behind_first (in_first l bs) ≡ behind_first bs
behind_cut l [] = refl
behind_cut l (b ∷ bs) = refl

-- at the beginning of the first of these blocks
abbrev pub first_live : ℕ → List NormalBlock → Marks
first_live number [] y = false
first_live number (b ∷ bs) y = block_live (live_from (suc number) bs) b y

either_false : (t : Bool) → (if t then false else false) ≡ false
either_false true = refl
either_false false = refl

live_split : (first : ℕ) (bs : List NormalBlock) (b y : ℕ)
    → live_from first bs b y ≡ (if b == first then first_live first bs y else live_from (suc first) (behind_first bs) b y)
live_split first [] b y = sym (either_false (b == first))
live_split first (x ∷ bs) b y = refl

abbrev some_block : List Line → Type 0
some_block lines = (b : NormalBlock) × (bs : List NormalBlock) × (cut lines ≡ b ∷ bs)

ends_block : (lines : List Line) → EndsClosed lines → some_block lines
ends_block [] h = absurd h
ends_block (Bind l ∷ lines) h = let r = ends_block lines h in (record { lets = l ∷ r.0.lets; term = r.0.term }, r.1, ap (in_first l) r.2)
ends_block (Close t ∷ lines) h = (record { lets = []; term = t }, cut lines, refl)

-- what is live behind the end of a block, by its lines
abbrev pub later_lines : ℕ → List Line → LaterMarks
later_lines number lines b y = if b == suc number then live_here (suc number) lines y else live_behind (suc number) lines b y

close_live : (number : ℕ) (lines : List Line) → ((y : ℕ) → first_live (suc number) (cut lines) y ≡ live_here (suc number) lines y)
    → ((b y : ℕ) → live_from (suc (suc number)) (behind_first (cut lines)) b y ≡ live_behind (suc number) lines b y) → (b y : ℕ)
    → live_from (suc number) (cut lines) b y ≡ later_lines number lines b y
close_live number lines first later b y =
    live_split (suc number) (cut lines) b y
    ∙ ap (λ o. if b == suc number then o else live_from (suc (suc number)) (behind_first (cut lines)) b y) (first y)
    ∙ ap (λ o. if b == suc number then live_here (suc number) lines y else o) (later b y)

mutual
  pub cut_live : (number : ℕ) (lines : List Line) → IsClosed lines → (y : ℕ) → first_live number (cut lines) y ≡ live_here number lines y
  cut_live number [] h y = refl
  cut_live number (Bind l ∷ lines) h y =
      let r = ends_block lines h in
      ap (λ bs. first_live number (in_first l bs) y) r.2
      ∙ ap (λ m. is_among (operands_of l.op) y || unless_bound l.target m y) (λ i x. (ap (λ bs. first_live number bs x) (sym r.2) ∙ cut_live number lines (ends_is_closed lines h) x) i)
  cut_live number (Close t ∷ lines) h y =
      ap (λ later. term_live later t y) (λ i b x. close_live number lines (cut_live (suc number) lines h) (cut_later (suc number) lines h) b x i)

  pub cut_later : (number : ℕ) (lines : List Line) → IsClosed lines → (b y : ℕ)
      → live_from (suc number) (behind_first (cut lines)) b y ≡ live_behind number lines b y
  cut_later number [] h b y = refl
  cut_later number (Bind l ∷ lines) h b y = ap (λ bs. live_from (suc number) bs b y) (behind_cut l (cut lines)) ∙ cut_later number lines (ends_is_closed lines h) b y
  cut_later number (Close t ∷ lines) h b y = close_live number lines (cut_live (suc number) lines h) (cut_later (suc number) lines h) b y

-- one more let in front of the first block
once_let : (o : Ownership) (number : ℕ) (l : block.Let) (b : NormalBlock) (bs : List NormalBlock) (after : Marks) → first_live number (b ∷ bs) ≡ after
    → Once o.owned (op_taken o.reads l.op) (op_read o.reads l.op) (unless_bound l.target after)
    → BlocksOnce o.reads o.owned number (b ∷ bs) → BlocksOnce o.reads o.owned number (in_first l (b ∷ bs))
once_let o number l b bs after e one all = (
  record { lets = (subst (λ m. Once o.owned (op_taken o.reads l.op) (op_read o.reads l.op) (unless_bound l.target m)) (sym e) one, all.0.lets); term = all.0.term },
  all.1,
)

-- The blocks take what the lines take.
pub cut_once : (o : Ownership) (number : ℕ) (lines : List Line) → IsClosed lines → AllOnce o number lines → BlocksOnce o.reads o.owned number (cut lines)
cut_once o number [] c all = tt
cut_once o number (Bind l ∷ lines) c all =
    let r = ends_block lines c in
    let rest = cut_once o number lines (ends_is_closed lines c) all.1 in
    subst (λ bs. BlocksOnce o.reads o.owned number (in_first l bs)) (sym r.2)
    (once_let o number l r.0 r.1 (live_here number lines) (λ i x. (ap (λ bs. first_live number bs x) (sym r.2) ∙ cut_live number lines (ends_is_closed lines c) x) i) all.0
    (subst (BlocksOnce o.reads o.owned number) r.2 rest))
cut_once o number (Close t ∷ lines) c all = (
  record {
    lets = tt;
    term = subst (λ later. Once o.owned (term_taken o.reads t) (term_read o.reads t) (onward_live later t)) (sym (λ i b x. close_live number lines (cut_live (suc number) lines c) (cut_later (suc number) lines c) b x i)) all.0;
  },
  cut_once o (suc number) lines c all.1,
)

-- ---- arms that leave their cells

pub or_second : (a b : Bool) → b ≡ true → (a || b) ≡ true
or_second true b h = refl
or_second false b h = h

-- none of these is owned
abbrev pub AreLent : Ownership → List ℕ → Type 0
AreLent o xs = (x : ℕ) → is_among xs x ≡ true → o.owned x ≡ false

pub lent_front : (o : Ownership) (xs ys : List ℕ) → AreLent o (xs ++ ys) → AreLent o xs
lent_front o xs ys h x e = h x (among_append xs ys x ∙ ap (λ b. b || is_among ys x) e)

pub lent_back : (o : Ownership) (xs ys : List ℕ) → AreLent o (xs ++ ys) → AreLent o ys
lent_back o xs ys h x e = h x (among_append xs ys x ∙ or_second (is_among xs x) (is_among ys x) e)

-- none of what these lines only look at is owned
abbrev pub Looks : Ownership → List Line → Type 0
Looks o lines = (x : ℕ) → looks lines x ≡ true → o.owned x ≡ false

pub looks_front : (o : Ownership) (xs ys : List Line) → Looks o (xs ++ ys) → Looks o xs
looks_front o xs ys h x e = h x (looks_append xs ys x ∙ ap (λ b. b || looks ys x) e)

pub looks_back : (o : Ownership) (xs ys : List Line) → Looks o (xs ++ ys) → Looks o ys
looks_back o xs ys h x e = h x (looks_append xs ys x ∙ or_second (looks xs x) (looks ys x) e)

pub looks_end : (o : Ownership) (t : Term) (lines : List Line) → Looks o (Close t ∷ lines) → AreLent o (looked_at t)
looks_end o t lines h x e = h x (ap (λ b. b || looks lines x) e)

pub looks_behind : (o : Ownership) (t : Term) (lines : List Line) → Looks o (Close t ∷ lines) → Looks o lines
looks_behind o t lines h x e = h x (or_second (is_among (looked_at t) x) (looks lines x) e)
