-- Laws, for the proofs of this crate and of those above it.
-- What a format's machine tells of its texts.
use Rattle.std.proofs.Common.{◌≡◌, ℕ, zero, suc, ◌+◌, ◌<◌, ◌≤◌, Bool, true, false, List, [], ◌∷◌, ◌++◌, length, Option, Some, None, refl, sym, ap, ◌∙◌, subst, arith, append_assoc, append-nil, length-append, inl, inr}
use Rattle.std.specs.Prelude.{◌⊎◌}
use Rattle.std.specs.List.{AllByRecursion}
use Rattle.text_lines.specs.Lines.{Free, text_of_lines, HasLine}
use Rattle.text_lines.specs.Formats.{Format, Meets, IsRight, IsText, Begins, IsWrong, IsWrongLine, IsFault, IsJudged, Right, Wrong}
use Rattle.text_lines.specs.Machines.{Machine, run, Leads, IsWritten, Shows, Decides, IsNext, IsRefused, Reading}
use Rattle.text_lines.specs.Cuts.{and_then}
use Rattle.text_lines.specs.OptionLaws.{some_same, none_some, then_some, true_false}
use Rattle.text_lines.specs.FrontLaws.{all_append, lines_append, lines_long, first_line, has_feed, Further, fronts, no_rest, no_more, line_or_none}
use Rattle.text_lines.specs.FormatLaws.{meets_fewer, whole_no_wrong}

-- ---- runs

pub run_append : {F : Format} (M : Machine F) (s t : M.State) (xs ys : List (List ℕ)) → run M s xs ≡ Some t → run M s (xs ++ ys) ≡ run M t ys
run_append M s t [] ys e = ap (λ s. run M s ys) (some_same s t e)
run_append M s t (x ∷ xs) ys e =
    let (u, u_is, rest) = then_some (M.step s x) (λ u. run M u xs) t e in
    ap (λ o. and_then o (λ u. run M u (xs ++ ys))) u_is ∙ run_append M u t xs ys rest

-- a run in two
pub record Front {F : Format} (M : Machine F) (s t : M.State) (xs ys : List (List ℕ)) : Type 0 where
  pub state : M.State
  pub is : run M s xs ≡ Some state
  pub on : run M state ys ≡ Some t

pub run_front : {F : Format} (M : Machine F) (s t : M.State) (xs ys : List (List ℕ)) → run M s (xs ++ ys) ≡ Some t → Front M s t xs ys
run_front M s t [] ys e = record { state = s; is = refl; on = e }
run_front M s t (x ∷ xs) ys e =
    let (u, u_is, rest) = then_some (M.step s x) (λ u. run M u (xs ++ ys)) t e in
    let d = run_front M u t xs ys rest in
    record { state = d.state; is = ap (λ o. and_then o (λ u. run M u xs)) u_is ∙ d.is; on = d.on }

pub run_good : {F : Format} (M : Machine F) → Shows M → (s t : M.State) (lines : List (List ℕ)) → AllByRecursion (Free 10) lines → M.IsGood s → run M s lines ≡ Some t → M.IsGood t
run_good M w s t [] each g e = subst M.IsGood (some_same s t e) g
run_good M w s t (x ∷ xs) each g e =
    let (u, u_is, rest) = then_some (M.step s x) (λ u. run M u xs) t e in
    run_good M w u t xs each.1 (w.step_good s u x g each.0 u_is) rest

pub run_far : {F : Format} (M : Machine F) → Shows M → (s t : M.State) (lines : List (List ℕ)) → AllByRecursion (Free 10) lines → M.IsGood s → run M s lines ≡ Some t
    → M.so_far t ≡ M.so_far s ++ text_of_lines lines
run_far M w s t [] each g e = ap M.so_far (sym (some_same s t e)) ∙ sym (append-nil (M.so_far s))
run_far M w s t (x ∷ xs) each g e =
    let (u, u_is, rest) = then_some (M.step s x) (λ u. run M u xs) t e in
    run_far M w u t xs each.1 (w.step_good s u x g each.0 u_is) rest ∙ ap (λ l. l ++ text_of_lines xs) (w.step_far s u x g each.0 u_is)
    ∙ append_assoc (M.so_far s) (text_of_lines (x ∷ [])) (text_of_lines xs) ∙ ap (λ l. M.so_far s ++ l) (sym (lines_append (x ∷ []) xs))

-- from the start
pub started : {F : Format} (M : Machine F) → Shows M → (t : M.State) (lines : List (List ℕ)) → AllByRecursion (Free 10) lines → run M M.start lines ≡ Some t
    → M.so_far t ≡ text_of_lines lines
started M w t lines each e = run_far M w M.start t lines each w.start_good e ∙ ap (λ l. l ++ text_of_lines lines) w.start_far

pub started_good : {F : Format} (M : Machine F) → Shows M → (t : M.State) (lines : List (List ℕ)) → AllByRecursion (Free 10) lines → run M M.start lines ≡ Some t → M.IsGood t
started_good M w t lines each e = run_good M w M.start t lines each w.start_good e

-- demands go back along a run
run_asks : {F : Format} (M : Machine F) → Shows M → (k : ℕ) (s t : M.State) (lines : List (List ℕ)) → AllByRecursion (Free 10) lines → M.IsGood s → run M s lines ≡ Some t
    → F.Asks k (M.closed t) → F.Asks k (M.closed s)
run_asks {F} M w k s t [] each g e a = subst (λ s. F.Asks k (M.closed s)) (sym (some_same s t e)) a
run_asks M w k s t (x ∷ xs) each g e a =
    let (u, u_is, rest) = then_some (M.step s x) (λ u. run M u xs) t e in
    w.step_asks k s u x g u_is (run_asks M w k u t xs each.1 (w.step_good s u x g each.0 u_is) rest a)

run_meets : {F : Format} (M : Machine F) → Shows M → (k : ℕ) (s t : M.State) (lines : List (List ℕ)) → AllByRecursion (Free 10) lines → M.IsGood s → run M s lines ≡ Some t
    → Meets F k (M.closed t) → Meets F k (M.closed s)
run_meets M w zero s t lines each g e m = w.good_formed s g
run_meets M w (suc k) s t lines each g e m = (run_meets M w k s t lines each g e m.0, run_asks M w k s t lines each g e m.1)

-- ---- fronts

-- lines in front of a value lead to a state, from which others lead to where it may end with that value
pub record Reached {F : Format} (M : Machine F) (v : F.Value) (lines : List (List ℕ)) : Type 0 where
  pub more : List (List ℕ)
  pub each : AllByRecursion (Free 10) more
  pub end : M.State
  pub ends : M.ends end ≡ true
  pub closed : M.closed end ≡ v
  pub front : Front M M.start end lines more

meets_formed : (F : Format) (k : ℕ) (v : F.Value) → Meets F k v → F.IsFormed v
meets_formed F k v m = meets_fewer F k zero v (omega arith) m

all_right : (xs ys : List (List ℕ)) → AllByRecursion (Free 10) (xs ++ ys) → AllByRecursion (Free 10) ys
all_right [] ys h = h
all_right (x ∷ xs) ys h = all_right xs ys h.1

pub reached : {F : Format} (M : Machine F) → Shows M → (v : F.Value) (lines : List (List ℕ)) (rest : List ℕ) → F.IsFormed v → AllByRecursion (Free 10) lines
    → F.text v ≡ text_of_lines lines ++ rest → Reached M v lines
reached {F} M w v lines rest h each e = by_case (w.written v h) (λ d. fronts lines d.leads.lines rest [] each d.leads.each (sym e ∙ sym d.leads.is ∙ sym (append-nil (text_of_lines d.leads.lines))))
  where
    here : (d : IsWritten M v) → Further lines d.leads.lines rest [] ⊎ Further d.leads.lines lines [] rest → Reached M v lines
    here d (inl f) = record {
      more = f.more;
      each = all_right lines f.more (subst (AllByRecursion (Free 10)) f.is d.leads.each);
      end = d.state;
      ends = d.ends;
      closed = d.is;
      front = run_front M M.start d.state lines f.more (ap (run M M.start) (sym f.is) ∙ d.leads.run);
    }
    here d (inr f) =
        let same : lines ≡ d.leads.lines = f.is ∙ ap (λ k. d.leads.lines ++ k) (no_more f.more rest f.rest) ∙ append-nil d.leads.lines in
        record { more = []; each = tt; end = d.state; ends = d.ends; closed = d.is; front = record { state = d.state; is = ap (run M M.start) same ∙ d.leads.run; on = refl } }

    by_case : (d : IsWritten M v) → ((d : IsWritten M v) → Further lines d.leads.lines rest [] ⊎ Further d.leads.lines lines [] rest) → Reached M v lines
    by_case d f = here d (f d)

-- what a value meets that has these lines in front, the state's least value meets
pub meets_front : {F : Format} (M : Machine F) → Shows M → (k : ℕ) (s : M.State) (lines : List (List ℕ)) → AllByRecursion (Free 10) lines → run M M.start lines ≡ Some s
    → Begins F k lines → Meets F k (M.closed s)
meets_front {F} M w k s lines each e b =
    let d = reached M w b.value lines b.rest (meets_formed F k b.value b.meets) each b.is in
    let q : d.front.state ≡ s = some_same d.front.state s (sym d.front.is ∙ e) in
    run_meets M w k s d.end d.more d.each (started_good M w s lines each e) (ap (λ s. run M s d.more) (sym q) ∙ d.front.on) (subst (Meets F k) (sym d.closed) b.meets)

pub begins : {F : Format} (M : Machine F) → Shows M → (k : ℕ) (s : M.State) (lines : List (List ℕ)) → AllByRecursion (Free 10) lines → run M M.start lines ≡ Some s
    → Meets F k (M.closed s) → Begins F k lines
begins M w k s lines each e m =
    let c = w.closing s (started_good M w s lines each e) in
    record { value = M.closed s; rest = c.rest; is = c.is ∙ ap (λ l. l ++ c.rest) (started M w s lines each e); meets = m }

-- ---- steps of a reader

pub reading_start : {F : Format} (M : Machine F) → Shows M → (text : List ℕ) → Reading M text M.start text 1
reading_start M w text = record { lines = []; run = refl; each = tt; parts = refl; count = refl; few = omega arith; right = w.start_right }

step_run : {F : Format} (M : Machine F) (lines : List (List ℕ)) (s : M.State) (line : List ℕ) → run M M.start lines ≡ Some s
    → run M M.start (lines ++ line ∷ []) ≡ and_then (M.step s line) (λ t. Some t)
step_run M lines s line e = run_append M M.start s lines (line ∷ []) e

step_some : {F : Format} (M : Machine F) (lines : List (List ℕ)) (s t : M.State) (line : List ℕ) → run M M.start lines ≡ Some s → M.step s line ≡ Some t
    → run M M.start (lines ++ line ∷ []) ≡ Some t
step_some M lines s t line e f = step_run M lines s line e ∙ ap (λ o. and_then o (λ t. Some t)) f

-- several lines at once
pub reading_lines : {F : Format} (M : Machine F) (text : List ℕ) (s t : M.State) (rest body after : List ℕ) (n : ℕ) → Reading M text s rest n → (l : Leads M s body t)
    → rest ≡ body ++ after → IsRight F (M.closed t) → Reading M text t after (n + length l.lines)
reading_lines M text s t rest body after n r l e h = record {
  lines = r.lines ++ l.lines;
  run = run_append M M.start s r.lines l.lines r.run ∙ l.run;
  each = all_append (Free 10) r.lines l.lines r.each l.each;
  parts = r.parts ∙ ap (λ k. text_of_lines r.lines ++ k) (e ∙ ap (λ k. k ++ after) (sym l.is)) ∙ sym (append_assoc (text_of_lines r.lines) (text_of_lines l.lines) after) ∙ ap (λ k. k ++ after) (sym (lines_append r.lines l.lines));
  count = omega (arith, r.count, length-append r.lines l.lines);
  few = omega (arith, r.few, ap length e, length-append body after, ap length l.is, lines_long l.lines);
  right = h;
}

pub reading_next : {F : Format} (M : Machine F) (text : List ℕ) (s t : M.State) (rest line after : List ℕ) (n : ℕ) → Reading M text s rest n → HasLine rest line after
    → IsNext M s line t → Reading M text t after (suc n)
reading_next M text s t rest line after n r h d = record {
  lines = r.lines ++ line ∷ [];
  run = step_some M r.lines s t line r.run d.is;
  each = all_append (Free 10) r.lines (line ∷ []) r.each (h.one, tt);
  parts = r.parts ∙ ap (λ l. text_of_lines r.lines ++ l) (h.parts ∙ sym (first_line line [] after)) ∙ sym (append_assoc (text_of_lines r.lines) (text_of_lines (line ∷ [])) after) ∙ ap (λ l. l ++ after) (sym (lines_append r.lines (line ∷ [])));
  count = omega (arith, r.count, length-append r.lines (line ∷ []));
  few = omega (arith, r.few, ap length h.parts, length-append line (10 ∷ after));
  right = d.right;
}

wrong_line : {F : Format} (M : Machine F) → Shows M → (text : List ℕ) (s : M.State) (rest : List ℕ) (n : ℕ) (line after : List ℕ) (kind : ℕ) → (r : Reading M text s rest n)
    → HasLine rest line after → IsWrong F kind (r.lines ++ line ∷ []) → IsWrongLine F kind text n
wrong_line {F} M w text s rest n line after kind r h d = record {
  before = r.lines;
  line = line;
  rest = after;
  count = r.count;
  parts = r.parts ∙ ap (λ l. text_of_lines r.lines ++ l) h.parts;
  each = r.each;
  one = h.one;
  good = begins M w F.most s r.lines r.each r.run r.right;
  wrong = d;
}

pub reading_refused : {F : Format} (M : Machine F) → Shows M → (kind : ℕ) (text : List ℕ) (s : M.State) (rest line after : List ℕ) (n : ℕ) → Reading M text s rest n
    → HasLine rest line after → IsRefused M s line kind → IsFault F kind text n
reading_refused {F} M w zero text s rest line after n r h e =
    let none : run M M.start (r.lines ++ line ∷ []) ≡ None = step_run M r.lines s line r.run ∙ ap (λ o. and_then o (λ t. Some t)) e in
    inl (wrong_line M w text s rest n line after zero r h (λ b.
    let d = reached M w b.value (r.lines ++ line ∷ []) b.rest b.meets (all_append (Free 10) r.lines (line ∷ []) r.each (h.one, tt)) b.is in
    none_some (run M M.start (r.lines ++ line ∷ [])) d.front.state none d.front.is))
reading_refused M w (suc k) text s rest line after n r h d =
    let all : AllByRecursion (Free 10) (r.lines ++ line ∷ []) = all_append (Free 10) r.lines (line ∷ []) r.each (h.one, tt) in
    let there : run M M.start (r.lines ++ line ∷ []) ≡ Some d.state = step_some M r.lines s d.state line r.run d.is in
    wrong_line M w text s rest n line after (suc k) r h (record {
      fine = begins M w k d.state (r.lines ++ line ∷ []) all there d.meets;
      wrong = λ b. d.wrong (meets_front M w (suc k) d.state (r.lines ++ line ∷ []) all there b).1;
    })

-- ---- the end

pub reading_end : {F : Format} (M : Machine F) → Shows M → (text : List ℕ) (s : M.State) (rest : List ℕ) (n : ℕ) → Reading M text s rest n → rest ≡ [] → M.ends s ≡ true
    → IsText F text (M.closed s)
reading_end M w text s rest n r e h = record {
  is = w.end_far s (started_good M w s r.lines r.each r.run) h ∙ started M w s r.lines r.each r.run ∙ sym (r.parts ∙ ap (λ l. text_of_lines r.lines ++ l) e ∙ append-nil (text_of_lines r.lines));
  right = r.right;
}

pub reading_early : {F : Format} (M : Machine F) → Shows M → (text : List ℕ) (s : M.State) (rest : List ℕ) (n : ℕ) → Reading M text s rest n → Free 10 rest
    → (rest ≡ [] → M.ends s ≡ false) → IsFault F 0 text n
reading_early {F} M w text s rest n r free unclosed = inr (record {
  before = r.lines;
  rest = rest;
  count = r.count;
  parts = r.parts;
  each = r.each;
  one = free;
  good = begins M w F.most s r.lines r.each r.run r.right;
  unfinished = λ v h. whole v h (w.written v (meets_formed F F.most v h.right));
})
  where
    at_end : (v : F.Value) (d : IsWritten M v) → r.lines ≡ d.leads.lines → rest ≡ [] → ⊥
    at_end v d e q =
        let same : s ≡ d.state = some_same s d.state (sym r.run ∙ ap (run M M.start) e ∙ d.leads.run) in
        true_false (M.ends s) (ap M.ends same ∙ d.ends) (unclosed q)

    longer : (v : F.Value) (d : IsWritten M v) (more : List (List ℕ)) → d.leads.lines ≡ r.lines ++ more → rest ≡ text_of_lines more ++ [] → ⊥
    longer v d [] e q = at_end v d (sym (append-nil r.lines) ∙ sym e) q
    longer v d (m ∷ more) e q = has_feed m (text_of_lines more ++ []) (subst (Free 10) (q ∙ first_line m more []) free)

    shorter : (v : F.Value) (d : IsWritten M v) (more : List (List ℕ)) → r.lines ≡ d.leads.lines ++ more → [] ≡ text_of_lines more ++ rest → ⊥
    shorter v d [] e q = at_end v d (e ∙ append-nil d.leads.lines) (sym q)
    shorter v d (m ∷ more) e q = no_rest m (text_of_lines more ++ rest) (sym (q ∙ first_line m more rest))

    by_front : (v : F.Value) (d : IsWritten M v) → Further r.lines d.leads.lines rest [] ⊎ Further d.leads.lines r.lines [] rest → ⊥
    by_front v d (inl f) = longer v d f.more f.is f.rest
    by_front v d (inr f) = shorter v d f.more f.is f.rest

    whole : (v : F.Value) → IsText F text v → IsWritten M v → ⊥
    whole v h d = by_front v d (fronts r.lines d.leads.lines rest [] r.each d.leads.each (sym r.parts ∙ sym h.is ∙ sym d.leads.is ∙ sym (append-nil (text_of_lines d.leads.lines))))

-- ---- the laws of texts

-- the text of a value has no fault
pub no_fault : {F : Format} (M : Machine F) → Shows M → (text : List ℕ) (v : F.Value) (kind n : ℕ) → kind ≤ F.most → IsText F text v → IsFault F kind text n → ⊥
no_fault {F} M w text v kind n k h f = by_kind kind k f
  where
    d : IsWritten M v
    d = w.written v (meets_formed F F.most v h.right)

    whole : text ≡ text_of_lines d.leads.lines ++ []
    whole = sym h.is ∙ sym d.leads.is ∙ sym (append-nil (text_of_lines d.leads.lines))

    wrong : (kind : ℕ) → kind ≤ F.most → IsWrongLine F kind text n → ⊥
    wrong kind k f = whole_no_wrong F text kind n d.leads.lines k d.leads.each (record { value = v; rest = []; is = h.is ∙ whole; meets = h.right }) (whole ∙ append-nil (text_of_lines d.leads.lines)) f

    by_kind : (kind : ℕ) → kind ≤ F.most → IsFault F kind text n → ⊥
    by_kind zero k (inl f) = wrong zero k f
    by_kind zero k (inr f) = f.unfinished v h
    by_kind (suc j) k f = wrong (suc j) k f

-- a text is that of one value at most
pub values_one : {F : Format} (M : Machine F) → Shows M → (u v : F.Value) → F.IsFormed u → F.IsFormed v → F.text u ≡ F.text v → u ≡ v
values_one {F} M w u v h k e = by_case (w.written u h) (w.written v k)
  where
    by_case : IsWritten M u → IsWritten M v → u ≡ v
    by_case a b =
        let same = fronts a.leads.lines b.leads.lines [] [] a.leads.each b.leads.each (append-nil (text_of_lines a.leads.lines) ∙ a.leads.is ∙ e ∙ sym b.leads.is ∙ sym (append-nil (text_of_lines b.leads.lines))) in
        let lines : a.leads.lines ≡ b.leads.lines = lines_same a.leads.lines b.leads.lines same in
        let state : a.state ≡ b.state = some_same a.state b.state (sym a.leads.run ∙ ap (run M M.start) lines ∙ b.leads.run) in
        sym a.is ∙ ap M.closed state ∙ b.is
      where
        lines_same : (xs ys : List (List ℕ)) → Further xs ys [] [] ⊎ Further ys xs [] [] → xs ≡ ys
        lines_same xs ys (inl f) = sym (f.is ∙ ap (λ k. xs ++ k) (no_more f.more [] f.rest) ∙ append-nil xs)
        lines_same xs ys (inr f) = f.is ∙ ap (λ k. ys ++ k) (no_more f.more [] f.rest) ∙ append-nil ys

-- ---- each text is judged

-- all demands from 0 on, or the first that fails
data Tried (F : Format) (k : ℕ) (v : F.Value) : Type 0 where
  All : Meets F k v → Tried F k v
  Fails : (j : ℕ) → j < k → Meets F j v → (F.Asks j v → ⊥) → Tried F k v

tried : {F : Format} (M : Machine F) → Decides M → (k : ℕ) (s : M.State) → k ≤ F.most → F.IsFormed (M.closed s) → Tried F k (M.closed s)
tried M d zero s h m = All m
tried {F} M d (suc k) s h m = by_case (tried M d k s (omega (arith, h)) m) (d.asks k s (omega (arith, h)))
  where
    by_case : Tried F k (M.closed s) → F.Asks k (M.closed s) ⊎ (F.Asks k (M.closed s) → ⊥) → Tried F (suc k) (M.closed s)
    by_case (Fails j l a n) o = Fails j (omega (arith, l)) a n
    by_case (All a) (inl y) = All (a, y)
    by_case (All a) (inr n) = Fails k (omega arith) a n

judge_end : {F : Format} (M : Machine F) → Shows M → (text : List ℕ) (s : M.State) (rest : List ℕ) (n : ℕ) → Reading M text s rest n → Free 10 rest → IsJudged F text
judge_end {F} M w text s rest n r free = by_end rest (M.ends s) refl r free
  where
    by_end : (rest : List ℕ) (b : Bool) → M.ends s ≡ b → Reading M text s rest n → Free 10 rest → IsJudged F text
    by_end [] true e r free = Right (M.closed s) (reading_end M w text s [] n r refl e)
    by_end (x ∷ rest) true e r free = Wrong zero n (omega arith) (reading_early M w text s (x ∷ rest) n r free (λ q. absurd cc))
    by_end rest false e r free = Wrong zero n (omega arith) (reading_early M w text s rest n r free (λ q. e))

judge_line : {F : Format} (M : Machine F) → Shows M → Decides M → (text : List ℕ) (s : M.State) (rest line after : List ℕ) (n : ℕ) → Reading M text s rest n
    → HasLine rest line after → ((t : M.State) → Reading M text t after (suc n) → IsJudged F text) → IsJudged F text
judge_line {F} M w d text s rest line after n r h on = by_step (M.step s line) refl
  where
    by_tried : (t : M.State) → M.step s line ≡ Some t → Tried F F.most (M.closed t) → IsJudged F text
    by_tried t e (All a) = on t (reading_next M text s t rest line after n r h (record { is = e; right = a }))
    by_tried t e (Fails j l a k) = Wrong (suc j) n l (reading_refused M w (suc j) text s rest line after n r h (record { state = t; is = e; below = l; meets = a; wrong = k }))

    by_step : (o : Option M.State) → M.step s line ≡ o → IsJudged F text
    by_step None e = Wrong zero n (omega arith) (reading_refused M w zero text s rest line after n r h e)
    by_step (Some t) e = by_tried t e (tried M d F.most t (omega arith) (w.good_formed t (w.step_good s t line (started_good M w s r.lines r.each r.run) h.one e)))

judge : {F : Format} (M : Machine F) → Shows M → Decides M → (room : ℕ) (text : List ℕ) (s : M.State) (rest : List ℕ) (n : ℕ) → length rest < room → Reading M text s rest n
    → IsJudged F text
judge M w d zero text s rest n h r = absurd (omega (arith, h))
judge {F} M w d (suc room) text s rest n h r = by_line (line_or_none rest) (λ after t m k q. judge M w d room text t after m k q)
  where
    by_line : Free 10 rest ⊎ ((line after : List ℕ) × HasLine rest line after)
        → ((after : List ℕ) (t : M.State) (m : ℕ) → length after < room → Reading M text t after m → IsJudged F text) → IsJudged F text
    by_line (inl free) on = judge_end M w text s rest n r free
    by_line (inr (line, after, k)) on =
        judge_line M w d text s rest line after n r k (λ t q. on after t (suc n) (omega (arith, h, ap length k.parts, length-append line (10 ∷ after))) q)

-- Each text is a value's or has a fault.
pub each_judged : {F : Format} (M : Machine F) → Shows M → Decides M → (text : List ℕ) → IsJudged F text
each_judged M w d text = judge M w d (suc (length text)) text M.start text 1 (omega arith) (reading_start M w text)
