-- What the machine answers is what the definitions say: a program, or the place of the first fault.
use Rattle.std.proofs.Common.{◌≡◌, ℕ, zero, suc, ◌≤◌, ◌<◌, nat_le, Bool, true, false, if◌then◌else◌, List, [], ◌∷◌, ◌++◌, length, take, get_or, refl, sym, ap, ◌∙◌, subst, append-nil, arith}
use Rattle.std.proofs.Math.Seq.{take-append_seam, get_or-append_seam}
use Rattle.camelot_grammar.specs.declared.lexeme.Mark.TheVariants as mark
use Rattle.camelot_grammar.specs.declared.lexeme.Lexeme.{Lexeme}
use Rattle.camelot_grammar.specs.declared.lexeme.Lexeme.TheVariants.{Mark}
use Rattle.camelot_tree.specs.Tree.{Source}
use Rattle.camelot_grammar.specs.Grammar.{Decls, NoDecls, spell_decls}
use Rattle.camelot_grammar.specs.Program.{source_of}
use Rattle.camelot_grammar.specs.Levels.{levels_decls}
use Rattle.camelot_grammar.specs.Parsing.{limit, AreWithin, IsProgram, BeginsProgram, NoneGoesOn, GoesTooDeep}
use Rattle.camelot_grammar.specs.Machine as mc
use Rattle.camelot_grammar.specs.Machine.{State, InDecl, InExpr, InArm, Finished, Frame, Step, Stuck, Goes, step, advance, runs, limited, onward, ending, start, Yes, Stopped, TooDeep, Result}
use Rattle.camelot_grammar.proofs.Behind.{Over, Halts, ran, raw, metered, meter}
use Rattle.camelot_grammar.proofs.CompleteDecls.{program_gives}
use Rattle.camelot_grammar.proofs.Concrete.{Config, InDecls, Top, state_of, stack_of, so_far}
use Rattle.camelot_grammar.proofs.Sound.{Continued, IsEnd, Keeps, step_keeps}
use Rattle.camelot_grammar.proofs.Closing.{completed}

-- a token of the text isn't its end
abbrev Moved : (List Lexeme → List Lexeme) → Lexeme → Step → Type 0
Moved read t Stuck = Unit {0}
Moved read t (Goes k s st) = Continued read t s st

inside_moved : (read : List Lexeme → List Lexeme) (t : Lexeme) (y : Step) → ¬ (IsEnd t) → Keeps read t y → Moved read t y
inside_moved read t Stuck h k = tt
inside_moved read t (Goes l (InDecl s) st) h k = k
inside_moved read t (Goes l (InExpr s) st) h k = k
inside_moved read t (Goes l (InArm s) st) h k = k
inside_moved read t (Goes l (Finished p) st) h k = absurd (h k.at_end)

advance_moved : (c : Config) (t : Lexeme) → Moved (so_far c) t (advance (state_of c) t (stack_of c))
unfolding advance
advance_moved c (Mark mark.EndOfText l) = tt
advance_moved c t = inside_moved (so_far c) t _ (λ h. h) (step_keeps c t)

-- ---- lists

within_append : (xs ys : List ℕ) → AreWithin xs → AreWithin ys → AreWithin (xs ++ ys)
within_append [] ys h i = i
within_append (x ∷ xs) ys h i = (h.0, within_append xs ys h.1 i)

take_front : (xs ys : List ℕ) (n : ℕ) → length xs ≡ n → take n (xs ++ ys) ≡ xs
take_front xs ys n h = ap (λ m. take m (xs ++ ys)) (sym h) ∙ take-append_seam xs ys

nth_front : (xs : List ℕ) (y : ℕ) (ys : List ℕ) (n : ℕ) → length xs ≡ n → get_or (xs ++ y ∷ ys) n 0 ≡ y
nth_front xs y ys n h = ap (λ m. get_or (xs ++ y ∷ ys) m 0) (sym h) ∙ get_or-append_seam xs y ys 0

within_middle : (xs : List ℕ) (y : ℕ) (ys : List ℕ) → AreWithin (xs ++ y ∷ ys) → y ≤ limit
within_middle [] y ys h = h.0
within_middle (x ∷ xs) y ys h = within_middle xs y ys h.1

cons_append : (t : Lexeme) (xs ys : List Lexeme) → (t ∷ xs) ++ ys ≡ t ∷ (xs ++ ys)
cons_append t xs ys = refl

-- ---- the limit

within_moves : (k : ℕ) (s : State) (st : List Frame) → k ≤ limit → limited (Goes k s st) ≡ mc.Moves s st
within_moves k s st h = let e : nat_le k limit ≡ true = grind (arith, h) in ap (λ b. if b then mc.Moves s st else mc.Sinks) e

-- ---- a part of a run

-- from the configuration these tokens are read, within the limit, and lead to another one
pub record Reach (c : Config) (before : List Lexeme) : Type 0 where
  pub config : Config
  pub levels : List ℕ
  pub raw_on : (z : List Lexeme) → raw (state_of c) (stack_of c) (before ++ z) ≡ raw (state_of config) (stack_of config) z
  pub meter_on : (z : List Lexeme) → meter (state_of c) (stack_of c) (before ++ z) ≡ levels ++ meter (state_of config) (stack_of config) z
  pub runs_on : (z : List Lexeme) → runs (state_of c) (stack_of c) (before ++ z) ≡ runs (state_of config) (stack_of config) z
  pub count : length levels ≡ length before
  pub within : AreWithin levels
  pub spells : (r : List Lexeme) → so_far config r ≡ so_far c (before ++ r)

reach_none : (c : Config) → Reach c []
reach_none c = record { config = c; levels = []; raw_on = λ z. refl; meter_on = λ z. refl; runs_on = λ z. refl; count = refl; within = tt; spells = λ r. refl }

-- one token more in front
reach_more : (c : Config) (t : Lexeme) (ts : List Lexeme) (k : ℕ) (s : State) (st : List Frame)
    → advance (state_of c) t (stack_of c) ≡ Goes k s st → k ≤ limit → (kept : Continued (so_far c) t s st) → Reach kept.config ts → Reach c (t ∷ ts)
reach_more c t ts k s st e h kept r =
    let is_s = kept.is_state in
    let is_st = kept.is_stack in
    record {
      config = r.config;
      levels = k ∷ r.levels;
      raw_on = λ z. ap (λ y. ran y (λ s2 st2. raw s2 st2 (ts ++ z)) (t ∷ (ts ++ z))) e
          ∙ ap (λ s2. raw s2 st (ts ++ z)) (sym is_s) ∙ ap (λ st2. raw (state_of kept.config) st2 (ts ++ z)) (sym is_st) ∙ r.raw_on z;
      meter_on = λ z. ap (λ y. metered y (λ s2 st2. meter s2 st2 (ts ++ z))) e
          ∙ ap (λ s2. k ∷ meter s2 st (ts ++ z)) (sym is_s) ∙ ap (λ st2. k ∷ meter (state_of kept.config) st2 (ts ++ z)) (sym is_st) ∙ ap (λ ls. k ∷ ls) (r.meter_on z);
      runs_on = λ z. ap (λ y. onward (limited y) (λ s2 st2. runs s2 st2 (ts ++ z)) (t ∷ (ts ++ z))) e
          ∙ ap (λ y. onward y (λ s2 st2. runs s2 st2 (ts ++ z)) (t ∷ (ts ++ z))) (within_moves k s st h)
          ∙ ap (λ s2. runs s2 st (ts ++ z)) (sym is_s) ∙ ap (λ st2. runs (state_of kept.config) st2 (ts ++ z)) (sym is_st) ∙ r.runs_on z;
      count = ap (λ n. suc n) r.count;
      within = (h, r.within);
      spells = λ z. r.spells z ∙ kept.spells (ts ++ z);
    }

-- ---- what a run comes to

-- the step at the end of the text ends no program
abbrev NoEnd : Step → Type 0
NoEnd (Goes k (Finished p) st) = ⊥
NoEnd y = Unit {0}

pub record Accepts (c : Config) (ts : List Lexeme) (p : Source) : Type 0 where
  pub reach : Reach c ts
  pub level : ℕ
  pub stack : List Frame
  pub ends : step (state_of reach.config) (Mark mark.EndOfText 0) (stack_of reach.config) ≡ Goes level (Finished p) stack

abbrev pub StuckAt : Config → List Lexeme → Type 0
StuckAt c [] = NoEnd (step (state_of c) (Mark mark.EndOfText 0) (stack_of c))
StuckAt c (t ∷ ts) = advance (state_of c) t (stack_of c) ≡ Stuck

pub record Stays (c : Config) (ts rest : List Lexeme) : Type 0 where
  pub before : List Lexeme
  pub parts : before ++ rest ≡ ts
  pub reach : Reach c before
  pub stuck : StuckAt reach.config rest

pub record Falls (c : Config) (ts rest : List Lexeme) : Type 0 where
  pub before : List Lexeme
  pub token : Lexeme
  pub after : List Lexeme
  pub parts : before ++ token ∷ after ≡ ts
  pub is : rest ≡ token ∷ after
  pub reach : Reach c before
  pub level : ℕ
  pub state : State
  pub stack : List Frame
  pub goes : advance (state_of reach.config) token (stack_of reach.config) ≡ Goes level state stack
  pub deep : limit < level

abbrev pub Tells : Config → List Lexeme → Result → Type 0
Tells c ts (Yes p) = Accepts c ts p
Tells c ts (Stopped rest) = Stays c ts rest
Tells c ts (TooDeep rest) = Falls c ts rest

-- a step at the end that ends no program
ends_nothing : (b : Bool) (s : State) (st : List Frame) → ((p : Source) → s ≡ Finished p → ⊥) → ending (if b then mc.Moves s st else mc.Sinks) ≡ Stopped []
ends_nothing false s st h = refl
ends_nothing true (InDecl s) st h = refl
ends_nothing true (InExpr s) st h = refl
ends_nothing true (InArm s) st h = refl
ends_nothing true (Finished p) st h = absurd (h p refl)

stays_end : (c : Config) (k : ℕ) (s : State) (st : List Frame) → NoEnd (Goes k s st) → ((p : Source) → s ≡ Finished p → ⊥)
    → step (state_of c) (Mark mark.EndOfText 0) (stack_of c) ≡ Goes k s st → Tells c [] (ending (limited (Goes k s st)))
unfolding reach_none
stays_end c k s st h i e = subst (Tells c []) (sym (ends_nothing (nat_le k limit) s st i))
    (record { before = []; parts = refl; reach = reach_none c; stuck = subst NoEnd (sym e) h })

tells_end : (c : Config) (y : Step) → step (state_of c) (Mark mark.EndOfText 0) (stack_of c) ≡ y → Keeps (so_far c) (Mark mark.EndOfText 0) y
    → Tells c [] (ending (limited y))
unfolding reach_none
tells_end c Stuck e h = record { before = []; parts = refl; reach = reach_none c; stuck = subst NoEnd (sym e) tt }
tells_end c (Goes k (Finished p) st) e h =
    subst (λ j. Tells c [] (ending (limited (Goes j (Finished p) st)))) (sym h.no_level) (record { reach = reach_none c; level = k; stack = st; ends = e })
tells_end c (Goes k (InDecl s) st) e h = stays_end c k (InDecl s) st tt (λ p q. absurd cc) e
tells_end c (Goes k (InExpr s) st) e h = stays_end c k (InExpr s) st tt (λ p q. absurd cc) e
tells_end c (Goes k (InArm s) st) e h = stays_end c k (InArm s) st tt (λ p q. absurd cc) e

tells_more : (c : Config) (t : Lexeme) (ts : List Lexeme) (k : ℕ) (s : State) (st : List Frame) (e : advance (state_of c) t (stack_of c) ≡ Goes k s st)
    → k ≤ limit → (kept : Continued (so_far c) t s st) → (r : Result) → Tells kept.config ts r → Tells c (t ∷ ts) r
unfolding reach_more
tells_more c t ts k s st e h kept (Yes p) a = record { reach = reach_more c t ts k s st e h kept a.reach; level = a.level; stack = a.stack; ends = a.ends }
tells_more c t ts k s st e h kept (Stopped rest) a = record {
  before = t ∷ a.before;
  parts = ap (λ xs. t ∷ xs) a.parts;
  reach = reach_more c t a.before k s st e h kept a.reach;
  stuck = a.stuck;
}
tells_more c t ts k s st e h kept (TooDeep rest) a = record {
  before = t ∷ a.before;
  token = a.token;
  after = a.after;
  parts = ap (λ xs. t ∷ xs) a.parts;
  is = a.is;
  reach = reach_more c t a.before k s st e h kept a.reach;
  level = a.level;
  state = a.state;
  stack = a.stack;
  goes = a.goes;
  deep = a.deep;
}

tells_limited : (c : Config) (t : Lexeme) (ts : List Lexeme) (k : ℕ) (s : State) (st : List Frame) (e : advance (state_of c) t (stack_of c) ≡ Goes k s st)
    → (kept : Continued (so_far c) t s st) → Tells kept.config ts (runs s st ts) → (b : Bool) → nat_le k limit ≡ b
    → Tells c (t ∷ ts) (onward (if b then mc.Moves s st else mc.Sinks) (λ s2 st2. runs s2 st2 ts) (t ∷ ts))
unfolding reach_none
tells_limited c t ts k s st e kept ih true q = tells_more c t ts k s st e (grind (arith, q)) kept (runs s st ts) ih
tells_limited c t ts k s st e kept ih false q = record {
  before = [];
  token = t;
  after = ts;
  parts = refl;
  is = refl;
  reach = reach_none c;
  level = k;
  state = s;
  stack = st;
  goes = e;
  deep = grind (arith, q);
}

tells_step : (c : Config) (t : Lexeme) (ts : List Lexeme) (y : Step) → advance (state_of c) t (stack_of c) ≡ y → Moved (so_far c) t y
    → ((d : Config) → Tells d ts (runs (state_of d) (stack_of d) ts)) → Tells c (t ∷ ts) (onward (limited y) (λ s2 st2. runs s2 st2 ts) (t ∷ ts))
unfolding reach_none
tells_step c t ts Stuck e k ih = record { before = []; parts = refl; reach = reach_none c; stuck = e }
tells_step c t ts (Goes k s st) e kept ih =
    let here : Tells kept.config ts (runs s st ts) =
    subst (λ st2. Tells kept.config ts (runs s st2 ts)) kept.is_stack (subst (λ s2. Tells kept.config ts (runs s2 (stack_of kept.config) ts)) kept.is_state (ih kept.config)) in
    tells_limited c t ts k s st e kept here (nat_le k limit) refl

pub tells : (ts : List Lexeme) (c : Config) → Tells c ts (runs (state_of c) (stack_of c) ts)
tells [] c = tells_end c _ refl (step_keeps c (Mark mark.EndOfText 0))
tells (t ∷ ts) c = tells_step c t ts _ refl (advance_moved c t) (λ d. tells ts d)

-- ---- what is read to the end is a program

pub record Read (c : Config) (ts : List Lexeme) (p : Source) : Type 0 where
  pub decls : Decls
  pub is : source_of decls ≡ p
  pub spells : spell_decls decls [] ≡ so_far c ts

read_end : (c : Config) (y : Step) (k : ℕ) (p : Source) (st : List Frame) → Keeps (so_far c) (Mark mark.EndOfText 0) y → y ≡ Goes k (Finished p) st
    → Read c [] p
read_end c Stuck k p st h e = absurd cc
read_end c (Goes j (Finished q) st2) k p st h e = let pq : q ≡ p = cc in record { decls = h.decls; is = h.is ∙ pq; spells = h.spells [] }
read_end c (Goes j (InDecl s) st2) k p st h e = absurd cc
read_end c (Goes j (InExpr s) st2) k p st h e = absurd cc
read_end c (Goes j (InArm s) st2) k p st h e = absurd cc

read_over : (c : Config) (k : ℕ) (p : Source) (st : List Frame)
    → Over (step (state_of c) (Mark mark.EndOfText 0) (stack_of c)) ≡ Over (Goes k (Finished p) st) → Read c [] p
read_over c k p st e = let e2 : step (state_of c) (Mark mark.EndOfText 0) (stack_of c) ≡ Goes k (Finished p) st = cc in read_end c _ k p st (step_keeps c (Mark mark.EndOfText 0)) e2

read_step : (c : Config) (t : Lexeme) (ts : List Lexeme) (y : Step) (k : ℕ) (p : Source) (st : List Frame) → Moved (so_far c) t y
    → ((d : Config) → raw (state_of d) (stack_of d) ts ≡ Over (Goes k (Finished p) st) → Read d ts p)
    → ran y (λ s2 st2. raw s2 st2 ts) (t ∷ ts) ≡ Over (Goes k (Finished p) st) → Read c (t ∷ ts) p
read_step c t ts Stuck k p st h ih e = absurd cc
read_step c t ts (Goes j s st2) k p st kept ih e =
    let r = ih kept.config (ap (λ s3. raw s3 (stack_of kept.config) ts) kept.is_state ∙ ap (λ st3. raw s st3 ts) kept.is_stack ∙ e) in
    record { decls = r.decls; is = r.is; spells = r.spells ∙ kept.spells ts }

pub read : (ts : List Lexeme) (c : Config) (k : ℕ) (p : Source) (st : List Frame) → raw (state_of c) (stack_of c) ts ≡ Over (Goes k (Finished p) st)
    → Read c ts p
read [] c k p st e = read_over c k p st e
read (t ∷ ts) c k p st e = read_step c t ts _ k p st (advance_moved c t) (λ d h. read ts d k p st h) e

-- ---- from the start

abbrev pub begin : Config
begin = InDecls (Top NoDecls)

-- what begins here begins some program
reach_begins : (before : List Lexeme) → Reach begin before → BeginsProgram before
reach_begins before r =
    let k = completed r.config in
    let e = r.raw_on k.more ∙ k.completes.ends in
    let d = read (before ++ k.more) begin 0 k.completes.source [] e in
    let levels : levels_decls d.decls [] ≡ r.levels ++ meter (state_of r.config) (stack_of r.config) k.more =
    sym (program_gives d.decls).marks ∙ ap (λ ts. meter start [] ts) d.spells ∙ r.meter_on k.more in
    record {
      decls = d.decls;
      rest = k.more;
      real = k.completes.real;
      spells = d.spells;
      within = subst AreWithin (sym (ap (λ ls. take (length before) ls) levels ∙ take_front r.levels _ (length before) r.count)) r.within;
    }

no_end : (y : Step) (k : ℕ) (p : Source) (st : List Frame) → NoEnd y → y ≡ Goes k (Finished p) st → ⊥
no_end y k p st h e = subst NoEnd e h

stuck_none : (before rest : List Lexeme) (r : Reach begin before) → StuckAt r.config rest → NoneGoesOn before rest
stuck_none before [] r h = λ decls spells.
    let e : Over (step (state_of r.config) (Mark mark.EndOfText 0) (stack_of r.config)) ≡ Over (Goes 0 (Finished (source_of decls)) []) =
    sym (r.raw_on []) ∙ ap (λ ts. raw start [] ts) (append-nil before ∙ sym spells) ∙ (program_gives decls).ends in
    let e2 : step (state_of r.config) (Mark mark.EndOfText 0) (stack_of r.config) ≡ Goes 0 (Finished (source_of decls)) [] = cc in
    no_end _ 0 (source_of decls) [] h e2
stuck_none before (t ∷ rest) r h = λ decls after spells.
    let e : Halts (t ∷ after) ≡ Over (Goes 0 (Finished (source_of decls)) []) =
    sym (ap (λ y. ran y (λ s2 st2. raw s2 st2 after) (t ∷ after)) h) ∙ sym (r.raw_on (t ∷ after)) ∙ ap (λ ts. raw start [] ts) (sym spells) ∙ (program_gives decls).ends in
    absurd cc

falls_deep : (before : List Lexeme) (token : Lexeme) (r : Reach begin before) (k : ℕ) (s : State) (st : List Frame) (kept : Continued (so_far r.config) token s st)
    → advance (state_of r.config) token (stack_of r.config) ≡ Goes k s st → limit < k → GoesTooDeep before token
falls_deep before token r k s st kept e h =
    let c = completed kept.config in
    let over : raw s st c.more ≡ Over (Goes 0 (Finished c.completes.source) []) =
    ap (λ st3. raw s st3 c.more) (sym kept.is_stack) ∙ ap (λ s3. raw s3 (stack_of kept.config) c.more) (sym kept.is_state) ∙ c.completes.ends in
    let end : raw start [] (before ++ token ∷ c.more) ≡ Over (Goes 0 (Finished c.completes.source) []) =
    r.raw_on (token ∷ c.more) ∙ ap (λ y. ran y (λ s2 st2. raw s2 st2 c.more) (token ∷ c.more)) e ∙ over in
    let d = read (before ++ token ∷ c.more) begin 0 c.completes.source [] end in
    let levels : levels_decls d.decls [] ≡ r.levels ++ k ∷ meter s st c.more =
    sym (program_gives d.decls).marks ∙ ap (λ ts. meter start [] ts) d.spells ∙ r.meter_on (token ∷ c.more)
    ∙ ap (λ y. r.levels ++ metered y (λ s2 st2. meter s2 st2 c.more)) e in
    record {
      decls = d.decls;
      after = c.more;
      real = c.completes.real;
      spells = d.spells;
      deep = subst (λ n. limit < n) (sym (ap (λ ls. get_or ls (length before) 0) levels ∙ nth_front r.levels k _ (length before) r.count)) h;
    }

-- ---- the answers

pub yes_is_program : (ts : List Lexeme) (p : Source) → runs start [] ts ≡ Yes p → IsProgram ts p
yes_is_program ts p e =
    let a : Accepts begin ts p = subst (Tells begin ts) e (tells ts begin) in
    let over : raw start [] ts ≡ Over (Goes a.level (Finished p) a.stack) =
    ap (λ xs. raw start [] xs) (sym (append-nil ts)) ∙ a.reach.raw_on [] ∙ ap Over a.ends in
    let d = read ts begin a.level p a.stack over in
    let levels : levels_decls d.decls [] ≡ a.reach.levels =
    sym (program_gives d.decls).marks ∙ ap (λ xs. meter start [] xs) (d.spells ∙ sym (append-nil ts)) ∙ a.reach.meter_on [] ∙ append-nil a.reach.levels in
    record { decls = d.decls; spells = d.spells; within = subst AreWithin (sym levels) a.reach.within; is = d.is }

pub stopped_stops : (ts rest : List Lexeme) → runs start [] ts ≡ Stopped rest
    → (before : List Lexeme) × (before ++ rest ≡ ts) × BeginsProgram before × NoneGoesOn before rest
stopped_stops ts rest e =
    let a : Stays begin ts rest = subst (Tells begin ts) e (tells ts begin) in
    (a.before, a.parts, reach_begins a.before a.reach, stuck_none a.before rest a.reach a.stuck)

deep_kept : (c : Config) (t : Lexeme) (y : Step) (k : ℕ) (s : State) (st : List Frame) → Moved (so_far c) t y → y ≡ Goes k s st → Continued (so_far c) t s st
deep_kept c t y k s st h e = subst (Moved (so_far c) t) e h

pub deep_sinks : (ts rest : List Lexeme) → runs start [] ts ≡ TooDeep rest
    → (before : List Lexeme) × (token : Lexeme) × (after : List Lexeme) × (rest ≡ token ∷ after) × (before ++ token ∷ after ≡ ts)
    × BeginsProgram before × GoesTooDeep before token
deep_sinks ts rest e =
    let a : Falls begin ts rest = subst (Tells begin ts) e (tells ts begin) in (
      a.before,
      a.token,
      a.after,
      a.is,
      a.parts,
      reach_begins a.before a.reach,
      falls_deep a.before a.token a.reach a.level a.state a.stack (deep_kept a.reach.config a.token _ a.level a.state a.stack (advance_moved a.reach.config a.token) a.goes) a.goes a.deep,
    )

-- ---- only this answer

-- a part of a run that ends well, within the limit
reaches_step : (c : Config) (t : Lexeme) (before x : List Lexeme) (y : Step) (z : Step) → advance (state_of c) t (stack_of c) ≡ y → Moved (so_far c) t y
    → ((d : Config) → raw (state_of d) (stack_of d) (before ++ x) ≡ Over z → AreWithin (take (length before) (meter (state_of d) (stack_of d) (before ++ x))) → Reach d before)
    → ran y (λ s2 st2. raw s2 st2 (before ++ x)) (t ∷ (before ++ x)) ≡ Over z
    → AreWithin (take (suc (length before)) (metered y (λ s2 st2. meter s2 st2 (before ++ x)))) → Reach c (t ∷ before)
reaches_step c t before x Stuck z e h ih q w = absurd cc
reaches_step c t before x (Goes k s st) z e kept ih q w =
    reach_more c t before k s st e w.0 kept
    (ih kept.config (ap (λ s3. raw s3 (stack_of kept.config) (before ++ x)) kept.is_state ∙ ap (λ st3. raw s st3 (before ++ x)) kept.is_stack ∙ q)
    (subst (λ ls. AreWithin (take (length before) ls))
    (ap (λ st3. meter s st3 (before ++ x)) (sym kept.is_stack) ∙ ap (λ s3. meter s3 (stack_of kept.config) (before ++ x)) (sym kept.is_state)) w.1))

reaches : (before x : List Lexeme) (c : Config) (z : Step) → raw (state_of c) (stack_of c) (before ++ x) ≡ Over z
    → AreWithin (take (length before) (meter (state_of c) (stack_of c) (before ++ x))) → Reach c before
reaches [] x c z e w = reach_none c
reaches (t ∷ before) x c z e w = reaches_step c t before x _ z refl (advance_moved c t) (λ d q v. reaches before x d z q v) e w

begins_reach : (before : List Lexeme) → BeginsProgram before → Reach begin before
begins_reach before b =
    let g = program_gives b.decls in
    reaches before b.rest begin (Goes 0 (Finished (source_of b.decls)) [])
    (ap (λ ts. raw start [] ts) (sym b.spells) ∙ g.ends)
    (subst (λ ls. AreWithin (take (length before) ls)) (sym g.marks ∙ ap (λ ts. meter start [] ts) b.spells) b.within)

-- where no program goes on, the machine stops
stop_end : (before : List Lexeme) (r : Reach begin before) (y : Step) → Keeps (so_far r.config) (Mark mark.EndOfText 0) y → NoneGoesOn before []
    → ending (limited y) ≡ Stopped []
stop_end before r Stuck k h = refl
stop_end before r (Goes l (InDecl s) st) k h = ends_nothing (nat_le l limit) (InDecl s) st (λ p q. absurd cc)
stop_end before r (Goes l (InExpr s) st) k h = ends_nothing (nat_le l limit) (InExpr s) st (λ p q. absurd cc)
stop_end before r (Goes l (InArm s) st) k h = ends_nothing (nat_le l limit) (InArm s) st (λ p q. absurd cc)
stop_end before r (Goes l (Finished p) st) k h = absurd (h k.decls (k.spells [] ∙ r.spells [] ∙ append-nil before))

goes_program : (before : List Lexeme) (t : Lexeme) (r : Reach begin before) (k : ℕ) (s : State) (st : List Frame)
    → advance (state_of r.config) t (stack_of r.config) ≡ Goes k s st → Continued (so_far r.config) t s st
    → (decls : Decls) × (after : List Lexeme) × (spell_decls decls [] ≡ before ++ t ∷ after)
goes_program before t r k s st e kept =
    let c = completed kept.config in
    let over : raw s st c.more ≡ Over (Goes 0 (Finished c.completes.source) []) =
    ap (λ st3. raw s st3 c.more) (sym kept.is_stack) ∙ ap (λ s3. raw s3 (stack_of kept.config) c.more) (sym kept.is_state) ∙ c.completes.ends in
    let end : raw start [] (before ++ t ∷ c.more) ≡ Over (Goes 0 (Finished c.completes.source) []) =
    r.raw_on (t ∷ c.more) ∙ ap (λ y. ran y (λ s2 st2. raw s2 st2 c.more) (t ∷ c.more)) e ∙ over in
    let d = read (before ++ t ∷ c.more) begin 0 c.completes.source [] end in
    (d.decls, c.more, d.spells)

stop_step : (before : List Lexeme) (t : Lexeme) (rest : List Lexeme) (r : Reach begin before) (y : Step) → advance (state_of r.config) t (stack_of r.config) ≡ y
    → Moved (so_far r.config) t y → NoneGoesOn before (t ∷ rest) → onward (limited y) (λ s2 st2. runs s2 st2 rest) (t ∷ rest) ≡ Stopped (t ∷ rest)
stop_step before t rest r Stuck e k h = refl
stop_step before t rest r (Goes l s st) e kept h = let g = goes_program before t r l s st e kept in absurd (h g.0 g.1 g.2)

stop_at : (before rest : List Lexeme) (r : Reach begin before) → NoneGoesOn before rest → runs (state_of r.config) (stack_of r.config) rest ≡ Stopped rest
stop_at before [] r h = stop_end before r _ (step_keeps r.config (Mark mark.EndOfText 0)) h
stop_at before (t ∷ rest) r h = stop_step before t rest r _ refl (advance_moved r.config t) h

pub stops_stopped : (ts before rest : List Lexeme) → before ++ rest ≡ ts → BeginsProgram before → NoneGoesOn before rest → runs start [] ts ≡ Stopped rest
stops_stopped ts before rest e b h =
    let r = begins_reach before b in
    ap (λ xs. runs start [] xs) (sym e) ∙ r.runs_on rest ∙ stop_at before rest r h

-- where one goes on too deep, it sinks
sink_step : (before : List Lexeme) (t : Lexeme) (rest : List Lexeme) (r : Reach begin before) (y : Step) → advance (state_of r.config) t (stack_of r.config) ≡ y
    → GoesTooDeep before t → onward (limited y) (λ s2 st2. runs s2 st2 rest) (t ∷ rest) ≡ TooDeep (t ∷ rest)
sink_step before t rest r Stuck e h =
    let g = program_gives h.decls in
    let q : Halts (t ∷ h.after) ≡ Over (Goes 0 (Finished (source_of h.decls)) []) =
    sym (ap (λ y. ran y (λ s2 st2. raw s2 st2 h.after) (t ∷ h.after)) e) ∙ sym (r.raw_on (t ∷ h.after)) ∙ ap (λ ts. raw start [] ts) (sym h.spells) ∙ g.ends in
    absurd cc
sink_step before t rest r (Goes k s st) e h =
    let g = program_gives h.decls in
    let levels : levels_decls h.decls [] ≡ r.levels ++ k ∷ meter s st h.after =
    sym g.marks ∙ ap (λ ts. meter start [] ts) h.spells ∙ r.meter_on (t ∷ h.after) ∙ ap (λ y. r.levels ++ metered y (λ s2 st2. meter s2 st2 h.after)) e in
    let deep : limit < k = subst (λ n. limit < n) (ap (λ ls. get_or ls (length before) 0) levels ∙ nth_front r.levels k _ (length before) r.count) h.deep in
    let b : nat_le k limit ≡ false = grind (arith, deep) in
    ap (λ v. onward (if v then mc.Moves s st else mc.Sinks) (λ s2 st2. runs s2 st2 rest) (t ∷ rest)) b

pub sinks_deep : (ts before : List Lexeme) (t : Lexeme) (rest : List Lexeme) → before ++ t ∷ rest ≡ ts → BeginsProgram before → GoesTooDeep before t
    → runs start [] ts ≡ TooDeep (t ∷ rest)
sinks_deep ts before t rest e b h =
    let r = begins_reach before b in
    ap (λ xs. runs start [] xs) (sym e) ∙ r.runs_on (t ∷ rest) ∙ sink_step before t rest r _ refl h

-- a program is read
within_take : (n : ℕ) (ls : List ℕ) → AreWithin ls → AreWithin (take n ls)
within_take zero ls h = tt
within_take (suc n) [] h = tt
within_take (suc n) (k ∷ ls) h = (h.0, within_take n ls h.1)

pub program_yes : (ts : List Lexeme) (p : Source) → IsProgram ts p → runs start [] ts ≡ Yes p
program_yes ts p h =
    let g = program_gives h.decls in
    let all : ts ++ [] ≡ spell_decls h.decls [] = append-nil ts ∙ sym h.spells in
    let over : raw start [] (ts ++ []) ≡ Over (Goes 0 (Finished (source_of h.decls)) []) = ap (λ xs. raw start [] xs) all ∙ g.ends in
    let r : Reach begin ts = reaches ts [] begin _ over
    (within_take (length ts) _ (subst AreWithin (sym g.marks ∙ ap (λ xs. meter start [] xs) (sym all)) h.within)) in
    let last : Over (step (state_of r.config) (Mark mark.EndOfText 0) (stack_of r.config)) ≡ Over (Goes 0 (Finished (source_of h.decls)) []) = sym (r.raw_on []) ∙ over in
    let end : step (state_of r.config) (Mark mark.EndOfText 0) (stack_of r.config) ≡ Goes 0 (Finished (source_of h.decls)) [] = cc in
    ap (λ xs. runs start [] xs) (sym (append-nil ts)) ∙ r.runs_on [] ∙ ap (λ y. ending (limited y)) end ∙ ap Yes h.is
