-- Steps of loops.
use Rattle.std.proofs.Common.{◌≡◌, ℕ, zero, suc, ◌+◌, ◌-◌, ◌<◌, List, [], ◌∷◌, ◌++◌, map, length, get_or, set, take, drop, Option, Some, None, refl, sym, ap, ◌∙◌, subst, arith, append_assoc, append-nil}
use Rattle.std.specs.Prelude.{Result, Bool, true, false, ◌==◌, if◌then◌else◌}
use Rattle.std.proofs.lemmas.Bool.{eqb-true}
use Rattle.camelot_values.specs.Kinds.{DataType}
use Rattle.camelot_values.specs.declared.kinds.Kind.{Kind}
use Rattle.camelot_tree.specs.declared.tree.Name.{Name}
use Rattle.camelot_tree.specs.declared.tree.ArmCell.{ArmCell}
use Rattle.camelot_tree.specs.declared.tree.ArmCell.TheVariants as cell
use Rattle.camelot_tree.specs.Tree.{Function, Expression, Branch, expressions, arms, Match, Expressions, NoExpressions, AndExpression, Arms, NoArms, AndArm}
use Rattle.camelot_tree.specs.Spine.{spine_of, leaf_of}
use Rattle.camelot_typing.specs.Kinds.{Head, Globals, Scope, bind, or_else, fields_of, constructor_number, bind_fields, bind_cell, arm_scope, all_atoms}
use Rattle.camelot_types.specs.declared.fault.TypeFault.{TypeFault}
use Rattle.stops.specs.declared.stop.Stop.{Stop}
use Rattle.stops.specs.declared.stop.Stop.TheVariants.{Fault, Memory}
use Rattle.camelot_types.specs.declared.guess.Guess.{Guess}
use Rattle.camelot_types.specs.declared.guess.Guess.TheVariants.{Known, Unknown}
use Rattle.camelot_types.specs.Walk.{line_of, con_guess, cons_of_type, all_steps}
use Rattle.camelot_types.specs.Solving.{Walked, Goes, Stops, and_then, looked_up, replaced, unified, made_same, run, con_found, headed, missing_checked, with_table, noted, Work, Found, FoundAll, FoundGuesses, FoundArm, walk, walk_all, walk_arms, walk_on, first_arm, next_arm, match_walk, rest_of, unwound, lines_of, Bodies, body_walked, bodies_on, fresh}
use Rattle.camelot_types.specs.Doing.{StopsWith, Finds}
use Rattle.camelot_types.proofs.Walking.{giving, all_answered, walk_all_is, unwound_spine, unwound_last, unwound_stops}
use Rattle.camelot_types.proofs.Walking as walking

changed : (f : Guess → Guess) (xs : List Guess) (i : ℕ) (d : Guess) → i < length xs
    → take (suc i) (set xs i (f (get_or xs i d))) ++ map f (drop (suc i) (set xs i (f (get_or xs i d)))) ≡ take i xs ++ map f (drop i xs)
changed f [] i d h = absurd (omega (arith, h))
changed f (x ∷ xs) zero d h = refl
changed f (x ∷ xs) (suc i) d h = ap (λ l. x ∷ l) (changed f xs i d (omega arith))

-- one more entry is changed
pub entry_changed : (f : Guess → Guess) (xs ys : List Guess) (i : ℕ) (d y : Guess) → i < length xs → y ≡ f (get_or xs i d) → take i xs ++ map f (drop i xs) ≡ ys
    → take (i + 1) (set xs i y) ++ map f (drop (i + 1) (set xs i y)) ≡ ys
entry_changed f xs ys i d y h e k =
    let s : suc i ≡ i + 1 = omega arith in
    ap (λ v. take (i + 1) (set xs i v) ++ map f (drop (i + 1) (set xs i v))) e
    ∙ subst (λ j. take j (set xs i (f (get_or xs i d))) ++ map f (drop j (set xs i (f (get_or xs i d)))) ≡ take i xs ++ map f (drop i xs)) s (changed f xs i d h) ∙ k

-- ---- answers that stop

pub stops_along : {A B : Type 0} (o : Walked A) (q : Walked B) (stop : Stop TypeFault) → ((fault : TypeFault) → o ≡ Stops fault → q ≡ Stops fault)
    → StopsWith o stop → StopsWith q stop
stops_along o q (Fault fault) f h = f fault h
stops_along o q Memory f h = tt

abbrev arm_found : Work → ℕ → Guess → FoundArm
arm_found w con a = record { work = w; con = con; guess = a }

-- ---- the left end of an expression

map_last : {A : Type 0} (f : A → Expression) (xs : List A) (x : A) → map f (xs ++ x ∷ []) ≡ map f xs ++ f x ∷ []
map_last f [] x = refl
map_last f (y ∷ xs) x = ap (λ l. f y ∷ l) (map_last f xs x)

pub unwound_begins : (g : Globals Guess) (s : Scope Guess) (w : Work) (e leaf : Expression) (ps : List Expression) (o : Walked Found)
    → ps ≡ spine_of e → leaf ≡ leaf_of e → walk g s w leaf ≡ o → unwound g s ps o ≡ walk g s w e
unwound_begins g s w e leaf ps o p l h = ap (unwound g s ps) (sym h ∙ ap (walk g s w) l) ∙ ap (λ x. unwound g s x (walk g s w (leaf_of e))) p ∙ unwound_spine g s w e

pub leaf_stops : (g : Globals Guess) (s : Scope Guess) (w : Work) (e leaf : Expression) (ps : List Expression) (stop : Stop TypeFault)
    → ps ≡ spine_of e → leaf ≡ leaf_of e → StopsWith (walk g s w leaf) stop → StopsWith (walk g s w e) stop
leaf_stops g s w e leaf ps stop p l h =
    stops_along (walk g s w leaf) (walk g s w e) stop (λ fault k. sym (unwound_begins g s w e leaf ps (Stops fault) p l k) ∙ unwound_stops g s ps fault) h

pub unwound_more : {A : Type 0} (f : A → Expression) (g : Globals Guess) (s : Scope Guess) (before after : List A) (p : A) (found : Found) (o whole : Walked Found) → before ≡ after ++ p ∷ []
    → unwound g s (map f before) (Goes found) ≡ whole → rest_of g s (f p) found ≡ o → unwound g s (map f after) o ≡ whole
unwound_more f g s before after p found o whole e h k =
    ap (unwound g s (map f after)) (sym k) ∙ sym (unwound_last g s (map f after) (f p) (Goes found)) ∙ ap (λ l. unwound g s l (Goes found)) (sym (map_last f after p)) ∙ ap (λ l. unwound g s (map f l) (Goes found)) (sym e) ∙ h

pub unwound_fails : {A : Type 0} (f : A → Expression) (g : Globals Guess) (s : Scope Guess) (before after : List A) (p : A) (found : Found) (whole : Walked Found) (stop : Stop TypeFault) → before ≡ after ++ p ∷ []
    → unwound g s (map f before) (Goes found) ≡ whole → StopsWith (rest_of g s (f p) found) stop → StopsWith whole stop
unwound_fails f g s before after p found whole stop e h k =
    stops_along (rest_of g s (f p) found) whole stop (λ fault q. sym (unwound_more f g s before after p found (Stops fault) whole e h q) ∙ unwound_stops g s (map f after) fault) k

-- ---- arguments

and_then_stops : {A B : Type 0} (o : Walked A) (next : A → Walked B) (fault : TypeFault) → o ≡ Stops fault → and_then o next ≡ Stops fault
and_then_stops o next fault h = ap (λ q. and_then q next) h

-- guesses before those of the arguments
abbrev behind : List Guess → FoundAll → FoundGuesses
behind before h = record { work = h.work; guesses = before ++ h.guesses }

walk_on_all : (g : Globals Guess) (s : Scope Guess) (w : Work) (before : List Guess) (es : Expressions)
    → walk_on g s w before es ≡ and_then (walk_all g s w es) (λ h. Goes (behind before h))
unfolding walk_on walk_all
walk_on_all g s w before NoExpressions = ap (λ l. Goes (with_guesses w l)) (sym (append-nil before))
  where
    with_guesses : Work → List Guess → FoundGuesses
    with_guesses w l = record { work = w; guesses = l }
walk_on_all g s w before (AndExpression e es) = by_walk (walk g s w e) (λ f. walk_on_all g s f.work (before ++ f.guess ∷ []) es)
  where
    whole : Found → FoundAll → FoundAll
    whole f h = record { work = h.work; lines = line_of e ∷ h.lines; guesses = f.guess ∷ h.guesses }

    with_guesses : Work → List Guess → FoundGuesses
    with_guesses w l = record { work = w; guesses = l }

    by_all : (f : Found) (o : Walked FoundAll)
        → and_then o (λ h. Goes (behind (before ++ f.guess ∷ []) h)) ≡ and_then (and_then o (λ h. Goes (whole f h))) (λ h. Goes (behind before h))
    by_all f (Goes h) = ap (λ l. Goes (with_guesses h.work l)) (append_assoc before (f.guess ∷ []) h.guesses)
    by_all f (Stops fault) = refl

    by_walk : (o : Walked Found) → ((f : Found) → walk_on g s f.work (before ++ f.guess ∷ []) es ≡ and_then (walk_all g s f.work es) (λ h. Goes (behind (before ++ f.guess ∷ []) h)))
        → and_then o (λ f. walk_on g s f.work (before ++ f.guess ∷ []) es) ≡ and_then (and_then o (λ f. and_then (walk_all g s f.work es) (λ h. Goes (whole f h)))) (λ h. Goes (behind before h))
    by_walk (Goes f) k = k f ∙ by_all f (walk_all g s f.work es)
    by_walk (Stops fault) k = refl

-- the lines of arguments are those of the arguments
lines_all : (g : Globals Guess) (s : Scope Guess) (w : Work) (es : Expressions) (h : FoundAll) → walk_all g s w es ≡ Goes h → h.lines ≡ lines_of es
lines_all g s w es h e = by_run (run g.types w.table (all_steps g s es)) (sym e ∙ walk_all_is g s w es)
  where
    answer : List Guess → FoundAll
    answer t = all_answered w (all_atoms Known g s es) (lines_of es) (walking.guesses_of g s es) t

    by_run : (o : Walked (List Guess)) → Goes h ≡ giving answer o → h.lines ≡ lines_of es
    by_run (Goes t) k = let q : h ≡ answer t = cc in ap (λ x. x.lines) q
    by_run (Stops fault) k = cc

-- what is left of the walk of arguments
pub record ArgsLeft (g : Globals Guess) (s : Scope Guess) (first : Work) (all : Expressions) (w : Work) (guesses : List Guess) (rest : Expressions) : Type 0 where
  pub left : walk_on g s w guesses rest ≡ walk_on g s first [] all

pub args_begin : (g : Globals Guess) (s : Scope Guess) (w : Work) (all : Expressions) (guesses : List Guess) → guesses ≡ [] → ArgsLeft g s w all w guesses all
args_begin g s w all guesses h = record { left = ap (λ l. walk_on g s w l all) h }

pub args_more : (g : Globals Guess) (s : Scope Guess) (first : Work) (all : Expressions) (w next : Work) (guesses more : List Guess) (e : Expression) (es : Expressions) (a : Guess) → ArgsLeft g s first all w guesses (AndExpression e es)
    → walk g s w e ≡ Goes (record { work = next; guess = a }) → more ≡ guesses ++ a ∷ [] → ArgsLeft g s first all next more es
unfolding walk_on
args_more g s first all w next guesses more e es a h k m = record {
  left = ap (λ l. walk_on g s next l es) m ∙ sym (ap (λ o. and_then o (λ f. walk_on g s f.work (guesses ++ f.guess ∷ []) es)) k) ∙ h.left;
}

pub args_fail : (g : Globals Guess) (s : Scope Guess) (first : Work) (all : Expressions) (w : Work) (guesses : List Guess) (e : Expression) (es : Expressions) (stop : Stop TypeFault) → ArgsLeft g s first all w guesses (AndExpression e es)
    → StopsWith (walk g s w e) stop → StopsWith (walk_all g s first all) stop
unfolding walk_on
args_fail g s first all w guesses e es stop h k = stops_along (walk g s w e) (walk_all g s first all) stop (λ fault q. by_all fault (walk_all g s first all)
    (sym (walk_on_all g s first [] all) ∙ sym h.left ∙ ap (λ o. and_then o (λ f. walk_on g s f.work (guesses ++ f.guess ∷ []) es)) q)) k
  where
    by_all : (fault : TypeFault) (o : Walked FoundAll) → and_then o (λ h. Goes (behind [] h)) ≡ Stops fault → o ≡ Stops fault
    by_all fault (Goes h) q = cc
    by_all fault (Stops found) q = let e : found ≡ fault = cc in ap stopped e
      where
        stopped : TypeFault → Walked FoundAll
        stopped f = Stops f

pub args_end : (g : Globals Guess) (s : Scope Guess) (first : Work) (all : Expressions) (w : Work) (guesses : List Guess)
    → ArgsLeft g s first all w guesses NoExpressions
    → walk_all g s first all ≡ Goes (record { work = w; lines = lines_of all; guesses = guesses })
unfolding walk_on
args_end g s first all w guesses h = by_all (walk_all g s first all) refl (sym (walk_on_all g s first [] all) ∙ sym h.left)
  where
    full : Work → List ℕ → List Guess → Walked FoundAll
    full w ls gs = Goes (record { work = w; lines = ls; guesses = gs })

    ends : FoundGuesses
    ends = record { work = w; guesses = guesses }

    by_all : (o : Walked FoundAll) → walk_all g s first all ≡ o → and_then o (λ h. Goes (behind [] h)) ≡ Goes ends → o ≡ full w (lines_of all) guesses
    by_all (Goes h) q k =
        let e : behind [] h ≡ ends = cc in
        ap (λ x. full x h.lines h.guesses) (ap (λ x. x.work) e) ∙ ap (λ x. full w x h.guesses) (lines_all g s first all h q) ∙ ap (λ x. full w (lines_of all) x) (ap (λ x. x.guesses) e)
    by_all (Stops found) q k = cc

-- ---- arms

arms_step : (g : Globals Guess) (s : Scope Guess) (w : Work) (ns : List ℕ) (first : ℕ) (body : Guess) (c : Name) (fs : List (Option Name)) (x : ArmCell) (b : Expression) (as' : Arms)
    → walk_arms g s w ns first body (AndArm c fs x b as') ≡ and_then (next_arm g s w ns first body c fs x b) (λ r. walk_arms g s r.work (ns ++ r.con ∷ []) first body as')
unfolding walk_arms next_arm
arms_step g s w ns first body c fs x b as' = by_con (con_found g.types c (constructor_number g.types c.word))
  where
    inner : Scope Guess
    inner = arm_scope Known g.types c fs x s

    by_same : (con : ℕ) (f : Found) (o : Walked (List Guess)) → and_then o (λ next. walk_arms g s (with_table f.work next) (ns ++ con ∷ []) first body as')
        ≡ and_then (and_then o (λ next. Goes (arm_found (with_table f.work next) con f.guess))) (λ r. walk_arms g s r.work (ns ++ r.con ∷ []) first body as')
    by_same con f (Goes t) = refl
    by_same con f (Stops fault) = refl

    by_body : (con : ℕ) (o : Walked Found)
        → and_then o (λ f. and_then (made_same g.types f.work.table body f.guess (line_of b)) (λ next. walk_arms g s (with_table f.work next) (ns ++ con ∷ []) first body as'))
        ≡ and_then (and_then o (λ f. and_then (made_same g.types f.work.table body f.guess (line_of b)) (λ next. Goes (arm_found (with_table f.work next) con f.guess)))) (λ r. walk_arms g s r.work (ns ++ r.con ∷ []) first body as')
    by_body con (Goes f) = by_same con f (made_same g.types f.work.table body f.guess (line_of b))
    by_body con (Stops fault) = refl

    by_head : (con : ℕ) (o : Walked (List Guess))
        → and_then o (λ table. and_then (walk g inner (with_table w table) b) (λ f. and_then (made_same g.types f.work.table body f.guess (line_of b)) (λ next. walk_arms g s (with_table f.work next) (ns ++ con ∷ []) first body as')))
        ≡ and_then (and_then o (λ table. and_then (walk g inner (with_table w table) b) (λ f. and_then (made_same g.types f.work.table body f.guess (line_of b)) (λ next. Goes (arm_found (with_table f.work next) con f.guess)))))
        (λ r. walk_arms g s r.work (ns ++ r.con ∷ []) first body as')
    by_head con (Goes t) = by_body con (walk g inner (with_table w t) b)
    by_head con (Stops fault) = refl

    by_con : (o : Walked ℕ)
        → and_then o (λ con. and_then (headed g.types w.table ns (con_guess g.types first) (con_guess g.types con) c con fs x) (λ table. and_then (walk g inner (with_table w table) b) (λ f. and_then (made_same g.types f.work.table body f.guess (line_of b)) (λ next. walk_arms g s (with_table f.work next) (ns ++ con ∷ []) first body as'))))
        ≡ and_then (and_then o (λ con. and_then (headed g.types w.table ns (con_guess g.types first) (con_guess g.types con) c con fs x) (λ table. and_then (walk g inner (with_table w table) b) (λ f. and_then (made_same g.types f.work.table body f.guess (line_of b)) (λ next. Goes (arm_found (with_table f.work next) con f.guess))))))
        (λ r. walk_arms g s r.work (ns ++ r.con ∷ []) first body as')
    by_con (Goes con) = by_head con (headed g.types w.table ns (con_guess g.types first) (con_guess g.types con) c con fs x)
    by_con (Stops fault) = refl

-- what is left of the walk of arms
pub record ArmsLeft (g : Globals Guess) (s : Scope Guess) (start : Work) (con : ℕ) (body : Guess) (all : Arms) (w : Work) (ns : List ℕ) (rest : Arms) : Type 0 where
  pub left : walk_arms g s w ns con body rest ≡ walk_arms g s start (con ∷ []) con body all

pub arms_begin : (g : Globals Guess) (s : Scope Guess) (w : Work) (con : ℕ) (body : Guess) (all : Arms) (ns : List ℕ) → ns ≡ con ∷ []
    → ArmsLeft g s w con body all w ns all
arms_begin g s w con body all ns h = record { left = ap (λ l. walk_arms g s w l con body all) h }

pub arms_more : (g : Globals Guess) (s : Scope Guess) (start : Work) (con : ℕ) (body : Guess) (all : Arms) (w next : Work) (ns more : List ℕ) (c : Name) (fs : List (Option Name)) (x : ArmCell) (b : Expression) (as' : Arms) (k : ℕ) (a : Guess)
    → ArmsLeft g s start con body all w ns (AndArm c fs x b as') → next_arm g s w ns con body c fs x b ≡ Goes (record { work = next; con = k; guess = a }) → more ≡ ns ++ k ∷ [] → ArmsLeft g s start con body all next more as'
arms_more g s start con body all w next ns more c fs x b as' k a h e m = record {
  left = ap (λ l. walk_arms g s next l con body as') m ∙ sym (ap (λ o. and_then o (λ r. walk_arms g s r.work (ns ++ r.con ∷ []) con body as')) e) ∙ sym (arms_step g s w ns con body c fs x b as') ∙ h.left;
}

pub arms_fail : (g : Globals Guess) (s : Scope Guess) (start : Work) (con : ℕ) (body : Guess) (all : Arms) (w : Work) (ns : List ℕ) (c : Name) (fs : List (Option Name)) (x : ArmCell) (b : Expression) (as' : Arms) (stop : Stop TypeFault)
    → ArmsLeft g s start con body all w ns (AndArm c fs x b as') → StopsWith (next_arm g s w ns con body c fs x b) stop → StopsWith (walk_arms g s start (con ∷ []) con body all) stop
arms_fail g s start con body all w ns c fs x b as' stop h k =
    stops_along (next_arm g s w ns con body c fs x b) (walk_arms g s start (con ∷ []) con body all) stop
    (λ fault q. sym h.left ∙ arms_step g s w ns con body c fs x b as' ∙ ap (λ o. and_then o (λ r. walk_arms g s r.work (ns ++ r.con ∷ []) con body as')) q) k

pub arms_end : (g : Globals Guess) (s : Scope Guess) (start : Work) (con : ℕ) (body : Guess) (all : Arms) (w : Work) (ns : List ℕ)
    → ArmsLeft g s start con body all w ns NoArms
    → walk_arms g s start (con ∷ []) con body all ≡ Goes (record { work = w; numbers = ns })
unfolding walk_arms
arms_end g s start con body all w ns h = sym h.left

-- ---- matches

match_is : (g : Globals Guess) (s : Scope Guess) (w : Work) (e : Expression) (as' : Arms) (l : ℕ) → match_walk g s w e as' l ≡ walk g s w (Match e as' l)
unfolding match_walk walk first_arm
match_is g s w e NoArms l = refl
match_is g s w e (AndArm c fs x b as') l = by_walk (walk g s w e)
  where
    inner : Scope Guess
    inner = arm_scope Known g.types c fs x s

    rest : FoundArm → Walked Found
    rest r = and_then (walk_arms g s r.work (r.con ∷ []) r.con r.guess as') (λ arms. and_then (missing_checked g.types arms.numbers l (cons_of_type g.types r.con)) (λ u. Goes (noted arms.work r.guess)))

    by_body : (con : ℕ) (o : Walked Found)
        → and_then (and_then o (λ body. Goes (arm_found body.work con body.guess))) rest ≡ and_then o (λ body. rest (arm_found body.work con body.guess))
    by_body con (Goes f) = refl
    by_body con (Stops fault) = refl

    by_head : (f : Found) (con : ℕ) (o : Walked (List Guess))
        → and_then (and_then o (λ table. and_then (walk g inner (with_table f.work table) b) (λ body. Goes (arm_found body.work con body.guess)))) rest
        ≡ and_then o (λ table. and_then (walk g inner (with_table f.work table) b) (λ body. rest (arm_found body.work con body.guess)))
    by_head f con (Goes t) = by_body con (walk g inner (with_table f.work t) b)
    by_head f con (Stops fault) = refl

    by_con : (f : Found) (o : Walked ℕ)
        → and_then (and_then o (λ con. and_then (headed g.types f.work.table [] (con_guess g.types con) f.guess c con fs x) (λ table. and_then (walk g inner (with_table f.work table) b) (λ body. Goes (arm_found body.work con body.guess))))) rest
        ≡ and_then o (λ con. and_then (headed g.types f.work.table [] (con_guess g.types con) f.guess c con fs x) (λ table. and_then (walk g inner (with_table f.work table) b) (λ body. rest (arm_found body.work con body.guess))))
    by_con f (Goes con) = by_head f con (headed g.types f.work.table [] (con_guess g.types con) f.guess c con fs x)
    by_con f (Stops fault) = refl

    by_walk : (o : Walked Found) → and_then o (λ f. and_then (first_arm g s f.work f.guess c fs x b) rest)
        ≡ and_then o (λ f. and_then (con_found g.types c (constructor_number g.types c.word)) (λ con. and_then (headed g.types f.work.table [] (con_guess g.types con) f.guess c con fs x) (λ table. and_then (walk g inner (with_table f.work table) b) (λ body. rest (arm_found body.work con body.guess)))))
    by_walk (Goes f) = by_con f (con_found g.types c (constructor_number g.types c.word))
    by_walk (Stops fault) = refl

pub finds_match : (g : Globals Guess) (s : Scope Guess) (w work : Work) (e : Expression) (as' : Arms) (l : ℕ) (result : Result Guess (Stop TypeFault)) → Finds (match_walk g s w e as' l) work result → Finds (walk g s w (Match e as' l)) work result
finds_match g s w work e as' l result h = subst (λ o. Finds o work result) (match_is g s w e as' l) h

pub number_found : (types : List DataType) (c : Name) (o : Option ℕ) (con : ℕ) → con_found types c o ≡ Goes con → o ≡ Some con
unfolding con_found
number_found types c None con h = cc
number_found types c (Some n) con h = let e : n ≡ con = cc in ap Some e

-- ---- scopes that are left

extends_fields : (fs : List (Option Name)) (ks : List Kind) (s : Scope Guess)
    → (k : ℕ) × (length (bind_fields Known fs ks s) ≡ k + length s) × (drop k (bind_fields Known fs ks s) ≡ s)
extends_fields [] ks s = (0, omega arith, refl)
extends_fields (None ∷ fs) [] s = (0, omega arith, refl)
extends_fields (None ∷ fs) (k ∷ ks) s = extends_fields fs ks s
extends_fields (Some n ∷ fs) [] s = (0, omega arith, refl)
extends_fields (Some n ∷ fs) (k ∷ ks) s =
    let h = extends_fields fs ks (bind n.word (Known k) s) in
    (suc h.0, omega (arith, h.1), drop_one h.0 (bind_fields Known fs ks (bind n.word (Known k) s)) (bind n.word (Known k) s) h.2 ∙ refl)
  where
    drop_one : (k : ℕ) (xs ys : Scope Guess) → drop k xs ≡ ys → drop (suc k) xs ≡ drop 1 ys
    drop_one zero xs ys h = ap (drop 1) h
    drop_one (suc k) [] ys h = ap (drop 1) h
    drop_one (suc k) (x ∷ xs) ys h = drop_one k xs ys h

-- the innermost names of a scope are those of another one and some more
record Extends (s inner : Scope Guess) : Type 0 where
  more : ℕ
  size : length inner ≡ more + length s
  left : drop more inner ≡ s

extends_cell : (x : ArmCell) (s inner : Scope Guess) → Extends s inner → Extends s (bind_cell Known x inner)
extends_cell cell.Plain s inner h = h
extends_cell cell.Free s inner h = h
extends_cell (cell.Keep n) s inner h = let l = h.size in record { more = suc h.more; size = omega (arith, l); left = h.left }

left_behind : (s inner : Scope Guess) (len : ℕ) → Extends s inner → len ≡ length s → drop (length inner - len) inner ≡ s
left_behind s inner len h l =
    let z = h.size in
    let e : length inner - len ≡ h.more = omega (arith, z, l) in
    ap (λ k. drop k inner) e ∙ h.left

pub arm_left : (types : List DataType) (c : Name) (fs : List (Option Name)) (x : ArmCell) (s inner : Scope Guess) (len : ℕ)
    → inner ≡ arm_scope Known types c fs x s → len ≡ length s → drop (length inner - len) inner ≡ s
arm_left types c fs x s inner len h l =
    let fields : Scope Guess = bind_fields Known fs (fields_of types (or_else (constructor_number types c.word) 0)) s in
    let e = extends_fields fs (fields_of types (or_else (constructor_number types c.word) 0)) s in
    left_behind s inner len (subst (Extends s) (sym h) (extends_cell x s fields (record { more = e.0; size = e.1; left = e.2 }))) l

-- ---- from item to item

pub item_here : {A : Type 0} (xs : List A) (i : ℕ) (x : A) → i < length xs → x ≡ get_or xs i x → drop i xs ≡ x ∷ drop (i + 1) xs
item_here xs i x h e = subst (λ j. drop i xs ≡ x ∷ drop j xs) s (here xs i x h e)
  where
    s : suc i ≡ i + 1
    s = omega arith

    here : {A : Type 0} (xs : List A) (i : ℕ) (x : A) → i < length xs → x ≡ get_or xs i x → drop i xs ≡ x ∷ drop (suc i) xs
    here [] i x h e = absurd (omega (arith, h))
    here (y ∷ ys) zero x h e = ap (λ z. z ∷ ys) (sym e)
    here (y ∷ ys) (suc i) x h e = here ys i x (omega arith) e

none_here : {A : Type 0} (xs : List A) (i : ℕ) → (i < length xs → ⊥) → drop i xs ≡ []
none_here [] zero h = refl
none_here [] (suc i) h = refl
none_here (x ∷ xs) zero h = absurd (h (omega arith))
none_here (x ∷ xs) (suc i) h = none_here xs i (λ k. h (omega arith))

-- the arguments and arms that are left
pub args_here : {A : Type 0} (f : A → Expression) (g : Globals Guess) (s : Scope Guess) (first : Work) (all : Expressions) (w : Work) (gs : List Guess) (xs : List A) (i : ℕ) (x : A) → i < length xs → x ≡ get_or xs i x
    → ArgsLeft g s first all w gs (expressions (map f (drop i xs))) → ArgsLeft g s first all w gs (AndExpression (f x) (expressions (map f (drop (i + 1) xs))))
args_here f g s first all w gs xs i x h e l = subst (λ ys. ArgsLeft g s first all w gs (expressions (map f ys))) (item_here xs i x h e) l

pub args_none : {A : Type 0} (f : A → Expression) (g : Globals Guess) (s : Scope Guess) (first : Work) (all : Expressions) (w : Work) (gs : List Guess) (xs : List A) (i : ℕ) → (i < length xs → ⊥)
    → ArgsLeft g s first all w gs (expressions (map f (drop i xs))) → ArgsLeft g s first all w gs NoExpressions
args_none f g s first all w gs xs i h l = subst (λ ys. ArgsLeft g s first all w gs (expressions (map f ys))) (none_here xs i h) l

pub arms_here : {A : Type 0} (f : A → Branch) (g : Globals Guess) (s : Scope Guess) (start : Work) (con : ℕ) (body : Guess) (all : Arms) (w : Work) (ns : List ℕ) (xs : List A) (i : ℕ) (x : A) → i < length xs → x ≡ get_or xs i x
    → ArmsLeft g s start con body all w ns (arms (map f (drop i xs))) → ArmsLeft g s start con body all w ns (AndArm (f x).con (f x).fields (f x).cell (f x).body (arms (map f (drop (i + 1) xs))))
arms_here f g s start con body all w ns xs i x h e l = subst (λ ys. ArmsLeft g s start con body all w ns (arms (map f ys))) (item_here xs i x h e) l

pub arms_none : {A : Type 0} (f : A → Branch) (g : Globals Guess) (s : Scope Guess) (start : Work) (con : ℕ) (body : Guess) (all : Arms) (w : Work) (ns : List ℕ) (xs : List A) (i : ℕ) → (i < length xs → ⊥)
    → ArmsLeft g s start con body all w ns (arms (map f (drop i xs))) → ArmsLeft g s start con body all w ns NoArms
arms_none f g s start con body all w ns xs i h l = subst (λ ys. ArmsLeft g s start con body all w ns (arms (map f ys))) (none_here xs i h) l

-- ---- bodies of functions

drop_map : {A B : Type 0} (f : A → B) (xs : List A) (i : ℕ) → drop i (map f xs) ≡ map f (drop i xs)
drop_map f xs zero = refl
drop_map f [] (suc i) = refl
drop_map f (x ∷ xs) (suc i) = drop_map f xs i

pub bodies_here : {A B : Type 0} (f : A → Function) (v : B → Head Guess) (g : Globals Guess) (t : List Guess) (atoms : List (List Guess)) (xs : List A) (hs : List B) (i : ℕ) (x : A) (h : B) (whole : Walked Bodies)
    → i < length xs → x ≡ get_or xs i x → i < length hs → h ≡ get_or hs i h → bodies_on g t atoms (map f (drop i xs)) (drop i (map v hs)) ≡ whole
    → bodies_on g t atoms (f x ∷ map f (drop (i + 1) xs)) (v h ∷ drop (i + 1) (map v hs)) ≡ whole
bodies_here f v g t atoms xs hs i x h whole l e m k b =
    ap (λ ys. bodies_on g t atoms (f x ∷ map f (drop (i + 1) xs)) (v h ∷ ys)) (drop_map v hs (i + 1))
    ∙ sym (ap (λ ys. bodies_on g t atoms (map f ys) (drop i (map v hs))) (item_here xs i x l e)
    ∙ ap (bodies_on g t atoms (f x ∷ map f (drop (i + 1) xs))) (drop_map v hs i ∙ ap (map v) (item_here hs i h m k))) ∙ b

pub bodies_more : {A B : Type 0} (f : A → Function) (v : B → Head Guess) (g : Globals Guess) (t : List Guess) (atoms more : List (List Guess)) (xs : List A) (hs : List B) (i : ℕ) (x : A) (h : B) (w : Work) (whole : Walked Bodies)
    → i < length xs → x ≡ get_or xs i x → i < length hs → h ≡ get_or hs i h → bodies_on g t atoms (map f (drop i xs)) (drop i (map v hs)) ≡ whole
    → body_walked g (f x) (v h) t ≡ Goes w → more ≡ atoms ++ w.atoms ∷ [] → bodies_on g w.table more (map f (drop (i + 1) xs)) (drop (i + 1) (map v hs)) ≡ whole
unfolding bodies_on
bodies_more f v g t atoms more xs hs i x h w whole l e m k b q r =
    ap (λ a. bodies_on g w.table a (map f (drop (i + 1) xs)) (drop (i + 1) (map v hs))) r
    ∙ sym (ap (λ o. and_then o (λ w. bodies_on g w.table (atoms ++ w.atoms ∷ []) (map f (drop (i + 1) xs)) (drop (i + 1) (map v hs)))) q)
    ∙ bodies_here f v g t atoms xs hs i x h whole l e m k b

pub bodies_fail : {A B : Type 0} (f : A → Function) (v : B → Head Guess) (g : Globals Guess) (t : List Guess) (atoms : List (List Guess)) (xs : List A) (hs : List B) (i : ℕ) (x : A) (h : B) (whole : Walked Bodies) (stop : Stop TypeFault)
    → i < length xs → x ≡ get_or xs i x → i < length hs → h ≡ get_or hs i h → bodies_on g t atoms (map f (drop i xs)) (drop i (map v hs)) ≡ whole
    → StopsWith (body_walked g (f x) (v h) t) stop → StopsWith whole stop
unfolding bodies_on
bodies_fail f v g t atoms xs hs i x h whole stop l e m k b q =
    stops_along (body_walked g (f x) (v h) t) whole stop
    (λ fault r. sym (bodies_here f v g t atoms xs hs i x h whole l e m k b) ∙ ap (λ o. and_then o (λ w. bodies_on g w.table (atoms ++ w.atoms ∷ []) (map f (drop (i + 1) xs)) (drop (i + 1) (map v hs)))) r) q

pub atoms_last : {A : Type 0} (v : A → List Guess) (before after : List A) (x : A) → after ≡ before ++ x ∷ [] → map v after ≡ map v before ++ v x ∷ []
atoms_last v before after x e = ap (map v) e ∙ last v before x
  where
    last : {A : Type 0} (v : A → List Guess) (xs : List A) (x : A) → map v (xs ++ x ∷ []) ≡ map v xs ++ v x ∷ []
    last v [] x = refl
    last v (y ∷ xs) x = ap (λ l. v y ∷ l) (last v xs x)

-- ---- a fresh table

pub fresh_more : (done more all : List Guess) (n c : ℕ) → n < c → done ++ fresh n (c - n) ≡ all → more ≡ done ++ Unknown n ∷ []
    → more ++ fresh (n + 1) (c - (n + 1)) ≡ all
fresh_more done more all n c l h m =
    let e : c - n ≡ suc (c - (n + 1)) = omega (arith, l) in
    let s : n + 1 ≡ suc n = omega arith in
    ap (λ t. t ++ fresh (n + 1) (c - (n + 1))) m ∙ append_assoc done (Unknown n ∷ []) (fresh (n + 1) (c - (n + 1)))
    ∙ ap (λ k. done ++ Unknown n ∷ fresh k (c - (n + 1))) s ∙ ap (λ k. done ++ fresh n k) (sym e) ∙ h

-- an unknown in place of itself changes nothing
pub replaced_by_itself : (x : ℕ) (table : List Guess) → map (replaced x (Unknown x)) table ≡ table
replaced_by_itself x [] = refl
replaced_by_itself x (a ∷ table) = ap (λ b. b ∷ map (replaced x (Unknown x)) table) (same a) ∙ ap (λ l. a ∷ l) (replaced_by_itself x table)
  where
    by_test : (y : ℕ) (b : Bool) → (y == x) ≡ b → (if b then Unknown x else Unknown y) ≡ Unknown y
    by_test y true e = ap Unknown (sym (eqb-true y x e))
    by_test y false e = refl

    same : (a : Guess) → replaced x (Unknown x) a ≡ a
    same (Known k) = refl
    same (Unknown y) = by_test y (y == x) refl

-- two guesses that the table has as one unknown are the same already
pub same_already : (types : List DataType) (table : List Guess) (left right : Guess) (line x y : ℕ) → looked_up table left ≡ Unknown x
    → looked_up table right ≡ Unknown y → x ≡ y → made_same types table left right line ≡ Goes table
unfolding made_same
same_already types table left right line x y l r e =
    ap (λ a. unified types table line a (looked_up table right)) l ∙ ap (unified types table line (Unknown x)) (r ∙ ap Unknown (sym e)) ∙ ap Goes (replaced_by_itself x table)
