-- Laws, for the proofs of this crate and of those above it.
-- What bodies mean respects every relation between runs that basic steps have and sequence keeps: so the laws of clock
-- and fuel hold of programs.
use Rattle.std.proofs.Common.{ℕ, ◌-◌, Bool, true, false, List, [], ◌∷◌, Option, Some, None}
use Rattle.std.specs.Prelude.{slice_get, if◌then◌else◌}
use Rattle.camelot_values.specs.Value as value
use Rattle.camelot_values.specs.Value.{Value, Values, parts}
use Rattle.camelot_values.specs.Outcome.{Outcome, Done, first_then, at_once, given}
use Rattle.camelot_values.specs.Runs.{Enter, chosen, on_diamond}
use Rattle.camelot_values.specs.Operator.{operate}
use Rattle.camelot_values.specs.RunLaws.{Relation, Closed, Related, Respect, given_related, known_related, diamond_related, chosen_related, operate_related}
use Rattle.camelot_tree.specs.declared.tree.Name.{Name}
use Rattle.camelot_tree.specs.declared.tree.ArmCell.{ArmCell}
use Rattle.camelot_tree.specs.declared.tree.ArmCell.TheVariants as cell
use Rattle.camelot_tree.specs.Tree.{Expression, Num, Truth, Var, Prim, If, Let, Match, Build, Call, Expressions, NoExpressions, AndExpression, Arms, NoArms, AndArm, Constructor, Function, Source}
use Rattle.camelot_tree.specs.Meaning.{Environment, put, declared_constructors, constructor_number, function_number, in_cell, placed, put_fields, cell_run, is_that, on_constructor, eval, eval_all, arms_run, put_params, body_run, bodies}

in_cell_related : (Fine : ℕ → ℕ → Type 0) (R : Relation) → Closed Fine R → (o : Option Constructor) (v : Value) (j k : ℕ)
    → R Value j k (in_cell o v) (in_cell o v)
in_cell_related Fine R closed None v j k = closed.stuck Value j k
in_cell_related Fine R closed (Some c) v j k = by_test c.inline
  where
    by_test : (b : Bool) → R Value j k (if b then at_once v else Done v 0 1 0) (if b then at_once v else Done v 0 1 0)
    by_test true = closed.free Value j k v 0 0
    by_test false = closed.free Value j k v 1 0

placed_related : (Fine : ℕ → ℕ → Type 0) (R : Relation) → Closed Fine R
    → (p : Source) (place : Option Name) (env : Environment) (con : ℕ) (vs : List Value) (j k : ℕ)
    → R Value j k (placed p place env con vs) (placed p place env con vs)
placed_related Fine R closed p None env con vs j k = in_cell_related Fine R closed (slice_get (declared_constructors p) con) (value.Con con (parts vs)) j k
placed_related Fine R closed p (Some d) env con vs j k =
    given_related Fine R closed (env d.word) j k (λ v. on_diamond v (at_once (value.Con con (parts vs)))) (λ v. on_diamond v (at_once (value.Con con (parts vs))))
    (λ u. diamond_related Fine R closed u (value.Con con (parts vs)) j k)

cell_related : (Fine : ℕ → ℕ → Type 0) (R : Relation) → Closed Fine R → (x : ArmCell) (env : Environment) (j k : ℕ) (next next' : Environment → Outcome Value)
    → ((last : Environment) → R Value j k (next last) (next' last)) → R Value j k (cell_run x env next) (cell_run x env next')
cell_related Fine R closed cell.Plain env j k next next' h = h env
cell_related Fine R closed cell.Free env j k next next' h = closed.moved Value j k 0 1 (next env) (next' env) (h env)
cell_related Fine R closed (cell.Keep d) env j k next next' h = h (put env d.word value.Dia)

matched_related : (Fine : ℕ → ℕ → Type 0) (R : Relation) → Closed Fine R → (v : Value) (j k : ℕ) (next next' : ℕ → Values → Outcome Value)
    → ((c : ℕ) (vs : Values) → R Value j k (next c vs) (next' c vs)) → R Value j k (on_constructor v next) (on_constructor v next')
matched_related Fine R closed (value.Con c vs) j k next next' h = h c vs
matched_related Fine R closed (value.Int z) j k next next' h = closed.stuck Value j k
matched_related Fine R closed (value.Flag b) j k next next' h = closed.stuck Value j k
matched_related Fine R closed value.Dia j k next next' h = closed.stuck Value j k

pick_related : (R : Relation) (j k : ℕ) (t : Bool) (a b a' b' : Outcome Value) → R Value j k a a' → R Value j k b b'
    → R Value j k (if t then a else b) (if t then a' else b')
pick_related R j k true a b a' b' h g = h
pick_related R j k false a b a' b' h g = g

mutual
  eval_related : (Fine : ℕ → ℕ → Type 0) (R : Relation) → Closed Fine R → (p : Source) (enter enter' : Enter) → Related Fine R enter enter'
      → (e : Expression) (j k w : ℕ) (t : Bool) (env : Environment) → Fine j k
      → R Value j k (eval p enter e j w t env) (eval p enter' e k w t env)
  eval_related Fine R closed p enter enter' r (Num z l) j k w t env f = closed.free Value j k (value.Int z) 0 0
  eval_related Fine R closed p enter enter' r (Truth b l) j k w t env f = closed.free Value j k (value.Flag b) 0 0
  eval_related Fine R closed p enter enter' r (Var n) j k w t env f = known_related Fine R closed (env n.word) j k
  eval_related Fine R closed p enter enter' r (Prim op a b l) j k w t env f =
      closed.sequence Value Value j k (eval p enter a j w false env) (eval p enter' a k w false env)
      (λ left u. first_then left (eval p enter b left w false env) (λ last v. operate op u v)) (λ left u. first_then left (eval p enter' b left w false env) (λ last v. operate op u v)) f
      (eval_related Fine R closed p enter enter' r a j k w false env f)
      (λ c u. closed.sequence Value Value (j - c) (k - c) (eval p enter b (j - c) w false env) (eval p enter' b (k - c) w false env) (λ last v. operate op u v) (λ last v. operate op u v) (closed.less j k c f)
      (eval_related Fine R closed p enter enter' r b (j - c) (k - c) w false env (closed.less j k c f))
      (λ d v. operate_related Fine R closed op u v (j - c - d) (k - c - d)))
  eval_related Fine R closed p enter enter' r (If e a b l) j k w t env f =
      closed.sequence Value Value j k (eval p enter e j w false env) (eval p enter' e k w false env)
      (λ left v. chosen v (eval p enter a left w t env) (eval p enter b left w t env)) (λ left v. chosen v (eval p enter' a left w t env) (eval p enter' b left w t env)) f
      (eval_related Fine R closed p enter enter' r e j k w false env f)
      (λ c v. chosen_related Fine R closed v (j - c) (k - c) (eval p enter a (j - c) w t env) (eval p enter b (j - c) w t env) (eval p enter' a (k - c) w t env) (eval p enter' b (k - c) w t env)
      (eval_related Fine R closed p enter enter' r a (j - c) (k - c) w t env (closed.less j k c f))
      (eval_related Fine R closed p enter enter' r b (j - c) (k - c) w t env (closed.less j k c f)))
  eval_related Fine R closed p enter enter' r (Let n e b) j k w t env f =
      closed.sequence Value Value j k (eval p enter e j w false env) (eval p enter' e k w false env)
      (λ left v. eval p enter b left w t (put env n.word v)) (λ left v. eval p enter' b left w t (put env n.word v)) f
      (eval_related Fine R closed p enter enter' r e j k w false env f)
      (λ c v. eval_related Fine R closed p enter enter' r b (j - c) (k - c) w t (put env n.word v) (closed.less j k c f))
  eval_related Fine R closed p enter enter' r (Match e as' l) j k w t env f =
      closed.sequence Value Value j k (eval p enter e j w false env) (eval p enter' e k w false env)
      (λ left v. on_constructor v (λ con vs. arms_run p enter as' con vs left w t env)) (λ left v. on_constructor v (λ con vs. arms_run p enter' as' con vs left w t env)) f
      (eval_related Fine R closed p enter enter' r e j k w false env f)
      (λ c v. matched_related Fine R closed v (j - c) (k - c) (λ con vs. arms_run p enter as' con vs (j - c) w t env) (λ con vs. arms_run p enter' as' con vs (k - c) w t env)
      (λ con vs. arms_related Fine R closed p enter enter' r as' con vs (j - c) (k - c) w t env (closed.less j k c f)))
  eval_related Fine R closed p enter enter' r (Build c es place) j k w t env f =
      closed.sequence (List Value) Value j k (eval_all p enter es j w env) (eval_all p enter' es k w env)
      (λ left vs. given (constructor_number p c) (λ con. placed p place env con vs)) (λ left vs. given (constructor_number p c) (λ con. placed p place env con vs)) f
      (all_related Fine R closed p enter enter' r es j k w env f)
      (λ d vs. given_related Fine R closed (constructor_number p c) (j - d) (k - d) (λ con. placed p place env con vs) (λ con. placed p place env con vs)
      (λ con. placed_related Fine R closed p place env con vs (j - d) (k - d)))
  eval_related Fine R closed p enter enter' r (Call g es) j k w t env f =
      closed.sequence (List Value) Value j k (eval_all p enter es j w env) (eval_all p enter' es k w env)
      (λ left vs. given (function_number p g) (λ func. enter left w t func vs)) (λ left vs. given (function_number p g) (λ func. enter' left w t func vs)) f
      (all_related Fine R closed p enter enter' r es j k w env f)
      (λ d vs. given_related Fine R closed (function_number p g) (j - d) (k - d) (λ func. enter (j - d) w t func vs) (λ func. enter' (k - d) w t func vs)
      (λ func. r (j - d) (k - d) w t func vs (closed.less j k d f)))

  all_related : (Fine : ℕ → ℕ → Type 0) (R : Relation) → Closed Fine R → (p : Source) (enter enter' : Enter) → Related Fine R enter enter'
      → (es : Expressions) (j k w : ℕ) (env : Environment) → Fine j k
      → R (List Value) j k (eval_all p enter es j w env) (eval_all p enter' es k w env)
  all_related Fine R closed p enter enter' r NoExpressions j k w env f = closed.free (List Value) j k [] 0 0
  all_related Fine R closed p enter enter' r (AndExpression e es) j k w env f =
      closed.sequence Value (List Value) j k (eval p enter e j w false env) (eval p enter' e k w false env)
      (λ left v. first_then left (eval_all p enter es left w env) (λ last vs. at_once (v ∷ vs))) (λ left v. first_then left (eval_all p enter' es left w env) (λ last vs. at_once (v ∷ vs))) f
      (eval_related Fine R closed p enter enter' r e j k w false env f)
      (λ c v. closed.sequence (List Value) (List Value) (j - c) (k - c) (eval_all p enter es (j - c) w env) (eval_all p enter' es (k - c) w env) (λ last vs. at_once (v ∷ vs)) (λ last vs. at_once (v ∷ vs)) (closed.less j k c f)
      (all_related Fine R closed p enter enter' r es (j - c) (k - c) w env (closed.less j k c f))
      (λ d vs. closed.free (List Value) (j - c - d) (k - c - d) (v ∷ vs) 0 0))

  arms_related : (Fine : ℕ → ℕ → Type 0) (R : Relation) → Closed Fine R → (p : Source) (enter enter' : Enter) → Related Fine R enter enter'
      → (as' : Arms) (con : ℕ) (vs : Values) (j k w : ℕ) (t : Bool) (env : Environment) → Fine j k
      → R Value j k (arms_run p enter as' con vs j w t env) (arms_run p enter' as' con vs k w t env)
  arms_related Fine R closed p enter enter' r NoArms con vs j k w t env f = closed.stuck Value j k
  arms_related Fine R closed p enter enter' r (AndArm c fs x b as') con vs j k w t env f =
      pick_related R j k (is_that (constructor_number p c) con) _ _ _ _
      (given_related Fine R closed (put_fields env fs vs) j k (λ bound. cell_run x bound (λ last. eval p enter b j w t last)) (λ bound. cell_run x bound (λ last. eval p enter' b k w t last))
      (λ bound. cell_related Fine R closed x bound j k (λ last. eval p enter b j w t last) (λ last. eval p enter' b k w t last) (λ last. eval_related Fine R closed p enter enter' r b j k w t last f)))
      (arms_related Fine R closed p enter enter' r as' con vs j k w t env f)

body_related : (Fine : ℕ → ℕ → Type 0) (R : Relation) → Closed Fine R → (p : Source) (enter enter' : Enter) → Related Fine R enter enter'
    → (o : Option Function) (j k w : ℕ) (args : List Value) → Fine j k
    → R Value j k (body_run p enter o j w args) (body_run p enter' o k w args)
body_related Fine R closed p enter enter' r None j k w args f = closed.stuck Value j k
body_related Fine R closed p enter enter' r (Some g) j k w args f =
    given_related Fine R closed (put_params (λ n. None) g.params args) j k (λ env. eval p enter g.body j w true env) (λ env. eval p enter' g.body k w true env)
    (λ env. eval_related Fine R closed p enter enter' r g.body j k w true env f)

pub bodies_respect : (p : Source) → Respect (bodies p)
bodies_respect p = λ Fine R closed enter enter' r g j k w args f. body_related Fine R closed p enter enter' r (slice_get p.funs g) j k w args f
