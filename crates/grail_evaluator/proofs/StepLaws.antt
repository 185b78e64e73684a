-- Steps of the evaluator are those of the meaning of code.
use Rattle.std.proofs.Common.{◌≡◌, ℕ, ◌+◌, ◌-◌, List, Option, Some, None, refl, sym, ap, ◌∙◌, arith}
use Rattle.std.specs.Prelude.{ℤ}
use Rattle.camelot_values.specs.Value as value
use Rattle.camelot_values.specs.Value.{Value, parts}
use Rattle.camelot_values.specs.Operator.{Operator, on_ints}
use Rattle.camelot_values.specs.Outcome.{Outcome, Done, Trap, Stuck, at_once, given}
use Rattle.camelot_values.specs.OutcomeLaws.{done_is}
use Rattle.camelot_values.specs.Runs.{on_diamond}
use Rattle.grail_code.specs.Meaning.{Locals, operands, built}
use Rattle.grail_blocks.specs.declared.blocks.Place.TheVariants as place
use Rattle.grail_evaluator.specs.Locals.{int_at}
use Rattle.grail_evaluator.specs.Ends.{onto}
use Rattle.grail_evaluator.specs.declared.counts.Counts.{Counts}

pub onto_once : (s : Counts) (v : Value) → Done v s.calls s.peak s.low ≡ onto s (at_once v)
onto_once s v = done_is v s.calls s.peak s.low _ _ _ (omega arith) (omega arith) (omega arith)

pub both : (s : Counts) (op : Operator) (u v : Option Value) (a b : ℤ) (t : Value) (o : Outcome Value) → Some a ≡ int_at u → Some b ≡ int_at v
    → at_once t ≡ on_ints op a b → o ≡ onto s (at_once t)
    → o ≡ onto s (operands op u v)
both s op None v a b t o e f h g = absurd cc
both s op (Some (value.Int z)) None a b t o e f h g = absurd cc
both s op (Some (value.Int z)) (Some (value.Int y)) a b t o e f h g =
    let p : a ≡ z = cc in let q : b ≡ y = cc in g ∙ ap (onto s) (h ∙ ap (λ x. on_ints op x b) p ∙ ap (λ x. on_ints op z x) q)
both s op (Some (value.Int z)) (Some (value.Flag y)) a b t o e f h g = absurd cc
both s op (Some (value.Int z)) (Some value.Dia) a b t o e f h g = absurd cc
both s op (Some (value.Int z)) (Some (value.Con c vs)) a b t o e f h g = absurd cc
both s op (Some (value.Flag z)) v a b t o e f h g = absurd cc
both s op (Some value.Dia) v a b t o e f h g = absurd cc
both s op (Some (value.Con c vs)) v a b t o e f h g = absurd cc

pub both_trapped : (s : Counts) (op : Operator) (u v : Option Value) (a b : ℤ) → Some a ≡ int_at u → Some b ≡ int_at v
    → Trap 0 ≡ on_ints op a b → Trap s.peak ≡ onto s (operands op u v)
both_trapped s op None v a b e f h = absurd cc
both_trapped s op (Some (value.Int z)) None a b e f h = absurd cc
both_trapped s op (Some (value.Int z)) (Some (value.Int y)) a b e f h =
    let p : a ≡ z = cc in let q : b ≡ y = cc in
    let n : s.peak ≡ s.peak + (0 - s.low) = omega arith in
    ap Trap n ∙ ap (onto s) (h ∙ ap (λ x. on_ints op x b) p ∙ ap (λ x. on_ints op z x) q)
both_trapped s op (Some (value.Int z)) (Some (value.Flag y)) a b e f h = absurd cc
both_trapped s op (Some (value.Int z)) (Some value.Dia) a b e f h = absurd cc
both_trapped s op (Some (value.Int z)) (Some (value.Con c vs)) a b e f h = absurd cc
both_trapped s op (Some (value.Flag z)) v a b e f h = absurd cc
both_trapped s op (Some value.Dia) v a b e f h = absurd cc
both_trapped s op (Some (value.Con c vs)) v a b e f h = absurd cc

pub no_left : (s : Counts) (op : Operator) (u v : Option Value) → None ≡ int_at u → Stuck ≡ onto s (operands op u v)
no_left s op None v e = refl
no_left s op (Some (value.Int z)) v e = absurd cc
no_left s op (Some (value.Flag b)) None e = refl
no_left s op (Some (value.Flag b)) (Some v) e = refl
no_left s op (Some value.Dia) None e = refl
no_left s op (Some value.Dia) (Some v) e = refl
no_left s op (Some (value.Con c vs)) None e = refl
no_left s op (Some (value.Con c vs)) (Some v) e = refl

pub no_right : (s : Counts) (op : Operator) (u v : Option Value) → None ≡ int_at v → Stuck ≡ onto s (operands op u v)
no_right s op None v e = refl
no_right s op (Some u) None e = refl
no_right s op (Some u) (Some (value.Int z)) e = absurd cc
no_right s op (Some (value.Int z)) (Some (value.Flag b)) e = refl
no_right s op (Some (value.Flag z)) (Some (value.Flag b)) e = refl
no_right s op (Some value.Dia) (Some (value.Flag b)) e = refl
no_right s op (Some (value.Con c vs)) (Some (value.Flag b)) e = refl
no_right s op (Some (value.Int z)) (Some value.Dia) e = refl
no_right s op (Some (value.Flag z)) (Some value.Dia) e = refl
no_right s op (Some value.Dia) (Some value.Dia) e = refl
no_right s op (Some (value.Con c vs)) (Some value.Dia) e = refl
no_right s op (Some (value.Int z)) (Some (value.Con d ws)) e = refl
no_right s op (Some (value.Flag z)) (Some (value.Con d ws)) e = refl
no_right s op (Some value.Dia) (Some (value.Con d ws)) e = refl
no_right s op (Some (value.Con c vs)) (Some (value.Con d ws)) e = refl

pub in_new : (s : Counts) (c : ℕ) (vs : List Value) (env : Locals)
    → Done (value.Con c (parts vs)) s.calls (s.peak + (1 - s.low)) (s.low - 1) ≡ onto s (built c vs place.New env)
in_new s c vs env = done_is (value.Con c (parts vs)) s.calls (s.peak + (1 - s.low)) (s.low - 1) _ _ _ (omega arith) refl (omega arith)

pub in_diamond : (s : Counts) (c : ℕ) (vs : List Value) (d : ℕ) (env : Locals) (o : Outcome Value) → env d ≡ Some value.Dia
    → o ≡ onto s (at_once (value.Con c (parts vs)))
    → o ≡ onto s (built c vs (place.Reuse d) env)
in_diamond s c vs d env o e g = g ∙ ap (λ q. onto s (given q (λ v. on_diamond v (at_once (value.Con c (parts vs)))))) (sym e)

pub no_diamond : (s : Counts) (c : ℕ) (vs : List Value) (d : ℕ) (env : Locals) → (env d ≡ Some value.Dia → ⊥) → Stuck ≡ onto s (built c vs (place.Reuse d) env)
no_diamond s c vs d env n = by_value (env d) refl
  where
    by_value : (q : Option Value) → env d ≡ q → Stuck ≡ onto s (given q (λ v. on_diamond v (at_once (value.Con c (parts vs)))))
    by_value None e = refl
    by_value (Some (value.Int z)) e = refl
    by_value (Some (value.Flag b)) e = refl
    by_value (Some value.Dia) e = absurd (n e)
    by_value (Some (value.Con c vs)) e = refl
