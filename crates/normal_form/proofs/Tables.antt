-- The names of functions are distinct.
use Rattle.std.proofs.Common.{◌≡◌, ℕ, zero, suc, ◌≤◌, List, [], ◌∷◌, map, length, drop, refl, arith}
use Rattle.std.proofs.Math.Logic.{∥∥₁_elim}
use Rattle.camelot_values.specs.NameLaws.{AreNew, distinct_new}
use Rattle.camelot_tree.specs.declared.tree.FunDecl.{FunDecl}
use Rattle.camelot_tree.specs.Tree.{function_of}
use Rattle.camelot_typing.specs.Typed.{Typing, IsTyping}
use Rattle.linear_use.specs.TableLaws.{new_prop}

pub functions_new : (t : Typing) → ∥ IsTyping t ∥₁ → AreNew [] (map (λ f. f.name.word) t.source.funs)
functions_new t h = ∥∥₁_elim h (new_prop [] (map (λ f. f.name.word) t.source.funs)) (λ k. distinct_new (map (λ f. f.name.word) t.source.funs) k.typed.fun_names)

-- nothing is left behind the last function
pub functions_over : (decls : List FunDecl) (i : ℕ) → length decls ≤ i → map (λ f. f.name.word) (map function_of (drop i decls)) ≡ []
functions_over [] zero h = refl
functions_over [] (suc i) h = refl
functions_over (d ∷ decls) zero h = absurd (omega (arith, h))
functions_over (d ∷ decls) (suc i) h = functions_over decls i (omega (arith, h))
