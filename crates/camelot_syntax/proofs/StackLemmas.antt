-- The code's stack grows at its end, and the machine's at its head.
use Rattle.std.proofs.Common.{◌≡◌, ℕ, List, [], ◌∷◌, ◌++◌, Box, Global, Option, refl, ap, rules}
use Rattle.camelot_tree.specs.declared.tree.Name.{Name}
use Rattle.camelot_grammar.specs.declared.lexeme.Lexeme.{Lexeme}
use Rattle.camelot_tree.specs.declared.tree.Expr.{Expr}
use Rattle.camelot_tree.specs.declared.tree.Expr as code
use Rattle.camelot_tree.specs.declared.tree.Expr.TheFolds.{the_lemmas}
use Rattle.camelot_tree.specs.declared.tree.Build.{Build as BuildParts}
use Rattle.camelot_tree.specs.Tree.{Expression, Build, expression_of, expressions}
use Rattle.camelot_syntax.specs.declared.state.Frame.{Frame}
use Rattle.camelot_grammar.specs.Machine as mc
use Rattle.camelot_syntax.specs.States.{frame_of, stacked, stack_of, upside, nots_of, expressions_of}

stacked_push : (fs : List Frame) (f : Frame) (below : List mc.Frame) → stacked (fs ++ f ∷ []) below ≡ frame_of f ∷ stacked fs below
stacked_push [] f below = refl
stacked_push (g ∷ fs) f below = stacked_push fs f (frame_of g ∷ below)

pub stack_push : (fs : List Frame) (f : Frame) → stack_of (fs ++ f ∷ []) ≡ frame_of f ∷ stack_of fs
unfolding stack_of
stack_push fs f = stacked_push fs f []

upside_push : (ls : List ℕ) (l : ℕ) (below : List ℕ) → upside (ls ++ l ∷ []) below ≡ l ∷ upside ls below
upside_push [] l below = refl
upside_push (m ∷ ls) l below = upside_push ls l (m ∷ below)

pub nots_push : (ls : List ℕ) (l : ℕ) → nots_of (ls ++ l ∷ []) ≡ l ∷ nots_of ls
nots_push ls l = upside_push ls l []

pub unwind_none : (fs : List Frame) (e : Expression) → fs ≡ [] → mc.unwind (stack_of fs) e ≡ mc.Nowhere
unfolding stack_of mc.unwind
unwind_none fs e h = ap (λ xs. mc.unwind (stack_of xs) e) h

pub let_stuck : (n : Name) (v e : Expression) (t : Lexeme) (st : List mc.Frame) → mc.close_in (mc.LetBody n v) e t st ≡ mc.Stuck
unfolding mc.close_in
let_stuck n v e t st = refl

pub else_stuck : (l : ℕ) (c a e : Expression) (t : Lexeme) (st : List mc.Frame) → mc.close_in (mc.IfElse l c a) e t st ≡ mc.Stuck
unfolding mc.close_in
else_stuck l c a e t st = refl

pub build_is : (b : Box BuildParts Global) (c : Name) (es : List Expr) (place : Option Name) → b.value.con ≡ c → b.value.args.items ≡ es → b.value.place ≡ place
    → expression_of (code.Build b) ≡ Build c (expressions (expressions_of es)) place
build_is b c es place hc hes hp =
    let whole : expression_of (code.Build b) ≡ Build b.value.con (expressions (expressions_of b.value.args.items)) b.value.place = search (rules, the_lemmas) in
    cc
