-- The kinds of all functions that a choice gives, and how far those of another choice are the same.
use Rattle.std.proofs.Common.{◌≡◌, ℕ, List, [], ◌∷◌, map, refl, ap, ◌∙◌}
use Rattle.camelot_values.specs.declared.kinds.Kind.TheVariants as kind
use Rattle.camelot_tree.specs.Tree.{Function, Source}
use Rattle.camelot_typing.specs.Kinds.{Head, Globals, Scope, atoms_of}
use Rattle.camelot_typing.specs.Typing.{known_kind, params_scope, globals_of}
use Rattle.camelot_typing.specs.Typed.{FunctionKinds, function_kinds, functions_kinds}
use Rattle.camelot_types.specs.declared.guess.Guess.{Guess}
use Rattle.camelot_types.specs.declared.guess.Guess.TheVariants.{Known, Unknown}
use Rattle.camelot_types.specs.Walk.{Choice, under, head_guesses, guesses_of}
use Rattle.camelot_types.proofs.Choosing.{head_under, globals_under, params_under, atoms_under}
use Rattle.camelot_types.proofs.Programs.{signatures_under}
use Rattle.camelot_typing.specs.Settled.{SameButInts, KindsSettled}

-- function by function, for its head
abbrev pub answered : Choice → Globals Guess → List Function → List (Head Guess) → List FunctionKinds
answered choice g (f ∷ fs) (h ∷ hs) =
    record { params = map (under choice) h.params; result = under choice h.result; exprs = map (under choice) (atoms_of Known g (params_scope f.params h.params) f.body) } ∷ answered choice g fs hs
answered choice g fs hs = []

answered_under : (choice : Choice) (g : Globals Guess) (fs : List Function) (hs : List (Head Guess))
    → answered choice g fs hs ≡ functions_kinds (globals_under choice g) fs (map (head_under choice) hs)
answered_under choice g [] hs = refl
answered_under choice g (f ∷ fs) [] = refl
answered_under choice g (f ∷ fs) (h ∷ hs) =
    let s : Scope Guess = params_scope f.params h.params in
    let own : map (under choice) (atoms_of Known g s f.body) ≡ atoms_of known_kind (globals_under choice g) (params_scope f.params (map (under choice) h.params)) f.body =
    atoms_under choice g s f.body ∙ ap (λ inner. atoms_of known_kind (globals_under choice g) inner f.body) (params_under choice f.params h.params) in
    ap (λ l. record { params = map (under choice) h.params; result = under choice h.result; exprs = l } ∷ answered choice g fs hs) own
    ∙ ap (λ l. function_kinds (globals_under choice g) f (head_under choice h) ∷ l) (answered_under choice g fs hs)

pub answered_is : (choice : Choice) (p : Source)
    → answered choice (guesses_of p) p.funs (head_guesses p 0 p.funs) ≡ functions_kinds (globals_of p (signatures_under choice p)) p.funs (signatures_under choice p)
answered_is choice p = answered_under choice (guesses_of p) p.funs (head_guesses p 0 p.funs)

-- ---- answers of two choices, where the first settles all but free ints

guess_agrees : (c other : Choice) (a : Guess) → ((x : ℕ) → (c x ≡ kind.Int → ⊥) → other x ≡ c x) → (under c a ≡ kind.Int → ⊥) → under other a ≡ under c a
guess_agrees c other (Known k) s h = refl
guess_agrees c other (Unknown x) s h = s x h

guesses_agree : (c other : Choice) (gs : List Guess) → ((x : ℕ) → (c x ≡ kind.Int → ⊥) → other x ≡ c x) → SameButInts (map (under c) gs) (map (under other) gs)
guesses_agree c other [] s = tt
guesses_agree c other (a ∷ gs) s = (guess_agrees c other a s, guesses_agree c other gs s)

pub answers_agree : (c other : Choice) (g : Globals Guess) (fs : List Function) (hs : List (Head Guess))
    → ((x : ℕ) → (c x ≡ kind.Int → ⊥) → other x ≡ c x) → KindsSettled (answered c g fs hs) (answered other g fs hs)
answers_agree c other g [] hs s = tt
answers_agree c other g (f ∷ fs) [] s = tt
answers_agree c other g (f ∷ fs) (h ∷ hs) s = (
  record {
    params = guesses_agree c other h.params s;
    result = guess_agrees c other h.result s;
    exprs = guesses_agree c other (atoms_of Known g (params_scope f.params h.params) f.body) s;
  },
  answers_agree c other g fs hs s,
)
