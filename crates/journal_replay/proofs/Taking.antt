-- Taking and giving, hole by hole.
use Rattle.std.proofs.Common.{◌≡◌, ℕ, ◌+◌, ◌-◌, ◌<◌, ◌≤◌, ◌==◌, nat_le, nat_lt, Bool, true, false, if◌then◌else◌, List, [], ◌∷◌, ◌++◌, Option, Some, None, refl, sym, ap, ◌∙◌, arith, append_assoc}
use Rattle.std.specs.Option.{option_map}
use Rattle.std.proofs.lemmas.Bool.Decides.{nat_tests}
use Rattle.hole_list.specs.declared.run.Run.{Run}
use Rattle.hole_list.specs.Placing.{Taken, behind, both, end_of, give_run, rest_of_run, run, take_run, taken}

-- ---- taking

-- behind these holes, which stay
abbrev pub behind_all : List Run → Taken → Taken
behind_all made t = taken t.run (made ++ t.holes)

-- of these holes, so many were made and these are left; the front of one was found, or not yet
abbrev pub IsTaken : List Run → ℕ → List Run → Option ℕ → List Run → Type 0
IsTaken whole size made None rest = (option_map (behind_all made) (take_run rest size) ≡ take_run whole size) × (made ++ rest ≡ whole)
IsTaken whole size made (Some first) rest = take_run whole size ≡ Some (taken (run first size) (made ++ rest))

behind_one : (made : List Run) (h : Run) (o : Option Taken)
    → option_map (behind_all (made ++ h ∷ [])) o ≡ option_map (behind_all made) (option_map (behind h) o)
behind_one made h None = refl
behind_one made h (Some t) = ap (λ hs. Some (taken t.run hs)) (append_assoc made (h ∷ []) t.holes)

pub taken_start : (holes : List Run) (size : ℕ) → IsTaken holes size [] None holes
taken_start holes size = (by_taken (take_run holes size), refl)
  where
    by_taken : (o : Option Taken) → option_map (behind_all []) o ≡ o
    by_taken None = refl
    by_taken (Some t) = refl

pub taken_small : (whole : List Run) (size : ℕ) (made : List Run) (h : Run) (rest : List Run) → h.size < size
    → IsTaken whole size made None (h ∷ rest) → IsTaken whole size (made ++ h ∷ []) None rest
taken_small whole size made h rest less is =
    let no : nat_le size h.size ≡ false = grind (arith, nat_tests, less) in
    let step : take_run (h ∷ rest) size ≡ option_map (behind h) (take_run rest size) = ap (λ b. if b then Some (taken (run h.first size) (rest_of_run h size rest)) else option_map (behind h) (take_run rest size)) no in
    (behind_one made h (take_run rest size) ∙ ap (option_map (behind_all made)) (sym step) ∙ is.0, append_assoc made (h ∷ []) rest ∙ is.1)

pub taken_later : (whole : List Run) (size : ℕ) (made : List Run) (first : ℕ) (h : Run) (rest : List Run)
    → IsTaken whole size made (Some first) (h ∷ rest) → IsTaken whole size (made ++ h ∷ []) (Some first) rest
taken_later whole size made first h rest is = is ∙ ap (λ hs. Some (taken (run first size) hs)) (sym (append_assoc made (h ∷ []) rest))

fits_here : (size : ℕ) (h : Run) (rest : List Run) → size ≤ h.size → take_run (h ∷ rest) size ≡ Some (taken (run h.first size) (rest_of_run h size rest))
fits_here size h rest most =
    let yes : nat_le size h.size ≡ true = grind (arith, nat_tests, most) in
    ap (λ b. if b then Some (taken (run h.first size) (rest_of_run h size rest)) else option_map (behind h) (take_run rest size)) yes

pub taken_whole : (whole : List Run) (size : ℕ) (made : List Run) (h : Run) (rest : List Run) → size ≤ h.size → h.size ≤ size
    → IsTaken whole size made None (h ∷ rest) → IsTaken whole size made (Some h.first) rest
taken_whole whole size made h rest most least is =
    let same : (h.size == size) ≡ true = grind (arith, nat_tests, most, least) in
    sym is.0 ∙ ap (option_map (behind_all made)) (fits_here size h rest most)
    ∙ ap (λ b. Some (taken (run h.first size) (made ++ (if b then rest else run (h.first + size) (h.size - size) ∷ rest)))) same

pub taken_part : (whole : List Run) (size : ℕ) (made : List Run) (h : Run) (rest : List Run) → size < h.size → IsTaken whole size made None (h ∷ rest)
    → IsTaken whole size (made ++ run (h.first + size) (h.size - size) ∷ []) (Some h.first) rest
taken_part whole size made h rest more is =
    let other : (h.size == size) ≡ false = grind (arith, nat_tests, more) in
    sym is.0 ∙ ap (option_map (behind_all made)) (fits_here size h rest (omega (arith, more)))
    ∙ ap (λ b. Some (taken (run h.first size) (made ++ (if b then rest else run (h.first + size) (h.size - size) ∷ rest)))) other
    ∙ ap (λ hs. Some (taken (run h.first size) hs)) (sym (append_assoc made (run (h.first + size) (h.size - size) ∷ []) rest))

-- ---- giving

-- of these holes, so many were made and these are left; the run is still to come, or is among what was made
abbrev pub IsGiven : List Run → Run → List Run → Option Run → List Run → Type 0
IsGiven whole run made None rest = made ++ rest ≡ give_run whole run
IsGiven whole run made (Some r) rest = made ++ give_run rest r ≡ give_run whole run

module _ (whole : List Run) (given : Run) (made : List Run) (h : Run) (rest : List Run) where
  pub given_later : IsGiven whole given made None (h ∷ rest) → IsGiven whole given (made ++ h ∷ []) None rest
  given_later is = append_assoc made (h ∷ []) rest ∙ is

  abbrev choice : Run → Bool → Bool → Bool → List Run
  choice r a b c = if a then r ∷ h ∷ rest else if b then both r h ∷ rest else if c then give_run rest (both h r) else h ∷ give_run rest r

  pub given_front : (r : Run) → end_of r < h.first → IsGiven whole given made (Some r) (h ∷ rest) → IsGiven whole given ((made ++ r ∷ []) ++ h ∷ []) None rest
  given_front r less is =
      let a : nat_lt (end_of r) h.first ≡ true = grind (arith, nat_tests, less) in
      append_assoc (made ++ r ∷ []) (h ∷ []) rest ∙ append_assoc made (r ∷ []) (h ∷ rest)
      ∙ ap (λ hs. made ++ hs) (sym (ap (λ t. choice r t (end_of r == h.first) (end_of h == r.first)) a)) ∙ is

  pub given_before : (r : Run) → h.first ≤ end_of r → end_of r ≡ h.first → IsGiven whole given made (Some r) (h ∷ rest)
      → IsGiven whole given (made ++ both r h ∷ []) None rest
  given_before r least same is =
      let a : nat_lt (end_of r) h.first ≡ false = grind (arith, nat_tests, least) in
      let b : (end_of r == h.first) ≡ true = grind (arith, nat_tests, same) in
      append_assoc made (both r h ∷ []) rest
      ∙ ap (λ hs. made ++ hs) (sym (ap (λ t. choice r t (end_of r == h.first) (end_of h == r.first)) a ∙ ap (λ t. choice r false t (end_of h == r.first)) b)) ∙ is

  pub given_behind : (r : Run) → h.first ≤ end_of r → ((end_of r ≡ h.first) → ⊥) → end_of h ≡ r.first → IsGiven whole given made (Some r) (h ∷ rest)
      → IsGiven whole given made (Some (both h r)) rest
  given_behind r least other meets is =
      let a : nat_lt (end_of r) h.first ≡ false = grind (arith, nat_tests, least) in
      let b : (end_of r == h.first) ≡ false = grind (arith, nat_tests, other) in
      let d : (end_of h == r.first) ≡ true = grind (arith, nat_tests, meets) in
      ap (λ hs. made ++ hs) (sym (ap (λ t. choice r t (end_of r == h.first) (end_of h == r.first)) a ∙ ap (λ t. choice r false t (end_of h == r.first)) b ∙ ap (λ t. choice r false false t) d)) ∙ is

  pub given_past : (r : Run) → h.first ≤ end_of r → ((end_of r ≡ h.first) → ⊥) → ((end_of h ≡ r.first) → ⊥)
      → IsGiven whole given made (Some r) (h ∷ rest) → IsGiven whole given (made ++ h ∷ []) (Some r) rest
  given_past r least other apart is =
      let a : nat_lt (end_of r) h.first ≡ false = grind (arith, nat_tests, least) in
      let b : (end_of r == h.first) ≡ false = grind (arith, nat_tests, other) in
      let d : (end_of h == r.first) ≡ false = grind (arith, nat_tests, apart) in
      append_assoc made (h ∷ []) (give_run rest r)
      ∙ ap (λ hs. made ++ hs) (sym (ap (λ t. choice r t (end_of r == h.first) (end_of h == r.first)) a ∙ ap (λ t. choice r false t (end_of h == r.first)) b ∙ ap (λ t. choice r false false t) d)) ∙ is
