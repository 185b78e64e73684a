-- The text of the nodes of a value is its text.
use Rattle.std.proofs.Common.{◌≡◌, ℕ, suc, ◌+◌, ◌-◌, ◌<◌, ◌≤◌, List, [], ◌∷◌, ◌++◌, length, get_or, drop, reverse, refl, sym, ap, ◌∙◌, arith, append_assoc, append-nil, drop-cons, drop_of_length-le, add-one, length-append}
use Rattle.std.proofs.lemmas.List.{reverse-append}
use Rattle.std.specs.Prelude.{codes}
use Rattle.camelot_values.specs.Value as value
use Rattle.camelot_values.specs.Value.{Value, Values, part_count}
use Rattle.camelot_values.specs.Items.{nodes, nodes_all, items_of}
use Rattle.camelot_values.specs.declared.value.Item.{Item}
use Rattle.value_text.specs.Text.{value_text, further_text}
use Rattle.value_text.specs.Printing.{node_text, closing_text, closing_due, opening_text, opening_due, parts_of, nodes_text}

mutual
  nodes_text_is : (names : ℕ → List ℕ) (v : Value) (due : List ℕ) (rest : List Item)
      → nodes_text names due (nodes v rest) ≡ value_text names v ++ (closing_text due ++ nodes_text names (closing_due due) rest)
  nodes_text_is names (value.Int z) due rest = refl
  nodes_text_is names (value.Flag b) due rest = refl
  nodes_text_is names value.Dia due rest = refl
  nodes_text_is names (value.Con c value.End) due rest = refl
  nodes_text_is names (value.Con c (value.And v vs)) due rest =
      let k = part_count vs in
      let end = closing_text due ++ nodes_text names (closing_due due) rest in
      ap (λ l. names c ++ (codes "(" ++ l)) (nodes_text_is names v (k ∷ due) (nodes_all vs rest) ∙ ap (λ l. value_text names v ++ l) (further_text_is names vs due rest))
      ∙ simp append_assoc

  further_text_is : (names : ℕ → List ℕ) (vs : Values) (due : List ℕ) (rest : List Item)
      → closing_text (part_count vs ∷ due) ++ nodes_text names (closing_due (part_count vs ∷ due)) (nodes_all vs rest) ≡ further_text names vs ++ (codes ")" ++ (closing_text due ++ nodes_text names (closing_due due) rest))
  further_text_is names value.End due rest = simp append_assoc
  further_text_is names (value.And v vs) due rest =
      ap (λ l. codes "," ++ l) (nodes_text_is names v (part_count vs ∷ due) (nodes_all vs rest) ∙ ap (λ l. value_text names v ++ l) (further_text_is names vs due rest))
      ∙ simp append_assoc

-- ---- steps of the loops

last_first : (qs rs : List ℕ) (q : ℕ) → qs ≡ rs ++ q ∷ [] → reverse qs ≡ q ∷ reverse rs
last_first qs rs q e = ap reverse e ∙ reverse-append rs (q ∷ [])

pub one_closed_text : (old rest out new all : List ℕ) (left : ℕ) → old ≡ rest ++ left ∷ [] → left ≤ 0 → new ≡ out ++ 41 ∷ []
    → out ++ closing_text (reverse old) ≡ all → new ++ closing_text (reverse rest) ≡ all
one_closed_text old rest out new all left e z push h =
    let none : left ≡ 0 = omega (arith, z) in
    ap (λ l. l ++ closing_text (reverse rest)) push ∙ append_assoc out (41 ∷ []) (closing_text (reverse rest))
    ∙ ap (λ l. out ++ closing_text l) (sym (last_first old rest left e ∙ ap (λ n. n ∷ reverse rest) none)) ∙ h

pub one_closed_due : (old rest all : List ℕ) (left : ℕ) → old ≡ rest ++ left ∷ [] → left ≤ 0 → closing_due (reverse old) ≡ all
    → closing_due (reverse rest) ≡ all
one_closed_due old rest all left e z h = let none : left ≡ 0 = omega (arith, z) in ap closing_due (sym (last_first old rest left e ∙ ap (λ n. n ∷ reverse rest) none)) ∙ h

pub fewer_due : (old rest : List ℕ) (left : ℕ) → old ≡ rest ++ left ∷ [] → length rest < length old
fewer_due old rest left e = omega (arith, ap length e, length-append rest (left ∷ []))

pub comma_text : (old rest out new all : List ℕ) (left : ℕ) → old ≡ rest ++ left ∷ [] → 0 < left → new ≡ out ++ 44 ∷ []
    → out ++ closing_text (reverse old) ≡ all → new ≡ all
comma_text old rest out new all left e z push h =
    let some : left ≡ suc (left - 1) = omega (arith, z) in
    push ∙ ap (λ l. out ++ closing_text l) (sym (last_first old rest left e ∙ ap (λ n. n ∷ reverse rest) some)) ∙ h

pub comma_due : (old rest new all : List ℕ) (left : ℕ) → old ≡ rest ++ left ∷ [] → 0 < left → new ≡ rest ++ (left - 1) ∷ []
    → closing_due (reverse old) ≡ all → reverse new ≡ all
comma_due old rest new all left e z push h =
    let some : left ≡ suc (left - 1) = omega (arith, z) in
    last_first new rest (left - 1) push ∙ ap closing_due (sym (last_first old rest left e ∙ ap (λ n. n ∷ reverse rest) some)) ∙ h

pub node_written : (names : ℕ → List ℕ) (xs : List Item) (i : ℕ) (x : Item) (due new out end all : List ℕ) → i < length xs → x ≡ get_or xs i x
    → out ++ nodes_text names (reverse due) (drop i xs) ≡ all → end ≡ out ++ node_text names x ++ opening_text (reverse due) (parts_of x) → reverse new ≡ opening_due (reverse due) (parts_of x)
    → end ++ nodes_text names (reverse new) (drop (i + 1) xs) ≡ all
node_written names xs i x due new out end all h is e first next =
    let rest = nodes_text names (reverse new) (drop (i + 1) xs) in
    let tail : rest ≡ nodes_text names (opening_due (reverse due) (parts_of x)) (drop (suc i) xs) = ap (λ n. nodes_text names (reverse new) (drop n xs)) (add-one i) ∙ ap (λ d. nodes_text names d (drop (suc i) xs)) next in
    ap (λ l. l ++ rest) first ∙ append_assoc (out ++ node_text names x) (opening_text (reverse due) (parts_of x)) rest
    ∙ append_assoc out (node_text names x) (opening_text (reverse due) (parts_of x) ++ rest)
    ∙ ap (λ l. out ++ (node_text names x ++ (opening_text (reverse due) (parts_of x) ++ l))) tail
    ∙ ap (λ ys. out ++ nodes_text names (reverse due) ys) (sym (drop-cons xs i x h ∙ ap (λ y. y ∷ drop (suc i) xs) (sym is))) ∙ e

pub all_written : (names : ℕ → List ℕ) (v : Value) (xs : List Item) (i : ℕ) (due old out : List ℕ) → xs ≡ items_of v → length xs ≤ i
    → out ++ nodes_text names (reverse due) (drop i xs) ≡ old ++ nodes_text names [] xs → out ≡ old ++ value_text names v
all_written names v xs i due old out is h e =
    sym (append-nil out) ∙ ap (λ ys. out ++ nodes_text names (reverse due) ys) (sym (drop_of_length-le xs {i = i} h)) ∙ e
    ∙ ap (λ l. old ++ l) (ap (nodes_text names []) is ∙ nodes_text_is names v [] [] ∙ append-nil (value_text names v))
