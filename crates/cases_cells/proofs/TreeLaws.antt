-- Laws of values in front of other nodes.
use Rattle.std.proofs.Common.{◌≡◌, ℕ, suc, ◌+◌, ◌≤◌, ◌<◌, length, subst, Some, List, [], ◌∷◌, ◌++◌, refl, sym, ap, ◌∙◌, arith}
use Rattle.camelot_values.specs.Value.{Value, parts, part_count}
use Rattle.camelot_values.specs.Items.{nodes, nodes_all, items_of, value_of, value_of-items_of}
use Rattle.camelot_values.specs.declared.value.Item.{Item}
use Rattle.grail_evaluator.specs.Trees.{plain, plain_all}
use Rattle.grail_evaluator.specs.declared.tree.Tree.{Tree}
use Rattle.cases_cells.specs.Trees.{InFront, IsFirst}
use Rattle.cases_cells.specs.declared.machines.trees.First.{First}

-- one value more, at the end
pub nodes_last : (ts : List Tree) (t : Tree) (rest : List Item)
    → nodes_all (parts (plain_all (ts ++ t ∷ []))) rest ≡ nodes_all (parts (plain_all ts)) (nodes (plain t) rest)
nodes_last [] t rest = refl
nodes_last (x ∷ ts) t rest = ap (nodes (plain x)) (nodes_last ts t rest)

pub count_last : (ts : List Tree) (t : Tree) → part_count (parts (plain_all (ts ++ t ∷ []))) ≡ suc (part_count (parts (plain_all ts)))
count_last [] t = refl
count_last (x ∷ ts) t = ap suc (count_last ts t)

pub one_more : (items : List Item) (ts : List Tree) (t : Tree) (middle rest : List Item) → InFront items (plain_all ts) middle
    → middle ≡ nodes (plain t) rest → InFront items (plain_all (ts ++ t ∷ [])) rest
one_more items ts t middle rest h k = h ∙ ap (nodes_all (parts (plain_all ts))) k ∙ sym (nodes_last ts t rest)

-- a state of the loop: so many values in front
abbrev pub Front : ℕ → List Item → List Tree → List Item → Type 0
Front count items ts rest = (part_count (parts (plain_all ts)) ≡ count) × InFront items (plain_all ts) rest × (length rest ≤ length items)

pub one_step : (count : ℕ) (items : List Item) (ts us : List Tree) (f : First) (middle : List Item) → us ≡ ts ++ f.tree ∷ []
    → Front count items ts middle → IsFirst middle (Some f) → Front (count + 1) items us f.rest.now
one_step count items ts us f middle e h k = subst (λ l. Front (count + 1) items l f.rest.now) (sym e)
    (count_last ts f.tree ∙ ap suc h.0 ∙ grind (arith), one_more items ts f.tree middle f.rest.now h.1 k.0, grind (arith, h.2, k.1))

-- nodes of one value alone
pub whole : (v : Value) (items rest : List Item) (t : Tree) → items ≡ items_of v → items ≡ nodes (plain t) rest → rest ≡ [] → plain t ≡ v
whole v items rest t h k e = sym (value_of-items_of (plain t)) ∙ ap value_of (sym (ap (nodes (plain t)) e) ∙ sym k ∙ h) ∙ value_of-items_of v

none_left : (rest : List Item) → length rest < 1 → rest ≡ []
none_left [] h = refl
none_left (x ∷ rest) h = absurd (grind (arith, h))

pub whole_alone : (v : Value) (items rest : List Item) (t : Tree) → items ≡ items_of v → items ≡ nodes (plain t) rest → length rest < 1 → plain t ≡ v
whole_alone v items rest t h k e = whole v items rest t h k (none_left rest e)
