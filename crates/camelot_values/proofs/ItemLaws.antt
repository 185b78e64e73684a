-- The nodes of the value that a list of nodes spells are that list.
use Rattle.std.proofs.Common.{◌≡◌, ℕ, zero, suc, Option, Some, None, List, [], ◌∷◌, refl, sym, ap, ◌∙◌, subst}
use Rattle.std.specs.Prelude.{⊤}
use Rattle.camelot_values.specs.Value as value
use Rattle.camelot_values.specs.Value.{Value, Values, part_count}
use Rattle.camelot_values.specs.declared.value.Item.{Item}
use Rattle.camelot_values.specs.declared.value.Item.TheVariants as item
use Rattle.camelot_values.specs.Items.{nodes, nodes_all, items_of, before, behind, split, gather, take_parts, values_of, value_of, IsOneValue}

-- where values were read, their nodes are what was read
abbrev Keeps : List Item → Option Values → Type 0
Keeps xs None = ⊤
Keeps xs (Some vs) = nodes_all vs [] ≡ xs

abbrev SplitKeeps : ℕ → Values → Option (Values × Values) → Type 0
SplitKeeps n vs None = ⊤
SplitKeeps n vs (Some p) = (part_count p.0 ≡ n) × (nodes_all p.0 (nodes_all p.1 []) ≡ nodes_all vs [])

behind-keeps : (n : ℕ) (v : Value) (vs : Values) (o : Option (Values × Values)) → SplitKeeps n vs o → SplitKeeps (suc n) (value.And v vs) (behind v o)
behind-keeps n v vs None h = tt
behind-keeps n v vs (Some p) h = (ap suc h.0, ap (nodes v) h.1)

split-keeps : (n : ℕ) (vs : Values) → SplitKeeps n vs (split n vs)
split-keeps zero vs = (refl, refl)
split-keeps (suc n) value.End = tt
split-keeps (suc n) (value.And v vs) = behind-keeps n v vs (split n vs) (split-keeps n vs)

before-keeps : (v : Value) (xs : List Item) (o : Option Values) → Keeps xs o → Keeps (nodes v xs) (before v o)
before-keeps v xs None h = tt
before-keeps v xs (Some vs) h = ap (nodes v) h

gather-keeps : (c n : ℕ) (xs : List Item) (vs : Values) (o : Option (Values × Values)) → nodes_all vs [] ≡ xs → SplitKeeps n vs o
    → Keeps (item.Con n c ∷ xs) (gather c o)
gather-keeps c n xs vs None h k = tt
gather-keeps c n xs vs (Some p) h k = ap (λ m. item.Con m c ∷ nodes_all p.0 (nodes_all p.1 [])) k.0 ∙ ap (λ l. item.Con n c ∷ l) (k.1 ∙ h)

take_parts-keeps : (c n : ℕ) (xs : List Item) (o : Option Values) → Keeps xs o → Keeps (item.Con n c ∷ xs) (take_parts c n o)
take_parts-keeps c n xs None h = tt
take_parts-keeps c n xs (Some vs) h = gather-keeps c n xs vs (split n vs) h (split-keeps n vs)

values_of-keeps : (xs : List Item) → Keeps xs (values_of xs)
values_of-keeps [] = refl
values_of-keeps (item.Int z ∷ xs) = before-keeps (value.Int z) xs (values_of xs) (values_of-keeps xs)
values_of-keeps (item.Flag b ∷ xs) = before-keeps (value.Flag b) xs (values_of xs) (values_of-keeps xs)
values_of-keeps (item.Dia ∷ xs) = before-keeps value.Dia xs (values_of xs) (values_of-keeps xs)
values_of-keeps (item.Con n c ∷ xs) = take_parts-keeps c n xs (values_of xs) (values_of-keeps xs)

pub items_of_value_of : (xs : List Item) → IsOneValue xs → items_of (value_of xs) ≡ xs
items_of_value_of xs one = let k : Keeps xs (Some (value.And (value_of xs) value.End)) = subst (Keeps xs) one (values_of-keeps xs) in k

pub items_of_read : (xs : List Item) (v : Value) → IsOneValue xs → value_of xs ≡ v → xs ≡ items_of v
items_of_read xs v one e = sym (items_of_value_of xs one) ∙ ap items_of e
