-- Private: words for functions of this crate.
-- The text of a value node by node, over the numbers of parts that are still to come, those of the innermost
-- constructor first.
use Rattle.std.specs.Prelude.{◌≡◌, ℕ, zero, suc, ◌+◌, ◌<◌, cond, List, [], ◌∷◌, ◌++◌, length, take, codes}
use Rattle.std.specs.Fmt.{signed_decimal}
use Rattle.camelot_values.specs.declared.value.Item.{Item}
use Rattle.camelot_values.specs.declared.value.Item.TheVariants as item

-- the node's own word
abbrev pub node_text : (ℕ → List ℕ) → Item → List ℕ
node_text names (item.Int z) = signed_decimal z
node_text names (item.Flag b) = cond b (codes "true") (codes "false")
node_text names item.Dia = codes "<>"
node_text names (item.Con n c) = names c

-- what stands behind a part that is complete: a comma before the next one, or what closes its constructor and those
-- that it completes
abbrev pub closing_text : List ℕ → List ℕ
closing_text [] = []
closing_text (zero ∷ due) = codes ")" ++ closing_text due
closing_text (suc n ∷ due) = codes ","

abbrev pub closing_due : List ℕ → List ℕ
closing_due [] = []
closing_due (zero ∷ due) = closing_due due
closing_due (suc n ∷ due) = n ∷ due

-- what is written with a node, and what is due then
abbrev pub opening_text : List ℕ → ℕ → List ℕ
opening_text due zero = closing_text due
opening_text due (suc n) = codes "("

abbrev pub opening_due : List ℕ → ℕ → List ℕ
opening_due due zero = closing_due due
opening_due due (suc n) = n ∷ due

abbrev pub parts_of : Item → ℕ
parts_of (item.Con n c) = n
parts_of x = 0

-- the text of nodes
abbrev pub nodes_text : (ℕ → List ℕ) → List ℕ → List Item → List ℕ
nodes_text names due [] = []
nodes_text names due (x ∷ xs) = node_text names x ++ (opening_text due (parts_of x) ++ nodes_text names (opening_due due (parts_of x)) xs)

-- the array begins with the name and `(`, where the name has at most 15 bytes
abbrev pub IsWord : List ℕ → List ℕ → Type 0
IsWord name word = length name < 16 → take (length name + 1) word ≡ name ++ codes "("

-- a constructor's number, with its name and the name's word
abbrev pub IsKnown : (ℕ → List ℕ) → ℕ → List ℕ → List ℕ → Type 0
IsKnown names con name word = (name ≡ names con) × IsWord name word
