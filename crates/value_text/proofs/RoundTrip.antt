-- What is printed of a value is a text of that value.
use Rattle.std.proofs.Common.{◌≡◌, ℕ, suc, ◌≤◌, true, false, List, [], ◌∷◌, ◌++◌, refl, subst, arith, append_assoc, append-nil, codes, inl}
use Rattle.std.specs.Prelude.{IsTrue}
use Rattle.camelot_values.specs.Value as value
use Rattle.camelot_values.specs.Value.{Value, Values, part_count}
use Rattle.camelot_values.specs.Counts.{size}
use Rattle.camelot_values.specs.Kinds.{DataType, constructor, constructor_name}
use Rattle.camelot_values.specs.Typing.{Fits, FitAll}
use Rattle.camelot_values.specs.declared.kinds.Kind.{Kind}
use Rattle.camelot_values.specs.declared.value.Item.{Item}
use Rattle.camelot_values.specs.declared.value.Item.TheVariants as item
use Rattle.value_text.specs.Grammar as g
use Rattle.value_text.specs.Grammar.{AreNamed, Piece, pieces, further_pieces, Spelled, Ends, IsNodeText, IsTextOf, IsRead, is_word}
use Rattle.value_text.specs.Text.{value_text, further_text}
use Rattle.value_text.proofs.Steps.{put_word}
use Rattle.value_text.proofs.Comings.{some_is}
use Rattle.value_text.proofs.Lives.{int_fine, int_text, con_fine, first_part}

-- a word, and what follows it
one_word : (names : ℕ → List ℕ) (x : Item) (ps : List Piece) (word rest : List ℕ) → IsNodeText names x word → IsTrue (is_word word) → Ends rest
    → Spelled names ps rest → Spelled names (g.Node x ∷ ps) (word ++ rest)
one_word names x ps word rest text form ends h = put_word (IsNodeText names x) (Spelled names ps) word rest (record { word = word; rest = rest; parts = refl; form = form; ends = ends; is = text; next = h })

con_text_is : (names : ℕ → List ℕ) (c : ℕ) (v : Value) (vs : Values) (rest : List ℕ)
    → names c ++ (codes "(" ++ (value_text names v ++ (further_text names vs ++ (codes ")" ++ rest)))) ≡ value_text names (value.Con c (value.And v vs)) ++ rest
con_text_is names c v vs rest = simp append_assoc

further_text_is : (names : ℕ → List ℕ) (v : Value) (vs : Values) (rest : List ℕ)
    → 44 ∷ (value_text names v ++ (further_text names vs ++ (codes ")" ++ rest))) ≡ further_text names (value.And v vs) ++ (codes ")" ++ rest)
further_text_is names v vs rest = simp append_assoc

further_ends : (names : ℕ → List ℕ) (vs : Values) (rest : List ℕ) → Ends (further_text names vs ++ (codes ")" ++ rest))
further_ends names value.End rest = refl
further_ends names (value.And v vs) rest = refl

mutual
  spelled_value : (types : List DataType) → AreNamed types → (v : Value) (q : Kind) (ps : List Piece) (rest : List ℕ) → Fits types q v → Ends rest
      → Spelled (constructor_name types) ps rest
      → Spelled (constructor_name types) (pieces v ps) (value_text (constructor_name types) v ++ rest)
  spelled_value types names (value.Int z) q ps rest f e h = one_word (constructor_name types) (item.Int z) ps (value_text (constructor_name types) (value.Int z)) rest (int_text z) (int_fine z f.1) e h
  spelled_value types names (value.Flag true) q ps rest f e h = one_word (constructor_name types) (item.Flag true) ps (codes "true") rest refl refl e h
  spelled_value types names (value.Flag false) q ps rest f e h = one_word (constructor_name types) (item.Flag false) ps (codes "false") rest refl refl e h
  spelled_value types names value.Dia q ps rest f e h = one_word (constructor_name types) item.Dia ps (codes "<>") rest refl refl e h
  spelled_value types names (value.Con c value.End) q ps rest f e h =
      let (con, is, fit) = some_is (constructor types c) (λ con. FitAll types con.fields value.End) f.1 in
      one_word (constructor_name types) (item.Con 0 c) ps (constructor_name types c) rest refl (con_fine types c con names is) e h
  spelled_value types names (value.Con c (value.And v vs)) q ps rest f e h =
      let (con, is, fit) = some_is (constructor types c) (λ con. FitAll types con.fields (value.And v vs)) f.1 in
      let (p, others, first, more) = first_part types con.fields v vs fit in
      let text = value_text (constructor_name types) v ++ (further_text (constructor_name types) vs ++ (codes ")" ++ rest)) in
      let inner = spelled_value types names v p (further_pieces vs ps) (further_text (constructor_name types) vs ++ (codes ")" ++ rest)) first (further_ends (constructor_name types) vs rest) (spelled_further types names vs others ps rest more h) in
      let all = one_word (constructor_name types) (item.Con (suc (part_count vs)) c) (g.Mark 40 ∷ pieces v (further_pieces vs ps)) (constructor_name types c) (codes "(" ++ text) refl (con_fine types c con names is) refl
      (inl (record { rest = text; parts = refl; next = inner })) in
      subst (Spelled (constructor_name types) (pieces (value.Con c (value.And v vs)) ps)) (con_text_is (constructor_name types) c v vs rest) all

  spelled_further : (types : List DataType) → AreNamed types → (vs : Values) (qs : List Kind) (ps : List Piece) (rest : List ℕ) → FitAll types qs vs
      → Spelled (constructor_name types) ps rest
      → Spelled (constructor_name types) (further_pieces vs ps) (further_text (constructor_name types) vs ++ (codes ")" ++ rest))
  spelled_further types names value.End qs ps rest f h = inl (record { rest = rest; parts = refl; next = h })
  spelled_further types names (value.And v vs) qs ps rest f h =
      let (p, others, first, more) = first_part types qs v vs f in
      let text = value_text (constructor_name types) v ++ (further_text (constructor_name types) vs ++ (codes ")" ++ rest)) in
      let inner = spelled_value types names v p (further_pieces vs ps) (further_text (constructor_name types) vs ++ (codes ")" ++ rest)) first (further_ends (constructor_name types) vs rest) (spelled_further types names vs others ps rest more h) in
      let all : Spelled (constructor_name types) (g.Mark 44 ∷ pieces v (further_pieces vs ps)) (44 ∷ text) = inl (record { rest = text; parts = refl; next = inner }) in
      subst (Spelled (constructor_name types) (further_pieces (value.And v vs) ps)) (further_text_is (constructor_name types) v vs rest) all

-- what is printed of a value is a text of it
pub printed_text : (types : List DataType) (q : Kind) (v : Value) → AreNamed types → Fits types q v
    → IsTextOf types (q ∷ []) (value_text (constructor_name types) v) (v ∷ [])
printed_text types q v names f = record {
  fit = (f, tt);
  spelled = subst (Spelled (constructor_name types) (pieces v [])) (append-nil (value_text (constructor_name types) v)) (spelled_value types names v q [] [] f tt refl);
}

-- so it is read as the value, where it has few nodes
pub printed_read : (types : List DataType) (q : Kind) (v : Value) → AreNamed types → Fits types q v → size v ≤ 65536
    → IsRead types (q ∷ []) (value_text (constructor_name types) v) (v ∷ [])
printed_read types q v names f h = record { text_of = printed_text types q v names f; few = omega (arith, h) }
