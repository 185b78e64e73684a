-- Rows of places are cut and put together; a value is taken out of its place and put into it; and a block's room is a
-- row of empty places, as a row of full ones is room again once its values are forgotten. Assumes `Logic`.
use Rattle.std.proofs.Common.{◌≡◌, ℕ, zero, suc, ◌+◌, ◌*◌, List, [], ◌∷◌, ◌++◌, length, refl, arith}
use Rattle.std.specs.Prelude.{Some, slice_get}
use Rattle.std.specs.Mem.{type_size}
use native.Mathlib.Nat.{zero-mul, suc-mul}
use seplogic.Ra.Ura.{Ura}
use base.Fraction.{full_share}
use base.Logic.{ent, sep, ex}
use base.Fml.{Fml, Lft, ftrue, fat, froom}
use mir.Syntax.{ty_array}
use mir.Val.{Val}
use types.Logic.{Logic, sem}
use types.Kit.{Item, Goal, Seq, ‵, some, ◌⊛◌, ◌$◌, ◌∵◌, !, qed, by, move, keep, drop, use1, use2, pick, split, fsplit, fjoin, rewrite, done}
use denote.Laws.{Is, shows}
use denote.Memory.{part_at, shared_of}
use denote.Param.Laws.{param_laws}
use denote.Steps.{nothing, peeks}
use borrow.Table.OneValue.{part_in, part_out}
use Rattle.std.proofs.mem.Param.{El, R, el_x, elτ, Good, one}
use Rattle.std.proofs.RawLayout.{as_raw}
use Rattle.cell_span.specs.Ownership.{full, empty, full_lent}

abbrev pub size_of : El → ℕ
size_of E = type_size (R E)

module _ (E : El) {M : Type 1} {𝓤 : Ura M} (𝓛 : Logic 𝓤) (b : ℕ) where
  open 𝓛 use {H}

  abbrev s : ℕ
  s = size_of E

  abbrev pub Full : ℕ → List (el_x E) → Fml
  Full = full (R E) b

  abbrev pub Empty : ℕ → ℕ → Fml
  Empty = empty (R E) b

  -- ---- one place
  -- what is owned of the value in a place: the machine's value there, and what that one owns
  pub value_out : (x : el_x E) (o : ℕ) → ent 𝓤 (sem 𝓛 (part_at (R E) full_share x b o))
      (ex 𝓤 (λ (v : Val). sep 𝓤 (H.at full_share (elτ E) b o v) (sem 𝓛 (E.row.own_val x (v ∷ [])))))
  value_out x o = part_out 𝓛 (R E) refl full_share x b o

  pub value_in : (x : el_x E) (o : ℕ) (v : Val)
      → ent 𝓤 (sep 𝓤 (H.at full_share (elτ E) b o v) (sem 𝓛 (E.row.own_val x (v ∷ [])))) (sem 𝓛 (part_at (R E) full_share x b o))
  value_in x o v = part_in 𝓛 (R E) refl full_share x b o v

  -- a value that is forgotten leaves room
  pub forgotten : (x : el_x E) (o : ℕ) → ent 𝓤 (sem 𝓛 (part_at (R E) full_share x b o)) (H.room (elτ E) b o)
  forgotten x o =
      qed 𝓛 (‵ (part_at (R E) full_share x b o) ∷ []) ∵
      use1 𝓛 (some (λ (v : Val). ‵ (fat full_share (elτ E) b o v) ⊛ ‵ (E.row.own_val x (v ∷ [])))) (value_out x o) $
      pick ! (λ v. split ! $ keep ! (0 ∷ []) $ by ! (𝓛.laws.at_room (elτ E) b o v))

  -- ---- rows
  pub cut : (xs ys : List (el_x E)) (o at : ℕ) → at ≡ length xs * s + o → ent 𝓤 (sem 𝓛 (Full o (xs ++ ys))) (sep 𝓤 (sem 𝓛 (Full o xs)) (sem 𝓛 (Full at ys)))
  cut [] ys o at e =
      let same : o ≡ at = omega (arith, zero-mul s) in
      qed 𝓛 (‵ (Full o ys) ∷ []) ∵ rewrite ! 0 (λ (k : ℕ). ‵ (Full k ys)) same refl $ nothing ! $ done !
  cut (x ∷ xs) ys o at e =
      let later : at ≡ length xs * s + (o + s) = omega (arith, e, suc-mul (length xs) s) in
      qed 𝓛 (‵ (Full o (x ∷ xs ++ ys)) ∷ []) ∵ fsplit ! $ move ! (1 ∷ []) $
      use1 𝓛 (‵ (Full (o + s) xs) ⊛ ‵ (Full at ys)) (cut xs ys (o + s) at later) $ split ! $ move ! (2 ∷ 0 ∷ []) $ fjoin ! $ done !

  pub glue : (xs ys : List (el_x E)) (o at : ℕ) → at ≡ length xs * s + o → ent 𝓤 (sep 𝓤 (sem 𝓛 (Full o xs)) (sem 𝓛 (Full at ys))) (sem 𝓛 (Full o (xs ++ ys)))
  glue [] ys o at e =
      let same : at ≡ o = omega (arith, zero-mul s) in
      qed 𝓛 (‵ ftrue ∷ ‵ (Full at ys) ∷ []) ∵ drop ! $ rewrite ! 0 (λ (k : ℕ). ‵ (Full k ys)) same refl $ done !
  glue (x ∷ xs) ys o at e =
      let later : at ≡ length xs * s + (o + s) = omega (arith, e, suc-mul (length xs) s) in
      qed 𝓛 (‵ (Full o (x ∷ xs)) ∷ ‵ (Full at ys) ∷ []) ∵ fsplit ! $ move ! (1 ∷ 2 ∷ []) $
      use2 𝓛 (‵ (Full (o + s) (xs ++ ys))) (glue xs ys (o + s) at later) $ move ! (1 ∷ 0 ∷ []) $ fjoin ! $ done !

  -- ---- a whole block
  pub room_is_empty : (n o : ℕ) → ent 𝓤 (H.room (ty_array (elτ E) n) b o) (sem 𝓛 (Empty o n))
  room_is_empty zero o = qed 𝓛 (‵ (froom (ty_array (elτ E) 0) b o) ∷ []) ∵ keep ! [] $ done !
  room_is_empty (suc n) o =
      qed 𝓛 (‵ (froom (ty_array (elτ E) (suc n)) b o) ∷ []) ∵
      use1 𝓛 (‵ (froom (elτ E) b o) ⊛ ‵ (froom (ty_array (elτ E) n) b (o + s))) (𝓛.laws.room_uncons (elτ E) n b o) $ split ! $ as_raw ! (elτ E) b o $
      move ! (1 ∷ []) $ use1 𝓛 (‵ (Empty (o + s) n)) (room_is_empty n (o + s)) $ move ! (1 ∷ 0 ∷ []) $ fjoin ! $ done !

  pub full_is_room : (xs : List (el_x E)) (o : ℕ) → ent 𝓤 (sem 𝓛 (Full o xs)) (H.room (ty_array (elτ E) (length xs)) b o)
  full_is_room [] o = 𝓛.laws.room_nil (elτ E) b o
  full_is_room (x ∷ xs) o =
      qed 𝓛 (‵ (Full o (x ∷ xs)) ∷ []) ∵ fsplit ! $ use1 𝓛 (‵ (froom (elτ E) b o)) (forgotten x o) $ move ! (1 ∷ []) $
      use1 𝓛 (‵ (froom (ty_array (elτ E) (length xs)) b (o + s))) (full_is_room xs (o + s)) $ move ! (1 ∷ 0 ∷ []) $ by ! (𝓛.laws.room_cons (elτ E) (length xs) b o)

  -- ---- a row that is lent
  pub lent_one : (κ : Lft) (xs : List (el_x E)) (i o at : ℕ) (x : el_x E) → slice_get xs i ≡ Some x → at ≡ i * s + o
      → ent 𝓤 (sem 𝓛 (full_lent (R E) b o xs κ)) (sem 𝓛 (shared_of (R E) x b at κ))
  lent_one κ [] i o at x got e = absurd cc
  lent_one κ (y ∷ xs) zero o at x got e =
      let same : o ≡ at = omega (arith, e, zero-mul s) in let is : y ≡ x = cc in
      qed 𝓛 (‵ (full_lent (R E) b o (y ∷ xs) κ) ∷ []) ∵ fsplit ! $ keep ! (0 ∷ []) $
      rewrite ! 0 (λ (c : ℕ × el_x E). ‵ (shared_of (R E) c.1 b c.0 κ)) (λ j. (same j, is j)) refl $ done !
  lent_one κ (y ∷ xs) (suc i) o at x got e =
      qed 𝓛 (‵ (full_lent (R E) b o (y ∷ xs) κ) ∷ []) ∵ fsplit ! $ drop ! $ by ! (lent_one κ xs i (o + s) at x got (omega (arith, e, suc-mul i s)))

-- what is owned of a value is one value of the machine, of its type
module _ (E : El) {M : Type 1} {𝓤 : Ura M} {𝓛 : Logic 𝓤} {K : Type 0} {Γ : List (Item 𝓤)} {G : Goal 𝓤 𝓛.H} where
  pub was_one : K → (x : el_x E) (vs : List Val) → ((v : Val) → vs ≡ v ∷ [] → Good E v → Seq K 𝓛 (‵ (E.row.own_val x (v ∷ [])) ∷ Γ) G)
      → Seq K 𝓛 (‵ (E.row.own_val x vs) ∷ Γ) G
  was_one t x vs next =
      peeks t (R E) (Is (R E)) (shows 𝓛 (R E)) x vs (λ is.
      let found = one E vs (((param_laws 0 E.row E.laws).lawful 𝓛).typed x vs is) in
      rewrite t 0 (λ (us : List Val). ‵ (E.row.own_val x us)) found.1 refl $ next found.0 found.1 found.2)
