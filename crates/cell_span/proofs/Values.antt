-- The machine's values of the types that a walk makes or takes apart. Assumes `Logic`.
use Rattle.std.proofs.Common.{◌≡◌, List, [], ◌∷◌, ◌++◌, refl, subst}
use seplogic.Ra.Ura.{Ura}
use mir.Val.{Val, vstruct, vcons, vnil, of_list}
use base.Logic.{ent, sep, emp}
use types.Logic.{Logic, sem}
use types.Kit.{Item, Goal, Seq, Step, step, ‵, ◌$◌, ◌∵◌, !, qed, move, drop, fsplit, fjoin, fpick, fpack, feq_i, feq_l, done}
use denote.RattleType.{RattleType, Valss}
use denote.RawPtr.{Ptr, RawPtr, ptr_val}
use denote.Shadow.{makes_shadow}
use denote.Steps.{nothing}
use denote.Struct.Struct.{Shape, Struct, within}
use denote.Struct.Owning.{shape}
use denote.Struct.Declared as Declared
use denote.Struct.Tuple.{Tuple, tuple_type}
use Rattle.std.proofs.mem.Param.{El, R}
use Rattle.std.proofs.RcSteps.{word}
use Rattle.cell_span.specs.contracts.cells.Base as start
use Rattle.cell_span.specs.contracts.cells.Cells as owner

-- a struct whose one field takes no bytes
abbrev pub unmarked : Val
unmarked = vstruct (vcons (vstruct vnil) vnil)

abbrev pub two_vals : Val → Val → Val
two_vals u v = vstruct (vcons u (vcons v vnil))

abbrev pub three_vals : Val → Val → Val → Val
three_vals u v w = vstruct (vcons u (vcons v (vcons w vnil)))

abbrev pointer_field : Shape
pointer_field = record { name = []; args = []; types = []; fields = RawPtr ∷ [] }

module _ (E : El) where
  abbrev pub Owner : RattleType
  Owner = owner.the_row (R E)

  abbrev pub Start : RattleType
  Start = start.the_row (R E)

  -- the fields of an owner of places, beside what it owns
  abbrev pub Fields : RattleType
  Fields = Struct (shape (owner.the_type (R E)))

pub unmarked_made : (E : El) {M : Type 1} {𝓤 : Ura M} (𝓛 : Logic 𝓤) → ent 𝓤 (emp 𝓤) (sem 𝓛 ((Fields E).own_val (tt, tt) (unmarked ∷ [])))
unmarked_made E 𝓛 = makes_shadow 𝓛 ((Fields E).own_val (tt, tt) (unmarked ∷ [])) (λ us. (tt, ((λ vs. (tt, tt)), tt))) ((vstruct vnil ∷ [], tt), (refl, ((tt, (refl, tt)), tt)))

module _ {M : Type 1} {𝓤 : Ura M} {𝓛 : Logic 𝓤} {K : Type 0} {Γ : List (Item 𝓤)} {G : Goal 𝓤 𝓛.H} where
  -- such a struct has that one value
  pub was_unmarked : K → (E : El) (vs : List Val) → (vs ≡ unmarked ∷ [] → Seq K 𝓛 Γ G) → Seq K 𝓛 (‵ ((Fields E).own_val (tt, tt) vs) ∷ Γ) G
  was_unmarked t E vs next =
      fpick t (λ us. fsplit t $ feq_l t (λ whole. fsplit t $ fpick t (λ none. fsplit t $ feq_l t (λ field. drop t $ drop t $
      next (subst (λ (ws : List Val). vs ≡ vstruct (of_list (ws ++ [])) ∷ []) field whole)))))

  -- the value of a block's start is the struct of its pointer
  pub was_pointer : K → (p : Ptr) (vs : List Val) → (vs ≡ word p ∷ [] → Seq K 𝓛 Γ G) → Seq K 𝓛 (‵ ((Struct pointer_field).own_val (p, tt) vs) ∷ Γ) G
  was_pointer t p vs next =
      fpick t (λ us. fsplit t $ feq_l t (λ whole. fsplit t $ feq_l t (λ field. drop t $
      next (subst (λ (ws : List Val). vs ≡ vstruct (of_list (ws ++ [])) ∷ []) field whole))))

  pub makes_pointer : K → (p : Ptr) → Step K 𝓛 (‵ ((Struct pointer_field).own_val (p, tt) (word p ∷ [])) ∷ Γ) G Γ G
  makes_pointer t p = step (λ s.
      nothing t $ feq_i t (List Val) (ptr_val p ∷ []) (ptr_val p ∷ []) refl $ fjoin t $ feq_i t (List Val) (word p ∷ []) (word p ∷ []) refl $ fjoin t $
      fpack t (Valss (RawPtr ∷ [])) (within pointer_field (p, tt) (word p ∷ [])) (ptr_val p ∷ [], tt) $ s)

module _ {M : Type 1} {𝓤 : Ura M} (𝓛 : Logic 𝓤) (S T : RattleType) where
  pub two_of : (x : S.Denot) (y : T.Denot) (u v : Val)
      → ent 𝓤 (sep 𝓤 (sem 𝓛 (S.own_val x (u ∷ []))) (sem 𝓛 (T.own_val y (v ∷ [])))) (sem 𝓛 ((Tuple (S ∷ T ∷ [])).own_val (x, y) (two_vals u v ∷ [])))
  two_of x y u v =
      let whole : Val = two_vals u v in
      qed 𝓛 (‵ (S.own_val x (u ∷ [])) ∷ ‵ (T.own_val y (v ∷ [])) ∷ []) ∵
      nothing ! $ move ! (2 ∷ 0 ∷ []) $ fjoin ! $ move ! (1 ∷ 0 ∷ []) $ fjoin ! $
      feq_i ! (List Val) (whole ∷ []) (whole ∷ []) refl $ fjoin ! $
      fpack ! (Valss (S ∷ T ∷ [])) (within (Declared.shape (tuple_type (S ∷ T ∷ []))) (x, (y, tt)) (whole ∷ [])) (u ∷ [], (v ∷ [], tt)) $ done !

  pub three_of : (Z : RattleType) (x : S.Denot) (y : T.Denot) (z : Z.Denot) (u v w : Val)
      → ent 𝓤 (sep 𝓤 (sem 𝓛 (S.own_val x (u ∷ []))) (sep 𝓤 (sem 𝓛 (T.own_val y (v ∷ []))) (sem 𝓛 (Z.own_val z (w ∷ [])))))
      (sem 𝓛 ((Tuple (S ∷ T ∷ Z ∷ [])).own_val (x, y, z) (three_vals u v w ∷ [])))
  three_of Z x y z u v w =
      let whole : Val = three_vals u v w in
      qed 𝓛 (‵ (S.own_val x (u ∷ [])) ∷ ‵ (T.own_val y (v ∷ [])) ∷ ‵ (Z.own_val z (w ∷ [])) ∷ []) ∵
      nothing ! $ move ! (3 ∷ 0 ∷ []) $ fjoin ! $ move ! (2 ∷ 0 ∷ []) $ fjoin ! $ move ! (1 ∷ 0 ∷ []) $ fjoin ! $
      feq_i ! (List Val) (whole ∷ []) (whole ∷ []) refl $ fjoin ! $
      fpack ! (Valss (S ∷ T ∷ Z ∷ [])) (within (Declared.shape (tuple_type (S ∷ T ∷ Z ∷ []))) (x, (y, (z, tt))) (whole ∷ [])) (u ∷ [], (v ∷ [], (w ∷ [], tt))) $ done !
