-- Names in a table, and their places.
use Rattle.std.proofs.Common.{◌≡◌, ℕ, suc, ◌<◌, Bool, true, false, cond, List, [], ◌∷◌, ◌++◌, map, length, Option, Some, None, IfSome, Result, Ok, Err, is_ok, OnErr, refl, sym, ap, subst, ◌∙◌, Bor, arith}
use Rattle.std.specs.Prelude.{not, ◌||◌, is_some, if◌then◌else◌, IsTrue}
use Rattle.std.specs.Option.{option_map}
use Rattle.std.specs.BTreeMap.{BTreeMap, UpdatesBy}
use Rattle.std.specs.Map.{update}
use Rattle.std.specs.Str.{bytes_eq}
use Rattle.std.specs.Cmp.Lexicographic.{slice_cmp, nat_list_eq_equiv, bytes_decides}
use Rattle.std.specs.Ordering.{nat_cmp}
use Rattle.std.proofs.lemmas.Map.Text.{btree_map_updates_str}
use Rattle.std.proofs.lemmas.List.{map-append, length-map}
use Rattle.camelot_values.specs.Names.{stands, place_among}
use Rattle.camelot_names.specs.Kept.{at_name, ArePlaces}

-- a name stands where it has a place
stands_placed : (ws : List (List ℕ)) (name : List ℕ) → is_some (place_among ws name) ≡ stands ws name
stands_placed [] name = refl
stands_placed (w ∷ ws) name = by (bytes_eq w name) (bytes_eq name w) (nat_list_eq_equiv.symm w name) (place_among ws name) (stands ws name) (stands_placed ws name)
  where
    by : (a b : Bool) → a ≡ b → (o : Option ℕ) (c : Bool) → is_some o ≡ c → is_some (if a then Some 0 else option_map suc o) ≡ (b || c)
    by true true e o c h = refl
    by true false e o c h = absurd cc
    by false true e o c h = absurd cc
    by false false e None c h = h
    by false false e (Some i) c h = h

pub stands_is : (b : Bool) (places : BTreeMap (Bor (List ℕ)) ℕ) (ws : List (List ℕ)) (name : List ℕ) → ArePlaces places ws
    → b ≡ is_some (at_name places name) → b ≡ stands ws name
stands_is b places ws name kept h = h ∙ ap is_some (kept name) ∙ stands_placed ws name

pub not_new : (b : Bool) (places : BTreeMap (Bor (List ℕ)) ℕ) (ws : List (List ℕ)) (name : List ℕ) → ArePlaces places ws
    → b ≡ is_some (at_name places name) → b ≡ true → false ≡ not (stands ws name)
not_new b places ws name kept h t = sym (ap not (sym (stands_is b places ws name kept h) ∙ t))

pub is_new : (b : Bool) (places : BTreeMap (Bor (List ℕ)) ℕ) (ws : List (List ℕ)) (name : List ℕ) → ArePlaces places ws
    → b ≡ is_some (at_name places name) → b ≡ false → true ≡ not (stands ws name)
is_new b places ws name kept h t = sym (ap not (sym (stands_is b places ws name kept h) ∙ t))

pub refused_new : {A E : Type 0} (r : Result A E) (b : Bool) (places : BTreeMap (Bor (List ℕ)) ℕ) (ws : List (List ℕ)) (name : List ℕ)
    → ArePlaces places ws → b ≡ is_some (at_name places name) → b ≡ false
    → OnErr r (IsTrue (not (stands ws name)))
refused_new (Ok x) b places ws name kept h t = tt
refused_new (Err e) b places ws name kept h t = sym (is_new b places ws name kept h t)

-- ---- a new name gets the next place

unplaced : (ws : List (List ℕ)) (name : List ℕ) → stands ws name ≡ false → place_among ws name ≡ None
unplaced ws name h = by (place_among ws name) (stands_placed ws name ∙ h)
  where
    by : (o : Option ℕ) → is_some o ≡ false → o ≡ None
    by None e = refl
    by (Some i) e = absurd cc

places_added : (ws : List (List ℕ)) (w name : List ℕ) → place_among ws w ≡ None
    → place_among (ws ++ w ∷ []) name ≡ cond (bytes_eq w name) (Some (length ws)) (place_among ws name)
places_added [] w name h = by (bytes_eq w name) (Some 0) None
  where
    by : (b : Bool) (first none : Option ℕ) → (if b then first else none) ≡ cond b first none
    by true first none = refl
    by false first none = refl
places_added (v ∷ ws) w name h =
    let apart = split (bytes_eq v w) (place_among ws w) h in
    by (bytes_eq v name) refl (bytes_eq w name) refl (place_among (ws ++ w ∷ []) name) apart.0 (places_added ws w name apart.1)
  where
    split : (b : Bool) (o : Option ℕ) → (if b then Some 0 else option_map suc o) ≡ None → (b ≡ false) × (o ≡ None)
    split true o e = absurd cc
    split false None e = (refl, refl)
    split false (Some i) e = absurd cc

    by : (a : Bool) → bytes_eq v name ≡ a → (b : Bool) → bytes_eq w name ≡ b → (o : Option ℕ) → bytes_eq v w ≡ false
        → o ≡ cond b (Some (length ws)) (place_among ws name)
        → (if a then Some 0 else option_map suc o) ≡ cond b (Some (suc (length ws))) (if a then Some 0 else option_map suc (place_among ws name))
    by true e true f o apart r =
        let same : bytes_eq v w ≡ true = ap (bytes_eq v) ((bytes_decides w name).0 f) ∙ e in
        absurd cc
    by true e false f o apart r = refl
    by false e true f o apart r = ap (option_map suc) r
    by false e false f o apart r = ap (option_map suc) r

pub places_kept : (old new : BTreeMap (Bor (List ℕ)) ℕ) (ws : List (List ℕ)) (w : List ℕ) → ArePlaces old ws → stands ws w ≡ false
    → ((name : List ℕ) → at_name new name ≡ update bytes_eq (at_name old) w (Some (length ws)) name) → ArePlaces new (ws ++ w ∷ [])
places_kept old new ws w kept absent updated name =
    updated name ∙ ap (cond (bytes_eq w name) (Some (length ws))) (kept name) ∙ sym (places_added ws w name (unplaced ws w absent))

-- the same, as the code does it
pub places_pushed : {A E : Type 0} (b : Bool) (old new : BTreeMap (Bor (List ℕ)) ℕ) (ws room more : List (Bor (List ℕ))) (w : Bor (List ℕ)) (i : ℕ) (r : Result A E) (x : A)
    → ArePlaces old (map (λ word. word.now) ws) → b ≡ is_some (at_name old w.now) → b ≡ false → i ≡ length room → room ≡ ws → more ≡ (if is_ok r then room ++ w ∷ [] else room) → r ≡ Ok x
    → UpdatesBy (λ x y. slice_cmp nat_cmp x.now y.now) (λ k. slice_cmp nat_cmp w.now k.now) old new (Some i) → ArePlaces new (map (λ word. word.now) more)
places_pushed b old new ws room more w i r x kept h t place reserved pushed ok updates =
    let e : more ≡ ws ++ w ∷ [] = pushed ∙ ap (λ r. if is_ok r then room ++ w ∷ [] else room) ok ∙ ap (λ l. l ++ w ∷ []) reserved in
    let names : map (λ word. word.now) more ≡ map (λ word. word.now) ws ++ w.now ∷ [] = ap (map (λ word. word.now)) e ∙ map-append (λ word. word.now) ws (w ∷ []) in
    let here : i ≡ length (map (λ word. word.now) ws) = place ∙ ap length reserved ∙ sym (length-map ws (λ word. word.now)) in
    let absent : stands (map (λ word. word.now) ws) w.now ≡ false = sym (stands_is b old (map (λ word. word.now) ws) w.now kept h) ∙ t in
    subst (ArePlaces new) (sym names) (places_kept old new (map (λ word. word.now) ws) w.now kept absent
    (λ name. btree_map_updates_str w.now old new (Some i) updates name ∙ ap (λ n. update bytes_eq (at_name old) w.now (Some n) name) here))

-- ---- places

within : (ws : List (List ℕ)) (name : List ℕ) (i : ℕ) → place_among ws name ≡ Some i → i < length ws
within [] name i e = absurd cc
within (w ∷ ws) name i e = by (bytes_eq w name) (place_among ws name) (λ j. within ws name j) e
  where
    by : (b : Bool) (o : Option ℕ) → ((j : ℕ) → o ≡ Some j → j < length ws) → (if b then Some 0 else option_map suc o) ≡ Some i → i < suc (length ws)
    by true o rec e = let same : 0 ≡ i = cc in omega (arith, same)
    by false None rec e = absurd cc
    by false (Some j) rec e = let same : suc j ≡ i = cc in let less = rec j refl in omega (arith, same, less)

pub place_within : (o : Option ℕ) (ws : List (List ℕ)) (name : List ℕ) → o ≡ place_among ws name → IfSome o (λ i. i < length ws)
place_within None ws name e = tt
place_within (Some i) ws name e = within ws name i (sym e)

-- ---- a name that stands gets its place back

updated_back : (old : List ℕ → Option ℕ) (w name : List ℕ) (i place : ℕ) → ((v : List ℕ) → bytes_eq w v ≡ true → old v ≡ old w) → old w ≡ Some place
    → cond (bytes_eq w name) (Some place) (cond (bytes_eq w name) (Some i) (old name)) ≡ old name
updated_back old w name i place same is = by (bytes_eq w name) refl
  where
    by : (b : Bool) → bytes_eq w name ≡ b → cond b (Some place) (cond b (Some i) (old name)) ≡ old name
    by true e = sym is ∙ sym (same name e)
    by false e = refl

pub places_back : (old mid new : BTreeMap (Bor (List ℕ)) ℕ) (ws room : List (Bor (List ℕ))) (w : Bor (List ℕ)) (i place : ℕ)
    → ArePlaces old (map (λ word. word.now) ws) → room ≡ ws → at_name old w.now ≡ Some place
    → UpdatesBy (λ x y. slice_cmp nat_cmp x.now y.now) (λ k. slice_cmp nat_cmp w.now k.now) old mid (Some i)
    → UpdatesBy (λ x y. slice_cmp nat_cmp x.now y.now) (λ k. slice_cmp nat_cmp w.now k.now) mid new (Some place)
    → ArePlaces new (map (λ word. word.now) room)
places_back old mid new ws room w i place kept reserved is first second =
    subst (ArePlaces new) (ap (map (λ word. word.now)) (sym reserved)) (λ name.
    btree_map_updates_str w.now mid new (Some place) second name
    ∙ ap (λ o. cond (bytes_eq w.now name) (Some place) o) (btree_map_updates_str w.now old mid (Some i) first name)
    ∙ updated_back (at_name old) w.now name i place (λ v e. ap (at_name old) (sym ((bytes_decides w.now v).0 e))) is
    ∙ kept name)
