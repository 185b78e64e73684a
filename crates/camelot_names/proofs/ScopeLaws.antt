-- How a scope stays kept when a name is bound, and when the innermost binding is taken off.
use Rattle.std.proofs.Common.{◌≡◌, ℕ, ◌+◌, ◌-◌, ◌<◌, Bool, true, false, cond, List, [], ◌∷◌, ◌++◌, map, reverse, length, drop, Option, None, Some, Result, Ok, Err, is_ok, OnOk, OnErr, refl, sym, ap, subst, ◌∙◌, Bor, arith}
use Rattle.std.specs.Prelude.{if◌then◌else◌, is_some, IsSome}
use Rattle.std.specs.Option.{option_to_list}
use Rattle.std.specs.BTreeMap.{BTreeMap, UpdatesBy}
use Rattle.std.specs.Map.{update}
use Rattle.std.specs.Str.{bytes_eq}
use Rattle.std.specs.Cmp.Lexicographic.{slice_cmp, bytes_decides}
use Rattle.std.specs.Ordering.{nat_cmp}
use Rattle.std.proofs.lemmas.Map.Text.{btree_map_updates_str}
use Rattle.std.proofs.lemmas.List.{reverse-append, length-drop, drop-drop}
use Rattle.camelot_names.specs.declared.scopes.Binding.{Binding}
use Rattle.camelot_values.specs.Names.{Binder, find}
use Rattle.camelot_values.specs.NameLaws.{name_itself}
use Rattle.camelot_names.specs.Kept.{at_name, bound, IsKept}

reverse_push : {X : Type 0} (xs : List X) (x : X) → reverse (xs ++ x ∷ []) ≡ x ∷ reverse xs
reverse_push xs x = reverse-append xs (x ∷ [])

-- ---- what names mean

bound_means : {T : Type 0} (b : Bool) (v : T) (o f : Option T) → o ≡ f → cond b (Some v) o ≡ (if b then Some v else f)
bound_means true v o f h = refl
bound_means false v o f h = h

unbound_means : {T : Type 0} (word name : List ℕ) (hidden o : Option T) (v : T) (bs : List (Binder T))
    → hidden ≡ find bs word → o ≡ (if bytes_eq word name then Some v else find bs name) → cond (bytes_eq word name) hidden o ≡ find bs name
unbound_means word name hidden o v bs h k = by (bytes_eq word name) refl k
  where
    by : (b : Bool) → bytes_eq word name ≡ b → o ≡ (if b then Some v else find bs name) → cond b hidden o ≡ find bs name
    by true e k = h ∙ ap (find bs) ((bytes_decides word name).0 e)
    by false e k = k

-- ---- a name bound, and a binding taken off

kept_bound : {T : Type 0} (old new : BTreeMap (Bor (List ℕ)) T) (b : Binding T) (bs : List (Binding T)) → IsKept old bs → b.hidden ≡ at_name old b.name.now
    → ((name : List ℕ) → at_name new name ≡ update bytes_eq (at_name old) b.name.now (Some b.value) name) → IsKept new (b ∷ bs)
kept_bound old new b bs kept is_hidden updated = record {
  means = λ name. updated name ∙ bound_means (bytes_eq b.name.now name) b.value _ _ (kept.means name);
  undo = (is_hidden ∙ kept.means b.name.now, kept.undo);
}

kept_unbound : {T : Type 0} (old new : BTreeMap (Bor (List ℕ)) T) (b : Binding T) (bs : List (Binding T)) → IsKept old (b ∷ bs)
    → ((name : List ℕ) → at_name new name ≡ update bytes_eq (at_name old) b.name.now b.hidden name) → IsKept new bs
kept_unbound old new b bs kept updated = record {
  means = λ name. updated name ∙ unbound_means b.name.now name b.hidden _ b.value (map bound bs) kept.undo.0 (kept.means name);
  undo = kept.undo.1;
}

-- ---- the same, as the code does it

pub kept_bind : {T A E : Type 0} (words more : BTreeMap (Bor (List ℕ)) T) (old room new : List (Binding T)) (b : Binding T) (r : Result A E) (x : A)
    → IsKept words (reverse old) → new ≡ (if is_ok r then room ++ b ∷ [] else room) → r ≡ Ok x → room ≡ old → b.hidden ≡ at_name words b.name.now
    → ((name : List ℕ) → at_name more name ≡ update bytes_eq (at_name words) b.name.now (Some b.value) name) → IsKept more (reverse new)
kept_bind words more old room new b r x kept pushed ok reserved hidden updated =
    let e : new ≡ old ++ b ∷ [] = pushed ∙ ap (λ r. if is_ok r then room ++ b ∷ [] else room) ok ∙ ap (λ l. l ++ b ∷ []) reserved in
    subst (IsKept more) (sym (ap reverse e ∙ reverse_push old b)) (kept_bound words more b (reverse old) kept hidden updated)

kept_popped : {T : Type 0} (words : BTreeMap (Bor (List ℕ)) T) (old new : List (Binding T)) (o : Option (Binding T)) (b : Binding T)
    → IsKept words (reverse old) → old ≡ new ++ option_to_list o → o ≡ Some b → IsKept words (b ∷ reverse new)
kept_popped words old new o b kept e h = subst (IsKept words) (ap reverse (e ∙ ap (λ o. new ++ option_to_list o) h) ∙ reverse_push new b) kept

pub kept_unbind : {T : Type 0} (words less : BTreeMap (Bor (List ℕ)) T) (old new : List (Binding T)) (o : Option (Binding T)) (b : Binding T)
    → IsKept words (reverse old) → old ≡ new ++ option_to_list o → o ≡ Some b → ((name : List ℕ) → at_name less name ≡ update bytes_eq (at_name words) b.name.now b.hidden name) → IsKept less (reverse new)
kept_unbind words less old new o b kept e h updated = kept_unbound words less b (reverse new) (kept_popped words old new o b kept e h) updated

-- the innermost name means something
pub means_something : {T : Type 0} (words : BTreeMap (Bor (List ℕ)) T) (old new : List (Binding T)) (o : Option (Binding T)) (b : Binding T)
    → IsKept words (reverse old) → old ≡ new ++ option_to_list o → o ≡ Some b → IsSome (at_name words b.name.now)
means_something words old new o b kept e h =
    let k = kept_popped words old new o b kept e h in
    subst IsSome (sym (k.means b.name.now ∙ ap (λ t. if t then Some b.value else find (map bound (reverse new)) b.name.now) (name_itself b.name.now))) refl

-- a value put back at a name that is there, which takes no memory
pub restored : {T A E : Type 0} (words more : BTreeMap (Bor (List ℕ)) T) (word : List ℕ) (hidden : Option T) (value : T) (r : Result A E)
    → hidden ≡ Some value → IsSome (at_name words word)
    → OnErr r (at_name words word ≡ None) → OnOk r (UpdatesBy (λ x y. slice_cmp nat_cmp x.now y.now) (λ k. slice_cmp nat_cmp word k.now) words more (Some value))
    → (name : List ℕ) → at_name more name ≡ update bytes_eq (at_name words) word hidden name
restored {T = T} words more word hidden value (Ok x) h there none updates name = btree_map_updates_str word words more (Some value) updates name ∙ ap (λ o. update bytes_eq (at_name words) word o name) (sym h)
restored {T = T} words more word hidden value (Err e) h there none updates name = absurd (let k : is_some {T = T} None ≡ true = sym (ap is_some none) ∙ there in cc)

-- a name taken out
pub taken_out : {T : Type 0} (words less : BTreeMap (Bor (List ℕ)) T) (word : List ℕ) (hidden : Option T) → hidden ≡ None
    → UpdatesBy (λ x y. slice_cmp nat_cmp x.now y.now) (λ k. slice_cmp nat_cmp word k.now) words less None
    → (name : List ℕ) → at_name less name ≡ update bytes_eq (at_name words) word hidden name
taken_out words less word hidden h updates name = btree_map_updates_str word words less None updates name ∙ ap (λ o. update bytes_eq (at_name words) word o name) (sym h)

-- ---- several taken off

pub still_left : {X : Type 0} (xs ys : List X) (len : ℕ) → len < length xs → ys ≡ drop 1 xs → drop (length ys - len) ys ≡ drop (length xs - len) xs
still_left xs ys len h e =
    let n : 1 + (length ys - len) ≡ length xs - len = omega (arith, ap length e, length-drop 1 xs) in
    ap (drop (length ys - len)) e ∙ drop-drop (length ys - len) 1 xs ∙ ap (λ n. drop n xs) n
