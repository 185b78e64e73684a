-- Functions by their names.
use Rattle.std.proofs.Common.{◌≡◌, ℕ, suc, ◌+◌, ◌<◌, Bool, true, false, List, [], ◌∷◌, map, length, get_or, Option, Some, None, refl, sym, ap, ◌∙◌, subst, Bor}
use Rattle.std.specs.Prelude.{nat_lt, is_some, IfSome, if◌then◌else◌}
use Rattle.std.specs.Option.{option_map}
use Rattle.std.specs.Str.{bytes_eq}
use Rattle.std.proofs.lemmas.Bool.{lt-ltb}
use Rattle.camelot_values.specs.Names.{place_among}
use Rattle.camelot_typing.specs.Kinds.{head_of}
use Rattle.camelot_types.specs.declared.globals.FunHead.{FunHead}
use Rattle.camelot_tree.specs.Tree.{Function, Source}
use Rattle.camelot_types.specs.Tables.{head_view}
use Rattle.camelot_types.specs.Walk.{head_guesses}
use Rattle.camelot_types.proofs.Numbers.{place_within}

suc_some : (o : Option ℕ) (i : ℕ) → option_map suc o ≡ Some i → (j : ℕ) × (o ≡ Some j) × (i ≡ suc j)
suc_some None i h = cc
suc_some (Some j) i h = let e : suc j ≡ i = cc in (j, refl, sym e)

head_at : (hs : List FunHead) (n : List ℕ) (i : ℕ) (d : FunHead) → place_among (map (λ h. h.name.now) hs) n ≡ Some i
    → head_of (map head_view hs) n ≡ Some (head_view (get_or hs i d))
head_at [] n i d h = cc
head_at (x ∷ hs) n i d h = by_test (λ j e. head_at hs n j d e) (bytes_eq x.name.now n) h
  where
    by_test : ((j : ℕ) → place_among (map (λ h. h.name.now) hs) n ≡ Some j → head_of (map head_view hs) n ≡ Some (head_view (get_or hs j d)))
        → (b : Bool) → (if b then Some 0 else option_map suc (place_among (map (λ h. h.name.now) hs) n)) ≡ Some i
        → (if b then Some (head_view x) else head_of (map head_view hs) n) ≡ Some (head_view (get_or (x ∷ hs) i d))
    by_test f true k = let e : 0 ≡ i = cc in ap (λ j. Some (head_view (get_or (x ∷ hs) j d))) e
    by_test f false k =
        let q = suc_some (place_among (map (λ h. h.name.now) hs) n) i k in
        f q.0 q.1 ∙ ap (λ j. Some (head_view (get_or (x ∷ hs) j d))) (sym q.2)

length_names : (hs : List FunHead) → length (map {B = List ℕ} (λ h. h.name.now) hs) ≡ length hs
length_names [] = refl
length_names (h ∷ hs) = ap suc (length_names hs)

pub head_found : (hs : List FunHead) (funs : List (List ℕ)) (n : List ℕ) (i : ℕ) (o : Option (Bor FunHead)) → funs ≡ map (λ h. h.name.now) hs
    → Some i ≡ place_among funs n → is_some o ≡ nat_lt i (length hs)
    → IfSome o (λ x. x.now ≡ get_or hs i x.now) → option_map (λ h. head_view h.now) o ≡ head_of (map head_view hs) n
head_found hs funs n i None e p s h =
    let q : place_among (map (λ h. h.name.now) hs) n ≡ Some i = sym (ap (λ l. place_among l n) e) ∙ sym p in
    let l : i < length hs = subst (λ m. i < m) (length_names hs) (place_within (map (λ h. h.name.now) hs) n i q) in
    let c : false ≡ true = s ∙ lt-ltb i (length hs) l in
    cc
head_found hs funs n i (Some x) e p s h =
    let q : place_among (map (λ h. h.name.now) hs) n ≡ Some i = sym (ap (λ l. place_among l n) e) ∙ sym p in
    ap (λ y. Some (head_view y)) h ∙ sym (head_at hs n i x.now q)

pub head_missing : (hs : List FunHead) (funs : List (List ℕ)) (n : List ℕ) → funs ≡ map (λ h. h.name.now) hs → None ≡ place_among funs n
    → None ≡ head_of (map head_view hs) n
head_missing hs funs n e p = sym (missing hs (sym (ap (λ l. place_among l n) e) ∙ sym p))
  where
    none : (o : Option ℕ) → option_map suc o ≡ None → o ≡ None
    none None h = refl
    none (Some j) h = cc

    by_test : (x : FunHead) (hs : List FunHead) → (place_among (map (λ h. h.name.now) hs) n ≡ None → head_of (map head_view hs) n ≡ None) → (b : Bool)
        → (if b then Some 0 else option_map suc (place_among (map (λ h. h.name.now) hs) n)) ≡ None → (if b then Some (head_view x) else head_of (map head_view hs) n) ≡ None
    by_test x hs f true k = cc
    by_test x hs f false k = f (none (place_among (map (λ h. h.name.now) hs) n) k)

    missing : (hs : List FunHead) → place_among (map (λ h. h.name.now) hs) n ≡ None → head_of (map head_view hs) n ≡ None
    missing [] h = refl
    missing (x ∷ hs) h = by_test x hs (missing hs) (bytes_eq x.name.now n) h

-- ---- the names of the heads of a program

names_of_views : (hs : List FunHead) → map {B = List ℕ} (λ h. h.name) (map head_view hs) ≡ map (λ h. h.name.now) hs
names_of_views [] = refl
names_of_views (h ∷ hs) = ap (λ l. h.name.now ∷ l) (names_of_views hs)

names_of_heads : (p : Source) (n : ℕ) (fs : List Function) → map {B = List ℕ} (λ h. h.name) (head_guesses p n fs) ≡ map (λ f. f.name.word) fs
names_of_heads p n [] = refl
names_of_heads p n (f ∷ fs) = ap (λ l. f.name.word ∷ l) (names_of_heads p (suc (n + length f.params)) fs)

pub names_are : (p : Source) (n : ℕ) (hs : List FunHead) (fs : List Function) → map head_view hs ≡ head_guesses p n fs
    → map (λ f. f.name.word) fs ≡ map (λ h. h.name.now) hs
names_are p n hs fs e = sym (names_of_heads p n fs) ∙ ap (λ l. map {B = List ℕ} (λ h. h.name) l) (sym e) ∙ names_of_views hs
