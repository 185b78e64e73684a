-- Limits of declarations, and declarations that are passed one by one.
use Rattle.std.proofs.Common.{◌≡◌, ℕ, zero, suc, ◌+◌, ◌<◌, ◌≤◌, Bool, true, false, List, [], ◌∷◌, ◌++◌, map, length, get_or, take, drop, refl, sym, ap, ◌∙◌, subst, arith, append_assoc}
use Rattle.std.specs.Prelude.{nat_le, if◌then◌else◌, flat_map}
use Rattle.std.proofs.lemmas.Bool.{leb-true}
use Rattle.std.proofs.lemmas.List.{map-append}
use Rattle.std.proofs.Math.Seq.{take-suc, drop-cons}
use Rattle.camelot_tree.specs.declared.tree.Name.{Name}
use Rattle.camelot_tree.specs.declared.tree.TypeDecl.{TypeDecl}
use Rattle.camelot_tree.specs.Tree.{Constructor, DataType, Source, data_type_of}
use Rattle.camelot_types.specs.declared.fault.TypeFault.{TypeFault}
use Rattle.stops.specs.declared.stop.Stop.{Stop}
use Rattle.camelot_types.specs.declared.fault.TypeFault.TheVariants.{TooMany}
use Rattle.camelot_types.specs.Walk.{line_above, words, con_names}
use Rattle.camelot_types.specs.Solving.{Walked, Goes, Stops, and_then}
use Rattle.camelot_types.specs.Declaring.{few_checked, type_checked, each_type_checked}
use Rattle.camelot_types.specs.Doing.{StopsWith}
use Rattle.camelot_types.proofs.Declaring.{length_map, words_of}

-- the line of the first name above the limit
past_line : {A : Type 0} (name : A → Name) (most : ℕ) (xs : List A) (d : A) → most < length xs → d ≡ get_or xs most d
    → line_above most (map name xs) ≡ (name d).line
past_line name most [] d h e = absurd (omega (arith, h))
past_line name zero (x ∷ xs) d h e = ap (λ y. (name y).line) (sym e)
past_line name (suc most) (x ∷ xs) d h e = past_line name most xs d (omega arith) e

abbrev stopped : TypeFault → Walked (Unit {0})
stopped fault = Stops fault

past_fails : (what : List ℕ) (most have line l : ℕ) (b : Bool) → (b ≡ true → have ≤ most) → most < have → l ≡ line
    → (if b then Goes tt else Stops (TooMany what have l)) ≡ stopped (TooMany what have line)
past_fails what most have line l true f h e = absurd (omega (arith, f refl))
past_fails what most have line l false f h e = ap (λ k. Stops (TooMany what have k)) e

-- more names than there may be
past_is : {A : Type 0} (name : A → Name) (what : List ℕ) (most : ℕ) (xs : List A) (d : A) → most < length xs → d ≡ get_or xs most d
    → few_checked what most (map name xs) ≡ Stops (TooMany what (length xs) (name d).line)
unfolding few_checked
past_is name what most xs d h e =
    subst (λ n. (if nat_le (length (map name xs)) most then Goes tt else Stops (TooMany what (length (map name xs)) (line_above most (map name xs)))) ≡ stopped (TooMany what n (name d).line)) (length_map name xs)
    (past_fails what most (length (map name xs)) (name d).line (line_above most (map name xs)) (nat_le (length (map name xs)) most) (leb-true (length (map name xs)) most) (subst (λ n. most < n) (sym (length_map name xs)) h) (past_line name most xs d h e))

pub map_map : {A B C : Type 0} (f : A → B) (g : B → C) (xs : List A) → map g (map f xs) ≡ map (λ x. g (f x)) xs
map_map f g [] = refl
map_map f g (x ∷ xs) = ap (λ l. g (f x) ∷ l) (map_map f g xs)

pub past_stops : {A B : Type 0} (source : A → B) (name : B → Name) (what : List ℕ) (most : ℕ) (xs : List A) (d : A) (stop : Stop TypeFault)
    → most < length xs → d ≡ get_or xs most d
    → StopsWith {A = Unit {0}} (Stops (TooMany what (length xs) (name (source d)).line)) stop → StopsWith (few_checked what most (map name (map source xs))) stop
past_stops source name what most xs d stop h e k =
    subst (λ o. StopsWith o stop) (sym (past_is (λ x. name (source x)) what most xs d h e) ∙ ap (few_checked what most) (sym (map_map source name xs))) k

-- ---- from type to type

type_step : (p : Source) (types cons next : List (List ℕ)) (t : DataType) (ts : List DataType) → type_checked p types cons t ≡ Goes tt
    → next ≡ cons ++ words (con_names t)
    → each_type_checked p (types ++ t.name.word ∷ []) next ts ≡ each_type_checked p types cons (t ∷ ts)
unfolding each_type_checked
type_step p types cons next t ts h e =
    ap (λ l. each_type_checked p (types ++ t.name.word ∷ []) l ts) e ∙ sym (ap (λ o. and_then o (λ u. each_type_checked p (types ++ t.name.word ∷ []) (cons ++ words (con_names t)) ts)) h)

-- the names of the types so far, with one more
names_more : (xs : List TypeDecl) (i : ℕ) (d : TypeDecl) → i < length xs → d ≡ get_or xs i d
    → map (λ t. t.name.word) (map data_type_of (take (suc i) xs)) ≡ map (λ t. t.name.word) (map data_type_of (take i xs)) ++ d.name.word ∷ []
names_more xs i d h e =
    let front : take (suc i) xs ≡ take i xs ++ d ∷ [] = take-suc xs i d h ∙ ap (λ x. take i xs ++ x ∷ []) (sym e) in
    ap (λ l. map {B = List ℕ} (λ t. t.name.word) (map data_type_of l)) front ∙ ap (map {B = List ℕ} (λ t. t.name.word)) (map-append data_type_of (take i xs) (d ∷ [])) ∙ map-append (λ t. t.name.word) (map data_type_of (take i xs)) (data_type_of d ∷ [])

types_left : (xs : List TypeDecl) (i : ℕ) (d : TypeDecl) → i < length xs → d ≡ get_or xs i d
    → map data_type_of (drop i xs) ≡ data_type_of d ∷ map data_type_of (drop (suc i) xs)
types_left xs i d h e = ap (map data_type_of) (drop-cons xs i d h ∙ ap (λ x. x ∷ drop (suc i) xs) (sym e))

-- one more type is checked
pub types_more : (p : Source) (xs : List TypeDecl) (i : ℕ) (d : TypeDecl) (cons next : List (List ℕ)) (whole : Walked (Unit {0})) → i < length xs
    → d ≡ get_or xs i d
    → type_checked p (map (λ t. t.name.word) (map data_type_of (take i xs))) cons (data_type_of d) ≡ Goes tt → next ≡ cons ++ words (con_names (data_type_of d))
    → each_type_checked p (map (λ t. t.name.word) (map data_type_of (take i xs))) cons (map data_type_of (drop i xs)) ≡ whole
    → each_type_checked p (map (λ t. t.name.word) (map data_type_of (take (i + 1) xs))) next (map data_type_of (drop (i + 1) xs)) ≡ whole
types_more p xs i d cons next whole h e k n w =
    let s : suc i ≡ i + 1 = omega arith in
    let types : List (List ℕ) = map (λ t. t.name.word) (map data_type_of (take i xs)) in
    subst (λ j. each_type_checked p (map (λ t. t.name.word) (map data_type_of (take j xs))) next (map data_type_of (drop j xs)) ≡ whole) s
    (ap (λ l. each_type_checked p l next (map data_type_of (drop (suc i) xs))) (names_more xs i d h e) ∙ type_step p types cons next (data_type_of d) (map data_type_of (drop (suc i) xs)) k n
    ∙ ap (each_type_checked p types cons) (sym (types_left xs i d h e)) ∙ w)

-- the names of constructors so far and those that are left
pub con_names_more : (xs : List TypeDecl) (i : ℕ) (d : TypeDecl) (cons next whole : List (List ℕ)) → i < length xs → d ≡ get_or xs i d
    → next ≡ cons ++ words (con_names (data_type_of d))
    → cons ++ map (λ c. c.name.word) (flat_map (λ t. t.cons) (map data_type_of (drop i xs))) ≡ whole
    → next ++ map (λ c. c.name.word) (flat_map (λ t. t.cons) (map data_type_of (drop (i + 1) xs))) ≡ whole
con_names_more xs i d cons next whole h e n w =
    let s : suc i ≡ i + 1 = omega arith in
    let own : List Constructor = (data_type_of d).cons in
    let rest : List Constructor = flat_map (λ t. t.cons) (map data_type_of (drop (suc i) xs)) in
    subst (λ j. next ++ map (λ c. c.name.word) (flat_map (λ t. t.cons) (map data_type_of (drop j xs))) ≡ whole) s
    (ap (λ l. l ++ map {B = List ℕ} (λ c. c.name.word) rest) (n ∙ ap (λ l. cons ++ l) (words_of (λ c. c.name) own)) ∙ append_assoc cons (map (λ c. c.name.word) own) (map (λ c. c.name.word) rest)
    ∙ ap (λ l. cons ++ l) (sym (map-append (λ c. c.name.word) own rest)) ∙ ap (λ l. cons ++ map {B = List ℕ} (λ c. c.name.word) (flat_map (λ t. t.cons) l)) (sym (types_left xs i d h e)) ∙ w)
