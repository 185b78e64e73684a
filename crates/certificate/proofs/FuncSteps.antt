-- Steps of the reader of functions.
use Rattle.std.proofs.Common.{◌≡◌, ℕ, suc, ◌-◌, ◌<◌, ◌≤◌, Bool, true, false, List, [], ◌∷◌, ◌++◌, length, map, get_or, Option, Some, None, refl, sym, ap, ◌∙◌, subst, arith}
use Rattle.std.specs.Prelude.{◌==◌, ◌&&◌, codes, if◌then◌else◌}
use Rattle.std.specs.Option.{option_map}
use Rattle.std.specs.Str.{bytes_eq}
use Rattle.std.specs.List.{AllByRecursion}
use Rattle.std.proofs.lemmas.Bool.Decides.{nat_tests}
use Rattle.camelot_values.specs.Names.{is_lower_name}
use Rattle.annotations.specs.Vectors.{Vector}
use Rattle.certificate.specs.Certificates.{VarCert, BlockCert, MakeCert, FuncCert, VectorIsWithin, VarIsWithin, BlockIsWithin, MakeIsWithin, FuncIsWithin}
use Rattle.certificate.specs.Steps.{AreWithin}
use Rattle.certificate.specs.Reading.{is_three, is_five, is_none, only_params, last_of, last_var, last_block, at_last, vector_of, var_of_words, block_of_words, make_of_words, function_of_words, bare_func, put_behind, add_param, add_result, add_block, var_into, add_var, add_make, add_own, add_line, IsRead, IsStopped, IsWide, IsNoMemory}
use Rattle.text_lines.specs.Cuts.{and_then, only_if, words, further, capped, number_of}
use Rattle.certificate.specs.declared.stop.LineStop.{LineStop}
use Rattle.certificate.specs.declared.stop.LineStop.TheVariants as stop
use Rattle.text_lines.specs.OptionLaws.{then_is, only_is, map_is, and_both}
use Rattle.certificate.proofs.Pairs.{there, not_there, then_none, only_none, and_left, and_right}
use Rattle.certificate.specs.GrowingLaws.{all_end, all_front}
use Rattle.text_lines.specs.FrontLaws.{all_last}
use Rattle.certificate.specs.AddingLaws.{last_end}
use Rattle.certificate.proofs.ItemSteps.{stop_map, exact, beyond}

-- ---- what stands there

none_map : {A B : Type 0} (h : A → B) (xs : List A) (t : Bool) → (length xs == 0) ≡ t → is_none (map h xs) ≡ t
none_map h [] t e = e
none_map h (x ∷ xs) t e = (let f : false ≡ (suc (length xs) == 0) = grind (arith, nat_tests) in f) ∙ e

none_is : {A : Type 0} (xs : List A) (t : Bool) → (length xs == 0) ≡ t → is_none xs ≡ t
none_is [] t e = e
none_is (x ∷ xs) t e = (let f : false ≡ (suc (length xs) == 0) = grind (arith, nat_tests) in f) ∙ e

pub some_result : (r : Vector) (b m : Bool) → (length r == 0) ≡ false → false ≡ (is_none r && b && m)
some_result r b m h = sym (and_left (is_none r && b) m (and_left (is_none r) b (none_is r false h)))

pub some_blocks : {A : Type 0} (h : A → BlockCert) (r : Vector) (bs : List A) (m : Bool) → (length bs == 0) ≡ false
    → false ≡ (is_none r && is_none (map h bs) && m)
some_blocks h r bs m k = sym (and_left (is_none r && is_none (map h bs)) m (and_right (is_none r) (is_none (map h bs)) (none_map h bs false k)))

pub makes_left : {A B : Type 0} (h : A → BlockCert) (g : B → MakeCert) (r : Vector) (bs : List A) (ms : List B) (t : Bool) → (length r == 0) ≡ true
    → (length bs == 0) ≡ true → (length ms == 0) ≡ t → t ≡ (is_none r && is_none (map h bs) && is_none (map g ms))
makes_left h g r bs ms t j k l = sym (ap (λ x. x && is_none (map h bs) && is_none (map g ms)) (none_is r true j) ∙ ap (λ x. x && is_none (map g ms)) (none_map h bs true k) ∙ none_map g ms t l)

pub no_makes : {B : Type 0} (g : B → MakeCert) (ms : List B) (t : Bool) → t ≡ (length ms == 0) → t ≡ is_none (map g ms)
no_makes g ms t e = e ∙ sym (none_map g ms (length ms == 0) refl)

pub no_last : {A B : Type 0} (h : A → B) (f : B → ℕ) (xs : List A) → length xs < 1 → None ≡ last_of (map f (map h xs))
no_last h f [] k = refl
no_last h f (x ∷ xs) k = absurd (omega (arith, k))

pub last_is : {A B : Type 0} (h : A → B) (f : B → ℕ) (xs : List A) (x : A) → 1 ≤ length xs → x ≡ get_or xs (length xs - 1) x
    → Some (f (h x)) ≡ last_of (map f (map h xs))
last_is h f [] x k e = absurd (omega (arith, k))
last_is h f (y ∷ []) x k e = ap (λ z. Some (f (h z))) e
last_is h f (y ∷ z ∷ xs) x k e = last_is h f (z ∷ xs) x (omega arith) (e ∙ ap (λ n. get_or (y ∷ z ∷ xs) n x) one ∙ ap (λ n. get_or (z ∷ xs) n x) two)
  where
    one : length (y ∷ z ∷ xs) - 1 ≡ suc (length xs)
    one = omega arith

    two : length xs ≡ length (z ∷ xs) - 1
    two = omega arith

-- ---- parameters

pub param_not : (ws : List (List ℕ)) (f : FuncCert) → only_params f ≡ false → add_param ws f ≡ None
unfolding add_param
param_not ws f h = only_none (only_params f) (option_map (λ v. record f { params = f.params ++ v ∷ [] }) (var_of_words (last_var f.params) ws)) h

param_is : (ws : List (List ℕ)) (f : FuncCert) → only_params f ≡ true → add_param ws f ≡ option_map (λ v. record f { params = f.params ++ v ∷ [] }) (var_of_words (last_var f.params) ws)
unfolding add_param
param_is ws f h = ap (λ t. only_if t (option_map (λ v. record f { params = f.params ++ v ∷ [] }) (var_of_words (last_var f.params) ws))) h

pub param_stopped : (ws : List (List ℕ)) (f : FuncCert) (s : LineStop) → only_params f ≡ true
    → IsStopped (var_of_words (last_var f.params) ws) VarIsWithin s → IsStopped (add_param ws f) FuncIsWithin s
param_stopped ws f s h r =
    subst (λ o. IsStopped o FuncIsWithin s) (sym (param_is ws f h))
    (stop_map (λ v. record f { params = f.params ++ v ∷ [] }) (var_of_words (last_var f.params) ws) VarIsWithin FuncIsWithin s (λ v w. all_last VarIsWithin f.params v w.params) r)

pub param_read : (ws : List (List ℕ)) (f : FuncCert) (v : VarCert) (vs : List VarCert) → FuncIsWithin f → only_params f ≡ true → IsRead (var_of_words (last_var f.params) ws) VarIsWithin v → vs ≡ f.params ++ v ∷ [] → IsRead (add_param ws f) FuncIsWithin (record f { params = vs })
param_read ws f v vs w h r e = subst (λ l. IsRead (add_param ws f) FuncIsWithin (record f { params = l })) (sym e) (record {
  is = param_is ws f h ∙ map_is (λ v. record f { params = f.params ++ v ∷ [] }) (var_of_words (last_var f.params) ws) v r.is;
  fits = record { need = w.need; back = w.back; params = all_end VarIsWithin f.params v w.params r.fits; result = w.result; blocks = w.blocks; makes = w.makes };
})

-- ---- the result

pub result_not : (ws : List (List ℕ)) (f : FuncCert) → only_params f ≡ false → add_result ws f ≡ None
unfolding add_result
result_not ws f h = only_none (only_params f) (option_map (λ v. record f { result = v }) (vector_of ws)) h

result_is : (ws : List (List ℕ)) (f : FuncCert) → only_params f ≡ true → add_result ws f ≡ option_map (λ v. record f { result = v }) (vector_of ws)
unfolding add_result
result_is ws f h = ap (λ t. only_if t (option_map (λ v. record f { result = v }) (vector_of ws))) h

pub result_stopped : (ws : List (List ℕ)) (f : FuncCert) (s : LineStop) → only_params f ≡ true → IsStopped (vector_of ws) VectorIsWithin s
    → IsStopped (add_result ws f) FuncIsWithin s
result_stopped ws f s h r =
    subst (λ o. IsStopped o FuncIsWithin s) (sym (result_is ws f h)) (stop_map (λ v. record f { result = v }) (vector_of ws) VectorIsWithin FuncIsWithin s (λ v w. w.result) r)

pub result_read : (ws : List (List ℕ)) (f : FuncCert) (v : Vector) → FuncIsWithin f → only_params f ≡ true → IsRead (vector_of ws) VectorIsWithin v → IsRead (add_result ws f) FuncIsWithin (record f { result = v })
result_read ws f v w h r = record {
  is = result_is ws f h ∙ map_is (λ v. record f { result = v }) (vector_of ws) v r.is;
  fits = record { need = w.need; back = w.back; params = w.params; result = r.fits; blocks = w.blocks; makes = w.makes };
}

-- ---- blocks

makes_none : {B : Type 0} (g : B → MakeCert) (ms : List B) (all : List MakeCert) (t : Bool) → all ≡ map g ms → (length ms == 0) ≡ t → is_none all ≡ t
makes_none g ms all t e h = ap is_none e ∙ none_map g ms t h

pub block_not : (ws : List (List ℕ)) (f : FuncCert) → is_none f.makes ≡ false → add_block ws f ≡ None
unfolding add_block
block_not ws f h = only_none (is_none f.makes) (option_map (λ b. record f { blocks = f.blocks ++ b ∷ [] }) (block_of_words (last_block f.blocks) ws)) h

block_is : (ws : List (List ℕ)) (f : FuncCert) → is_none f.makes ≡ true → add_block ws f ≡ option_map (λ b. record f { blocks = f.blocks ++ b ∷ [] }) (block_of_words (last_block f.blocks) ws)
unfolding add_block
block_is ws f h = ap (λ t. only_if t (option_map (λ b. record f { blocks = f.blocks ++ b ∷ [] }) (block_of_words (last_block f.blocks) ws))) h

pub block_stopped : (ws : List (List ℕ)) (f : FuncCert) (s : LineStop) → is_none f.makes ≡ true
    → IsStopped (block_of_words (last_block f.blocks) ws) BlockIsWithin s → IsStopped (add_block ws f) FuncIsWithin s
block_stopped ws f s h r =
    subst (λ o. IsStopped o FuncIsWithin s) (sym (block_is ws f h))
    (stop_map (λ b. record f { blocks = f.blocks ++ b ∷ [] }) (block_of_words (last_block f.blocks) ws) BlockIsWithin FuncIsWithin s (λ b w. all_last BlockIsWithin f.blocks b w.blocks) r)

pub block_read : (ws : List (List ℕ)) (f : FuncCert) (b : BlockCert) (bs : List BlockCert) → FuncIsWithin f → is_none f.makes ≡ true
    → IsRead (block_of_words (last_block f.blocks) ws) BlockIsWithin b → bs ≡ f.blocks ++ b ∷ []
    → IsRead (add_block ws f) FuncIsWithin (record f { blocks = bs })
block_read ws f b bs w h r e = subst (λ l. IsRead (add_block ws f) FuncIsWithin (record f { blocks = l })) (sym e) (record {
  is = block_is ws f h ∙ map_is (λ b. record f { blocks = f.blocks ++ b ∷ [] }) (block_of_words (last_block f.blocks) ws) b r.is;
  fits = record { need = w.need; back = w.back; params = w.params; result = w.result; blocks = all_end BlockIsWithin f.blocks b w.blocks r.fits; makes = w.makes };
})

-- ---- locals of the last block

pub var_not : (ws : List (List ℕ)) (f : FuncCert) → is_none f.makes ≡ false → add_var ws f ≡ None
unfolding add_var
var_not ws f h = only_none (is_none f.makes) (option_map (λ bs. record f { blocks = bs }) (at_last (var_into ws) f.blocks)) h

var_is : (ws : List (List ℕ)) (f : FuncCert) → is_none f.makes ≡ true → add_var ws f ≡ option_map (λ bs. record f { blocks = bs }) (at_last (var_into ws) f.blocks)
unfolding add_var
var_is ws f h = ap (λ t. only_if t (option_map (λ bs. record f { blocks = bs }) (at_last (var_into ws) f.blocks))) h

pub var_no_block : (ws : List (List ℕ)) (f : FuncCert) → is_none f.makes ≡ true → f.blocks ≡ [] → add_var ws f ≡ None
var_no_block ws f h e = var_is ws f h ∙ ap (option_map (λ bs. record f { blocks = bs })) (ap (at_last (var_into ws)) e)

-- a change of the last of these
pub at_end : {A : Type 0} (step : A → Option A) (xs : List A) (x : A) → at_last step (xs ++ x ∷ []) ≡ option_map (λ y. xs ++ y ∷ []) (step x)
at_end step [] x = refl
at_end step (y ∷ []) x = map_twice (λ z. z ∷ []) (λ zs. y ∷ zs) (step x)
  where
    map_twice : {A B C : Type 0} (f : A → B) (g : B → C) (o : Option A) → option_map g (option_map f o) ≡ option_map (λ z. g (f z)) o
    map_twice f g None = refl
    map_twice f g (Some z) = refl
at_end step (y ∷ z ∷ xs) x = ap (option_map (λ zs. y ∷ zs)) (at_end step (z ∷ xs) x) ∙ map_twice (λ w. z ∷ (xs ++ w ∷ [])) (λ zs. y ∷ zs) (step x)
  where
    map_twice : {A B C : Type 0} (f : A → B) (g : B → C) (o : Option A) → option_map g (option_map f o) ≡ option_map (λ z. g (f z)) o
    map_twice f g None = refl
    map_twice f g (Some z) = refl

into_is : (ws : List (List ℕ)) (b : BlockCert) → var_into ws b ≡ option_map (λ v. record b { vars = b.vars ++ v ∷ [] }) (var_of_words (last_var b.vars) ws)
unfolding var_into
into_is ws b = refl

pub var_stopped : (ws : List (List ℕ)) (f : FuncCert) (front : List BlockCert) (b : BlockCert) (s : LineStop) → is_none f.makes ≡ true
    → f.blocks ≡ front ++ b ∷ [] → IsStopped (var_of_words (last_var b.vars) ws) VarIsWithin s → IsStopped (add_var ws f) FuncIsWithin s
var_stopped ws f front b s h e r =
    subst (λ o. IsStopped o FuncIsWithin s) (sym (var_is ws f h ∙ ap (λ l. option_map (λ bs. record f { blocks = bs }) (at_last (var_into ws) l)) e ∙ ap (option_map (λ bs. record f { blocks = bs })) (at_end (var_into ws) front b ∙ ap (option_map (λ c. front ++ c ∷ [])) (into_is ws b))))
    (stop_map (λ bs. record f { blocks = bs }) (option_map (λ c. front ++ c ∷ []) (option_map (λ v. record b { vars = b.vars ++ v ∷ [] }) (var_of_words (last_var b.vars) ws))) (AllByRecursion BlockIsWithin) FuncIsWithin s (λ bs w. w.blocks)
    (stop_map (λ c. front ++ c ∷ []) (option_map (λ v. record b { vars = b.vars ++ v ∷ [] }) (var_of_words (last_var b.vars) ws)) BlockIsWithin (AllByRecursion BlockIsWithin) s (λ c w. all_last BlockIsWithin front c w)
    (stop_map (λ v. record b { vars = b.vars ++ v ∷ [] }) (var_of_words (last_var b.vars) ws) VarIsWithin BlockIsWithin s (λ v w. all_last VarIsWithin b.vars v w.vars) r)))

pub var_read : (ws : List (List ℕ)) (f : FuncCert) (front : List BlockCert) (b : BlockCert) (v : VarCert) (vs : List VarCert) (bs : List BlockCert)
    → FuncIsWithin f → is_none f.makes ≡ true → f.blocks ≡ front ++ b ∷ [] → IsRead (var_of_words (last_var b.vars) ws) VarIsWithin v
    → vs ≡ b.vars ++ v ∷ [] → bs ≡ front ++ record b { vars = vs } ∷ [] → IsRead (add_var ws f) FuncIsWithin (record f { blocks = bs })
var_read ws f front b v vs bs w h e r g k =
    let c : BlockCert = record b { vars = b.vars ++ v ∷ [] } in
    let new : bs ≡ front ++ c ∷ [] = k ∙ ap (λ l. front ++ record b { vars = l } ∷ []) g in
    let into : var_into ws b ≡ Some c = into_is ws b ∙ map_is (λ v. record b { vars = b.vars ++ v ∷ [] }) (var_of_words (last_var b.vars) ws) v r.is in
    let old : AllByRecursion BlockIsWithin (front ++ b ∷ []) = subst (AllByRecursion BlockIsWithin) e w.blocks in
    let last : BlockIsWithin b = all_last BlockIsWithin front b old in
    let changed : BlockIsWithin c = record { block = last.block; need = last.need; vars = all_end VarIsWithin b.vars v last.vars r.fits } in
    subst (λ l. IsRead (add_var ws f) FuncIsWithin (record f { blocks = l })) (sym new) (record {
      is = var_is ws f h ∙ ap (λ l. option_map (λ bs. record f { blocks = bs }) (at_last (var_into ws) l)) e ∙ map_is (λ bs. record f { blocks = bs }) (at_last (var_into ws) (front ++ b ∷ [])) (front ++ c ∷ []) (last_end (var_into ws) front b c into);
      fits = record { need = w.need; back = w.back; params = w.params; result = w.result; blocks = all_end BlockIsWithin front c (all_front BlockIsWithin front b old) changed; makes = w.makes };
    })

-- ---- builds

make_is : (ws : List (List ℕ)) (f : FuncCert) → add_make ws f ≡ option_map (λ m. record f { makes = f.makes ++ m ∷ [] }) (make_of_words f.makes ws)
unfolding add_make
make_is ws f = refl

pub make_stopped : (ws : List (List ℕ)) (f : FuncCert) (s : LineStop) → IsStopped (make_of_words f.makes ws) MakeIsWithin s
    → IsStopped (add_make ws f) FuncIsWithin s
make_stopped ws f s r =
    subst (λ o. IsStopped o FuncIsWithin s) (sym (make_is ws f)) (stop_map (λ m. record f { makes = f.makes ++ m ∷ [] }) (make_of_words f.makes ws) MakeIsWithin FuncIsWithin s (λ m w. all_last MakeIsWithin f.makes m w.makes) r)

pub make_read : (ws : List (List ℕ)) (f : FuncCert) (m : MakeCert) (ms : List MakeCert) → FuncIsWithin f → IsRead (make_of_words f.makes ws) MakeIsWithin m → ms ≡ f.makes ++ m ∷ [] → IsRead (add_make ws f) FuncIsWithin (record f { makes = ms })
make_read ws f m ms w r e = subst (λ l. IsRead (add_make ws f) FuncIsWithin (record f { makes = l })) (sym e) (record {
  is = make_is ws f ∙ map_is (λ m. record f { makes = f.makes ++ m ∷ [] }) (make_of_words f.makes ws) m r.is;
  fits = record { need = w.need; back = w.back; params = w.params; result = w.result; blocks = w.blocks; makes = all_end MakeIsWithin f.makes m w.makes r.fits };
})

-- ---- which line it is

pub if_true : {A : Type 0} (b : Bool) (x y : A) → b ≡ true → (if b then x else y) ≡ x
if_true b x y e = ap (λ t. if t then x else y) e

pub if_false : {A : Type 0} (b : Bool) (x y : A) → b ≡ false → (if b then x else y) ≡ y
if_false b x y e = ap (λ t. if t then x else y) e

pub own_param : (tag : List ℕ) (ws : List (List ℕ)) (f : FuncCert) → bytes_eq tag (codes "param") ≡ true → add_own tag ws f ≡ add_param ws f
unfolding add_own
own_param tag ws f h = if_true (bytes_eq tag (codes "param")) (add_param ws f) _ h

pub own_result : (tag : List ℕ) (ws : List (List ℕ)) (f : FuncCert) → bytes_eq tag (codes "param") ≡ false → bytes_eq tag (codes "result") ≡ true
    → add_own tag ws f ≡ add_result ws f
unfolding add_own
own_result tag ws f p h = if_false (bytes_eq tag (codes "param")) (add_param ws f) _ p ∙ if_true (bytes_eq tag (codes "result")) (add_result ws f) _ h

pub own_block : (tag : List ℕ) (ws : List (List ℕ)) (f : FuncCert) → bytes_eq tag (codes "param") ≡ false → bytes_eq tag (codes "result") ≡ false
    → bytes_eq tag (codes "block") ≡ true → add_own tag ws f ≡ add_block ws f
unfolding add_own
own_block tag ws f p r h = if_false (bytes_eq tag (codes "param")) (add_param ws f) _ p ∙ if_false (bytes_eq tag (codes "result")) (add_result ws f) _ r ∙ if_true (bytes_eq tag (codes "block")) (add_block ws f) _ h

pub own_var : (tag : List ℕ) (ws : List (List ℕ)) (f : FuncCert) → bytes_eq tag (codes "param") ≡ false → bytes_eq tag (codes "result") ≡ false
    → bytes_eq tag (codes "block") ≡ false → bytes_eq tag (codes "var") ≡ true → add_own tag ws f ≡ add_var ws f
unfolding add_own
own_var tag ws f p r b h =
    if_false (bytes_eq tag (codes "param")) (add_param ws f) _ p ∙ if_false (bytes_eq tag (codes "result")) (add_result ws f) _ r ∙ if_false (bytes_eq tag (codes "block")) (add_block ws f) _ b ∙ if_true (bytes_eq tag (codes "var")) (add_var ws f) _ h

pub own_make : (tag : List ℕ) (ws : List (List ℕ)) (f : FuncCert) → bytes_eq tag (codes "param") ≡ false → bytes_eq tag (codes "result") ≡ false
    → bytes_eq tag (codes "block") ≡ false → bytes_eq tag (codes "var") ≡ false → bytes_eq tag (codes "make") ≡ true
    → add_own tag ws f ≡ add_make ws f
unfolding add_own
own_make tag ws f p r b v h =
    if_false (bytes_eq tag (codes "param")) (add_param ws f) _ p ∙ if_false (bytes_eq tag (codes "result")) (add_result ws f) _ r ∙ if_false (bytes_eq tag (codes "block")) (add_block ws f) _ b ∙ if_false (bytes_eq tag (codes "var")) (add_var ws f) _ v
    ∙ if_true (bytes_eq tag (codes "make")) (add_make ws f) None h

pub own_none : (tag : List ℕ) (ws : List (List ℕ)) (f : FuncCert) → bytes_eq tag (codes "param") ≡ false → bytes_eq tag (codes "result") ≡ false
    → bytes_eq tag (codes "block") ≡ false → bytes_eq tag (codes "var") ≡ false → bytes_eq tag (codes "make") ≡ false → add_own tag ws f ≡ None
unfolding add_own
own_none tag ws f p r b v h =
    if_false (bytes_eq tag (codes "param")) (add_param ws f) _ p ∙ if_false (bytes_eq tag (codes "result")) (add_result ws f) _ r ∙ if_false (bytes_eq tag (codes "block")) (add_block ws f) _ b ∙ if_false (bytes_eq tag (codes "var")) (add_var ws f) _ v
    ∙ if_false (bytes_eq tag (codes "make")) (add_make ws f) None h

-- ---- functions

pub five_none : (rest : List ℕ) → further rest ≡ [] → is_five (further rest) ≡ false
five_none rest e = ap is_five e

pub five_one : (rest a r : List ℕ) → further rest ≡ a ∷ further r → further r ≡ [] → is_five (further rest) ≡ false
five_one rest a r e f = ap is_five (e ∙ ap (λ l. a ∷ l) f)

pub five_less : (rest a r b s : List ℕ) → further rest ≡ a ∷ further r → further r ≡ b ∷ further s → is_three (further s) ≡ false
    → is_five (further rest) ≡ false
five_less rest a r b s e f h = ap is_five (e ∙ ap (λ l. a ∷ l) f) ∙ h

pub five_all : (rest a r b s x y z : List ℕ) → further rest ≡ a ∷ further r → further r ≡ b ∷ further s → further s ≡ x ∷ y ∷ z ∷ []
    → further rest ≡ a ∷ b ∷ x ∷ y ∷ z ∷ []
five_all rest a r b s x y z e f h = e ∙ ap (λ l. a ∷ l) (f ∙ ap (λ l. b ∷ l) h)

pub function_none : (ws : List (List ℕ)) → is_five ws ≡ false → function_of_words ws ≡ None
unfolding function_of_words
function_none [] h = refl
function_none (a ∷ []) h = refl
function_none (a ∷ b ∷ []) h = refl
function_none (a ∷ b ∷ c ∷ []) h = refl
function_none (a ∷ b ∷ c ∷ d ∷ []) h = refl
function_none (a ∷ b ∷ c ∷ d ∷ e ∷ []) h = absurd cc
function_none (a ∷ b ∷ c ∷ d ∷ e ∷ f ∷ ws) h = refl

-- the five words
abbrev function_test : List ℕ → List ℕ → List ℕ → Bool
function_test name w v = is_lower_name name && bytes_eq w (codes "need") && bytes_eq v (codes "back")

pub function_no_need : (ws : List (List ℕ)) (name w n v b : List ℕ) → ws ≡ name ∷ w ∷ n ∷ v ∷ b ∷ [] → None ≡ option_map capped (number_of n)
    → function_of_words ws ≡ None
unfolding function_of_words
function_no_need ws name w n v b e f =
    ap function_of_words e ∙ then_none (number_of n) (λ need. and_then (number_of b) (λ back. only_if (function_test name w v) (Some (bare_func name need back)))) (not_there (number_of n) f)

function_one : (ws : List (List ℕ)) (name w n v b : List ℕ) (need : ℕ) → ws ≡ name ∷ w ∷ n ∷ v ∷ b ∷ [] → number_of n ≡ Some need
    → function_of_words ws ≡ and_then (number_of b) (λ back. only_if (function_test name w v) (Some (bare_func name need back)))
unfolding function_of_words
function_one ws name w n v b need e f =
    ap function_of_words e ∙ then_is (number_of n) (λ need. and_then (number_of b) (λ back. only_if (function_test name w v) (Some (bare_func name need back)))) need
    (and_then (number_of b) (λ back. only_if (function_test name w v) (Some (bare_func name need back)))) f refl

pub function_no_back : (ws : List (List ℕ)) (name w n v b : List ℕ) (c : ℕ) → ws ≡ name ∷ w ∷ n ∷ v ∷ b ∷ []
    → Some c ≡ option_map capped (number_of n) → None ≡ option_map capped (number_of b) → function_of_words ws ≡ None
function_no_back ws name w n v b c e f g =
    let (need, need_is, shown) = there (number_of n) c f in
    function_one ws name w n v b need e need_is ∙ then_none (number_of b) (λ back. only_if (function_test name w v) (Some (bare_func name need back))) (not_there (number_of b) g)

-- both numbers
pub record FunctionThere (ws : List (List ℕ)) (name w v : List ℕ) (c d : ℕ) : Type 0 where
  pub need : ℕ
  pub back : ℕ
  pub need_shown : c ≡ capped need
  pub back_shown : d ≡ capped back
  pub is : function_of_words ws ≡ only_if (function_test name w v) (Some (bare_func name need back))

pub function_there : (ws : List (List ℕ)) (name w n v b : List ℕ) (c d : ℕ) → ws ≡ name ∷ w ∷ n ∷ v ∷ b ∷ []
    → Some c ≡ option_map capped (number_of n) → Some d ≡ option_map capped (number_of b) → FunctionThere ws name w v c d
function_there ws name w n v b c d e f g =
    let (need, need_is, need_shown) = there (number_of n) c f in
    let (back, back_is, back_shown) = there (number_of b) d g in
    record {
      need = need;
      back = back;
      need_shown = need_shown;
      back_shown = back_shown;
      is = function_one ws name w n v b need e need_is ∙ then_is (number_of b) (λ back. only_if (function_test name w v) (Some (bare_func name need back))) back (only_if (function_test name w v) (Some (bare_func name need back))) back_is refl;
    }

pub function_no_name : (ws : List (List ℕ)) (name w v : List ℕ) (c d : ℕ) → FunctionThere ws name w v c d → is_lower_name name ≡ false
    → function_of_words ws ≡ None
function_no_name ws name w v c d r h =
    r.is ∙ only_none (function_test name w v) (Some (bare_func name r.need r.back)) (and_left (is_lower_name name && bytes_eq w (codes "need")) (bytes_eq v (codes "back")) (and_left (is_lower_name name) (bytes_eq w (codes "need")) h))

pub function_no_first : (ws : List (List ℕ)) (name w v : List ℕ) (c d : ℕ) → FunctionThere ws name w v c d → bytes_eq w (codes "need") ≡ false
    → function_of_words ws ≡ None
function_no_first ws name w v c d r h =
    r.is ∙ only_none (function_test name w v) (Some (bare_func name r.need r.back)) (and_left (is_lower_name name && bytes_eq w (codes "need")) (bytes_eq v (codes "back")) (and_right (is_lower_name name) (bytes_eq w (codes "need")) h))

pub function_no_second : (ws : List (List ℕ)) (name w v : List ℕ) (c d : ℕ) → FunctionThere ws name w v c d → bytes_eq v (codes "back") ≡ false
    → function_of_words ws ≡ None
function_no_second ws name w v c d r h =
    r.is ∙ only_none (function_test name w v) (Some (bare_func name r.need r.back)) (and_right (is_lower_name name && bytes_eq w (codes "need")) (bytes_eq v (codes "back")) h)

function_tests : (name w v : List ℕ) → is_lower_name name ≡ true → bytes_eq w (codes "need") ≡ true → bytes_eq v (codes "back") ≡ true
    → function_test name w v ≡ true
function_tests name w v h j k = and_both (is_lower_name name && bytes_eq w (codes "need")) (bytes_eq v (codes "back")) (and_both (is_lower_name name) (bytes_eq w (codes "need")) h j) k

function_is : (ws : List (List ℕ)) (name w v : List ℕ) (c d : ℕ) (r : FunctionThere ws name w v c d) → function_test name w v ≡ true
    → function_of_words ws ≡ Some (bare_func name r.need r.back)
function_is ws name w v c d r h = r.is ∙ only_is (function_test name w v) (Some (bare_func name r.need r.back)) (Some (bare_func name r.need r.back)) h refl

pub function_much : (ws : List (List ℕ)) (name w v : List ℕ) (c d : ℕ) → FunctionThere ws name w v c d → is_lower_name name ≡ true
    → bytes_eq w (codes "need") ≡ true → bytes_eq v (codes "back") ≡ true → 1099511627776 < c → IsWide (function_of_words ws) FuncIsWithin
function_much ws name w v c d r h j k much = record { x = bare_func name r.need r.back; is = function_is ws name w v c d r (function_tests name w v h j k); wide = λ q. beyond r.need c 1099511627776 r.need_shown much q.need }

pub function_more : (ws : List (List ℕ)) (name w v : List ℕ) (c d : ℕ) → FunctionThere ws name w v c d → is_lower_name name ≡ true
    → bytes_eq w (codes "need") ≡ true → bytes_eq v (codes "back") ≡ true → 1099511627776 < d → IsWide (function_of_words ws) FuncIsWithin
function_more ws name w v c d r h j k more = record { x = bare_func name r.need r.back; is = function_is ws name w v c d r (function_tests name w v h j k); wide = λ q. beyond r.back d 1099511627776 r.back_shown more q.back }

pub function_read : (ws : List (List ℕ)) (name w v : List ℕ) (c d : ℕ) (f : FuncCert) → FunctionThere ws name w v c d → is_lower_name name ≡ true
    → bytes_eq w (codes "need") ≡ true → bytes_eq v (codes "back") ≡ true → c ≤ 1099511627776 → d ≤ 1099511627776
    → f ≡ bare_func name c d → IsRead (function_of_words ws) FuncIsWithin f
function_read ws name w v c d f r h j k much more e =
    let need_is : r.need ≡ c = exact r.need c 1099511627776 r.need_shown much (omega arith) in
    let back_is : r.back ≡ d = exact r.back d 1099511627776 r.back_shown more (omega arith) in
    subst (IsRead (function_of_words ws) FuncIsWithin) (sym e) (record {
      is = function_is ws name w v c d r (function_tests name w v h j k) ∙ ap (λ n. Some (bare_func name n r.back)) need_is ∙ ap (λ n. Some (bare_func name c n)) back_is;
      fits = record { need = much; back = more; params = tt; result = tt; blocks = tt; makes = tt };
    })

-- ---- all functions

pub behind_stopped : (fs : List FuncCert) (o : Option FuncCert) (s : LineStop) → IsStopped o FuncIsWithin s → IsStopped (put_behind fs o) AreWithin s
behind_stopped fs o s r = stop_map (λ f. fs ++ f ∷ []) o FuncIsWithin AreWithin s (λ f w. all_last FuncIsWithin fs f w) r

pub behind_read : (fs gs : List FuncCert) (o : Option FuncCert) (f : FuncCert) → AreWithin fs → IsRead o FuncIsWithin f → gs ≡ fs ++ f ∷ []
    → IsRead (put_behind fs o) AreWithin gs
behind_read fs gs o f w r e = subst (IsRead (put_behind fs o) AreWithin) (sym e) (record { is = map_is (λ f. fs ++ f ∷ []) o f r.is; fits = all_end FuncIsWithin fs f w r.fits })

pub last_none : (step : FuncCert → Option FuncCert) (fs : List FuncCert) → fs ≡ [] → at_last step fs ≡ None
last_none step fs e = ap (at_last step) e

pub last_stopped : (step : FuncCert → Option FuncCert) (fs front : List FuncCert) (f : FuncCert) (s : LineStop) → fs ≡ front ++ f ∷ []
    → IsStopped (step f) FuncIsWithin s → IsStopped (at_last step fs) AreWithin s
last_stopped step fs front f s e r = subst (λ o. IsStopped o AreWithin s) (sym (ap (at_last step) e ∙ at_end step front f)) (stop_map (λ g. front ++ g ∷ []) (step f) FuncIsWithin AreWithin s (λ g w. all_last FuncIsWithin front g w) r)

pub last_within : (fs front : List FuncCert) (f : FuncCert) → fs ≡ front ++ f ∷ [] → AreWithin fs → FuncIsWithin f
last_within fs front f e w = all_last FuncIsWithin front f (subst AreWithin e w)

pub last_read : (step : FuncCert → Option FuncCert) (fs gs front : List FuncCert) (f g : FuncCert) → fs ≡ front ++ f ∷ [] → AreWithin fs
    → IsRead (step f) FuncIsWithin g → gs ≡ front ++ g ∷ [] → IsRead (at_last step fs) AreWithin gs
last_read step fs gs front f g e w r k = subst (IsRead (at_last step fs) AreWithin) (sym k) (record {
  is = ap (at_last step) e ∙ last_end step front f g r.is;
  fits = all_end FuncIsWithin front g (all_front FuncIsWithin front f (subst AreWithin e w)) r.fits;
})

-- ---- a line

pub line_function : (line tag : List ℕ) (ws : List (List ℕ)) (fs : List FuncCert) → words line ≡ tag ∷ ws → bytes_eq tag (codes "function") ≡ true
    → add_line (words line) fs ≡ put_behind fs (function_of_words ws)
unfolding add_line
line_function line tag ws fs e h = ap (λ l. add_line l fs) e ∙ if_true (bytes_eq tag (codes "function")) (put_behind fs (function_of_words ws)) (at_last (add_own tag ws) fs) h

pub line_own : (line tag : List ℕ) (ws : List (List ℕ)) (fs : List FuncCert) → words line ≡ tag ∷ ws → bytes_eq tag (codes "function") ≡ false
    → add_line (words line) fs ≡ at_last (add_own tag ws) fs
unfolding add_line
line_own line tag ws fs e h = ap (λ l. add_line l fs) e ∙ if_false (bytes_eq tag (codes "function")) (put_behind fs (function_of_words ws)) (at_last (add_own tag ws) fs) h

pub no_memory : (s : LineStop) (o : Option FuncCert) → IsNoMemory s → IsStopped o FuncIsWithin s
no_memory stop.Line o h = absurd h
no_memory stop.Number o h = absurd h
no_memory stop.Memory o h = tt
