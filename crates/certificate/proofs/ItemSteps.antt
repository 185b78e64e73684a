-- Steps of the readers of locals, blocks and builds.
use Rattle.std.proofs.Common.{◌≡◌, ℕ, suc, ◌-◌, ◌^◌, ◌<◌, ◌≤◌, Bool, true, false, List, [], ◌∷◌, length, map, get_or, Option, Some, None, refl, sym, ap, ◌∙◌, subst, arith, inl, inr}
use Rattle.std.specs.Prelude.{◌⊎◌, ◌==◌, ◌&&◌, ◌||◌, not, nat_lt, codes}
use Rattle.std.specs.Option.{option_map}
use Rattle.std.specs.Str.{bytes_eq}
use Rattle.std.specs.List.{AllByRecursion}
use Rattle.std.proofs.lemmas.Bool.{cases_lt}
use Rattle.std.proofs.lemmas.Bool.Decides.{nat_tests}
use Rattle.annotations.specs.Vectors.{Vector}
use Rattle.certificate.specs.Certificates.{VarCert, BlockCert, MakeCert, VectorIsWithin, VarIsWithin, BlockIsWithin, MakeIsWithin}
use Rattle.certificate.specs.Reading.{is_three, vector_of, is_after, comes_behind, makes_on, var_of_words, block_of_words, make_of_words, IsRead, IsStopped, IsWide}
use Rattle.text_lines.specs.Cuts.{and_then, only_if, upto, from, words, further, capped, number_of}
use Rattle.certificate.specs.declared.stop.LineStop.{LineStop}
use Rattle.certificate.specs.declared.stop.LineStop.TheVariants as stop
use Rattle.text_lines.specs.OptionLaws.{then_is, only_is, map_is, and_both}
use Rattle.text_lines.specs.CutLaws.{words_cut, no_words}
use Rattle.certificate.proofs.Caps.{after_capped}
use Rattle.certificate.proofs.Pairs.{there, not_there, then_none, only_none, and_left, and_right}

-- a stop stays one where more is made of what is found
pub stop_map : {A B : Type 0} (g : A → B) (o : Option A) (P : A → Type 0) (Q : B → Type 0) (s : LineStop) → ((x : A) → Q (g x) → P x)
    → IsStopped o P s → IsStopped (option_map g o) Q s
stop_map g o P Q stop.Line h r = ap (option_map g) r
stop_map g o P Q stop.Number h r = record { x = g r.x; is = map_is g o r.x r.is; wide = λ q. r.wide (h r.x q) }
stop_map g o P Q stop.Memory h r = tt

-- the number that was read, where it is within this limit
pub exact : (n c limit : ℕ) → c ≡ capped n → c ≤ limit → limit < 2199023255552 → n ≡ c
exact n c limit e h k = omega (arith, e, h, k)

pub beyond : (n c limit : ℕ) → c ≡ capped n → limit < c → n ≤ limit → ⊥
beyond n c limit e h k = omega (arith, e, h, k)

-- ---- three words

pub three_none : (rest : List ℕ) → further rest ≡ [] → is_three (further rest) ≡ false
three_none rest e = ap is_three e

pub three_one : (rest a r : List ℕ) → further rest ≡ a ∷ further r → further r ≡ [] → is_three (further rest) ≡ false
three_one rest a r e f = ap is_three (e ∙ ap (λ l. a ∷ l) f)

pub three_two : (rest a r b s : List ℕ) → further rest ≡ a ∷ further r → further r ≡ b ∷ further s → further s ≡ [] → is_three (further rest) ≡ false
three_two rest a r b s e f g = ap is_three (e ∙ ap (λ l. a ∷ l) (f ∙ ap (λ l. b ∷ l) g))

pub three_all : (rest a r b s c t : List ℕ) → further rest ≡ a ∷ further r → further r ≡ b ∷ further s → further s ≡ c ∷ further t
    → (length t == 0) ≡ true → further rest ≡ a ∷ b ∷ c ∷ []
three_all rest a r b s c t e f g h = e ∙ ap (λ l. a ∷ l) (f ∙ ap (λ l. b ∷ l) (g ∙ ap (λ l. c ∷ l) (no_words t h)))

pub three_more : (rest a r b s c t : List ℕ) → further rest ≡ a ∷ further r → further r ≡ b ∷ further s → further s ≡ c ∷ further t
    → (length t == 0) ≡ false → is_three (further rest) ≡ false
three_more rest a r b s c t e f g h = ap is_three (e ∙ ap (λ l. a ∷ l) (f ∙ ap (λ l. b ∷ l) g)) ∙ some_words t h
  where
    four : (t : List ℕ) (ws : List (List ℕ)) → words t ≡ ws → is_three (a ∷ b ∷ c ∷ ws) ≡ false
    four t [] e = let f : upto 32 t ∷ further (from 32 t) ≡ [] = sym (words_cut t) ∙ e in absurd cc
    four t (w ∷ ws) e = refl

    some_words : (t : List ℕ) → (length t == 0) ≡ false → is_three (a ∷ b ∷ c ∷ further t) ≡ false
    some_words [] h = absurd cc
    some_words (x ∷ t) h = four t (words t) refl

-- ---- locals

pub var_none : (last : Option ℕ) (rest : List ℕ) → further rest ≡ [] → var_of_words last (further rest) ≡ None
unfolding var_of_words
var_none last rest e = ap (var_of_words last) e

pub var_no_number : (last : Option ℕ) (rest word : List ℕ) (ws : List (List ℕ)) → further rest ≡ word ∷ ws
    → None ≡ option_map capped (number_of word) → var_of_words last (further rest) ≡ None
unfolding var_of_words
var_no_number last rest word ws e f = ap (var_of_words last) e ∙ then_none (number_of word) (λ n. only_if (is_after last n) (option_map (λ v. record { var = n; vector = v }) (vector_of ws))) (not_there (number_of word) f)

var_by : (last : Option ℕ) (rest word : List ℕ) (ws : List (List ℕ)) (n : ℕ) → further rest ≡ word ∷ ws → number_of word ≡ Some n → var_of_words last (further rest) ≡ only_if (is_after last n) (option_map (λ v. record { var = n; vector = v }) (vector_of ws))
unfolding var_of_words
var_by last rest word ws n e f =
    ap (var_of_words last) e ∙ then_is (number_of word) (λ n. only_if (is_after last n) (option_map (λ v. record { var = n; vector = v }) (vector_of ws))) n (only_if (is_after last n) (option_map (λ v. record { var = n; vector = v }) (vector_of ws))) f refl

pub var_not_after : (last : Option ℕ) (rest word : List ℕ) (ws : List (List ℕ)) (c : ℕ) (r : Bool) → further rest ≡ word ∷ ws
    → Some c ≡ option_map capped (number_of word) → ((n : ℕ) → c ≡ capped n → r ≡ is_after last n) → r ≡ false
    → var_of_words last (further rest) ≡ None
var_not_after last rest word ws c r e f h t =
    let (n, n_is, c_is) = there (number_of word) c f in
    var_by last rest word ws n e n_is ∙ only_none (is_after last n) (option_map (λ v. record { var = n; vector = v }) (vector_of ws)) (sym (h n c_is) ∙ t)

-- the local where its number is in order
record VarThere (last : Option ℕ) (rest : List ℕ) (ws : List (List ℕ)) (c : ℕ) : Type 0 where
  n : ℕ
  shown : c ≡ capped n
  is : var_of_words last (further rest) ≡ option_map (λ v. record { var = n; vector = v }) (vector_of ws)

var_there : (last : Option ℕ) (rest word : List ℕ) (ws : List (List ℕ)) (c : ℕ) (r : Bool) → further rest ≡ word ∷ ws
    → Some c ≡ option_map capped (number_of word) → ((n : ℕ) → c ≡ capped n → r ≡ is_after last n) → r ≡ true → VarThere last rest ws c
var_there last rest word ws c r e f h t =
    let (n, n_is, c_is) = there (number_of word) c f in
    record { n = n; shown = c_is; is = var_by last rest word ws n e n_is ∙ only_is (is_after last n) (option_map (λ v. record { var = n; vector = v }) (vector_of ws)) (option_map (λ v. record { var = n; vector = v }) (vector_of ws)) (sym (h n c_is) ∙ t) refl }

pub var_stopped : (last : Option ℕ) (rest word : List ℕ) (ws : List (List ℕ)) (c : ℕ) (r : Bool) (s : LineStop) → further rest ≡ word ∷ ws
    → Some c ≡ option_map capped (number_of word) → ((n : ℕ) → c ≡ capped n → r ≡ is_after last n) → r ≡ true
    → IsStopped (vector_of ws) VectorIsWithin s → IsStopped (var_of_words last (further rest)) VarIsWithin s
var_stopped last rest word ws c r s e f h t k =
    let d = var_there last rest word ws c r e f h t in
    subst (λ o. IsStopped o VarIsWithin s) (sym d.is) (stop_map (λ v. record { var = d.n; vector = v }) (vector_of ws) VectorIsWithin VarIsWithin s (λ v w. w.vector) k)

pub var_wide : (last : Option ℕ) (rest word : List ℕ) (ws : List (List ℕ)) (c : ℕ) (r : Bool) (v : Vector) → further rest ≡ word ∷ ws
    → Some c ≡ option_map capped (number_of word) → ((n : ℕ) → c ≡ capped n → r ≡ is_after last n) → r ≡ true
    → IsRead (vector_of ws) VectorIsWithin v → 4294967295 < c → IsWide (var_of_words last (further rest)) VarIsWithin
var_wide last rest word ws c r v e f h t k wide =
    let d = var_there last rest word ws c r e f h t in
    record { x = record { var = d.n; vector = v }; is = d.is ∙ map_is (λ v. record { var = d.n; vector = v }) (vector_of ws) v k.is; wide = λ w. beyond d.n c 4294967295 d.shown wide w.var }

pub var_read : (last : Option ℕ) (rest word : List ℕ) (ws : List (List ℕ)) (c : ℕ) (r : Bool) (v : Vector) → further rest ≡ word ∷ ws
    → Some c ≡ option_map capped (number_of word) → ((n : ℕ) → c ≡ capped n → r ≡ is_after last n) → r ≡ true
    → IsRead (vector_of ws) VectorIsWithin v → c ≤ 4294967295 → IsRead (var_of_words last (further rest)) VarIsWithin (record { var = c; vector = v })
var_read last rest word ws c r v e f h t k low =
    let d = var_there last rest word ws c r e f h t in
    let n_is : d.n ≡ c = exact d.n c 4294967295 d.shown low (omega arith) in
    record { is = d.is ∙ map_is (λ v. record { var = d.n; vector = v }) (vector_of ws) v k.is ∙ ap (λ n. Some (record { var = n; vector = v })) n_is; fits = record { var = low; vector = k.fits } }

-- ---- blocks

abbrev bare_block : ℕ → ℕ → BlockCert
bare_block block need = record { block = block; need = need; vars = [] }

pub block_none : (last : Option ℕ) (ws : List (List ℕ)) → is_three ws ≡ false → block_of_words last ws ≡ None
unfolding block_of_words
block_none last [] h = refl
block_none last (a ∷ []) h = refl
block_none last (a ∷ b ∷ []) h = refl
block_none last (a ∷ b ∷ c ∷ []) h = absurd cc
block_none last (a ∷ b ∷ c ∷ d ∷ ws) h = refl

pub block_no_number : (last : Option ℕ) (ws : List (List ℕ)) (a w b : List ℕ) → ws ≡ a ∷ w ∷ b ∷ [] → None ≡ option_map capped (number_of a)
    → block_of_words last ws ≡ None
unfolding block_of_words
block_no_number last ws a w b e f =
    ap (block_of_words last) e ∙ then_none (number_of a) (λ k. and_then (number_of b) (λ n. only_if (bytes_eq w (codes "need") && is_after last k) (Some (bare_block k n)))) (not_there (number_of a) f)

block_one : (last : Option ℕ) (ws : List (List ℕ)) (a w b : List ℕ) (k : ℕ) → ws ≡ a ∷ w ∷ b ∷ [] → number_of a ≡ Some k
    → block_of_words last ws ≡ and_then (number_of b) (λ n. only_if (bytes_eq w (codes "need") && is_after last k) (Some (bare_block k n)))
unfolding block_of_words
block_one last ws a w b k e f =
    ap (block_of_words last) e ∙ then_is (number_of a) (λ k. and_then (number_of b) (λ n. only_if (bytes_eq w (codes "need") && is_after last k) (Some (bare_block k n)))) k (and_then (number_of b) (λ n. only_if (bytes_eq w (codes "need") && is_after last k) (Some (bare_block k n)))) f refl

pub block_no_need : (last : Option ℕ) (ws : List (List ℕ)) (a w b : List ℕ) (c : ℕ) → ws ≡ a ∷ w ∷ b ∷ [] → Some c ≡ option_map capped (number_of a)
    → None ≡ option_map capped (number_of b) → block_of_words last ws ≡ None
block_no_need last ws a w b c e f g =
    let (k, k_is, c_is) = there (number_of a) c f in
    block_one last ws a w b k e k_is ∙ then_none (number_of b) (λ n. only_if (bytes_eq w (codes "need") && is_after last k) (Some (bare_block k n))) (not_there (number_of b) g)

-- both numbers
record BlockThere (last : Option ℕ) (ws : List (List ℕ)) (w : List ℕ) (c d : ℕ) : Type 0 where
  block : ℕ
  need : ℕ
  block_shown : c ≡ capped block
  need_shown : d ≡ capped need
  is : block_of_words last ws ≡ only_if (bytes_eq w (codes "need") && is_after last block) (Some (bare_block block need))

block_there : (last : Option ℕ) (ws : List (List ℕ)) (a w b : List ℕ) (c d : ℕ) → ws ≡ a ∷ w ∷ b ∷ [] → Some c ≡ option_map capped (number_of a)
    → Some d ≡ option_map capped (number_of b) → BlockThere last ws w c d
block_there last ws a w b c d e f g =
    let (k, k_is, c_is) = there (number_of a) c f in
    let (n, n_is, d_is) = there (number_of b) d g in
    record {
      block = k;
      need = n;
      block_shown = c_is;
      need_shown = d_is;
      is = block_one last ws a w b k e k_is ∙ then_is (number_of b) (λ n. only_if (bytes_eq w (codes "need") && is_after last k) (Some (bare_block k n))) n (only_if (bytes_eq w (codes "need") && is_after last k) (Some (bare_block k n))) n_is refl;
    }

pub block_tag : (last : Option ℕ) (ws : List (List ℕ)) (a w b : List ℕ) (c d : ℕ) → ws ≡ a ∷ w ∷ b ∷ [] → Some c ≡ option_map capped (number_of a)
    → Some d ≡ option_map capped (number_of b) → bytes_eq w (codes "need") ≡ false → block_of_words last ws ≡ None
block_tag last ws a w b c d e f g t =
    let r = block_there last ws a w b c d e f g in
    r.is ∙ only_none (bytes_eq w (codes "need") && is_after last r.block) (Some (bare_block r.block r.need)) (and_left (bytes_eq w (codes "need")) (is_after last r.block) t)

pub block_not_after : (last : Option ℕ) (ws : List (List ℕ)) (a w b : List ℕ) (c d : ℕ) (t : Bool) → ws ≡ a ∷ w ∷ b ∷ []
    → Some c ≡ option_map capped (number_of a) → Some d ≡ option_map capped (number_of b)
    → ((n : ℕ) → c ≡ capped n → t ≡ is_after last n) → t ≡ false → block_of_words last ws ≡ None
block_not_after last ws a w b c d t e f g h k =
    let r = block_there last ws a w b c d e f g in
    r.is ∙ only_none (bytes_eq w (codes "need") && is_after last r.block) (Some (bare_block r.block r.need)) (and_right (bytes_eq w (codes "need")) (is_after last r.block) (sym (h r.block r.block_shown) ∙ k))

block_found : (last : Option ℕ) (ws : List (List ℕ)) (w : List ℕ) (c d : ℕ) (t : Bool) (r : BlockThere last ws w c d)
    → bytes_eq w (codes "need") ≡ true → ((n : ℕ) → c ≡ capped n → t ≡ is_after last n) → t ≡ true
    → block_of_words last ws ≡ Some (bare_block r.block r.need)
block_found last ws w c d t r tag h k =
    r.is ∙ only_is (bytes_eq w (codes "need") && is_after last r.block) (Some (bare_block r.block r.need)) (Some (bare_block r.block r.need)) (and_both (bytes_eq w (codes "need")) (is_after last r.block) tag (sym (h r.block r.block_shown) ∙ k)) refl

pub block_wide : (last : Option ℕ) (ws : List (List ℕ)) (a w b : List ℕ) (c d : ℕ) (t : Bool) → ws ≡ a ∷ w ∷ b ∷ []
    → Some c ≡ option_map capped (number_of a) → Some d ≡ option_map capped (number_of b) → bytes_eq w (codes "need") ≡ true
    → ((n : ℕ) → c ≡ capped n → t ≡ is_after last n) → t ≡ true → 4294967295 < c → IsWide (block_of_words last ws) BlockIsWithin
block_wide last ws a w b c d t e f g tag h k wide =
    let r = block_there last ws a w b c d e f g in
    record { x = bare_block r.block r.need; is = block_found last ws w c d t r tag h k; wide = λ q. beyond r.block c 4294967295 r.block_shown wide q.block }

pub block_much : (last : Option ℕ) (ws : List (List ℕ)) (a w b : List ℕ) (c d : ℕ) (t : Bool) → ws ≡ a ∷ w ∷ b ∷ []
    → Some c ≡ option_map capped (number_of a) → Some d ≡ option_map capped (number_of b) → bytes_eq w (codes "need") ≡ true
    → ((n : ℕ) → c ≡ capped n → t ≡ is_after last n) → t ≡ true → 1099511627776 < d → IsWide (block_of_words last ws) BlockIsWithin
block_much last ws a w b c d t e f g tag h k much =
    let r = block_there last ws a w b c d e f g in
    record { x = bare_block r.block r.need; is = block_found last ws w c d t r tag h k; wide = λ q. beyond r.need d 1099511627776 r.need_shown much q.need }

pub block_read : (last : Option ℕ) (ws : List (List ℕ)) (a w b : List ℕ) (c d : ℕ) (t : Bool) (vs : List VarCert) → ws ≡ a ∷ w ∷ b ∷ []
    → Some c ≡ option_map capped (number_of a) → Some d ≡ option_map capped (number_of b) → bytes_eq w (codes "need") ≡ true
    → ((n : ℕ) → c ≡ capped n → t ≡ is_after last n) → t ≡ true → c ≤ 4294967295 → d ≤ 1099511627776 → vs ≡ [] → IsRead (block_of_words last ws) BlockIsWithin (record { block = c; need = d; vars = vs })
block_read last ws a w b c d t vs e f g tag h k low few none =
    let r = block_there last ws a w b c d e f g in
    let block_is : r.block ≡ c = exact r.block c 4294967295 r.block_shown low (omega arith) in
    let need_is : r.need ≡ d = exact r.need d 1099511627776 r.need_shown few (omega arith) in
    let vars : [] ≡ vs = sym none in
    record {
      is = block_found last ws w c d t r tag h k ∙ (λ i. Some (record { block = block_is i; need = need_is i; vars = vars i }));
      fits = record { block = low; need = few; vars = subst (AllByRecursion VarIsWithin) vars tt };
    }

-- ---- builds

pub make_none : (ms : List MakeCert) (rest : List ℕ) → further rest ≡ [] → make_of_words ms (further rest) ≡ None
unfolding make_of_words
make_none ms rest e = ap (make_of_words ms) e

pub make_one : (ms : List MakeCert) (rest a r : List ℕ) → further rest ≡ a ∷ further r → further r ≡ [] → make_of_words ms (further rest) ≡ None
unfolding make_of_words
make_one ms rest a r e f = ap (make_of_words ms) (e ∙ ap (λ l. a ∷ l) f)

make_by : (ms : List MakeCert) (rest a r b : List ℕ) (ws : List (List ℕ)) → further rest ≡ a ∷ further r → further r ≡ b ∷ ws
    → make_of_words ms (further rest) ≡ and_then (number_of a) (λ block. and_then (number_of b) (λ place. only_if (makes_on ms block place) (option_map (λ v. record { block = block; place = place; vector = v }) (vector_of ws))))
unfolding make_of_words
make_by ms rest a r b ws e f = ap (make_of_words ms) (e ∙ ap (λ l. a ∷ l) f)

pub make_no_block : (ms : List MakeCert) (rest a r b : List ℕ) (ws : List (List ℕ)) → further rest ≡ a ∷ further r → further r ≡ b ∷ ws
    → None ≡ option_map capped (number_of a) → make_of_words ms (further rest) ≡ None
make_no_block ms rest a r b ws e f g =
    make_by ms rest a r b ws e f ∙ then_none (number_of a) (λ block. and_then (number_of b) (λ place. only_if (makes_on ms block place) (option_map (λ v. record { block = block; place = place; vector = v }) (vector_of ws)))) (not_there (number_of a) g)

make_first : (ms : List MakeCert) (rest a r b : List ℕ) (ws : List (List ℕ)) (n : ℕ) → further rest ≡ a ∷ further r → further r ≡ b ∷ ws → number_of a ≡ Some n
    → make_of_words ms (further rest) ≡ and_then (number_of b) (λ place. only_if (makes_on ms n place) (option_map (λ v. record { block = n; place = place; vector = v }) (vector_of ws)))
make_first ms rest a r b ws n e f g =
    make_by ms rest a r b ws e f ∙ then_is (number_of a) (λ block. and_then (number_of b) (λ place. only_if (makes_on ms block place) (option_map (λ v. record { block = block; place = place; vector = v }) (vector_of ws)))) n
    (and_then (number_of b) (λ place. only_if (makes_on ms n place) (option_map (λ v. record { block = n; place = place; vector = v }) (vector_of ws)))) g refl

pub make_no_place : (ms : List MakeCert) (rest a r b : List ℕ) (ws : List (List ℕ)) (c : ℕ) → further rest ≡ a ∷ further r → further r ≡ b ∷ ws
    → Some c ≡ option_map capped (number_of a) → None ≡ option_map capped (number_of b) → make_of_words ms (further rest) ≡ None
make_no_place ms rest a r b ws c e f g h =
    let (n, n_is, c_is) = there (number_of a) c g in
    make_first ms rest a r b ws n e f n_is ∙ then_none (number_of b) (λ place. only_if (makes_on ms n place) (option_map (λ v. record { block = n; place = place; vector = v }) (vector_of ws))) (not_there (number_of b) h)

-- both numbers
record MakeThere (ms : List MakeCert) (rest : List ℕ) (ws : List (List ℕ)) (c d : ℕ) : Type 0 where
  block : ℕ
  place : ℕ
  block_shown : c ≡ capped block
  place_shown : d ≡ capped place
  is : make_of_words ms (further rest) ≡ only_if (makes_on ms block place) (option_map (λ v. record { block = block; place = place; vector = v }) (vector_of ws))

make_there : (ms : List MakeCert) (rest a r b : List ℕ) (ws : List (List ℕ)) (c d : ℕ) → further rest ≡ a ∷ further r → further r ≡ b ∷ ws
    → Some c ≡ option_map capped (number_of a) → Some d ≡ option_map capped (number_of b) → MakeThere ms rest ws c d
make_there ms rest a r b ws c d e f g h =
    let (n, n_is, c_is) = there (number_of a) c g in
    let (p, p_is, d_is) = there (number_of b) d h in
    record {
      block = n;
      place = p;
      block_shown = c_is;
      place_shown = d_is;
      is = make_first ms rest a r b ws n e f n_is ∙ then_is (number_of b) (λ place. only_if (makes_on ms n place) (option_map (λ v. record { block = n; place = place; vector = v }) (vector_of ws))) p
          (only_if (makes_on ms n p) (option_map (λ v. record { block = n; place = p; vector = v }) (vector_of ws))) p_is refl;
    }

pub make_not_on : (ms : List MakeCert) (rest a r b : List ℕ) (ws : List (List ℕ)) (c d : ℕ) (t : Bool) → further rest ≡ a ∷ further r
    → further r ≡ b ∷ ws → Some c ≡ option_map capped (number_of a) → Some d ≡ option_map capped (number_of b)
    → ((n p : ℕ) → c ≡ capped n → d ≡ capped p → t ≡ makes_on ms n p) → t ≡ false → make_of_words ms (further rest) ≡ None
make_not_on ms rest a r b ws c d t e f g h on k =
    let m = make_there ms rest a r b ws c d e f g h in
    m.is ∙ only_none (makes_on ms m.block m.place) (option_map (λ v. record { block = m.block; place = m.place; vector = v }) (vector_of ws)) (sym (on m.block m.place m.block_shown m.place_shown) ∙ k)

make_found : (ms : List MakeCert) (rest : List ℕ) (ws : List (List ℕ)) (c d : ℕ) (t : Bool) (m : MakeThere ms rest ws c d)
    → ((n p : ℕ) → c ≡ capped n → d ≡ capped p → t ≡ makes_on ms n p) → t ≡ true
    → make_of_words ms (further rest) ≡ option_map (λ v. record { block = m.block; place = m.place; vector = v }) (vector_of ws)
make_found ms rest ws c d t m on k =
    m.is ∙ only_is (makes_on ms m.block m.place) (option_map (λ v. record { block = m.block; place = m.place; vector = v }) (vector_of ws)) (option_map (λ v. record { block = m.block; place = m.place; vector = v }) (vector_of ws))
    (sym (on m.block m.place m.block_shown m.place_shown) ∙ k) refl

pub make_stopped : (ms : List MakeCert) (rest a r b : List ℕ) (ws : List (List ℕ)) (c d : ℕ) (t : Bool) (s : LineStop) → further rest ≡ a ∷ further r
    → further r ≡ b ∷ ws → Some c ≡ option_map capped (number_of a) → Some d ≡ option_map capped (number_of b)
    → ((n p : ℕ) → c ≡ capped n → d ≡ capped p → t ≡ makes_on ms n p) → t ≡ true → IsStopped (vector_of ws) VectorIsWithin s
    → IsStopped (make_of_words ms (further rest)) MakeIsWithin s
make_stopped ms rest a r b ws c d t s e f g h on k z =
    let m = make_there ms rest a r b ws c d e f g h in
    subst (λ o. IsStopped o MakeIsWithin s) (sym (make_found ms rest ws c d t m on k)) (stop_map (λ v. record { block = m.block; place = m.place; vector = v }) (vector_of ws) VectorIsWithin MakeIsWithin s (λ v w. w.vector) z)

pub make_wide : (ms : List MakeCert) (rest a r b : List ℕ) (ws : List (List ℕ)) (c d : ℕ) (t : Bool) (v : Vector) → further rest ≡ a ∷ further r
    → further r ≡ b ∷ ws → Some c ≡ option_map capped (number_of a) → Some d ≡ option_map capped (number_of b)
    → ((n p : ℕ) → c ≡ capped n → d ≡ capped p → t ≡ makes_on ms n p) → t ≡ true → IsRead (vector_of ws) VectorIsWithin v → 4294967295 < c
    → IsWide (make_of_words ms (further rest)) MakeIsWithin
make_wide ms rest a r b ws c d t v e f g h on k z wide =
    let m = make_there ms rest a r b ws c d e f g h in
    record {
      x = record { block = m.block; place = m.place; vector = v };
      is = make_found ms rest ws c d t m on k ∙ map_is (λ v. record { block = m.block; place = m.place; vector = v }) (vector_of ws) v z.is;
      wide = λ q. beyond m.block c 4294967295 m.block_shown wide q.block;
    }

pub make_far : (ms : List MakeCert) (rest a r b : List ℕ) (ws : List (List ℕ)) (c d : ℕ) (t : Bool) (v : Vector) → further rest ≡ a ∷ further r
    → further r ≡ b ∷ ws → Some c ≡ option_map capped (number_of a) → Some d ≡ option_map capped (number_of b)
    → ((n p : ℕ) → c ≡ capped n → d ≡ capped p → t ≡ makes_on ms n p) → t ≡ true → IsRead (vector_of ws) VectorIsWithin v → 4294967295 < d
    → IsWide (make_of_words ms (further rest)) MakeIsWithin
make_far ms rest a r b ws c d t v e f g h on k z wide =
    let m = make_there ms rest a r b ws c d e f g h in
    record {
      x = record { block = m.block; place = m.place; vector = v };
      is = make_found ms rest ws c d t m on k ∙ map_is (λ v. record { block = m.block; place = m.place; vector = v }) (vector_of ws) v z.is;
      wide = λ q. beyond m.place d 4294967295 m.place_shown wide q.place;
    }

pub make_read : (ms : List MakeCert) (rest a r b : List ℕ) (ws : List (List ℕ)) (c d : ℕ) (t : Bool) (v : Vector) → further rest ≡ a ∷ further r
    → further r ≡ b ∷ ws → Some c ≡ option_map capped (number_of a) → Some d ≡ option_map capped (number_of b)
    → ((n p : ℕ) → c ≡ capped n → d ≡ capped p → t ≡ makes_on ms n p) → t ≡ true → IsRead (vector_of ws) VectorIsWithin v → c ≤ 4294967295 → d ≤ 4294967295 → IsRead (make_of_words ms (further rest)) MakeIsWithin (record { block = c; place = d; vector = v })
make_read ms rest a r b ws c d t v e f g h on k z low near =
    let m = make_there ms rest a r b ws c d e f g h in
    let block_is : m.block ≡ c = exact m.block c 4294967295 m.block_shown low (omega arith) in
    let place_is : m.place ≡ d = exact m.place d 4294967295 m.place_shown near (omega arith) in
    record {
      is = make_found ms rest ws c d t m on k ∙ map_is (λ v. record { block = m.block; place = m.place; vector = v }) (vector_of ws) v z.is ∙ (λ i. Some (record { block = block_is i; place = place_is i; vector = v }));
      fits = record { block = low; place = near; vector = z.fits };
    }

-- ---- the last build

pub no_makes : {A : Type 0} (h : A → MakeCert) (xs : List A) (c d : ℕ) → length xs < 1 → (b p : ℕ) → c ≡ capped b → d ≡ capped p
    → true ≡ makes_on (map h xs) b p
no_makes h [] c d k b p e f = refl
no_makes h (x ∷ xs) c d k b p e f = absurd (omega (arith, k))

pub last_of_makes : {A : Type 0} (h : A → MakeCert) (xs : List A) (x : A) (block place : ℕ) → 1 ≤ length xs → x ≡ get_or xs (length xs - 1) x
    → makes_on (map h xs) block place ≡ comes_behind (h x).block (h x).place block place
last_of_makes h [] x block place k e = absurd (omega (arith, k))
last_of_makes h (y ∷ []) x block place k e = ap (λ z. comes_behind (h z).block (h z).place block place) (sym e)
last_of_makes h (y ∷ z ∷ xs) x block place k e = last_of_makes h (z ∷ xs) x block place (omega arith) (e ∙ ap (λ n. get_or (y ∷ z ∷ xs) n x) one ∙ ap (λ n. get_or (z ∷ xs) n x) two)
  where
    one : length (y ∷ z ∷ xs) - 1 ≡ suc (length xs)
    one = omega arith

    two : length xs ≡ length (z ∷ xs) - 1
    two = omega arith

pub behind_block : (x y c d : ℕ) → x < 2 ^ 32 → x < c → (b p : ℕ) → c ≡ capped b → d ≡ capped p → true ≡ comes_behind x y b p
behind_block x y c d h k b p e f = let t : true ≡ nat_lt x b = (let g : x < b = omega (arith, h, k, e) in grind (arith, nat_tests, g)) in ap (λ t. t || ((x == b) && nat_lt y p)) t

pub other_block : (x y c d : ℕ) → x < 2 ^ 32 → c ≤ x → (x ≡ c → ⊥) → (b p : ℕ) → c ≡ capped b → d ≡ capped p → false ≡ comes_behind x y b p
other_block x y c d h k n b p e f =
    let g : b < x = less (cases_lt c x) in
    let t : false ≡ nat_lt x b = grind (arith, nat_tests, g) in
    let s : false ≡ (x == b) = grind (arith, nat_tests, g) in
    ap (λ s. s && nat_lt y p) s ∙ ap (λ t. t || ((x == b) && nat_lt y p)) t
  where
    less : (c < x) ⊎ (x ≤ c) → b < x
    less (inl q) = omega (arith, q, e, h)
    less (inr q) = absurd (n (omega (arith, q, k)))

pub same_block : (x y c d : ℕ) → x < 2 ^ 32 → y < 2 ^ 32 → c ≤ x → x ≡ c → (b p : ℕ) → c ≡ capped b → d ≡ capped p → nat_lt y d ≡ comes_behind x y b p
same_block x y c d h k l n b p e f =
    let g : x ≡ b = omega (arith, n, e, h) in
    let t : false ≡ nat_lt x b = grind (arith, nat_tests, g) in
    let s : true ≡ (x == b) = grind (arith, nat_tests, g) in
    after_capped y d p k f ∙ ap (λ s. s && nat_lt y p) s ∙ ap (λ t. t || ((x == b) && nat_lt y p)) t

pub not_false : (b : Bool) → not b ≡ false → b ≡ true
not_false true h = refl
not_false false h = absurd cc
