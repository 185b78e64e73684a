-- Laws, for the proofs of this crate and of those above it.
-- The lines of a certificate: no line feed stands in one, and their words have no space.
use Rattle.std.proofs.Common.{◌≡◌, ℕ, Bool, true, false, List, [], ◌∷◌, ◌++◌, map, refl, sym, ap, ◌∙◌, subst, arith, inl, inr}
use Rattle.std.specs.Prelude.{◌⊎◌, ◌==◌, ◌&&◌, ◌||◌, codes, flat_map}
use Rattle.std.specs.List.{AllByRecursion, list_all}
use Rattle.std.proofs.lemmas.Bool.Decides.{nat_tests}
use Rattle.std.proofs.lemmas.List.{map-append, append_cancel_right}
use Rattle.camelot_values.specs.Names.{IsLowerName, is_lower, is_upper, is_digit, is_tail, has_form}
use Rattle.annotations.specs.Vectors.{Vector}
use Rattle.text_lines.specs.Numbers.{number}
use Rattle.certificate.specs.Text.{pair_word, vector_words, param_words, result_lines, var_words, block_lines, make_words, func_lines, first_words, unit_words, open_lines, last_words, lines_of}
use Rattle.text_lines.specs.Cuts.{spaced, words}
use Rattle.certificate.specs.Certificates.{VarCert, BlockCert, MakeCert, FuncCert, Cert, FuncIsFormed, IsFormed}
use Rattle.text_lines.specs.OptionLaws.{and_parts, true_false, same_cons}
use Rattle.text_lines.specs.Lines.{Free}
use Rattle.text_lines.specs.CutLaws.{free_cons, free_append, words_spaced}
use Rattle.text_lines.specs.NumberLaws.{number_free, number_one}
use Rattle.certificate.specs.AddingLaws.{Next, next_line, funcs_one}
use Rattle.text_lines.specs.FrontLaws.{all_append}

-- ---- bytes of words

-- no space and no line feed
pub record Clean (w : List ℕ) : Type 0 where
  pub space : Free 32 w
  pub feed : Free 10 w

number_clean : (n : ℕ) → Clean (number n)
number_clean n = record { space = number_free 32 n refl; feed = number_free 10 n refl }

pair_clean : (p : ℕ × ℕ) → Clean (pair_word p)
pair_clean p = record {
  space = free_append 32 (number p.0) (61 ∷ number p.1) (number_free 32 p.0 refl) (free_cons 32 61 (number p.1) refl (number_free 32 p.1 refl));
  feed = free_append 10 (number p.0) (61 ∷ number p.1) (number_free 10 p.0 refl) (free_cons 10 61 (number p.1) refl (number_free 10 p.1 refl));
}

tail_not : (byte b : ℕ) → is_tail byte ≡ false → is_tail b ≡ true → (b == byte) ≡ false
tail_not byte b h k = by_test (b == byte) refl
  where
    by_test : (t : Bool) → (b == byte) ≡ t → t ≡ false
    by_test true e = absurd (true_false (is_tail byte) (ap is_tail (sym (let s : b ≡ byte = grind (arith, nat_tests, e) in s)) ∙ k) h)
    by_test false e = refl

tails_free : (byte : ℕ) (bs : List ℕ) → is_tail byte ≡ false → list_all is_tail bs ≡ true → Free byte bs
tails_free byte [] h k = refl
tails_free byte (b ∷ bs) h k = let p = and_parts (is_tail b) (list_all is_tail bs) k in free_cons byte b bs (tail_not byte b h p.0) (tails_free byte bs h p.1)

lower_tail : (b : ℕ) → is_lower b ≡ true → is_tail b ≡ true
lower_tail b h = ap (λ t. t || is_upper b || is_digit b || (b == 95)) h

name_tails : (name : List ℕ) → has_form is_lower name ≡ true → list_all is_tail name ≡ true
name_tails [] h = refl
name_tails (b ∷ bs) h = let p = and_parts (is_lower b) (list_all is_tail bs) h in both (is_tail b) (list_all is_tail bs) (lower_tail b p.0) p.1
  where
    both : (a b : Bool) → a ≡ true → b ≡ true → (a && b) ≡ true
    both true b h k = k
    both false b h k = absurd cc

name_clean : (name : List ℕ) → IsLowerName name → Clean name
name_clean name h = record { space = tails_free 32 name refl (name_tails name h.form); feed = tails_free 10 name refl (name_tails name h.form) }

-- ---- words of lines

-- at least one word, and all of them clean
pub record CleanLine (ws : List (List ℕ)) : Type 0 where
  pub first : List ℕ
  pub others : List (List ℕ)
  pub is : ws ≡ first ∷ others
  pub all : AllByRecursion Clean ws

line_of : (w : List ℕ) (ws : List (List ℕ)) → AllByRecursion Clean (w ∷ ws) → CleanLine (w ∷ ws)
line_of w ws h = record { first = w; others = ws; is = refl; all = h }

vector_clean : (v : Vector) → AllByRecursion Clean (vector_words v)
vector_clean [] = tt
vector_clean (p ∷ v) = (pair_clean p, vector_clean v)

vars_clean : (tag : List ℕ) → Clean tag → (vs : List VarCert) → AllByRecursion CleanLine (map (λ v. tag ∷ number v.var ∷ vector_words v.vector) vs)
vars_clean tag h [] = tt
vars_clean tag h (v ∷ vs) = (line_of tag (number v.var ∷ vector_words v.vector) (h, (number_clean v.var, vector_clean v.vector)), vars_clean tag h vs)

result_clean : (r : Vector) → AllByRecursion CleanLine (result_lines r)
result_clean [] = tt
result_clean (p ∷ r) = (line_of (codes "result") (vector_words (p ∷ r)) (record { space = refl; feed = refl }, vector_clean (p ∷ r)), tt)

blocks_clean : (bs : List BlockCert) → AllByRecursion CleanLine (flat_map block_lines bs)
blocks_clean [] = tt
blocks_clean (b ∷ bs) = (
  line_of (codes "block") (number b.block ∷ codes "need" ∷ number b.need ∷ []) (record { space = refl; feed = refl }, (number_clean b.block, (record { space = refl; feed = refl }, (number_clean b.need, tt)))),
  all_append CleanLine (map var_words b.vars) (flat_map block_lines bs) (vars_clean (codes "var") (record { space = refl; feed = refl }) b.vars) (blocks_clean bs),
)

makes_clean : (ms : List MakeCert) → AllByRecursion CleanLine (map make_words ms)
makes_clean [] = tt
makes_clean (m ∷ ms) =
    (line_of (codes "make") (number m.block ∷ number m.place ∷ vector_words m.vector) (record { space = refl; feed = refl }, (number_clean m.block, (number_clean m.place, vector_clean m.vector))), makes_clean ms)

func_clean : (f : FuncCert) → FuncIsFormed f → AllByRecursion CleanLine (func_lines f)
func_clean f h = (
  line_of (codes "function") (f.name ∷ codes "need" ∷ number f.need ∷ codes "back" ∷ number f.back ∷ [])
      (record { space = refl; feed = refl }, (name_clean f.name h.name, (record { space = refl; feed = refl }, (number_clean f.need, (record { space = refl; feed = refl }, (number_clean f.back, tt)))))),
  all_append CleanLine (map param_words f.params) (result_lines f.result ++ (flat_map block_lines f.blocks ++ map make_words f.makes)) (vars_clean (codes "param") (record { space = refl; feed = refl }) f.params)
      (all_append CleanLine (result_lines f.result) (flat_map block_lines f.blocks ++ map make_words f.makes) (result_clean f.result)
      (all_append CleanLine (flat_map block_lines f.blocks) (map make_words f.makes) (blocks_clean f.blocks) (makes_clean f.makes))),
)

funcs_clean : (fs : List FuncCert) → AllByRecursion FuncIsFormed fs → AllByRecursion CleanLine (flat_map func_lines fs)
funcs_clean [] h = tt
funcs_clean (f ∷ fs) h = all_append CleanLine (func_lines f) (flat_map func_lines fs) (func_clean f h.0) (funcs_clean fs h.1)

first_clean : CleanLine first_words
first_clean = line_of (codes "grail") (codes "certificate" ∷ codes "1" ∷ []) (record { space = refl; feed = refl }, (record { space = refl; feed = refl }, (record { space = refl; feed = refl }, tt)))

pub unit_clean : (unit : ℕ) → CleanLine (unit_words unit)
unit_clean unit = line_of (codes "unit") (number unit ∷ []) (record { space = refl; feed = refl }, (number_clean unit, tt))

last_clean : CleanLine last_words
last_clean = line_of (codes "end") [] (record { space = refl; feed = refl }, tt)

open_clean : (unit : ℕ) (fs : List FuncCert) → AllByRecursion FuncIsFormed fs → AllByRecursion CleanLine (open_lines unit fs)
open_clean unit fs h = (first_clean, (unit_clean unit, funcs_clean fs h))

all_clean : (unit : ℕ) (fs : List FuncCert) → AllByRecursion FuncIsFormed fs → AllByRecursion CleanLine (open_lines unit fs ++ last_words ∷ [])
all_clean unit fs h = all_append CleanLine (open_lines unit fs) (last_words ∷ []) (open_clean unit fs h) (last_clean, tt)

-- ---- lines and their words

spaces_free : (ws : List (List ℕ)) → AllByRecursion Clean ws → AllByRecursion (Free 32) ws
spaces_free [] h = tt
spaces_free (w ∷ ws) h = (h.0.space, spaces_free ws h.1)

spaced_feed : (ws : List (List ℕ)) → AllByRecursion Clean ws → Free 10 (spaced ws)
spaced_feed [] h = refl
spaced_feed (w ∷ []) h = h.0.feed
spaced_feed (w ∷ v ∷ ws) h = free_append 10 w (32 ∷ spaced (v ∷ ws)) h.0.feed (free_cons 10 32 (spaced (v ∷ ws)) refl (spaced_feed (v ∷ ws) h.1))

pub words_of_line : (ws : List (List ℕ)) → CleanLine ws → words (spaced ws) ≡ ws
words_of_line ws h =
    ap (λ l. words (spaced l)) h.is ∙ words_spaced h.first h.others (subst (AllByRecursion (Free 32)) h.is (spaces_free ws h.all)) ∙ sym h.is

words_of_lines : (ls : List (List (List ℕ))) → AllByRecursion CleanLine ls → map words (map spaced ls) ≡ ls
words_of_lines [] h = refl
words_of_lines (l ∷ ls) h = ap (λ x. x ∷ map words (map spaced ls)) (words_of_line l h.0) ∙ ap (λ x. l ∷ x) (words_of_lines ls h.1)

lines_feed : (ls : List (List (List ℕ))) → AllByRecursion CleanLine ls → AllByRecursion (Free 10) (map spaced ls)
lines_feed [] h = tt
lines_feed (l ∷ ls) h = (spaced_feed l h.0.all, lines_feed ls h.1)

-- no line of a certificate has a line feed
pub cert_feed : (c : Cert) → IsFormed c → AllByRecursion (Free 10) (lines_of c)
cert_feed c h = lines_feed (open_lines c.unit c.funcs ++ last_words ∷ []) (all_clean c.unit c.funcs h.funcs)

pub open_feed : (unit : ℕ) (fs : List FuncCert) → AllByRecursion FuncIsFormed fs → AllByRecursion (Free 10) (map spaced (open_lines unit fs))
open_feed unit fs h = lines_feed (open_lines unit fs) (open_clean unit fs h)

pub cert_words : (c : Cert) → IsFormed c → map words (lines_of c) ≡ open_lines c.unit c.funcs ++ last_words ∷ []
cert_words c h = words_of_lines (open_lines c.unit c.funcs ++ last_words ∷ []) (all_clean c.unit c.funcs h.funcs)

pub open_words : (unit : ℕ) (fs : List FuncCert) → AllByRecursion FuncIsFormed fs → map words (map spaced (open_lines unit fs)) ≡ open_lines unit fs
open_words unit fs h = words_of_lines (open_lines unit fs) (open_clean unit fs h)

-- ---- what may come behind

-- one more line is the last one, or stands before it
pub record Among {A : Type 0} (xs ys : List A) (w : A) (rest : List A) : Type 0 where
  pub more : List A
  pub is : xs ≡ ys ++ w ∷ more

pub record Ending {A : Type 0} (xs ys : List A) (e w : A) (rest : List A) : Type 0 where
  pub last : w ≡ e
  pub none : rest ≡ []
  pub same : xs ≡ ys

nothing_else : {A : Type 0} (ys : List A) (w : A) (rest : List A) → [] ≡ ys ++ w ∷ rest → ⊥
nothing_else [] w rest e = absurd cc
nothing_else (y ∷ ys) w rest e = absurd cc

pub ending : {A : Type 0} (xs ys : List A) (e w : A) (rest : List A) → xs ++ e ∷ [] ≡ ys ++ w ∷ rest → Ending xs ys e w rest ⊎ Among xs ys w rest
ending [] [] e w rest h = let p = same_cons e w [] rest h in inl (record { last = sym p.0; none = sym p.1; same = refl })
ending [] (y ∷ ys) e w rest h = absurd (nothing_else ys w rest (same_cons e y [] (ys ++ w ∷ rest) h).1)
ending (x ∷ xs) [] e w rest h = let p = same_cons x w (xs ++ e ∷ []) rest h in inr (record { more = xs; is = ap (λ z. z ∷ xs) p.0 })
ending (x ∷ xs) (y ∷ ys) e w rest h =
    let p = same_cons x y (xs ++ e ∷ []) (ys ++ w ∷ rest) h in lift p.0 (ending xs ys e w rest p.1)
  where
    lift : x ≡ y → Ending xs ys e w rest ⊎ Among xs ys w rest → Ending (x ∷ xs) (y ∷ ys) e w rest ⊎ Among (x ∷ xs) (y ∷ ys) w rest
    lift k (inl d) = inl (record { last = d.last; none = d.none; same = ap (λ z. z ∷ xs) k ∙ ap (λ l. y ∷ l) d.same })
    lift k (inr d) = inr (record { more = d.more; is = ap (λ z. z ∷ xs) k ∙ ap (λ l. y ∷ l) d.is })

unit_same : (a b : ℕ) → unit_words a ≡ unit_words b → a ≡ b
unit_same a b e = let p = same_cons (codes "unit") (codes "unit") (number a ∷ []) (number b ∷ []) e in number_one a b (same_cons (number a) (number b) [] [] p.1).0

-- a certificate whose lines begin with these of functions in form
pub record Continues (d : Cert) (unit : ℕ) (fs : List FuncCert) (line : List ℕ) (rest : List (List ℕ)) : Type 0 where
  pub unit_is : d.unit ≡ unit
  pub next : ((words line ≡ last_words) × (rest ≡ [])) ⊎ ((others : List (List (List ℕ))) × Next (words line) others fs d.funcs)

pub continues : (d : Cert) (unit : ℕ) (fs : List FuncCert) (line : List ℕ) (rest : List (List ℕ)) → IsFormed d → AllByRecursion FuncIsFormed fs
    → lines_of d ≡ map spaced (open_lines unit fs) ++ line ∷ rest → Continues d unit fs line rest
continues d unit fs line rest h k e =
    let all : open_lines d.unit d.funcs ++ last_words ∷ [] ≡ open_lines unit fs ++ words line ∷ map words rest =
    sym (cert_words d h) ∙ ap (map words) e ∙ map-append words (map spaced (open_lines unit fs)) (line ∷ rest) ∙ ap (λ l. l ++ words line ∷ map words rest) (words_of_lines (open_lines unit fs) (open_clean unit fs k)) in
    let p = same_cons first_words first_words (unit_words d.unit ∷ (flat_map func_lines d.funcs ++ last_words ∷ [])) (unit_words unit ∷ (flat_map func_lines fs ++ words line ∷ map words rest)) all in
    let q = same_cons (unit_words d.unit) (unit_words unit) (flat_map func_lines d.funcs ++ last_words ∷ []) (flat_map func_lines fs ++ words line ∷ map words rest) p.1 in
    record { unit_is = unit_same d.unit unit q.0; next = by_end (ending (flat_map func_lines d.funcs) (flat_map func_lines fs) last_words (words line) (map words rest) q.1) }
  where
    no_words : (ls : List (List ℕ)) → map words ls ≡ [] → ls ≡ []
    no_words [] e = refl
    no_words (l ∷ ls) e = absurd cc

    by_end : Ending (flat_map func_lines d.funcs) (flat_map func_lines fs) last_words (words line) (map words rest)
        ⊎ Among (flat_map func_lines d.funcs) (flat_map func_lines fs) (words line) (map words rest)
        → ((words line ≡ last_words) × (rest ≡ [])) ⊎ ((others : List (List (List ℕ))) × Next (words line) others fs d.funcs)
    by_end (inl z) = inl (z.last, no_words rest z.none)
    by_end (inr z) = inr (z.more, next_line fs d.funcs (words line) z.more k h.funcs z.is)

-- two certificates with the same lines are the same
pub certs_one : (c d : Cert) → IsFormed c → IsFormed d → lines_of c ≡ lines_of d → c ≡ d
certs_one c d h k e =
    let all : open_lines c.unit c.funcs ++ last_words ∷ [] ≡ open_lines d.unit d.funcs ++ last_words ∷ [] = sym (cert_words c h) ∙ ap (map words) e ∙ cert_words d k in
    let p = same_cons first_words first_words (unit_words c.unit ∷ (flat_map func_lines c.funcs ++ last_words ∷ [])) (unit_words d.unit ∷ (flat_map func_lines d.funcs ++ last_words ∷ [])) all in
    let q = same_cons (unit_words c.unit) (unit_words d.unit) (flat_map func_lines c.funcs ++ last_words ∷ []) (flat_map func_lines d.funcs ++ last_words ∷ []) p.1 in
    let u : c.unit ≡ d.unit = unit_same c.unit d.unit q.0 in
    let f : c.funcs ≡ d.funcs = funcs_one c.funcs d.funcs h.funcs k.funcs (append_cancel_right (flat_map func_lines c.funcs) (flat_map func_lines d.funcs) (last_words ∷ []) q.1) in
    λ i. record { unit = u i; funcs = f i }
