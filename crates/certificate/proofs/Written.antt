-- Pieces of text that are written one after the other.
use Rattle.std.proofs.Common.{◌≡◌, ℕ, suc, ◌+◌, ◌<◌, ◌≤◌, true, false, List, [], ◌∷◌, ◌++◌, length, map, drop, get_or, refl, sym, ap, ◌∙◌, arith, append_assoc, append-nil, drop-cons, drop_of_length-le, add-one}
use Rattle.std.specs.Prelude.{◌==◌, flat_map, codes}
use Rattle.std.proofs.lemmas.Bool.Decides.{nat_tests}
use Rattle.annotations.specs.Vectors.{Vector}
use Rattle.text_lines.specs.Numbers.{number}
use Rattle.certificate.specs.Text.{pair_word, vector_words, param_words, result_lines, var_words, block_words, block_lines, make_words, function_words, func_lines, last_words, open_lines, text_of}
use Rattle.text_lines.specs.Cuts.{spaced}
use Rattle.text_lines.specs.Lines.{text_of_lines}
use Rattle.certificate.specs.Certificates.{BlockCert, MakeCert, FuncCert, Cert}
use Rattle.certificate.specs.Writing.{line_text, lines_text, pair_text, vector_text, var_text, block_text, make_text, func_text}
use Rattle.text_lines.specs.FrontLaws.{flat_append}

pub two : (a b c o p : List ℕ) → o ≡ a ++ b → p ≡ o ++ c → p ≡ a ++ (b ++ c)
two a b c o p e f = f ∙ ap (λ l. l ++ c) e ∙ append_assoc a b c

pub three : (a b c d o p q : List ℕ) → o ≡ a ++ b → p ≡ o ++ c → q ≡ p ++ d → q ≡ a ++ (b ++ (c ++ d))
three a b c d o p q e f g = two (a ++ b) c d p q (f ∙ ap (λ l. l ++ c) e) g ∙ append_assoc a b (c ++ d)

pub four : (a b c d x o p q r : List ℕ) → o ≡ a ++ b → p ≡ o ++ c → q ≡ p ++ d → r ≡ q ++ x → r ≡ a ++ (b ++ (c ++ (d ++ x)))
four a b c d x o p q r e f g h = three (a ++ b) c d x p q r (f ∙ ap (λ l. l ++ c) e) g h ∙ append_assoc a b (c ++ (d ++ x))

pub five : (a b c d x y o p q r s : List ℕ) → o ≡ a ++ b → p ≡ o ++ c → q ≡ p ++ d → r ≡ q ++ x → s ≡ r ++ y → s ≡ a ++ (b ++ (c ++ (d ++ (x ++ y))))
five a b c d x y o p q r s e f g h k = four (a ++ b) c d x y p q r s (f ∙ ap (λ l. l ++ c) e) g h k ∙ append_assoc a b (c ++ (d ++ (x ++ y)))

-- ---- items one by one

pub item_written : {A : Type 0} (t : A → List ℕ) (xs : List A) (i : ℕ) (x : A) (out new all : List ℕ) → i < length xs → x ≡ get_or xs i x
    → out ++ flat_map t (drop i xs) ≡ all → new ≡ out ++ t x → new ++ flat_map t (drop (i + 1) xs) ≡ all
item_written t xs i x out new all h is e f =
    ap (λ l. l ++ flat_map t (drop (i + 1) xs)) f ∙ append_assoc out (t x) (flat_map t (drop (i + 1) xs)) ∙ ap (λ n. out ++ (t x ++ flat_map t (drop n xs))) (add-one i)
    ∙ ap (λ l. out ++ flat_map t l) (sym (drop-cons xs i x h ∙ ap (λ y. y ∷ drop (suc i) xs) (sym is))) ∙ e

pub all_written : {A : Type 0} (t : A → List ℕ) (xs : List A) (i : ℕ) (out all : List ℕ) → length xs ≤ i → out ++ flat_map t (drop i xs) ≡ all → out ≡ all
all_written t xs i out all h e = sym (append-nil out) ∙ ap (λ l. out ++ flat_map t l) (sym (drop_of_length-le xs {i = i} h)) ∙ e

pub mapped_written : {A B : Type 0} (t : B → List ℕ) (m : A → B) (xs : List A) (i : ℕ) (x : A) (out new all : List ℕ) → i < length xs
    → x ≡ get_or xs i x → out ++ flat_map t (map m (drop i xs)) ≡ all → new ≡ out ++ t (m x)
    → new ++ flat_map t (map m (drop (i + 1) xs)) ≡ all
mapped_written t m xs i x out new all h is e f =
    ap (λ l. l ++ flat_map t (map m (drop (i + 1) xs))) f ∙ append_assoc out (t (m x)) (flat_map t (map m (drop (i + 1) xs))) ∙ ap (λ n. out ++ (t (m x) ++ flat_map t (map m (drop n xs)))) (add-one i)
    ∙ ap (λ l. out ++ flat_map t (map m l)) (sym (drop-cons xs i x h ∙ ap (λ y. y ∷ drop (suc i) xs) (sym is))) ∙ e

pub all_mapped : {A B : Type 0} (t : B → List ℕ) (m : A → B) (xs : List A) (i : ℕ) (out all : List ℕ) → length xs ≤ i
    → out ++ flat_map t (map m (drop i xs)) ≡ all → out ≡ all
all_mapped t m xs i out all h e = sym (append-nil out) ∙ ap (λ l. out ++ flat_map t (map m l)) (sym (drop_of_length-le xs {i = i} h)) ∙ e

-- ---- lines

pub pair_written : (p : ℕ × ℕ) (old mid new : List ℕ) → mid ≡ old ++ (32 ∷ number p.0) → new ≡ mid ++ (61 ∷ number p.1) → new ≡ old ++ pair_text p
pair_written p old mid new e f = two old (32 ∷ number p.0) (61 ∷ number p.1) mid new e f

spaced_vector : (w : List ℕ) (v : Vector) → spaced (w ∷ vector_words v) ≡ w ++ vector_text v
spaced_vector w [] = sym (append-nil w)
spaced_vector w (p ∷ v) = ap (λ l. w ++ 32 ∷ l) (spaced_vector (pair_word p) v)

pub var_written : (tag : List ℕ) (n : ℕ) (v : Vector) (a b c d x : List ℕ) → b ≡ a ++ tag → c ≡ b ++ (32 ∷ number n) → d ≡ c ++ vector_text v
    → x ≡ d ++ 10 ∷ [] → x ≡ a ++ line_text (tag ∷ number n ∷ vector_words v)
var_written tag n v a b c d x e f g h =
    four a tag (32 ∷ number n) (vector_text v) (10 ∷ []) b c d x e f g h
    ∙ ap (λ l. a ++ (tag ++ 32 ∷ l)) (sym (append_assoc (number n) (vector_text v) (10 ∷ [])) ∙ ap (λ l. l ++ 10 ∷ []) (sym (spaced_vector (number n) v)))
    ∙ ap (λ l. a ++ l) (sym (append_assoc tag (32 ∷ spaced (number n ∷ vector_words v)) (10 ∷ [])))

pub no_result : (v : Vector) (a : List ℕ) → (length v == 0) ≡ true → a ≡ a ++ lines_text (result_lines v)
no_result [] a h = sym (append-nil a)
no_result (p ∷ v) a h = absurd (let t : (suc (length v) == 0) ≡ false = grind (arith, nat_tests) in let e : true ≡ false = sym h ∙ t in cc)

pub result_written : (v : Vector) (a b c d : List ℕ) → (length v == 0) ≡ false → b ≡ a ++ codes "result" → c ≡ b ++ vector_text v → d ≡ c ++ 10 ∷ []
    → d ≡ a ++ lines_text (result_lines v)
result_written [] a b c d h e f g = absurd cc
result_written (p ∷ v) a b c d h e f g =
    three a (codes "result") (vector_text (p ∷ v)) (10 ∷ []) b c d e f g ∙ ap (λ l. a ++ l) (sym (append_assoc (codes "result") (vector_text (p ∷ v)) (10 ∷ [])))
    ∙ ap (λ l. a ++ (l ++ 10 ∷ [])) (sym (spaced_vector (codes "result") (p ∷ v))) ∙ ap (λ l. a ++ l) (sym (append-nil (line_text (codes "result" ∷ vector_words (p ∷ v)))))

flat_mapped : {A B : Type 0} (t : B → List ℕ) (m : A → B) (xs : List A) → flat_map (λ x. t (m x)) xs ≡ flat_map t (map m xs)
flat_mapped t m [] = refl
flat_mapped t m (x ∷ xs) = ap (λ l. t (m x) ++ l) (flat_mapped t m xs)

flat_flat : {A B : Type 0} (t : B → List ℕ) (m : A → List B) (xs : List A) → flat_map (λ x. flat_map t (m x)) xs ≡ flat_map t (flat_map m xs)
flat_flat t m [] = refl
flat_flat t m (x ∷ xs) = ap (λ l. flat_map t (m x) ++ l) (flat_flat t m xs) ∙ sym (flat_append t (m x) (flat_map m xs))

pub block_written : (b : BlockCert) (o p q r s : List ℕ) → p ≡ o ++ (codes "block " ++ number b.block) → q ≡ p ++ (codes " need " ++ number b.need)
    → r ≡ q ++ 10 ∷ [] → s ≡ r ++ flat_map (var_text (codes "var")) b.vars → s ≡ o ++ block_text b
block_written b o p q r s e f g h =
    four o (codes "block " ++ number b.block) (codes " need " ++ number b.need) (10 ∷ []) (flat_map (var_text (codes "var")) b.vars) p q r s e f g h
    ∙ ap (λ l. o ++ l) (
    sym (append_assoc (codes "block " ++ number b.block) (codes " need " ++ number b.need) (10 ∷ flat_map (var_text (codes "var")) b.vars))
    ∙ ap (λ l. l ++ 10 ∷ flat_map (var_text (codes "var")) b.vars) (append_assoc (codes "block ") (number b.block) (codes " need " ++ number b.need))
    ∙ sym (append_assoc (spaced (block_words b)) (10 ∷ []) (flat_map (var_text (codes "var")) b.vars))
    ∙ ap (λ l. line_text (block_words b) ++ l) (flat_mapped line_text var_words b.vars))

pub make_written : (m : MakeCert) (o p q r s : List ℕ) → p ≡ o ++ (codes "make " ++ number m.block) → q ≡ p ++ (32 ∷ number m.place)
    → r ≡ q ++ vector_text m.vector → s ≡ r ++ 10 ∷ [] → s ≡ o ++ make_text m
make_written m o p q r s e f g h =
    four o (codes "make " ++ number m.block) (32 ∷ number m.place) (vector_text m.vector) (10 ∷ []) p q r s e f g h
    ∙ ap (λ l. o ++ l) (
    append_assoc (codes "make ") (number m.block) ((32 ∷ number m.place) ++ (vector_text m.vector ++ 10 ∷ []))
    ∙ ap (λ l. codes "make " ++ (number m.block ++ 32 ∷ l)) (sym (append_assoc (number m.place) (vector_text m.vector) (10 ∷ [])) ∙ ap (λ l. l ++ 10 ∷ []) (sym (spaced_vector (number m.place) m.vector)))
    ∙ ap (λ l. codes "make " ++ l) (sym (append_assoc (number m.block) (32 ∷ spaced (number m.place ∷ vector_words m.vector)) (10 ∷ []))))

pub function_written : (f : FuncCert) (o p q r s t : List ℕ) → p ≡ o ++ codes "function " → q ≡ p ++ f.name
    → r ≡ q ++ (codes " need " ++ number f.need) → s ≡ r ++ (codes " back " ++ number f.back) → t ≡ s ++ 10 ∷ []
    → t ≡ o ++ line_text (function_words f)
function_written f o p q r s t d e g h k =
    five o (codes "function ") f.name (codes " need " ++ number f.need) (codes " back " ++ number f.back) (10 ∷ []) p q r s t d e g h k
    ∙ ap (λ l. o ++ (codes "function " ++ (f.name ++ l))) (sym (append_assoc (codes " need " ++ number f.need) (codes " back " ++ number f.back) (10 ∷ [])) ∙ ap (λ l. l ++ 10 ∷ []) (append_assoc (codes " need ") (number f.need) (codes " back " ++ number f.back)))
    ∙ ap (λ l. o ++ (codes "function " ++ l)) (sym (append_assoc f.name (32 ∷ spaced (codes "need" ∷ number f.need ∷ codes "back" ∷ number f.back ∷ [])) (10 ∷ [])))

pub func_written : (f : FuncCert) (o p q r s t : List ℕ) → p ≡ o ++ line_text (function_words f)
    → q ≡ p ++ flat_map (var_text (codes "param")) f.params → r ≡ q ++ lines_text (result_lines f.result) → s ≡ r ++ flat_map block_text f.blocks
    → t ≡ s ++ flat_map make_text f.makes
    → t ≡ o ++ func_text f
func_written f o p q r s t d e g h k =
    five o (line_text (function_words f)) (flat_map (var_text (codes "param")) f.params) (lines_text (result_lines f.result)) (flat_map block_text f.blocks) (flat_map make_text f.makes) p q r s t d e g h k
    ∙ ap (λ l. o ++ (line_text (function_words f) ++ (l ++ (lines_text (result_lines f.result) ++ (flat_map block_text f.blocks ++ flat_map make_text f.makes))))) (flat_mapped line_text param_words f.params)
    ∙ ap (λ l. o ++ (line_text (function_words f) ++ (lines_text (map param_words f.params) ++ (lines_text (result_lines f.result) ++ l)))) (
    ap (λ l. l ++ flat_map make_text f.makes) (flat_flat line_text block_lines f.blocks) ∙ ap (λ l. lines_text (flat_map block_lines f.blocks) ++ l) (flat_mapped line_text make_words f.makes)
    ∙ sym (flat_append line_text (flat_map block_lines f.blocks) (map make_words f.makes)))
    ∙ ap (λ l. o ++ (line_text (function_words f) ++ (lines_text (map param_words f.params) ++ l))) (sym (flat_append line_text (result_lines f.result) (flat_map block_lines f.blocks ++ map make_words f.makes)))
    ∙ ap (λ l. o ++ (line_text (function_words f) ++ l)) (sym (flat_append line_text (map param_words f.params) (result_lines f.result ++ (flat_map block_lines f.blocks ++ map make_words f.makes))))

lines_are : (ls : List (List (List ℕ))) → text_of_lines (map spaced ls) ≡ lines_text ls
lines_are [] = refl
lines_are (l ∷ ls) = ap (λ t. line_text l ++ t) (lines_are ls)

pub cert_written : (c : Cert) (o p q r s : List ℕ) → o ≡ [] → p ≡ o ++ (codes "grail certificate 1\nunit " ++ number c.unit) → q ≡ p ++ 10 ∷ []
    → r ≡ q ++ flat_map func_text c.funcs → s ≡ r ++ codes "end\n" → s ≡ text_of c
unfolding text_of
cert_written c o p q r s n e f g h =
    four o (codes "grail certificate 1\nunit " ++ number c.unit) (10 ∷ []) (flat_map func_text c.funcs) (codes "end\n") p q r s e f g h
    ∙ ap (λ l. l ++ ((codes "grail certificate 1\nunit " ++ number c.unit) ++ 10 ∷ (flat_map func_text c.funcs ++ codes "end\n"))) n
    ∙ append_assoc (codes "grail certificate 1\nunit ") (number c.unit) (10 ∷ (flat_map func_text c.funcs ++ codes "end\n"))
    ∙ ap (λ l. codes "grail certificate 1\nunit " ++ l) (sym (append_assoc (number c.unit) (10 ∷ []) (flat_map func_text c.funcs ++ codes "end\n")))
    ∙ ap (λ l. codes "grail certificate 1\nunit " ++ ((number c.unit ++ 10 ∷ []) ++ (l ++ codes "end\n"))) (flat_flat line_text func_lines c.funcs)
    ∙ ap (λ l. codes "grail certificate 1\nunit " ++ ((number c.unit ++ 10 ∷ []) ++ l)) (sym (flat_append line_text (flat_map func_lines c.funcs) (last_words ∷ [])))
    ∙ sym (lines_are (open_lines c.unit c.funcs ++ last_words ∷ []))
