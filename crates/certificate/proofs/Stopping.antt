-- Each step of the reader, and each stop.
use Rattle.std.proofs.Common.{◌≡◌, ℕ, suc, ◌+◌, ◌<◌, ◌≤◌, List, [], ◌∷◌, ◌++◌, length, map, Some, None, refl, sym, ap, ◌∙◌, subst, arith, append_assoc, append-nil, inl, inr, length-append}
use Rattle.std.specs.Prelude.{◌⊎◌, flat_map, codes}
use Rattle.std.specs.List.{AllByRecursion}
use Rattle.std.specs.Option.{option_map}
use Rattle.std.proofs.lemmas.List.{map-append, length-map}
use Rattle.certificate.specs.Text.{first_words, unit_words, last_words, func_lines, open_lines, lines_of, text_of, Begins, BeginsLoosely, IsWrongLine, GoesOn, EndsEarly, IsLineFault, IsNumberFault}
use Rattle.text_lines.specs.Cuts.{spaced, words, and_then}
use Rattle.text_lines.specs.Lines.{text_of_lines, HasLine, Free}
use Rattle.certificate.specs.Certificates.{FuncCert, Cert, FuncIsFormed, IsFormed, IsCert}
use Rattle.certificate.specs.Reading.{at_last, add_own, add_line, unit_of, IsRead, IsWide}
use Rattle.certificate.specs.Steps.{AreWithin, cert_by, HasFirst, Reading, IsWhole}
use Rattle.text_lines.specs.OptionLaws.{none_some, some_same, same_cons}
use Rattle.text_lines.specs.CutLaws.{spaced_words}
use Rattle.certificate.specs.PartLaws.{unit_read, unit_found}
use Rattle.certificate.specs.GrowingLaws.{AllGrown, line_grown}
use Rattle.certificate.specs.AddingLaws.{adds, adds_all, adds_whole, adds_back}
use Rattle.certificate.specs.LineLaws.{Continues, continues, cert_feed, open_feed, words_of_line, unit_clean, cert_words, open_words}
use Rattle.text_lines.specs.FrontLaws.{Further, fronts, first_line, has_feed, line_or_none}

-- ---- early ends

-- the lines are no whole certificate's
record NoWhole (before : List (List ℕ)) (rest : List ℕ) : Type 0 where
  none : (c : Cert) → IsCert c → lines_of c ≡ before → rest ≡ [] → ⊥

no_text : (l r : List ℕ) → [] ≡ l ++ 10 ∷ r → ⊥
no_text [] r e = absurd cc
no_text (b ∷ l) r e = absurd cc

early_end : (text : List ℕ) (before : List (List ℕ)) (rest : List ℕ) → text ≡ text_of_lines before ++ rest → Free 10 rest → Begins before
    → AllByRecursion (Free 10) before → NoWhole before rest → EndsEarly text before
unfolding text_of
early_end text before rest parts free good feed none = record { rest = rest; parts = parts; one = free; good = good; unfinished = λ c h e. by_front c h (fronts (lines_of c) before [] rest (cert_feed c h.formed) feed (append-nil (text_of c) ∙ e ∙ parts)) }
  where
    behind : (c : Cert) → IsCert c → (more : List (List ℕ)) → before ≡ lines_of c ++ more → [] ≡ text_of_lines more ++ rest → ⊥
    behind c h [] e f = none.none c h (sym (append-nil (lines_of c)) ∙ sym e) (sym f)
    behind c h (l ∷ more) e f = no_text l (text_of_lines more ++ rest) (f ∙ first_line l more rest)

    within : (c : Cert) → IsCert c → (more : List (List ℕ)) → lines_of c ≡ before ++ more → rest ≡ text_of_lines more ++ [] → ⊥
    within c h [] e f = none.none c h (e ∙ append-nil before) f
    within c h (l ∷ more) e f = has_feed l (text_of_lines more ++ []) (subst (Free 10) (f ∙ first_line l more []) free)

    by_front : (c : Cert) → IsCert c → Further (lines_of c) before [] rest ⊎ Further before (lines_of c) rest [] → ⊥
    by_front c h (inl d) = behind c h d.more d.is d.rest
    by_front c h (inr d) = within c h d.more d.is d.rest

-- ---- the first line

plain : Cert
plain = cert_by 1 []

plain_right : IsCert (cert_by 1 [])
plain_right = record { formed = record { some_units = omega arith; funcs = tt }; within = record { unit = omega arith; funcs = tt } }

nothing_begins : Begins []
nothing_begins = record { cert = cert_by 1 []; rest = lines_of (cert_by 1 []); is = refl; right = plain_right }

pub first_early : (text : List ℕ) → Free 10 text → IsLineFault text 1
first_early text h = record {
  before = [];
  count = refl;
  fault = inr (early_end text [] text refl h nothing_begins tt (record { none = λ c k e r. absurd cc }));
}

pub first_wrong : (text line rest : List ℕ) → HasLine text line rest → (line ≡ spaced first_words → ⊥) → IsLineFault text 1
first_wrong text line rest h w = record {
  before = [];
  count = refl;
  fault = inl (line, record { rest = rest; parts = h.parts; one = h.one }, record { good = nothing_begins; wrong = λ b. w (sym (head b)) });
}
  where
    head : (b : BeginsLoosely ([] ++ line ∷ [])) → spaced first_words ≡ line
    head b = (same_cons (spaced first_words) line (map spaced (unit_words b.cert.unit ∷ (flat_map func_lines b.cert.funcs ++ last_words ∷ []))) b.rest b.is).0

pub first_read : (text line rest : List ℕ) → HasLine text line rest → line ≡ spaced first_words → HasFirst text rest
first_read text line rest h e = record { parts = h.parts ∙ ap (λ l. l ++ 10 ∷ rest) e }

-- ---- the second line

first_begins : Begins (spaced first_words ∷ [])
first_begins = record { cert = cert_by 1 []; rest = spaced (unit_words 1) ∷ spaced last_words ∷ []; is = refl; right = plain_right }

first_parts : (text rest : List ℕ) → HasFirst text rest → text ≡ text_of_lines (spaced first_words ∷ []) ++ rest
first_parts text rest f = f.parts ∙ sym (first_line (spaced first_words) [] rest)

pub unit_early : (text rest : List ℕ) → HasFirst text rest → Free 10 rest → IsLineFault text 2
unit_early text rest f h = record {
  before = spaced first_words ∷ [];
  count = refl;
  fault = inr (early_end text (spaced first_words ∷ []) rest (first_parts text rest f) h first_begins (refl, tt) (record { none = λ c k e r. absurd cc }));
}

goes_first : (text rest line after : List ℕ) → HasFirst text rest → HasLine rest line after → GoesOn text (spaced first_words ∷ []) line
goes_first text rest line after f h = record { rest = after; parts = first_parts text rest f ∙ ap (λ l. text_of_lines (spaced first_words ∷ []) ++ l) h.parts; one = h.one }

-- the second line of a certificate is that of its unit
second_line : (d : Cert) (line : List ℕ) (rest : List (List ℕ)) → IsFormed d → lines_of d ≡ (spaced first_words ∷ line ∷ []) ++ rest
    → unit_of (words line) ≡ Some d.unit
second_line d line rest h e =
    let p = same_cons (spaced first_words) (spaced first_words) (map spaced (unit_words d.unit ∷ (flat_map func_lines d.funcs ++ last_words ∷ []))) (line ∷ rest) e in
    let q = same_cons (spaced (unit_words d.unit)) line (map spaced (flat_map func_lines d.funcs ++ last_words ∷ [])) rest p.1 in
    ap (λ l. unit_of (words l)) (sym q.0) ∙ ap unit_of (words_of_line (unit_words d.unit) (unit_clean d.unit)) ∙ unit_read d.unit h.some_units

pub unit_wrong : (text rest line after : List ℕ) → HasFirst text rest → HasLine rest line after → unit_of (words line) ≡ None → IsLineFault text 2
unit_wrong text rest line after f h w = record {
  before = spaced first_words ∷ [];
  count = refl;
  fault = inl (line, goes_first text rest line after f h, record { good = first_begins; wrong = λ b. none_some (unit_of (words line)) b.cert.unit w (second_line b.cert line b.rest b.right b.is) });
}

line_is : (line : List ℕ) (unit : ℕ) → unit_of (words line) ≡ Some unit → line ≡ spaced (unit_words unit)
line_is line unit u = sym (spaced_words line) ∙ ap spaced (unit_found (words line) unit u).0

pub unit_wide : (text rest line after : List ℕ) (unit : ℕ) → HasFirst text rest → HasLine rest line after → unit_of (words line) ≡ Some unit
    → 2147483648 < unit → IsNumberFault text 2
unit_wide text rest line after unit f h u w = record {
  before = spaced first_words ∷ [];
  count = refl;
  line = line;
  goes = goes_first text rest line after f h;
  fault = record {
    good = first_begins;
    form = record {
      cert = cert_by unit [];
      rest = spaced last_words ∷ [];
      is = ap (λ l. spaced first_words ∷ l ∷ spaced last_words ∷ []) (sym (line_is line unit u));
      right = record { some_units = (unit_found (words line) unit u).1; funcs = tt };
    };
    wrong = λ b. let s : unit ≡ b.cert.unit = some_same unit b.cert.unit (sym u ∙ second_line b.cert line b.rest b.right.formed b.is) in above unit b.cert.unit s w b.right.within.unit;
  };
}
  where
    above : (a b : ℕ) → a ≡ b → 2147483648 < a → b ≤ 2147483648 → ⊥
    above a b s h k = omega (arith, s, h, k)

pub unit_begins : (text rest line after : List ℕ) (unit : ℕ) → HasFirst text rest → HasLine rest line after → unit_of (words line) ≡ Some unit
    → unit ≤ 2147483648 → Reading text unit [] after 3
unit_begins text rest line after unit f h u w = record {
  right = record { formed = record { some_units = (unit_found (words line) unit u).1; funcs = tt }; within = record { unit = w; funcs = tt } };
  parts = parts;
  count = refl;
  few = omega (arith, lengths);
}
  where
    parts : text ≡ text_of_lines (map spaced (open_lines unit [])) ++ after
    parts =
        f.parts ∙ ap (λ l. spaced first_words ++ 10 ∷ l) (h.parts ∙ ap (λ l. l ++ 10 ∷ after) (line_is line unit u) ∙ sym (first_line (spaced (unit_words unit)) [] after))
        ∙ sym (first_line (spaced first_words) (spaced (unit_words unit) ∷ []) after)

    lengths : length text ≡ length (spaced first_words) + suc (length line + suc (length after))
    lengths = ap length f.parts ∙ length-append (spaced first_words) (10 ∷ rest) ∙ ap (λ n. length (spaced first_words) + suc n) (ap length h.parts ∙ length-append line (10 ∷ after))

-- ---- the lines of functions

-- the last line is none of a function's
own_end : (f : FuncCert) → add_own (codes "end") [] f ≡ None
unfolding add_own
own_end f = refl

last_end : (fs : List FuncCert) → at_last (add_own (codes "end") []) fs ≡ None
unfolding add_own
last_end [] = refl
last_end (f ∷ []) = refl
last_end (f ∷ g ∷ fs) = ap (λ o. option_map (λ (l : List FuncCert). f ∷ l) o) (last_end (g ∷ fs))

adds_end : (fs : List FuncCert) → add_line last_words fs ≡ None
unfolding add_line
adds_end fs = last_end fs

-- a certificate with these lines in front
lines_all : (unit : ℕ) (fs : List FuncCert) → lines_of (cert_by unit fs) ≡ map spaced (open_lines unit fs) ++ spaced last_words ∷ []
lines_all unit fs = map-append spaced (open_lines unit fs) (last_words ∷ [])

open_begins : (unit : ℕ) (fs : List FuncCert) → IsCert (cert_by unit fs) → Begins (map spaced (open_lines unit fs))
open_begins unit fs h = record { cert = cert_by unit fs; rest = spaced last_words ∷ []; is = lines_all unit fs; right = h }

-- these lines alone are no certificate's
open_none : (unit : ℕ) (fs : List FuncCert) → IsCert (cert_by unit fs) → (rest : List ℕ) → NoWhole (map spaced (open_lines unit fs)) rest
open_none unit fs h rest = record {
  none = λ c k e r.
      let all : open_lines c.unit c.funcs ++ last_words ∷ [] ≡ open_lines unit fs = sym (cert_words c k.formed) ∙ ap (map words) e ∙ open_words unit fs h.formed.funcs in
      let p = same_cons first_words first_words (unit_words c.unit ∷ (flat_map func_lines c.funcs ++ last_words ∷ [])) (unit_words unit ∷ flat_map func_lines fs) all in
      let q = same_cons (unit_words c.unit) (unit_words unit) (flat_map func_lines c.funcs ++ last_words ∷ []) (flat_map func_lines fs) p.1 in
      none_some (adds (last_words ∷ []) c.funcs) fs (ap (λ o. and_then o (adds [])) (adds_end c.funcs))
      (sym (adds_all c.funcs (last_words ∷ []) k.formed.funcs) ∙ ap (λ l. adds l []) q.1 ∙ adds_whole fs h.formed.funcs);
}

counted : (unit : ℕ) (fs : List FuncCert) (n : ℕ) → n ≡ suc (length (open_lines unit fs)) → n ≡ suc (length (map spaced (open_lines unit fs)))
counted unit fs n e = e ∙ ap suc (sym (length-map (open_lines unit fs) spaced))

pub line_early : (text : List ℕ) (unit : ℕ) (fs : List FuncCert) (rest : List ℕ) (n : ℕ) → Reading text unit fs rest n → Free 10 rest → IsLineFault text n
line_early text unit fs rest n r h = record {
  before = map spaced (open_lines unit fs);
  count = counted unit fs n r.count;
  fault = inr (early_end text (map spaced (open_lines unit fs)) rest r.parts h (open_begins unit fs r.right) (open_feed unit fs r.right.formed.funcs) (open_none unit fs r.right rest));
}

goes_open : (text : List ℕ) (unit : ℕ) (fs : List FuncCert) (rest line after : List ℕ) (n : ℕ) → Reading text unit fs rest n
    → HasLine rest line after → GoesOn text (map spaced (open_lines unit fs)) line
goes_open text unit fs rest line after n r h = record { rest = after; parts = r.parts ∙ ap (λ l. text_of_lines (map spaced (open_lines unit fs)) ++ l) h.parts; one = h.one }

-- what begins with one line more
next_of : (d : Cert) (unit : ℕ) (fs : List FuncCert) (line : List ℕ) (rest : List (List ℕ)) → IsFormed d → AllByRecursion FuncIsFormed fs
    → lines_of d ≡ (map spaced (open_lines unit fs) ++ line ∷ []) ++ rest → Continues d unit fs line rest
next_of d unit fs line rest h k e = continues d unit fs line rest h k (e ∙ append_assoc (map spaced (open_lines unit fs)) (line ∷ []) rest)

is_end : (line : List ℕ) → words line ≡ last_words → line ≡ codes "end"
is_end line e = sym (spaced_words line) ∙ ap spaced e

pub line_wrong : (text : List ℕ) (unit : ℕ) (fs : List FuncCert) (rest line after : List ℕ) (n : ℕ) → Reading text unit fs rest n
    → HasLine rest line after → (line ≡ codes "end" → ⊥) → add_line (words line) fs ≡ None → IsLineFault text n
line_wrong text unit fs rest line after n r h end none = record {
  before = map spaced (open_lines unit fs);
  count = counted unit fs n r.count;
  fault = inl (
    line,
    goes_open text unit fs rest line after n r h,
    record {
      good = open_begins unit fs r.right;
      wrong = λ b. by_next b (next_of b.cert unit fs line b.rest b.right r.right.formed.funcs b.is);
    },
  );
}
  where
    by_next : (b : BeginsLoosely (map spaced (open_lines unit fs) ++ line ∷ [])) → Continues b.cert unit fs line b.rest → ⊥
    by_next b c = elim c.next as (λ _. ⊥) [ inl p ↦ end (is_end line p.0) | inr p ↦ none_some (add_line (words line) fs) (p.1).new none (p.1).found ]

-- one line behind others
last_line : (ls : List (List ℕ)) (l r : List ℕ) → text_of_lines (ls ++ l ∷ []) ++ r ≡ text_of_lines ls ++ (l ++ 10 ∷ r)
last_line [] l r = first_line l [] r
last_line (k ∷ ls) l r = first_line k (ls ++ l ∷ []) r ∙ ap (λ t. k ++ 10 ∷ t) (last_line ls l r) ∙ sym (first_line k ls (l ++ 10 ∷ r))

-- one line more
line_lines : (unit : ℕ) (fs gs : List FuncCert) (line : List ℕ) → add_line (words line) fs ≡ Some gs
    → map spaced (open_lines unit gs) ≡ map spaced (open_lines unit fs) ++ line ∷ []
line_lines unit fs gs line e =
    ap (λ l. spaced first_words ∷ spaced (unit_words unit) ∷ l) (ap (map spaced) (line_grown (words line) fs gs e).lines ∙ map-append spaced (flat_map func_lines fs) (words line ∷ []) ∙ ap (λ l. map spaced (flat_map func_lines fs) ++ l ∷ []) (spaced_words line))

pub line_wide : (text : List ℕ) (unit : ℕ) (fs : List FuncCert) (rest line after : List ℕ) (n : ℕ) → Reading text unit fs rest n
    → HasLine rest line after → (line ≡ codes "end" → ⊥) → IsWide (add_line (words line) fs) AreWithin → IsNumberFault text n
line_wide text unit fs rest line after n r h end w = record {
  before = map spaced (open_lines unit fs);
  count = counted unit fs n r.count;
  line = line;
  goes = goes_open text unit fs rest line after n r h;
  fault = record {
    good = open_begins unit fs r.right;
    form = record {
      cert = cert_by unit w.x;
      rest = spaced last_words ∷ [];
      is = lines_all unit w.x ∙ ap (λ l. l ++ spaced last_words ∷ []) (line_lines unit fs w.x line w.is);
      right = record { some_units = r.right.formed.some_units; funcs = (line_grown (words line) fs w.x w.is).formed r.right.formed.funcs };
    };
    wrong = λ b. by_next b (next_of b.cert unit fs line b.rest b.right.formed r.right.formed.funcs b.is);
  };
}
  where
    by_next : (b : Begins (map spaced (open_lines unit fs) ++ line ∷ [])) → Continues b.cert unit fs line b.rest → ⊥
    by_next b c = elim c.next as (λ _. ⊥) [ inl p ↦ end (is_end line p.0) | inr p ↦ w.wide (subst AreWithin (some_same (p.1).new w.x (sym (p.1).found ∙ w.is)) (adds_back p.0 (p.1).new b.cert.funcs (p.1).others b.right.within.funcs)) ]

pub line_more : (text : List ℕ) (unit : ℕ) (fs gs : List FuncCert) (rest line after : List ℕ) (n : ℕ) → Reading text unit fs rest n
    → HasLine rest line after → IsRead (add_line (words line) fs) AreWithin gs → Reading text unit gs after (n + 1)
line_more text unit fs gs rest line after n r h g = record {
  right = record { formed = record { some_units = r.right.formed.some_units; funcs = grown.formed r.right.formed.funcs }; within = record { unit = r.right.within.unit; funcs = g.fits } };
  parts = r.parts ∙ ap (λ l. text_of_lines (map spaced (open_lines unit fs)) ++ l) h.parts ∙ sym (last_line (map spaced (open_lines unit fs)) line after) ∙ ap (λ l. text_of_lines l ++ after) (sym (line_lines unit fs gs line g.is));
  count = omega (arith, r.count, lengths);
  few = omega (arith, r.few, shorter);
}
  where
    grown : AllGrown fs (words line) gs
    grown = line_grown (words line) fs gs g.is

    lengths : length (open_lines unit gs) ≡ suc (length (open_lines unit fs))
    lengths = sym (length-map (open_lines unit gs) spaced) ∙ ap length (line_lines unit fs gs line g.is) ∙ length-append (map spaced (open_lines unit fs)) (line ∷ []) ∙ (omega (arith, length-map (open_lines unit fs) spaced))

    shorter : length rest ≡ length line + suc (length after)
    shorter = ap length h.parts ∙ length-append line (10 ∷ after)

-- ---- the end

end_parts : (text : List ℕ) (unit : ℕ) (fs : List FuncCert) (rest line after : List ℕ) (n : ℕ) → Reading text unit fs rest n
    → HasLine rest line after → line ≡ codes "end" → text ≡ text_of_lines (lines_of (cert_by unit fs)) ++ after
end_parts text unit fs rest line after n r h e =
    r.parts ∙ ap (λ l. text_of_lines (map spaced (open_lines unit fs)) ++ l) (h.parts ∙ ap (λ l. l ++ 10 ∷ after) e) ∙ sym (last_line (map spaced (open_lines unit fs)) (codes "end") after) ∙ ap (λ l. text_of_lines l ++ after) (sym (lines_all unit fs))

pub end_read : (text : List ℕ) (unit : ℕ) (fs : List FuncCert) (rest line after : List ℕ) (n : ℕ) → Reading text unit fs rest n
    → HasLine rest line after → line ≡ codes "end" → after ≡ [] → IsWhole text unit fs
unfolding text_of
end_read text unit fs rest line after n r h e a = record { right = r.right; is = sym (end_parts text unit fs rest line after n r h e ∙ ap (λ l. text_of (cert_by unit fs) ++ l) a ∙ append-nil (text_of (cert_by unit fs))) }

pub end_more : (text : List ℕ) (unit : ℕ) (fs : List FuncCert) (rest line after : List ℕ) (n : ℕ) → Reading text unit fs rest n
    → HasLine rest line after → line ≡ codes "end" → (after ≡ [] → ⊥) → IsLineFault text (n + 1)
end_more text unit fs rest line after n r h e a = record {
  before = lines_of (cert_by unit fs);
  count = omega (arith, r.count, lengths);
  fault = by_line (line_or_none after);
}
  where
    parts : text ≡ text_of_lines (lines_of (cert_by unit fs)) ++ after
    parts = end_parts text unit fs rest line after n r h e

    lengths : length (lines_of (cert_by unit fs)) ≡ suc (length (open_lines unit fs))
    lengths = ap length (lines_all unit fs) ∙ length-append (map spaced (open_lines unit fs)) (spaced last_words ∷ []) ∙ (omega (arith, length-map (open_lines unit fs) spaced))

    good : Begins (lines_of (cert_by unit fs))
    good = record { cert = cert_by unit fs; rest = []; is = sym (append-nil (lines_of (cert_by unit fs))); right = r.right }

    by_next : (d : Cert) (l : List ℕ) (ls : List (List ℕ)) → Continues d unit fs (spaced last_words) (l ∷ ls) → ⊥
    by_next d l ls c = elim c.next as (λ _. ⊥) [ inl p ↦ no_cons p.1 | inr p ↦ none_some (add_line last_words fs) (p.1).new (adds_end fs) (p.1).found ]
      where
        no_cons : l ∷ ls ≡ [] → ⊥
        no_cons e = absurd cc

    by_line : Free 10 after ⊎ ((l s : List ℕ) × HasLine after l s)
        → ((l : List ℕ) × GoesOn text (lines_of (cert_by unit fs)) l × IsWrongLine (lines_of (cert_by unit fs)) l)
        ⊎ EndsEarly text (lines_of (cert_by unit fs))
    by_line (inl free) = inr (early_end text (lines_of (cert_by unit fs)) after parts free good (cert_feed (cert_by unit fs) r.right.formed) (record { none = λ c k q z. a z }))
    by_line (inr (l, s, d)) = inl (
      l,
      record { rest = s; parts = parts ∙ ap (λ k. text_of_lines (lines_of (cert_by unit fs)) ++ k) d.parts; one = d.one },
      record {
        good = good;
        wrong = λ b. by_next b.cert l b.rest (continues b.cert unit fs (spaced last_words) (l ∷ b.rest) b.right r.right.formed.funcs
            (b.is ∙ append_assoc (lines_of (cert_by unit fs)) (l ∷ []) b.rest ∙ ap (λ k. k ++ l ∷ b.rest) (lines_all unit fs) ∙ append_assoc (map spaced (open_lines unit fs)) (spaced last_words ∷ []) (l ∷ b.rest)));
      },
    )
