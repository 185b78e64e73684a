-- Laws, for crates above.
-- The lines of a journal's events tell the journal, where the names of the jobs tell the jobs.
use Rattle.std.proofs.Common.{◌≡◌, ℕ, ◌^◌, ◌<◌, ◌≤◌, false, List, [], ◌∷◌, ◌++◌, refl, sym, ap, ◌∙◌, subst, arith, append_assoc}
use Rattle.std.specs.Prelude.{codes, decimal}
use Rattle.std.proofs.lemmas.List.{append_cancel_left}
use Rattle.camelot_values.specs.Names.{is_digit}
use Rattle.text_lines.specs.NumberLaws.{number-decimal, number_free, number_one}
use Rattle.text_lines.specs.Cuts.{upto, from}
use Rattle.text_lines.specs.OptionLaws.{same_cons}
use Rattle.text_lines.specs.Lines.{Free}
use Rattle.text_lines.specs.CutLaws.{upto_cut, from_cut}
use Rattle.lease_desk.specs.declared.event.Event.{Event}
use Rattle.lease_desk.specs.declared.event.Event.TheVariants as event
use Rattle.run_reports.specs.JobNames.{AreNames}
use Rattle.run_reports.specs.Report.{event_text, event_lines}
use Rattle.lease_desk.specs.Within.{AreWithin, IsEventWithin, AreEventsWithin}

-- ---- cuts

-- what stands in front of the first such byte, and what behind it
pub one_cut : (byte : ℕ) (v w r s : List ℕ) → Free byte v → Free byte w → v ++ byte ∷ r ≡ w ++ byte ∷ s → (v ≡ w) × (r ≡ s)
one_cut byte v w r s h k e =
    let front : v ≡ w = sym (upto_cut byte v r h) ∙ ap (upto byte) e ∙ upto_cut byte w s k in
    let rest : byte ∷ r ≡ byte ∷ s = sym (from_cut byte v r h) ∙ ap (from byte) e ∙ from_cut byte w s k in
    (front, (same_cons byte byte r s rest).1)

-- ---- decimals

decimal_free : (byte n : ℕ) → n < 2 ^ 64 → is_digit byte ≡ false → Free byte (decimal n)
decimal_free byte n h k = subst (Free byte) (number-decimal n h) (number_free byte n k)

decimal_one : (m n : ℕ) → m < 2 ^ 64 → n < 2 ^ 64 → decimal m ≡ decimal n → m ≡ n
decimal_one m n h k e = number_one m n (number-decimal m h ∙ e ∙ sym (number-decimal n k))

-- ---- lines of three parts

-- a name and two numbers, each behind a word, and a line feed; and what follows
abbrev line : (x n y p z q r : List ℕ) → List ℕ
line x n y p z q r = x ++ (n ++ 32 ∷ (y ++ (p ++ 32 ∷ (z ++ (q ++ 10 ∷ r)))))

regroup : (x n y p z q r : List ℕ) → ((x ++ n) ++ (32 ∷ y ++ p) ++ (32 ∷ z ++ q) ++ 10 ∷ []) ++ r ≡ line x n y p z q r
regroup x n y p z q r =
    append_assoc ((x ++ n) ++ (32 ∷ y ++ p) ++ (32 ∷ z ++ q)) (10 ∷ []) r
    ∙ append_assoc ((x ++ n) ++ (32 ∷ y ++ p)) (32 ∷ z ++ q) (10 ∷ r)
    ∙ append_assoc (x ++ n) (32 ∷ y ++ p) ((32 ∷ z ++ q) ++ 10 ∷ r)
    ∙ append_assoc x n ((32 ∷ y ++ p) ++ ((32 ∷ z ++ q) ++ 10 ∷ r))
    ∙ ap (λ l. x ++ (n ++ 32 ∷ l)) (append_assoc y p ((32 ∷ z ++ q) ++ 10 ∷ r) ∙ ap (λ l. y ++ (p ++ 32 ∷ l)) (append_assoc z q (10 ∷ r)))

record Same (n m p o q t r s : List ℕ) : Type 0 where
  name : n ≡ m
  first : p ≡ o
  second : q ≡ t
  rest : r ≡ s

one_line : (x y z n m p o q t r s : List ℕ) → Free 32 n → Free 32 m → Free 32 p → Free 32 o → Free 10 q → Free 10 t
    → line x n y p z q r ≡ line x m y o z t s → Same n m p o q t r s
one_line x y z n m p o q t r s fn fm fp fo fq ft e =
    let a = one_cut 32 n m (y ++ (p ++ 32 ∷ (z ++ (q ++ 10 ∷ r)))) (y ++ (o ++ 32 ∷ (z ++ (t ++ 10 ∷ s)))) fn fm
    (append_cancel_left x (n ++ 32 ∷ (y ++ (p ++ 32 ∷ (z ++ (q ++ 10 ∷ r))))) (m ++ 32 ∷ (y ++ (o ++ 32 ∷ (z ++ (t ++ 10 ∷ s))))) e) in
    let b = one_cut 32 p o (z ++ (q ++ 10 ∷ r)) (z ++ (t ++ 10 ∷ s)) fp fo (append_cancel_left y (p ++ 32 ∷ (z ++ (q ++ 10 ∷ r))) (o ++ 32 ∷ (z ++ (t ++ 10 ∷ s))) a.1) in
    let c = one_cut 10 q t r s fq ft (append_cancel_left z (q ++ 10 ∷ r) (t ++ 10 ∷ s) b.1) in
    record { name = a.0; first = b.0; second = c.0; rest = c.1 }

-- ---- events

-- the two numbers of both lines, and what follows
record SameParts (i j a b c d : ℕ) (r s : List ℕ) : Type 0 where
  job : i ≡ j
  first : a ≡ b
  second : c ≡ d
  rest : r ≡ s

module _ (name : ℕ → List ℕ) (arena jobs : ℕ) (few : arena < 2 ^ 64) (names : AreNames name jobs) where
  one_parts : (x y z : List ℕ) (i j a b c d : ℕ) (r s : List ℕ) → AreWithin arena jobs i a c → AreWithin arena jobs j b d
      → ((x ++ name i) ++ (32 ∷ y ++ decimal a) ++ (32 ∷ z ++ decimal c) ++ 10 ∷ []) ++ r ≡ ((x ++ name j) ++ (32 ∷ y ++ decimal b) ++ (32 ∷ z ++ decimal d) ++ 10 ∷ []) ++ s
      → SameParts i j a b c d r s
  one_parts x y z i j a b c d r s h k e =
      let small : (n : ℕ) → n ≤ arena → n < 2 ^ 64 = λ n l. omega (arith, l, few) in
      let q = one_line x y z (name i) (name j) (decimal a) (decimal b) (decimal c) (decimal d) r s (names.free i h.job) (names.free j k.job)
      (decimal_free 32 a (small a h.first) refl) (decimal_free 32 b (small b k.first) refl) (decimal_free 10 c (small c h.second) refl) (decimal_free 10 d (small d k.second) refl)
      (sym (regroup x (name i) y (decimal a) z (decimal c) r) ∙ e ∙ regroup x (name j) y (decimal b) z (decimal d) s) in
      record {
        job = names.one i j h.job k.job q.name;
        first = decimal_one a b (small a h.first) (small b k.first) q.first;
        second = decimal_one c d (small c h.second) (small d k.second) q.second;
        rest = q.rest;
      }

  abbrev head : List ℕ → ℕ
  head [] = 0
  head (b ∷ bs) = b

  one_event : (e f : Event) (r s : List ℕ) → IsEventWithin arena jobs e → IsEventWithin arena jobs f → event_text name e ++ r ≡ event_text name f ++ s
      → (e ≡ f) × (r ≡ s)
  unfolding event_text
  one_event (event.Took i a c) (event.Took j b d) r s h k e =
      let q = one_parts (codes "took ") (codes "first ") (codes "size ") i j a b c d r s h k e in ((λ x. event.Took (q.job x) (q.first x) (q.second x)), q.rest)
  one_event (event.Took i a c) (event.Full j b d) r s h k e = let z : 116 ≡ 102 = ap head e in absurd (omega (arith, z))
  one_event (event.Took i a c) (event.Gave j b d) r s h k e = let z : 116 ≡ 103 = ap head e in absurd (omega (arith, z))
  one_event (event.Full i a c) (event.Took j b d) r s h k e = let z : 102 ≡ 116 = ap head e in absurd (omega (arith, z))
  one_event (event.Full i a c) (event.Full j b d) r s h k e =
      let q = one_parts (codes "full ") (codes "need ") (codes "largest ") i j a b c d r s h k e in ((λ x. event.Full (q.job x) (q.first x) (q.second x)), q.rest)
  one_event (event.Full i a c) (event.Gave j b d) r s h k e = let z : 102 ≡ 103 = ap head e in absurd (omega (arith, z))
  one_event (event.Gave i a c) (event.Took j b d) r s h k e = let z : 103 ≡ 116 = ap head e in absurd (omega (arith, z))
  one_event (event.Gave i a c) (event.Full j b d) r s h k e = let z : 103 ≡ 102 = ap head e in absurd (omega (arith, z))
  one_event (event.Gave i a c) (event.Gave j b d) r s h k e =
      let q = one_parts (codes "gave ") (codes "first ") (codes "size ") i j a b c d r s h k e in ((λ x. event.Gave (q.job x) (q.first x) (q.second x)), q.rest)

  some_text : (e : Event) (r : List ℕ) → event_text name e ++ r ≡ [] → ⊥
  unfolding event_text
  some_text (event.Took i a c) r e = let z : 116 ≡ 0 = ap head e in absurd (omega (arith, z))
  some_text (event.Full i a c) r e = let z : 102 ≡ 0 = ap head e in absurd (omega (arith, z))
  some_text (event.Gave i a c) r e = let z : 103 ≡ 0 = ap head e in absurd (omega (arith, z))

  pub one_journal : (es fs : List Event) → AreEventsWithin arena jobs es → AreEventsWithin arena jobs fs → event_lines name es ≡ event_lines name fs → es ≡ fs
  one_journal [] [] h k e = refl
  one_journal [] (f ∷ fs) h k e = absurd (some_text f (event_lines name fs) (sym e))
  one_journal (x ∷ es) [] h k e = absurd (some_text x (event_lines name es) e)
  one_journal (x ∷ es) (f ∷ fs) h k e =
      let q = one_event x f (event_lines name es) (event_lines name fs) h.0 k.0 e in
      let rest : es ≡ fs = one_journal es fs h.1 k.1 q.1 in
      λ i. q.0 i ∷ rest i
