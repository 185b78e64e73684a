-- One turn of a reading, over plain variables.
use Rattle.std.proofs.Common.{◌≡◌, ℕ, ◌+◌, ◌-◌, ◌<◌, ◌≤◌, List, ◌++◌, length, take, ap, ◌∙◌, arith, min, length-append, length-take-le, Option, Some, None}
use Rattle.std.proofs.lemmas.List.{length-take}
use Rattle.std.specs.Io.KnownBytes.{Consumes, IsAtEnd}
use Rattle.std.proofs.KnownBytes.{Consumes-trans}
use Rattle.host_io.specs.Counts.{risen}
use Rattle.host_io.specs.Source.{EndsExactly, Took, TookAtMost, TookExactly}

-- what a read consumed says when it is the end
pub ends_exactly : (a b : Option (List ℕ)) (n : ℕ) (into : List ℕ) → Consumes a b (take n into) → (n ≡ 0 → 0 < length into → IsAtEnd b)
    → n ≤ length into → 0 < length into → EndsExactly a n
ends_exactly None b n into p q h k = tt
ends_exactly (Some xs) None n into p q h k = absurd p
ends_exactly (Some xs) (Some ys) n into p q h k = (
  λ none. p ∙ ap (λ i. take i into ++ ys) none ∙ q none k,
  λ empty. omega (arith, ap length p, ap length empty, length-append {A = ℕ} (take n into) ys, length-take-le n into h),
)

-- what holds at the start of each turn: these bytes were taken, there is no fault, and the limit is kept
pub record Reading (limit : ℕ) (a b : Option (List ℕ)) (t u f g : ℕ) (xs : List ℕ) : Type 0 where
  pub took : Took a b t u xs
  pub steady : g ≡ f
  pub within : length xs ≤ limit

pub takes_more : (a b c : Option (List ℕ)) (t u v n : ℕ) (xs into : List ℕ) → Took a b t u xs → Consumes b c (take n into) → n ≤ length into
    → v ≡ risen u n → Took a c t v (xs ++ take n into)
takes_more a b c t u v n xs into p q h e =
    let k = p.counted in
    record {
      gone = Consumes-trans a b c xs (take n into) p.gone q;
      counted = omega (arith, length-append {A = ℕ} xs (take n into), length-take-le n into h);
    }

-- the last turn took more bytes than there was room for, which is just one more
pub stops_past : (a b c : Option (List ℕ)) (limit t u v n held want most : ℕ) (xs into chunk : List ℕ) → Took a b t u xs → Consumes b c (take n into)
    → v ≡ risen u n → length xs ≤ limit → n ≤ length into → length into ≡ length (take (want + 1) chunk)
    → want ≡ min (limit - held) most → held ≡ length xs → limit - held < n → TookExactly (limit + 1) a c t v
stops_past a b c limit t u v n held want most xs into chunk p q e s h k m l o = record {
  bytes = xs ++ take n into;
  number = omega (arith, length-append {A = ℕ} xs (take n into), length-take-le n into h, length-take (want + 1) chunk);
  took = takes_more a b c t u v n xs into p q h e;
}

-- the last turn took bytes for which there was room, but no memory
pub stops_full : (a b c : Option (List ℕ)) (limit t u v n held : ℕ) (xs into : List ℕ) → Took a b t u xs → Consumes b c (take n into) → v ≡ risen u n
    → length xs ≤ limit → n ≤ length into → held ≡ length xs → n ≤ limit - held → TookAtMost limit a c t v
stops_full a b c limit t u v n held xs into p q e s h l m = record {
  bytes = xs ++ take n into;
  within = omega (arith, length-append {A = ℕ} xs (take n into), length-take-le n into h);
  took = takes_more a b c t u v n xs into p q h e;
}

pub stops_within : (a b : Option (List ℕ)) (t u most : ℕ) (xs : List ℕ) → Took a b t u xs → length xs ≤ most → TookAtMost most a b t u
stops_within a b t u most xs p h = record { bytes = xs; within = h; took = p }
