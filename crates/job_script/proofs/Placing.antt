-- The reader behind one more entry.
use Rattle.std.proofs.Common.{◌≡◌, ℕ, ◌+◌, ◌<◌, ◌≤◌, true, false, List, [], ◌∷◌, ◌++◌, length, map, refl, sym, ap, ◌∙◌, arith, length-append}
use Rattle.std.specs.Prelude.{◌==◌}
use Rattle.std.proofs.lemmas.Bool.Decides.{nat_tests}
use Rattle.std.proofs.lemmas.List.{map-append}
use Rattle.text_lines.specs.Lines.{HasLine}
use Rattle.job_script.specs.Scripts.{Entry}
use Rattle.job_script.specs.Words.{entry_of}
use Rattle.job_script.specs.declared.types.Entry.{Entry as DeclaredEntry}

pub items_more : (old new : List DeclaredEntry) (entry : DeclaredEntry) (e : Entry) → new ≡ old ++ entry ∷ [] → entry_of entry ≡ e
    → map entry_of new ≡ map entry_of old ++ e ∷ []
items_more old new entry e h k = ap (map entry_of) h ∙ map-append entry_of old (entry ∷ []) ∙ ap (λ x. map entry_of old ++ x ∷ []) k

pub shorter : (rest line after : List ℕ) → HasLine rest line after → length after < length rest
shorter rest line after h = omega (arith, ap length h.parts, length-append line (10 ∷ after))

pub behind_shorter : (rest line after left : List ℕ) (size : ℕ) → HasLine rest line after → size + length left + 2 ≤ length after → length left < length rest
behind_shorter rest line after left size h k = omega (arith, shorter rest line after h, k)

pub none_left : (rest : List ℕ) → (length rest == 0) ≡ true → rest ≡ []
none_left [] h = refl
none_left (b ∷ rest) h = absurd (let t : (length (b ∷ rest) == 0) ≡ false = grind (arith, nat_tests) in let e : true ≡ false = sym h ∙ t in cc)
