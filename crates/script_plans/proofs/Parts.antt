-- Entries in two parts.
use Rattle.std.proofs.Common.{◌≡◌, List, [], ◌∷◌, ◌++◌, map, refl, sym, ap, ◌∙◌, subst}
use Rattle.std.specs.List.{AllByRecursion}
use Rattle.job_script.specs.Scripts.{Entry}
use Rattle.job_script.specs.Words.{entry_of}
use Rattle.job_script.specs.declared.types.Entry.{Entry as DeclaredEntry}

both_parts : (P : Entry → Type 0) (xs ys : List DeclaredEntry) → AllByRecursion P (map entry_of (xs ++ ys))
    → AllByRecursion P (map entry_of xs) × AllByRecursion P (map entry_of ys)
both_parts P [] ys a = (tt, a)
both_parts P (x ∷ xs) ys a = let b = both_parts P xs ys a.1 in ((a.0, b.0), b.1)

-- what holds of all holds of each part
pub of_parts : (P : Entry → Type 0) (all xs ys : List DeclaredEntry) → all ≡ xs ++ ys → AllByRecursion P (map entry_of all)
    → AllByRecursion P (map entry_of xs) × AllByRecursion P (map entry_of ys)
of_parts P all xs ys e a = both_parts P xs ys (subst (λ (l : List DeclaredEntry). AllByRecursion P (map entry_of l)) e a)

map_both : (xs ys : List DeclaredEntry) → map entry_of (xs ++ ys) ≡ map entry_of xs ++ map entry_of ys
map_both [] ys = refl
map_both (x ∷ xs) ys = ap (λ l. entry_of x ∷ l) (map_both xs ys)

-- and what holds of both behind one another holds of all
pub of_both : (P : List Entry → Type 0) (all xs ys : List DeclaredEntry) → all ≡ xs ++ ys → P (map entry_of xs ++ map entry_of ys) → P (map entry_of all)
of_both P all xs ys e h = subst P (sym (ap (map entry_of) e ∙ map_both xs ys)) h
