-- How many entries a script has.
use Rattle.std.proofs.Common.{◌≡◌, ◌≤◌, List, length, map, sym, subst}
use Rattle.job_script.specs.Words.{entry_of}
use Rattle.job_script.specs.declared.types.Entry.{Entry as DeclaredEntry}

pub few_entries : (entries given : List DeclaredEntry) → given ≡ entries → length (map entry_of entries) ≤ 4160 → length (map entry_of given) ≤ 4160
few_entries entries given same h = subst (λ (l : List DeclaredEntry). length (map entry_of l) ≤ 4160) (sym same) h
