-- Unknowns of the code are told apart as those of the definition.
use Rattle.std.proofs.Common.{◌≡◌, ◌↔◌, Bool, true, false, refl, sym, ap, ◌∙◌}
use Rattle.std.specs.Prelude.{IsTrue}
use Rattle.lp_system.specs.Unknowns.{Unknown, Need, Back, Param, Result, BlockNeed, BlockVar, Made, same}
use Rattle.lp_system.specs.theory.Values.{same_is, is_same}
use Rattle.lp_rows.specs.Plain.{plain}
use Rattle.lp_rows.specs.declared.unknown.Origin.TheVariants as origin
use Rattle.lp_rows.specs.declared.unknown.Unknown.{Unknown as DeclaredUnknown}
use Rattle.lp_rows.specs.declared.unknown.Unknown.TheVariants as unknown

-- what an unknown of the definition is in the code
abbrev back : Unknown → DeclaredUnknown
back (Need func) = unknown.Need func
back (Back func) = unknown.Back func
back (Param func var con) = unknown.Unit (origin.Param func var) con
back (Result func con) = unknown.Unit (origin.Outcome func) con
back (BlockNeed func block) = unknown.BlockNeed func block
back (BlockVar func block var con) = unknown.Unit (origin.BlockVar func block var) con
back (Made func block place con) = unknown.Unit (origin.Made func block place) con

back_plain : (u : DeclaredUnknown) → back (plain u) ≡ u
back_plain (unknown.Need func) = refl
back_plain (unknown.Back func) = refl
back_plain (unknown.BlockNeed func block) = refl
back_plain (unknown.Unit (origin.Param func var) con) = refl
back_plain (unknown.Unit (origin.Outcome func) con) = refl
back_plain (unknown.Unit (origin.BlockVar func block var) con) = refl
back_plain (unknown.Unit (origin.Made func block place) con) = refl

one_plain : (u v : DeclaredUnknown) → plain u ≡ plain v → u ≡ v
one_plain u v e = sym (back_plain u) ∙ ap back e ∙ back_plain v

pub agree : (r : Bool) (u v : DeclaredUnknown) → (IsTrue r ↔ (u ≡ v)) → r ≡ same (plain u) (plain v)
agree r u v h = by_case r (same (plain u) (plain v)) h refl
  where
    by_case : (r s : Bool) → (IsTrue r ↔ (u ≡ v)) → same (plain u) (plain v) ≡ s → r ≡ s
    by_case true true h e = refl
    by_case false false h e = refl
    by_case true false h e = let t : same (plain u) (plain v) ≡ true = is_same (plain u) (plain v) (ap plain (h.0 refl)) in absurd cc
    by_case false true h e = let f : IsTrue false = h.1 (one_plain u v (same_is (plain u) (plain v) e)) in absurd cc
