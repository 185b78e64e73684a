-- Locals used and bound one after the other.
use Rattle.std.proofs.Common.{◌≡◌, ℕ, ◌≤◌, Bool, true, false, List, [], ◌∷◌, ◌++◌, length, drop, refl, sym, ap, ◌∙◌, drop_of_length-le}
use Rattle.std.specs.Prelude.{slice_set, replicate, if◌then◌else◌}
use Rattle.std.proofs.lemmas.List.{length-set, length-replicate}
use Rattle.grail_code.specs.Code.{Let, Code}
use Rattle.grail_code.specs.WellFormed.{takes}
use Rattle.grail_check.specs.Faulting.{is_owned_at, bind, bind_all, spend, spend_all, after_let, after_lets, have_kinds}
use Rattle.camelot_values.specs.declared.kinds.Kind.{Kind}
use Rattle.grail_check.specs.declared.locals.Local.{Local}
use Rattle.grail_check.specs.declared.locals.Mark.{Mark}
use Rattle.grail_check.specs.declared.locals.Mark.TheVariants as mark

pub spend_both : (locals : List Local) (marks : List Mark) (xs ys : List ℕ)
    → spend_all locals marks (xs ++ ys) ≡ spend_all locals (spend_all locals marks xs) ys
spend_both locals marks [] ys = refl
spend_both locals marks (x ∷ xs) ys = spend_both locals (spend locals marks x) xs ys

no_kinds : (locals : List Local) (xs : List ℕ) → have_kinds locals xs [] ≡ true
no_kinds locals [] = refl
no_kinds locals (x ∷ xs) = refl

-- behind the last kind nothing is asked
pub kinds_end : (locals : List Local) (xs : List ℕ) (ks : List Kind) (i : ℕ) (b : Bool) → length ks ≤ i
    → have_kinds locals (drop i xs) (drop i ks) ≡ b → true ≡ b
kinds_end locals xs ks i b h e = sym (no_kinds locals (drop i xs)) ∙ ap (have_kinds locals (drop i xs)) (sym (drop_of_length-le ks h)) ∙ e

-- ---- there are as many marks as before

pub length_spend : (locals : List Local) (marks : List Mark) (x : ℕ) → length (spend locals marks x) ≡ length marks
length_spend locals marks x = by_test (is_owned_at locals x)
  where
    by_test : (b : Bool) → length (if b then slice_set marks x mark.Spent else marks) ≡ length marks
    by_test true = length-set marks x mark.Spent
    by_test false = refl

pub length_spend_all : (locals : List Local) (marks : List Mark) (xs : List ℕ) → length (spend_all locals marks xs) ≡ length marks
length_spend_all locals marks [] = refl
length_spend_all locals marks (x ∷ xs) = length_spend_all locals (spend locals marks x) xs ∙ length_spend locals marks x

length_bind_all : (marks : List Mark) (xs : List ℕ) → length (bind_all marks xs) ≡ length marks
length_bind_all marks [] = refl
length_bind_all marks (x ∷ xs) = length_bind_all (bind marks x) xs ∙ length-set marks x mark.Ready

length_after_lets : (p : Code) (locals : List Local) (marks : List Mark) (ls : List Let) → length (after_lets p locals marks ls) ≡ length marks
length_after_lets p locals marks [] = refl
length_after_lets p locals marks (l ∷ ls) =
    length_after_lets p locals (after_let p locals marks l) ls
    ∙ length-set (spend_all locals marks (takes p l.op)) l.target mark.Ready
    ∙ length_spend_all locals marks (takes p l.op)

-- behind the lets of a block that begins with all locals unbound
pub length_at_end : (p : Code) (locals : List Local) (n : ℕ) (params : List ℕ) (ls : List Let)
    → length (after_lets p locals (bind_all (replicate n mark.Unbound) params) ls) ≡ n
length_at_end p locals n params ls =
    length_after_lets p locals (bind_all (replicate n mark.Unbound) params) ls
    ∙ length_bind_all (replicate n mark.Unbound) params
    ∙ length-replicate n mark.Unbound
