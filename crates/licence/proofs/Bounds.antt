-- What a licence says of one entry.
use Rattle.std.proofs.Common.{◌≡◌, ℕ, zero, suc, ◌+◌, ◌≤◌, List, [], ◌∷◌, length, map, Option, Some, None, refl, sym, ap, ◌∙◌, subst, arith}
use Rattle.std.specs.Prelude.{◌/◌, ◌<◌, max, slice_get, IsSomeAnd}
use Rattle.std.specs.List.{AllByRecursion}
use Rattle.std.specs.Option.{option_map_or}
use Rattle.camelot_values.specs.Value.{Value, parts}
use Rattle.camelot_values.specs.Kinds.{DataType}
use Rattle.camelot_values.specs.Counts.{cells_among, size_all}
use Rattle.camelot_values.specs.CountLaws.{cells_all_within}
use Rattle.camelot_values.specs.Typing.{ArgumentsFit}
use Rattle.camelot_values.specs.Outcome.{peak_of}
use Rattle.grail_code.specs.Code.{Func, Code}
use Rattle.grail_code.specs.Limits.{IsWithinLimits}
use Rattle.grail_code.specs.Meaning.{run_of}
use Rattle.grail_code.specs.Soundness.{HaveBlocks}
use Rattle.annotations.specs.Vectors.{at}
use Rattle.certificate.specs.Words.{func_of}
use Rattle.certificate.specs.declared.types.FuncCert.{FuncCert as DeclaredFunc}
use Rattle.certificate.specs.Certificates.{FuncCert, FuncIsWithin, Cert, IsCert}
use Rattle.licence.specs.Books.{vector_of, book_of}
use Rattle.licence.specs.Fitting.{Right}
use Rattle.licence.specs.Bound.{arguments_carry, units_at, bound}
use Rattle.licence.specs.Licensed.{Licensed, IsLicensed, FitsEntry}
use Rattle.licence.specs.PotentialLaws.{peak_bound}

below_length : {A : Type 0} (xs : List A) (i : ℕ) (x : A) → slice_get xs i ≡ Some x → i < length xs
below_length [] i x e = let c : None ≡ Some x = e in absurd cc
below_length (y ∷ xs) zero x e = omega arith
below_length (y ∷ xs) (suc i) x e = let less = below_length xs i x e in omega (arith, less)

-- the certificate has a function for each of the code's
pub entry_there : (l : Licensed) (entry : ℕ) (args : List Value) → IsLicensed l → FitsEntry l entry args → entry < length l.cert.funcs
entry_there l entry args h fit = by_func (slice_get l.code.funcs entry) fit (slice_get l.cert.funcs entry) refl (h.grants.fits entry 0)
  where
    by_func : (o : Option Func) → IsSomeAnd o (λ f. ArgumentsFit l.code.types f.params args) → (c : Option FuncCert)
        → slice_get l.cert.funcs entry ≡ c → Right l.code 0 o c → entry < length l.cert.funcs
    by_func None g c e r = absurd g
    by_func (Some f) g None e r = absurd (r refl)
    by_func (Some f) g (Some c) e r = below_length l.cert.funcs entry c e

length_map : (funcs : List DeclaredFunc) → length (map func_of funcs) ≡ length funcs
length_map [] = refl
length_map (f ∷ fs) = ap suc (length_map fs)

pub index_there : (funcs : List DeclaredFunc) (c : Cert) (l : Licensed) (entry : ℕ) (args : List Value) → map func_of funcs ≡ c.funcs → c ≡ l.cert
    → IsLicensed l → FitsEntry l entry args → entry < length funcs
index_there funcs c l entry args is same h fit =
    let less = entry_there l entry args h fit in
    let size : length funcs ≡ length l.cert.funcs = sym (length_map funcs) ∙ ap length is ∙ ap (λ d. length d.funcs) same in
    omega (arith, less, size)

got_at : (funcs : List DeclaredFunc) (i : ℕ) (f : DeclaredFunc) → slice_get funcs i ≡ Some f → slice_get (map func_of funcs) i ≡ Some (func_of f)
got_at [] i f e = let c : None ≡ Some f = e in absurd cc
got_at (g ∷ fs) zero f e = let same : g ≡ f = cc in ap (λ d. Some (func_of d)) same
got_at (g ∷ fs) (suc i) f e = got_at fs i f e

pub entry_is : (funcs : List DeclaredFunc) (c : Cert) (l : Licensed) (entry : ℕ) (f : DeclaredFunc) → map func_of funcs ≡ c.funcs → c ≡ l.cert
    → slice_get funcs entry ≡ Some f → slice_get l.cert.funcs entry ≡ Some (func_of f)
entry_is funcs c l entry f is same e = sym (ap (λ fs. slice_get fs entry) (is ∙ ap (λ d. d.funcs) same)) ∙ got_at funcs entry f e

within_at : (fs : List FuncCert) (i : ℕ) (f : FuncCert) → AllByRecursion FuncIsWithin fs → slice_get fs i ≡ Some f → FuncIsWithin f
within_at [] i f h e = let c : None ≡ Some f = e in absurd cc
within_at (g ∷ fs) zero f h e = let same : g ≡ f = cc in subst FuncIsWithin same h.0
within_at (g ∷ fs) (suc i) f h e = within_at fs i f h.1 e

pub entry_within : (c d : Cert) (entry : ℕ) (f : FuncCert) → IsCert c → c ≡ d → slice_get d.funcs entry ≡ Some f → FuncIsWithin f
entry_within c d entry f h same e = within_at c.funcs entry f h.within.funcs (ap (λ x. slice_get x.funcs entry) same ∙ e)

-- the sum is that of the book
pub units_are : (p : Code) (c : Cert) (entry : ℕ) (f : FuncCert) (vs : List Value) → slice_get c.funcs entry ≡ Some f
    → f.need + arguments_carry p.types (λ x. at (vector_of f.params x)) 0 vs ≡ units_at p (book_of c) entry vs
units_are p c entry f vs e =
    let one : f.need ≡ (book_of c).need entry = ap (λ o. option_map_or (λ g. g.need) o 0) (sym e) in
    let two : arguments_carry p.types (λ x. at (vector_of f.params x)) 0 vs ≡ arguments_carry p.types ((book_of c).param entry) 0 vs
    = ap (λ o. arguments_carry p.types (λ x. at (option_map_or (λ g. vector_of g.params x) o [])) 0 vs) (sym e) in
    omega (arith, one, two)

-- ---- what holds of every run

func_of_entry : (l : Licensed) (entry : ℕ) (args : List Value) → FitsEntry l entry args
    → (f : Func) × (slice_get l.code.funcs entry ≡ Some f) × ArgumentsFit l.code.types f.params args
func_of_entry l entry args fit = by_func (slice_get l.code.funcs entry) refl fit
  where
    by_func : (o : Option Func) → slice_get l.code.funcs entry ≡ o → IsSomeAnd o (λ f. ArgumentsFit l.code.types f.params args)
        → (f : Func) × (slice_get l.code.funcs entry ≡ Some f) × ArgumentsFit l.code.types f.params args
    by_func None e g = absurd g
    by_func (Some f) e g = (f, e, g)

pub peak_within : (l : Licensed) (entry : ℕ) (args : List Value) → IsLicensed l → IsWithinLimits l.code → HaveBlocks l.code → FitsEntry l entry args
    → (limit fuel : ℕ) → peak_of (run_of l.code limit entry fuel args) ≤ bound l.code l.cert entry args
peak_within l entry args h limits some fit limit fuel =
    let f = func_of_entry l entry args fit in
    peak_bound l.code l.cert h.well some limits.types h.grants.pays limit entry fuel args f.0 f.1 f.2

-- ---- the sums of a bound and a lease

pub bound_is : (l : Licensed) (c : Cert) (entry : ℕ) (args : List Value) (units unit : ℕ) → units ≡ units_at l.code (book_of l.cert) entry args
    → unit ≡ c.unit → c ≡ l.cert → units / unit ≡ bound l.code l.cert entry args
bound_is l c entry args units unit is one same = ap (λ n. n / unit) is ∙ ap (λ m. units_at l.code (book_of l.cert) entry args / m) (one ∙ ap (λ d. d.unit) same)

pub few_cells : (types : List DataType) (args : List Value) → size_all (parts args) ≤ 65536 → cells_among types args ≤ 65536
few_cells types args few = let h = cells_all_within types (parts args) in omega (arith, h, few)

pub one_at_least : (cells peak cells' bound lease : ℕ) → cells' ≡ cells → peak ≤ bound → lease ≡ max (cells' + bound) 1 → cells + peak ≤ lease
one_at_least cells peak cells' bound lease same less is = grind (arith, same, less, is)

pub both_within : (cells bound lease : ℕ) → cells ≤ 65536 → bound ≤ 281474976710656 → lease ≡ max (cells + bound) 1 → lease ≤ 281474976776192
both_within cells bound lease a b is = grind (arith, a, b, is)
