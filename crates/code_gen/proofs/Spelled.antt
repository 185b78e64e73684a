-- The code of a program within the limits is within those of code, and has a spelling.
use Rattle.std.proofs.Common.{◌≡◌, ℕ, suc, ◌≤◌, Bool, true, false, List, [], ◌∷◌, ◌++◌, length, map, Option, Some, None, refl, sym, ap, subst, arith}
use Rattle.std.specs.Prelude.{◌||◌, not, nat_lt, if◌then◌else◌, flat_map, IsTrue}
use Rattle.std.specs.List.{AllByRecursion, list_all}
use Rattle.std.specs.Option.{option_or}
use Rattle.std.proofs.lemmas.Bool.Decides.{nat_tests}
use Rattle.camelot_values.specs.Kinds.{IsDataType, IsConstructor}
use Rattle.camelot_values.specs.Names.{IsLowerName, IsUpperName}
use Rattle.camelot_values.specs.Names as names
use Rattle.camelot_values.specs.NameLaws.{passing_name}
use Rattle.camelot_tree.specs.Tree as tree
use Rattle.camelot_tree.specs.Tree.{Function, Source}
use Rattle.camelot_tree.specs.Shape.{is_nothing, con_is_whole, type_is_whole, fun_is_whole, is_whole}
use Rattle.camelot_tree.specs.Tokens.{con_is_named, type_is_named, fun_is_named, is_named}
use Rattle.camelot_typing.specs.Kinds.{Globals, field_kind, constructor_kinds, data_kinds}
use Rattle.camelot_typing.specs.Typing.{Signature, ConstructorFits, FunctionsFit}
use Rattle.camelot_typing.specs.Typed.{Typing, IsTyping}
use Rattle.camelot_typing.specs.TypingLaws.{both_hold}
use Rattle.grail_code.specs.Limits.{FuncIsWithin, IsWithinLimits, HaveParams, TypeIsNamed, IsNamed}
use Rattle.normal_form.specs.declared.fault.NormalFault.{NormalFault}
use Rattle.normal_form.specs.declared.fault.NormalFault.TheVariants.{TooManyLocals, TooManyBlocks}
use Rattle.normal_form.specs.Answers.{counted_as, fault_of, first_fault, program_fault}
use Rattle.normal_form.specs.Normal.{NormalBlock, NormalFunction, tail_made, tail_ends, normal_form}
use Rattle.normal_form.specs.Coded.{coded_blocks, coded}
use Rattle.normal_form.specs.Facts.{IsCounted, AreCounted}
use Rattle.code_gen.specs.Generated.{live_params, compiled}
use Rattle.code_gen.proofs.Bodies.{length_coded}

-- ---- types

length_map : {A B : Type 0} (f : A → B) (xs : List A) → length (map f xs) ≡ length xs
length_map f [] = refl
length_map f (x ∷ xs) = ap suc (length_map f xs)

some_item : {A : Type 0} (xs : List A) → not (is_nothing xs) ≡ true → 1 ≤ length xs
some_item [] h = absurd cc
some_item (x ∷ xs) h = omega arith

bare : (p : Source) (inline : Bool) (fields : List _) → (not inline || is_nothing fields) ≡ true → inline ≡ true → map (field_kind p) fields ≡ []
bare p true [] h e = refl
bare p true (a ∷ as') h e = absurd cc
bare p false fields h e = absurd cc

constructors_are : (p : Source) (cs : List tree.Constructor) → list_all con_is_whole cs ≡ true → AllByRecursion (ConstructorFits p) cs
    → AllByRecursion IsConstructor (map (constructor_kinds p) cs)
constructors_are p [] whole fit = tt
constructors_are p (c ∷ cs) whole fit =
    let both = both_hold (con_is_whole c) (list_all con_is_whole cs) whole in
    let size = length_map (field_kind p) c.fields in
    let few = fit.0.0 in
    (record { few_fields = omega (arith, size, few); inline_is_bare = bare p c.inline c.fields both.0 }, constructors_are p cs both.1 fit.1)

front_all : {A : Type 0} (P : A → Type 0) (xs ys : List A) → AllByRecursion P (xs ++ ys) → AllByRecursion P xs × AllByRecursion P ys
front_all P [] ys h = (tt, h)
front_all P (x ∷ xs) ys h = let r = front_all P xs ys h.1 in ((h.0, r.0), r.1)

types_are : (p : Source) (ts : List tree.DataType) → list_all type_is_whole ts ≡ true → AllByRecursion (λ t. length t.cons ≤ 64) ts
    → AllByRecursion (ConstructorFits p) (flat_map (λ t. t.cons) ts) → AllByRecursion IsDataType (map (data_kinds p) ts)
types_are p [] whole few fit = tt
types_are p (t ∷ ts) whole few fit =
    let both = both_hold (type_is_whole t) (list_all type_is_whole ts) whole in
    let own = both_hold (not (is_nothing t.cons)) (list_all con_is_whole t.cons) both.0 in
    let parts = front_all (ConstructorFits p) t.cons (flat_map (λ t. t.cons) ts) fit in
    let size = length_map (constructor_kinds p) t.cons in
    let some = some_item t.cons own.0 in
    let most = few.0 in
    (record { some_cons = omega (arith, size, some); few_cons = omega (arith, size, most); each = constructors_are p t.cons own.1 parts.0 }, types_are p ts both.1 few.1 parts.1)

cons_named : (p : Source) (cs : List tree.Constructor) → list_all con_is_named cs ≡ true
    → AllByRecursion (λ c. IsUpperName c.name) (map (constructor_kinds p) cs)
cons_named p [] named = tt
cons_named p (c ∷ cs) named =
    let both = both_hold (con_is_named c) (list_all con_is_named cs) named in
    (passing_name names.is_upper c.name.word (both_hold _ _ both.0).0, cons_named p cs both.1)

types_named : (p : Source) (ts : List tree.DataType) → list_all type_is_named ts ≡ true → AllByRecursion TypeIsNamed (map (data_kinds p) ts)
types_named p [] named = tt
types_named p (t ∷ ts) named =
    let both = both_hold (type_is_named t) (list_all type_is_named ts) named in
    let own = both_hold _ (list_all con_is_named t.cons) both.0 in
    (record { name = passing_name names.is_lower t.name.word own.0; cons = cons_named p t.cons own.1 }, types_named p ts both.1)

-- ---- functions

no_option : {A : Type 0} (o q : Option A) → option_or o q ≡ None → (o ≡ None) × (q ≡ None)
no_option None q h = (refl, h)
no_option (Some x) q h = absurd cc

pub record IsSmall (p : Source) (f : Function) : Type 0 where
  locals : tail_made p f.body ≤ 240
  blocks : tail_ends p f.body ≤ 256

no_test : (a b : NormalFault) (t q : Bool) → (if t then Some a else (if q then Some b else None)) ≡ None → (t ≡ false) × (q ≡ false)
no_test a b true q h = absurd cc
no_test a b false true h = absurd cc
no_test a b false false h = (refl, refl)

pub no_fault : (p : Source) (f : Function) → fault_of p f ≡ None → IsSmall p f
no_fault p f h =
    let r = no_test (TooManyLocals f.name.word (counted_as (tail_made p f.body))) (TooManyBlocks f.name.word (counted_as (tail_ends p f.body))) (nat_lt 240 (tail_made p f.body)) (nat_lt 256 (tail_ends p f.body)) h in
    let e : nat_lt 240 (tail_made p f.body) ≡ false = r.0 in
    let k : nat_lt 256 (tail_ends p f.body) ≡ false = r.1 in
    record { locals = grind (arith, nat_tests, e); blocks = grind (arith, nat_tests, k) }

few_coded : (takes : ℕ → List ℕ) (number n : ℕ) (bs : List NormalBlock) → n ≤ 240 → AllByRecursion (λ b. length b.lets ≤ suc n) bs
    → AllByRecursion (λ b. length b.lets ≤ 256) (coded_blocks takes number bs)
few_coded takes number n [] h all = tt
few_coded takes number n (b ∷ bs) h all = (let few = all.0 in omega (arith, few, h), few_coded takes (suc number) n bs h all.1)

pub function_within : (p : Source) (f : Function) (n : NormalFunction) → IsCounted p f n → IsSmall p f → length f.params ≤ 16
    → FuncIsWithin (coded live_params n)
function_within p f n counted small few =
    let size = length_coded (live_params n) 0 n.blocks in
    let params = counted.params in
    let locals = counted.locals in
    let blocks = counted.blocks in
    let some = counted.some_blocks in
    let most_locals = small.locals in
    let most_blocks = small.blocks in
    record {
      few_params = omega (arith, params, few);
      as_many = (let marks = counted.reads in omega (arith, params, marks));
      few_locals = omega (arith, locals, most_locals);
      some_blocks = omega (arith, size, some);
      few_blocks = omega (arith, size, blocks, most_blocks);
      few_lets = few_coded (live_params n) 0 (length n.locals) n.blocks (omega (arith, locals, most_locals)) counted.few_lets;
    }

functions_within : (p : Source) (g : Globals _) (fs : List Function) (ss : List Signature) (ns : List NormalFunction) → FunctionsFit p g fs ss
    → AreCounted p fs ns → first_fault p fs ss ≡ None → AllByRecursion (λ f. length f.params ≤ 16) fs
    → AllByRecursion FuncIsWithin (map (coded live_params) ns)
functions_within p g [] ss [] fit counted none few = tt
functions_within p g [] ss (n ∷ ns) fit counted none few = absurd counted
functions_within p g (f ∷ fs) ss [] fit counted none few = absurd counted
functions_within p g (f ∷ fs) [] (n ∷ ns) fit counted none few = absurd fit
functions_within p g (f ∷ fs) (s ∷ ss) (n ∷ ns) fit counted none few =
    let no = no_option (fault_of p f) (first_fault p fs ss) none in
    (function_within p f n counted.0 (no_fault p f no.0) few.0, functions_within p g fs ss ns fit.1 counted.1 no.1 few.1)

counted_length : (p : Source) (fs : List Function) (ns : List NormalFunction) → AreCounted p fs ns → length ns ≡ length fs
counted_length p [] [] h = refl
counted_length p [] (n ∷ ns) h = absurd h
counted_length p (f ∷ fs) [] h = absurd h
counted_length p (f ∷ fs) (n ∷ ns) h = ap suc (counted_length p fs ns h.1)

have_params : (p : Source) (fs : List Function) (ns : List NormalFunction) → AreCounted p fs ns → list_all fun_is_whole fs ≡ true
    → AllByRecursion (λ f. 1 ≤ length f.params) (map (coded live_params) ns)
have_params p [] [] counted whole = tt
have_params p [] (n ∷ ns) counted whole = absurd counted
have_params p (f ∷ fs) [] counted whole = absurd counted
have_params p (f ∷ fs) (n ∷ ns) counted whole =
    let both = both_hold (fun_is_whole f) (list_all fun_is_whole fs) whole in
    let some = some_item f.params (both_hold (not (is_nothing f.params)) _ both.0).0 in
    let params = counted.0.params in
    (omega (arith, some, params), have_params p fs ns counted.1 both.1)

functions_named : (p : Source) (fs : List Function) (ns : List NormalFunction) → AreCounted p fs ns → list_all fun_is_named fs ≡ true
    → AllByRecursion (λ f. IsLowerName f.name) (map (coded live_params) ns)
functions_named p [] [] counted named = tt
functions_named p [] (n ∷ ns) counted named = absurd counted
functions_named p (f ∷ fs) [] counted named = absurd counted
functions_named p (f ∷ fs) (n ∷ ns) counted named =
    let both = both_hold (fun_is_named f) (list_all fun_is_named fs) named in
    (subst IsLowerName (sym counted.0.name) (passing_name names.is_lower f.name.word (both_hold _ _ both.0).0), functions_named p fs ns counted.1 both.1)

-- ---- programs

pub within_limits : (t : Typing) → IsTyping t → IsTrue (is_whole t.source) → program_fault t ≡ None
    → AreCounted t.source t.source.funs (normal_form t).functions → IsWithinLimits (compiled t)
within_limits t typing whole none counted =
    let both = both_hold (list_all type_is_whole t.source.types) (list_all fun_is_whole t.source.funs) whole in
    let types_size = length_map (data_kinds t.source) t.source.types in
    let few_types = typing.within.types in
    let size = length_map (coded live_params) (normal_form t).functions in
    let count = counted_length t.source t.source.funs (normal_form t).functions counted in
    let few = typing.within.funs in
    record {
      types = record { few_types = omega (arith, types_size, few_types); each = types_are t.source t.source.types both.0 typing.within.cons typing.typed.fields };
      few_funcs = omega (arith, size, count, few);
      funcs = functions_within t.source _ t.source.funs t.signatures (normal_form t).functions typing.typed.functions counted none typing.within.params;
    }

pub with_params : (t : Typing) → IsTrue (is_whole t.source) → AreCounted t.source t.source.funs (normal_form t).functions → HaveParams (compiled t)
with_params t whole counted = have_params t.source t.source.funs (normal_form t).functions counted (both_hold (list_all type_is_whole t.source.types) (list_all fun_is_whole t.source.funs) whole).1

pub with_names : (t : Typing) → IsTrue (is_named t.source) → AreCounted t.source t.source.funs (normal_form t).functions → IsNamed (compiled t)
with_names t named counted =
    let both = both_hold (list_all type_is_named t.source.types) (list_all fun_is_named t.source.funs) named in
    record { types = types_named t.source t.source.types both.0; funcs = functions_named t.source t.source.funs (normal_form t).functions counted both.1 }
