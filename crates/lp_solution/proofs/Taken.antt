-- The values of the unknowns, taken in order, are the certificate of their assignment.
use Rattle.std.proofs.Common.{◌≡◌, ℕ, suc, Bool, true, false, List, [], ◌∷◌, ◌++◌, length, map, refl, sym, ap, ◌∙◌}
use Rattle.std.specs.Prelude.{cond, flat_map, Some}
use Rattle.std.specs.Option.{option_map}
use Rattle.std.proofs.lemmas.List.{append-nil, append_assoc, map-append}
use Rattle.camelot_values.specs.Kinds.{DataType, type_of}
use Rattle.camelot_values.specs.declared.kinds.Kind.TheVariants as kind
use Rattle.grail_blocks.specs.Events.{params_at}
use Rattle.grail_code.specs.Code.{Op, Lit, Flag, Copy, Prim, Make, Call, Let, Block, Func, Code}
use Rattle.grail_code.specs.WellFormed.{IsWellFormed}
use Rattle.annotations.specs.Vectors.{is_heap_con}
use Rattle.certificate.specs.Certificates.{FuncCert, Cert}
use Rattle.lp_system.specs.Unknowns.{Unknown, Param, Result, BlockVar, Made, carriers, local_carriers, params_unknowns, block_unknowns, blocks_unknowns, made_unknowns, lets_unknowns, builds_unknowns, func_unknowns, funcs_unknowns, unknowns_of}
use Rattle.lp_system.specs.Found.{Assignment, value_in, with_units, units_on, line_of, lines_of, params_by, block_by, make_line, made_by, lets_by, builds_by, func_by, funcs_by, certificate_by, certificate_of}
use Rattle.lp_system.specs.theory.Values.{values_in}
use Rattle.lp_system.specs.theory.Distinct.{unknowns_distinct}
use Rattle.lp_solution.specs.Taking.{value_of, others_of, vector_from, behind, lines_from, behind_lines, block_from, behind_block, blocks_from, behind_blocks, made_cons, lets_from, behind_lets, builds_from, behind_builds, own_params, own_blocks, at_params, at_result, at_blocks, at_builds, func_from, behind_func, funcs_from, certificate_from}

-- values of two parts and what follows
in_parts : (value : Assignment) (us ws : List Unknown) (vs rest : List ℕ) → vs ≡ map value (us ++ ws) ++ rest → vs ≡ map value us ++ (map value ws ++ rest)
in_parts value us ws vs rest e = e ∙ ap (λ xs. xs ++ rest) (map-append value us ws) ∙ append_assoc (map value us) (map value ws) rest

units_taken : (value : Assignment) (of : ℕ → Unknown) (cs : List ℕ) (vs rest : List ℕ) → vs ≡ map value (map of cs) ++ rest
    → (vector_from cs vs ≡ units_on cs (λ c. value (of c))) × (behind cs vs ≡ rest)
units_taken value of [] vs rest e = (refl, e)
units_taken value of (c ∷ cs) vs rest e =
    let further = units_taken value of cs (others_of vs) rest (ap others_of e) in
    (ap (λ n. with_units c n ++ vector_from cs (others_of vs)) (ap value_of e) ∙ ap (λ v. with_units c (value (of c)) ++ v) further.0, further.1)

lines_taken : (types : List DataType) (f : Func) (value : Assignment) (of : ℕ → ℕ → Unknown) (xs : List ℕ) (vs rest : List ℕ)
    → vs ≡ map value (flat_map (λ x. map (of x) (local_carriers types f x)) xs) ++ rest
    → (lines_from types f xs vs ≡ lines_of (λ x. units_on (local_carriers types f x) (λ c. value (of x c))) xs) × (behind_lines types f xs vs ≡ rest)
lines_taken types f value of [] vs rest e = (refl, e)
lines_taken types f value of (x ∷ xs) vs rest e =
    let cs = local_carriers types f x in
    let others = flat_map (λ x. map (of x) (local_carriers types f x)) xs in
    let here = units_taken value (of x) cs vs (map value others ++ rest) (in_parts value (map (of x) cs) others vs rest e) in
    let further = lines_taken types f value of xs (behind cs vs) rest here.1 in
    (ap (λ v. line_of x v ++ lines_from types f xs (behind cs vs)) here.0 ∙ ap (λ ls. line_of x (units_on cs (λ c. value (of x c))) ++ ls) further.0, further.1)

block_taken : (types : List DataType) (f : Func) (func b : ℕ) (value : Assignment) (vs rest : List ℕ) → vs ≡ map value (block_unknowns types f func b) ++ rest
    → (block_from types f b vs ≡ block_by types f func value b) × (behind_block types f b vs ≡ rest)
block_taken types f func b value vs rest e =
    let vars = lines_taken types f value (BlockVar func b) (params_at f.blocks b) (others_of vs) rest (ap others_of e) in
    (λ i. record { block = b; need = ap value_of e i; vars = vars.0 i }, vars.1)

blocks_taken : (types : List DataType) (f : Func) (func : ℕ) (value : Assignment) (bs : List ℕ) (vs rest : List ℕ)
    → vs ≡ map value (flat_map (block_unknowns types f func) bs) ++ rest
    → (blocks_from types f bs vs ≡ map (block_by types f func value) bs) × (behind_blocks types f bs vs ≡ rest)
blocks_taken types f func value [] vs rest e = (refl, e)
blocks_taken types f func value (b ∷ bs) vs rest e =
    let others = flat_map (block_unknowns types f func) bs in
    let here = block_taken types f func b value vs (map value others ++ rest) (in_parts value (block_unknowns types f func b) others vs rest e) in
    let further = blocks_taken types f func value bs (behind_block types f b vs) rest here.1 in
    (ap (λ k. k ∷ blocks_from types f bs (behind_block types f b vs)) here.0 ∙ ap (λ ks. block_by types f func value b ∷ ks) further.0, further.1)

made_is : (types : List DataType) (func b n : ℕ) (op : Op) → made_unknowns types func b n op ≡ map (Made func b n) (made_cons types op)
made_is types func b n (Make con args at) = by_heap (is_heap_con types con)
  where
    by_heap : (h : Bool) → cond h (map (Made func b n) (carriers types (option_map kind.Of (type_of types con)))) [] ≡ map (Made func b n) (cond h (carriers types (option_map kind.Of (type_of types con))) [])
    by_heap true = refl
    by_heap false = refl
made_is types func b n (Lit z) = refl
made_is types func b n (Flag z) = refl
made_is types func b n (Copy x) = refl
made_is types func b n (Prim op x y) = refl
made_is types func b n (Call callee args) = refl

line_is : (types : List DataType) (func b n : ℕ) (value : Assignment) (op : Op)
    → make_line b n (units_on (made_cons types op) (λ c. value (Made func b n c))) ≡ made_by types func b n value op
line_is types func b n value (Make con args at) = by_heap (is_heap_con types con)
  where
    by_heap : (h : Bool) → make_line b n (units_on (cond h (carriers types (option_map kind.Of (type_of types con))) []) (λ c. value (Made func b n c)))
        ≡ cond h (make_line b n (units_on (carriers types (option_map kind.Of (type_of types con))) (λ c. value (Made func b n c)))) []
    by_heap true = refl
    by_heap false = refl
line_is types func b n value (Lit z) = refl
line_is types func b n value (Flag z) = refl
line_is types func b n value (Copy x) = refl
line_is types func b n value (Prim op x y) = refl
line_is types func b n value (Call callee args) = refl

lets_taken : (types : List DataType) (func b n : ℕ) (value : Assignment) (ls : List Let) (vs rest : List ℕ)
    → vs ≡ map value (lets_unknowns types func b n ls) ++ rest
    → (lets_from types b n ls vs ≡ lets_by types func b n value ls) × (behind_lets types ls vs ≡ rest)
lets_taken types func b n value [] vs rest e = (refl, e)
lets_taken types func b n value (l ∷ ls) vs rest e =
    let cs = made_cons types l.op in
    let others = lets_unknowns types func b (suc n) ls in
    let parted = in_parts value (made_unknowns types func b n l.op) others vs rest e in
    let here = units_taken value (Made func b n) cs vs (map value others ++ rest) (parted ∙ ap (λ us. map value us ++ (map value others ++ rest)) (made_is types func b n l.op)) in
    let further = lets_taken types func b (suc n) value ls (behind cs vs) rest here.1 in
    (ap (λ v. make_line b n v ++ lets_from types b (suc n) ls (behind cs vs)) here.0 ∙ ap (λ ms. ms ++ lets_from types b (suc n) ls (behind cs vs)) (line_is types func b n value l.op) ∙ ap (λ ms. made_by types func b n value l.op ++ ms) further.0, further.1)

builds_taken : (types : List DataType) (func b : ℕ) (value : Assignment) (bs : List Block) (vs rest : List ℕ)
    → vs ≡ map value (builds_unknowns types func b bs) ++ rest
    → (builds_from types b bs vs ≡ builds_by types func b value bs) × (behind_builds types bs vs ≡ rest)
builds_taken types func b value [] vs rest e = (refl, e)
builds_taken types func b value (k ∷ bs) vs rest e =
    let others = builds_unknowns types func (suc b) bs in
    let here = lets_taken types func b 1 value k.lets vs (map value others ++ rest) (in_parts value (lets_unknowns types func b 1 k.lets) others vs rest e) in
    let further = builds_taken types func (suc b) value bs (behind_lets types k.lets vs) rest here.1 in
    (ap (λ ms. ms ++ builds_from types (suc b) bs (behind_lets types k.lets vs)) here.0 ∙ ap (λ ms. lets_by types func b 1 value k.lets ++ ms) further.0, further.1)

func_taken : (types : List DataType) (func : ℕ) (f : Func) (value : Assignment) (vs rest : List ℕ) → vs ≡ map value (func_unknowns types func f) ++ rest
    → (func_from types f vs ≡ func_by types value func f) × (behind_func types f vs ≡ rest)
func_taken types func f value vs rest e = joined
  where
    params : List Unknown
    params = params_unknowns types f func (own_params f)

    result : List Unknown
    result = map (Result func) (carriers types (Some f.result))

    blocks : List Unknown
    blocks = blocks_unknowns types f func

    builds : List Unknown
    builds = builds_unknowns types func 0 f.blocks

    behind_two : at_params vs ≡ map value (params ++ (result ++ (blocks ++ builds))) ++ rest
    behind_two = ap (λ xs. others_of (others_of xs)) e

    of_params : (lines_from types f (own_params f) (at_params vs) ≡ params_by types f func value)
        × (at_result types f vs ≡ map value (result ++ (blocks ++ builds)) ++ rest)
    of_params = lines_taken types f value (Param func) (own_params f) (at_params vs) (map value (result ++ (blocks ++ builds)) ++ rest) (in_parts value params (result ++ (blocks ++ builds)) (at_params vs) rest behind_two)

    of_result : (vector_from (carriers types (Some f.result)) (at_result types f vs) ≡ units_on (carriers types (Some f.result)) (λ c. value (Result func c))) × (at_blocks types f vs ≡ map value (blocks ++ builds) ++ rest)
    of_result = units_taken value (Result func) (carriers types (Some f.result)) (at_result types f vs) (map value (blocks ++ builds) ++ rest) (in_parts value result (blocks ++ builds) (at_result types f vs) rest of_params.1)

    of_blocks : (blocks_from types f (own_blocks f) (at_blocks types f vs) ≡ map (block_by types f func value) (own_blocks f))
        × (at_builds types f vs ≡ map value builds ++ rest)
    of_blocks = blocks_taken types f func value (own_blocks f) (at_blocks types f vs) (map value builds ++ rest) (in_parts value blocks builds (at_blocks types f vs) rest of_result.1)

    of_builds : (builds_from types 0 f.blocks (at_builds types f vs) ≡ builds_by types func 0 value f.blocks) × (behind_func types f vs ≡ rest)
    of_builds = builds_taken types func 0 value f.blocks (at_builds types f vs) rest of_blocks.1

    joined : (func_from types f vs ≡ func_by types value func f) × (behind_func types f vs ≡ rest)
    joined = (λ i. record { name = f.name; need = ap value_of e i; back = ap (λ xs. value_of (others_of xs)) e i; params = of_params.0 i; result = of_result.0 i; blocks = of_blocks.0 i; makes = of_builds.0 i }, of_builds.1)

funcs_taken : (types : List DataType) (func : ℕ) (value : Assignment) (fs : List Func) (vs rest : List ℕ)
    → vs ≡ map value (funcs_unknowns types func fs) ++ rest → funcs_from types fs vs ≡ funcs_by types value func fs
funcs_taken types func value [] vs rest e = refl
funcs_taken types func value (f ∷ fs) vs rest e =
    let others = funcs_unknowns types (suc func) fs in
    let here = func_taken types func f value vs (map value others ++ rest) (in_parts value (func_unknowns types func f) others vs rest e) in
    ap (λ c. c ∷ funcs_from types fs (behind_func types f vs)) here.0 ∙ ap (λ cs. func_by types value func f ∷ cs) (funcs_taken types (suc func) value fs (behind_func types f vs) rest here.1)

abbrev pub cert_with : ℕ → List FuncCert → Cert
cert_with unit funcs = record { unit = unit; funcs = funcs }

certificate_taken : (p : Code) (unit : ℕ) (value : Assignment) (vs : List ℕ) → vs ≡ map value (unknowns_of p)
    → certificate_from p unit vs ≡ certificate_by p unit value
unfolding certificate_by unknowns_of
certificate_taken p unit value vs e = ap (cert_with unit) (funcs_taken p.types 0 value p.funcs vs [] (e ∙ sym (append-nil (map value (unknowns_of p)))))

-- The values of a solution are its certificate.
pub is_certificate : (p : Code) (unit : ℕ) (vs : List ℕ) (funcs : List FuncCert) → IsWellFormed p → length vs ≡ length (unknowns_of p)
    → funcs ≡ funcs_from p.types p.funcs vs → cert_with unit funcs ≡ certificate_of p unit vs
is_certificate p unit vs funcs well all e =
    ap (cert_with unit) e ∙ certificate_taken p unit (value_in (unknowns_of p) vs) vs (sym (values_in (unknowns_of p) vs (unknowns_distinct p well) (sym all)))
