-- A program has one typing that is settled: what isn't `int` in one is the same in the other, both ways.
use Rattle.std.proofs.Common.{◌≡◌, List, [], ◌∷◌, refl, sym, ap, ◌∙◌, subst}
use Rattle.camelot_values.specs.declared.kinds.Kind.{Kind}
use Rattle.camelot_values.specs.declared.kinds.Kind.TheVariants as kind
use Rattle.camelot_tree.specs.Tree.{Function, Source}
use Rattle.camelot_typing.specs.Kinds.{Globals}
use Rattle.camelot_typing.specs.Typing.{Signature, FunctionsFit, globals_of}
use Rattle.camelot_typing.specs.Typed.{FunctionKinds, functions_kinds, Typing, typing_kinds, IsTyping}
use Rattle.camelot_typing.specs.Settled.{SameButInts, IsSettledBy, KindsSettled, IsSettled}

one_kind : (k q : Kind) → ((k ≡ kind.Int → ⊥) → q ≡ k) → ((q ≡ kind.Int → ⊥) → k ≡ q) → k ≡ q
one_kind kind.Int kind.Int h g = refl
one_kind kind.Int kind.Flag h g = g (λ e. cc)
one_kind kind.Int kind.Dia h g = g (λ e. cc)
one_kind kind.Int (kind.Of t) h g = g (λ e. cc)
one_kind kind.Flag q h g = sym (h (λ e. cc))
one_kind kind.Dia q h g = sym (h (λ e. cc))
one_kind (kind.Of t) q h g = sym (h (λ e. cc))

same_kinds : (ks qs : List Kind) → SameButInts ks qs → SameButInts qs ks → ks ≡ qs
same_kinds [] [] h g = refl
same_kinds [] (q ∷ qs) h g = absurd h
same_kinds (k ∷ ks) [] h g = absurd h
same_kinds (k ∷ ks) (q ∷ qs) h g = ap (λ x. x ∷ ks) (one_kind k q h.0 g.0) ∙ ap (λ l. q ∷ l) (same_kinds ks qs h.1 g.1)

same_function : (k q : FunctionKinds) → IsSettledBy k q → IsSettledBy q k → k ≡ q
same_function k q h g =
    ap (λ l. record { params = l; result = k.result; exprs = k.exprs }) (same_kinds k.params q.params h.params g.params)
    ∙ ap (λ x. record { params = q.params; result = x; exprs = k.exprs }) (one_kind k.result q.result h.result g.result)
    ∙ ap (λ l. record { params = q.params; result = q.result; exprs = l }) (same_kinds k.exprs q.exprs h.exprs g.exprs)

same_functions : (ks qs : List FunctionKinds) → KindsSettled ks qs → KindsSettled qs ks → ks ≡ qs
same_functions [] [] h g = refl
same_functions [] (q ∷ qs) h g = absurd h
same_functions (k ∷ ks) [] h g = absurd h
same_functions (k ∷ ks) (q ∷ qs) h g = ap (λ x. x ∷ ks) (same_function k q h.0 g.0) ∙ ap (λ l. q ∷ l) (same_functions ks qs h.1 g.1)

pub kinds_of_two : (p : Source) (first second : List Signature) → IsTyping (record { source = p; signatures = first }) → IsTyping (record { source = p; signatures = second })
    → IsSettled (record { source = p; signatures = first }) → IsSettled (record { source = p; signatures = second })
    → typing_kinds (record { source = p; signatures = first }) ≡ typing_kinds (record { source = p; signatures = second })
kinds_of_two p first second t u h g = same_functions _ _ (h second u.typed) (g first t.typed)

-- functions with the same kinds have the same signatures
signatures_same : (p : Source) (g h : Globals Kind) (fs : List Function) (ss ts : List Signature) → FunctionsFit p g fs ss → FunctionsFit p h fs ts
    → functions_kinds g fs ss ≡ functions_kinds h fs ts → ss ≡ ts
signatures_same p g h [] [] [] a b e = refl
signatures_same p g h [] [] (t ∷ ts) a b e = absurd b
signatures_same p g h [] (s ∷ ss) ts a b e = absurd a
signatures_same p g h (f ∷ fs) [] ts a b e = absurd a
signatures_same p g h (f ∷ fs) (s ∷ ss) [] a b e = absurd b
signatures_same p g h (f ∷ fs) (s ∷ ss) (t ∷ ts) a b e =
    let head = heads_same _ _ _ _ e in
    let name : s.name ≡ t.name = a.0.name ∙ sym b.0.name in
    let params : s.params ≡ t.params = ap (λ k. k.params) head.0 in
    let result : s.result ≡ t.result = ap (λ k. k.result) head.0 in
    ap (λ x. x ∷ ss) (one_signature s t name params result) ∙ ap (λ l. t ∷ l) (signatures_same p g h fs ss ts a.1 b.1 head.1)
  where
    heads_same : (k q : FunctionKinds) (ks qs : List FunctionKinds) → ◌≡◌ {A = List FunctionKinds} (k ∷ ks) (q ∷ qs) → (k ≡ q) × (ks ≡ qs)
    heads_same k q ks qs e = (cc, cc)

    one_signature : (s t : Signature) → s.name ≡ t.name → s.params ≡ t.params → s.result ≡ t.result → s ≡ t
    one_signature s t name params result =
        ap (λ x. record { name = x; params = s.params; result = s.result }) name
        ∙ ap (λ x. record { name = t.name; params = x; result = s.result }) params
        ∙ ap (λ x. record { name = t.name; params = t.params; result = x }) result

pub signatures_of_two : (p : Source) (first second : List Signature) → IsTyping (record { source = p; signatures = first }) → IsTyping (record { source = p; signatures = second })
    → IsSettled (record { source = p; signatures = first }) → IsSettled (record { source = p; signatures = second }) → first ≡ second
signatures_of_two p first second t u h g =
    signatures_same p (globals_of p first) (globals_of p second) p.funs first second t.typed.functions u.typed.functions (kinds_of_two p first second t u h g)

pub one_typing : (t u : Typing) → t.source ≡ u.source → IsTyping t → IsSettled t → IsTyping u → IsSettled u → t ≡ u
one_typing t u e a h b g =
    let moved : IsTyping (record { source = u.source; signatures = t.signatures }) = subst (λ p. IsTyping (record { source = p; signatures = t.signatures })) e a in
    let settled : IsSettled (record { source = u.source; signatures = t.signatures }) = subst (λ p. IsSettled (record { source = p; signatures = t.signatures })) e h in
    ap (λ p. record { source = p; signatures = t.signatures }) e
    ∙ ap (λ l. record { source = u.source; signatures = l }) (signatures_of_two u.source t.signatures u.signatures moved b settled g)

pub one_kinds : (t u : Typing) → t.source ≡ u.source → IsTyping t → IsSettled t → IsTyping u → IsSettled u → typing_kinds t ≡ typing_kinds u
one_kinds t u e a h b g = ap typing_kinds (one_typing t u e a h b g)
