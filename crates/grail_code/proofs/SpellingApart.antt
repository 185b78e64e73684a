-- Parameters as they are read, taken apart into kinds and marks.
use Rattle.std.proofs.Common.{◌≡◌, ℕ, ◌+◌, ◌<◌, ◌≤◌, Bool, List, [], ◌∷◌, ◌++◌, length, get_or, take, map, sym, ap, ◌∙◌}
use Rattle.std.proofs.lemmas.List.{take_all, map_push}
use Rattle.std.proofs.lemmas.Grind.{take_at_read}
use Rattle.camelot_values.specs.declared.kinds.Kind.{Kind}
use Rattle.grail_code.specs.CodeReader.{kinds_of, marks_of}
use Rattle.grail_code.specs.Params.{param_of}
use Rattle.grail_code.specs.declared.decoder.blocks.Param.{Param}

one_more : (ps : List Param) (i : ℕ) (p : Param) → i < length ps → p ≡ get_or ps i p → map param_of (take (i + 1) ps) ≡ map param_of (take i ps) ++ param_of p ∷ []
one_more ps i p lt e =
    let one : take (i + 1) ps ≡ take i ps ++ p ∷ [] = (take_at_read ps i p lt).1 ∙ ap (λ q. take i ps ++ q ∷ []) (sym e) in
    ap (map param_of) one ∙ map_push param_of (take i ps) p

pub kinds_more : (ps : List Param) (i : ℕ) (p : Param) (kinds more : List Kind) → i < length ps → p ≡ get_or ps i p → more ≡ kinds ++ p.kind ∷ []
    → kinds ≡ kinds_of (map param_of (take i ps)) → more ≡ kinds_of (map param_of (take (i + 1) ps))
kinds_more ps i p kinds more lt e pushed so_far =
    let all : kinds_of (map param_of (take (i + 1) ps)) ≡ kinds_of (map param_of (take i ps)) ++ p.kind ∷ [] =
    ap kinds_of (one_more ps i p lt e) ∙ map_push (λ q. q.0) (map param_of (take i ps)) (param_of p) in
    pushed ∙ ap (λ w. w ++ p.kind ∷ []) so_far ∙ sym all

pub marks_more : (ps : List Param) (i : ℕ) (p : Param) (marks more : List Bool) → i < length ps → p ≡ get_or ps i p → more ≡ marks ++ p.read ∷ []
    → marks ≡ marks_of (map param_of (take i ps)) → more ≡ marks_of (map param_of (take (i + 1) ps))
marks_more ps i p marks more lt e pushed so_far =
    let all : marks_of (map param_of (take (i + 1) ps)) ≡ marks_of (map param_of (take i ps)) ++ p.read ∷ [] =
    ap marks_of (one_more ps i p lt e) ∙ map_push (λ q. q.1) (map param_of (take i ps)) (param_of p) in
    pushed ∙ ap (λ w. w ++ p.read ∷ []) so_far ∙ sym all

pub kinds_done : (ps : List Param) (i : ℕ) (kinds : List Kind) → length ps ≤ i → kinds ≡ kinds_of (map param_of (take i ps)) → kinds ≡ kinds_of (map param_of ps)
kinds_done ps i kinds le so_far = so_far ∙ ap (λ qs. kinds_of (map param_of qs)) (take_all i ps le)

pub marks_done : (ps : List Param) (i : ℕ) (marks : List Bool) → length ps ≤ i → marks ≡ marks_of (map param_of (take i ps)) → marks ≡ marks_of (map param_of ps)
marks_done ps i marks le so_far = so_far ∙ ap (λ qs. marks_of (map param_of qs)) (take_all i ps le)
