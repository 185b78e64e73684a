-- Lets that wait for the end of their block.
use Rattle.std.proofs.Common.{◌≡◌, List, [], ◌∷◌, ◌++◌, map, length, refl, sym, ap, ◌∙◌, arith, append_assoc, append-nil}
use Rattle.grail_blocks.specs.Blocks as block
use Rattle.grail_blocks.specs.Blocks.{Term}
use Rattle.normal_form.specs.Normal.{NormalBlock, Line, Bind, Close, in_first, cut}

pub cut_closed : (lets : List block.Let) (t : Term) (rest : List Line) → cut (map Bind lets ++ Close t ∷ rest) ≡ (let b : NormalBlock = record { lets = lets; term = t } in b) ∷ cut rest
cut_closed [] t rest = refl
cut_closed (l ∷ lets) t rest = ap (in_first l) (cut_closed lets t rest)

pub cut_open : (lets : List block.Let) → cut (map Bind lets) ≡ []
cut_open [] = refl
cut_open (l ∷ lets) = ap (in_first l) (cut_open lets)

-- one let more waits
pub cut_bound : (lets : List block.Let) (l : block.Let) (rest : List Line) → map Bind (lets ++ l ∷ []) ++ rest ≡ map Bind lets ++ Bind l ∷ rest
cut_bound [] l rest = refl
cut_bound (x ∷ lets) l rest = ap (λ ls. Bind x ∷ ls) (cut_bound lets l rest)

-- ---- the loop

pub next_closed : (blocks more : List NormalBlock) (lets none : List block.Let) (t : Term) (rest all : List Line) (whole : List NormalBlock) → more ≡ blocks ++ (let b : NormalBlock = record { lets = lets; term = t } in b) ∷ []
    → all ≡ Close t ∷ rest → none ≡ [] → blocks ++ cut (map Bind lets ++ all) ≡ whole → more ++ cut (map Bind none ++ rest) ≡ whole
next_closed blocks more lets none t rest all whole m a n h =
    ap (λ l. more ++ cut (map Bind l ++ rest)) n ∙ ap (λ l. l ++ cut rest) m ∙ append_assoc blocks ((let b : NormalBlock = record { lets = lets; term = t } in b) ∷ []) (cut rest)
    ∙ ap (λ l. blocks ++ l) (sym (cut_closed lets t rest)) ∙ ap (λ l. blocks ++ cut (map Bind lets ++ l)) (sym a) ∙ h

pub all_cut : {A : Type 0} (f : A → Line) (blocks : List NormalBlock) (lets : List block.Let) (items : List A) (whole : List NormalBlock)
    → length items ≡ 0 → blocks ++ cut (map Bind lets ++ map f items) ≡ whole → blocks ≡ whole
all_cut f blocks lets [] whole none h = sym (append-nil blocks) ∙ ap (λ l. blocks ++ l) (sym (cut_open lets)) ∙ ap (λ l. blocks ++ cut l) (sym (append-nil (map Bind lets))) ∙ h
all_cut f blocks lets (x ∷ items) whole none h = absurd (omega (arith, none))
