-- Cited by contracts. The level of each token of a program: the number of unfinished `expr` and `pre` in which it
-- stands, and the operators that were read before it in the unfinished chains in which it stands. The levels of a
-- tree's tokens stand before a rest; `k` is the level around the tree. The parser keeps the level of what it is in the
-- middle of.
use Rattle.std.specs.Prelude.{ℕ, suc, List, ◌∷◌}
use Rattle.camelot_grammar.specs.Grammar.{Place, NoPlace, At, FirstBar, NoBar, Bar, FieldList, OneField, MoreFields, Fields, NoFields, InParens, Cell, NoCell, AtField, Solid, Literal, True, False, Full, Placed, Firm, Is, Paren, Units, NoUnits, AndLower, AndFirm, BareLower, BareSolid, Bare, AndUpper, BareUpper, Pre, Not, Negative, Least, Apply, ApplyBare, Con, Alone, Prod, OnePre, Times, Sum, OneProd, Adds, Cmp, OneSum, Compares, And, OneCmp, Both, Or, OneAnd, Either, Expr, Let, If, Match, Chain, Exprs, OneExpr, MoreExprs, Arms, OneArm, MoreArms, Arm, Case, AtomList, OneAtom, MoreAtoms, ConDecl, Inline, NoFields', WithFields, Cons, OneCon, MoreCons, Kind, NoKind, OfKind, ReadMark, NoRead, Read, WrittenParam, Simple, Marked, Params, OneParam, MoreParams, Decls, NoDecls, AndType, AndFun}

-- k, and one more for each operator of the chain
abbrev pub in_prod : Prod → ℕ → ℕ
in_prod (OnePre p) k = k
in_prod (Times x o l p) k = suc (in_prod x k)

abbrev pub in_sum : Sum → ℕ → ℕ
in_sum (OneProd x) k = k
in_sum (Adds s o l x) k = suc (in_sum s k)

abbrev pub in_and : And → ℕ → ℕ
in_and (OneCmp c) k = k
in_and (Both a l c) k = suc (in_and a k)

abbrev pub in_or : Or → ℕ → ℕ
in_or (OneAnd a) k = k
in_or (Either o l a) k = suc (in_or o k)

abbrev pub levels_place : Place → ℕ → List ℕ → List ℕ
levels_place NoPlace k r = r
levels_place (At l n) k r = k ∷ k ∷ r

abbrev pub levels_bar : FirstBar → ℕ → List ℕ → List ℕ
levels_bar NoBar k r = r
levels_bar (Bar l) k r = k ∷ r

abbrev pub levels_field_list : FieldList → ℕ → List ℕ → List ℕ
levels_field_list (OneField f) k r = k ∷ r
levels_field_list (MoreFields fs l f) k r = levels_field_list fs k (k ∷ k ∷ r)

abbrev pub levels_fields : Fields → ℕ → List ℕ → List ℕ
levels_fields NoFields k r = r
levels_fields (InParens l fs m) k r = k ∷ levels_field_list fs k (k ∷ r)

abbrev pub levels_cell : Cell → ℕ → List ℕ → List ℕ
levels_cell NoCell k r = r
levels_cell (AtField l f) k r = k ∷ k ∷ r

-- of a unit, `k` is the level of its own tokens: it stands in a `pre`
abbrev mutual
  pub levels_solid : Solid → ℕ → List ℕ → List ℕ
  levels_solid (Literal n l) k r = k ∷ r
  levels_solid (True l) k r = k ∷ r
  levels_solid (False l) k r = k ∷ r
  levels_solid (Full c l es m p) k r = k ∷ k ∷ levels_exprs es k (k ∷ levels_place p k r)
  levels_solid (Placed c l d) k r = k ∷ k ∷ k ∷ r

  pub levels_firm : Firm → ℕ → List ℕ → List ℕ
  levels_firm (Is s) k r = levels_solid s k r
  levels_firm (Paren l e m) k r = k ∷ levels_expr e k (k ∷ r)

  pub levels_units : Units → ℕ → List ℕ → List ℕ
  levels_units NoUnits k r = r
  levels_units (AndLower us n) k r = levels_units us k (k ∷ r)
  levels_units (AndFirm us u) k r = levels_units us k (levels_firm u k r)
  levels_units (BareLower bs n) k r = levels_bare bs k (k ∷ r)
  levels_units (BareSolid bs u) k r = levels_bare bs k (levels_solid u k r)

  pub levels_bare : Bare → ℕ → List ℕ → List ℕ
  levels_bare (AndUpper us n) k r = levels_units us k (k ∷ r)
  levels_bare (BareUpper bs n) k r = levels_bare bs k (k ∷ r)

  pub levels_pre : Pre → ℕ → List ℕ → List ℕ
  levels_pre (Not l p) k r = suc k ∷ levels_pre p (suc k) r
  levels_pre (Negative l n m) k r = suc k ∷ suc k ∷ r
  levels_pre (Least l m) k r = suc k ∷ suc k ∷ r
  levels_pre (Apply f us) k r = suc k ∷ levels_units us (suc k) r
  levels_pre (ApplyBare f bs) k r = suc k ∷ levels_bare bs (suc k) r
  levels_pre (Con c) k r = suc k ∷ r
  levels_pre (Alone u) k r = levels_firm u (suc k) r

  pub levels_prod : Prod → ℕ → List ℕ → List ℕ
  levels_prod (OnePre p) k r = levels_pre p k r
  levels_prod (Times x o l p) k r = levels_prod x k (in_prod x k ∷ levels_pre p (suc (in_prod x k)) r)

  pub levels_sum : Sum → ℕ → List ℕ → List ℕ
  levels_sum (OneProd x) k r = levels_prod x k r
  levels_sum (Adds s o l x) k r = levels_sum s k (in_sum s k ∷ levels_prod x (suc (in_sum s k)) r)

  pub levels_cmp : Cmp → ℕ → List ℕ → List ℕ
  levels_cmp (OneSum s) k r = levels_sum s k r
  levels_cmp (Compares s o l t) k r = levels_sum s k (k ∷ levels_sum t (suc k) r)

  pub levels_and : And → ℕ → List ℕ → List ℕ
  levels_and (OneCmp c) k r = levels_cmp c k r
  levels_and (Both a l c) k r = levels_and a k (in_and a k ∷ levels_cmp c (suc (in_and a k)) r)

  pub levels_or : Or → ℕ → List ℕ → List ℕ
  levels_or (OneAnd a) k r = levels_and a k r
  levels_or (Either o l a) k r = levels_or o k (in_or o k ∷ levels_and a (suc (in_or o k)) r)

  pub levels_expr : Expr → ℕ → List ℕ → List ℕ
  levels_expr (Let l n m v i b) k r = suc k ∷ suc k ∷ suc k ∷ levels_expr v (suc k) (suc k ∷ levels_expr b (suc k) r)
  levels_expr (If l c m a n b) k r = suc k ∷ levels_expr c (suc k) (suc k ∷ levels_expr a (suc k) (suc k ∷ levels_expr b (suc k) r))
  levels_expr (Match l e m bar as' n) k r = suc k ∷ levels_expr e (suc k) (suc k ∷ levels_bar bar (suc k) (levels_arms as' (suc k) (suc k ∷ r)))
  levels_expr (Chain o) k r = levels_or o (suc k) r

  pub levels_exprs : Exprs → ℕ → List ℕ → List ℕ
  levels_exprs (OneExpr e) k r = levels_expr e k r
  levels_exprs (MoreExprs es l e) k r = levels_exprs es k (k ∷ levels_expr e k r)

  -- of arms, `k` is the level of the match's own tokens
  pub levels_arms : Arms → ℕ → List ℕ → List ℕ
  levels_arms (OneArm a) k r = levels_arm a k r
  levels_arms (MoreArms as' l a) k r = levels_arms as' k (k ∷ levels_arm a k r)

  pub levels_arm : Arm → ℕ → List ℕ → List ℕ
  levels_arm (Case c fs at l e) k r = k ∷ levels_fields fs k (levels_cell at k (k ∷ levels_expr e k r))

-- what stands outside of all expressions has level 0
abbrev pub levels_atoms : AtomList → List ℕ → List ℕ
levels_atoms (OneAtom a) r = 0 ∷ r
levels_atoms (MoreAtoms as' l a) r = levels_atoms as' (0 ∷ 0 ∷ r)

abbrev pub levels_con : ConDecl → List ℕ → List ℕ
levels_con (Inline l n) r = 0 ∷ 0 ∷ r
levels_con (NoFields' n) r = 0 ∷ r
levels_con (WithFields n l as') r = 0 ∷ 0 ∷ levels_atoms as' r

abbrev pub levels_cons : Cons → List ℕ → List ℕ
levels_cons (OneCon c) r = levels_con c r
levels_cons (MoreCons cs l c) r = levels_cons cs (0 ∷ levels_con c r)

abbrev pub levels_kind : Kind → List ℕ → List ℕ
levels_kind NoKind r = r
levels_kind (OfKind l a) r = 0 ∷ 0 ∷ r

abbrev pub levels_read : ReadMark → List ℕ → List ℕ
levels_read NoRead r = r
levels_read (Read l) r = 0 ∷ r

abbrev pub levels_param : WrittenParam → List ℕ → List ℕ
levels_param (Simple n) r = 0 ∷ r
levels_param (Marked l w n k m) r = 0 ∷ levels_read w (0 ∷ levels_kind k (0 ∷ r))

abbrev pub levels_params : Params → List ℕ → List ℕ
levels_params (OneParam p) r = levels_param p r
levels_params (MoreParams ps p) r = levels_params ps (levels_param p r)

abbrev pub levels_decls : Decls → List ℕ → List ℕ
levels_decls NoDecls r = r
levels_decls (AndType ds l n m cs) r = levels_decls ds (0 ∷ 0 ∷ 0 ∷ levels_cons cs r)
levels_decls (AndFun ds l n ps k m e) r = levels_decls ds (0 ∷ 0 ∷ levels_params ps (levels_kind k (0 ∷ levels_expr e 0 r)))
