-- Cited by contracts. The grammar of Camelot, in the manner of the grammars of ML languages (Leroy 1997): trees of its
-- productions, and what they spell. One data type is one production, and one constructor one of its alternatives, with
-- the line of each word and sign (a plain number). What a tree spells stands before a rest, so that no lists are
-- joined. The parser has no such trees: it reads token by token.
use Rattle.std.specs.Prelude.{ℕ, List, ◌∷◌}
use Rattle.camelot_tree.specs.declared.tree.Name.{Name}
use Rattle.camelot_grammar.specs.declared.lexeme.Mark.TheVariants as mark
use Rattle.camelot_grammar.specs.declared.lexeme.Lexeme.{Lexeme}
use Rattle.camelot_grammar.specs.declared.lexeme.Lexeme.TheVariants.{Lower, Upper, Number, Greatest, Mark}

-- ---- productions

-- [ "@" lower ]
pub data Place : Type 0 where
  NoPlace : Place
  At : ℕ → Name → Place

-- [ "|" ]
pub data FirstBar : Type 0 where
  NoBar : FirstBar
  Bar : ℕ → FirstBar

-- lower | "_"
pub data Field : Type 0 where
  Named : Name → Field
  Blank : ℕ → Field

-- field { "," field }
pub data FieldList : Type 0 where
  OneField : Field → FieldList
  MoreFields : FieldList → ℕ → Field → FieldList

-- [ "(" field { "," field } ")" ]
pub data Fields : Type 0 where
  NoFields : Fields
  InParens : ℕ → FieldList → ℕ → Fields

-- [ "@" ( lower | "_" ) ]
pub data Cell : Type 0 where
  NoCell : Cell
  AtField : ℕ → Field → Cell

-- "*" | "/" | "mod"
pub data ProductSign : Type 0 where
  Star : ProductSign
  Slash : ProductSign
  Mod : ProductSign

-- "+" | "-"
pub data Sign : Type 0 where
  Plus : Sign
  Minus : Sign

-- "=" | "<>" | "<" | "<=" | ">" | ">="
pub data Comparison : Type 0 where
  Eq : Comparison
  Ne : Comparison
  Lt : Comparison
  Le : Comparison
  Gt : Comparison
  Ge : Comparison

mutual
  -- A unit that is neither a name nor in parentheses: a number, a truth value, and a build that isn't a name alone:
  -- upper "(" expr { "," expr } ")" [ "@" lower ] | upper "@" lower
  pub data Solid : Type 0 where
    Literal : (value line : ℕ) → Solid
    True : ℕ → Solid
    False : ℕ → Solid
    Full : Name → ℕ → Exprs → ℕ → Place → Solid
    Placed : Name → ℕ → Name → Solid

  -- such a unit, or one in parentheses
  pub data Firm : Type 0 where
    Is : Solid → Firm
    Paren : ℕ → Expr → ℕ → Firm

  -- The units that a name is applied to, in order. A "(" after a constructor opens its arguments, so no unit in
  -- parentheses stands behind a constructor alone: units that end in one are told apart.
  pub data Units : Type 0 where
    NoUnits : Units
    AndLower : Units → Name → Units
    AndFirm : Units → Firm → Units
    BareLower : Bare → Name → Units
    BareSolid : Bare → Solid → Units

  pub data Bare : Type 0 where
    AndUpper : Units → Name → Bare
    BareUpper : Bare → Name → Bare

  -- "not" pre | "-" number | lower { unit } | unit
  pub data Pre : Type 0 where
    Not : ℕ → Pre → Pre
    Negative : ℕ → (value line : ℕ) → Pre
    Least : ℕ → ℕ → Pre
    Apply : Name → Units → Pre
    ApplyBare : Name → Bare → Pre
    Con : Name → Pre
    Alone : Firm → Pre

  -- pre { ( "*" | "/" | "mod" ) pre }
  pub data Prod : Type 0 where
    OnePre : Pre → Prod
    Times : Prod → ProductSign → ℕ → Pre → Prod

  -- prod { ( "+" | "-" ) prod }
  pub data Sum : Type 0 where
    OneProd : Prod → Sum
    Adds : Sum → Sign → ℕ → Prod → Sum

  -- sum [ comparison sum ]
  pub data Cmp : Type 0 where
    OneSum : Sum → Cmp
    Compares : Sum → Comparison → ℕ → Sum → Cmp

  -- cmp { "&&" cmp }
  pub data And : Type 0 where
    OneCmp : Cmp → And
    Both : And → ℕ → Cmp → And

  -- and { "||" and }
  pub data Or : Type 0 where
    OneAnd : And → Or
    Either : Or → ℕ → And → Or

  -- "let" lower "=" expr "in" expr | "if" expr "then" expr "else" expr
  -- | "match" expr "with" [ "|" ] arm { "|" arm } "end" | or
  pub data Expr : Type 0 where
    Let : ℕ → Name → ℕ → Expr → ℕ → Expr → Expr
    If : ℕ → Expr → ℕ → Expr → ℕ → Expr → Expr
    Match : ℕ → Expr → ℕ → FirstBar → Arms → ℕ → Expr
    Chain : Or → Expr

  -- expr { "," expr }
  pub data Exprs : Type 0 where
    OneExpr : Expr → Exprs
    MoreExprs : Exprs → ℕ → Expr → Exprs

  -- arm { "|" arm }
  pub data Arms : Type 0 where
    OneArm : Arm → Arms
    MoreArms : Arms → ℕ → Arm → Arms

  -- upper fields cell "->" expr
  pub data Arm : Type 0 where
    Case : Name → Fields → Cell → ℕ → Expr → Arm

-- "int" | "bool" | "<>" | lower
pub data WrittenAtom : Type 0 where
  Int : ℕ → WrittenAtom
  Bool' : ℕ → WrittenAtom
  Dia : ℕ → WrittenAtom
  Of : Name → WrittenAtom

-- atom { "*" atom }
pub data AtomList : Type 0 where
  OneAtom : WrittenAtom → AtomList
  MoreAtoms : AtomList → ℕ → WrittenAtom → AtomList

-- "!" upper | upper [ "of" atom { "*" atom } ]
pub data ConDecl : Type 0 where
  Inline : ℕ → Name → ConDecl
  NoFields' : Name → ConDecl
  WithFields : Name → ℕ → AtomList → ConDecl

-- con { "|" con }
pub data Cons : Type 0 where
  OneCon : ConDecl → Cons
  MoreCons : Cons → ℕ → ConDecl → Cons

-- [ ":" atom ]
pub data Kind : Type 0 where
  NoKind : Kind
  OfKind : ℕ → WrittenAtom → Kind

-- [ "read" ]
pub data ReadMark : Type 0 where
  NoRead : ReadMark
  Read : ℕ → ReadMark

-- lower | "(" [ "read" ] lower [ ":" atom ] ")"
pub data WrittenParam : Type 0 where
  Simple : Name → WrittenParam
  Marked : ℕ → ReadMark → Name → Kind → ℕ → WrittenParam

-- param { param }
pub data Params : Type 0 where
  OneParam : WrittenParam → Params
  MoreParams : Params → WrittenParam → Params

-- { "type" lower "=" con { "|" con } | "let" lower param { param } [ ":" atom ] "=" expr }
pub data Decls : Type 0 where
  NoDecls : Decls
  AndType : Decls → ℕ → Name → ℕ → Cons → Decls
  AndFun : Decls → ℕ → Name → Params → Kind → ℕ → Expr → Decls

-- ---- what they spell

abbrev pub product_mark : ProductSign → ℕ → Lexeme
product_mark Star l = Mark mark.Star l
product_mark Slash l = Mark mark.Slash l
product_mark Mod l = Mark mark.Mod l

abbrev pub sign_mark : Sign → ℕ → Lexeme
sign_mark Plus l = Mark mark.Plus l
sign_mark Minus l = Mark mark.Minus l

abbrev pub comparison_mark : Comparison → ℕ → Lexeme
comparison_mark Eq l = Mark mark.Equal l
comparison_mark Ne l = Mark mark.Diamond l
comparison_mark Lt l = Mark mark.Less l
comparison_mark Le l = Mark mark.LessEqual l
comparison_mark Gt l = Mark mark.Greater l
comparison_mark Ge l = Mark mark.GreaterEqual l

abbrev pub spell_place : Place → List Lexeme → List Lexeme
spell_place NoPlace r = r
spell_place (At l n) r = Mark mark.At l ∷ Lower n ∷ r

abbrev pub spell_bar : FirstBar → List Lexeme → List Lexeme
spell_bar NoBar r = r
spell_bar (Bar l) r = Mark mark.Bar l ∷ r

abbrev pub field_lexeme : Field → Lexeme
field_lexeme (Named n) = Lower n
field_lexeme (Blank l) = Mark mark.Blank l

abbrev pub spell_field_list : FieldList → List Lexeme → List Lexeme
spell_field_list (OneField f) r = field_lexeme f ∷ r
spell_field_list (MoreFields fs l f) r = spell_field_list fs (Mark mark.Comma l ∷ field_lexeme f ∷ r)

abbrev pub spell_fields : Fields → List Lexeme → List Lexeme
spell_fields NoFields r = r
spell_fields (InParens l fs m) r = Mark mark.Open l ∷ spell_field_list fs (Mark mark.Close m ∷ r)

abbrev pub spell_cell : Cell → List Lexeme → List Lexeme
spell_cell NoCell r = r
spell_cell (AtField l f) r = Mark mark.At l ∷ field_lexeme f ∷ r

abbrev mutual
  pub spell_solid : Solid → List Lexeme → List Lexeme
  spell_solid (Literal n l) r = Number n l ∷ r
  spell_solid (True l) r = Mark mark.True l ∷ r
  spell_solid (False l) r = Mark mark.False l ∷ r
  spell_solid (Full c l es m p) r = Upper c ∷ Mark mark.Open l ∷ spell_exprs es (Mark mark.Close m ∷ spell_place p r)
  spell_solid (Placed c l d) r = Upper c ∷ Mark mark.At l ∷ Lower d ∷ r

  pub spell_firm : Firm → List Lexeme → List Lexeme
  spell_firm (Is s) r = spell_solid s r
  spell_firm (Paren l e m) r = Mark mark.Open l ∷ spell_expr e (Mark mark.Close m ∷ r)

  pub spell_units : Units → List Lexeme → List Lexeme
  spell_units NoUnits r = r
  spell_units (AndLower us n) r = spell_units us (Lower n ∷ r)
  spell_units (AndFirm us u) r = spell_units us (spell_firm u r)
  spell_units (BareLower bs n) r = spell_bare bs (Lower n ∷ r)
  spell_units (BareSolid bs u) r = spell_bare bs (spell_solid u r)

  pub spell_bare : Bare → List Lexeme → List Lexeme
  spell_bare (AndUpper us n) r = spell_units us (Upper n ∷ r)
  spell_bare (BareUpper bs n) r = spell_bare bs (Upper n ∷ r)

  pub spell_pre : Pre → List Lexeme → List Lexeme
  spell_pre (Not l p) r = Mark mark.Not l ∷ spell_pre p r
  spell_pre (Negative l n m) r = Mark mark.Minus l ∷ Number n m ∷ r
  spell_pre (Least l m) r = Mark mark.Minus l ∷ Greatest m ∷ r
  spell_pre (Apply f us) r = Lower f ∷ spell_units us r
  spell_pre (ApplyBare f bs) r = Lower f ∷ spell_bare bs r
  spell_pre (Con c) r = Upper c ∷ r
  spell_pre (Alone u) r = spell_firm u r

  pub spell_prod : Prod → List Lexeme → List Lexeme
  spell_prod (OnePre p) r = spell_pre p r
  spell_prod (Times x o l p) r = spell_prod x (product_mark o l ∷ spell_pre p r)

  pub spell_sum : Sum → List Lexeme → List Lexeme
  spell_sum (OneProd x) r = spell_prod x r
  spell_sum (Adds s o l x) r = spell_sum s (sign_mark o l ∷ spell_prod x r)

  pub spell_cmp : Cmp → List Lexeme → List Lexeme
  spell_cmp (OneSum s) r = spell_sum s r
  spell_cmp (Compares s o l t) r = spell_sum s (comparison_mark o l ∷ spell_sum t r)

  pub spell_and : And → List Lexeme → List Lexeme
  spell_and (OneCmp c) r = spell_cmp c r
  spell_and (Both a l c) r = spell_and a (Mark mark.AndAnd l ∷ spell_cmp c r)

  pub spell_or : Or → List Lexeme → List Lexeme
  spell_or (OneAnd a) r = spell_and a r
  spell_or (Either o l a) r = spell_or o (Mark mark.OrOr l ∷ spell_and a r)

  pub spell_expr : Expr → List Lexeme → List Lexeme
  spell_expr (Let l n m v i b) r = Mark mark.Let l ∷ Lower n ∷ Mark mark.Equal m ∷ spell_expr v (Mark mark.In i ∷ spell_expr b r)
  spell_expr (If l c m a n b) r = Mark mark.If l ∷ spell_expr c (Mark mark.Then m ∷ spell_expr a (Mark mark.Else n ∷ spell_expr b r))
  spell_expr (Match l e m bar as' n) r = Mark mark.Match l ∷ spell_expr e (Mark mark.With m ∷ spell_bar bar (spell_arms as' (Mark mark.End n ∷ r)))
  spell_expr (Chain o) r = spell_or o r

  pub spell_exprs : Exprs → List Lexeme → List Lexeme
  spell_exprs (OneExpr e) r = spell_expr e r
  spell_exprs (MoreExprs es l e) r = spell_exprs es (Mark mark.Comma l ∷ spell_expr e r)

  pub spell_arms : Arms → List Lexeme → List Lexeme
  spell_arms (OneArm a) r = spell_arm a r
  spell_arms (MoreArms as' l a) r = spell_arms as' (Mark mark.Bar l ∷ spell_arm a r)

  pub spell_arm : Arm → List Lexeme → List Lexeme
  spell_arm (Case c fs at l e) r = Upper c ∷ spell_fields fs (spell_cell at (Mark mark.Arrow l ∷ spell_expr e r))

abbrev pub atom_lexeme : WrittenAtom → Lexeme
atom_lexeme (Int l) = Mark mark.Int l
atom_lexeme (Bool' l) = Mark mark.Bool l
atom_lexeme (Dia l) = Mark mark.Diamond l
atom_lexeme (Of n) = Lower n

abbrev pub spell_atoms : AtomList → List Lexeme → List Lexeme
spell_atoms (OneAtom a) r = atom_lexeme a ∷ r
spell_atoms (MoreAtoms as' l a) r = spell_atoms as' (Mark mark.Star l ∷ atom_lexeme a ∷ r)

abbrev pub spell_con : ConDecl → List Lexeme → List Lexeme
spell_con (Inline l n) r = Mark mark.Bang l ∷ Upper n ∷ r
spell_con (NoFields' n) r = Upper n ∷ r
spell_con (WithFields n l as') r = Upper n ∷ Mark mark.Of l ∷ spell_atoms as' r

abbrev pub spell_cons : Cons → List Lexeme → List Lexeme
spell_cons (OneCon c) r = spell_con c r
spell_cons (MoreCons cs l c) r = spell_cons cs (Mark mark.Bar l ∷ spell_con c r)

abbrev pub spell_kind : Kind → List Lexeme → List Lexeme
spell_kind NoKind r = r
spell_kind (OfKind l a) r = Mark mark.Colon l ∷ atom_lexeme a ∷ r

abbrev pub spell_read : ReadMark → List Lexeme → List Lexeme
spell_read NoRead r = r
spell_read (Read l) r = Mark mark.Read l ∷ r

abbrev pub spell_param : WrittenParam → List Lexeme → List Lexeme
spell_param (Simple n) r = Lower n ∷ r
spell_param (Marked l w n k m) r = Mark mark.Open l ∷ spell_read w (Lower n ∷ spell_kind k (Mark mark.Close m ∷ r))

abbrev pub spell_params : Params → List Lexeme → List Lexeme
spell_params (OneParam p) r = spell_param p r
spell_params (MoreParams ps p) r = spell_params ps (spell_param p r)

abbrev pub spell_decls : Decls → List Lexeme → List Lexeme
spell_decls NoDecls r = r
spell_decls (AndType ds l n m cs) r = spell_decls ds (Mark mark.Type l ∷ Lower n ∷ Mark mark.Equal m ∷ spell_cons cs r)
spell_decls (AndFun ds l n ps k m e) r = spell_decls ds (Mark mark.Let l ∷ Lower n ∷ spell_params ps (spell_kind k (Mark mark.Equal m ∷ spell_expr e r)))
