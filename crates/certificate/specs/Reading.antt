-- Laws, for the proofs of this crate and of those above it.
-- The reader as functions on the words of a line: what comes of a function when one more line is added to it, the
-- limits left out.
use Rattle.std.specs.Prelude.{◌≡◌, ℕ, ◌==◌, ◌&&◌, ◌||◌, not, nat_lt, Bool, true, false, if◌then◌else◌, Option, Some, None, List, [], ◌∷◌, ◌++◌, length, map, codes}
use Rattle.std.specs.Option.{option_map}
use Rattle.std.specs.Str.{bytes_eq}
use Rattle.camelot_values.specs.Names.{is_lower_name}
use Rattle.annotations.specs.Vectors.{Vector}
use Rattle.text_lines.specs.Cuts.{and_then, only_if, upto, from, behind, capped, number_of}
use Rattle.certificate.specs.Certificates.{VarCert, BlockCert, MakeCert, FuncCert}
use Rattle.certificate.specs.declared.stop.LineStop.{LineStop}
use Rattle.certificate.specs.declared.stop.LineStop.TheVariants as stop

-- ---- what was read

-- it is this, within the limits
pub record IsRead {A : Type 0} (found : Option A) (Fits : A → Type 0) (x : A) : Type 0 where
  pub is : found ≡ Some x
  pub fits : Fits x

-- it is there, and beyond the limits
pub record IsWide {A : Type 0} (found : Option A) (Fits : A → Type 0) : Type 0 where
  pub x : A
  pub is : found ≡ Some x
  pub wide : Fits x → ⊥

-- why it isn't read
abbrev pub IsStopped : {A : Type 0} → Option A → (A → Type 0) → LineStop → Type 0
IsStopped found Fits stop.Line = found ≡ None
IsStopped found Fits stop.Number = IsWide found Fits
IsStopped found Fits stop.Memory = Unit {0}

abbrev pub IsNoMemory : LineStop → Type 0
IsNoMemory stop.Line = ⊥
IsNoMemory stop.Number = ⊥
IsNoMemory stop.Memory = Unit {0}

-- ---- words

-- just three words, and just five
abbrev pub is_three : List (List ℕ) → Bool
is_three (a ∷ b ∷ c ∷ []) = true
is_three ws = false

abbrev pub is_five : List (List ℕ) → Bool
is_five (a ∷ b ∷ ws) = is_three ws
is_five ws = false

-- ---- numbers

-- at the first place where they differ the left has the smaller digit
abbrev pub digits_below : List ℕ → List ℕ → Bool
digits_below [] ys = false
digits_below (x ∷ xs) [] = false
digits_below (x ∷ xs) (y ∷ ys) = if x == y then digits_below xs ys else nat_lt x y

-- the order of numbers that are written without leading zeros; nothing is before all of them
abbrev pub is_before : List ℕ → List ℕ → Bool
is_before xs ys = if length xs == length ys then digits_below xs ys else nat_lt (length xs) (length ys)

-- ---- vectors

abbrev pub capped_pair : ℕ × ℕ → ℕ × ℕ
capped_pair p = (capped p.0, capped p.1)

abbrev pub is_there : {A : Type 0} → Option A → Bool
is_there None = false
is_there (Some x) = true

-- with these pairs in front
abbrev pub put_front : Vector → Option Vector → Option Vector
put_front ps None = None
put_front ps (Some v) = Some (ps ++ v)

-- the pair of these two numbers, behind a constructor that is written so
unfoldable pub pair_of : List ℕ → List ℕ → List ℕ → Option (ℕ × ℕ)
pair_of prev con units = and_then (number_of con) (λ c. and_then (number_of units) (λ u. only_if (is_before prev con && not (u == 0)) (Some (c, u))))

-- pairs behind a constructor that is written so
unfoldable pub vector_from : List ℕ → List (List ℕ) → Option Vector
vector_from prev [] = Some []
vector_from prev (w ∷ ws) = and_then (pair_of prev (upto 61 w) (behind (from 61 w))) (λ p. option_map (λ v. p ∷ v) (vector_from (upto 61 w) ws))

-- at least one pair
unfoldable pub vector_of : List (List ℕ) → Option Vector
vector_of [] = None
vector_of (w ∷ ws) = vector_from [] (w ∷ ws)

-- ---- lines

-- behind nothing, or behind a smaller number
abbrev pub is_after : Option ℕ → ℕ → Bool
is_after None n = true
is_after (Some m) n = nat_lt m n

abbrev pub last_of : List ℕ → Option ℕ
last_of [] = None
last_of (x ∷ []) = Some x
last_of (x ∷ y ∷ xs) = last_of (y ∷ xs)

-- the one place of a block is before the other
abbrev pub comes_behind : (last_block last_place block place : ℕ) → Bool
comes_behind last_block last_place block place = nat_lt last_block block || ((last_block == block) && nat_lt last_place place)

-- a make line may stand behind these
abbrev pub makes_on : List MakeCert → ℕ → ℕ → Bool
makes_on [] block place = true
makes_on (m ∷ []) block place = comes_behind m.block m.place block place
makes_on (m ∷ n ∷ ms) block place = makes_on (n ∷ ms) block place

-- a local behind another, with its annotations
unfoldable pub var_of_words : Option ℕ → List (List ℕ) → Option VarCert
var_of_words last [] = None
var_of_words last (w ∷ ws) = and_then (number_of w) (λ n. only_if (is_after last n) (option_map (λ v. record { var = n; vector = v }) (vector_of ws)))

abbrev pub last_var : List VarCert → Option ℕ
last_var vs = last_of (map (λ v. v.var) vs)

abbrev pub last_block : List BlockCert → Option ℕ
last_block bs = last_of (map (λ b. b.block) bs)

-- the last of these with a change
abbrev pub at_last : {A : Type 0} → (A → Option A) → List A → Option (List A)
at_last step [] = None
at_last step (x ∷ []) = option_map (λ y. y ∷ []) (step x)
at_last step (x ∷ y ∷ ys) = option_map (λ zs. x ∷ zs) (at_last step (y ∷ ys))

abbrev pub is_none : {A : Type 0} → List A → Bool
is_none [] = true
is_none (x ∷ xs) = false

-- only parameters may still come behind what is there
abbrev pub only_params : FuncCert → Bool
only_params f = is_none f.result && is_none f.blocks && is_none f.makes

unfoldable pub add_param : List (List ℕ) → FuncCert → Option FuncCert
add_param ws f = only_if (only_params f) (option_map (λ v. record f { params = f.params ++ v ∷ [] }) (var_of_words (last_var f.params) ws))

unfoldable pub add_result : List (List ℕ) → FuncCert → Option FuncCert
add_result ws f = only_if (only_params f) (option_map (λ v. record f { result = v }) (vector_of ws))

-- `B need N` behind other blocks
unfoldable pub block_of_words : Option ℕ → List (List ℕ) → Option BlockCert
block_of_words last (b ∷ w ∷ n ∷ []) = and_then (number_of b) (λ block. and_then (number_of n) (λ need. only_if (bytes_eq w (codes "need") && is_after last block) (Some (record { block = block; need = need; vars = [] }))))
block_of_words last ws = None

unfoldable pub add_block : List (List ℕ) → FuncCert → Option FuncCert
add_block ws f = only_if (is_none f.makes) (option_map (λ b. record f { blocks = f.blocks ++ b ∷ [] }) (block_of_words (last_block f.blocks) ws))

unfoldable pub var_into : List (List ℕ) → BlockCert → Option BlockCert
var_into ws b = option_map (λ v. record b { vars = b.vars ++ v ∷ [] }) (var_of_words (last_var b.vars) ws)

unfoldable pub add_var : List (List ℕ) → FuncCert → Option FuncCert
add_var ws f = only_if (is_none f.makes) (option_map (λ bs. record f { blocks = bs }) (at_last (var_into ws) f.blocks))

-- `B P VEC` behind other makes
unfoldable pub make_of_words : List MakeCert → List (List ℕ) → Option MakeCert
make_of_words makes (b ∷ p ∷ ws) = and_then (number_of b) (λ block. and_then (number_of p) (λ place. only_if (makes_on makes block place) (option_map (λ v. record { block = block; place = place; vector = v }) (vector_of ws))))
make_of_words makes ws = None

unfoldable pub add_make : List (List ℕ) → FuncCert → Option FuncCert
add_make ws f = option_map (λ m. record f { makes = f.makes ++ m ∷ [] }) (make_of_words f.makes ws)

-- the function with one more line of its own
unfoldable pub add_own : List ℕ → List (List ℕ) → FuncCert → Option FuncCert
add_own tag ws f =
    if bytes_eq tag (codes "param") then add_param ws f else
    if bytes_eq tag (codes "result") then add_result ws f else
    if bytes_eq tag (codes "block") then add_block ws f else
    if bytes_eq tag (codes "var") then add_var ws f else
    if bytes_eq tag (codes "make") then add_make ws f else None

abbrev pub bare_func : List ℕ → ℕ → ℕ → FuncCert
bare_func name need back = record { name = name; need = need; back = back; params = []; result = []; blocks = []; makes = [] }

-- `NAME need N back M`
unfoldable pub function_of_words : List (List ℕ) → Option FuncCert
function_of_words (name ∷ w ∷ n ∷ v ∷ b ∷ []) = and_then (number_of n) (λ need. and_then (number_of b) (λ back. only_if (is_lower_name name && bytes_eq w (codes "need") && bytes_eq v (codes "back")) (Some (bare_func name need back))))
function_of_words ws = None

-- with this function behind
abbrev pub put_behind : List FuncCert → Option FuncCert → Option (List FuncCert)
put_behind funcs found = option_map (λ f. funcs ++ f ∷ []) found

-- the functions with one more line
unfoldable pub add_line : List (List ℕ) → List FuncCert → Option (List FuncCert)
add_line [] funcs = None
add_line (tag ∷ ws) funcs =
    if bytes_eq tag (codes "function") then put_behind funcs (function_of_words ws) else at_last (add_own tag ws) funcs

-- the unit of the second line
unfoldable pub unit_of : List (List ℕ) → Option ℕ
unit_of (tag ∷ w ∷ []) = and_then (number_of w) (λ n. only_if (bytes_eq tag (codes "unit") && not (n == 0)) (Some n))
unit_of ws = None
