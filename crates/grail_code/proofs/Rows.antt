-- The meaning of code on small codes: what no law guards. Tail position, the depth of calls that wait, order of
-- evaluation, wrap-around, division, diamonds as arguments, the peak of cells. Then what bytes are that tell the
-- formats apart.
use Rattle.std.proofs.Common.{◌≡◌, ℕ, List, [], ◌∷◌, false, true, refl, subst}
use Rattle.std.specs.Prelude.{codes, pos, negsuc, map}
use Rattle.camelot_values.specs.Value as value
use Rattle.camelot_values.specs.Value.{Value, parts}
use Rattle.camelot_values.specs.Operator as operator
use Rattle.camelot_values.specs.Operator.{Operator}
use Rattle.camelot_values.specs.Outcome.{Done, Fuel, Deep, Trap, Stuck}
use Rattle.camelot_values.specs.Kinds.{DataType}
use Rattle.camelot_values.specs.declared.kinds.Kind.{Kind}
use Rattle.camelot_values.specs.declared.kinds.Kind.TheVariants as kind
use Rattle.grail_blocks.specs.declared.blocks.Place.TheVariants as place
use Rattle.grail_blocks.specs.declared.blocks.CaseCell.TheVariants as cell
use Rattle.grail_code.specs.Code.{Lit, Prim, Make, Call, Let, Term, Ret, Tail, Goto, If, Case, Block, Func, Code, Op}
use Rattle.grail_code.specs.Meaning.{run_of}
use Rattle.grail_code.specs.Spelling.{Decoded, Spelled, Front, Broken, Means}
use Rattle.grail_code.specs.Reader.{byte_at, tag_at, leb_at, times_at, counted_at}
use Rattle.grail_code.specs.CodeReader.{whole, headed_at, digit_at, format_at, code_at, tables_at, type_at, func_at, name_at, word_at, tail_at, header_at, param_at, kind_at, block_at, local_at, let_at, op_at, op_rest, prim_at, operator_at, exit_at, exit_rest, ret_at}
use Rattle.grail_code.proofs.SpellingMeans.{means_whole}

abbrev bound : ℕ → Op → Let
bound x op = record { target = x; op = op }

abbrev block : List ℕ → List Let → Term → Block
block params lets term = record { params = params; lets = lets; term = term }

abbrev func : List Kind → Kind → List Kind → List Block → Func
func params result locals blocks = record { name = codes "f"; params = params; reads = map (λ q. false) params; result = result; locals = locals; blocks = blocks }

abbrev code : List DataType → List Func → Code
code types funcs = record { types = types; funcs = funcs }

abbrev int : ℕ → Value
int n = value.Int (pos n)

-- f n = if n = 0 then 0 else f (n - 1)
abbrev loop : Code
loop = code [] (func (kind.Int ∷ []) kind.Int (kind.Int ∷ kind.Flag ∷ kind.Int ∷ kind.Int ∷ []) (
    block (0 ∷ []) (bound 1 (Lit (pos 0)) ∷ bound 2 (Prim operator.Eq 0 1) ∷ []) (If 2 1 2)
    ∷ block [] (bound 1 (Lit (pos 0)) ∷ []) (Ret 1)
    ∷ block (0 ∷ []) (bound 3 (Lit (pos 1)) ∷ bound 4 (Prim operator.Sub 0 3) ∷ []) (Tail 0 (4 ∷ []))
    ∷ []) ∷ [])

-- no call waits
pub loop_in_no_depth : run_of loop 0 0 10 (int 3 ∷ []) ≡ Done (int 0) 4 0 0
loop_in_no_depth = refl

pub loop_out_of_fuel : run_of loop 0 0 3 (int 3 ∷ []) ≡ Fuel 3 0
loop_out_of_fuel = refl

-- f n = if n = 0 then 0 else 1 + f (n - 1)
abbrev down : Code
down = code [] (func (kind.Int ∷ []) kind.Int (kind.Int ∷ kind.Flag ∷ kind.Int ∷ kind.Int ∷ kind.Int ∷ kind.Int ∷ []) (
    block (0 ∷ []) (bound 1 (Lit (pos 0)) ∷ bound 2 (Prim operator.Eq 0 1) ∷ []) (If 2 1 2)
    ∷ block [] (bound 1 (Lit (pos 0)) ∷ []) (Ret 1)
    ∷ block (0 ∷ []) (bound 3 (Lit (pos 1)) ∷ bound 4 (Prim operator.Sub 0 3) ∷ bound 5 (Call 0 (4 ∷ [])) ∷ bound 6 (Prim operator.Add 3 5) ∷ []) (Ret 6)
    ∷ []) ∷ [])

-- two calls wait, and a third may not
pub down_in_two : run_of down 2 0 10 (int 2 ∷ []) ≡ Done (int 2) 3 0 0
down_in_two = refl

pub down_too_deep : run_of down 2 0 10 (int 3 ∷ []) ≡ Deep 0
down_too_deep = refl

-- fuel is looked at before depth
pub down_fuel_first : run_of down 2 0 3 (int 3 ∷ []) ≡ Fuel 3 0
down_fuel_first = refl

-- an operator on two arguments
abbrev on_two : Operator → Kind → Code
on_two op q = code [] (func (kind.Int ∷ kind.Int ∷ []) q (q ∷ []) (block (0 ∷ 1 ∷ []) (bound 2 (Prim op 0 1) ∷ []) (Ret 2) ∷ []) ∷ [])

pub add_wraps : run_of (on_two operator.Add kind.Int) 0 0 1 (int 2147483647 ∷ int 1 ∷ []) ≡ Done (value.Int (negsuc 2147483647)) 1 0 0
add_wraps = refl

pub sub_wraps : run_of (on_two operator.Sub kind.Int) 0 0 1 (value.Int (negsuc 2147483647) ∷ int 1 ∷ []) ≡ Done (int 2147483647) 1 0 0
sub_wraps = refl

pub sub_in_order : run_of (on_two operator.Sub kind.Int) 0 0 1 (int 5 ∷ int 7 ∷ []) ≡ Done (value.Int (negsuc 1)) 1 0 0
sub_in_order = refl

pub mul_wraps : run_of (on_two operator.Mul kind.Int) 0 0 1 (int 65536 ∷ int 65536 ∷ []) ≡ Done (int 0) 1 0 0
mul_wraps = refl

pub mul_to_the_least : run_of (on_two operator.Mul kind.Int) 0 0 1 (int 65536 ∷ int 32768 ∷ []) ≡ Done (value.Int (negsuc 2147483647)) 1 0 0
mul_to_the_least = refl

-- a quotient is rounded toward zero, and wraps
pub div_of_signs : run_of (on_two operator.Div kind.Int) 0 0 1 (value.Int (negsuc 6) ∷ int 2 ∷ []) ≡ Done (value.Int (negsuc 2)) 1 0 0
div_of_signs = refl

pub div_wraps : run_of (on_two operator.Div kind.Int) 0 0 1 (value.Int (negsuc 2147483647) ∷ value.Int (negsuc 0) ∷ [])
    ≡ Done (value.Int (negsuc 2147483647)) 1 0 0
div_wraps = refl

-- a remainder has the sign of the left operand
pub mod_of_signs : run_of (on_two operator.Mod kind.Int) 0 0 1 (value.Int (negsuc 6) ∷ int 2 ∷ []) ≡ Done (value.Int (negsuc 0)) 1 0 0
mod_of_signs = refl

pub mod_by_less : run_of (on_two operator.Mod kind.Int) 0 0 1 (int 7 ∷ value.Int (negsuc 1) ∷ []) ≡ Done (int 1) 1 0 0
mod_by_less = refl

pub mod_where_div_wraps : run_of (on_two operator.Mod kind.Int) 0 0 1 (value.Int (negsuc 2147483647) ∷ value.Int (negsuc 0) ∷ []) ≡ Done (int 0) 1 0 0
mod_where_div_wraps = refl

-- division by 0 stops the run
pub div_by_none : run_of (on_two operator.Div kind.Int) 0 0 1 (int 7 ∷ int 0 ∷ []) ≡ Trap 0
div_by_none = refl

pub mod_by_none : run_of (on_two operator.Mod kind.Int) 0 0 1 (int 7 ∷ int 0 ∷ []) ≡ Trap 0
mod_by_none = refl

pub less_of_signs : run_of (on_two operator.Lt kind.Flag) 0 0 1 (value.Int (negsuc 0) ∷ int 0 ∷ []) ≡ Done (value.Flag true) 1 0 0
less_of_signs = refl

pub at_most_equal : run_of (on_two operator.Le kind.Flag) 0 0 1 (int 4 ∷ int 4 ∷ []) ≡ Done (value.Flag true) 1 0 0
at_most_equal = refl

pub not_greater_equal : run_of (on_two operator.Gt kind.Flag) 0 0 1 (int 4 ∷ int 4 ∷ []) ≡ Done (value.Flag false) 1 0 0
not_greater_equal = refl

pub at_least_equal : run_of (on_two operator.Ge kind.Flag) 0 0 1 (int 4 ∷ int 4 ∷ []) ≡ Done (value.Flag true) 1 0 0
at_least_equal = refl

pub different : run_of (on_two operator.Ne kind.Flag) 0 0 1 (int 4 ∷ int 5 ∷ []) ≡ Done (value.Flag true) 1 0 0
different = refl

-- type ilist = !Nil | Cons of int * ilist
abbrev ilist : DataType
ilist = record {
  name = codes "ilist";
  cons = record { name = codes "Nil"; inline = true; fields = [] } ∷ record { name = codes "Cons"; inline = false; fields = kind.Int ∷ kind.Of 0 ∷ [] } ∷ [];
}

abbrev list : List ℕ → Value
list [] = value.Con 0 value.End
list (n ∷ ns) = value.Con 1 (parts (int n ∷ list ns ∷ []))

-- push d x l = Cons(x, l)@d: a diamond as an argument, built in
pub pushed : run_of (code (ilist ∷ []) (func (kind.Dia ∷ kind.Int ∷ kind.Of 0 ∷ []) (kind.Of 0) (kind.Of 0 ∷ []) (
    block (0 ∷ 1 ∷ 2 ∷ []) (bound 3 (Make 1 (1 ∷ 2 ∷ []) (place.Reuse 0)) ∷ []) (Ret 3) ∷ []) ∷ []))
    0 0 1 (value.Dia ∷ int 1 ∷ list (7 ∷ []) ∷ []) ≡ Done (list (1 ∷ 7 ∷ [])) 1 0 0
pushed = refl

-- keep d = d
pub kept_diamond : run_of (code [] (func (kind.Dia ∷ []) kind.Dia [] (block (0 ∷ []) [] (Ret 0) ∷ []) ∷ [])) 0 0 1 (value.Dia ∷ []) ≡ Done value.Dia 1 0 0
kept_diamond = refl

-- A cell is freed, and then two are taken: the net is -1 before it is 1, so the peak is 1.
pub freed_then_taken : run_of (code (ilist ∷ []) (func (kind.Of 0 ∷ []) (kind.Of 0) (kind.Int ∷ kind.Of 0 ∷ kind.Of 0 ∷ kind.Of 0 ∷ []) (
    block (0 ∷ []) [] (Case 0 (record { fields = []; cell = cell.Inline; target = 1 } ∷ record { fields = 1 ∷ 2 ∷ []; cell = cell.Free; target = 2 } ∷ []))
    ∷ block [] (bound 3 (Make 0 [] place.Inline) ∷ []) (Ret 3)
    ∷ block (1 ∷ 2 ∷ []) (bound 3 (Make 1 (1 ∷ 2 ∷ []) place.New) ∷ bound 4 (Make 1 (1 ∷ 3 ∷ []) place.New) ∷ []) (Ret 4)
    ∷ []) ∷ [])) 0 0 1 (list (9 ∷ []) ∷ []) ≡ Done (list (9 ∷ 9 ∷ [])) 1 1 0
freed_then_taken = refl

-- The first argument takes its cell before the second runs out of fuel: two x = Two(one x, spin x).
abbrev both : Code
both = code (ilist ∷ record { name = codes "two"; cons = record { name = codes "Two"; inline = false; fields = kind.Of 0 ∷ kind.Int ∷ [] } ∷ [] } ∷ []) (
    func (kind.Int ∷ []) (kind.Of 0) (kind.Of 0 ∷ kind.Of 0 ∷ []) (block (0 ∷ []) (bound 1 (Make 0 [] place.Inline) ∷ bound 2 (Make 1 (0 ∷ 1 ∷ []) place.New) ∷ []) (Ret 2) ∷ [])
    ∷ func (kind.Int ∷ []) kind.Int [] (block (0 ∷ []) [] (Tail 1 (0 ∷ [])) ∷ [])
    ∷ func (kind.Int ∷ []) (kind.Of 1) (kind.Of 0 ∷ kind.Int ∷ kind.Of 1 ∷ []) (
    block (0 ∷ []) (bound 1 (Call 0 (0 ∷ [])) ∷ bound 2 (Call 1 (0 ∷ [])) ∷ bound 3 (Make 2 (1 ∷ 2 ∷ []) place.New) ∷ []) (Ret 3) ∷ [])
    ∷ [])

pub both_of_seven : run_of both 65536 2 5 (int 7 ∷ []) ≡ Fuel 5 1
both_of_seven = refl

-- a parameter that isn't bound stays unbound, and only reading it is stuck
pub unbound_parameter : run_of (code [] (func (kind.Int ∷ []) kind.Int (kind.Int ∷ []) (block (0 ∷ []) [] (Goto 1) ∷ block (0 ∷ 1 ∷ []) [] (Ret 0) ∷ []) ∷ [])) 0 0 1 (int 3 ∷ []) ≡ Done (int 3) 1 0 0
unbound_parameter = refl

pub unbound_read : run_of (code [] (func (kind.Int ∷ []) kind.Int (kind.Int ∷ []) (block (0 ∷ []) [] (Goto 1) ∷ block (0 ∷ 1 ∷ []) [] (Ret 1) ∷ []) ∷ [])) 0 0 1 (int 3 ∷ []) ≡ Stuck
unbound_read = refl

-- ---- formats

-- what bytes are, by reading them
abbrev read_as : List ℕ → Decoded
read_as bytes = whole bytes (code_at bytes)

is_so : (bytes : List ℕ) (o : Decoded) → read_as bytes ≡ o → Means bytes o
is_so bytes o e = subst (Means bytes) e (means_whole bytes)

-- `GRL3` is bad at its last byte, and `GRL` the beginning of a spelling
pub third_format : Means (71 ∷ 82 ∷ 76 ∷ 51 ∷ []) (Broken 3)
unfolding code_at format_at headed_at digit_at byte_at
third_format = is_so _ (Broken 3) refl

pub format_front : Means (71 ∷ 82 ∷ 76 ∷ []) Front
unfolding code_at format_at headed_at digit_at byte_at
format_front = is_so _ Front refl

-- let add a b = a OP b, in 28 bytes: the last byte that tells the format, and the operator's
abbrev add_bytes : (digit number : ℕ) → List ℕ
add_bytes digit number = 71 ∷ 82 ∷ 76 ∷ digit ∷ 0 ∷ 1 ∷ 3 ∷ 97 ∷ 100 ∷ 100 ∷ 2 ∷ 0 ∷ 0 ∷ 0 ∷ 1 ∷ 0 ∷ 1 ∷ 2 ∷ 0 ∷ 1 ∷ 1 ∷ 2 ∷ 3 ∷ number ∷ 0 ∷ 1 ∷ 0 ∷ 2 ∷ []

abbrev add_code : Operator → Code
add_code op = code [] (record {
  name = codes "add";
  params = kind.Int ∷ kind.Int ∷ [];
  reads = false ∷ false ∷ [];
  result = kind.Int;
  locals = kind.Int ∷ [];
  blocks = block (0 ∷ 1 ∷ []) (bound 2 (Prim op 0 1) ∷ []) (Ret 2) ∷ [];
} ∷ [])

pub record OfFormats : Type 0 where
  -- Code without division has both spellings.
  pub add_in_first : Means (add_bytes 49 0) (Spelled (add_code operator.Add))
  pub add_in_second : Means (add_bytes 50 0) (Spelled (add_code operator.Add))
  -- The first format has no division: its operator is the first bad byte.
  pub div_in_first : Means (add_bytes 49 9) (Broken 23)
  pub mod_in_first : Means (add_bytes 49 10) (Broken 23)
  pub div_in_second : Means (add_bytes 50 9) (Spelled (add_code operator.Div))
  pub mod_in_second : Means (add_bytes 50 10) (Spelled (add_code operator.Mod))
  -- No operator has a further number.
  pub none_in_second : Means (add_bytes 50 11) (Broken 23)

pub of_formats : OfFormats
unfolding code_at format_at headed_at digit_at tables_at counted_at times_at byte_at tag_at leb_at type_at func_at name_at word_at tail_at header_at param_at kind_at block_at local_at let_at op_at op_rest prim_at operator_at exit_at exit_rest ret_at
of_formats = record {
  add_in_first = is_so _ (Spelled (add_code operator.Add)) refl;
  add_in_second = is_so _ (Spelled (add_code operator.Add)) refl;
  div_in_first = is_so _ (Broken 23) refl;
  mod_in_first = is_so _ (Broken 23) refl;
  div_in_second = is_so _ (Spelled (add_code operator.Div)) refl;
  mod_in_second = is_so _ (Spelled (add_code operator.Mod)) refl;
  none_in_second = is_so _ (Broken 23) refl;
}
