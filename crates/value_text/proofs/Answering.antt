-- What was read of a text is what is answered.
use Rattle.std.proofs.Common.{◌≡◌, ℕ, suc, ◌<◌, ◌≤◌, Bool, true, false, List, [], ◌∷◌, ◌++◌, length, take, refl, sym, ap, ◌∙◌, subst, arith, inl, inr}
use Rattle.std.specs.Prelude.{◌⊎◌}
use Rattle.std.specs.List.{list_all}
use Rattle.camelot_values.specs.Value.{Value, parts, part_count}
use Rattle.camelot_values.specs.Items.{nodes_all}
use Rattle.camelot_values.specs.Counts.{size_all}
use Rattle.camelot_values.specs.Kinds.{DataType}
use Rattle.camelot_values.specs.declared.kinds.Kind.{Kind}
use Rattle.camelot_values.specs.declared.value.Item.{Item}
use Rattle.value_text.specs.Grammar.{IsTextOf, IsRead, IsTooLong, IsBadShape, Begins}
use Rattle.value_text.specs.Due.{Possible, Whole, first_due}
use Rattle.value_text.specs.Finite.{Exact, has_value}
use Rattle.value_text.specs.Values.{OfValues}
use Rattle.value_text.specs.Only.{OnlyRead, OnlyLong, OnlyText, OnlyFault, IsBad}
use Rattle.stops.specs.Stopping.{FaultIs}
use Rattle.stops.specs.declared.stop.Stop.{Stop}
use Rattle.stops.specs.declared.stop.Stop.TheVariants.{Fault, Memory}
use Rattle.value_text.specs.Answers.{IsFault, IsMemory, IsBadAt, IsLongBy}
use Rattle.value_text.specs.declared.asking.ValueFault.{ValueFault}
use Rattle.value_text.specs.declared.asking.ValueFault.TheVariants as fault
use Rattle.value_text.proofs.Words.{true_false}
use Rattle.value_text.proofs.Finiteness.{values_of_kinds, kinds_of_values}
use Rattle.value_text.proofs.Texts.{TextOf, text_accepted, one_text, size_of, no_values, possible_first, nodes_all_same, parts_same, fit_count}

pub all_possible : (types : List DataType) (marks : List Bool) (kinds : List Kind) (b : Bool) → Exact types marks
    → b ≡ list_all (has_value marks) kinds → b ≡ true → Possible types (first_due kinds)
all_possible types marks kinds b e h t = possible_first types kinds (values_of_kinds types marks e.sound kinds (sym h ∙ t))

pub none_possible : (types : List DataType) (marks : List Bool) (kinds : List Kind) (text : List ℕ) (b : Bool) → Exact types marks
    → b ≡ list_all (has_value marks) kinds → b ≡ false → IsBadShape types kinds text 0
none_possible types marks kinds text b e h f = no_values types kinds text (λ v. true_false b (h ∙ kinds_of_values types marks e.complete kinds v) f)

part_length : (vs : List Value) → part_count (parts vs) ≡ length vs
part_length [] = refl
part_length (v ∷ vs) = ap suc (part_length vs)

text_of : (types : List DataType) (kinds : List Kind) (text : List ℕ) (xs : List Item) → Whole types (first_due kinds) text xs → TextOf types kinds text xs
text_of types kinds text xs w = text_accepted types kinds text xs w.accepts

only_text : (types : List DataType) (kinds : List Kind) (text : List ℕ) (xs : List Item) (w : Whole types (first_due kinds) text xs)
    → OnlyText types kinds text (text_of types kinds text xs w).values
only_text types kinds text xs w others t = one_text types kinds text xs others (text_of types kinds text xs w).values w t (text_of types kinds text xs w).is

pub too_long : (types : List DataType) (kinds : List Kind) (text : List ℕ) (xs : List Item) (n : ℕ) → Whole types (first_due kinds) text xs
    → n ≡ length xs → 65536 < n → OnlyLong types kinds text n
too_long types kinds text xs n w e h =
    let t = text_of types kinds text xs w in
    record { long = record { values = t.values; text_of = t.is; items_is = e ∙ size_of t.values xs t.items; many = h }; only = only_text types kinds text xs w }

pub of_values : (types : List DataType) (kinds : List Kind) (text : List ℕ) (xs : List Item) → Whole types (first_due kinds) text xs
    → OfValues xs (length kinds)
of_values types kinds text xs w =
    let t = text_of types kinds text xs w in record { values = t.values; is = t.items; count_is = fit_count types kinds t.values t.is.fit ∙ part_length t.values }

pub only_read : (types : List DataType) (kinds : List Kind) (text : List ℕ) (xs : List Item) (values : List Value)
    → Whole types (first_due kinds) text xs → length xs ≤ 65536 → xs ≡ nodes_all (parts values) [] → length values ≡ length kinds
    → OnlyRead types kinds text values
only_read types kinds text xs values w few e n =
    let t = text_of types kinds text xs w in
    let c : part_count (parts t.values) ≡ part_count (parts values) = sym (fit_count types kinds t.values t.is.fit) ∙ sym n ∙ sym (part_length values) in
    let s : t.values ≡ values = parts_same t.values values (nodes_all_same (parts t.values) (parts values) [] [] c (sym t.items ∙ e)).0 in
    record {
      read = record { text_of = subst (IsTextOf types kinds text) s t.is; few = omega (arith, few, size_of values xs e) };
      only = λ others k. only_text types kinds text xs w others k ∙ s;
    }

-- ---- each answer comes exactly where it is meant to

pub read_found : (types : List DataType) (kinds : List Kind) (text : List ℕ) (values : List Value) → OnlyRead types kinds text values
    → IsRead types kinds text values
read_found types kinds text values r = r.read

pub fault_found : (types : List DataType) (kinds : List Kind) (text : List ℕ) (s : Stop ValueFault) → FaultIs (OnlyFault types kinds text) s
    → FaultIs (IsFault types kinds text) s
fault_found types kinds text (Fault (fault.BadShape at)) h = h
fault_found types kinds text (Fault (fault.TooLong items)) h = h.long
fault_found types kinds text Memory h = tt

pub read_same : (types : List DataType) (kinds : List Kind) (text : List ℕ) (found values : List Value) → OnlyRead types kinds text found
    → IsRead types kinds text values → found ≡ values
read_same types kinds text found values r v = sym (r.only values v.text_of)

pub read_fault : (types : List DataType) (kinds : List Kind) (text : List ℕ) (s : Stop ValueFault) (values : List Value)
    → FaultIs (OnlyFault types kinds text) s → IsRead types kinds text values → IsMemory s
read_fault types kinds text (Fault (fault.BadShape at)) values h v = h.none values v.text_of
read_fault types kinds text (Fault (fault.TooLong items)) values h v =
    let s = h.only values v.text_of in absurd (omega (arith, v.few, h.long.many, h.long.items_is, ap (λ l. size_all (parts l)) s))
read_fault types kinds text Memory values h v = tt

pub read_bad : (types : List DataType) (kinds : List Kind) (text : List ℕ) (found : List Value) (at : ℕ) → OnlyRead types kinds text found
    → IsBadShape types kinds text at → ⊥
read_bad types kinds text found at r b = b.none found r.read.text_of

-- a front of a front
shorter : (types : List DataType) (kinds : List Kind) (text : List ℕ) (n : ℕ) → Begins types kinds (take n text) → Begins types kinds []
shorter types kinds text n b = record { rest = take n text ++ b.rest; values = b.values; whole = b.whole }

pub below : (types : List DataType) (kinds : List Kind) (text : List ℕ) (m n : ℕ) → IsBadShape types kinds text m → IsBadShape types kinds text n → m ≤ n
below types kinds text m n a b = by_front a.begins
  where
    by_front : Begins types kinds (take m text) ⊎ ((m ≡ 0) × (Begins types kinds [] → ⊥)) → m ≤ n
    by_front (inl f) = b.longest m a.within f
    by_front (inr p) = omega (arith, p.0)

pub fault_bad : (types : List DataType) (kinds : List Kind) (text : List ℕ) (s : Stop ValueFault) (at : ℕ) → FaultIs (OnlyFault types kinds text) s
    → IsBadShape types kinds text at → IsBadAt at s
fault_bad types kinds text (Fault (fault.BadShape place)) at h b = omega (arith, below types kinds text place at h b, below types kinds text at place b h)
fault_bad types kinds text (Fault (fault.TooLong items)) at h b = b.none h.long.values h.long.text_of
fault_bad types kinds text Memory at h b = tt

pub read_long : (types : List DataType) (kinds : List Kind) (text : List ℕ) (found : List Value) (items : ℕ) → OnlyRead types kinds text found
    → IsTooLong types kinds text items → ⊥
read_long types kinds text found items r l =
    let s = r.only l.values l.text_of in absurd (omega (arith, r.read.few, l.many, l.items_is, ap (λ v. size_all (parts v)) s))

pub fault_long : (types : List DataType) (kinds : List Kind) (text : List ℕ) (s : Stop ValueFault) (items : ℕ)
    → FaultIs (OnlyFault types kinds text) s → IsTooLong types kinds text items → IsLongBy items s
fault_long types kinds text (Fault (fault.BadShape at)) items h l = h.none l.values l.text_of
fault_long types kinds text (Fault (fault.TooLong n)) items h l = h.long.items_is ∙ ap (λ v. size_all (parts v)) (sym (h.only l.values l.text_of)) ∙ sym l.items_is
fault_long types kinds text Memory items h l = tt

pub bad_fault : (types : List DataType) (kinds : List Kind) (text : List ℕ) (s : Stop ValueFault) → FaultIs (IsBad types kinds text) s
    → FaultIs (OnlyFault types kinds text) s
bad_fault types kinds text (Fault (fault.BadShape at)) h = h
bad_fault types kinds text (Fault (fault.TooLong items)) h = absurd h
bad_fault types kinds text Memory h = tt
