-- Values of the cells that are due, and what a cell that was due puts in its place.
use Rattle.std.proofs.Common.{◌≡◌, ℕ, ◌+◌, ◌<◌, ◌≤◌, Bool, true, false, List, [], ◌∷◌, ◌++◌, length, Option, Some, None, refl, sym, ap, ◌∙◌, subst, arith}
use Rattle.std.specs.Prelude.{◌==◌, if◌then◌else◌, slice_get, IsSomeAnd}
use Rattle.std.specs.Option.{option_map}
use Rattle.std.specs.List.{AllByRecursion}
use Rattle.cell_span.specs.declared.cell.Cell.{Cell}
use Rattle.camelot_values.specs.Value as value
use Rattle.camelot_values.specs.Value.{Value, Values}
use Rattle.camelot_values.specs.Kinds.{DataType, Constructor, IsDataType, constructor, type_of}
use Rattle.camelot_values.specs.Typing.{Fits, FitAll}
use Rattle.camelot_values.specs.declared.kinds.Kind.{Kind}
use Rattle.camelot_values.specs.declared.kinds.Kind.TheVariants as kind
use Rattle.annotations.specs.Vectors.{Vector, at, node_units, potential, potential_all}
use Rattle.cell_machine.specs.Cells.{is_boxed, inline_base}
use Rattle.cell_machine.specs.Stands.{Stands, StandAll, footprint, footprints, words_at, times}
use Rattle.cell_machine.specs.Steps.{if_there}
use Rattle.cell_machine.specs.theory.Framing.{boxed_by as boxed_from, stood, boxed_stands}
use Rattle.cell_machine.specs.theory.Counting.{times_append, times_here}
use Rattle.cell_owners.specs.declared.look.Due.{Due}
use Rattle.cell_owners.specs.declared.look.Due.TheVariants as due
use Rattle.cell_owners.specs.declared.look.Look.{Look}
use Rattle.cell_owners.specs.declared.look.Look.TheVariants as look
use Rattle.cell_owners.specs.Looks.{Pile, boxed_by, con_of, due_at, due_kind, look_at, open_at, put, put_all}
use Rattle.cell_owners.proofs.Leaves.{ConIs, con_known, con_there, Forth, look_forth, Back, look_back}

-- ---- values of what is due

-- a value that is due takes its cell
pub record IsDue (types : List DataType) (cells : List Cell) (d : Due) (v : Value) : Type 0 where
  pub fits : Fits types (due_kind d) v
  pub stands : Stands types cells v (due_at d)
  pub takes : 1 ≤ times (due_at d) (footprint types cells v (due_at d))

abbrev pub AreDue : List DataType → List Cell → List Due → Values → Type 0
AreDue types cells [] value.End = Unit {0}
AreDue types cells (d ∷ ds) (value.And v vs) = IsDue types cells d v × AreDue types cells ds vs
AreDue types cells ds vs = ⊥

-- the offsets of the cells that they take
abbrev pub feet : List DataType → List Cell → List Due → Values → List ℕ
feet types cells (d ∷ ds) (value.And v vs) = footprint types cells v (due_at d) ++ feet types cells ds vs
feet types cells ds vs = []

-- values of some that are due and one more
pub record Joins (types : List DataType) (cells : List Cell) (vector : Vector) (ds : List Due) (d : Due) (us : Values) (v : Value) (vs : Values) : Type 0 where
  pub front : AreDue types cells ds us
  pub last : IsDue types cells d v
  pub all : AreDue types cells (ds ++ d ∷ []) vs
  pub carries : potential_all types (at vector) vs ≡ potential_all types (at vector) us + potential types (at vector) v
  pub takes : (a : ℕ) → times a (feet types cells (ds ++ d ∷ []) vs) ≡ times a (feet types cells ds us) + times a (footprint types cells v (due_at d))

joined_more : (types : List DataType) (cells : List Cell) (vector : Vector) (ds : List Due) (e d : Due) (us : Values) (v u : Value) (vs : Values) → IsDue types cells e u
    → Joins types cells vector ds d us v vs → Joins types cells vector (e ∷ ds) d (value.And u us) v (value.And u vs)
joined_more types cells vector ds e d us v u vs h j = record {
  front = (h, j.front);
  last = j.last;
  all = (h, j.all);
  carries = omega (arith, j.carries);
  takes = λ a. omega (
    arith,
    j.takes a,
    times_append a (footprint types cells u (due_at e)) (feet types cells (ds ++ d ∷ []) vs),
    times_append a (footprint types cells u (due_at e)) (feet types cells ds us),
  );
}

joined_one : (types : List DataType) (cells : List Cell) (vector : Vector) (d : Due) (v : Value) → IsDue types cells d v
    → Joins types cells vector [] d value.End v (value.And v value.End)
joined_one types cells vector d v h = record {
  front = tt;
  last = h;
  all = (h, tt);
  carries = omega arith;
  takes = λ a. omega (arith, times_append a (footprint types cells v (due_at d)) []);
}

pub join : (types : List DataType) (cells : List Cell) (vector : Vector) (ds : List Due) (d : Due) (us : Values) (v : Value) → AreDue types cells ds us → IsDue types cells d v
    → (vs : Values) × Joins types cells vector ds d us v vs
join types cells vector [] d value.End v h k = (value.And v value.End, joined_one types cells vector d v k)
join types cells vector [] d (value.And u us) v h k = absurd h
join types cells vector (e ∷ ds) d value.End v h k = absurd h
join types cells vector (e ∷ ds) d (value.And u us) v h k =
    let r = join types cells vector ds d us v h.1 k in (value.And u r.0, joined_more types cells vector ds e d us v u r.0 h.0 r.1)

pub part : (types : List DataType) (cells : List Cell) (vector : Vector) (ds : List Due) (d : Due) (vs : Values) → AreDue types cells (ds ++ d ∷ []) vs
    → (us : Values) × ((v : Value) × Joins types cells vector ds d us v vs)
part types cells vector [] d value.End h = absurd h
part types cells vector [] d (value.And v value.End) h = (value.End, (v, joined_one types cells vector d v h.0))
part types cells vector [] d (value.And v (value.And u us)) h = absurd h.1
part types cells vector (e ∷ ds) d value.End h = absurd h
part types cells vector (e ∷ ds) d (value.And u vs) h =
    let r = part types cells vector ds d vs h.1 in (value.And u r.0, (r.1.0, joined_more types cells vector ds e d r.0 r.1.0 u vs h.0 r.1.1))

-- ---- words put

-- values of what was due and of the words, and values of what is due behind them
pub record Came (types : List DataType) (cells : List Cell) (vector : Vector) (qs : List Kind) (ws : List ℕ) (ds : List Due) (n : ℕ) (p : Pile) (us fs rs : Values) : Type 0 where
  pub old : AreDue types cells ds us
  pub fit : FitAll types qs fs
  pub stand : StandAll types cells fs ws
  pub new : AreDue types cells p.cells rs
  pub carries : n + (potential_all types (at vector) us + potential_all types (at vector) fs) ≡ p.units + potential_all types (at vector) rs
  pub takes : (a : ℕ) → times a (feet types cells ds us) + times a (footprints types cells fs ws) ≡ times a (feet types cells p.cells rs)

no_words : (types : List DataType) (cells : List Cell) (vector : Vector) (ws : List ℕ) (ds : List Due) (n : ℕ) (us : Values) → AreDue types cells ds us
    → Came types cells vector [] ws ds n (record { cells = ds; units = n }) us value.End us
no_words types cells vector ws ds n us h = record { old = h; fit = tt; stand = tt; new = h; carries = omega arith; takes = λ a. omega arith }

-- a word without a cell in front
leaf_word : (types : List DataType) (cells : List Cell) (vector : Vector) (q : Kind) (qs : List Kind) (w : ℕ) (ws : List ℕ) (ds : List Due) (n k : ℕ) (p : Pile) (us : Values) (v : Value) (fs rs : Values)
    → Fits types q v → Stands types cells v w → potential types (at vector) v ≡ k → ((a : ℕ) → times a (footprint types cells v w) ≡ 0)
    → Came types cells vector qs ws ds (n + k) p us fs rs → Came types cells vector (q ∷ qs) (w ∷ ws) ds n p us (value.And v fs) rs
leaf_word types cells vector q qs w ws ds n k p us v fs rs fits stands carries none c = record {
  old = c.old;
  fit = (fits, c.fit);
  stand = (stands, c.stand);
  new = c.new;
  carries = omega (arith, c.carries, carries);
  takes = λ a. omega (arith, c.takes a, none a, times_append a (footprint types cells v w) (footprints types cells fs ws));
}

-- a word of a cell in front
cell_word : (types : List DataType) (cells : List Cell) (vector : Vector) (q : Kind) (qs : List Kind) (w : ℕ) (ws : List ℕ) (ds : List Due) (d : Due) (n : ℕ) (p : Pile) (us more : Values) (v : Value) (fs rs : Values)
    → due_kind d ≡ q → due_at d ≡ w → Joins types cells vector ds d us v more
    → Came types cells vector qs ws (ds ++ d ∷ []) n p more fs rs → Came types cells vector (q ∷ qs) (w ∷ ws) ds n p us (value.And v fs) rs
cell_word types cells vector q qs w ws ds d n p us more v fs rs kind_is at_is j c = record {
  old = j.front;
  fit = (subst (λ q. Fits types q v) kind_is j.last.fits, c.fit);
  stand = (subst (λ w. Stands types cells v w) at_is j.last.stands, c.stand);
  new = c.new;
  carries = omega (arith, c.carries, j.carries);
  takes = λ a. omega (
    arith,
    c.takes a,
    j.takes a,
    ap (λ w. times a (footprint types cells v w)) at_is,
    times_append a (footprint types cells v w) (footprints types cells fs ws),
  );
}

pub put_forth : (types : List DataType) (cells : List Cell) (vector : Vector) → AllByRecursion IsDataType types → (qs : List Kind) (ws : List ℕ) (ds : List Due) (n : ℕ) (p : Pile)
    → put_all types vector qs ws ds n ≡ Some p → (rs : Values) → AreDue types cells p.cells rs
    → (us : Values) × ((fs : Values) × Came types cells vector qs ws ds n p us fs rs)
put_forth types cells vector well [] ws ds n p e rs h =
    let same : record { cells = ds; units = n } ≡ p = cc in
    subst (λ (p : Pile). AreDue types cells p.cells rs → (us : Values) × ((fs : Values) × Came types cells vector [] ws ds n p us fs rs)) same (λ h. (rs, (value.End, no_words types cells vector ws ds n rs h))) h
put_forth types cells vector well (q ∷ qs) [] ds n p e rs h = absurd cc
put_forth types cells vector well (q ∷ qs) (w ∷ ws) ds n p e rs h =
    by_look (λ ds n e. put_forth types cells vector well qs ws ds n p e rs h) (look_at types vector q w) (look_forth types cells vector well q w) e
  where
    by_look : ((ds : List Due) (n : ℕ) → put_all types vector qs ws ds n ≡ Some p → (us : Values) × ((fs : Values) × Came types cells vector qs ws ds n p us fs rs))
        → (l : Look) → Forth types cells vector q w l → put l (λ more m. put_all types vector qs ws more m) ds n ≡ Some p
        → (us : Values) × ((fs : Values) × Came types cells vector (q ∷ qs) (w ∷ ws) ds n p us fs rs)
    by_look go look.Wrong f e = absurd cc
    by_look go (look.Leaf k) f e =
        let r = go ds (n + k) e in
        (r.0, (value.And f.value r.1.0, leaf_word types cells vector q qs w ws ds n k p r.0 f.value r.1.0 rs f.fits f.stands f.carries f.takes r.1.1))
    by_look go (look.Cell d) f e =
        let r = go (ds ++ d ∷ []) n e in
        let j = part types cells vector ds d r.0 r.1.1.old in
        (j.0, (value.And j.1.0 r.1.0, cell_word types cells vector q qs w ws ds d n p j.0 r.0 j.1.0 r.1.0 rs f.0 f.1 j.1.1 r.1.1))

-- behind given values
pub record PutBack (types : List DataType) (cells : List Cell) (vector : Vector) (qs : List Kind) (ws : List ℕ) (ds : List Due) (n : ℕ) (us fs : Values) (o : Option Pile) : Type 0 where
  pub pile : Pile
  pub is : o ≡ Some pile
  pub rest : Values
  pub came : Came types cells vector qs ws ds n pile us fs rest

pub put_back : (types : List DataType) (cells : List Cell) (vector : Vector) → AllByRecursion IsDataType types → length cells ≤ inline_base
    → (qs : List Kind) (ws : List ℕ) (ds : List Due) (n : ℕ) (us fs : Values) → AreDue types cells ds us → FitAll types qs fs → StandAll types cells fs ws
    → PutBack types cells vector qs ws ds n us fs (put_all types vector qs ws ds n)
put_back types cells vector well few [] ws ds n us value.End h fit stand = record { pile = record { cells = ds; units = n }; is = refl; rest = us; came = no_words types cells vector ws ds n us h }
put_back types cells vector well few [] ws ds n us (value.And v fs) h fit stand = absurd fit
put_back types cells vector well few (q ∷ qs) ws ds n us value.End h fit stand = absurd fit
put_back types cells vector well few (q ∷ qs) [] ds n us (value.And v fs) h fit stand = absurd stand
put_back types cells vector well few (q ∷ qs) (w ∷ ws) ds n us (value.And v fs) h fit stand =
    by_look (λ ds n us h. put_back types cells vector well few qs ws ds n us fs h fit.1 stand.1) (look_at types vector q w) (look_back types cells vector well few q w v fit.0 stand.0)
  where
    by_look : ((ds : List Due) (n : ℕ) (us : Values) → AreDue types cells ds us → PutBack types cells vector qs ws ds n us fs (put_all types vector qs ws ds n))
        → (l : Look) → Back types cells vector q w v l
        → PutBack types cells vector (q ∷ qs) (w ∷ ws) ds n us (value.And v fs) (put l (λ more m. put_all types vector qs ws more m) ds n)
    by_look go look.Wrong b = absurd b
    by_look go (look.Leaf k) b =
        let r = go ds (n + k) us h in
        record { pile = r.pile; is = r.is; rest = r.rest; came = leaf_word types cells vector q qs w ws ds n k r.pile us v fs r.rest fit.0 stand.0 b.0 b.1 r.came }
    by_look go (look.Cell d) b =
        let one : IsDue types cells d v = record {
          fits = subst (λ q. Fits types q v) (sym b.0) fit.0;
          stands = subst (λ w. Stands types cells v w) (sym b.1) stand.0;
          takes = subst (λ w. 1 ≤ times w (footprint types cells v w)) (sym b.1) b.2;
        } in
        let j = join types cells vector ds d us v h one in
        let r = go (ds ++ d ∷ []) n j.0 j.1.all in
        record { pile = r.pile; is = r.is; rest = r.rest; came = cell_word types cells vector q qs w ws ds d n r.pile us j.0 v fs r.rest b.0 b.1 j.1 r.came }

-- ---- a cell that was due

-- values of what was due and of that cell, and values of what is due behind it
pub record Opened (types : List DataType) (cells : List Cell) (vector : Vector) (ds : List Due) (d : Due) (p : Pile) (us : Values) (v : Value) (rs : Values) : Type 0 where
  pub old : AreDue types cells ds us
  pub one : IsDue types cells d v
  pub new : AreDue types cells p.cells rs
  pub carries : potential_all types (at vector) us + potential types (at vector) v ≡ p.units + potential_all types (at vector) rs
  pub takes : (a : ℕ) → times a (feet types cells ds us) + times a (footprint types cells v (due_at d)) ≡ times a (feet types cells p.cells rs) + (if a == due_at d then 1 else 0)

-- a diamond names its cell
diamond_opened : (types : List DataType) (cells : List Cell) (vector : Vector) (ds : List Due) (w : ℕ) (us : Values) → w < length cells → AreDue types cells ds us
    → Opened types cells vector ds (due.Diamond w) (record { cells = ds; units = 0 }) us value.Dia us
diamond_opened types cells vector ds w us within h = record {
  old = h;
  one = record { fits = refl; stands = within; takes = omega (arith, times_here w) };
  new = h;
  carries = omega arith;
  takes = λ a. omega arith;
}

-- a boxed constructor, by its parts
boxed_opened : (types : List DataType) (cells : List Cell) (vector : Vector) (ds : List Due) (t w : ℕ) (cell : Cell) (con : Constructor) (p : Pile) (us fs rs : Values)
    → slice_get cells w ≡ Some cell → ConIs types t cell.tag con → con.inline ≡ false
    → Came types cells vector con.fields cell.words ds (node_units types (at vector) cell.tag) p us fs rs
    → Opened types cells vector ds (due.Boxed t w) p us (value.Con cell.tag fs) rs
boxed_opened types cells vector ds t w cell con p us fs rs there known boxed c =
    let b : is_boxed types cell.tag ≡ true = boxed_from types cell.tag con false known.con boxed in
    let s = stood types cells cell.tag fs [] w cell b there refl c.stand in
    record {
      old = c.old;
      one = record {
        fits = (ap (option_map kind.Of) known.type, subst (λ o. IsSomeAnd o (λ con. FitAll types con.fields fs)) (sym known.con) c.fit);
        stands = s.0;
        takes = omega (arith, ap (times w) s.1, times_here w);
      };
      new = c.new;
      carries = omega (arith, c.carries);
      takes = λ a. omega (arith, c.takes a, ap (times a) s.1);
    }

pub open_forth : (types : List DataType) (cells : List Cell) (vector : Vector) → AllByRecursion IsDataType types → (ds : List Due) (d : Due) (p : Pile)
    → due_at d < length cells → open_at types vector cells ds d ≡ Some p → (rs : Values) → AreDue types cells p.cells rs
    → (us : Values) × ((v : Value) × Opened types cells vector ds d p us v rs)
open_forth types cells vector well ds (due.Diamond w) p within e rs h =
    let same : record { cells = ds; units = 0 } ≡ p = cc in
    subst (λ (p : Pile). AreDue types cells p.cells rs → (us : Values) × ((v : Value) × Opened types cells vector ds (due.Diamond w) p us v rs)) same
    (λ h. (rs, (value.Dia, diamond_opened types cells vector ds w rs within h))) h
open_forth types cells vector well ds (due.Boxed t w) p within e rs h = by_cell (slice_get cells w) refl e
  where
    by_inline : (cell : Cell) → slice_get cells w ≡ Some cell → (con : Constructor) → con_of types t cell.tag ≡ Some con → (b : Bool) → con.inline ≡ b
        → (if b then None else put_all types vector con.fields cell.words ds (node_units types (at vector) cell.tag)) ≡ Some p
        → (us : Values) × ((v : Value) × Opened types cells vector ds (due.Boxed t w) p us v rs)
    by_inline cell there con is true i e = absurd cc
    by_inline cell there con is false i e =
        let r = put_forth types cells vector well con.fields cell.words ds (node_units types (at vector) cell.tag) p e rs h in
        (r.0, (value.Con cell.tag r.1.0, boxed_opened types cells vector ds t w cell con p r.0 r.1.0 rs there (con_known types t cell.tag con is) i r.1.1))

    by_con : (cell : Cell) → slice_get cells w ≡ Some cell → (o : Option Constructor) → con_of types t cell.tag ≡ o → boxed_by types vector cell ds o ≡ Some p
        → (us : Values) × ((v : Value) × Opened types cells vector ds (due.Boxed t w) p us v rs)
    by_con cell there None is e = absurd cc
    by_con cell there (Some con) is e = by_inline cell there con is con.inline refl e

    by_cell : (o : Option Cell) → slice_get cells w ≡ o → if_there o (λ cell. boxed_by types vector cell ds (con_of types t cell.tag)) ≡ Some p
        → (us : Values) × ((v : Value) × Opened types cells vector ds (due.Boxed t w) p us v rs)
    by_cell None there e = absurd cc
    by_cell (Some cell) there e = by_con cell there (con_of types t cell.tag) refl e

pub record OpenBack (types : List DataType) (cells : List Cell) (vector : Vector) (ds : List Due) (d : Due) (us : Values) (v : Value) (o : Option Pile) : Type 0 where
  pub pile : Pile
  pub is : o ≡ Some pile
  pub rest : Values
  pub opened : Opened types cells vector ds d pile us v rest

no_diamond : (types : List DataType) (c : ℕ) → option_map kind.Of (type_of types c) ≡ Some kind.Dia → ⊥
no_diamond types c e = by_type (type_of types c) e
  where
    by_type : (o : Option ℕ) → option_map kind.Of o ≡ Some kind.Dia → ⊥
    by_type None e = absurd cc
    by_type (Some t) e = let k : kind.Of t ≡ kind.Dia = cc in absurd cc

diamond_back : (types : List DataType) (cells : List Cell) (vector : Vector) (ds : List Due) (w : ℕ) (us : Values) (v : Value) → AreDue types cells ds us → IsDue types cells (due.Diamond w) v
    → OpenBack types cells vector ds (due.Diamond w) us v (Some (record { cells = ds; units = 0 }))
diamond_back types cells vector ds w us (value.Int z) h k = absurd (clash k.fits.0)
  where
    clash : kind.Dia ≡ kind.Int → ⊥
    clash e = absurd cc
diamond_back types cells vector ds w us (value.Flag b) h k = absurd (clash k.fits)
  where
    clash : kind.Dia ≡ kind.Flag → ⊥
    clash e = absurd cc
diamond_back types cells vector ds w us value.Dia h k = record { pile = record { cells = ds; units = 0 }; is = refl; rest = us; opened = diamond_opened types cells vector ds w us k.stands h }
diamond_back types cells vector ds w us (value.Con c vs) h k = absurd (no_diamond types c k.fits.0)

boxed_back : (types : List DataType) (cells : List Cell) (vector : Vector) → AllByRecursion IsDataType types → length cells ≤ inline_base → (ds : List Due) (t w : ℕ) (us : Values) (v : Value)
    → AreDue types cells ds us → IsDue types cells (due.Boxed t w) v
    → OpenBack types cells vector ds (due.Boxed t w) us v (if_there (slice_get cells w) (λ cell. boxed_by types vector cell ds (con_of types t cell.tag)))
boxed_back types cells vector well few ds t w us (value.Int z) h k = absurd (clash k.fits.0)
  where
    clash : kind.Of t ≡ kind.Int → ⊥
    clash e = absurd cc
boxed_back types cells vector well few ds t w us (value.Flag b) h k = absurd (clash k.fits)
  where
    clash : kind.Of t ≡ kind.Flag → ⊥
    clash e = absurd cc
boxed_back types cells vector well few ds t w us value.Dia h k = absurd (clash k.fits)
  where
    clash : kind.Of t ≡ kind.Dia → ⊥
    clash e = absurd cc
boxed_back types cells vector well few ds t w us (value.Con c vs) h k = by_boxed (is_boxed types c) refl k.takes
  where
    by_parts : (cell : Cell) → slice_get cells w ≡ Some cell → cell.tag ≡ c → StandAll types cells vs cell.words → (con : Constructor) → constructor types c ≡ Some con
        → type_of types c ≡ Some t → FitAll types con.fields vs → (b : Bool) → con.inline ≡ b → is_boxed types c ≡ true
        → OpenBack types cells vector ds (due.Boxed t w) us (value.Con c vs) (if b then None else put_all types vector con.fields cell.words ds (node_units types (at vector) cell.tag))
    by_parts cell there tag stand con is of fit true i b = let plain : is_boxed types c ≡ false = boxed_from types c con true is i in let clash : true ≡ false = sym b ∙ plain in absurd cc
    by_parts cell there tag stand con is of fit false i b =
        let known : ConIs types t cell.tag con = record { con = ap (constructor types) tag ∙ is; type = ap (type_of types) tag ∙ of } in
        let r = put_back types cells vector well few con.fields cell.words ds (node_units types (at vector) cell.tag) us vs h fit stand in
        record {
          pile = r.pile;
          is = r.is;
          rest = r.rest;
          opened = subst (λ c. Opened types cells vector ds (due.Boxed t w) r.pile us (value.Con c vs) r.rest) tag
              (boxed_opened types cells vector ds t w cell con r.pile us vs r.rest there known i r.came);
        }

    by_con : (cell : Cell) → slice_get cells w ≡ Some cell → cell.tag ≡ c → StandAll types cells vs cell.words → is_boxed types c ≡ true → (u : Option ℕ) → type_of types c ≡ u
        → option_map kind.Of u ≡ Some (kind.Of t) → (o : Option Constructor) → constructor types c ≡ o → IsSomeAnd o (λ con. FitAll types con.fields vs)
        → OpenBack types cells vector ds (due.Boxed t w) us (value.Con c vs) (boxed_by types vector cell ds (con_of types t cell.tag))
    by_con cell there tag stand b None of e o is g = absurd cc
    by_con cell there tag stand b (Some u) of e None is g = absurd g
    by_con cell there tag stand b (Some u) of e (Some con) is g =
        let same : u ≡ t = some_of (some_is e) in
        let found : con_of types t cell.tag ≡ Some con = con_there types t cell.tag con (ap (constructor types) tag ∙ is) (ap (type_of types) tag ∙ of ∙ ap Some same) in
        subst (λ o. OpenBack types cells vector ds (due.Boxed t w) us (value.Con c vs) (boxed_by types vector cell ds o)) (sym found)
        (by_parts cell there tag stand con is (of ∙ ap Some same) g con.inline refl b)
      where
        some_is : {x y : Kind} → Some x ≡ Some y → x ≡ y
        some_is e = cc

        some_of : {x y : ℕ} → kind.Of x ≡ kind.Of y → x ≡ y
        some_of e = cc

    by_boxed : (b : Bool) → is_boxed types c ≡ b → 1 ≤ times w (if b then w ∷ footprints types cells vs (words_at cells w) else [])
        → OpenBack types cells vector ds (due.Boxed t w) us (value.Con c vs) (if_there (slice_get cells w) (λ cell. boxed_by types vector cell ds (con_of types t cell.tag)))
    by_boxed false b takes = absurd (omega (arith, takes))
    by_boxed true b takes =
        let s = boxed_stands types cells c vs w b k.stands in
        subst (λ o. OpenBack types cells vector ds (due.Boxed t w) us (value.Con c vs) (if_there o (λ cell. boxed_by types vector cell ds (con_of types t cell.tag)))) (sym s.1)
        (by_con s.0 s.1 s.2 s.3 b (type_of types c) refl k.fits.0 (constructor types c) refl k.fits.1)

pub open_back : (types : List DataType) (cells : List Cell) (vector : Vector) → AllByRecursion IsDataType types → length cells ≤ inline_base → (ds : List Due) (d : Due) (us : Values) (v : Value)
    → AreDue types cells ds us → IsDue types cells d v → OpenBack types cells vector ds d us v (open_at types vector cells ds d)
open_back types cells vector well few ds (due.Diamond w) us v h k = diamond_back types cells vector ds w us v h k
open_back types cells vector well few ds (due.Boxed t w) us v h k = boxed_back types cells vector well few ds t w us v h k
