-- Cited by contracts.
-- A machine of a format: a state between two lines, and what a line makes of it by the form alone.
use Rattle.std.specs.Prelude.{◌≡◌, ℕ, zero, suc, ◌+◌, ◌<◌, ◌≤◌, Bool, true, Option, Some, None, List, [], ◌∷◌, ◌++◌, length, ◌⊎◌}
use Rattle.std.specs.List.{AllByRecursion}
use Rattle.text_lines.specs.Lines.{IsOneLine, text_of_lines}
use Rattle.text_lines.specs.Formats.{Format, Meets, IsRight, IsText}
use Rattle.text_lines.specs.Cuts.{and_then}

pub record Machine (F : Format) : Type 1 where
  pub State : Type 0
  pub start : State
  -- one more line; None where it has no form here
  pub step : State → List ℕ → Option State
  -- the text may end here
  pub ends : State → Bool
  -- the least value that goes on so; where the text may end, the value that was read
  pub closed : State → F.Value
  -- the bytes that were read
  pub so_far : State → List ℕ
  -- what holds of each state that is reached
  pub IsGood : State → Type 0

abbrev pub run : {F : Format} (M : Machine F) → M.State → List (List ℕ) → Option M.State
run M s [] = Some s
run M s (line ∷ lines) = and_then (M.step s line) (λ t. run M t lines)

-- these lines lead from the one state to the other
pub record Leads {F : Format} (M : Machine F) (s : M.State) (text : List ℕ) (t : M.State) : Type 0 where
  pub lines : List (List ℕ)
  pub each : AllByRecursion IsOneLine lines
  pub is : text_of_lines lines ≡ text
  pub run : run M s lines ≡ Some t

-- the text of a value leads to where it may end, with this value
pub record IsWritten {F : Format} (M : Machine F) (v : F.Value) : Type 0 where
  pub state : M.State
  pub leads : Leads M M.start (F.text v) state
  pub ends : M.ends state ≡ true
  pub is : M.closed state ≡ v

-- bytes that make the text of the least value
pub record IsClosing {F : Format} (M : Machine F) (s : M.State) : Type 0 where
  pub rest : List ℕ
  pub is : F.text (M.closed s) ≡ M.so_far s ++ rest

-- What a format shows of its machine. All laws of its texts come from this.
pub record Shows {F : Format} (M : Machine F) : Type 0 where
  pub start_far : M.so_far M.start ≡ []
  pub start_good : M.IsGood M.start
  pub start_right : IsRight F (M.closed M.start)
  pub good_formed : (s : M.State) → M.IsGood s → F.IsFormed (M.closed s)
  pub step_far : (s t : M.State) (line : List ℕ) → M.IsGood s → IsOneLine line → M.step s line ≡ Some t → M.so_far t ≡ M.so_far s ++ text_of_lines (line ∷ [])
  pub step_good : (s t : M.State) (line : List ℕ) → M.IsGood s → IsOneLine line → M.step s line ≡ Some t → M.IsGood t
  -- a demand that stands behind a line stood before it
  pub step_asks : (k : ℕ) (s t : M.State) (line : List ℕ) → M.IsGood s → M.step s line ≡ Some t → F.Asks k (M.closed t) → F.Asks k (M.closed s)
  pub end_far : (s : M.State) → M.IsGood s → M.ends s ≡ true → F.text (M.closed s) ≡ M.so_far s
  pub closing : (s : M.State) → M.IsGood s → IsClosing M s
  pub written : (v : F.Value) → F.IsFormed v → IsWritten M v

-- each demand holds of a value or not
pub record Decides {F : Format} (M : Machine F) : Type 0 where
  pub asks : (k : ℕ) (s : M.State) → k < F.most → F.Asks k (M.closed s) ⊎ (F.Asks k (M.closed s) → ⊥)

-- ---- a line

-- the line leads on, and all that is asked stands
pub record IsNext {F : Format} (M : Machine F) (s : M.State) (line : List ℕ) (t : M.State) : Type 0 where
  pub is : M.step s line ≡ Some t
  pub right : IsRight F (M.closed t)

-- the line has a form, and this demand is the first that fails
pub record IsStopped {F : Format} (M : Machine F) (s : M.State) (line : List ℕ) (k : ℕ) : Type 0 where
  pub state : M.State
  pub is : M.step s line ≡ Some state
  pub below : k < F.most
  pub meets : Meets F k (M.closed state)
  pub wrong : F.Asks k (M.closed state) → ⊥

-- the line is refused in this way
abbrev pub IsRefused : {F : Format} (M : Machine F) → M.State → List ℕ → ℕ → Type 0
IsRefused M s line zero = M.step s line ≡ None
IsRefused M s line (suc k) = IsStopped M s line k

-- ---- where a reader is

-- the lines of this state were read, and the next line has this number
pub record Reading {F : Format} (M : Machine F) (text : List ℕ) (state : M.State) (rest : List ℕ) (number : ℕ) : Type 0 where
  pub lines : List (List ℕ)
  pub run : run M M.start lines ≡ Some state
  pub each : AllByRecursion IsOneLine lines
  pub parts : text ≡ text_of_lines lines ++ rest
  pub count : number ≡ suc (length lines)
  pub few : number + length rest ≤ suc (length text)
  pub right : IsRight F (M.closed state)

-- the text is that of the value that this state stands for, where it may end
pub record IsWhole {F : Format} (M : Machine F) (text : List ℕ) (s : M.State) : Type 0 where
  pub is : IsText F text (M.closed s)
  pub ends : M.ends s ≡ true
