-- Laws, for the proofs of this crate and of those above it.
-- A machine whose lines are words with a space between two.
use Rattle.std.specs.Prelude.{◌≡◌, ℕ, Bool, true, Option, Some, List, [], ◌∷◌, ◌++◌, map}
use Rattle.std.specs.List.{AllByRecursion}
use Rattle.text_lines.specs.Lines.{Free, text_of_lines}
use Rattle.text_lines.specs.Formats.{Format, IsRight}
use Rattle.text_lines.specs.Machines.{Machine}
use Rattle.text_lines.specs.Cuts.{and_then, words, spaced}

-- the text of lines that are words
abbrev pub text_of_words : List (List (List ℕ)) → List ℕ
text_of_words lines = text_of_lines (map spaced lines)

-- no space and no line feed
pub record IsWord (word : List ℕ) : Type 0 where
  pub space : Free 32 word
  pub feed : Free 10 word

-- at least one word
abbrev pub IsWordLine : List (List ℕ) → Type 0
IsWordLine [] = ⊥
IsWordLine (w ∷ ws) = AllByRecursion IsWord (w ∷ ws)

pub record Spelling (F : Format) : Type 1 where
  pub State : Type 0
  pub start : State
  -- one more line, as words
  pub step : State → List (List ℕ) → Option State
  pub ends : State → Bool
  pub closed : State → F.Value
  -- the lines that were read
  pub told : State → List (List (List ℕ))
  pub IsGood : State → Type 0
  -- the lines of a value
  pub lines : F.Value → List (List (List ℕ))

abbrev pub run_words : {F : Format} (W : Spelling F) → W.State → List (List (List ℕ)) → Option W.State
run_words W s [] = Some s
run_words W s (ws ∷ lines) = and_then (W.step s ws) (λ t. run_words W t lines)

-- the lines of a value lead to where it may end, with this value
pub record IsSpelled {F : Format} (W : Spelling F) (v : F.Value) : Type 0 where
  pub state : W.State
  pub each : AllByRecursion IsWordLine (W.lines v)
  pub run : run_words W W.start (W.lines v) ≡ Some state
  pub ends : W.ends state ≡ true
  pub is : W.closed state ≡ v

-- lines that make those of the least value
pub record IsSpelledOn {F : Format} (W : Spelling F) (s : W.State) : Type 0 where
  pub rest : List (List (List ℕ))
  pub is : W.lines (W.closed s) ≡ W.told s ++ rest

abbrev pub machine_of : {F : Format} → Spelling F → Machine F
machine_of W = record {
  State = W.State;
  start = W.start;
  step = λ s line. W.step s (words line);
  ends = W.ends;
  closed = W.closed;
  so_far = λ s. text_of_words (W.told s);
  IsGood = W.IsGood;
}

-- What a format of words shows of its machine.
pub record SpellingShows {F : Format} (W : Spelling F) : Type 0 where
  pub text : (v : F.Value) → F.text v ≡ text_of_words (W.lines v)
  pub start_told : W.told W.start ≡ []
  pub start_good : W.IsGood W.start
  pub start_right : IsRight F (W.closed W.start)
  pub good_formed : (s : W.State) → W.IsGood s → F.IsFormed (W.closed s)
  pub step_told : (s t : W.State) (ws : List (List ℕ)) → W.IsGood s → W.step s ws ≡ Some t → W.told t ≡ W.told s ++ ws ∷ []
  pub step_good : (s t : W.State) (ws : List (List ℕ)) → W.IsGood s → W.step s ws ≡ Some t → W.IsGood t
  pub step_asks : (k : ℕ) (s t : W.State) (ws : List (List ℕ)) → W.IsGood s → W.step s ws ≡ Some t → F.Asks k (W.closed t) → F.Asks k (W.closed s)
  pub end_told : (s : W.State) → W.IsGood s → W.ends s ≡ true → W.lines (W.closed s) ≡ W.told s
  pub closing : (s : W.State) → W.IsGood s → IsSpelledOn W s
  pub written : (v : F.Value) → F.IsFormed v → IsSpelled W v
