-- The machine's answer is that of the definitions.
use Rattle.std.proofs.Common.{◌≡◌, ℕ, ◌-◌, inl, inr, List, [], ◌∷◌, ◌++◌, length, Some, refl, sym, ap, ◌∙◌, length-append, arith}
use Rattle.camelot_grammar.specs.declared.fault.ParseFault.{ParseFault}
use Rattle.camelot_grammar.specs.declared.fault.ParseFault.TheVariants as fault
use Rattle.camelot_grammar.specs.declared.lexeme.Lexeme.{Lexeme}
use Rattle.camelot_grammar.specs.Parsing.{IsFaultAmong, stop_fault, first_line, line_of}
use Rattle.camelot_grammar.specs.Machine.{runs, start, Yes, Stopped, TooDeep, Result, fault_of}
use Rattle.camelot_grammar.proofs.Place.{stopped_stops, deep_sinks, stops_stopped, sinks_deep}

-- the place of a fault is the number of tokens before it
place_is : (n : ℕ) (before rest : List Lexeme) → length (before ++ rest) ≡ n → n - length rest ≡ length before
place_is n before rest h = omega (arith, length-append before rest)

-- ---- from an answer of the machine to its meaning

pub fault_among : (ts : List Lexeme) (n last : ℕ) (f : ParseFault) (r : Result) → length ts ≡ n → runs start [] ts ≡ r → fault_of n last r ≡ Some f
    → IsFaultAmong ts last f
fault_among ts n last f (Yes p) c e h = absurd cc
fault_among ts n last f (Stopped rest) c e h =
    let k = stopped_stops ts rest e in
    let place = place_is n k.0 rest (ap length k.1 ∙ c) in
    let is : stop_fault rest (n - length rest) (first_line rest last) ≡ f = cc in
    inl (record { before = k.0; rest = rest; parts = k.1; begins = k.2; none = k.3; is = sym is ∙ ap (λ m. stop_fault rest m (first_line rest last)) place })
fault_among ts n last f (TooDeep rest) c e h =
    let k = deep_sinks ts rest e in
    let place = place_is n k.0 (k.1 ∷ k.2) (ap length k.4 ∙ c) in
    let is : fault.TooDeep (n - length rest) (first_line rest last) ≡ f = cc in
    inr (record {
      before = k.0;
      token = k.1;
      rest = k.2;
      parts = k.4;
      begins = k.5;
      deep = k.6;
      is = sym is ∙ ap (λ xs. fault.TooDeep (n - length xs) (first_line xs last)) k.3 ∙ ap (λ m. fault.TooDeep m (line_of k.1)) place;
    })

-- ---- from a meaning to the answer

pub among_fault : (ts : List Lexeme) (n last : ℕ) (f : ParseFault) → length ts ≡ n → IsFaultAmong ts last f → fault_of n last (runs start [] ts) ≡ Some f
among_fault ts n last f c (inl s) =
    ap (fault_of n last) (stops_stopped ts s.before s.rest s.parts s.begins s.none)
    ∙ ap (λ m. Some (stop_fault s.rest m (first_line s.rest last))) (place_is n s.before s.rest (ap length s.parts ∙ c)) ∙ ap Some (sym s.is)
among_fault ts n last f c (inr s) =
    ap (fault_of n last) (sinks_deep ts s.before s.token s.rest s.parts s.begins s.deep)
    ∙ ap (λ m. Some (fault.TooDeep m (line_of s.token))) (place_is n s.before (s.token ∷ s.rest) (ap length s.parts ∙ c)) ∙ ap Some (sym s.is)

pub answer_among : (ts : List Lexeme) (last : ℕ) (f : ParseFault) → fault_of (length ts) last (runs start [] ts) ≡ Some f → IsFaultAmong ts last f
answer_among ts last f h = fault_among ts (length ts) last f (runs start [] ts) refl refl h

pub among_answer : (ts : List Lexeme) (last : ℕ) (f : ParseFault) → IsFaultAmong ts last f → fault_of (length ts) last (runs start [] ts) ≡ Some f
among_answer ts last f h = among_fault ts (length ts) last f refl h
