-- The code's run is the machine's.
use Rattle.std.proofs.Common.{◌≡◌, ℕ, zero, suc, ◌+◌, ◌-◌, ◌<◌, ◌≤◌, ◌==◌, Bool, true, false, if◌then◌else◌, slice_range, List, [], ◌∷◌, map, length, drop, get_or, Option, Some, None, Ok, Err, refl, sym, ap, ◌∙◌, subst, drop-cons, add-one, length-drop, drop_of_length-le, arith}
use Rattle.std.specs.List.{All}
use Rattle.std.proofs.lemmas.List.Elements.{All-get_or}
use Rattle.text_scan.specs.Reading.{IsSliceOf}
use Rattle.text_scan.specs.declared.tokens.Token.{Token}
use Rattle.camelot_grammar.specs.declared.fault.ParseFault.{ParseFault}
use Rattle.camelot_grammar.specs.declared.fault.ParseFault.TheVariants as fault
use Rattle.stops.specs.declared.stop.Stop.{Stop}
use Rattle.stops.specs.declared.stop.Stop.TheVariants as stop
use Rattle.camelot_grammar.specs.declared.lexeme.Mark.TheVariants as mark
use Rattle.camelot_grammar.specs.declared.lexeme.Lexeme.{Lexeme}
use Rattle.camelot_grammar.specs.declared.lexeme.Lexeme.TheVariants.{Variable, Number, Mark}
use Rattle.camelot_syntax.specs.declared.state.Frame.{Frame}
use Rattle.camelot_syntax.specs.declared.state.State.{State}
use Rattle.camelot_syntax.specs.declared.parser.Parser.{Parser}
use Rattle.camelot_syntax.specs.declared.state.Decls.{Decls}
use Rattle.camelot_grammar.specs.Lexemes.{lexeme_at, lexemes, IsReal}
use Rattle.camelot_grammar.specs.Parsing.{stop_fault, line_of}
use Rattle.camelot_grammar.specs.Machine as mc
use Rattle.camelot_grammar.specs.Machine.{runs, onward, ending, limited, advance, step, Move, Moves, Stops, Sinks, Stopped, TooDeep, Yes, Result, fault_of}
use Rattle.camelot_syntax.specs.States.{IsSmall, FailsAt, FailsWith, IsUnfinished, Reads, Answers, state_of, stack_of, decls_of}

pub small_real : (t : Lexeme) → IsReal t → IsSmall t
small_real (Number n l) h = h
small_real t h = tt

pub advance_real : (s : mc.State) (t : Lexeme) (st : List mc.Frame) → IsReal t → advance s t st ≡ step s t st
unfolding advance
advance_real s (Mark mark.EndOfText l) st h = absurd h
advance_real s t st h = refl

-- no fault of a token that may not stand here is one of the level
stop_not_deep : (t : Lexeme) (rest : List Lexeme) (at l token line : ℕ) → fault.TooDeep token line ≡ stop_fault (t ∷ rest) at l → ⊥
stop_not_deep (Variable i) rest at l token line e = absurd cc
stop_not_deep t rest at l token line e = absurd cc

pub fails_stop : (t : Lexeme) (at : ℕ) (f : ParseFault) (m : Move) → m ≡ Stops → ((rest : List Lexeme) → f ≡ stop_fault (t ∷ rest) at (line_of t))
    → FailsAt t at (stop.Fault f) m
fails_stop t at (fault.Scan g) m e h = (e, h)
fails_stop t at (fault.Unexpected k l) m e h = (e, h)
fails_stop t at (fault.TypeParameter k l) m e h = (e, h)
fails_stop t at (fault.TooDeep k l) m e h = absurd (stop_not_deep t [] at (line_of t) k l (h []))

nothing_left : (count last : ℕ) → fault_of count last (Stopped []) ≡ Some (fault.Unexpected count last)
nothing_left count last = let e : count - 0 ≡ count = omega arith in ap (λ n. Some (fault.Unexpected n last)) e

-- the text ends, or not
pub ends_whole : (count last : ℕ) (m : Move) (s : State) (fs : List Frame) (d : Decls) → m ≡ Moves (state_of s) (stack_of fs)
    → state_of s ≡ mc.Finished (decls_of d)
    → Answers count last (ending m) (Ok d)
ends_whole count last m s fs d e h = record { answers = ap ending (e ∙ ap (λ q. Moves q (stack_of fs)) h) }

ending_early : (s : mc.State) (st : List mc.Frame) → IsUnfinished s → ending (Moves s st) ≡ Stopped []
ending_early (mc.Finished p) st h = absurd h
ending_early (mc.InDecl s) st h = refl
ending_early (mc.InExpr s) st h = refl
ending_early (mc.InArm s) st h = refl

unexpected : (count last : ℕ) (m : Move) (f : ParseFault) → f ≡ fault.Unexpected count last → ending m ≡ Stopped []
    → Answers count last (ending m) (Err (stop.Fault f))
unexpected count last m f e h = record { answers = subst (λ g. FailsWith (stop.Fault g) (fault_of count last (ending m))) (sym e) (ap (fault_of count last) h ∙ nothing_left count last) }

pub ends_early : (count last : ℕ) (m : Move) (s : State) (fs : List Frame) (f : ParseFault) → m ≡ Moves (state_of s) (stack_of fs) → IsUnfinished (state_of s)
    → f ≡ fault.Unexpected count last → Answers count last (ending m) (Err (stop.Fault f))
ends_early count last m s fs f e h q = unexpected count last m f q (ap ending e ∙ ending_early (state_of s) (stack_of fs) h)

pub ends_stuck : (count last : ℕ) (m : Move) → m ≡ Stops → Answers count last (ending m) (Err (stop.Fault (fault.Unexpected count last)))
ends_stuck count last m e = unexpected count last m (fault.Unexpected count last) refl (ap ending e)

pub ends_deep : (count last : ℕ) (m : Move) → m ≡ Sinks → Answers count last (ending m) (Err (stop.Fault (fault.Unexpected count last)))
ends_deep count last m e = unexpected count last m (fault.Unexpected count last) refl (ap ending e)

-- ---- the loop over the tokens

rest_at : (text : List ℕ) (tokens : List Token) (i : ℕ) (d : Token) → i < length tokens
    → lexemes text (drop i tokens) ≡ lexeme_at text (get_or tokens i d) ∷ lexemes text (drop (i + 1) tokens)
rest_at text tokens i d h = ap (λ ts. lexemes text ts) (drop-cons tokens i d h) ∙ ap (λ n. lexeme_at text (get_or tokens i d) ∷ lexemes text (drop n tokens)) (sym (add-one i))

pub run_more : (whole : Result) (text : List ℕ) (tokens : List Token) (i : ℕ) (d : Token) (p q : Parser) (at : ℕ) (u : Unit {0}) → i < length tokens
    → whole ≡ runs (state_of p.state) (stack_of p.stack.items) (lexemes text (drop i tokens))
    → Reads (advance (state_of p.state) (lexeme_at text (get_or tokens i d)) (stack_of p.stack.items)) (lexeme_at text (get_or tokens i d)) at q (Ok u)
    → whole ≡ runs (state_of q.state) (stack_of q.stack.items) (lexemes text (drop (i + 1) tokens))
run_more whole text tokens i d p q at u h e r =
    e ∙ ap (λ ts. runs (state_of p.state) (stack_of p.stack.items) ts) (rest_at text tokens i d h)
    ∙ ap (λ m. onward m (λ s3 st3. runs s3 st3 (lexemes text (drop (i + 1) tokens))) (lexeme_at text (get_or tokens i d) ∷ lexemes text (drop (i + 1) tokens))) r.reads

lexemes_length : (text : List ℕ) (tokens : List Token) → length (lexemes text tokens) ≡ length tokens
lexemes_length text [] = refl
lexemes_length text (t ∷ ts) = ap (λ n. suc n) (lexemes_length text ts)

place_is : (text : List ℕ) (tokens : List Token) (i : ℕ) → i < length tokens → length tokens - suc (length (lexemes text (drop (i + 1) tokens))) ≡ i
place_is text tokens i h = rw (lexemes_length text (drop (i + 1) tokens)) (simp length-drop (omega arith))

fails_whole : (count last at : ℕ) (t : Lexeme) (rest : List Lexeme) (next : mc.State → List mc.Frame → Result) (f : Stop ParseFault) (m : Move)
    → count - suc (length rest) ≡ at
    → FailsAt t at f m → FailsWith f (fault_of count last (onward m next (t ∷ rest)))
fails_whole count last at t rest next stop.Memory m e h = tt
fails_whole count last at t rest next (stop.Fault (fault.TooDeep token line)) m e h =
    ap (λ n. fault_of count last (onward n next (t ∷ rest))) h.0 ∙ ap (λ n. Some (fault.TooDeep n (line_of t))) (e ∙ sym h.1) ∙ ap (λ n. Some (fault.TooDeep token n)) (sym h.2)
fails_whole count last at t rest next (stop.Fault (fault.Scan g)) m e h =
    ap (λ n. fault_of count last (onward n next (t ∷ rest))) h.0 ∙ ap (λ n. Some (stop_fault (t ∷ rest) n (line_of t))) e ∙ ap Some (sym (h.1 rest))
fails_whole count last at t rest next (stop.Fault (fault.Unexpected k l)) m e h =
    ap (λ n. fault_of count last (onward n next (t ∷ rest))) h.0 ∙ ap (λ n. Some (stop_fault (t ∷ rest) n (line_of t))) e ∙ ap Some (sym (h.1 rest))
fails_whole count last at t rest next (stop.Fault (fault.TypeParameter k l)) m e h =
    ap (λ n. fault_of count last (onward n next (t ∷ rest))) h.0 ∙ ap (λ n. Some (stop_fault (t ∷ rest) n (line_of t))) e ∙ ap Some (sym (h.1 rest))

pub run_fails : (whole : Result) (last : ℕ) (text : List ℕ) (tokens : List Token) (i : ℕ) (d : Token) (p q : Parser) (f : Stop ParseFault) → i < length tokens
    → whole ≡ runs (state_of p.state) (stack_of p.stack.items) (lexemes text (drop i tokens))
    → Reads (advance (state_of p.state) (lexeme_at text (get_or tokens i d)) (stack_of p.stack.items)) (lexeme_at text (get_or tokens i d)) i q (Err f)
    → Answers (length tokens) last whole (Err f)
run_fails whole last text tokens i d p q f h e r =
    let all : whole ≡ onward (limited (advance (state_of p.state) (lexeme_at text (get_or tokens i d)) (stack_of p.stack.items))) (λ s3 st3. runs s3 st3 (lexemes text (drop (i + 1) tokens)))
    (lexeme_at text (get_or tokens i d) ∷ lexemes text (drop (i + 1) tokens)) =
    e ∙ ap (λ ts. runs (state_of p.state) (stack_of p.stack.items) ts) (rest_at text tokens i d h) in
    record {
      answers = subst (λ w. FailsWith f (fault_of (length tokens) last w)) (sym all)
          (fails_whole (length tokens) last i (lexeme_at text (get_or tokens i d)) (lexemes text (drop (i + 1) tokens)) _ f _ (place_is text tokens i h) r.reads);
    }

pub run_first : (text : List ℕ) (tokens : List Token) → runs mc.start [] (lexemes text tokens) ≡ runs mc.start (stack_of []) (lexemes text (drop 0 tokens))
unfolding stack_of
run_first text tokens = refl

pub run_ends : (whole : Result) (last count : ℕ) (text : List ℕ) (tokens : List Token) (i : ℕ) (p : Parser) (r : Rattle.std.proofs.Common.Result Decls (Stop ParseFault)) → length tokens ≤ i
    → whole ≡ runs (state_of p.state) (stack_of p.stack.items) (lexemes text (drop i tokens))
    → Answers count last (ending (limited (step (state_of p.state) (Mark mark.EndOfText 0) (stack_of p.stack.items)))) r → Answers count last whole r
run_ends whole last count text tokens i p r h e a =
    subst (λ w. Answers count last w r) (sym (e ∙ ap (λ ts. runs (state_of p.state) (stack_of p.stack.items) (lexemes text ts)) (drop_of_length-le tokens {i = i} h))) a

pub slice_at : (text : List ℕ) (tokens : List Token) (i : ℕ) (d : Token) → All (IsSliceOf text) tokens → i < length tokens → IsSliceOf text (get_or tokens i d)
slice_at text tokens i d h k = All-get_or (IsSliceOf text) tokens i d k h
