-- The lines of a program's text.
use Rattle.std.proofs.Common.{◌≡◌, ℕ, suc, ◌+◌, ◌-◌, ◌<◌, ◌≤◌, List, [], ◌∷◌, ◌++◌, length, take, refl, sym, ap, ◌∙◌, arith, append_assoc, length-append}
use Rattle.std.specs.Prelude.{codes}
use Rattle.std.proofs.Math.Seq.{take-append_seam}
use Rattle.text_lines.specs.Lines.{IsOneLine, text_of_lines, HasLine}
use Rattle.text_lines.specs.FrontLaws.{all_append, lines_append, first_line}
use Rattle.job_script.specs.Scripts.{IsTextLine}
use Rattle.job_script.specs.Steps.{HasLines, HasBody, IsOpen}

pub lines_start : (rest : List ℕ) → HasLines rest rest 0
lines_start rest = record { lines = []; each = tt; parts = refl; count = refl; few = omega arith }

line_long : (left line after : List ℕ) → HasLine left line after → length left ≡ length line + suc (length after)
line_long left line after h = ap length h.parts ∙ length-append line (10 ∷ after)

pub lines_shorter : (left line after : List ℕ) → HasLine left line after → length after < length left
lines_shorter left line after h = omega (arith, line_long left line after h)

pub lines_more : (rest left line after : List ℕ) (size : ℕ) → HasLines rest left size → HasLine left line after → (line ≡ codes "." → ⊥)
    → HasLines rest after (size + 1)
lines_more rest left line after size b h k = record {
  lines = b.lines ++ line ∷ [];
  each = all_append IsTextLine b.lines (line ∷ []) b.each (record { one = h.one; goes_on = k }, tt);
  parts = b.parts ∙ ap (λ l. text_of_lines b.lines ++ l) (h.parts ∙ sym (first_line line [] after)) ∙ sym (append_assoc (text_of_lines b.lines) (text_of_lines (line ∷ [])) after) ∙ ap (λ l. l ++ after) (sym (lines_append b.lines (line ∷ [])));
  count = omega (arith, b.count, length-append b.lines (line ∷ []));
  few = omega (arith, b.few, line_long left line after h);
}

pub lines_end : (rest left line after text : List ℕ) (size : ℕ) → HasLines rest left size → HasLine left line after → line ≡ codes "."
    → text ≡ take (length rest - length left) rest → HasBody rest text after size
lines_end rest left line after text size b h k e =
    let long : length rest - length left ≡ length (text_of_lines b.lines) = omega (arith, ap length b.parts, length-append (text_of_lines b.lines) left) in
    let same : text ≡ text_of_lines b.lines = e ∙ ap (λ n. take n rest) long ∙ ap (take (length (text_of_lines b.lines))) b.parts ∙ take-append_seam (text_of_lines b.lines) left in
    record { lines = b.lines; each = b.each; is = same; parts = b.parts ∙ ap (λ l. text_of_lines b.lines ++ l) (h.parts ∙ ap (λ l. l ++ 10 ∷ after) k) ∙ ap (λ l. l ++ (46 ∷ 10 ∷ after)) (sym same); count = b.count }

pub end_short : (rest left line after : List ℕ) (size : ℕ) → HasLines rest left size → HasLine left line after → line ≡ codes "."
    → size + length after + 2 ≤ length rest
end_short rest left line after size b h k = omega (arith, b.few, line_long left line after h, ap length k)

pub lines_open : (rest left : List ℕ) (size : ℕ) → HasLines rest left size → IsOneLine left → IsOpen rest size
lines_open rest left size b h = record { lines = b.lines; left = left; each = b.each; parts = b.parts; one = h; count = b.count }
