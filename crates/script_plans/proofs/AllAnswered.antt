-- Answers to programs: one by one, in two parts, and as they are taken.
use Rattle.std.proofs.Common.{◌≡◌, ℕ, ◌<◌, ◌≤◌, List, [], ◌∷◌, ◌++◌, length, map, drop, refl, sym, subst, append_assoc, append-nil, arith}
use Rattle.std.proofs.lemmas.List.{drop_all}
use Rattle.job_script.specs.Scripts.{Program, Entry, AProgram, AJob}
use Rattle.job_script.specs.Words.{entry_of}
use Rattle.job_script.specs.declared.types.Entry.{Entry as DeclaredEntry}
use Rattle.script_plans.specs.declared.answering.Answered.{Answered}
use Rattle.script_plans.specs.Programs.{ProgramText, text_in}
use Rattle.script_plans.specs.Answers.{Licensing, IsAnswer, IsAnswerTo, IsAnswerAdded, AreAnswered, IsProgramAdded, IsTaken, AreLicensed}
use Rattle.script_plans.proofs.Parts.{of_both}
use Rattle.script_plans.proofs.Programs.{UpTo, none_licensed, licensed_more, all_licensed}

-- ---- one by one

-- The programs of the front entries have these answers, whatever answers the rest have.
pub record AreSoFar (entries rest : List Entry) (answers : List Answered) : Type 0 where
  pub are : (more : List Answered) → AreAnswered rest more → AreAnswered entries (answers ++ more)

pub none_answered : (entries : List Entry) → AreSoFar entries entries []
none_answered entries = record { are = λ more h. h }

pub answered_more : (entries rest : List Entry) (e : Entry) (old new : List Answered) → AreSoFar entries (e ∷ rest) old → IsAnswerAdded e old new
    → AreSoFar entries rest new
answered_more entries rest (AProgram p) old new u t = record {
  are = λ more h.
      subst (λ l. AreAnswered entries (l ++ more)) (sym t.more)
      (subst (AreAnswered entries) (sym (append_assoc old (t.answered ∷ []) more)) (u.are (t.answered ∷ more) (t.is, h)));
}
answered_more entries rest (AJob j) old new u t = record { are = λ more h. subst (λ l. AreAnswered entries (l ++ more)) (sym t) (u.are more h) }

pub answered_end : (entries : List DeclaredEntry) (n : ℕ) (answers : List Answered) → length entries ≤ n
    → AreSoFar (map entry_of entries) (map entry_of (drop n entries)) answers
    → AreAnswered (map entry_of entries) answers
answered_end entries n answers h u =
    let all = map entry_of entries in
    let none : AreSoFar all [] answers = subst (λ (l : List DeclaredEntry). AreSoFar all (map entry_of l) answers) (drop_all n entries h) u in
    subst (AreAnswered all) (append-nil answers) (none.are [] tt)

-- ---- in two parts

pub both_answered : (es fs : List Entry) (xs ys : List Answered) → AreAnswered es xs → AreAnswered fs ys → AreAnswered (es ++ fs) (xs ++ ys)
both_answered [] fs [] ys a b = b
both_answered [] fs (x ∷ xs) ys a b = absurd a
both_answered (AProgram p ∷ es) fs [] ys a b = absurd a
both_answered (AProgram p ∷ es) fs (x ∷ xs) ys a b = (a.0, both_answered es fs xs ys a.1 b)
both_answered (AJob j ∷ es) fs xs ys a b = both_answered es fs xs ys a b

pub all_answered : (all xs ys : List DeclaredEntry) (answers : List Answered) → all ≡ xs ++ ys → AreAnswered (map entry_of xs ++ map entry_of ys) answers
    → AreAnswered (map entry_of all) answers
all_answered all xs ys answers e a = of_both (λ es. AreAnswered es answers) all xs ys e a

-- ---- as they are taken

-- The programs in front are added, and those of the rest have these answers.
pub record Adding (script : List Entry) (l : Licensing) (left : List Answered) : Type 0 where
  pub rest : List Entry
  pub upto : UpTo script rest l
  pub are : AreAnswered rest left

pub none_added : (script : List Entry) (left : List Answered) → AreAnswered script left → Adding script (record { rows = []; licences = []; lines = [] }) left
none_added script left h = record { rest = script; upto = none_licensed script; are = h }

-- the answer that is taken next is that to a program
record IsNext (script : List Entry) (l : Licensing) (a : Answered) (left : List Answered) : Type 0 where
  program : Program
  rest : List Entry
  upto : UpTo script (AProgram program ∷ rest) l
  is : IsAnswerTo program a
  are : AreAnswered rest left

next_is : (script rest : List Entry) (l : Licensing) (a : Answered) (left : List Answered) → UpTo script rest l → AreAnswered rest (a ∷ left) → IsNext script l a left
next_is script [] l a left u h = absurd h
next_is script (AProgram p ∷ rest) l a left u h = record { program = p; rest = rest; upto = u; is = h.0; are = h.1 }
next_is script (AJob j ∷ rest) l a left u h = next_is script rest l a left (licensed_more script rest (AJob j) l l u refl) h

pub next_answer : (script : List Entry) (l : Licensing) (a : Answered) (left : List Answered) → Adding script l (a ∷ left) → IsAnswer (text_in a.language a.text.now) a.licence
next_answer script l a left h =
    let n = next_is script h.rest l a left h.upto h.are in
    subst (λ (t : ProgramText). IsAnswer t a.licence) (sym n.is.program) n.is.is

pub next_few : (script : List Entry) (l : Licensing) (a : Answered) (left : List Answered) → length script ≤ 4160 → Adding script l (a ∷ left) → length l.licences < 4294967295
next_few script l a left few h = let n = next_is script h.rest l a left h.upto h.are in omega (arith, few, n.upto.few)

pub added_more : (script : List Entry) (old new : Licensing) (a : Answered) (left : List Answered) → Adding script old (a ∷ left)
    → IsProgramAdded a.name.now (text_in a.language a.text.now) old new
    → Adding script new left
added_more script old new a left h t =
    let n = next_is script h.rest old a left h.upto h.are in
    let named : IsProgramAdded n.program.name (text_in a.language a.text.now) old new = subst (λ (w : List ℕ). IsProgramAdded w (text_in a.language a.text.now) old new) n.is.name t in
    let is : IsTaken (AProgram n.program) old new = subst (λ (p : ProgramText). IsProgramAdded n.program.name p old new) n.is.program named in
    record { rest = n.rest; upto = licensed_more script n.rest (AProgram n.program) old new n.upto is; are = n.are }

all_jobs : (script rest : List Entry) (l : Licensing) → UpTo script rest l → AreAnswered rest [] → AreLicensed script l
all_jobs script [] l u h = all_licensed script l u
all_jobs script (AProgram p ∷ rest) l u h = absurd h
all_jobs script (AJob j ∷ rest) l u h = all_jobs script rest l (licensed_more script rest (AJob j) l l u refl) h

pub added_all : (script : List Entry) (l : Licensing) → Adding script l [] → AreLicensed script l
added_all script l h = all_jobs script h.rest l h.upto h.are
