-- Laws, for the proofs of this crate and of those above it.
-- What a tenant is told depends on its own lines alone.
use Rattle.std.proofs.Common.{◌≡◌, ℕ, Bool, true, false, List, [], ◌∷◌, Some, refl, sym, ap, ◌∙◌, subst}
use Rattle.std.specs.Prelude.{if◌then◌else◌}
use Rattle.std.specs.Str.{bytes_eq}
use Rattle.std.proofs.lemmas.Slice.Eq.{bytes_eq-Decides}
use Rattle.run_reports.specs.declared.outcome.ProgramLine.{ProgramLine}
use Rattle.script_plans.specs.Programs.{program_of}
use Rattle.script_plans.specs.Fates.{Fate, IsFate}
use Rattle.tenant_script.specs.Tenants.{Entry, AProgram, AStart, AFinish}
use Rattle.tenant_service.specs.Rooms.{Room, Own, Starts, Finishes, step, replies, room_after}
use Rattle.tenant_service.specs.Replies.{Line, Answer, Rooms, with_room, answers, rooms_after, own_lines, told_to, lines_of}
use Rattle.tenant_service.specs.Scripts.{program_named, AreProgramLines, AreFates, lines_from, alone, own_fates}

-- ---- rooms

-- the room of the tenant behind a line of the tenant of this name
room_by : (rooms : Rooms) (owner tenant : List ℕ) (room : Room) (b : Bool) → bytes_eq owner tenant ≡ b → with_room rooms owner room tenant ≡ (if b then room else rooms tenant)
room_by rooms owner tenant room b e = ap (λ b. if b then room else rooms tenant) e

-- the budget and the room of the owner are the tenant's, where it is the owner
same_step : (budget : List ℕ → ℕ) (rooms : Rooms) (owner tenant : List ℕ) (o : Own) → owner ≡ tenant → step (budget owner) (rooms owner) o ≡ step (budget tenant) (rooms tenant) o
same_step budget rooms owner tenant o e = ap (λ t. step (budget t) (rooms t) o) e

-- ---- what is told

own_reply : (tenant : List ℕ) (a : Answer) (others : List Answer) (b : Bool) → bytes_eq a.tenant tenant ≡ b → told_to tenant (a ∷ others) ≡ (if b then a.reply ∷ told_to tenant others else told_to tenant others)
own_reply tenant a others b e = ap (λ b. if b then a.reply ∷ told_to tenant others else told_to tenant others) e

own_line : (tenant : List ℕ) (l : Line) (ls : List Line) (b : Bool) → bytes_eq l.tenant tenant ≡ b → own_lines tenant (l ∷ ls) ≡ (if b then l.own ∷ own_lines tenant ls else own_lines tenant ls)
own_line tenant l ls b e = ap (λ b. if b then l.own ∷ own_lines tenant ls else own_lines tenant ls) e

same_name : (xs ys : List ℕ) → bytes_eq xs ys ≡ true → xs ≡ ys
same_name xs ys e = (bytes_eq-Decides xs ys).0 e

pub told_own : (budget : List ℕ → ℕ) (rooms : Rooms) (lines : List Line) (tenant : List ℕ) → told_to tenant (answers budget rooms lines) ≡ replies (budget tenant) (rooms tenant) (own_lines tenant lines)
told_own budget rooms [] tenant = refl
told_own budget rooms (l ∷ ls) tenant = by_name (bytes_eq l.tenant tenant) refl (told_own budget (with_room rooms l.tenant (step (budget l.tenant) (rooms l.tenant) l.own).room) ls tenant)
  where
    by_name : (b : Bool) → bytes_eq l.tenant tenant ≡ b
        → told_to tenant (answers budget (with_room rooms l.tenant (step (budget l.tenant) (rooms l.tenant) l.own).room) ls)
        ≡ replies (budget tenant) (with_room rooms l.tenant (step (budget l.tenant) (rooms l.tenant) l.own).room tenant) (own_lines tenant ls)
        → told_to tenant (answers budget rooms (l ∷ ls)) ≡ replies (budget tenant) (rooms tenant) (own_lines tenant (l ∷ ls))
    by_name true e later =
        let same = same_step budget rooms l.tenant tenant l.own (same_name l.tenant tenant e) in
        ap (λ b. if b then (step (budget l.tenant) (rooms l.tenant) l.own).reply ∷ told_to tenant (answers budget (with_room rooms l.tenant (step (budget l.tenant) (rooms l.tenant) l.own).room) ls) else told_to tenant (answers budget (with_room rooms l.tenant (step (budget l.tenant) (rooms l.tenant) l.own).room) ls)) e
        ∙ ap (λ rs. (step (budget l.tenant) (rooms l.tenant) l.own).reply ∷ rs) (later ∙ ap (λ r. replies (budget tenant) r (own_lines tenant ls)) (room_by rooms l.tenant tenant (step (budget l.tenant) (rooms l.tenant) l.own).room true e))
        ∙ ap (λ s. s.reply ∷ replies (budget tenant) s.room (own_lines tenant ls)) same
        ∙ ap (replies (budget tenant) (rooms tenant)) (sym (own_line tenant l ls true e))
    by_name false e later =
        ap (λ b. if b then (step (budget l.tenant) (rooms l.tenant) l.own).reply ∷ told_to tenant (answers budget (with_room rooms l.tenant (step (budget l.tenant) (rooms l.tenant) l.own).room) ls) else told_to tenant (answers budget (with_room rooms l.tenant (step (budget l.tenant) (rooms l.tenant) l.own).room) ls)) e
        ∙ later ∙ ap (λ r. replies (budget tenant) r (own_lines tenant ls)) (room_by rooms l.tenant tenant (step (budget l.tenant) (rooms l.tenant) l.own).room false e)
        ∙ ap (replies (budget tenant) (rooms tenant)) (sym (own_line tenant l ls false e))

pub room_own : (budget : List ℕ → ℕ) (rooms : Rooms) (lines : List Line) (tenant : List ℕ) → rooms_after budget rooms lines tenant ≡ room_after (budget tenant) (rooms tenant) (own_lines tenant lines)
room_own budget rooms [] tenant = refl
room_own budget rooms (l ∷ ls) tenant = by_name (bytes_eq l.tenant tenant) refl (room_own budget (with_room rooms l.tenant (step (budget l.tenant) (rooms l.tenant) l.own).room) ls tenant)
  where
    by_name : (b : Bool) → bytes_eq l.tenant tenant ≡ b
        → rooms_after budget (with_room rooms l.tenant (step (budget l.tenant) (rooms l.tenant) l.own).room) ls tenant
        ≡ room_after (budget tenant) (with_room rooms l.tenant (step (budget l.tenant) (rooms l.tenant) l.own).room tenant) (own_lines tenant ls)
        → rooms_after budget (with_room rooms l.tenant (step (budget l.tenant) (rooms l.tenant) l.own).room) ls tenant ≡ room_after (budget tenant) (rooms tenant) (own_lines tenant (l ∷ ls))
    by_name true e later =
        later ∙ ap (λ r. room_after (budget tenant) r (own_lines tenant ls)) (room_by rooms l.tenant tenant (step (budget l.tenant) (rooms l.tenant) l.own).room true e)
        ∙ ap (λ s. room_after (budget tenant) s.room (own_lines tenant ls)) (same_step budget rooms l.tenant tenant l.own (same_name l.tenant tenant e))
        ∙ ap (room_after (budget tenant) (rooms tenant)) (sym (own_line tenant l ls true e))
    by_name false e later =
        later ∙ ap (λ r. room_after (budget tenant) r (own_lines tenant ls)) (room_by rooms l.tenant tenant (step (budget l.tenant) (rooms l.tenant) l.own).room false e)
        ∙ ap (room_after (budget tenant) (rooms tenant)) (sym (own_line tenant l ls false e))

-- ---- without the others

kept_line : (tenant : List ℕ) (l : Line) (ls : List Line) (b : Bool) → bytes_eq l.tenant tenant ≡ b → lines_of tenant (l ∷ ls) ≡ (if b then l ∷ lines_of tenant ls else lines_of tenant ls)
kept_line tenant l ls b e = ap (λ b. if b then l ∷ lines_of tenant ls else lines_of tenant ls) e

own_of_own : (tenant : List ℕ) (ls : List Line) → own_lines tenant (lines_of tenant ls) ≡ own_lines tenant ls
own_of_own tenant [] = refl
own_of_own tenant (l ∷ ls) = by_name (bytes_eq l.tenant tenant) refl (own_of_own tenant ls)
  where
    by_name : (b : Bool) → bytes_eq l.tenant tenant ≡ b → own_lines tenant (lines_of tenant ls) ≡ own_lines tenant ls → own_lines tenant (lines_of tenant (l ∷ ls)) ≡ own_lines tenant (l ∷ ls)
    by_name true e later = ap (own_lines tenant) (kept_line tenant l ls true e) ∙ own_line tenant l (lines_of tenant ls) true e ∙ ap (λ os. l.own ∷ os) later ∙ sym (own_line tenant l ls true e)
    by_name false e later = ap (own_lines tenant) (kept_line tenant l ls false e) ∙ later ∙ sym (own_line tenant l ls false e)

pub told_alone : (budget : List ℕ → ℕ) (rooms : Rooms) (lines : List Line) (tenant : List ℕ) → told_to tenant (answers budget rooms (lines_of tenant lines)) ≡ told_to tenant (answers budget rooms lines)
told_alone budget rooms lines tenant =
    told_own budget rooms (lines_of tenant lines) tenant ∙ ap (replies (budget tenant) (rooms tenant)) (own_of_own tenant lines) ∙ sym (told_own budget rooms lines tenant)

-- ---- scripts

pub programs_alone : (tenant : List ℕ) (items : List Entry) (lines : List ProgramLine) → AreProgramLines items lines → AreProgramLines (alone tenant items) lines
programs_alone tenant [] [] h = tt
programs_alone tenant [] (line ∷ lines) h = absurd h
programs_alone tenant (AProgram p ∷ items) [] h = absurd h
programs_alone tenant (AProgram p ∷ items) (line ∷ lines) h = (h.0, programs_alone tenant items lines h.1)
programs_alone tenant (AStart owner j ∷ items) lines h = by_name (bytes_eq owner tenant) (programs_alone tenant items lines h)
  where
    by_name : (b : Bool) → AreProgramLines (alone tenant items) lines → AreProgramLines (if b then AStart owner j ∷ alone tenant items else alone tenant items) lines
    by_name true later = later
    by_name false later = later
programs_alone tenant (AFinish owner job ∷ items) lines h = by_name (bytes_eq owner tenant) (programs_alone tenant items lines h)
  where
    by_name : (b : Bool) → AreProgramLines (alone tenant items) lines → AreProgramLines (if b then AFinish owner job ∷ alone tenant items else alone tenant items) lines
    by_name true later = later
    by_name false later = later

named_alone : (tenant : List ℕ) (items : List Entry) (name : List ℕ) → program_named (alone tenant items) name ≡ program_named items name
named_alone tenant [] name = refl
named_alone tenant (AProgram p ∷ items) name = ap (λ o. if bytes_eq p.name name then Some (program_of p) else o) (named_alone tenant items name)
named_alone tenant (AStart owner j ∷ items) name = by_name (bytes_eq owner tenant) (named_alone tenant items name)
  where
    by_name : (b : Bool) → program_named (alone tenant items) name ≡ program_named items name → program_named (if b then AStart owner j ∷ alone tenant items else alone tenant items) name ≡ program_named items name
    by_name true later = later
    by_name false later = later
named_alone tenant (AFinish owner job ∷ items) name = by_name (bytes_eq owner tenant) (named_alone tenant items name)
  where
    by_name : (b : Bool) → program_named (alone tenant items) name ≡ program_named items name → program_named (if b then AFinish owner job ∷ alone tenant items else alone tenant items) name ≡ program_named items name
    by_name true later = later
    by_name false later = later

-- with the programs of any script that has the same under each name
fates_in : (tenant : List ℕ) (script other items : List Entry) (fates : List Fate) → ((name : List ℕ) → program_named other name ≡ program_named script name) → AreFates script items fates
    → AreFates other (alone tenant items) (own_fates tenant items fates)
fates_in tenant script other [] [] same h = tt
fates_in tenant script other [] (fate ∷ fates) same h = absurd h
fates_in tenant script other (AProgram p ∷ items) fates same h = fates_in tenant script other items fates same h
fates_in tenant script other (AStart owner j ∷ items) [] same h = absurd h
fates_in tenant script other (AStart owner j ∷ items) (fate ∷ fates) same h = by_name (bytes_eq owner tenant) (fates_in tenant script other items fates same h.2)
  where
    by_name : (b : Bool) → AreFates other (alone tenant items) (own_fates tenant items fates)
        → AreFates other (if b then AStart owner j ∷ alone tenant items else alone tenant items) (if b then fate ∷ own_fates tenant items fates else own_fates tenant items fates)
    by_name true later = (subst (λ p. IsFate p j.entry j.args fate) (sym (same j.program)) h.0, h.1, later)
    by_name false later = later
fates_in tenant script other (AFinish owner job ∷ items) fates same h = by_name (bytes_eq owner tenant) (fates_in tenant script other items fates same h)
  where
    by_name : (b : Bool) → AreFates other (alone tenant items) (own_fates tenant items fates) → AreFates other (if b then AFinish owner job ∷ alone tenant items else alone tenant items) (own_fates tenant items fates)
    by_name true later = later
    by_name false later = later

pub fates_alone : (tenant : List ℕ) (items : List Entry) (fates : List Fate) → AreFates items items fates → AreFates (alone tenant items) (alone tenant items) (own_fates tenant items fates)
fates_alone tenant items fates h = fates_in tenant items (alone tenant items) items fates (named_alone tenant items) h

lines_in : (tenant : List ℕ) (script items : List Entry) (fates : List Fate) → AreFates script items fates → lines_from (alone tenant items) (own_fates tenant items fates) ≡ lines_of tenant (lines_from items fates)
lines_in tenant script [] [] h = refl
lines_in tenant script [] (fate ∷ fates) h = absurd h
lines_in tenant script (AProgram p ∷ items) fates h = lines_in tenant script items fates h
lines_in tenant script (AStart owner j ∷ items) [] h = absurd h
lines_in tenant script (AStart owner j ∷ items) (fate ∷ fates) h = by_name (bytes_eq owner tenant) (lines_in tenant script items fates h.2)
  where
    by_name : (b : Bool) → lines_from (alone tenant items) (own_fates tenant items fates) ≡ lines_of tenant (lines_from items fates)
        → lines_from (if b then AStart owner j ∷ alone tenant items else alone tenant items) (if b then fate ∷ own_fates tenant items fates else own_fates tenant items fates)
        ≡ (if b then record { tenant = owner; own = Starts j.name j.fuel fate } ∷ lines_of tenant (lines_from items fates) else lines_of tenant (lines_from items fates))
    by_name true later = ap (λ ls. record { tenant = owner; own = Starts j.name j.fuel fate } ∷ ls) later
    by_name false later = later
lines_in tenant script (AFinish owner job ∷ items) fates h = by_name (bytes_eq owner tenant) (lines_in tenant script items fates h)
  where
    by_name : (b : Bool) → lines_from (alone tenant items) (own_fates tenant items fates) ≡ lines_of tenant (lines_from items fates)
        → lines_from (if b then AFinish owner job ∷ alone tenant items else alone tenant items) (own_fates tenant items fates)
        ≡ (if b then record { tenant = owner; own = Finishes job } ∷ lines_of tenant (lines_from items fates) else lines_of tenant (lines_from items fates))
    by_name true later = ap (λ ls. record { tenant = owner; own = Finishes job } ∷ ls) later
    by_name false later = later

pub lines_alone : (tenant : List ℕ) (items : List Entry) (fates : List Fate) → AreFates items items fates → lines_from (alone tenant items) (own_fates tenant items fates) ≡ lines_of tenant (lines_from items fates)
lines_alone tenant items fates h = lines_in tenant items items fates h
