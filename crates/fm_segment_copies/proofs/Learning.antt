-- What a caller learns of calls on two ranges, from what they did.
use Rattle.std.{proofs.Common.{◌≡◌, ℕ, ◌<◌, ◌≤◌, List, [], ap, refl, ◌∙◌, arith, Option, Some, None, Result, Ok, Err}, specs.Option.{ForSome}}
use Rattle.fm_base.specs.{declared.{caller.Caller.{Caller}, refusal.Refusal.{Refusal, TheVariants.{Closed, WrongThread}}}, Calls.{Entry}}
use Rattle.fm_base.specs.{Histories.{IsLegal, state_after}, Outcomes.{Lasts}, View.{View, Did, IsByItself}, Visits.{Run, ends, goes_on}}
use Rattle.fm_base.proofs.{Faith.{Makes-alone}, Making.{Makes-none}}
use Rattle.fm_segment_access.{specs.Learnt.{After}, proofs.{Going.{run_ends}, Learning.{after_outside}}}
use Rattle.fm_segment_copies.specs.{declared.side.Side.{Side}, Alone.{StaysOutOf}, Comparisons.{DoesCompare}, Copies.{DoesCopy}}
use Rattle.fm_segment_copies.specs.{Learnt.{CanTouchBoth, KnowsBoth, BothCause, AfterCopy, AfterCompare}, Sides.{IsForOthers, MayUseBoth, DoesOnBoth}}
use Rattle.fm_segment_copies.proofs.{ComparingAlone.{compare_alone, compare_stops}, CopyingAlone.{copy_alone, copy_stops}, Refusing.{AreShut}}

-- A run that was refused at a piece had a byte to go.
run_some : {Y : Type 0} {Step : ℕ → List Entry → ℕ → Type 0} {Ends : ℕ → List Entry → Y → Type 0} {left : ℕ} {own : List Entry} {answer : Y}
    → ((left : ℕ) (own : List Entry) (then : ℕ) → Step left own then → 0 < left) → ((left : ℕ) (own : List Entry) → Ends left own answer → 0 < left)
    → Run Step Ends left own answer → 0 < left
run_some {left = left} {own = own} steps last (ends e) = last left own e
run_some {left = left} steps last (goes_on then one rest s r) = steps left one then s

-- An offset that is found is one of the bytes.
compare_within : (c : Caller) (a b : Side) (count : ℕ) (found : Option ℕ) (own : List Entry) → DoesCompare c a b count (Ok found) own
    → ForSome found (λ offset. offset < count)
compare_within c a b count None own d = λ offset e. absurd (let no : ⊥ = cc in no)
compare_within c a b count (Some found) own d = λ offset e.
    let end = run_ends (λ left. left ≤ count) (λ left then es h s. let t = s.then in omega arith) (omega arith) d.visits in
    let same : found ≡ offset = cc in
    let some = end.ends.more in
    let at = end.ends.piece.answer.within in
    let is = end.ends.offset_is in
    let good = end.good in
    omega arith

-- ---- all that is learnt

know_both : {old new : View} {a b : Side} {count : ℕ} → CanTouchBoth old a b count → Lasts old new → KnowsBoth a.arena b.arena new
know_both {a = a} {b = b} can lasts = record { first = lasts.known a.arena can.first_known; second = lasts.known b.arena can.second_known }

-- Of a call on both sides, which ends outside: why it is refused, and that its only caller is where one of the arenas
-- isn't open to it.
after_both : {X : Type 0} {old new : View} {a b : Side} {count : ℕ} (Answers : X → List Entry → Type 0) (Stops : List Entry → Type 0) {Alone Kind : X → Type 0}
    → CanTouchBoth old a b count → new.inside ≡ None → ((own : List Entry) → Stops own → (0 < count) × MayUseBoth old.caller a b)
    → ((own : List Entry) → Stops own → IsLegal old.limit old.state own → AreShut old.state (state_after old.limit old.state own) a b)
    → ((x : X) → Did old new (DoesOnBoth old.caller a b count Answers Stops (Ok x)) → IsByItself old → Alone x)
    → ((x : X) → Did old new (DoesOnBoth old.caller a b count Answers Stops (Ok x)) → Kind x)
    → (result : Result X Refusal) → Did old new (DoesOnBoth old.caller a b count Answers Stops result)
    → After old new (DoesOnBoth old.caller a b count Answers Stops) (BothCause a b count old.caller) Alone (StaysOutOf old new a.arena b.arena)
    (KnowsBoth a.arena b.arena) Kind result
after_both Answers Stops can out because stops alone kind (Ok x) d = after_outside out d tt (λ h. alone x d h) (λ h. tt) (know_both can) (kind x d)
after_both {old = old} {new} Answers Stops can out because stops alone kind (Err WrongThread) d =
    after_outside out d d.does.0 (λ h. tt)
    (λ h.
    let m = Makes-alone old new d.own h d.makes in
    record { shut = λ both. d.does.0.1 (both.0.usable, both.1.usable); same = m.1 ∙ ap (state_after old.limit old.state) d.does.1 })
    (know_both can) tt
after_both {old = old} {new} Answers Stops can out because stops alone kind (Err Closed) d =
    after_outside out d (because d.own d.does) (λ h. tt)
    (λ h.
    let m = Makes-alone old new d.own h d.makes in
    let s = stops d.own d.does m.0 in
    record { shut = λ both. s.over (both.0.alive, both.1.alive); same = m.1 ∙ s.same })
    (know_both can) tt
after_both Answers Stops can out because stops alone kind (Err r) d = absurd d.does

-- Of a copy.
pub after_copy : {old new : View} {a b : Side} {count : ℕ} {result : Result (Unit {0}) Refusal} → CanTouchBoth old a b count → new.inside ≡ None
    → Did old new (DoesCopy old.caller a b count result) → AfterCopy old new a b count result
after_copy {old} {new} {a} {b} {count} {result} can out d =
    after_both _ _ can out (λ own s. let some = run_some (λ l es k x. x.more) (λ l es e. e.0) s.visits in (some, s.may_use some))
    (copy_stops old a b count) (λ u d h. copy_alone old new a b count u can.second_known d h) (λ u d. tt) result d

-- Of a copy that makes no access, by a thread that may not use both arenas.
pub copy_refused : {old : View} {a b : Side} {count : ℕ} → CanTouchBoth old a b count → IsForOthers old.caller a b count
    → AfterCopy old old a b count (Err WrongThread)
copy_refused {old} can others = after_copy can can.outside (record { own = []; does = (others, refl); makes = Makes-none old })

-- Of a comparison.
pub after_compare : {old new : View} {a b : Side} {count : ℕ} {result : Result (Option ℕ) Refusal} → CanTouchBoth old a b count → new.inside ≡ None
    → Did old new (DoesCompare old.caller a b count result) → AfterCompare old new a b count result
after_compare {old} {new} {a} {b} {count} {result} can out d =
    after_both _ _ can out (λ own s. let some = run_some (λ l es k x. x.more) (λ l es e. e.0) s.visits in (some, s.may_use some))
    (compare_stops old a b count) (λ found d h. compare_alone old new a b count found d h)
    (λ found d. compare_within old.caller a b count found d.own d.does) result d
