-- What a caller learns of each call of a `Memory`, from what the call did.
use Rattle.std.proofs.Common.{◌≡◌, ℕ, true, false, Bool, List, [], ◌∷◌, refl, ap, sym, ◌∙◌, cond, Option, Some, None, Result, Ok, Err, IfOk, inl, inr}
use Rattle.std.specs.Prelude.{IfErr, filter, not}
use Rattle.fm_base.specs.declared.{arena_id.ArenaId.{ArenaId}, kind.Kind.{Kind}, refusal.Refusal.{Refusal, TheVariants.{NoSlot, PoolFull}}}
use Rattle.fm_base.specs.Arenas.{Ended, arena_of}
use Rattle.fm_base.specs.Calls.{Call, Reply, Open, Enter, Read, Write, SwapIf, Add, Allocate, Leave, Hold, Unhold, Shut, End, Lend, Back, Fine, Entry}
use Rattle.fm_base.specs.{Visits.{entries_of}, View.{View, Makes, IsSound, inside_after, inside_next, is_loan, but_loans}}
use Rattle.fm_base.specs.{Does.{DoesAct, DoesPatch, DidEnter, DidAct, DidPatch, DidOpen, DidAllocate, DidClose, patched}, Finds.{is_slot, is_page}}
use Rattle.fm_base.specs.Outcomes.{Nature, MayCome, FoundNoneFree, IsNew, Gives}
use Rattle.fm_base.{specs.Learnt.{CanVisit, AfterEnter, AfterAct, AfterPatch, AfterLeave, AfterOpen, AfterAllocate, AfterClose}, proofs.Faith.{Makes-sound}}
use Rattle.fm_base.proofs.{Outcomes.{Did-lasts, opened_new, allocated_gives, closed_ended}, Visiting.{tries_stay}}
use Rattle.fm_base.specs.declared.refusal.Refusal.TheVariants as refusal

-- ---- where the caller is

-- Entries that the caller is inside the same arena after.
along : (x y : View) (es : List Entry) (own : List Entry) → Makes x y own → own ≡ es → y.inside ≡ inside_after x.inside es
along x y es own m e = m.inside ∙ ap (inside_after x.inside) e

enter_inside : (x y : View) (id : ArenaId) (result : Result (Unit {0}) Refusal) → DidEnter x y id result → IfOk result (λ _. y.inside ≡ Some id)
enter_inside x y id (Ok u) d = along x y _ d.own d.makes d.does.1
enter_inside x y id (Err r) d = tt

enter_outside : (x y : View) (id : ArenaId) (result : Result (Unit {0}) Refusal) → x.inside ≡ None → DidEnter x y id result
    → IfErr result (λ _. y.inside ≡ None)
enter_outside x y id (Ok u) out d = tt
enter_outside x y id (Err refusal.WrongThread) out d = along x y [] d.own d.makes d.does.1 ∙ out
enter_outside x y id (Err refusal.Closed) out d = along x y _ d.own d.makes d.does.1 ∙ out
enter_outside x y id (Err r) out d = absurd d.does

act_on : (x y : View) (i : Option ArenaId) (call : ArenaId → Call) (reply : Reply) (own : List Entry) → x.inside ≡ i → Makes x y own
    → DoesAct i x.caller call reply own
    → (id : ArenaId) × (i ≡ Some id) × (y.inside ≡ inside_next (Some id) (call id) reply)
act_on x y None call reply own e m d = absurd d
act_on x y (Some id) call reply own e m d = (id, refl, along x y _ own m d ∙ ap (λ j. inside_next j (call id) reply) e)

act_inside : (x y : View) (call : ArenaId → Call) (reply : Reply) → ((id : ArenaId) → inside_next (Some id) (call id) reply ≡ Some id) → DidAct x y call reply
    → y.inside ≡ x.inside
act_inside x y call reply stays d = let a = act_on x y x.inside call reply d.own refl d.makes d.does in a.2 ∙ stays a.0 ∙ sym a.1

leave_outside : (x y : View) → DidAct x y Leave Fine → y.inside ≡ None
leave_outside x y d = let a = act_on x y x.inside Leave Fine d.own refl d.makes d.does in a.2

patch_on : (x y : View) (i : Option ArenaId) (word mask bits found : ℕ) (own : List Entry) → x.inside ≡ i → Makes x y own
    → DoesPatch i x.caller word mask bits found own → y.inside ≡ i
patch_on x y None word mask bits found own e m d = absurd d
patch_on x y (Some id) word mask bits found own e m d =
    along x y _ own m d.2 ∙ ap (λ j. inside_after j (entries_of x.caller d.0)) e ∙ tries_stay id word (patched mask bits) found x.caller d.0 d.1

-- A loan leaves the caller where it is.
loan_stays : (now : Option ArenaId) (call : Call) (reply : Reply) → is_loan call ≡ true → inside_next now call reply ≡ now
loan_stays now (Lend block id part) reply h = refl
loan_stays now (Back block) reply h = refl
loan_stays now (Open id) reply h = absurd (cc)
loan_stays now (Enter id) reply h = absurd (cc)
loan_stays now (Read id w) reply h = absurd (cc)
loan_stays now (Write id w v) reply h = absurd (cc)
loan_stays now (SwapIf id w a b) reply h = absurd (cc)
loan_stays now (Add id w n) reply h = absurd (cc)
loan_stays now (Allocate id size align) reply h = absurd (cc)
loan_stays now (Leave id) reply h = absurd (cc)
loan_stays now (Hold id) reply h = absurd (cc)
loan_stays now (Unhold id) reply h = absurd (cc)
loan_stays now (Shut id) reply h = absurd (cc)
loan_stays now (End id) reply h = absurd (cc)

-- So loans don't count.
pub inside_but_loans : (now : Option ArenaId) (es : List Entry) → inside_after now es ≡ inside_after now (but_loans es)
inside_but_loans now [] = refl
inside_but_loans now (e ∷ es) =
    let rest = filter (λ (x : Entry). not (is_loan x.call)) es in
    let P : Bool → Type 0 = λ b. is_loan e.call ≡ b → inside_after (inside_next now e.call e.reply) es ≡ inside_after now (cond (not b) (e ∷ rest) rest) in
    let go : (b : Bool) → P b = λ b. elim b as P [
      | true ↦ (λ h. ap (λ j. inside_after j es) (loan_stays now e.call e.reply h) ∙ inside_but_loans now es)
      | false ↦ (λ h. inside_but_loans (inside_next now e.call e.reply) es)
    ] in
    go (is_loan e.call) refl

-- Entries but for loans.
along_but : (x y : View) (es : List Entry) (own : List Entry) → Makes x y own → but_loans own ≡ es → y.inside ≡ inside_after x.inside es
along_but x y es own m e = m.inside ∙ inside_but_loans x.inside own ∙ ap (inside_after x.inside) e

open_outside : (x y : View) (kind : Kind) (result : Result ArenaId Refusal) → x.inside ≡ None → DidOpen x y kind result → y.inside ≡ None
open_outside x y kind (Ok id) out d = along_but x y _ d.own d.makes d.does.2 ∙ out
open_outside x y kind (Err refusal.NoSlot) out d = along_but x y [] d.own d.makes d.does ∙ out
open_outside x y kind (Err refusal.Memory) out d = along_but x y [] d.own d.makes d.does ∙ out
open_outside x y kind (Err r) out d = absurd d.does

allocate_outside : (x y : View) (id : ArenaId) (size align : ℕ) (result : Result ℕ Refusal) → x.inside ≡ None → DidAllocate x y id size align result
    → y.inside ≡ None
allocate_outside x y id size align (Ok place) out d = along_but x y _ d.own d.makes d.does.2
allocate_outside x y id size align (Err refusal.BadAlignment) out d = along_but x y [] d.own d.makes d.does.1 ∙ out
allocate_outside x y id size align (Err refusal.WrongThread) out d = along_but x y [] d.own d.makes d.does.2 ∙ out
allocate_outside x y id size align (Err refusal.Closed) out d = along_but x y _ d.own d.makes d.does.2 ∙ out
allocate_outside x y id size align (Err (refusal.NoRoom given)) out d = along_but x y _ d.own d.makes d.does.2
allocate_outside x y id size align (Err refusal.PoolFull) out d = along_but x y _ d.own d.makes d.does.2
allocate_outside x y id size align (Err refusal.Memory) out d = along_but x y [] d.own d.makes d.does.2 ∙ out
allocate_outside x y id size align (Err r) out d = absurd d.does

close_outside : (x y : View) (id : ArenaId) (result : Result (Unit {0}) Refusal) → x.inside ≡ None → DidClose x y id result → y.inside ≡ None
close_outside x y id (Ok u) out d = along_but x y _ d.own d.makes d.does.2 ∙ out
close_outside x y id (Err (refusal.CannotClose kind)) out d = along_but x y [] d.own d.makes d.does.2 ∙ out
close_outside x y id (Err refusal.WrongThread) out d = along_but x y [] d.own d.makes d.does.2 ∙ out
close_outside x y id (Err refusal.Closed) out d = along_but x y _ d.own d.makes d.does.2 ∙ out
close_outside x y id (Err (refusal.Held holds)) out d = along_but x y _ d.own d.makes d.does.3 ∙ out
close_outside x y id (Err r) out d = absurd d.does

-- ---- what the answer means

-- An arena that was opened is new.
pub open_is_new : (x y : View) (kind : Kind) (result : Result ArenaId Refusal) → DidOpen x y kind result → IfOk result (λ id. IsNew x y id)
open_is_new x y kind (Ok id) d = opened_new x y d.own x.caller id d.makes (rw d.does.2 (inl refl))
open_is_new x y kind (Err r) d = tt

-- Bytes that were allocated are given.
pub allocate_gives : (x y : View) (id : ArenaId) (size align : ℕ) (result : Result ℕ Refusal) → DidAllocate x y id size align result
    → IfOk result (λ place. Gives x y id size align place)
allocate_gives x y id size align (Ok place) d = allocated_gives x y d.own x.caller id size align place d.makes (rw d.does.2 (inr (inl refl)))
allocate_gives x y id size align (Err r) d = tt

-- An arena that was closed has ended.
pub close_ends : (x y : View) (id : ArenaId) (result : Result (Unit {0}) Refusal) → DidClose x y id result
    → IfOk result (λ _. (arena_of y.state id).life ≡ Ended)
close_ends x y id (Ok u) d = closed_ended x y d.own x.caller id Fine d.makes (rw d.does.2 (inr (inl refl)))
close_ends x y id (Err r) d = tt

-- ---- the records

pub after_enter : {x y : View} {id : ArenaId} {result : Result (Unit {0}) Refusal} → CanVisit x id → IsSound x → DidEnter x y id result
    → AfterEnter x y id result
after_enter {x} {y} {id} {result} at sound d = record {
  did = d;
  inside = enter_inside x y id result d;
  outside = enter_outside x y id result at.outside d;
  lasts = Did-lasts x y _ d;
  sound = Makes-sound x y d.own d.makes sound;
}

pub after_act : {x y : View} {call : ArenaId → Call} {reply : Reply} → ((id : ArenaId) → inside_next (Some id) (call id) reply ≡ Some id) → IsSound x
    → DidAct x y call reply → AfterAct x y call reply
after_act {x} {y} {call} {reply} stays sound d = record {
  did = d;
  inside = act_inside x y call reply stays d;
  lasts = Did-lasts x y _ d;
  sound = Makes-sound x y d.own d.makes sound;
}

pub after_patch : {x y : View} {word mask bits found : ℕ} → IsSound x → DidPatch x y word mask bits found → AfterPatch x y word mask bits found
after_patch {x} {y} {word} {mask} {bits} {found} sound d = record {
  did = d;
  inside = patch_on x y x.inside word mask bits found d.own refl d.makes d.does;
  lasts = Did-lasts x y _ d;
  sound = Makes-sound x y d.own d.makes sound;
}

pub after_leave : {x y : View} → IsSound x → DidAct x y Leave Fine → AfterLeave x y
after_leave {x} {y} sound d = record {
  did = d;
  outside = leave_outside x y d;
  lasts = Did-lasts x y _ d;
  sound = Makes-sound x y d.own d.makes sound;
}

pub after_open : {nature : Nature} {x y : View} {kind : Kind} {result : Result ArenaId Refusal} → x.inside ≡ None → IsSound x → MayCome nature result
    → (result ≡ Err NoSlot → FoundNoneFree is_slot x.told y.told) → DidOpen x y kind result → AfterOpen nature x y kind result
after_open {nature} {x} {y} {kind} {result} out sound comes found d = record {
  did = d;
  is_new = open_is_new x y kind result d;
  outside = open_outside x y kind result out d;
  lasts = Did-lasts x y _ d;
  comes = comes;
  no_slot = found;
  sound = Makes-sound x y d.own d.makes sound;
}

pub after_allocate : {nature : Nature} {x y : View} {id : ArenaId} {size align : ℕ} {result : Result ℕ Refusal} → CanVisit x id → IsSound x
    → MayCome nature result
    → (result ≡ Err PoolFull → FoundNoneFree is_page x.told y.told) → DidAllocate x y id size align result → AfterAllocate nature x y id size align result
after_allocate {nature} {x} {y} {id} {size} {align} {result} at sound comes found d = record {
  did = d;
  gives = allocate_gives x y id size align result d;
  outside = allocate_outside x y id size align result at.outside d;
  lasts = Did-lasts x y _ d;
  comes = comes;
  pool_full = found;
  sound = Makes-sound x y d.own d.makes sound;
}

pub after_close : {x y : View} {id : ArenaId} {result : Result (Unit {0}) Refusal} → CanVisit x id → IsSound x → DidClose x y id result
    → AfterClose x y id result
after_close {x} {y} {id} {result} at sound d = record {
  did = d;
  ended = close_ends x y id result d;
  outside = close_outside x y id result at.outside d;
  lasts = Did-lasts x y _ d;
  sound = Makes-sound x y d.own d.makes sound;
}
