-- Where a line of a pass by itself is refused for want of pages.
use Rattle.std.proofs.Common.{◌≡◌, ◌≢◌, ℕ, Bool, true, false, cond, List, [], ◌∷◌, ◌++◌, filter, refl, ap, sym, ◌∙◌, subst, inl, inr, Option, Some, None, Result, Ok, Err}
use Rattle.std.specs.Prelude.{not, IfSome, ⊤}
use Rattle.fm_words.specs.declared.shape.Shape.{Shape}
use Rattle.fm_base.specs.declared.{arena_id.ArenaId.{ArenaId}, caller.Caller.{Caller}, refusal.Refusal.{Refusal}}
use Rattle.fm_base.specs.{Calls.{Entry, Enter, Leave, Allocate, Given, NoRoom, Fine, entry_of}, Does.{DoesAllocate}, Finds.{Rest}, View.{but_loans, is_loan}}
use Rattle.fm_base.specs.declared.refusal.Refusal.TheVariants as refusal
use Rattle.fm_base.specs.Calls as machine
use Rattle.fm_base_lists.{specs.Among.{IsAmong}, proofs.Among.{among_kept}}
use Rattle.fm_rule_facts.specs.{Scarcity.{IsScarce}, Views.{View}}
use Rattle.fm_gate.specs.Pages.{FullExactly}
use Rattle.fm_arena.specs.{Allocating.{AllocatesExactly}, Opening.{HasNoSlot}}
use Rattle.fm_segment.specs.Region.{region_of}
use Rattle.fm_script_text.specs.declared.command.Command.{Command, TheVariants.{Alloc}}
use Rattle.fm_script_lines.specs.declared.{outcome.LineOutcome.{LineOutcome}, reply.Reply.{Reply, TheVariants.{Place, Refused, Skipped}}}
use Rattle.fm_script_lines.specs.{declared.standing.Standing.{Standing, TheVariants.{Segment}}, Calls.{Allocates, CallDoes, On, Skips, coming}}
use Rattle.fm_script_lines.specs.Outcomes.{outcome}
use Rattle.fm_script_lines.specs.Pages.{AllocatesRightly, HasEntered, IfAllocates, IsFullRightly, IsScarceBehind, PagesTold, PagesToldBy, answered}
use Rattle.fm_script_lines.{specs.{Played.{Done}, Runs.{Went}, Standings.{arena_of}}, proofs.Opening.{no_slot_still}}

-- ---- one line

-- A call's answer is what the line tells.
pub pages_told : {p q : View} (o : Option ArenaId) (id : ArenaId) (size align : ℕ) (result : Result ℕ Refusal) (reply : Reply) → o ≡ Some id
    → reply ≡ answered result → AllocatesExactly p q id size align result → IfSome o (λ x. PagesTold p q x size align reply)
pages_told {p = p} {q = q} o id size align result reply some is exact =
    subst (λ (y : Option ArenaId). IfSome y (λ x. PagesTold p q x size align reply)) (sym some) (record { result = result; is = is; exact = exact })

-- A line on no arena tells nothing.
pub pages_untold : (p q : View) (o : Option ArenaId) (size align : ℕ) (reply : Reply) → o ≡ None → IfSome o (λ x. PagesTold p q x size align reply)
pages_untold p q o size align reply none =
    subst (λ (y : Option ArenaId). IfSome y (λ x. PagesTold p q x size align reply)) (sym none) tt

-- ---- who was let in

-- the answer comes of an allocation that was let in
abbrev IsLetIn : Result ℕ Refusal → Type 0
IsLetIn (Ok place) = ⊤
IsLetIn (Err refusal.PoolFull) = ⊤
IsLetIn (Err (refusal.NoRoom given)) = ⊤
IsLetIn (Err r) = ⊥

module _ (c d : Caller) (id e : ArenaId) where
  enters : (es : List Entry) → IsAmong (entry_of d (Enter e) Fine) (entry_of c (Enter id) Fine ∷ es) → ¬ (IsAmong (entry_of d (Enter e) Fine) es) → e ≡ id
  enters es (inl i) none = let call : Enter e ≡ Enter id = ap (λ (x : Entry). x.call) i in cc
  enters es (inr i) none = absurd (none i)

  not_left : ¬ (IsAmong (entry_of d (Enter e) Fine) (entry_of c (Leave id) Fine ∷ []))
  not_left (inl i) = let call : Enter e ≡ Leave id = ap (λ (x : Entry). x.call) i in absurd (cc)
  not_left (inr i) = i

  not_given : (size align : ℕ) (r : machine.Reply)
      → ¬ (IsAmong (entry_of d (Enter e) Fine) (entry_of c (Allocate id size align) r ∷ entry_of c (Leave id) Fine ∷ []))
  not_given size align r (inl i) = let call : Enter e ≡ Allocate id size align = ap (λ (x : Entry). x.call) i in absurd (cc)
  not_given size align r (inr i) = not_left i

  not_refused : ¬ (IsAmong (entry_of d (Enter e) Fine) (entry_of c (Enter id) machine.Closed ∷ []))
  not_refused (inl i) = let reply : Fine ≡ machine.Closed = ap (λ (x : Entry). x.reply) i in absurd (cc)
  not_refused (inr i) = i

  -- Whom an allocation entered is its arena, and then it was let in.
  let_in : (size align : ℕ) (result : Result ℕ Refusal) (own : List Entry) → DoesAllocate c id size align result own
      → IsAmong (entry_of d (Enter e) Fine) own → (e ≡ id) × IsLetIn result
  let_in size align (Ok place) own does i = (
    enters (entry_of c (Allocate id size align) (Given place) ∷ entry_of c (Leave id) Fine ∷ [])
        (subst (λ (es : List Entry). IsAmong (entry_of d (Enter e) Fine) es) does.2 i) (not_given size align (Given place)),
    tt,
  )
  let_in size align (Err refusal.BadAlignment) own does i = absurd (subst (λ (es : List Entry). IsAmong (entry_of d (Enter e) Fine) es) does.1 i)
  let_in size align (Err refusal.WrongThread) own does i = absurd (subst (λ (es : List Entry). IsAmong (entry_of d (Enter e) Fine) es) does.2 i)
  let_in size align (Err refusal.Closed) own does i =
      absurd (not_refused (subst (λ (es : List Entry). IsAmong (entry_of d (Enter e) Fine) es) does.2 i))
  let_in size align (Err (refusal.NoRoom given)) own does i = (
    enters (entry_of c (Allocate id size align) (NoRoom given) ∷ entry_of c (Leave id) Fine ∷ [])
        (subst (λ (es : List Entry). IsAmong (entry_of d (Enter e) Fine) es) does.2 i) (not_given size align (NoRoom given)),
    tt,
  )
  let_in size align (Err refusal.PoolFull) own does i =
      (enters (entry_of c (Leave id) Fine ∷ []) (subst (λ (es : List Entry). IsAmong (entry_of d (Enter e) Fine) es) does.2 i) not_left, tt)
  let_in size align (Err refusal.Memory) own does i = absurd (subst (λ (es : List Entry). IsAmong (entry_of d (Enter e) Fine) es) does.2 i)
  let_in size align (Err r) own does i = absurd does

-- ---- the answer

-- An answer is told by one reply alone.
pub answered_once : (x y : Result ℕ Refusal) → answered x ≡ answered y → x ≡ y
answered_once (Ok a) (Ok b) e = cc
answered_once (Ok a) (Err s) e = absurd (cc)
answered_once (Err r) (Ok b) e = absurd (cc)
answered_once (Err r) (Err s) e = cc

-- What a line comes to is what its call answered.
said_so : (id : ArenaId) (size : ℕ) (reply : Reply) (made : Standing) (result : Result ℕ Refusal)
    → outcome reply made ≡ coming (λ place. outcome (Place place) (Segment (region_of id place size))) result → reply ≡ answered result
said_so id size reply made (Ok place) e = ap (λ (o : LineOutcome). o.reply) e
said_so id size reply made (Err r) e = ap (λ (o : LineOutcome). o.reply) e

-- What passes the test stays among those that do.
pub among_passes : {A : Type 0} (p : A → Bool) (x : A) (xs : List A) → p x ≡ true → IsAmong x xs → IsAmong x (filter p xs)
among_passes p x [] is h = absurd h
among_passes {A} p x (y ∷ ys) is (inl e) =
    subst (λ (b : Bool). IsAmong x (cond b (y ∷ filter p ys) (filter p ys))) (sym (ap p (sym e) ∙ is)) (inl e)
among_passes {A} p x (y ∷ ys) is (inr h) =
    let rest = among_passes p x ys is h in
    let P : Bool → Type 0 = λ b. IsAmong x (cond b (y ∷ filter p ys) (filter p ys)) in
    let go : (b : Bool) → P b = λ b. elim b as P [ true ↦ inr rest | false ↦ rest ] in
    go (p y)

-- ---- a pass by itself

module _ {p q : View} {own : List Entry} (d : Done) (w : Went p q own) (whole : p.whole ≡ true) (closed : p.closes ≡ []) (none : HasNoSlot p) where
  seen_is : q.seen ≡ p.seen ++ own
  seen_is = w.seen ∙ ap (λ (es : List Entry). p.seen ++ es) (w.alone whole)

  module _ (id : ArenaId) (size align : ℕ) where
    scarce_behind : IsScarce q id size align → IsScarceBehind p.shape (p.seen ++ own) id size align
    scarce_behind s =
        subst (λ (z : Shape). IsScarceBehind z (p.seen ++ own) id size align) w.same_shape
        (subst (λ (es : List Entry). IsScarceBehind q.shape es id size align) seen_is (record { fits = s.fits; few = s.few }))

    scarce_before : IsScarceBehind p.shape (p.seen ++ own) id size align → IsScarce q id size align
    scarce_before s =
        let t : IsScarceBehind q.shape q.seen id size align =
        subst (λ (es : List Entry). IsScarceBehind q.shape es id size align) (sym seen_is)
        (subst (λ (z : Shape). IsScarceBehind z (p.seen ++ own) id size align) (sym w.same_shape) s) in
        record { fits = t.fits; few = t.few }

    not_scarce : (result : Result ℕ Refusal) → answered result ≢ Refused refusal.PoolFull → IsLetIn result → FullExactly q id size align result
        → ¬ (IsScarce q id size align)
    not_scarce (Ok place) other let_in exact = exact
    not_scarce (Err refusal.PoolFull) other let_in exact = absurd (other refl)
    not_scarce (Err (refusal.NoRoom given)) other let_in exact = exact
    not_scarce (Err e) other let_in exact = absurd let_in

    scarce_if : (result : Result ℕ Refusal) → result ≡ Err refusal.PoolFull → FullExactly q id size align result → IsScarce q id size align
    scarce_if result is exact = subst (λ (x : Result ℕ Refusal). FullExactly q id size align x) is exact

    entered_if : (result : Result ℕ Refusal) → result ≡ Err refusal.PoolFull → DoesAllocate q.caller id size align result (but_loans d.run)
        → HasEntered id d.run
    entered_if result is does =
        let did : DoesAllocate q.caller id size align (Err refusal.PoolFull) (but_loans d.run) =
        subst (λ (x : Result ℕ Refusal). DoesAllocate q.caller id size align x (but_loans d.run)) is does in
        record {
          caller = q.caller;
          among = among_kept (λ e. not (is_loan e.call)) (entry_of q.caller (Enter id) Fine) d.run
              (subst (λ (es : List Entry). IsAmong (entry_of q.caller (Enter id) Fine) es) (sym did.2) (inl refl));
        }

    -- What it learnt, in the words of entries.
    pub full_rightly : {r : View} (result : Result ℕ Refusal) → d.reply ≡ answered result → DoesAllocate q.caller id size align result (but_loans d.run)
        → AllocatesExactly q r id size align result → IsFullRightly p.shape (p.seen ++ own) size align d
    full_rightly {r = r} result is does a =
        let exact : FullExactly q id size align result =
        a.exact (ap (λ (x : Rest). x.whole) w.rest ∙ whole) (ap (λ (x : Rest). x.closes) w.rest ∙ closed) (no_slot_still w none) in
        record {
          full = λ lacks.
              let full : result ≡ Err refusal.PoolFull = answered_once result (Err refusal.PoolFull) (sym is ∙ lacks) in
              (id, entered_if result full does, scarce_behind (scarce_if result full exact));
          enough = λ other e entered scarce.
              let here = let_in q.caller entered.caller id e size align result (but_loans d.run) does
              (among_passes (λ x. not (is_loan x.call)) (entry_of entered.caller (Enter e) Fine) d.run refl entered.among) in
              not_scarce result (λ x. other (is ∙ x)) here.1 exact
              (scarce_before (subst (λ (a : ArenaId). IsScarceBehind p.shape (p.seen ++ own) a size align) here.0 scarce));
        }

  -- A line on no arena is skipped.
  skipped_rightly : (size align : ℕ) (made : Standing) → Skips (outcome d.reply made) d.run → IsFullRightly p.shape (p.seen ++ own) size align d
  skipped_rightly size align made s =
      let said : d.reply ≡ Skipped = ap (λ (o : LineOutcome). o.reply) s.0 in
      record {
        full = λ lacks. absurd (cc);
        enough = λ other e entered. absurd
            (subst (λ (es : List Entry). IsAmong (entry_of entered.caller (Enter e) Fine) es) s.1 entered.among);
      }

  on_arena : (r : View) (o : Option ArenaId) (size align : ℕ) → On o (Allocates q.caller size align) (outcome d.reply d.made) d.run
      → IfSome o (λ id. PagesTold q r id size align d.reply) → IsFullRightly p.shape (p.seen ++ own) size align d
  on_arena r None size align does told = skipped_rightly size align d.made does
  on_arena r (Some id) size align does told =
      let is : does.0 ≡ told.result = answered_once does.0 told.result (sym (said_so id size d.reply d.made does.0 does.2) ∙ told.is) in
      full_rightly id size align told.result told.is
      (subst (λ (x : Result ℕ Refusal). DoesAllocate q.caller id size align x (but_loans d.run)) is does.1.1) told.exact

  -- A line of a pass by itself.
  pub allocates_rightly : (r : View) (stands : List ℕ → Standing) (command : Command) → d.line.command ≡ command
      → CallDoes q.caller stands command (outcome d.reply d.made) d.run → PagesToldBy stands q r command d.reply
      → AllocatesRightly p.shape (p.seen ++ own) d
  allocates_rightly r stands command is does told =
      subst (λ (c : Command). IfAllocates c (λ size align. IsFullRightly p.shape (p.seen ++ own) size align d)) (sym is) (go command does told)
    where
      go : (c : Command) → CallDoes q.caller stands c (outcome d.reply d.made) d.run → PagesToldBy stands q r c d.reply
          → IfAllocates c (λ size align. IsFullRightly p.shape (p.seen ++ own) size align d)
      go (Alloc arena name size align) does told = on_arena r (arena_of (stands arena)) size align does told
      go c does told = tt
