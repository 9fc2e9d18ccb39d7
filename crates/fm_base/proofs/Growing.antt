-- Arenas stay, what is given only grows, and what has ended is over.
use Rattle.std.proofs.Common.{◌≡◌, ◌≢◌, ℕ, ◌+◌, ◌-◌, ◌*◌, ◌/◌, ◌<◌, ◌≤◌, Bool, true, false, List, [], ◌∷◌, refl, ap, sym, ◌∙◌, arith, if◌then◌else◌, filter, not, All}
use Rattle.std.{specs.Prelude.{⊤, count_ones, nat_le}, proofs.lemmas.{Nat.{ones_le_self}, Bool.Decides.{nat_tests}, List.Elements.{All-nil, All-cons}}}
use Rattle.fm_base.specs.declared.{caller.Caller.{Caller}, arena_id.ArenaId.{ArenaId}}
use Rattle.fm_base.specs.Arenas.{State, Arena, Life, Alive, Closing, Ended, arena_of, has_arena, changed, are_one}
use Rattle.fm_base.specs.Calls.{Call, Open, Enter, Write, SwapIf, Add, Allocate, Leave, Hold, Unhold, Shut, End, Reply, Fine, Closed, Found, Given, NoRoom, Entry, entry_of}
use Rattle.fm_base.specs.Machine.{MayCall, IsPower, reply_to, enter_reply, hold_reply, shut_reply, allocate_reply, rounded_up, Change, Opens, Alters, Rests, made, change_of, after, closing, ended}
use Rattle.fm_base.specs.{Histories.{IsLegal, state_after}, View.{View, Makes}, Lasting.{StaysForEver, AsksForLife, ShutsForGood, EndsForGood}}
use Rattle.fm_base.proofs.Lookup.{Relates, changed_lookup, changed_has, arena_of-append, lookup_changed, arena_of-none, made_lookup, made_has}
use Rattle.fm_base.proofs.Making.{IsLegal-split, state_after-append}

-- ---- Allocate

-- rounding up goes up
pub le-rounded_up : (n align : ℕ) → 0 < align → n ≤ rounded_up n align
le-rounded_up n align h = let e : n + (align - 1) < (n + (align - 1)) / align * align + align = grind arith in omega arith

-- no power of two is 0
pub power_pos : (n : ℕ) → IsPower n → 0 < n
power_pos n h = let e : count_ones n ≡ 1 = grind (arith, nat_tests) in omega (arith, ones_le_self n)

-- what an Allocate gave is the place rounded up, within the limit
pub record IsGiven (limit given size align place : ℕ) : Type 0 where
  pub rounded : place ≡ rounded_up given align
  pub within : place + size ≤ limit

pub given_is : (limit given size align place : ℕ) → Given place ≡ allocate_reply limit given size align → IsGiven limit given size align place
given_is limit given size align place h =
    let P : Bool → Type 0 = λ b. nat_le (rounded_up given align + size) limit ≡ b → Given place ≡ (if b then Given (rounded_up given align) else NoRoom given)
    → IsGiven limit given size align place in
    let go : (b : Bool) → P b = λ b. elim b as P [
      | true ↦ (λ e r. let p : place ≡ rounded_up given align = cc in
          record { rounded = p; within = (let l : rounded_up given align + size ≤ limit = grind (arith, nat_tests) in omega arith) })
      | false ↦ (λ e r. absurd (cc))
    ] in
    go (nat_le (rounded_up given align + size) limit) refl h

-- ---- one step

-- the arena has ended, and nobody is under way in it
pub record IsOver (a : Arena) : Type 0 where
  pub life : a.life ≡ Ended
  pub empty : a.under_way ≡ []

-- an arena before and after a step
pub record Steps (a b : Arena) : Type 0 where
  pub given : a.given ≤ b.given
  pub over : IsOver a → IsOver b
  pub shut : a.life ≢ Alive → b.life ≢ Alive
  pub ended : a.life ≡ Ended → b.life ≡ Ended

-- a life is one of three
not_closing : Closing ≢ Alive
not_closing e = cc

not_ended : Ended ≢ Alive
not_ended e = cc

Steps-words : (a : Arena) (words : List ℕ) → Steps a (record a { words = words })
Steps-words a words = record { given = omega arith; over = λ o. record { life = o.life; empty = o.empty }; shut = λ h. h; ended = λ e. e }

Steps-holds : (a : Arena) (holds : ℕ) → Steps a (record a { holds = holds })
Steps-holds a holds = record { given = omega arith; over = λ o. record { life = o.life; empty = o.empty }; shut = λ h. h; ended = λ e. e }

abbrev StepsBy : State → Change → Type 0
StepsBy s (Opens o) = ⊤
StepsBy s (Alters id f named) = Steps (arena_of s id) (f (arena_of s id))
StepsBy s Rests = ⊤

module _ (limit : ℕ) (s : State) (c : Caller) where
  -- what a legal call does to the arena that it alters
  steps_by : (call : Call) (reply : Reply) → MayCall s c call → reply ≡ reply_to limit s call
      → StepsBy s (change_of limit c call reply)
  steps_by (Enter id) Fine may is =
      record {
        given = omega arith;
        over = λ o. let e : Fine ≡ Closed = is ∙ ap enter_reply o.life in absurd (cc);
        shut = λ h. h;
        ended = λ e. e;
      }
  steps_by (Write id word value) reply may is = Steps-words (arena_of s id) _
  steps_by (SwapIf id word old new) (Found found) may is = Steps-words (arena_of s id) _
  steps_by (Add id word n) (Found found) may is = Steps-words (arena_of s id) _
  steps_by (Allocate id size align) (Given place) may is =
      let g = given_is limit (arena_of s id).given size align place is in
      let up = le-rounded_up (arena_of s id).given align (power_pos align may.1) in
      record { given = (let p = g.rounded in omega arith); over = λ o. record { life = o.life; empty = o.empty }; shut = λ h. h; ended = λ e. e }
  steps_by (Leave id) reply may is =
      record {
        given = omega arith;
        over = λ o. record { life = o.life; empty = ap (λ (xs : List Caller). filter (λ x. not (are_one x c)) xs) o.empty };
        shut = λ h. h;
        ended = λ e. e;
      }
  steps_by (Hold id) Fine may is = Steps-holds (arena_of s id) _
  steps_by (Unhold id) reply may is = Steps-holds (arena_of s id) _
  steps_by (Shut id) Fine may is =
      let closed : (arena_of s id).life ≡ Ended → Fine ≡ Closed = λ e. is ∙ ap (λ l. shut_reply l (arena_of s id).holds) e in
      record {
        given = omega arith;
        over = λ o. let e = closed o.life in absurd (cc);
        shut = λ h. not_closing;
        ended = λ l. let e = closed l in absurd (cc);
      }
  steps_by (End id) reply may is = record { given = omega arith; over = λ o. record { life = refl; empty = o.empty }; shut = λ h. not_ended; ended = λ e. refl }
  steps_by call reply may is = tt

GivesMore : Arena → Arena → Type 0
GivesMore a b = a.given ≤ b.given

gives_more : (s : State) (h : Change) → StepsBy s h → Relates GivesMore s h
unfolding GivesMore
gives_more s (Opens o) t = omega arith
gives_more s (Alters id f named) t = t.given
gives_more s Rests t = tt

given_more : (s : State) (h : Change) → StepsBy s h → (other : ArenaId) → (arena_of s other).given ≤ (arena_of (made h s) other).given
unfolding GivesMore
given_more s h t other = made_lookup GivesMore (λ a. omega arith) s h (gives_more s h t) other

StaysOver : Arena → Arena → Type 0
StaysOver a b = IsOver a → IsOver b

over_still : (s : State) (h : Change) → StepsBy s h → (other : ArenaId) → has_arena s other ≡ true → IsOver (arena_of s other)
    → IsOver (arena_of (made h s) other)
unfolding StaysOver
over_still s (Opens o) t other there w = rw (arena_of-append s (o ∷ []) other there) w
over_still s (Alters id f named) t other there w = changed_lookup StaysOver f named (λ a o. o) s id t.over other w
over_still s Rests t other there w = w

StaysShut : Arena → Arena → Type 0
StaysShut a b = a.life ≢ Alive → b.life ≢ Alive

shut_still : (s : State) (h : Change) → StepsBy s h → (other : ArenaId) → has_arena s other ≡ true → (arena_of s other).life ≢ Alive
    → (arena_of (made h s) other).life ≢ Alive
unfolding StaysShut
shut_still s (Opens o) t other there w = rw (arena_of-append s (o ∷ []) other there) w
shut_still s (Alters id f named) t other there w = changed_lookup StaysShut f named (λ a l. l) s id t.shut other w
shut_still s Rests t other there w = w

StaysEnded : Arena → Arena → Type 0
StaysEnded a b = a.life ≡ Ended → b.life ≡ Ended

ended_still : (s : State) (h : Change) → StepsBy s h → (other : ArenaId) → has_arena s other ≡ true → (arena_of s other).life ≡ Ended
    → (arena_of (made h s) other).life ≡ Ended
unfolding StaysEnded
ended_still s (Opens o) t other there w = rw (arena_of-append s (o ∷ []) other there) w
ended_still s (Alters id f named) t other there w = changed_lookup StaysEnded f named (λ a l. l) s id t.ended other w
ended_still s Rests t other there w = w

-- ---- a history

-- from one state to a later one: arenas stay, what is given grows, what was shut stays so, what has ended is over
pub record Grows (s t : State) : Type 0 where
  pub has : (id : ArenaId) → has_arena s id ≡ true → has_arena t id ≡ true
  pub given : (id : ArenaId) → (arena_of s id).given ≤ (arena_of t id).given
  pub over : (id : ArenaId) → has_arena s id ≡ true → IsOver (arena_of s id) → IsOver (arena_of t id)
  pub shut : (id : ArenaId) → has_arena s id ≡ true → (arena_of s id).life ≢ Alive → (arena_of t id).life ≢ Alive
  pub ended : (id : ArenaId) → has_arena s id ≡ true → (arena_of s id).life ≡ Ended → (arena_of t id).life ≡ Ended

Grows-same : (s : State) → Grows s s
Grows-same s = record { has = λ id h. h; given = λ id. omega arith; over = λ id h o. o; shut = λ id h l. l; ended = λ id h l. l }

Grows-trans : (s t u : State) → Grows s t → Grows t u → Grows s u
Grows-trans s t u p q = record {
  has = λ id h. q.has id (p.has id h);
  given = λ id. let a = p.given id in let b = q.given id in omega arith;
  over = λ id h o. q.over id (p.has id h) (p.over id h o);
  shut = λ id h l. q.shut id (p.has id h) (p.shut id h l);
  ended = λ id h l. q.ended id (p.has id h) (p.ended id h l);
}

-- a legal entry only adds
pub Grows-after : (limit : ℕ) (s : State) (e : Entry) → MayCall s e.caller e.call → e.reply ≡ reply_to limit s e.call → Grows s (after limit s e)
Grows-after limit s e may is =
    let h = change_of limit e.caller e.call e.reply in
    let t = steps_by limit s e.caller e.call e.reply may is in
    record {
      has = λ id there. made_has s h id there;
      given = λ id. given_more s h t id;
      over = λ id there o. over_still s h t id there o;
      shut = λ id there l. shut_still s h t id there l;
      ended = λ id there l. ended_still s h t id there l;
    }

-- a legal history only adds
pub Grows-state_after : (limit : ℕ) (s : State) (es : List Entry) → IsLegal limit s es → Grows s (state_after limit s es)
Grows-state_after limit s [] h = Grows-same s
Grows-state_after limit s (e ∷ es) h =
    let next = after limit s e in
    Grows-trans s next (state_after limit next es) (Grows-after limit s e h.0 h.1) (Grows-state_after limit next es h.2)

-- a call of a memory only adds
pub Makes-grows : (x y : View) (es : List Entry) → Makes x y es → Grows x.state y.state
Makes-grows x y es m = rw m.reached (Grows-state_after x.limit x.state m.all m.legal)

-- ---- what stays for ever

-- an arena that is there isn't opened again
never_again : (limit : ℕ) (s : State) (es : List Entry) (id : ArenaId) → IsLegal limit s es → has_arena s id ≡ true → All (λ e. e.call ≢ Open id) es
never_again limit s [] id l h = All-nil (λ e. e.call ≢ Open id)
never_again limit s (e ∷ es) id l h =
    let first : e.call ≢ Open id = λ is. let may : MayCall s e.caller (Open id) = rw is at l.0 in let no = may.0 in absurd (cc) in
    All-cons (λ e. e.call ≢ Open id) e es first (never_again limit (after limit s e) es id l.2 ((Grows-after limit s e l.0 l.1).has id h))

pub stays : StaysForEver
stays limit before later id l h =
    let parts = IsLegal-split limit [] before later l in (
      rw (state_after-append limit [] before later) ((Grows-state_after limit (state_after limit [] before) later parts.1).has id h),
      never_again limit (state_after limit [] before) later id parts.1 h,
    )

-- nobody comes into an arena that is over
shut_out : (limit : ℕ) (s : State) (es : List Entry) (id : ArenaId) → IsLegal limit s es → has_arena s id ≡ true → IsOver (arena_of s id)
    → All (λ e. e.call ≡ Enter id → e.reply ≡ Closed) es
shut_out limit s [] id l h o = All-nil (λ e. e.call ≡ Enter id → e.reply ≡ Closed)
shut_out limit s (e ∷ es) id l h o =
    let first : e.call ≡ Enter id → e.reply ≡ Closed = λ is. l.1 ∙ (ap (λ c. reply_to limit s c) is ∙ ap enter_reply o.life) in
    let g = Grows-after limit s e l.0 l.1 in
    All-cons (λ e. e.call ≡ Enter id → e.reply ≡ Closed) e es first (shut_out limit (after limit s e) es id l.2 (g.has id h) (g.over id h o))

-- what asks an arena for its life that isn't alive is refused
refuses_enter : (l : Life) → l ≢ Alive → enter_reply l ≡ Closed
refuses_enter Alive h = absurd (h refl)
refuses_enter Closing h = refl
refuses_enter Ended h = refl

refuses_hold : (l : Life) (n : ℕ) → l ≢ Alive → hold_reply l n ≡ Closed
refuses_hold Alive n h = absurd (h refl)
refuses_hold Closing n h = refl
refuses_hold Ended n h = refl

refuses_shut : (l : Life) (n : ℕ) → l ≢ Alive → shut_reply l n ≡ Closed
refuses_shut Alive n h = absurd (h refl)
refuses_shut Closing n h = refl
refuses_shut Ended n h = refl

refuses : (limit : ℕ) (s : State) (id : ArenaId) (call : Call) → (arena_of s id).life ≢ Alive → AsksForLife id call → reply_to limit s call ≡ Closed
refuses limit s id (Enter a) h e = ap (λ x. enter_reply (arena_of s x).life) e ∙ refuses_enter (arena_of s id).life h
refuses limit s id (Hold a) h e =
    ap (λ x. hold_reply (arena_of s x).life (arena_of s x).holds) e ∙ refuses_hold (arena_of s id).life (arena_of s id).holds h
refuses limit s id (Shut a) h e =
    ap (λ x. shut_reply (arena_of s x).life (arena_of s x).holds) e ∙ refuses_shut (arena_of s id).life (arena_of s id).holds h
refuses limit s id call h e = absurd e

-- nobody comes into an arena that was shut, holds it or shuts it again
pub stays_shut : (limit : ℕ) (s : State) (es : List Entry) (id : ArenaId) → IsLegal limit s es → has_arena s id ≡ true → (arena_of s id).life ≢ Alive
    → All (λ e. AsksForLife id e.call → e.reply ≡ Closed) es
stays_shut limit s [] id l h shut = All-nil (λ e. AsksForLife id e.call → e.reply ≡ Closed)
stays_shut limit s (e ∷ es) id l h shut =
    let first : AsksForLife id e.call → e.reply ≡ Closed = λ asks. l.1 ∙ refuses limit s id e.call shut asks in
    let g = Grows-after limit s e l.0 l.1 in
    All-cons (λ e. AsksForLife id e.call → e.reply ≡ Closed) e es first (stays_shut limit (after limit s e) es id l.2 (g.has id h) (g.shut id h shut))

pub shuts : ShutsForGood
shuts limit before later c id l =
    let s = state_after limit [] before in
    let parts = IsLegal-split limit [] before (entry_of c (Shut id) Fine ∷ later) l in
    let there : has_arena s id ≡ true = parts.1.0.0 in
    let look = lookup_changed s id closing (λ a. refl) there in
    stays_shut limit (changed s id closing) later id parts.1.2 (changed_has closing (λ a. refl) s id id ∙ there) (rw look not_closing)

-- an arena whose life isn't over is there
pub there_by_life : (s : State) (id : ArenaId) → (arena_of s id).life ≢ Ended → has_arena s id ≡ true
there_by_life s id h =
    let P : Bool → Type 0 = λ b. has_arena s id ≡ b → has_arena s id ≡ true in
    let go : (b : Bool) → P b = λ b. elim b as P [ true ↦ (λ e. e) | false ↦ (λ e. absurd (h (ap (λ (a : Arena). a.life) (arena_of-none s id e)))) ] in
    go (has_arena s id) refl

-- after End the arena is there, and over
pub over_at_end : (s : State) (id : ArenaId) → (arena_of s id).life ≡ Closing → (arena_of s id).under_way ≡ []
    → (has_arena (changed s id ended) id ≡ true) × IsOver (arena_of (changed s id ended) id)
over_at_end s id l u =
    let h = there_by_life s id (λ e. let c : Closing ≡ Ended = sym l ∙ e in absurd (cc)) in
    let look = lookup_changed s id ended (λ a. refl) h in
    (changed_has ended (λ a. refl) s id id ∙ h, rw look (record { life = refl; empty = u }))

pub ends : EndsForGood
ends limit before later c id reply l =
    let s = state_after limit [] before in
    let parts = IsLegal-split limit [] before (entry_of c (End id) reply ∷ later) l in
    let o = over_at_end s id parts.1.0.0 parts.1.0.1 in (
      rw (state_after-append limit [] before (entry_of c (End id) reply ∷ [])) o.1.empty,
      shut_out limit (changed s id ended) later id parts.1.2 o.0 o.1,
    )
