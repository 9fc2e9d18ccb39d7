-- What stands after calls that were answered so.
use Rattle.std.proofs.Common.{◌≡◌, ℕ, ◌+◌, Bool, true, false, List, [], ◌∷◌, ◌++◌, refl, ap, sym, ◌∙◌, subst, arith, inl, inr}
use Rattle.fm_base_lists.{specs.Among.{IsAmong}, proofs.Among.{among_kept}}
use Rattle.fm_base.specs.{declared.{caller.Caller.{Caller}, arena_id.ArenaId.{ArenaId}}, Arenas.{State, Arena, Ended, has_arena, arena_of, changed}}
use Rattle.fm_base.specs.{Calls.{Open, End, Allocate, Given, Reply, Fine, Entry, entry_of}, Machine.{MayCall, reply_to, after, opened, given_up_to}}
use Rattle.fm_base.specs.{Histories.{IsLegal, state_after, made_by}, View.{View, Makes, Did, but_loans}, Outcomes.{IsNew, Gives, Lasts}}
use Rattle.fm_base.proofs.{Lookup.{has_arena-opened, lookup_changed}, Making.{IsLegal-split, state_after-append}}
use Rattle.fm_base.proofs.Growing.{Makes-grows, Grows, Grows-state_after, given_is, le-rounded_up, power_pos, over_at_end}
use Rattle.fm_base.proofs.Placing.{there_by_way, rounded_even}

-- a history with this entry of the caller somewhere in it
pub record Parts (all : List Entry) (e : Entry) : Type 0 where
  pub before : List Entry
  pub later : List Entry
  pub is : all ≡ before ++ e ∷ later

among_more : (all : List Entry) (e first : Entry) → Parts all e → Parts (first ∷ all) e
among_more all e first a = record { before = first ∷ a.before; later = a.later; is = ap (λ (es : List Entry). first ∷ es) a.is }

among : (es : List Entry) (e : Entry) → IsAmong e es → Parts es e
among [] e h = absurd h
among (x ∷ xs) e h = elim h [
  | inl i ↦ record { before = []; later = xs; is = ap (λ (y : Entry). y ∷ xs) (sym i) }
  | inr r ↦ among_more xs e x (among xs e r)
]

-- an entry of the caller's own, but for loans, is an entry of the call
pub made_among : (x y : View) (own : List Entry) (e : Entry) (m : Makes x y own) → IsAmong e (but_loans own) → Parts m.all e
made_among x y own e m h =
    let mine : IsAmong e (made_by x.caller m.all) = rw m.by_caller (among_kept _ e own h) in
    among m.all e (among_kept _ e m.all mine)

-- the states just before and just after an entry of the call
pub record IsAround (x y : View) (e : Entry) : Type 0 where
  pub now : State
  pub since : Grows x.state now
  pub legal : MayCall now e.caller e.call
  pub reply : e.reply ≡ reply_to x.limit now e.call
  pub until : Grows (after x.limit now e) y.state

pub around : (x y : View) (own : List Entry) (e : Entry) → Makes x y own → IsAmong e (but_loans own) → IsAround x y e
around x y own e m h =
    let a = made_among x y own e m h in
    let l : IsLegal x.limit x.state (a.before ++ e ∷ a.later) = rw a.is at m.legal in
    let parts = IsLegal-split x.limit x.state a.before (e ∷ a.later) l in
    let now = state_after x.limit x.state a.before in
    let reached : y.state ≡ state_after x.limit (after x.limit now e) a.later = m.reached
    ∙ (ap (λ (es : List Entry). state_after x.limit x.state es) a.is ∙ state_after-append x.limit x.state a.before (e ∷ a.later)) in
    record {
      now = now;
      since = Grows-state_after x.limit x.state a.before parts.0;
      legal = parts.1.0;
      reply = parts.1.1;
      until = subst (λ (s : State). Grows (after x.limit now e) s) (sym reached) (Grows-state_after x.limit (after x.limit now e) a.later parts.1.2);
    }

-- ---- open_arena

unknown_before : (s t : State) (id : ArenaId) → Grows s t → has_arena t id ≡ false → has_arena s id ≡ false
unknown_before s t id g h =
    let P : Bool → Type 0 = λ b. has_arena s id ≡ b → has_arena s id ≡ false in
    let go : (b : Bool) → P b = λ b. elim b as P [ true ↦ (λ e. let k = g.has id e in absurd (cc)) | false ↦ (λ e. e) ] in
    go (has_arena s id) refl

-- an arena that a call opened is new
pub opened_new : (x y : View) (own : List Entry) (c : Caller) (id : ArenaId) → Makes x y own → IsAmong (entry_of c (Open id) Fine) (but_loans own)
    → IsNew x y id
opened_new x y own c id m h =
    let a = around x y own (entry_of c (Open id) Fine) m h in
    record {
      unknown = unknown_before x.state a.now id a.since a.legal.0;
      known = a.until.has id (has_arena-opened a.now (opened x.limit id));
    }

-- ---- allocate

-- bytes that a call was given are new, and are given now
pub allocated_gives : (x y : View) (own : List Entry) (c : Caller) (id : ArenaId) (size align place : ℕ) → Makes x y own
    → IsAmong (entry_of c (Allocate id size align) (Given place)) (but_loans own) → Gives x y id size align place
allocated_gives x y own c id size align place m h =
    let a = around x y own (entry_of c (Allocate id size align) (Given place)) m h in
    let given = (arena_of a.now id).given in
    let g = given_is x.limit given size align place a.reply in
    let pos = power_pos align a.legal.1 in
    let up = le-rounded_up given align pos in
    let before = a.since.given id in
    let now : (arena_of (changed a.now id (given_up_to (place + size))) id).given ≡ place + size =
    ap (λ (o : Arena). o.given) (lookup_changed a.now id (given_up_to (place + size)) (λ o. refl) (there_by_way a.now c id a.legal.0)) in
    let later = a.until.given id in
    record {
      aligned = rw g.rounded (rounded_even given align pos);
      unused = (let p = g.rounded in omega arith);
      given = omega arith;
      within = g.within;
    }

-- ---- close

-- an arena that a call ended has ended
pub closed_ended : (x y : View) (own : List Entry) (c : Caller) (id : ArenaId) (reply : Reply) → Makes x y own
    → IsAmong (entry_of c (End id) reply) (but_loans own) → (arena_of y.state id).life ≡ Ended
closed_ended x y own c id reply m h =
    let a = around x y own (entry_of c (End id) reply) m h in
    let o = over_at_end a.now id a.legal.0 a.legal.1 in
    (a.until.over id o.0 o.1).life

-- ---- every call

-- what a call leaves as it was
pub Makes-lasts : (x y : View) (own : List Entry) → Makes x y own → Lasts x y
Makes-lasts x y own m =
    let g = Makes-grows x y own m in
    record { known = g.has; given = g.given; limit = m.same_limit; caller = m.same_caller }

-- the same of a call that did what it does
pub Did-lasts : (x y : View) (P : List Entry → Type 0) → Did x y P → Lasts x y
Did-lasts x y P d = Makes-lasts x y d.own d.makes
