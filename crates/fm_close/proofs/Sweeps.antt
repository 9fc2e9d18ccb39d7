-- An arena that has ended is swept.
use Rattle.std.proofs.Common.{◌≡◌, ◌≢◌, ℕ, ◌+◌, ◌^◌, ◌<◌, ◌==◌, Bool, true, false, List, [], refl, ap, sym, ◌∙◌, subst, arith, Some, eq-eqb, ne_eqb}
use Rattle.std.proofs.lemmas.List.{append-nil}
use Rattle.fm_words.specs.declared.shape.Shape.{Shape}
use Rattle.fm_base.specs.{declared.{caller.Caller.{Caller}, arena_id.ArenaId.{ArenaId}}, Calls.{Entry}, Finds.{Sweep}}
use Rattle.fm_rule_facts.specs.{Hands.{Hand, nothing, retired, hand_retired, slots_in}, Parts.{Swept, unread}, Views.{View, IsOver}}
use Rattle.fm_rule_facts.specs.{Closes.{passed_of, advanced, dropped}, Steps.{Stepped, none_noted}}
use Rattle.fm_rule_steps.proofs.Closes.{passed_of-found}
use Rattle.fm_rule.specs.declared.pool.Pool.{Pool}
use Rattle.fm_rule_calls.{specs.Kept.{Goes, rest_of, HasNoWords}, proofs.Going.{goes_then, no_draws, lasts_on, goes_step}}
use Rattle.fm_rule_calls.proofs.Unlent.{over_on, no_words_swept, has_ended}
use Rattle.fm_gate.proofs.Outside.{stands_outside}
use Rattle.fm_close.specs.{declared.shutting.Shutting.{Shutting}, Does.{AreBacks}, Learnt.{CanSweep, AfterSweep}, Sweeps.{SweepsOn, PartsTaken}}
use Rattle.fm_close.proofs.Closes.{passed_of-advanced, dropped-advanced}
use Rattle.fm_close.proofs.Parts.{quiet_step, sweeps_then, swept_now, sweeps_now, caller_now, passed_still, over_now}

-- ---- steps that make no entry

abbrev Quiet : View → View → View → Type 0
Quiet p q part = Stepped p q part [] none_noted

abbrev pub Resets : View → View → ArenaId → Type 0
Resets p q a = Quiet p q (record p { sweeps = advanced a p.sweeps })

abbrev pub Retires : View → View → ArenaId → Type 0
Retires p q a =
    Quiet p q (record p { sweeps = dropped a p.sweeps; hand = hand_retired (a.generation + 1 == p.shape.generations) a.slot p.hand })

abbrev pub Gives : View → View → Type 0
Gives p q = Quiet p q (record p { hand = nothing })

retire_goes : {p q : View} (a : ArenaId) → Retires p q a → Goes p q []
retire_goes a s = goes_step s refl refl refl no_draws

give_goes : {p q : View} → Gives p q → Goes p q []
give_goes s = goes_step s refl refl refl no_draws

-- ---- the count of given bytes is reset, once no part has a page

abbrev pub Counts : View → View → Type 0
Counts o p = Quiet o p o

-- The parts were taken since the count was read.
parts_since : {o p q : View} {a : ArenaId} {n : ℕ} → Counts o p → PartsTaken p q a n → PartsTaken o q a n
parts_since {o = o} {p = p} {q = q} {a = a} s w =
    let c : SweepsOn o p [] o.swept o.sweeps = quiet_step s in
    record {
      own = w.own;
      backs = subst (λ (x : Caller). AreBacks x w.own) (caller_now c) w.backs;
      goes_on = sweeps_then c w.goes_on;
      at = w.at;
      left = w.left ∙ ap (dropped a) (sweeps_now c);
    }

-- the arena has ended, no page is lent to it, and it fits the pool
pub record Emptied (o q : View) (a : ArenaId) (own : List Entry) : Type 0 where
  pub goes_on : SweepsOn o q own unread q.sweeps
  pub at : passed_of q.sweeps a ≡ Some (o.shape.reach + 1)
  pub left : dropped a q.sweeps ≡ dropped a o.sweeps
  pub over : IsOver q a
  pub next : a.generation + 1 < 2 ^ 32
  pub no_words : HasNoWords q a

pub emptied : {o p q : View} {a : ArenaId} (w : PartsTaken o p a o.shape.reach) → Resets p q a → Emptied o q a w.own
emptied {o = o} {p = p} {q = q} {a = a} w s =
    let n : ℕ = o.shape.reach + 1 in
    let idle : p.swept ≡ unread = swept_now w.goes_on in
    let r : SweepsOn p q [] unread (advanced a p.sweeps) = subst (λ (x : Swept). SweepsOn p q [] x (advanced a p.sweeps)) idle (quiet_step s) in
    let at : passed_of q.sweeps a ≡ Some n = passed_still r a n (passed_of-advanced p.sweeps a o.shape.reach w.at) in
    let all : SweepsOn o q w.own unread q.sweeps =
    subst (λ (x : List Entry × List Sweep). SweepsOn o q x.0 unread x.1) (λ j. (append-nil w.own j, sym (sweeps_now r) j)) (sweeps_then w.goes_on r) in
    let f = passed_of-found q.sweeps a n at in
    let over : IsOver q a = over_now n s.sound at in
    let reach : q.shape.reach ≡ o.shape.reach = ap (λ (z : Shape). z.reach) all.goes.same_shape in
    record {
      goes_on = all;
      at = at;
      left = ap (dropped a) (sweeps_now r) ∙ (dropped-advanced p.sweeps a ∙ w.left);
      over = over;
      next = (let g = (s.sound.fits a over.known).generation in let v = s.sound.valid.generations.1 in omega arith);
      no_words = no_words_swept a s.sound f.walk f.there f.arena (let v = f.passed in omega arith);
    }

-- ---- the slot is retired

-- the pass retired the arena, and has this in its hand
pub record Retired (o q : View) (a : ArenaId) (own : List Entry) (hand : Hand) : Type 0 where
  pub goes : Goes o q own
  pub is : q ≡ record o { seen = q.seen; finds = q.finds; swept = unread; sweeps = dropped a o.sweeps; hand = hand }
  pub over : IsOver q a
  pub no_words : HasNoWords q a

pub retires : {o p q : View} {a : ArenaId} {own : List Entry} → Emptied o p a own → Retires p q a
    → Retired o q a own (hand_retired (a.generation + 1 == o.shape.generations) a.slot o.hand)
retires {o = o} {p = p} {q = q} {a = a} {own = own} w s =
    let g = retire_goes a s in
    record {
      goes = subst (λ (es : List Entry). Goes o q es) (append-nil own) (goes_then w.goes_on.goes g);
      is = s.is_part ∙ ((λ j. record p {
        seen = q.seen;
        finds = sym (ap (λ (x : View). x.finds) s.is_part) j;
        sweeps = w.left j;
        hand = hand_retired (a.generation + 1 == p.shape.generations) a.slot p.hand;
      }) ∙ ap (λ (x : View). record x {
        seen = q.seen;
        finds = q.finds;
        sweeps = dropped a o.sweeps;
        hand = hand_retired (a.generation + 1 == x.shape.generations) a.slot x.hand;
      }) w.goes_on.is);
      over = over_on a g w.over;
      no_words = (lasts_on g).no_words a (has_ended w.over) w.no_words;
    }

-- The slot's bit is set.
gives : {o p q : View} {a : ArenaId} {own : List Entry} {hand : Hand} → Retired o p a own hand → Gives p q → Retired o q a own nothing
gives {o = o} {p = p} {q = q} {a = a} {own = own} r s =
    let g = give_goes s in
    record {
      goes = subst (λ (es : List Entry). Goes o q es) (append-nil own) (goes_then r.goes g);
      is = s.is_part ∙ ((λ j. record p { seen = q.seen; finds = sym (ap (λ (x : View). x.finds) s.is_part) j; hand = nothing })
          ∙ ap (λ (x : View). record x { seen = q.seen; finds = q.finds; hand = nothing }) r.is);
      over = over_on a g r.over;
      no_words = (lasts_on g).no_words a (has_ended r.over) r.no_words;
    }

-- ---- what is learnt of a sweep

module _ {pool : Pool} {o p m n : View} {s : Shutting} (can : CanSweep pool o s) (c : Counts o p) (w : PartsTaken p m s.arena pool.shape.reach)
    (e : Resets m n s.arena) where
  -- The parts are all that the pool's arenas have.
  all_parts : PartsTaken o m s.arena o.shape.reach
  all_parts = subst (λ (z : Shape). PartsTaken o m s.arena z.reach) (sym can.outside.of.1) (parts_since c w)

  empty : Emptied o n s.arena all_parts.own
  empty = emptied all_parts e

  -- The next generation has a number.
  pub its_next : s.arena.generation + 1 < 2 ^ 32
  its_next = empty.next

  -- The sweep is past the last part.
  pub past_parts : passed_of n.sweeps s.arena ≡ Some (pool.shape.reach + 1)
  past_parts = subst (λ (z : Shape). passed_of n.sweeps s.arena ≡ Some (z.reach + 1)) can.outside.of.1 empty.at

  module _ {q : View} (r : Retires n q s.arena) where
    retired_by : (b : Bool) → (s.arena.generation + 1 == o.shape.generations) ≡ b
        → Retired o q s.arena all_parts.own (hand_retired b s.arena.slot o.hand)
    retired_by b f = subst (λ (c : Bool). Retired o q s.arena all_parts.own (hand_retired c s.arena.slot o.hand)) f (retires empty r)

    -- The slot is in its hand where a generation is left.
    given_by : s.arena.generation + 1 ≢ o.shape.generations → Retired o q s.arena all_parts.own (retired s.arena.slot)
    given_by more = retired_by false (ne_eqb (s.arena.generation + 1) o.shape.generations more)

    pub its_slot : s.arena.generation + 1 ≢ o.shape.generations → q.hand ≡ retired s.arena.slot
    its_slot more = ap (λ (x : View). x.hand) (given_by more).is

    -- What is learnt when the hand is empty.
    learnt : {z : View} → Retired o z s.arena all_parts.own nothing → AfterSweep pool o z s.arena
    learnt {z = z} t = record {
      did = record {
        own = all_parts.own;
        does = all_parts.backs;
        goes = t.goes;
        rest = ap rest_of t.is ∙ ap (λ (h : Hand). record (rest_of o) { sweeps = dropped s.arena o.sweeps; slots = slots_in h }) (sym can.outside.no_slot);
      };
      ended = has_ended t.over;
      no_words = t.no_words;
      outside = stands_outside t.goes can.outside.of can.outside.no_number (ap (λ (x : View). x.hand) t.is)
          (ap (λ (x : View). x.swept) t.is) (ap (λ (x : View). x.inside) t.is ∙ can.outside.outside)
          (ap (λ (x : View). x.mark) t.is ∙ can.outside.unmarked);
      lasts = lasts_on t.goes;
    }

    -- Where the last generation was used.
    pub after_last : s.arena.generation + 1 ≡ o.shape.generations → AfterSweep pool o q s.arena
    after_last last =
        learnt (subst (λ (h : Hand). Retired o q s.arena all_parts.own h) can.outside.no_slot
        (retired_by true (eq-eqb (s.arena.generation + 1) o.shape.generations last)))

    -- Where the slot was given back.
    pub after_given : {z : View} → s.arena.generation + 1 ≢ o.shape.generations → Gives q z → AfterSweep pool o z s.arena
    after_given more g = learnt (gives (given_by more) g)
