-- Where passes stand once others are drawn from them, met and gathered.
use Rattle.std.proofs.Common.{◌≡◌, ◌∙◌, ◌++◌, ℕ, List, Bool, refl, sym, ap, subst, append-nil}
use Rattle.fm_base.specs.{declared.arena_id.ArenaId.{ArenaId}, Calls.{Entry}, Finds.{Find, Gathered, Close, Sweep}}
use Rattle.fm_rule_facts.specs.{Views.{View, IsSound}, Hands.{Number, no_number}}
use Rattle.fm_rule.specs.{declared.pool.Pool.{Pool}, Draws.{Asked}}
use Rattle.fm_rule_calls.{specs.Kept.{Lasts, rest_of}, proofs.Going.{lasts_by, reached_by}}
use Rattle.fm_gate.specs.{Needs.{IsOutside}, Crews.{HasNothing, StandsOn, StandAtDraw, StandsAtGather, SeenIsKnown, NothingIsGathered, CrewStands}}

-- holds, handles, pages, closes and sweeps
abbrev things_of : View → List ArenaId × List ArenaId × List ℕ × List Close × List Sweep
things_of p = (p.holds, p.handles, p.pages, p.closes, p.sweeps)

-- What has what another pass has has nothing where the other has nothing.
nothing_as : {p q : View} → things_of q ≡ things_of p → HasNothing p → HasNothing q
nothing_as e n = record {
  no_hold = (λ j. (e j).0) ∙ n.no_hold;
  no_handle = (λ j. (e j).1) ∙ n.no_handle;
  no_page = (λ j. (e j).2) ∙ n.no_page;
  no_close = (λ j. (e j).3) ∙ n.no_close;
  no_sweep = (λ j. (e j).4) ∙ n.no_sweep;
}

-- A pass that has what it had, and no number in its hand, stands where it stood: it knows what it knew, and what it could do it can do still.
stands_by : {pool : Pool} {p q : View} {finds : List Find} {gathered : List Gathered} {whole : Bool} {number : Number} (more : List Entry)
    → q.seen ≡ p.seen ++ more → IsSound q → q ≡ record p { seen = q.seen; finds = finds; gathered = gathered; whole = whole; number = number }
    → (p.number ≡ no_number → number ≡ no_number) → StandsOn pool p q
stands_by {pool = pool} {p = p} {q = q} more seen sound is number =
    subst (λ (x : View). Lasts p x → StandsOn pool p x) (sym is) (λ l. record {
      of = λ o. o;
      outside = λ o.
          record { of = o.of; outside = o.outside; unmarked = o.unmarked; no_number = number o.no_number; no_slot = o.no_slot; no_part = o.no_part };
      inside = λ a i. record { of = i.of; inside = i.inside; no_number = number i.no_number; no_slot = i.no_slot; no_part = i.no_part };
      held = λ h can. record { of = can.of; maker = can.maker; known = l.known h.arena can.known; held = can.held; by_hand = can.by_hand };
      nothing = nothing_as refl;
      closes = refl;
      sweeps = refl;
      home = refl;
      caller = refl;
      shape = refl;
      lasts = l;
    }) (lasts_by (reached_by more seen (ap (λ (x : View). x.shape) is) sound))

-- A pass that looked for a number or for the count of draws, and has no number in its hand.
asked_stands : {pool : Pool} {p q : View} {finds : List Find} → Asked p q finds no_number → IsSound q → StandsOn pool p q
asked_stands a sound = stands_by a.more a.seen sound a.is (λ e. refl)

at_draw : StandAtDraw
at_draw pool p q d of h =
    let giver : StandsOn pool p q = asked_stands h.asked h.giver_sound in
    let seen : d.seen ≡ p.seen ++ h.asked.more = ap (λ (x : View). x.seen) h.is ∙ h.asked.seen in
    let shape : d.shape ≡ p.shape = ap (λ (x : View). x.shape) h.is ∙ giver.shape in
    let stands : IsOutside pool d × HasNothing d = subst (λ (x : View). IsOutside pool x × HasNothing x) (sym h.is) (
      record { of = giver.of of; outside = refl; unmarked = refl; no_number = refl; no_slot = refl; no_part = refl },
      record { no_hold = refl; no_handle = refl; no_page = refl; no_close = refl; no_sweep = refl },
    ) in
    record { giver = giver; outside = stands.0; nothing = stands.1; lasts = lasts_by (reached_by h.asked.more seen shape h.sound) }

seen_is_known : SeenIsKnown
seen_is_known pool other p o of sound on = lasts_by (reached_by on.0 on.1 (of.1 ∙ sym o.1) sound)

at_gather : StandsAtGather
at_gather pool p other q of can g =
    let stands : StandsOn pool p q = stands_by g.more g.seen g.sound g.is (λ e. refl) in
    record { stands = stands; lasts = seen_is_known pool other q can.of (stands.of of) g.sound (g.rest, g.its_seen) }

-- What is told of a pass tells whether it has anything.
pub nothing_told : (p q : View) → rest_of q ≡ rest_of p → HasNothing p → HasNothing q
nothing_told p q rest n = nothing_as (λ j. ((rest j).holds, (rest j).handles, (rest j).pages, (rest j).closes, (rest j).sweeps)) n

can_gather : NothingIsGathered
can_gather pool p o n = record {
  of = o.of;
  outside = o.outside;
  unmarked = o.unmarked;
  no_number = o.no_number;
  no_slot = o.no_slot;
  no_hold = n.no_hold;
  no_handle = n.no_handle;
  no_page = n.no_page;
  no_close = n.no_close;
  no_sweep = n.no_sweep;
}

pub stands : CrewStands
stands = record {
  at_draw = at_draw;
  at_no_pass = λ pool p q d. asked_stands d.asked d.sound;
  at_look = λ pool p q result d. asked_stands d.asked d.sound;
  at_gather = at_gather;
  at_meeting = λ pool p q s. stands_by s.others (s.seen ∙ append-nil (p.seen ++ s.others)) s.sound s.is_part (λ e. e);
  seen = seen_is_known;
  nothing = λ p q own g. nothing_told p q;
  can_gather = can_gather;
}
