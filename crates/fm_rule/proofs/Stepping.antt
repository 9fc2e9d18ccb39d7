-- What each step tells is that the pass stepped.
use Rattle.std.proofs.Common.{◌≡◌, ℕ, ap, List, Option, sym, subst}
use Rattle.atomic_table.specs.declared.shared.Seat.{Seat}
use Rattle.fm_base.specs.declared.{arena_id.ArenaId.{ArenaId}, caller.Caller.{Caller}}
use Rattle.fm_rule_facts.specs.{declared.step.Step.{Step}, Views.{View}, Steps.{Stepped, part, entries, noted}, Moves.{LearnsCount, LearnsSlots, LearnsMap}}
use Rattle.fm_rule.specs.{declared.{pass.Part.{Part}, seen.Seen.{Seen}}, Acts.{Acted}, Views.{homed, numbers_of, Keeps}}
use Rattle.fm_rule.proofs.{Allowed.{Outcome, leaves, stepped}, Keeping.{step_keeps}, Knowing.{known_slot, known_owner}}

module _ {now : View} {c : Caller} {i : Option ArenaId} {part' : Part × Part} {count : ℕ} {old : Seat (Unit {0}) Seen} where
  -- the step of the views in the table is one of the views that contracts see
  pub step_stepped : {new : Seat (Unit {0}) Seen} {s : Step} {x : ℕ} → homed (numbers_of old.table_id) old.me.0 ≡ now → Keeps c i part' count old.me
      → Acted old new s x → Stepped now (homed (numbers_of new.table_id) new.me.0) (part s now x) (entries s now x) (noted s now x)
  step_stepped {new = new} {s = s} {x = x} is k a =
      let v = old.me.0 in
      let home = numbers_of old.table_id in
      let l = leaves s v x in
      let made = stepped home v (part s v x) new.me.0 (entries s v x) (noted s v x) l.same k.met a.tells.gives in
      subst (λ (y : View × List ℕ). Stepped y.0 (homed y.1 new.me.0) (part s y.0 x) (entries s y.0 x) (noted s y.0 x))
      (λ j. (is j, sym (ap numbers_of a.table) j))
      (subst (λ (y : Outcome). Stepped (homed home v) (homed home new.me.0) y.0 y.1 y.2) (l.holds home) made)

-- what the steps' own goals rest on
pub ruleset step_rules = (step_keeps, known_slot, known_owner)

-- what is learnt is true of the view that contracts see
module _ {now v : View} {home : List ℕ} (is : homed home v ≡ now) {x : ℕ} where
  pub count_learnt : LearnsCount v x → LearnsCount now x
  count_learnt l = subst (λ (y : View). LearnsCount y x) is (record {
    some = l.some;
    few = l.few;
    whole = l.whole;
    complete = λ h. l.complete (record { first = h.first; others = h.others });
    later = l.later;
    undrawn = l.undrawn;
  })

  pub slots_learnt : LearnsSlots v x → LearnsSlots now x
  slots_learnt l = subst (λ (y : View). LearnsSlots y x) is (record { some = l.some; low = l.low; idle = l.idle; busy = l.busy })

  pub map_learnt : {a : ArenaId} {i : ℕ} {home' : List ℕ} {w : View} → LearnsMap v a i x w → LearnsMap now a i x (homed home' w)
  map_learnt {a = a} {i = i} {home' = home'} {w = w} l =
      subst (λ (y : View). LearnsMap y a i x (homed home' w)) is (record { given = l.given; none = l.none; low = l.low })
