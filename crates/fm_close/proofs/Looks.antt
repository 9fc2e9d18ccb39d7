-- One visit of a mark.
use Rattle.std.proofs.Common.{◌≡◌, ◌≢◌, ℕ, ◌+◌, ◌<◌, ◌==◌, true, false, List, [], ◌∷◌, ◌++◌, length, refl, ap, sym, ◌∙◌, subst, Some, None, arith, eq-eqb, inl}
use Rattle.std.proofs.lemmas.{Bool.Decides.{nat_tests}, List.{length-append, Elements.{All-nil, All-cons}}}
use Rattle.fm_base.{specs.{declared.arena_id.ArenaId.{ArenaId}, Calls.{End, Fine, Entry, entry_of}, Finds.{Visits, is_draw}}, proofs.Outcomes.{closed_ended}}
use Rattle.fm_words.specs.Marks.{mark_word}
use Rattle.fm_rule_facts.specs.{Views.{View}, Words.{mark_of, own_word}}
use Rattle.fm_rule_facts.specs.Closes.{visit_by, visit_found, closes_after, sweeps_after, visit_entries, passed_of, advanced}
use Rattle.fm_rule_facts.specs.Steps.{Stepped, note_of, is_clear}
use Rattle.fm_rule_facts.specs.Closes as closes
use Rattle.fm_rule.specs.declared.pool.Pool.{Pool}
use Rattle.fm_rule_calls.specs.{Kept.{Goes, HasEnded}, Told.{silent_view}}
use Rattle.fm_rule_calls.proofs.Going.{made_by-one, NoDraws, rest_is, hand_is, inside_is, mark_is, closes_is, sweeps_is, known_on, lasts_on, goes_step}
use Rattle.fm_rule_calls.proofs.Telling.{silent_makes}
use Rattle.fm_gate.{specs.Needs.{IsOutside}, proofs.Outside.{made_on, stands_outside, swept_is}}
use Rattle.fm_close.specs.{declared.{shutting.Shutting.{Shutting}, outcome.Visit.TheVariants.{Next, Inside, Ended}}, Does.{visit_answer}}
use Rattle.fm_close.{specs.Learnt.{CanWalk, Looked, AfterVisit}, proofs.Closes.{passed_of-advanced, passed_of-begun}}

-- No arena has the mark 0.
mark_of-positive : (a : ArenaId) → 0 < mark_of a
unfolding mark_of mark_word
mark_of-positive a = grind (arith, nat_tests)

-- What a visit notes is no draw.
no_draw : (p : View) (a : ArenaId) (k found : ℕ) → NoDraws (note_of (Visits a k) found p)
no_draw p a k found n = All-cons (λ f. is_draw f.step ≡ false) _ [] refl (All-nil (λ f. is_draw f.step ≡ false))

module _ {pool : Pool} {p q : View} {s : Shutting} (found : ℕ) (can : CanWalk pool p s) (own : s.next ≡ p.caller.number → found ≡ own_word p.mark)
    (step : Stepped p q (record p {
      closes = closes_after s.arena (visit_found p.shape s.arena s.next found) p.closes;
      sweeps = sweeps_after s.arena (visit_found p.shape s.arena s.next found) p.sweeps;
    }) (visit_entries s.arena (visit_found p.shape s.arena s.next found) p.caller) (note_of (Visits s.arena s.next) found p)) where
  step_as : (v : closes.Visit) → visit_found p.shape s.arena s.next found ≡ v
      → Stepped p q (record p { closes = closes_after s.arena v p.closes; sweeps = sweeps_after s.arena v p.sweeps }) (visit_entries s.arena v p.caller)
      (note_of (Visits s.arena s.next) found p)
  step_as v e = subst (λ (x : closes.Visit). Stepped p q
      (record p { closes = closes_after s.arena x p.closes; sweeps = sweeps_after s.arena x p.sweeps }) (visit_entries s.arena x p.caller)
      (note_of (Visits s.arena s.next) found p)) e step

  -- The mark was loaded once, and it is the one noted.
  looked : (v : closes.Visit) → visit_found p.shape s.arena s.next found ≡ v → Looked p q s (visit_entries s.arena v p.caller)
  looked v e =
      let before = p.seen ++ step.others in
      let all : length q.seen ≡ length before + length (visit_entries s.arena v p.caller) = ap (λ (es : List Entry). length es) step.seen
      ∙ (length-append before (visit_entries s.arena (visit_found p.shape s.arena s.next found) p.caller)
      ∙ ap (λ (x : closes.Visit). length before + length (visit_entries s.arena x p.caller)) e) in
      record {
        find = record {
          step = Visits s.arena s.next;
          found = found;
          seen = length before;
          clear = is_clear p;
          gathered = length p.gathered;
          drew = None;
        };
        step = refl;
        seen = sym all;
        clear = refl;
        gathered = refl;
        drew = refl;
        grown = ap (λ (x : View). x.finds) step.is_part;
      }

  goes_as : (v : closes.Visit) → visit_found p.shape s.arena s.next found ≡ v → Goes p q (visit_entries s.arena v p.caller)
  goes_as closes.Inside e = goes_step (step_as closes.Inside e) refl refl refl (no_draw p s.arena s.next found)
  goes_as closes.Next e = goes_step (step_as closes.Next e) refl refl refl (no_draw p s.arena s.next found)
  goes_as closes.Ended e = goes_step (step_as closes.Ended e) refl refl (made_by-one p.caller (End s.arena) Fine) (no_draw p s.arena s.next found)

  -- The arena has a slot of the pool.
  pub slot_low : s.arena.slot < 64
  slot_low =
      let f = step.sound.fits s.arena (known_on (goes_as (visit_found p.shape s.arena s.next found) refl) s.arena can.walks.known) in
      let l = f.slot in
      let m = step.sound.valid.slots.1 in
      omega arith

  outside_by : {es : List Entry} → Goes p q es → IsOutside pool q
  outside_by g = stands_outside g can.outside.of can.outside.no_number (hand_is step ∙ can.outside.no_slot)
      (swept_is step ∙ can.outside.no_part) (inside_is step ∙ can.outside.outside) (mark_is step ∙ can.outside.unmarked)

  -- What is learnt where the mark names the arena.
  pub after_inside : found ≡ mark_of s.arena → AfterVisit pool p q s s (Inside s.next)
  unfolding looked
  after_inside f =
      let names : (found == mark_of s.arena) ≡ true = eq-eqb found (mark_of s.arena) f in
      let e : visit_found p.shape s.arena s.next found ≡ closes.Inside = ap (λ b. visit_by b (s.next + 1 == p.shape.passes)) names in
      let t = step_as closes.Inside e in
      let g = goes_as closes.Inside e in
      record {
        did = record { own = []; does = refl; goes = g; rest = rest_is t };
        looked = looked closes.Inside e;
        answer = sym (ap (λ b. visit_answer s.next b (s.next + 1 == p.shape.passes)) names);
        close = refl;
        stands = (
          record {
            maker = can.walks.maker ∙ sym (made_on g);
            unfinished = can.walks.unfinished;
            known = known_on g s.arena can.walks.known;
            at = ap (λ cs. passed_of cs s.arena) (closes_is t) ∙ can.walks.at;
            low = rw g.same_shape can.walks.low;
          },
          λ mine.
              let zero : found ≡ 0 = own (mine ∙ ap (λ c. c.number) g.same_caller) ∙ ap own_word can.outside.unmarked in
              let positive = mark_of-positive s.arena in
              omega arith,
        );
        outside = outside_by g;
        lasts = lasts_on g;
      }

  module _ (other : found ≢ mark_of s.arena) where
    names_not : (found == mark_of s.arena) ≡ false
    names_not = grind (arith, nat_tests)

    -- What is learnt where it doesn't, and isn't the last one.
    pub after_next : s.next + 1 ≢ p.shape.passes → AfterVisit pool p q s (record s { next = s.next + 1 }) Next
    unfolding looked
    after_next more =
        let last : (s.next + 1 == p.shape.passes) ≡ false = grind (arith, nat_tests) in
        let e : visit_found p.shape s.arena s.next found ≡ closes.Next = ap (λ b. visit_by b (s.next + 1 == p.shape.passes)) names_not
        ∙ ap (visit_by false) last in
        let t = step_as closes.Next e in
        let g = goes_as closes.Next e in
        let z = g.same_shape in
        let at : passed_of q.closes s.arena ≡ Some (s.next + 1) = ap (λ cs. passed_of cs s.arena) (closes_is t)
        ∙ passed_of-advanced p.closes s.arena s.next can.walks.at in
        record {
          did = record { own = []; does = refl; goes = g; rest = rest_is t };
          looked = looked closes.Next e;
          answer = sym (ap (λ b. visit_answer s.next b (s.next + 1 == p.shape.passes)) names_not ∙ ap (visit_answer s.next false) last);
          close = refl;
          stands = record {
            maker = can.walks.maker ∙ sym (made_on g);
            unfinished = can.walks.unfinished;
            known = known_on g s.arena can.walks.known;
            at = at;
            low = rw z (let l = can.walks.low in omega arith);
          };
          outside = outside_by g;
          lasts = lasts_on g;
        }

    -- What is learnt where it doesn't, and is the last one: the arena ends at this step.
    pub after_last : s.next + 1 ≡ p.shape.passes → AfterVisit pool p q s (record s { ended = true }) Ended
    unfolding looked
    after_last end =
        let last : (s.next + 1 == p.shape.passes) ≡ true = eq-eqb (s.next + 1) p.shape.passes end in
        let e : visit_found p.shape s.arena s.next found ≡ closes.Ended = ap (λ b. visit_by b (s.next + 1 == p.shape.passes)) names_not
        ∙ ap (visit_by false) last in
        let t = step_as closes.Ended e in
        let mine = entry_of p.caller (End s.arena) Fine ∷ [] in
        let g : Goes p q mine = goes_as closes.Ended e in
        let over : HasEnded q s.arena = record {
          known = known_on g s.arena can.walks.known;
          life = closed_ended (silent_view p) (silent_view q) mine p.caller s.arena Fine (silent_makes g) (inl refl);
        } in
        record {
          did = record { own = mine; does = refl; goes = g; rest = rest_is t };
          looked = looked closes.Ended e;
          answer = sym (ap (λ b. visit_answer s.next b (s.next + 1 == p.shape.passes)) names_not ∙ ap (visit_answer s.next false) last);
          close = refl;
          stands = (
            over,
            record {
              maker = can.walks.maker ∙ sym (made_on g);
              ended = refl;
              at = ap (λ cs. passed_of cs s.arena) (sweeps_is t) ∙ passed_of-begun p.sweeps s.arena;
            },
          );
          outside = outside_by g;
          lasts = lasts_on g;
        }
