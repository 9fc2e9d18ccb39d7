-- What is over stays so as a pass goes on, and gives no more; a sweep that is past the last part leaves it no words.
use Rattle.std.proofs.Common.{◌≡◌, true, List, [], ◌++◌, sym, ◌∙◌, subst, arith, ◌≤◌}
use Rattle.fm_base.specs.{declared.arena_id.ArenaId.{ArenaId}, Arenas.{State, has_arena, arena_of}, Calls.{Entry}, Finds.{Sweep}}
use Rattle.fm_base.specs.Histories.{IsLegal, state_after}
use Rattle.fm_base.proofs.Growing as growing
use Rattle.fm_words.specs.declared.shape.Shape.{Shape}
use Rattle.fm_rule_facts.specs.{Views.{View, In, IsSound, IsOver, given_of, limit_of, state_in}}
use Rattle.fm_rule_facts.proofs.{Ending.{given_later}, Unlending.{over_later}}
use Rattle.fm_rule_calls.specs.Kept.{Goes, HasEnded, HasNoWords}

module _ {p q : View} {own : List Entry} (id : ArenaId) (g : Goes p q own) (over : IsOver p id) where
  -- what the pass has seen then, in the shape that it had
  legal : IsLegal (limit_of p.shape) [] (p.seen ++ g.more)
  legal = subst (λ (x : Shape × List Entry). IsLegal (limit_of x.0) [] x.1) (λ j. (g.same_shape j, g.seen j)) g.sound.legal

  done : growing.IsOver (arena_of (state_in p) id)
  done = record { life = over.life; empty = over.empty }

  -- It is over still.
  pub over_on : IsOver q id
  over_on =
      let o = over_later (limit_of p.shape) p.seen g.more id legal over.known done in
      let s : state_after (limit_of p.shape) [] (p.seen ++ g.more) ≡ state_in q = λ j. state_after (limit_of (sym g.same_shape j)) [] (sym g.seen j) in
      let e : growing.IsOver (arena_of (state_in q) id) = subst (λ (x : State). growing.IsOver (arena_of x id)) s o.1 in
      record {
        known = subst (λ (x : State). has_arena x id ≡ true) s o.0;
        life = e.life;
        empty = e.empty;
      }

  -- It has given as many bytes.
  pub given_on : given_of q id ≡ given_of p id
  given_on = (λ j. (arena_of (state_after (limit_of (g.same_shape j)) [] (g.seen j)) id).given)
      ∙ given_later (limit_of p.shape) p.seen g.more id legal over.known done

-- What is over has ended.
pub has_ended : {p : View} {id : ArenaId} → IsOver p id → HasEnded p id
has_ended o = record { known = o.known; life = o.life }

-- Nothing is lent to an arena whose sweep has come past its last part.
pub no_words_swept : {p : View} (id : ArenaId) → IsSound p → (c : Sweep) → In c p.sweeps → c.arena ≡ id → p.shape.reach ≤ c.passed → HasNoWords p id
no_words_swept {p = p} id sound c i e n l h q =
    let fits = (sound.loans l h).1 in
    let left = sound.unlent c i l h (q ∙ sym e) in absurd (omega arith)
