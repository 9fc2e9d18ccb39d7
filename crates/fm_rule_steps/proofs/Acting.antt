-- The steps that mark, check, unmark and look.
use Rattle.std.proofs.Common.{◌≡◌, ℕ, true, List, [], ◌∷◌, get_or, refl, ◌∙◌, Option, Some, None}
use mathlib.Core.Option.{some}
use lib.ListN.{get_elem?}
use Rattle.fm_words.specs.{declared.shape.Shape.{Shape}, Places.{at as place_at, mark, session}}
use Rattle.fm_base.specs.{declared.arena_id.ArenaId.{ArenaId}, Arenas.{MayUse}, Calls.{Enter, Leave, Fine, Closed, entry_of, Reply, Entry}}
use Rattle.fm_base.specs.declared.caller.Caller.{Caller}
use Rattle.fm_base_machine.{specs.Functions.{put, put_by, moved, enter_stage}, proofs.Putting.{put_here, put_else, by_here}}
use Rattle.fm_rule_facts.specs.{declared.step.Step.TheVariants.{Marks, Checks, Unmarks, Looks}, Views.{View, IsKnown}}
use Rattle.fm_rule_facts.specs.{Words.{mark_of, alive_holds, enter_found, inside_found}, Steps.{part, entries, noted, acted, none_noted}}
use Rattle.fm_rule_facts.{specs.{Facts.{PoolWords, Rule, World}, Moves.{MayStep, MayStore}}, proofs.Worlds.{world_mark, world_enter, world_leave}}
use Rattle.fm_rule_facts.proofs.{Shown.{shows_same, shows_mark}, Founds.{no_draw}}
use Rattle.fm_rule_steps.proofs.{Reading.{Says, says, enter_says}, Quiet.{looks_on}, Knowing.{own, low, known_now}}
use Rattle.fm_rule_steps.proofs.Plain.{Made, plain, Calls, no_calls, all_left}

module _ (z : Shape) (me : ℕ) (v : View) (l : v.live ≡ true) where
  -- the mark goes up
  pub mark_steps : (a : ArenaId) → v.inside ≡ None → MayStore z (Marks a) me v (place_at z (mark v.caller.number)) (mark_of a)
  unfolding part entries noted
  mark_steps a out = record {
    may = λ ws vs r at.
        let k = own z ws vs r me v at l in
        let n : ℕ = v.caller.number in
        let m' : PoolWords = record r.memory { marks = put r.memory.marks n (Some a) } in
        let g = plain z ws vs r me v at l (place_at z (mark n)) (mark_of a) (record v { mark = Some a }) [] none_noted no_draw m' r.machine (record {
          calls = no_calls;
          leaves = all_left;
          pages = r.pages;
          marks = put_else r.memory.marks n (Some a);
          reads = λ a e x i. (e, i);
          holds = λ a. refl;
          shows = shows_mark z r.valid ws r.memory r.shows n (Some a) (low z ws vs r me v at l);
          world = world_mark z r.memory r.machine r.world v.caller (Some a) k.term (k.work.inside ∙ out);
          inside = k.work.inside;
          mark = put_here r.memory.marks n (Some a);
        }) in
        (g.0, g.1, record { gives = g.2; learns = tt });
  }

  -- the session is looked at: after the mark, alive is an entrance
  pub check_steps : (a : ArenaId) → v.inside ≡ None → v.mark ≡ Some a → IsKnown v a → MayUse a v.caller
      → MayStep z (Checks a) me v (place_at z (session a.slot)) (λ n. n)
  unfolding part entries noted
  check_steps a out marked known use_it =
      record { may = λ ws vs r at. let g = go ws vs r at (alive_holds a (found ws)) (read ws vs r at) in (g.0, g.1, record { gives = g.2; learns = tt }) }
    where
      found : List ℕ → ℕ
      found ws = get_or ws (place_at z (session a.slot)) 0

      read : (ws : List ℕ) (vs : List View) (r : Rule z ws vs) (at : get_elem? vs me ≡ some v) → Says r.machine a (alive_holds a (found ws))
      read ws vs r at =
          let known' = known_now z ws vs r me v at l a known in
          says z r.memory r.machine r.world r.valid.passes.1 a known' (found ws) (r.shows.sessions a.slot (r.world.sessions.fits a known').slot)

      -- what the machine answers leaves the caller here
      enters : (ws : List ℕ) (vs : List View) (r : Rule z ws vs) (at : get_elem? vs me ≡ some v) (reply : Reply) (under : Caller → Option ArenaId)
          (here : Option ArenaId) → reply ≡ enter_stage (r.machine.life a)
          → moved r.machine v.caller (Enter a) reply ≡ record r.machine { inside = under } → World z r.memory (record r.machine { inside = under })
          → under v.caller ≡ here
          → Made z ws vs me v (place_at z (session a.slot)) (found ws) (record v { inside = here; reads = [] }) (entry_of v.caller (Enter a) reply ∷ []) none_noted
      enters ws vs r at reply under here is moves world inside =
          let k = own z ws vs r me v at l in
          plain z ws vs r me v at l (place_at z (session a.slot)) (found ws) (record v { inside = here; reads = [] })
          (entry_of v.caller (Enter a) reply ∷ []) none_noted no_draw r.memory (record r.machine { inside = under }) (record {
            calls = record {
              may = (refl, (known_now z ws vs r me v at l a known, use_it, k.work.inside ∙ out), is, tt);
              ends = λ b. ((λ h. h), tt);
              lends = (tt, tt);
              loans = refl;
              moves = moves;
              life = refl;
            };
            leaves = all_left;
            pages = r.pages;
            marks = λ k h. refl;
            reads = λ b e x i. absurd i;
            holds = λ a. refl;
            shows = shows_same z r.valid ws r.memory r.shows (place_at z (session a.slot));
            world = world;
            inside = inside;
            mark = k.work.mark;
          })

      go : (ws : List ℕ) (vs : List View) (r : Rule z ws vs) (at : get_elem? vs me ≡ some v) (o : Option ℕ) → Says r.machine a o
          → Made z ws vs me v (place_at z (session a.slot)) (found ws) (record v { inside = inside_found a o; reads = [] })
          (entry_of v.caller (Enter a) (enter_found o) ∷ []) none_noted
      go ws vs r at None s =
          enters ws vs r at Closed r.machine.inside None (enter_says r.machine a None s) refl r.world ((own z ws vs r me v at l).work.inside ∙ out)
      go ws vs r at (Some n) s =
          let k = own z ws vs r me v at l in
          enters ws vs r at Fine (put_by r.machine.inside v.caller (Some a)) (Some a) (enter_says r.machine a (Some n) s) refl
          (world_enter z r.memory r.machine r.world v.caller a (low z ws vs r me v at l) k.term (k.work.mark ∙ marked) s.0)
          (by_here r.machine.inside v.caller (Some a))

  -- the mark goes down, and a caller that was inside leaves
  pub unmark_steps : MayStore z Unmarks me v (place_at z (mark v.caller.number)) 0
  unfolding part entries noted
  unmark_steps = record { may = λ ws vs r at. let g = go ws vs r at v.inside refl in (g.0, g.1, record { gives = g.2; learns = tt }) }
    where
      clears : (ws : List ℕ) (vs : List View) (r : Rule z ws vs) (at : get_elem? vs me ≡ some v) (es : List Entry) (under : Caller → Option ArenaId)
          → Calls z r.history r.machine v.caller es (record r.machine { inside = under })
          → World z (record r.memory { marks = put r.memory.marks v.caller.number None }) (record r.machine { inside = under }) → under v.caller ≡ None
          → Made z ws vs me v (place_at z (mark v.caller.number)) 0 (record v { inside = None; mark = None }) es none_noted
      clears ws vs r at es under calls world out =
          let n : ℕ = v.caller.number in
          plain z ws vs r me v at l (place_at z (mark n)) 0 (record v { inside = None; mark = None }) es none_noted no_draw
          (record r.memory { marks = put r.memory.marks n None }) (record r.machine { inside = under }) (record {
            calls = calls;
            leaves = all_left;
            pages = r.pages;
            marks = put_else r.memory.marks n None;
            reads = λ b e x i. absurd (cc);
            holds = λ a. refl;
            shows = shows_mark z r.valid ws r.memory r.shows n None (low z ws vs r me v at l);
            world = world;
            inside = out;
            mark = put_here r.memory.marks n None;
          })

      go : (ws : List ℕ) (vs : List View) (r : Rule z ws vs) (at : get_elem? vs me ≡ some v) (o : Option ArenaId) → v.inside ≡ o
          → Made z ws vs me v (place_at z (mark v.caller.number)) 0 (record v { inside = None; mark = None }) (acted o v.caller Leave Fine) none_noted
      go ws vs r at None e =
          let k = own z ws vs r me v at l in
          clears ws vs r at [] r.machine.inside no_calls (world_mark z r.memory r.machine r.world v.caller None k.term (k.work.inside ∙ e)) (k.work.inside ∙ e)
      go ws vs r at (Some a) e =
          let k = own z ws vs r me v at l in
          clears ws vs r at (entry_of v.caller (Leave a) Fine ∷ []) (put_by r.machine.inside v.caller None) (record {
            may = (refl, k.work.inside ∙ e, refl, tt);
            ends = λ b. ((λ h. h), tt);
            lends = (tt, tt);
            loans = refl;
            moves = refl;
            life = refl;
          })
          (world_leave z r.memory r.machine r.world v.caller k.term) (by_here r.machine.inside v.caller None)

  -- a look at any word
  pub look_steps : (i : ℕ) → MayStep z Looks me v i (λ n. n)
  unfolding part entries noted
  look_steps i = record {
    may = λ ws vs r at.
        let g = looks_on z ws vs r me v at l i in
        (g.0, g.1, record { gives = g.2; learns = tt });
  }
