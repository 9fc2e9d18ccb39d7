-- The step that shuts an arena.
use Rattle.std.proofs.Common.{◌≡◌, ◌≢◌, ℕ, ◌==◌, Bool, true, false, if◌then◌else◌, List, [], ◌∷◌, set, get_or, sym, refl, ap, ◌∙◌, subst, arith, inl, inr, ⊎_elim, Option, Some, None, eq-eqb, ne_eqb}
use mathlib.Core.Option.{some}
use mathlib.Core.Logic.{dite}
use lib.ListN.{get_elem?}
use prog.Atomic.{either}
use Rattle.fm_words.specs.{declared.shape.Shape.{Shape}, Places.{at as place_at, session}}
use Rattle.fm_base.specs.{declared.{arena_id.ArenaId.{ArenaId}, kind.Kind.TheVariants.{Global, Automatic}}, Arenas.{MayUse}}
use Rattle.fm_base.specs.{Calls.{Shut, Reply, Fine, Closed, Held, Entry, entry_of}, Finds.{Close}}
use Rattle.fm_base_machine.specs.{Functions.{Fresh, Lives, Closes, Over, put, put_at, shut_stage}, Steps.{moved_by}}
use Rattle.fm_base_machine.proofs.Putting.{put_else, at_here, at_other, one_arena, put_cases, at_cases}
use Rattle.fm_rule_facts.specs.{declared.step.Step.TheVariants.{Shuts}, Views.{View, In, IsKnown, limit_of}}
use Rattle.fm_rule_facts.specs.{Words.{alive_word, closing_word, alive_holds, shut_found}, Closes.{begun, walk_of}, Steps.{part, entries, noted, none_noted}}
use Rattle.fm_rule_facts.specs.Facts.{PoolWords, free, live, shut, Owners, IsClosing, HasClose, Rule}
use Rattle.fm_rule_facts.{specs.Moves.{MayMake, StaysEnded, Moved, Same, KeepsHolds, MayStep}, proofs.Keeping.{closing_on, sweeping_on}}
use Rattle.fm_rule_facts.{proofs.{Sessions.{free_apart}, Worlds.{world_shut}, Living.{pages_shut}, Ruling.{page_like, keeps}}, specs.Loans.{loans_of}}
use Rattle.fm_rule_facts.proofs.{Shown.{shows_session}, Gripping.{by_hand, same_handles}, Founds.{no_draw}, Leaving.{callers_stay, numbers_left, pages_left}}
use Rattle.fm_rule_steps.proofs.{Reading.{Says, says, shut_says, alive_read, alive_one, reads_alive, eqb_true, eqb_false}, Quiet.{answers_on}}
use Rattle.fm_rule_steps.proofs.{Knowing.{own, known_now}, Staying.{same_but, hand_still, sweeps_still, slots_still, numbers_stay, number_stays}, Plain.{Made}}

module _ (z : Shape) (me : ℕ) (v : View) (l : v.live ≡ true) (a : ArenaId) (known : IsKnown v a) (use_it : MayUse a v.caller) (not_global : a.kind ≢ Global)
    (ws : List ℕ) (vs : List View) (r : Rule z ws vs) (at : get_elem? vs me ≡ some v) where
  abbrev i : ℕ
  i = place_at z (session a.slot)

  abbrev found : ℕ
  found = get_or ws i 0

  opened : r.machine.life a ≢ Fresh
  opened = known_now z ws vs r me v at l a known

  -- nothing is shut
  refused : (reply : Reply) → reply ≡ shut_stage (r.machine.life a) (r.machine.holds a) → begun a reply v.closes ≡ v.closes
      → moved_by r.machine (entry_of v.caller (Shut a) reply ∷ []) ≡ r.machine
      → Made z ws vs me v i found (record v { closes = begun a reply v.closes }) (entry_of v.caller (Shut a) reply ∷ []) none_noted
  refused reply is none stays =
      subst (λ (cs : List Close). Made z ws vs me v i found (record v { closes = cs }) (entry_of v.caller (Shut a) reply ∷ []) none_noted) (sym none)
      (answers_on z ws vs r me v at l i (entry_of v.caller (Shut a) reply ∷ []) (refl, (opened, use_it, not_global), is, tt) (λ b. ((λ h. h), tt))
      (tt, tt) refl stays)

  -- an arena that is alive with no holds is closing from now on
  pub shuts : (hs : List ArenaId) → r.machine.life a ≡ Lives → r.machine.holds a ≡ 0
      → KeepsHolds v (record v { handles = hs }) r.machine (record r.machine { life = put_at r.machine.life a Closes })
      → Made z ws vs me v i (closing_word a) (record v { closes = walk_of a 0 ∷ v.closes; handles = hs }) (entry_of v.caller (Shut a) Fine ∷ []) none_noted
  shuts hs al none held =
      let k = own z ws vs r me v at l in
      let fit = r.world.sessions.fits a opened in
      let es : List Entry = entry_of v.caller (Shut a) Fine ∷ [] in
      let m' : PoolWords = record r.memory { sessions = put r.memory.sessions a.slot (shut a); counts = put r.memory.counts a.slot 0 } in
      let o' : Owners = record r.owners { closer = put_at r.owners.closer a me } in
      let p : View = record v { closes = walk_of a 0 ∷ v.closes; handles = hs } in
      let is : Fine ≡ shut_stage (r.machine.life a) (r.machine.holds a) = λ j. shut_stage (sym al j) (sym none j) in
      let ok : MayMake (limit_of z) r.machine v.caller es = (refl, (opened, use_it, not_global), is, tt) in
      let other : (b : ArenaId) → r.machine.life b ≡ Closes → b ≢ a = (λ b f e. let q : r.machine.life b ≡ Lives = ap r.machine.life e ∙ al in absurd (cc)) in
      let still : (s g : ℕ) → r.memory.sessions s ≡ free g → m'.sessions s ≡ free g =
      (λ s g f. put_else r.memory.sessions a.slot (shut a) s (free_apart z r.memory.sessions r.machine.life r.world.sessions s g a f (inl al)) ∙ f) in
      let back : (s g : ℕ) → m'.sessions s ≡ free g → r.memory.sessions s ≡ free g =
      (λ s g. put_cases r.memory.sessions a.slot (shut a) s (λ y. y ≡ free g → r.memory.sessions s ≡ free g) (λ e q. absurd (cc)) (λ n q. q)) in
      let ended : (b : ArenaId) → r.machine.life b ≡ Over → b ≢ a = (λ b f e. let q : r.machine.life b ≡ Lives = ap r.machine.life e ∙ al in absurd (cc)) in
      let stays : (b : ArenaId) → r.machine.life b ≡ Over → r.memory.sessions b.slot ≡ shut b → StaysEnded r.memory m' b = (λ b f h. record {
        session = put_else r.memory.sessions a.slot (shut a) b.slot (λ e.
            let q : r.memory.sessions b.slot ≡ live a = ap r.memory.sessions e ∙ r.world.sessions.alive_shown a al in absurd (cc)) ∙ h;
        maps = λ i. refl;
        given = refl;
      }) in
      let was_ended : (b : ArenaId) → put_at r.machine.life a Closes b ≡ Over → (b ≢ a) × (r.machine.life b ≡ Over) =
      (λ b. at_cases r.machine.life a Closes b (λ y. y ≡ Over → (b ≢ a) × (r.machine.life b ≡ Over)) (λ e q. absurd (cc)) (λ n q. (n, q))) in
      let was_shut : (b : ArenaId) → b ≢ a → m'.sessions b.slot ≡ shut b → r.memory.sessions b.slot ≡ shut b =
      (λ b n. put_cases r.memory.sessions a.slot (shut a) b.slot (λ y. y ≡ shut b → r.memory.sessions b.slot ≡ shut b)
      (λ e q. absurd (n (cc))) (λ ne q. q)) in
      let same : Same v p = same_but in
      let d : Moved me z v.caller r.memory r.machine r.owners es m' o' = record {
        allowed = ok;
        marks = λ k h. refl;
        callers = callers_stay;
        numbers = numbers_left;
        closers = λ b f h. (at_other r.owners.closer a me b (other b f), ((λ h. h), tt));
        sweepers = λ b f h n. (at_other r.owners.closer a me b (ended b f), stays b f h);
        holders = λ s g f b h. (refl, still s g f, b, refl);
        taken = λ s k x. inl (record { taker = x.taker; generation = x.generation; session = still s x.generation x.session; left = x.left; bit = x.bit });
        pages = pages_left;
      } in
      let on : (c : Close) → In c v.closes → IsClosing (moved_by r.machine es) o' me c = (λ c j.
      let y = k.work.closes c j in
      closing_on (limit_of z) r.history v.caller r.machine es ok me r.owners o' c y
      (at_other r.owners.closer a me c.arena (other c.arena y.life)) ((λ h. h), tt)) in
      keeps z ws (set ws i (closing_word a)) vs r me v p es none_noted m' o' at l d same no_draw
      (tt, tt)
      (pages_shut z (loans_of r.history) r.memory.page_bits r.memory.maps r.memory.cells r.owners.berth r.memory.sessions r.machine.life r.machine.word
      r.machine.given r.world.sessions r.pages a al)
      (λ b h. dite (one_arena b a)
      (λ e. inl (ap (put_at r.owners.closer a me) e ∙ at_here r.owners.closer a me, (l, (walk_of a 0, inl refl, sym e))))
      (λ n. inr (sym (at_other r.machine.life a Closes b n) ∙ h, at_other r.owners.closer a me b n, (λ (y : HasClose b v). (y.0, (y.1.0, inr y.1.1, y.1.2))))))
      (sweeps_still me v p r.memory r.machine r.owners m' (moved_by r.machine es) o' same refl (λ b f. at_other r.owners.closer a me b (ended b f))
      (λ b f h. let y = was_ended b h in (was_shut b y.0 f, y.1)))
      (slots_still z me v p r.memory r.owners m' o' same refl (λ s. refl) back refl)
      (λ q j b. inr (refl, λ h. page_like q (r.owners.berth q) v p refl refl refl h))
      held
      (numbers_stay z ws vs r me v at l es m' o' p d same refl (λ k. refl) (λ k. refl) (λ k. refl))
      (shows_session z r.valid ws r.memory r.shows a.slot (shut a) 0 fit.slot)
      (world_shut z r.memory r.machine r.world a al none)
      (record {
        inside = k.work.inside;
        mark = k.work.mark;
        closes = λ c. ⊎_elim
            (λ (e : c ≡ walk_of a 0). subst (IsClosing (moved_by r.machine es) o' me) (sym e)
            (record { owner = at_here r.owners.closer a me; life = at_here r.machine.life a Closes; passed = λ j h. absurd (omega arith) }))
            (on c);
        once = ((λ c j. other c.arena (k.work.closes c j).life), k.work.once);
        sweeps = λ c j.
            let y = k.work.sweeps c j in
            sweeping_on (limit_of z) v.caller r.memory r.machine es m' ok (λ k b i. (r.world.marked k b i).stands) z me r.owners o' c y
            (at_other r.owners.closer a me c.arena (ended c.arena y.life))
            (stays c.arena y.life y.session);
        swept_once = k.work.swept_once;
        hand = hand_still z r.memory m' r.owners.holder me still refl v.hand k.work.hand;
        took = k.work.took;
        pages = k.work.pages;
      })
      (number_stays z ws vs r me v at l es m' o' p d same refl (λ k. refl) (λ k. refl) (λ k. refl))

  -- the word is exchanged where it shows the arena alive with no holds
  go : (not_auto : a.kind ≢ Automatic) (o : Option ℕ) → alive_holds a found ≡ o → Says r.machine a o
      → Made z ws vs me v i (either (found == alive_word a 0) (closing_word a) found) (record v { closes = begun a (shut_found o) v.closes })
      (entry_of v.caller (Shut a) (shut_found o) ∷ []) none_noted
  go not_auto None e s =
      let differ : (found == alive_word a 0) ≡ false =
      ne_eqb found (alive_word a 0) (λ q. let y = sym e ∙ (ap (alive_holds a) q ∙ reads_alive a 0 (omega arith)) in absurd (cc)) in
      subst (λ (b : Bool). Made z ws vs me v i (either b (closing_word a) found) (record v { closes = v.closes })
      (entry_of v.caller (Shut a) Closed ∷ []) none_noted) (sym differ)
      (refused Closed (shut_says r.machine a None s) refl refl)
  go not_auto (Some n) e s = by (n == 0) refl
    where
      word : found ≡ alive_word a n
      word = alive_read a found n e

      by : (b : Bool) → (n == 0) ≡ b
          → Made z ws vs me v i (either (found == alive_word a 0) (closing_word a) found)
          (record v { closes = begun a (if b then Fine else Held n) v.closes }) (entry_of v.caller (Shut a) (if b then Fine else Held n) ∷ []) none_noted
      by true q =
          let none : n ≡ 0 = eqb_true n 0 q in
          let hit : (found == alive_word a 0) ≡ true = eq-eqb found (alive_word a 0) (word ∙ ap (alive_word a) none) in
          subst (λ (c : Bool). Made z ws vs me v i (either c (closing_word a) found) (record v { closes = walk_of a 0 ∷ v.closes })
          (entry_of v.caller (Shut a) Fine ∷ []) none_noted) (sym hit)
          (shuts v.handles s.0 (sym s.1 ∙ none) (same_handles v l r.machine a Closes (λ k. absurd (let n = by_hand a not_auto in cc))))
      by false q =
          let some_hold : n ≢ 0 = eqb_false n 0 q in
          let miss : (found == alive_word a 0) ≡ false = ne_eqb found (alive_word a 0) (λ p. some_hold (alive_one a n 0 (sym word ∙ p))) in
          let is : Held n ≡ shut_stage (r.machine.life a) (r.machine.holds a) =
          sym (ap (λ (c : Bool). if c then Fine else Held n) q) ∙ shut_says r.machine a (Some n) s in
          subst (λ (c : Bool). Made z ws vs me v i (either c (closing_word a) found) (record v { closes = v.closes })
          (entry_of v.caller (Shut a) (Held n) ∷ []) none_noted) (sym miss)
          (refused (Held n) is refl refl)

pub shut_steps : (z : Shape) (me : ℕ) (v : View) (a : ArenaId) → v.live ≡ true → IsKnown v a → MayUse a v.caller → a.kind ≢ Global → a.kind ≢ Automatic
    → MayStep z (Shuts a) me v (place_at z (session a.slot)) (λ n. either (n == alive_word a 0) (closing_word a) n)
unfolding part entries noted
shut_steps z me v a l known use_it not_global not_auto = record {
  may = λ ws vs r at.
      let opened = known_now z ws vs r me v at l a known in
      let found : ℕ = get_or ws (place_at z (session a.slot)) 0 in
      let s = says z r.memory r.machine r.world r.valid.passes.1 a opened found (r.shows.sessions a.slot (r.world.sessions.fits a opened).slot) in
      let g = go z me v l a known use_it not_global ws vs r at not_auto (alive_holds a found) refl s in
      (g.0, g.1, record { gives = g.2; learns = tt });
}
