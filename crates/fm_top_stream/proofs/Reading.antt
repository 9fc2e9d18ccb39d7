-- A crew that answers a query over a segment changes no arena's life nor words.
use Rattle.std.proofs.Common.{◌≡◌, ℕ, ◌%◌, List, [], ◌∷◌, Result, Ok, Err, refl, ap, sym, ◌∙◌, subst, inl, inr, ⊎_elim, arith}
use Rattle.std.specs.Prelude.{◌⊎◌}
use Rattle.fm_base.specs.declared.{arena_id.ArenaId.{ArenaId}, caller.Caller.{Caller}, refusal.Refusal.{Refusal, TheVariants.{Memory, NoPass}}}
use Rattle.fm_base.specs.Arenas.{Arena, State, arena_of, changed}
use Rattle.fm_base.specs.{Calls.{Call, Closed, Enter, Entry, Fine, Found, Given, Held, Leave, NoRoom, Read, Reply, TooManyHolds}, Histories.{state_after}}
use Rattle.fm_base.{specs.Machine.{after, state_by, entered, left}, proofs.Lookup.{KeepsName, changed_has, changed_lookup}}
use Rattle.fm_gate.specs.Needs.{IsOutside}
use Rattle.fm_rule_calls.proofs.Going.{reached_by}
use Rattle.fm_rule_facts.specs.Views.{View, limit_of, state_in}
use Rattle.fm_rule.specs.declared.pool.Pool.{Pool}
use Rattle.fm_segment.specs.Region.{Region}
use Rattle.fm_records_query.specs.Plan.{Plan}
use Rattle.fm_records.specs.{declared.found.Found.{Found as Answer}, Alone.{bytes_at_places}, Answers.{answer}}
use Rattle.fm_top_load.proofs.Holding.{changed_names}
use Rattle.fm_top_pooled.specs.{Shown.{AsksWord}, Stocked.{IsAlone, IsStockedOf, bytes_in_pool}}
use Rattle.fm_top_pooled.proofs.{Crews.{AllTouch, Touches, bytes_stay, stocked_still}, Shows.{NoneMayAdd, answers, pooled_is, touch, wants, was_asked}}
use Rattle.fm_workers.specs.Query.{QueriedWith}
use Rattle.fm_workers_crew.specs.Crew.{AreTooMany}
use Rattle.fm_top_stream.{specs.Steps.{Answers, GoesOn, Stand}, proofs.Going.{goes_here, goes_then}}

-- ---- the arenas

pub stand_here : (s : State) → Stand s s
stand_here s = record { names = refl; arenas = λ b. refl; life = λ b. refl; words = λ b. refl }

pub stand_then : {s t u : State} → Stand s t → Stand t u → Stand s u
stand_then first next = record {
  names = next.names ∙ first.names;
  arenas = λ b. next.arenas b ∙ first.arenas b;
  life = λ b. next.life b ∙ first.life b;
  words = λ b. next.words b ∙ first.words b;
}

-- Who is under way in one alone is changed.
stand_changed : (s : State) (id : ArenaId) (f : Arena → Arena) → KeepsName f → ((a : Arena) → (f a).life ≡ a.life) → ((a : Arena) → (f a).words ≡ a.words)
    → Stand s (changed s id f)
stand_changed s id f named life words = record {
  names = changed_names f named s id;
  arenas = λ b. changed_has f named s id b;
  life = changed_lookup (λ x y. y.life ≡ x.life) f named (λ a. refl) s id (life (arena_of s id));
  words = changed_lookup (λ x y. y.words ≡ x.words) f named (λ a. refl) s id (words (arena_of s id));
}

enters : (limit : ℕ) (c : Caller) (s : State) (a : ArenaId) (reply : Reply) → Stand s (state_by limit s c (Enter a) reply)
enters limit c s a Fine = stand_changed s a (entered c) (λ x. refl) (λ x. refl) (λ x. refl)
enters limit c s a Closed = stand_here s
enters limit c s a (Held n) = stand_here s
enters limit c s a TooManyHolds = stand_here s
enters limit c s a (Found n) = stand_here s
enters limit c s a (Given n) = stand_here s
enters limit c s a (NoRoom n) = stand_here s

touches : (limit : ℕ) (c : Caller) (s : State) (call : Call) (reply : Reply) → Touches NoneMayAdd call → Stand s (state_by limit s c call reply)
touches limit c s (Enter a) reply h = enters limit c s a reply
touches limit c s (Read a word) reply h = stand_here s
touches limit c s (Leave a) reply h = stand_changed s a (left c) (λ x. refl) (λ x. refl) (λ x. refl)
touches limit c s call reply h = absurd h

pub all_touch : (limit : ℕ) (s : State) (es : List Entry) → AllTouch NoneMayAdd es → Stand s (state_after limit s es)
all_touch limit s [] h = stand_here s
all_touch limit s (e ∷ es) h = stand_then (touches limit e.caller s e.call e.reply h.0) (all_touch limit (after limit s e) es h.1)

-- ---- the pass that drew the crew, and gathered it again

-- it drew nobody who could answer, and the segment stands
pub record Awaits (passes : ℕ) (pool : Pool) (p m : View) (s : Region) : Type 0 where
  pub goes : GoesOn pool p m
  pub stocked : IsStockedOf passes pool m s
  pub same : bytes_in_pool m s ≡ bytes_in_pool p s
  pub stand : Stand (state_in p) (state_in m)

pub awaits_none : {passes : ℕ} {pool : Pool} {p : View} {s : Region} → IsAlone p.gathered pool p → IsStockedOf passes pool p s → Awaits passes pool p p s
awaits_none {p = p} alone stocked = record { goes = goes_here alone; stocked = stocked; same = refl; stand = stand_here (state_in p) }

module _ {passes : ℕ} {pool : Pool} {p m q : View} {s : Region} {plan : Plan} {threads : ℕ} (w : Awaits passes pool p m s) where
  -- It waited once more.
  pub awaits_more : {r : Result (List Answer) Refusal} → QueriedWith threads m q plan s r → IsOutside pool q → Awaits passes pool p q s
  awaits_more queried outside =
      let crew = queried.crew in
      let alone = w.goes.alone in
      let sound = queried.still_sound alone.sound in
      let touched = touch w.stocked sound queried in
      let reach = reached_by {p = m} {q = q} crew.more crew.seen (ap (λ (v : View). v.shape) crew.is) sound in
      let stocked = stocked_still NoneMayAdd w.stocked crew sound touched outside queried.known s.arena 0 (omega arith) (λ b word none. absurd none) in
      let goes : GoesOn pool m q = record {
        alone = record {
          outside = outside;
          sound = sound;
          whole = stocked.whole;
          tidy = stocked.tidy;
          gathered = refl;
          none_to_end = ap (λ (v : View). v.closes) crew.is ∙ alone.none_to_end;
          none_to_sweep = ap (λ (v : View). v.sweeps) crew.is ∙ alone.none_to_sweep;
          no_page = ap (λ (v : View). v.pages) crew.is ∙ alone.no_page;
        };
        more = crew.more;
        seen = crew.seen;
      } in
      record {
        goes = goes_then w.goes goes;
        stocked = stocked;
        same = bytes_stay NoneMayAdd w.stocked crew sound touched (λ b word none. absurd none) ∙ w.same;
        stand = stand_then w.stand (subst (Stand (state_in m)) (sym reach.state) (all_touch (limit_of m.shape) (state_in m) crew.more touched));
      }

  -- It was answered.
  pub answered : (a : List Answer) → QueriedWith threads m q plan s (Ok a) → IsOutside pool q → Answers passes pool p q s plan a
  answered a queried outside =
      let sound = queried.still_sound w.goes.alone.sound in
      let next = awaits_more queried outside in
      let asks = was_asked w.stocked sound a queried outside in
      let bytes = w.same in
      record {
        goes = next.goes;
        stocked = next.stocked;
        stand = next.stand;
        value = answers w.stocked sound a queried ∙ ap (answer plan) bytes;
        few = queried.few;
        read = record {
          before = m.seen;
          after = asks.more;
          parts = asks.seen;
          stood = ap (λ (v : View). bytes_at_places (state_after (limit_of v.shape) [] m.seen) s) queried.crew.is ∙ sym (pooled_is m s) ∙ bytes;
          read = λ word asked. asks.read word (subst (λ bs. AsksWord plan bs s.arena word) (sym bytes) asked);
        };
      }

  -- A pass is wanting, or memory.
  pub wanting : (r : Refusal) → QueriedWith threads m q plan s (Err r) → s.size % plan.size ≡ 0 → (r ≡ NoPass) ⊎ (r ≡ Memory)
  wanting r queried even =
      ⊎_elim (λ (e : r ≡ Memory). inr e) (λ (t : (r ≡ NoPass) × AreTooMany m threads). inl t.0)
      (wants w.stocked (queried.still_sound w.goes.alone.sound) (Err r) queried even)
