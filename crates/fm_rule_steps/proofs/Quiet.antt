-- Steps that leave the words, the machine and their own view: they look, or they make an entry that moves nothing.
use Rattle.std.proofs.Common.{◌≡◌, ℕ, List, [], length, get_or, refl, true}
use mathlib.Core.Option.{some}
use lib.ListN.{get_elem?}
use Rattle.fm_words.specs.declared.shape.Shape.{Shape}
use Rattle.fm_base.specs.{declared.arena_id.ArenaId.{ArenaId}, Calls.{Entry}, Finds.{Find}}
use Rattle.fm_base_machine.specs.Steps.{moved_by}
use Rattle.fm_rule_facts.specs.{Loans.{loans_of, loans_after}, Views.{View, In, limit_of}, Steps.{none_noted}, Facts.{Rule}, Gone.{FoundBy}}
use Rattle.fm_rule_facts.{specs.Moves.{MayMake, MayLend, NoEnd}, proofs.{Founds.{NoneDrawn, NoDraw, no_draw}, Gone.{none_founded}}}
use Rattle.fm_rule_facts.proofs.{Ruling.{AreLooked, unlooked}, Shown.{shows_same}}
use Rattle.fm_rule_steps.proofs.{Knowing.{own}, Plain.{Made, plain_with, all_left}}

module _ (z : Shape) (ws : List ℕ) (vs : List View) (r : Rule z ws vs) (me : ℕ) (v : View) (at : get_elem? vs me ≡ some v) (l : v.live ≡ true) (i : ℕ) where
  -- entries that move nothing and lend nothing
  pub quiet : (es : List Entry) (fs : ℕ → List Find) → NoneDrawn fs
      → ((f : Find) → In f (fs (length r.history)) → FoundBy z r.history r.memory r.owners.taker r.machine.life v.caller f)
      → AreLooked r v fs → MayMake (limit_of z) r.machine v.caller es → ((b : ArenaId) → NoEnd es b)
      → MayLend z r.machine (loans_of r.history) es
      → loans_after (loans_of r.history) es ≡ loans_of r.history → moved_by r.machine es ≡ r.machine → Made z ws vs me v i (get_or ws i 0) v es fs
  quiet es fs nd new looks may ends lends same stays =
      let mine = own z ws vs r me v at l in
      plain_with z ws vs r me v at l i (get_or ws i 0) v es fs nd new looks r.memory r.machine (record {
        calls = record { may = may; ends = ends; lends = lends; loans = same; moves = stays; life = refl };
        leaves = all_left;
        pages = r.pages;
        marks = λ k h. refl;
        reads = λ b e x h. (e, h);
        holds = λ b. refl;
        shows = shows_same z r.valid ws r.memory r.shows i;
        world = r.world;
        inside = mine.work.inside;
        mark = mine.work.mark;
      })

  -- where no slot and no page was looked for
  abbrev Unfound : (ℕ → List Find) → Type 0
  Unfound fs = (f : Find) → In f (fs (length r.history)) → FoundBy z r.history r.memory r.owners.taker r.machine.life v.caller f

  unfound : (fs : ℕ → List Find) → NoDraw fs → Unfound fs
  unfound fs nd = none_founded z r.history r.memory r.owners.taker r.machine.life v.caller fs (λ n f j. let y = nd n f j in (y.2, y.3)) (length r.history)

  none_drawn : (fs : ℕ → List Find) → NoDraw fs → NoneDrawn fs
  none_drawn fs nd n f j = let y = nd n f j in (y.0, y.1)

  pub answers_on : (es : List Entry) → MayMake (limit_of z) r.machine v.caller es → ((b : ArenaId) → NoEnd es b)
      → MayLend z r.machine (loans_of r.history) es → loans_after (loans_of r.history) es ≡ loans_of r.history → moved_by r.machine es ≡ r.machine
      → Made z ws vs me v i (get_or ws i 0) v es none_noted
  answers_on es = quiet es none_noted (none_drawn none_noted no_draw) (unfound none_noted no_draw) (unlooked r v none_noted (λ n f i. absurd i))

  -- a look, of which something may be noted
  pub looks_with : (fs : ℕ → List Find) → NoDraw fs → Made z ws vs me v i (get_or ws i 0) v [] fs
  looks_with fs nd = quiet [] fs (none_drawn fs nd) (unfound fs nd) (unlooked r v fs (λ n f i. (nd n f i).4)) tt (λ b. tt) tt refl refl

  -- nothing is noted of most looks
  pub looks_on : Made z ws vs me v i (get_or ws i 0) v [] none_noted
  looks_on = looks_with none_noted no_draw
