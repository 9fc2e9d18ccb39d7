-- A step on page bits or map words, by a pass that isn't sweeping: it keeps the rule where it keeps the facts of pages.
use Rattle.std.proofs.Common.{◌≡◌, ℕ, ◌+◌, true, List, length, set, sym, refl, ap, ◌∙◌, subst, inr, Option, get_or, [], Some}
use mathlib.Core.Option.{some}
use lib.ListN.{get_elem?}
use Rattle.fm_words.specs.declared.shape.Shape.{Shape}
use Rattle.fm_base.specs.{declared.arena_id.ArenaId.{ArenaId}, Calls.{Entry}, Finds.{Find}}
use Rattle.fm_base_machine.specs.{Functions.{Over, Machine}, Steps.{moved_by}}
use Rattle.fm_rule_facts.specs.{Holds.{holds_of, all_holds}, Loans.{loans_of}, Gone.{FoundBy}, Parts.{Mapping, Swept, unread, named, wiping}}
use Rattle.fm_rule_facts.specs.{Views.{View, In, limit_of}, Facts.{PoolWords, Owners, shut, Berth, unmapped, IsNext, HasSwept, HasPages, World, Shows, Owns, Rule}}
use Rattle.fm_rule_facts.{specs.Moves.{MayMake, NoEnd, StaysEnded, Moved, Same, PagesMoved, KeepsPages, MayLend}, proofs.Founds.{NoneDrawn}}
use Rattle.fm_rule_facts.proofs.{Ruling.{PagesAfter, AreLooked, keeps_with, page_like}, Keeping.{sweeping_on}, Leaving.{berths_moved, pages_left}}
use Rattle.fm_rule_facts.proofs.Shown.{shows_same}
use Rattle.fm_rule_steps.proofs.{Knowing.{own, closes_still}, Staying.{same_but, numbers_stay, number_stays}, Plain.{Made}}

module _ (z : Shape) (me : ℕ) (v : View) (l : v.live ≡ true) (ws : List ℕ) (vs : List View) (r : Rule z ws vs) (at : get_elem? vs me ≡ some v) where
  abbrev mine : Owns z r.history r.memory r.machine r.owners me v
  mine = own z ws vs r me v at l

  -- what a step does to page bits, map words and the places of pages, and what the view has of them then
  pub record Paging (i x : ℕ) (bits : ℕ → ℕ) (maps : ℕ → ℕ → Option ℕ) (berth : ℕ → Berth) (ps : List ℕ) (ms : List Mapping) (es : List Entry) : Type 0 where
    pub may : MayMake (limit_of z) r.machine v.caller es
    pub ends : (b : ArenaId) → NoEnd es b
    pub stays : moved_by r.machine es ≡ r.machine
    pub moved : PagesMoved me r.machine.life r.memory.maps r.memory.cells r.owners.berth maps r.memory.cells berth
    pub ended : (b : ArenaId) → r.machine.life b ≡ Over → r.memory.sessions b.slot ≡ shut b → (k : ℕ) → maps b.slot k ≡ r.memory.maps b.slot k
    pub lends : MayLend z r.machine (loans_of r.history) es
    pub pages : PagesAfter z r.history (record r.memory { page_bits = bits; maps = maps }) r.machine (record r.owners { berth = berth }) es
    pub keep : KeepsPages me v (record v { pages = ps; reads = ms }) r.owners (record r.owners { berth = berth })
    pub shows : Shows z (set ws i x) (record r.memory { page_bits = bits; maps = maps })
    pub has : HasPages z maps r.memory.cells berth me v.inside ms ps v.sweeps v.swept

  -- such a step keeps the rule
  pub paged : (i x : ℕ) (bits : ℕ → ℕ) (maps : ℕ → ℕ → Option ℕ) (berth : ℕ → Berth) (ps : List ℕ) (ms : List Mapping) (es : List Entry) (fs : ℕ → List Find)
      → NoneDrawn fs → ((f : Find) → In f (fs (length r.history)) → FoundBy z r.history r.memory r.owners.taker r.machine.life v.caller f)
      → AreLooked r v fs → Paging i x bits maps berth ps ms es → Made z ws vs me v i x (record v { pages = ps; reads = ms }) es fs
  paged i x bits maps berth ps ms es fs nd new looks q =
      let m' : PoolWords = record r.memory { page_bits = bits; maps = maps } in
      let o' : Owners = record r.owners { berth = berth } in
      let p : View = record v { pages = ps; reads = ms } in
      let same : Same v p = same_but in
      let t' : Machine = moved_by r.machine es in
      let stays_ended : (b : ArenaId) → r.machine.life b ≡ Over → r.memory.sessions b.slot ≡ shut b → StaysEnded r.memory m' b =
      (λ b o f. record { session = f; maps = q.ended b o f; given = refl }) in
      let d : Moved me z v.caller r.memory r.machine r.owners es m' o' =
      berths_moved q.may (λ b f h. q.ends b) (λ b f h n. stays_ended b f h) q.moved in
      keeps_with z ws (set ws i x) vs r me v p es fs m' o' at l d same nd new looks q.lends q.pages
      (λ b h. inr (ap (λ (t : Machine). t.life b) (sym q.stays) ∙ h, refl, (λ y. y)))
      (λ b f h. inr (f, ap (λ (t : Machine). t.life b) (sym q.stays) ∙ h, refl, (λ y. y)))
      (λ k g low f left b. inr (f, b, refl, (λ y. y)))
      q.keep
      (λ b. ap (λ (t : Machine). holds_of b v + all_holds b t) (sym q.stays))
      (numbers_stay z ws vs r me v at l es m' o' p d same refl (λ k. refl) (λ k. refl) (λ k. refl))
      q.shows
      (subst (World z m') (sym q.stays) (record {
        marked = r.world.marked;
        sessions = r.world.sessions;
        slots = r.world.slots;
        counts = r.world.counts;
        givens = r.world.givens;
      }))
      (record {
        inside = ap (λ (t : Machine). t.inside v.caller) q.stays ∙ mine.work.inside;
        mark = mine.work.mark;
        closes = closes_still z ws vs r me v at l es q.may q.ends (λ b. refl);
        once = mine.work.once;
        sweeps = λ c j.
            let y = mine.work.sweeps c j in
            sweeping_on (limit_of z) v.caller r.memory r.machine es m' q.may (λ k b i. (r.world.marked k b i).stands) z me r.owners o' c y refl
            (stays_ended c.arena y.life y.session);
        swept_once = mine.work.swept_once;
        hand = mine.work.hand;
        took = mine.work.took;
        pages = q.has;
      })
      (number_stays z ws vs r me v at l es m' o' p d same refl (λ k. refl) (λ k. refl) (λ k. refl))

  -- where no page moves, what was read may be more
  pub pages_read : (i : ℕ) (ms : List Mapping) (fs : ℕ → List Find)
      → NoneDrawn fs → ((f : Find) → In f (fs (length r.history)) → FoundBy z r.history r.memory r.owners.taker r.machine.life v.caller f)
      → AreLooked r v fs → ((a : ArenaId) → v.inside ≡ Some a → (x : Mapping) → In x ms → r.memory.maps a.slot x.part ≡ Some x.page)
      → Made z ws vs me v i (get_or ws i 0) (record v { pages = v.pages; reads = ms }) [] fs
  pages_read i ms fs nd new looks read =
      paged i (get_or ws i 0) r.memory.page_bits r.memory.maps r.owners.berth v.pages ms [] fs nd new looks (record {
        may = tt;
        ends = λ b. tt;
        stays = refl;
        moved = pages_left;
        ended = λ b o f k. refl;
        lends = tt;
        pages = r.pages;
        keep = λ q j b. inr (refl, page_like q (r.owners.berth q) v (record v { pages = v.pages; reads = ms }) refl refl refl);
        shows = shows_same z r.valid ws r.memory r.shows i;
        has = record { read = read; claims = mine.work.pages.claims; lone = mine.work.pages.lone; sweep = mine.work.pages.sweep };
      })

  -- what a sweep has is there still, where its map words and pages are
  pub swept_still : (maps : ℕ → ℕ → Option ℕ) (berth : ℕ → Berth)
      → ((b : ArenaId) → r.machine.life b ≡ Over → r.memory.sessions b.slot ≡ shut b → (k : ℕ) → maps b.slot k ≡ r.memory.maps b.slot k)
      → ((q j i : ℕ) (a : ArenaId) → r.owners.berth q ≡ unmapped j a i → berth q ≡ r.owners.berth q) → HasSwept z maps r.memory.cells berth me v.sweeps v.swept
  swept_still maps berth ended other = go v.swept mine.work.pages.sweep
    where
      still : (a : ArenaId) (i : ℕ) → IsNext v.sweeps a i → maps a.slot i ≡ r.memory.maps a.slot i
      still a i n = let y = mine.work.sweeps n.sweep n.there in
          subst (λ (b : ArenaId). maps b.slot i ≡ r.memory.maps b.slot i) n.arena (ended n.sweep.arena y.life y.session i)

      go : (s : Swept) → HasSwept z r.memory.maps r.memory.cells r.owners.berth me v.sweeps s → HasSwept z maps r.memory.cells berth me v.sweeps s
      go unread h = tt
      go (named a i p) h = (h.0, still a i h.0 ∙ h.1)
      go (wiping a i p w) h = record { next = h.next; owner = other p me i a h.owner ∙ h.owner; empty = still a i h.next ∙ h.empty; wiped = h.wiped }
