-- What a crew has done, and its drawer beside it, from the first draw to the last look.
use Rattle.std.proofs.Common.{inl, inr, ◌≡◌, List, [], ◌∷◌, ◌++◌, ap, sym, ◌∙◌, subst, append_assoc, ⊎_elim, All, get_or, Bool, true, false}
use Rattle.std.{specs.List.{AllByRecursion, AllZip}, proofs.lemmas.List.{append-nil, Elements.{filter-append, recursion_from_All}}}
use Rattle.fm_base.specs.{declared.caller.Caller.{Caller}, Calls.{Entry}, Finds.{Find, Gathered, Rest, is_draw}, Histories.{made_by}, View.{Did}}
use Rattle.fm_rule_facts.{specs.{Hands.{no_number}, Views.{View, In}}, proofs.Keeping.{in_append}}
use Rattle.fm_rule.specs.{declared.pool.Pool.{Pool}, Draws.{Looked}, Passes.{IsOf}}
use Rattle.fm_gate.specs.Needs.{IsOutside}
use Rattle.fm_arena.{specs.Learnt.{AfterIntoPass}, proofs.Lasting.{keeps}}
use Rattle.fm_rule_calls.{specs.Told.{view_of_pass}, proofs.Going.{reached_by, lasts_by}}
use Rattle.fm_workers_crew.specs.{declared.worker.Worker.{Worker}, Beside.{GatheredBeside, WorkedBeside}}
use Rattle.fm_workers_crew.specs.Crew.{AreDone, DrewEach, IsFresh, IsIn, IsWhole, callers}
use Rattle.fm_workers_crew.specs.Rounds.{CalledAll, GatheredCrew, IsWorked, Went, crew_of, passes_of, tasks_of}
use Rattle.fm_workers_crew.proofs.Drawing.{caller_still, gathered_still, made_behind}
use Rattle.fm_workers_crew.proofs.{Gathering.{Made, all_in_still, apart_before, apart_since, gathered_is, gatherer_still}, Orders.{drew_among}}
use Rattle.fm_workers_crew.proofs.{Turning.{tasks_called}, Wholes.{NoDraws, crew_apart, has_all_drawn, only_own_or_crew}}
use Rattle.fm_workers_crew.proofs.Workers.{callers_after, crew_are, done_all, each_caller, each_pass, fresh_after, undrawn_after}

module _ {T : Type 0} {P : List Entry → Type 0} {old drew acted got new : View} {vs : List (Worker T)} {b : Bool} (none : old.number ≡ no_number)
    (m : Went old drew) (k : Did (view_of_pass drew) (view_of_pass acted) P) (g : GatheredCrew acted got vs) (l : Looked got new b) where
  caller_acted : acted.caller ≡ old.caller
  caller_acted = k.makes.same_caller ∙ caller_still m

  gathered_acted : acted.gathered ≡ old.gathered
  gathered_acted = ap (λ (r : Rest). r.gathered) k.makes.told.rest ∙ gathered_still m

  gathered_got : got.gathered ≡ old.gathered ++ crew_of vs
  gathered_got = gathered_is g ∙ ap (λ (gs : List Gathered). gs ++ crew_of vs) gathered_acted

  caller_got : got.caller ≡ old.caller
  caller_got = gatherer_still g ∙ caller_acted

  abbrev pub entries : List Entry
  entries = m.more ++ (k.makes.all ++ (g.more ++ l.asked.more))

  pub seen_now : new.seen ≡ old.seen ++ entries
  seen_now =
      let behind = g.more ++ l.asked.more in
      l.asked.seen ∙ (ap (λ (es : List Entry). es ++ l.asked.more) g.seen ∙ (append_assoc acted.seen g.more l.asked.more
      ∙ (ap (λ (es : List Entry). es ++ behind) (k.makes.told.seen ∙ ap (λ (es : List Entry). es ++ k.makes.all) m.seen)
      ∙ (append_assoc (old.seen ++ m.more) k.makes.all behind ∙ append_assoc old.seen m.more (k.makes.all ++ behind)))))

  own_is : made_by old.caller entries ≡ k.own
  own_is =
      let c = old.caller in
      let behind = g.more ++ l.asked.more in
      let own_g : made_by c g.more ≡ [] = ap (λ (d : Caller). made_by d g.more) (sym caller_acted) ∙ g.own in
      let own_l : made_by c l.asked.more ≡ [] = ap (λ (d : Caller). made_by d l.asked.more) (sym caller_got) ∙ l.asked.quiet in
      let own_k : made_by c k.makes.all ≡ k.own = ap (λ (d : Caller). made_by d k.makes.all) (sym (caller_still m)) ∙ k.makes.by_caller in
      made_behind c m.more (k.makes.all ++ behind) m.own ∙ (filter-append _ k.makes.all behind
      ∙ (ap (λ (es : List Entry). made_by c k.makes.all ++ es) (made_behind c g.more l.asked.more own_g ∙ own_l) ∙ (append-nil (made_by c k.makes.all) ∙ own_k)))

  apart_all : All (Made entries) old.gathered
  apart_all =
      let apart_k : All (Made k.makes.all) old.gathered = subst (λ (gs : List Gathered). All (Made k.makes.all) gs) (gathered_still m) k.makes.told.quiet in
      let apart_g : All (Made g.more) old.gathered = subst (λ (gs : List Gathered). All (Made g.more) gs) gathered_acted g.apart in
      let apart_l : All (Made l.asked.more) old.gathered =
      subst (λ (gs : List Gathered). All (Made l.asked.more) gs) gathered_acted (apart_before g l.asked.more l.asked.apart) in
      λ i x s.
      let c = (get_or old.gathered i x).caller in
      made_behind c m.more (k.makes.all ++ (g.more ++ l.asked.more)) (m.apart i x s) ∙ (made_behind c k.makes.all (g.more ++ l.asked.more) (apart_k i x s)
      ∙ (made_behind c g.more l.asked.more (apart_g i x s) ∙ apart_l i x s))

  within_now : AllByRecursion (λ (v : Worker T). IsIn v.memory new) vs
  within_now =
      all_in_still got new l.asked.more vs (ap (λ (v : View). v.shape) l.asked.is) l.asked.seen (apart_since g l.asked.more l.asked.apart) g.workers

  gathered_now : new.gathered ≡ old.gathered ++ crew_of vs
  gathered_now = ap (λ (v : View). v.gathered) l.asked.is ∙ gathered_got

  caller_now : new.caller ≡ old.caller
  caller_now = ap (λ (v : View). v.caller) l.asked.is ∙ caller_got

  shape_now : new.shape ≡ old.shape
  shape_now =
      ap (λ (v : View). v.shape) l.asked.is ∙ (ap (λ (v : View). v.shape) g.is
      ∙ ((keeps.stays drew acted k.own k.makes).shape ∙ ap (λ (v : View). v.shape) m.is))

  finds_got : got.finds ≡ old.finds ++ (m.draws ++ k.makes.told.finds.more)
  finds_got =
      ap (λ (v : View). v.finds) g.is ∙ (k.makes.told.finds.grown ∙ (ap (λ (fs : List Find). fs ++ k.makes.told.finds.more) m.finds
      ∙ append_assoc old.finds m.draws k.makes.told.finds.more))

  undrawn_acts : (f : Find) → In f k.makes.told.finds.more → is_draw f.step ≡ false
  undrawn_acts f i = in_each k.makes.told.finds.more f (recursion_from_All (λ h. is_draw h.step ≡ false) k.makes.told.finds.more k.makes.told.finds.no_draw) i
    where
      in_each : (fs : List Find) (f : Find) → AllByRecursion (λ h. is_draw h.step ≡ false) fs → In f fs → is_draw f.step ≡ false
      in_each [] f h i = absurd i
      in_each (x ∷ fs) f h (inl e) = subst (λ (y : Find). is_draw y.step ≡ false) (sym e) h.0
      in_each (x ∷ fs) f h (inr i) = in_each fs f h.1 i

  module _ (fresh : AllByRecursion (λ (v : Worker T). IsFresh old v.memory.caller) vs) (drew_each : DrewEach m.draws (callers (crew_of vs)))
      (undrawn : AllByRecursion (λ (v : Worker T). NoDraws v.memory) vs) where
    -- the look found every number
    found_whole : IsWhole old → b ≡ true
    found_whole w = l.complete (has_all_drawn old got vs (m.draws ++ k.makes.told.finds.more) caller_got gathered_got finds_got
        (λ f c i draw named. ⊎_elim (λ (a : In f m.draws). drew_among m.draws (callers (crew_of vs)) drew_each f c a named)
        (λ (h : In f k.makes.told.finds.more). let no : true ≡ false = sym draw ∙ undrawn_acts f h in absurd (cc))
        (in_append f m.draws k.makes.told.finds.more i))
        undrawn (w.sound.all_drawn w.whole))

    pub round_beside : GatheredBeside P old new
    round_beside = record {
      more = entries;
      seen = seen_now;
      acts = subst P (sym own_is) k.does;
      apart = apart_all;
      passes = passes_of vs;
      within = each_pass (λ (p : View). IsIn p new) vs within_now;
      crew = crew_of vs;
      are_passes = crew_are vs;
      distinct = crew_apart old new (crew_of vs) gathered_now l.sound;
      fresh = each_caller (IsFresh old) vs fresh;
      gathered = gathered_now;
      shape = shape_now;
      caller = caller_now;
      closes = ap (λ (v : View). v.closes) l.asked.is ∙ (ap (λ (v : View). v.closes) g.is
          ∙ (ap (λ (r : Rest). r.closes) k.makes.told.rest ∙ ap (λ (v : View). v.closes) m.is));
      pages = ap (λ (v : View). v.pages) l.asked.is ∙ (ap (λ (v : View). v.pages) g.is
          ∙ (ap (λ (r : Rest). r.pages) k.makes.told.rest ∙ ap (λ (v : View). v.pages) m.is));
      sweeps = ap (λ (v : View). v.sweeps) l.asked.is ∙ (ap (λ (v : View). v.sweeps) g.is
          ∙ (ap (λ (r : Rest). r.sweeps) k.makes.told.rest ∙ ap (λ (v : View). v.sweeps) m.is));
      whole = λ w. l.whole ∙ found_whole w;
      alone = λ w. only_own_or_crew old new entries (crew_of vs) seen_now caller_now gathered_now apart_all l.sound (l.whole ∙ found_whole w);
      lasts = lasts_by (reached_by entries seen_now shape_now l.sound);
      sound = l.sound;
    }

-- What the memory of the pass did, the pass did.
pub acted_as : (A : Caller → List Entry → Type 0) {old drew memory : View} (acted : View) → memory ≡ drew → Went old drew
    → Did (view_of_pass memory) (view_of_pass acted) (A memory.caller) → Did (view_of_pass drew) (view_of_pass acted) (A old.caller)
acted_as A {old} {drew} {memory} acted is m k =
    subst (λ (c : Caller). Did (view_of_pass drew) (view_of_pass acted) (A c)) (caller_still m)
    (subst (λ (v : View). Did (view_of_pass v) (view_of_pass acted) (A v.caller)) is k)

-- It is outside again.
pub outside_acted : {P : List Entry → Type 0} {pool : Pool} {drew memory acted pass : View} → memory ≡ drew → IsOf pool drew
    → Did (view_of_pass memory) (view_of_pass acted) P → AfterIntoPass acted pass → IsOutside pool pass
outside_acted {pool = pool} {memory = memory} {acted = acted} is of k after =
    after.outside pool (keeps.of pool memory acted (keeps.stays memory acted k.own k.makes) (subst (IsOf pool) (sym is) of))

module _ {T : Type 0} (Does : View → T → T → List Entry → Type 0) {P : List Entry → Type 0} {old drew acted got new : View} {b : Bool} where
  -- All tasks were done.
  pub worked_beside : {tasks done : List T} (ws vs : List (Worker T)) → old.number ≡ no_number → CalledAll old drew tasks ws → AllZip (IsWorked Does) ws vs
      → Did (view_of_pass drew) (view_of_pass acted) P → GatheredCrew acted got vs → Looked got new b → done ≡ tasks_of vs
      → WorkedBeside Does P old new tasks done
  unfolding round_beside
  worked_beside ws vs none d z k g l last =
      let m = d.went in
      let first = tasks_called d in
      let after : callers (crew_of ws) ≡ callers (crew_of vs) = sym (callers_after Does ws vs z) in
      let round = round_beside none m k g l (fresh_after Does old ws vs d.workers z) (subst (λ (cs : List Caller). DrewEach m.draws cs) after d.drew)
      (undrawn_after Does old ws vs d.workers z) in
      record {
        crew = round;
        each = subst (λ (x : List T × List T). AreDone Does round.more round.passes x.0 x.1) (λ i. (sym first i, sym last i))
            (done_all Does old new round.more ws vs d.workers z (within_now none m k g l) round.seen);
      }
