-- What a crew has done, from the first draw to the last look.
use Rattle.std.proofs.Common.{inl, inr, reverse, ◌≡◌, ℕ, ◌+◌, ◌<◌, List, [], ◌∷◌, ◌++◌, length, refl, ap, sym, ◌∙◌, subst, arith, append_assoc, ⊎_elim, All, get_or, None, Ok, Err, Bool, length-append, true, ◌==◌, ◌≤◌}
use Rattle.std.{specs.{Prelude.{slice_index_or}, List.{AllByRecursion, AllZip}}, proofs.lemmas.List.{append-nil, length-reverse}}
use Rattle.fm_base.specs.{declared.{caller.Caller.{Caller}, refusal.Refusal.{Refusal, TheVariants.{Memory, NoPass}}}, Calls.{Entry}, Histories.{made_by}}
use Rattle.fm_base.specs.Finds.{Find, Gathered, is_draw}
use Rattle.fm_words.specs.declared.shape.Shape.{Shape}
use Rattle.fm_rule_facts.{specs.{Hands.{no_number}, Views.{View, In}, Splits.{as_gathered}}, proofs.Keeping.{in_append, in_left, in_right}}
use Rattle.fm_rule.specs.Draws.{Looked}
use Rattle.fm_rule_steps.proofs.Reading.{eqb_true}
use Rattle.fm_rule_calls.{specs.Kept.{Lasts}, proofs.Going.{reached_by, lasts_by}}
use Rattle.fm_workers_crew.specs.declared.worker.Worker.{Worker}
use Rattle.fm_workers_crew.specs.Crew.{DrewEach, IsFresh, IsIn, IsWhole, FoundNoNumber, CrewGathered, CrewWorked, AreDone, EndsCrew, callers}
use Rattle.fm_workers_crew.specs.Rounds.{Went, CalledAll, CalledUp, IsWorked, GatheredCrew, tasks_of, crew_of, passes_of}
use Rattle.fm_workers_crew.proofs.Drawing.{made_behind, caller_still, gathered_still}
use Rattle.fm_workers_crew.proofs.Wholes.{NoDraws, all_drawn_again, crew_apart, finds_again, gathered_again, only_crew}
use Rattle.fm_workers_crew.proofs.{Gathering.{Made, gatherer_still, apart_before, apart_since, all_in_still}, Orders.{drew_among, drew_each_more}}
use Rattle.fm_workers_crew.proofs.{Turning.{moved_back, tasks_called}, Wanting.{IsAgain, too_many}}
use Rattle.fm_workers_crew.proofs.Workers.{zip_all, fresh_all, idle_all, crew_are, each_caller, each_pass, fresh_after, done_all, undrawn_all, undrawn_after, callers_after}

more_found : {z : Shape} {draws : List Find} (fs : List Find) → FoundNoNumber z draws → FoundNoNumber z (draws ++ fs)
more_found fs f = record {
  before = f.before;
  these = f.these;
  after = f.after ++ fs;
  parts = ap (λ (xs : List Find). xs ++ fs) f.parts ∙ (append_assoc f.before (f.these ++ f.after) fs
      ∙ ap (λ (xs : List Find). f.before ++ xs) (append_assoc f.these f.after fs));
  all = f.all;
}

looked_nobody : {got new : View} {b : Bool} (l : Looked got new b) → (f : Find) → In f (l.find ∷ []) → f.drew ≡ None
looked_nobody l f (inl e) = ap (λ (x : Find). x.drew) e ∙ l.none
looked_nobody l f (inr i) = absurd i

module _ {T : Type 0} {old drew got new : View} {vs : List (Worker T)} {b : Bool} (none : old.number ≡ no_number) (m : Went old drew)
    (g : GatheredCrew drew got vs) (l : Looked got new b) where
  round_seen : new.seen ≡ old.seen ++ (m.more ++ (g.more ++ l.asked.more))
  round_seen =
      l.asked.seen ∙ (ap (λ (es : List Entry). es ++ l.asked.more) (g.seen ∙ ap (λ (es : List Entry). es ++ g.more) m.seen)
      ∙ (append_assoc (old.seen ++ m.more) g.more l.asked.more ∙ append_assoc old.seen m.more (g.more ++ l.asked.more)))

  round_own : made_by old.caller (m.more ++ (g.more ++ l.asked.more)) ≡ []
  round_own =
      let own_g : made_by old.caller g.more ≡ [] = ap (λ (c : Caller). made_by c g.more) (sym (caller_still m)) ∙ g.own in
      let own_a : made_by old.caller l.asked.more ≡ [] =
      ap (λ (c : Caller). made_by c l.asked.more) (sym (gatherer_still g ∙ caller_still m)) ∙ l.asked.quiet in
      made_behind old.caller m.more (g.more ++ l.asked.more) m.own ∙ (made_behind old.caller g.more l.asked.more own_g ∙ own_a)

  round_apart : All (Made (m.more ++ (g.more ++ l.asked.more))) old.gathered
  round_apart =
      let apart_g : All (Made g.more) old.gathered = subst (λ (gs : List Gathered). All (Made g.more) gs) (gathered_still m) g.apart in
      let apart_a : All (Made l.asked.more) old.gathered =
      subst (λ (gs : List Gathered). All (Made l.asked.more) gs) (gathered_still m) (apart_before g l.asked.more l.asked.apart) in
      λ i x s. made_behind (get_or old.gathered i x).caller m.more (g.more ++ l.asked.more) (m.apart i x s)
      ∙ (made_behind (get_or old.gathered i x).caller g.more l.asked.more (apart_g i x s) ∙ apart_a i x s)

  round_is : new ≡ record old { seen = new.seen; finds = new.finds; gathered = old.gathered ++ crew_of vs; whole = new.whole }
  round_is =
      l.asked.is ∙ (ap (λ (v : View). record v { seen = new.seen; finds = new.finds; whole = new.whole; number = no_number }) g.is
      ∙ (ap (λ (v : View). record v { seen = new.seen; finds = new.finds; whole = new.whole; number = no_number; gathered = drew.gathered ++ crew_of vs }) m.is
      ∙ (λ i. record old { seen = new.seen; finds = new.finds; whole = new.whole; number = sym none i; gathered = gathered_still m i ++ crew_of vs })))

  within : AllByRecursion (λ (v : Worker T). IsIn v.memory new) vs
  within = all_in_still got new l.asked.more vs (ap (λ (v : View). v.shape) l.asked.is) l.asked.seen (apart_since g l.asked.more l.asked.apart) g.workers

  module _ (fresh : AllByRecursion (λ (v : Worker T). IsFresh old v.memory.caller) vs)
      (drew_each : DrewEach m.draws (callers (crew_of vs))) (undrawn : AllByRecursion (λ (v : Worker T). NoDraws v.memory) vs) where
    -- the look found every number
    found_whole : IsWhole old → b ≡ true
    found_whole w = l.complete (all_drawn_again m g (drew_among m.draws (callers (crew_of vs)) drew_each) undrawn (w.sound.all_drawn w.whole))

    gathered_now : new.gathered ≡ old.gathered ++ crew_of vs
    gathered_now = ap (λ (v : View). v.gathered) round_is

    round : CrewGathered old new
    round = record {
      more = m.more ++ (g.more ++ l.asked.more);
      seen = round_seen;
      own = round_own;
      apart = round_apart;
      passes = passes_of vs;
      within = each_pass (λ (p : View). IsIn p new) vs within;
      crew = crew_of vs;
      are_passes = crew_are vs;
      distinct = crew_apart old new (crew_of vs) gathered_now l.sound;
      fresh = each_caller (IsFresh old) vs fresh;
      draws = m.draws ++ (l.find ∷ []);
      finds = l.asked.found ∙ (ap (λ (fs : List Find). fs ++ (l.find ∷ [])) (finds_again m g) ∙ append_assoc old.finds m.draws (l.find ∷ []));
      only_draws = λ f i. ⊎_elim (m.only_draws f) (l.asked.only f) (in_append f m.draws (l.find ∷ []) i);
      drew = drew_each_more m.draws (l.find ∷ []) (callers (crew_of vs)) drew_each (looked_nobody l);
      is = round_is;
      whole = λ w. l.whole ∙ found_whole w;
      alone = λ w. only_crew old new (m.more ++ (g.more ++ l.asked.more)) (crew_of vs) round_seen (ap (λ (v : View). v.caller) round_is)
          gathered_now round_apart l.sound (l.whole ∙ found_whole w) round_own;
    }

    -- so it found as many as the pass has then
    found_count : IsWhole old → length old.gathered + length (crew_of vs) + 1 ≡ l.find.found
    found_count w =
        let all : (length got.gathered + 1 == l.find.found) ≡ true = sym l.is ∙ found_whole w in
        let long : length got.gathered ≡ length old.gathered + length (crew_of vs) =
        ap (λ (gs : List Gathered). length gs) (gathered_again m g) ∙ length-append old.gathered (crew_of vs) in
        let found = eqb_true (length got.gathered + 1) l.find.found all in
        omega (arith, long, found)

    -- and no fewer than any draw before it
    found_most : IsWhole old → (f : Find) → In f m.draws → is_draw f.step ≡ true → f.found ≤ length old.gathered + length (crew_of vs) + 1
    found_most w f i draw =
        let there : In f got.finds = subst (In f) (sym (finds_again m g)) (in_right f old.finds m.draws i) in
        let step : is_draw l.find.step ≡ true = ap is_draw l.step in
        let most = l.asked.later f l.find (inl there) draw (inl refl) step in
        let count = found_count w in
        omega (arith, most, count)

    -- The pass is whole again, and each find of its draws is among its own.
    again : IsWhole old → IsAgain old new (crew_of vs) m.draws
    again w = record {
      sound = l.sound;
      whole = l.whole ∙ found_whole w;
      number = ap (λ (v : View). v.number) l.asked.is;
      shape = ap (λ (v : View). v.shape) round_is;
      gathered = gathered_now;
      finds = λ f i. subst (In f) (sym l.asked.found)
          (in_left f got.finds (l.find ∷ []) (subst (In f) (sym (finds_again m g)) (in_right f old.finds m.draws i)));
      before = m.gathered;
      count = found_most w;
    }

-- What isn't touched lasts.
pub lasts_none : (p : View) → Lasts p p
lasts_none p = record { given = λ a. omega arith; known = λ a h. h; ended = λ a h. h; no_words = λ a h n. n }

-- Nobody was drawn.
unfoldable pub nobody : (p : View) → CrewGathered p p
nobody p = record {
  more = [];
  seen = sym (append-nil p.seen);
  own = refl;
  apart = λ i g l. refl;
  passes = [];
  within = tt;
  crew = [];
  are_passes = refl;
  distinct = tt;
  fresh = tt;
  draws = [];
  finds = sym (append-nil p.finds);
  only_draws = λ f i. absurd i;
  drew = λ f i. absurd i;
  is = λ i. record p { gathered = sym (append-nil p.gathered) i };
  whole = λ w. w.whole;
  alone = λ w. tt;
}

module _ {T : Type 0} where
  length_crew : (ws : List (Worker T)) → length (crew_of ws) ≡ length ws
  length_crew [] = refl
  length_crew (w ∷ ws) = let a = length-append (crew_of ws) (as_gathered w.memory ∷ []) in let b = length_crew ws in omega (arith, a, b)

  length_tasks : (ws : List (Worker T)) → length (tasks_of ws) ≡ length ws
  length_tasks [] = refl
  length_tasks (w ∷ ws) = let a = length-append (tasks_of ws) (w.task ∷ []) in let b = length_tasks ws in omega (arith, a, b)

  -- Memory was wanting, and nothing was done.
  pub crew_none : (Does : View → T → T → List Entry → Type 0) (p : View) (tasks : List T) → CrewWorked Does p p tasks tasks (Err Memory)
  unfolding nobody
  crew_none Does p tasks = record {
    crew = nobody p;
    ends = (refl, refl, refl, refl);
    wanting = λ w e. absurd (cc);
    lasts = lasts_none p;
    sound = λ ne. absurd (ne refl);
    still_sound = λ h. h;
  }

  pub zip_worked : (Does : View → T → T → List Entry → Type 0) (ws us vs : List (Worker T)) → us ≡ ws → length vs ≡ length us
      → ((i : ℕ) (d : Worker T) → i < length us → IsWorked Does (slice_index_or us i d) (slice_index_or vs i d)) → AllZip (IsWorked Does) ws vs
  zip_worked Does ws us vs val len worked = subst (λ (xs : List (Worker T)). AllZip (IsWorked Does) xs vs) val (zip_all (IsWorked Does) us vs len worked)

module _ {T : Type 0} (Does : View → T → T → List Entry → Type 0) {old drew got new : View} {b : Bool} where
  -- All tasks were done.
  pub crew_worked : {tasks done : List T} (ws vs : List (Worker T)) → old.number ≡ no_number → CalledAll old drew tasks ws
      → AllZip (IsWorked Does) ws vs → GatheredCrew drew got vs → Looked got new b → done ≡ tasks_of vs → CrewWorked Does old new tasks done (Ok tt)
  unfolding round
  crew_worked ws vs none d z g l last =
      let m = d.went in
      let first = tasks_called d in
      let made = done_all Does old new (m.more ++ (g.more ++ l.asked.more)) ws vs d.workers z (within none m g l) (round_seen none m g l) in
      let after : callers (crew_of ws) ≡ callers (crew_of vs) = sym (callers_after Does ws vs z) in
      record {
        crew = round none m g l (fresh_after Does old ws vs d.workers z) (subst (λ (cs : List Caller). DrewEach m.draws cs) after d.drew)
            (undrawn_after Does old ws vs d.workers z);
        ends = subst (λ (x : List T × List T). AreDone Does (m.more ++ (g.more ++ l.asked.more)) (passes_of vs) x.0 x.1)
            (λ i. (sym first i, sym last i)) made;
        wanting = λ w e. absurd (cc);
        lasts = lasts_by (reached_by (m.more ++ (g.more ++ l.asked.more)) (round_seen none m g l) (ap (λ (v : View). v.shape) (round_is none m g l)) l.sound);
        sound = λ ne. l.sound;
        still_sound = λ h. l.sound;
      }

  -- A pass was wanting, and no task was begun.
  pub crew_refused : {todo tasks left done : List T} (ws : List (Worker T)) (r : Refusal) → old.number ≡ no_number → CalledUp old drew todo left ws (Err r)
      → GatheredCrew drew got ws → Looked got new b → todo ≡ reverse tasks → done ≡ tasks_of ws ++ reverse left → CrewWorked Does old new tasks done (Err r)
  unfolding round
  crew_refused {tasks = tasks} {left = left} {done = done} ws NoPass none d g l turned back =
      let m = d.went in
      let first : tasks ≡ tasks_of ws ++ reverse left = moved_back tasks left ws turned d.parts in
      let long : length tasks ≡ length (tasks_of ws) + length (reverse left) =
      ap (λ (ts : List T). length ts) first ∙ length-append (tasks_of ws) (reverse left) in
      let as_many = length_tasks ws in
      let so_many = length_crew ws in
      let over = length-reverse left in
      let some = d.ends.1 in
      let fresh = fresh_all old ws d.workers in
      let undrawn = undrawn_all old ws d.workers in
      let less : length (crew_of ws) < length tasks = omega (arith, long, as_many, so_many, over, some) in
      record {
        crew = round none m g l fresh d.drew undrawn;
        ends = (
          more_found (l.find ∷ []) d.ends.0,
          less,
          each_caller (λ c. made_by c (m.more ++ (g.more ++ l.asked.more)) ≡ []) ws
              (idle_all old new (m.more ++ (g.more ++ l.asked.more)) ws d.workers (within none m g l) (round_seen none m g l)),
          back ∙ sym first,
        );
        wanting = λ w e. too_many (again none m g l fresh d.drew undrawn w) (length tasks) less d.ends.0;
        lasts = lasts_by (reached_by (m.more ++ (g.more ++ l.asked.more)) (round_seen none m g l) (ap (λ (v : View). v.shape) (round_is none m g l)) l.sound);
        sound = λ ne. l.sound;
        still_sound = λ h. l.sound;
      }
  crew_refused ws r none d g l turned back = absurd d.ends

-- A refusal says nothing of what a task comes to.
pub refused_by : {T : Type 0} {Does Other : View → T → T → List Entry → Type 0} {old new : View} {tasks done : List T} (r : Refusal)
    → CrewWorked Does old new tasks done (Err r) → CrewWorked Other old new tasks done (Err r)
refused_by {T} {Does} {Other} {old} {tasks = tasks} {done = done} r w = record {
  crew = w.crew;
  ends = ends r w.ends;
  wanting = w.wanting;
  lasts = w.lasts;
  sound = w.sound;
  still_sound = w.still_sound;
}
  where
    ends : (q : Refusal) → EndsCrew Does old.shape tasks done w.crew.more w.crew.passes w.crew.crew w.crew.draws (Err q)
        → EndsCrew Other old.shape tasks done w.crew.more w.crew.passes w.crew.crew w.crew.draws (Err q)
    ends NoPass h = h
    ends Memory h = h
    ends q h = absurd h
