-- What a crew has done whose last pass went on, from the first draw to the last look.
use Rattle.std.proofs.Common.{◌≡◌, List, [], ◌∷◌, ◌++◌, map, refl, ap, sym, ◌∙◌, subst, append_assoc, Bool, Ok, Err}
use Rattle.std.{specs.{Prelude.{⊤}, List.{AllByRecursion, AllZip}}, proofs.lemmas.List.{append-nil, Elements.{filter-append}}}
use Rattle.fm_base.{specs.{declared.{caller.Caller.{Caller}, refusal.Refusal.{Refusal}}, Calls.{Entry}, Finds.{Gathered}, Histories.{made_by}}, proofs.Making.{Makes-then}}
use Rattle.fm_rule_facts.specs.{Hands.{no_number}, Views.{View, IsSound}, Splits.{as_gathered}}
use Rattle.fm_rule.specs.{declared.pool.Pool.{Pool}, Draws.{Looked}, Passes.{IsOf}}
use Rattle.fm_rule_calls.{specs.{Told.{view_of_pass}}, proofs.{Going.{lasts_by, reached_by}, Telling.{did_of}}}
use Rattle.fm_workers_crew.specs.{declared.worker.Worker.{Worker}, Crew.{AreDone, AreIdle, CrewGathered, CrewRefused, CrewWorked, IsIn, callers}}
use Rattle.fm_workers_crew.specs.Rounds.{Finished, GatheredCrew, GatheredThen, IsSpare, IsWorked, RanCrew, crew_of, passes_of, tasks_of}
use Rattle.fm_workers_crew.specs.Then.{CrewWentOn, DoneBefore, GoesOn}
use Rattle.fm_workers_crew.proofs.{Callers.{callers_of}, Drawing.{made_behind, nil_left, nil_right}, Turning.{tasks_called}, Wholes.{gathered_again}, Working.{crew_worked, refused_by}}
use Rattle.fm_workers_crew.proofs.Staying.{spare_on}
use Rattle.fm_workers_crew.proofs.Gathering.{all_in_still, apart_since, gathered_more, gathered_none, in_still}
use Rattle.fm_workers_crew.proofs.Workers.{callers_push, crew_are, done_all, each_caller, each_pass, same_behind}

-- ---- who made nothing since

-- Who is in a history made none of what came since.
quiet_since : {d now new : View} (xs ys : List Entry) → IsIn d now → IsIn d new → new.seen ≡ now.seen ++ (xs ++ ys)
    → (made_by d.caller xs ≡ []) × (made_by d.caller ys ≡ [])
quiet_since {d} xs ys i j seen =
    let c = d.caller in
    let both : d.seen ++ j.rest ≡ d.seen ++ (i.rest ++ (xs ++ ys)) =
    sym j.seen ∙ (seen ∙ (ap (λ (es : List Entry). es ++ (xs ++ ys)) i.seen ∙ append_assoc d.seen i.rest (xs ++ ys))) in
    let rest = same_behind d.seen j.rest (i.rest ++ (xs ++ ys)) both in
    let none : made_by c (xs ++ ys) ≡ [] = sym (made_behind c i.rest (xs ++ ys) i.quiet) ∙ (ap (made_by c) (sym rest) ∙ j.quiet) in
    let split : made_by c xs ++ made_by c ys ≡ [] = sym (filter-append _ xs ys) ∙ none in
    (nil_left (made_by c xs) (made_by c ys) split, nil_right (made_by c xs) (made_by c ys) split)

-- With no task there is no worker, and no pass.
no_worker : {T : Type 0} (ws : List (Worker T)) → tasks_of ws ≡ [] → ws ≡ []
no_worker [] e = refl
no_worker (w ∷ ws) e = let none = nil_right (tasks_of ws) (w.task ∷ []) e in absurd (cc)

no_pass : {T : Type 0} (Does : View → T → T → List Entry → Type 0) (more : List Entry) (ps : List View) (us : List T) → AreDone Does more ps [] us → ps ≡ []
no_pass Does more [] us h = refl
no_pass Does more (p ∷ ps) us h = absurd h

-- The last of some goes on.
goes_last : (Goes : Caller → List Entry → Type 0) (es : List Entry) (cs others : List Caller) (c : Caller) → cs ≡ others ++ c ∷ [] → AreIdle es others
    → Goes c (made_by c es) → GoesOn Goes es cs
goes_last Goes es [] [] c are quiet goes = absurd (cc)
goes_last Goes es [] (d ∷ others) c are quiet goes = absurd (cc)
goes_last Goes es (d ∷ cs) others c are quiet goes = record { others = others; last = c; are = are; quiet = quiet; goes = goes }

-- ---- the crew as a whole

-- whatever a task came to
abbrev Anyhow : {T : Type 0} → View → T → T → List Entry → Type 0
Anyhow p t u own = ⊤

module _ {T : Type 0} (Does : View → T → T → List Entry → Type 0) where
  anyhow : (ws vs : List (Worker T)) → AllZip (IsWorked Does) ws vs → AllZip (IsWorked Anyhow) ws vs
  anyhow [] [] z = tt
  anyhow [] (v ∷ vs) z = absurd z
  anyhow (w ∷ ws) [] z = absurd z
  anyhow (w ∷ ws) (v ∷ vs) z =
      (record { outside = z.0.outside; did = record { own = z.0.did.own; does = tt; makes = z.0.did.makes } }, anyhow ws vs z.1)

  module _ {Goes : Caller → List Entry → Type 0} {mid got : View} (u : Worker T) (f : Finished Goes mid u.memory got) where
    -- the worker that is left, as it is gathered
    abbrev gone : Worker T
    gone = record u { memory = f.last }

    gone_caller : f.last.caller ≡ u.memory.caller
    gone_caller = f.did.makes.same_caller ∙ f.met.did.goes.same_caller

    -- Its work and what it did since is one work.
    worked_on : (w : Worker T) → IsWorked Does w u → IsWorked Anyhow w gone
    worked_on w k =
        let m = did_of u.memory f.cut (λ own. own ≡ []) f.met.did in
        record {
          outside = f.outside;
          did = record {
            own = (k.did.own ++ m.own) ++ f.did.own;
            does = tt;
            makes = Makes-then (view_of_pass w.memory) (view_of_pass f.cut) (view_of_pass f.last) (k.did.own ++ m.own) f.did.own
                (Makes-then (view_of_pass w.memory) (view_of_pass u.memory) (view_of_pass f.cut) k.did.own m.own k.did.makes m.makes) f.did.makes;
          };
        }

    all_worked_on : (ws us : List (Worker T)) → AllZip (IsWorked Does) ws (u ∷ us) → AllZip (IsWorked Anyhow) ws (gone ∷ us)
    all_worked_on [] us z = absurd z
    all_worked_on (w ∷ ws) us z = (worked_on w z.0, anyhow ws us z.1)

module _ {T : Type 0} (Does : View → T → T → List Entry → Type 0) (Goes : Caller → List Entry → Type 0) {pool : Pool} {old drew mid got new : View} {b : Bool}
    {tasks : List T} (of : IsOf pool old) (none : old.number ≡ no_number) (u : Worker T) (us : List (Worker T)) (ran : RanCrew Does pool old drew tasks (u ∷ us))
    (g : GatheredCrew drew mid us) (f : Finished Goes mid u.memory got) (l : Looked got new b) where
  abbrev last : Worker T
  last = gone Does u f

  mid_shape : mid.shape ≡ old.shape
  mid_shape = ap (λ (v : View). v.shape) g.is ∙ ap (λ (v : View). v.shape) ran.called.went.is

  last_spare : IsSpare pool f.last
  last_spare = spare_on ran.spare.0 f.met f.did f.outside

  -- all of them were gathered
  all_gathered : GatheredCrew drew got (last ∷ us)
  all_gathered = gathered_more g last (ap (λ (v : View). v.number) ran.called.went.is ∙ none) last_spare.no_other
      (last_spare.of.1 ∙ (sym of.1 ∙ sym mid_shape)) f.gathers

  pub as_crew : (done : List T) → done ≡ tasks_of (u ∷ us) → CrewWorked Anyhow old new tasks done (Ok tt)
  as_crew done is =
      crew_worked Anyhow ran.drawn (last ∷ us) none ran.called (all_worked_on Does u f ran.drawn us ran.worked) all_gathered l is

  within : AllByRecursion (λ (v : Worker T). IsIn v.memory new) (last ∷ us)
  within = all_in_still got new l.asked.more (last ∷ us) (ap (λ (v : View). v.shape) l.asked.is) l.asked.seen
      (apart_since all_gathered l.asked.more l.asked.apart) all_gathered.workers

  abbrev since : List Entry
  since = f.met.met.0

  abbrev before : List Entry
  before = (ran.called.went.more ++ g.more) ++ since

  abbrev behind : List Entry
  behind = f.did.makes.all ++ within.0.rest

  seen_cut : f.cut.seen ≡ old.seen ++ before
  seen_cut =
      let m = ran.called.went in
      f.met.met.1 ∙ (ap (λ (es : List Entry). es ++ since) (g.seen ∙ (ap (λ (es : List Entry). es ++ g.more) m.seen ∙ append_assoc old.seen m.more g.more))
      ∙ append_assoc old.seen (m.more ++ g.more) since)

  seen_behind : new.seen ≡ f.cut.seen ++ behind
  seen_behind =
      within.0.seen ∙ (ap (λ (es : List Entry). es ++ within.0.rest) f.did.makes.told.seen ∙ append_assoc f.cut.seen f.did.makes.all within.0.rest)

  seen_since : new.seen ≡ mid.seen ++ (since ++ behind)
  seen_since = seen_behind ∙ (ap (λ (es : List Entry). es ++ behind) f.met.met.1 ∙ append_assoc mid.seen since behind)

  shape_cut : f.cut.shape ≡ old.shape
  shape_cut = f.met.did.goes.same_shape ∙ (ran.spare.0.of.1 ∙ sym of.1)

  -- none of the others made an entry since it was gathered
  others_in_cut : (vs : List (Worker T)) → AllByRecursion (λ (v : Worker T). IsIn v.memory mid) vs → AllByRecursion (λ (v : Worker T). IsIn v.memory new) vs
      → AllByRecursion (λ (v : Worker T). IsIn v.memory f.cut) vs
  others_in_cut [] i j = tt
  others_in_cut (v ∷ vs) i j =
      (in_still since (shape_cut ∙ sym mid_shape) f.met.met.1 (quiet_since since behind i.0 j.0 seen_since).0 i.0, others_in_cut vs i.1 j.1)

  others_quiet : (vs : List (Worker T)) → AllByRecursion (λ (v : Worker T). IsIn v.memory mid) vs → AllByRecursion (λ (v : Worker T). IsIn v.memory new) vs
      → AllByRecursion (λ (v : Worker T). made_by v.memory.caller behind ≡ []) vs
  others_quiet [] i j = tt
  others_quiet (v ∷ vs) i j = ((quiet_since since behind i.0 j.0 seen_since).1, others_quiet vs i.1 j.1)

  in_cut : AllByRecursion (λ (v : Worker T). IsIn v.memory f.cut) (u ∷ us)
  in_cut =
      let m = f.met.did in
      (record { shape = sym m.goes.same_shape; rest = m.goes.more; seen = m.goes.seen; quiet = m.goes.by_pass ∙ m.does }, others_in_cut us g.workers within.1)

  -- what it did since it has seen that
  goes_behind : Goes u.memory.caller (made_by u.memory.caller behind)
  goes_behind =
      let c = u.memory.caller in
      let own : made_by c f.did.makes.all ≡ f.did.own = ap (λ (d : Caller). made_by d f.did.makes.all) (sym f.met.did.goes.same_caller) ∙ f.did.makes.by_caller in
      let quiet : made_by c within.0.rest ≡ [] = ap (λ (d : Caller). made_by d within.0.rest) (sym (gone_caller Does u f)) ∙ within.0.quiet in
      subst (Goes c) (sym (filter-append _ f.did.makes.all within.0.rest ∙ (ap (λ (es : List Entry). made_by c f.did.makes.all ++ es) quiet
      ∙ (append-nil (made_by c f.did.makes.all) ∙ own)))) f.did.does

  module _ (crew : CrewGathered old new) where
    crew_is : crew.crew ≡ crew_of (last ∷ us)
    crew_is = same_behind old.gathered crew.crew (crew_of (last ∷ us)) (sym (ap (λ (v : View). v.gathered) crew.is)
        ∙ (ap (λ (v : View). v.gathered) l.asked.is ∙ gathered_again ran.called.went all_gathered))

    callers_are : callers crew.crew ≡ callers (crew_of us) ++ u.memory.caller ∷ []
    callers_are = ap (λ (gs : List Gathered). callers gs) crew_is ∙ (callers_push (crew_of us) (as_gathered f.last)
        ∙ ap (λ (c : Caller). callers (crew_of us) ++ c ∷ []) (gone_caller Does u f))

    parts_are : crew.more ≡ before ++ behind
    parts_are = same_behind old.seen crew.more (before ++ behind) (sym crew.seen ∙ (seen_behind ∙ (ap (λ (es : List Entry). es ++ behind) seen_cut
        ∙ append_assoc old.seen before behind)))

    pub done_before : (done : List T) → done ≡ tasks_of (u ∷ us) → DoneBefore Does Goes crew tasks done
    done_before done is =
        let first : tasks ≡ tasks_of ran.drawn = tasks_called ran.called in
        record {
          cut = f.cut;
          before = before;
          behind = behind;
          parts = parts_are;
          seen = seen_cut;
          shape = shape_cut;
          sound = f.met.did.goes.sound;
          lasts = lasts_by (reached_by before seen_cut shape_cut f.met.did.goes.sound);
          worked = passes_of (u ∷ us);
          are = callers_of (passes_of (u ∷ us)) ∙ (ap (λ (gs : List Gathered). callers gs) (sym (crew_are (u ∷ us)))
              ∙ (callers_push (crew_of us) (as_gathered u.memory) ∙ sym callers_are));
          within = each_pass (λ (p : View). IsIn p f.cut) (u ∷ us) in_cut;
          each = subst (λ (x : List T × List T). AreDone Does before (passes_of (u ∷ us)) x.0 x.1) (λ i. (sym first i, sym is i))
              (done_all Does old f.cut before ran.drawn (u ∷ us) ran.called.workers ran.worked in_cut seen_cut);
          goes = goes_last Goes behind (callers crew.crew) (callers (crew_of us)) u.memory.caller callers_are
              (each_caller (λ (c : Caller). made_by c behind ≡ []) us (others_quiet us g.workers within.1)) goes_behind;
        }

-- With no task the cut is the end.
none_done : {T : Type 0} (Does : View → T → T → List Entry → Type 0) (Goes : Caller → List Entry → Type 0) {old new : View} {done : List T}
    → (w : CrewWorked Does old new [] done (Ok tt)) → IsSound new → DoneBefore Does Goes w.crew [] done
none_done Does Goes {old} {new} {done} w sound =
    let crew = w.crew in
    let empty = no_pass Does crew.more crew.passes done w.ends in
    let callers_none : callers crew.crew ≡ [] = ap (λ (gs : List Gathered). callers gs) crew.are_passes ∙ ap (λ (ps : List View). callers (map as_gathered ps)) empty in
    record {
      cut = new;
      before = crew.more;
      behind = [];
      parts = sym (append-nil crew.more);
      seen = crew.seen;
      shape = ap (λ (v : View). v.shape) crew.is;
      sound = sound;
      lasts = w.lasts;
      worked = crew.passes;
      are = callers_of crew.passes ∙ ap (λ (gs : List Gathered). callers gs) (sym crew.are_passes);
      within = crew.within;
      each = w.ends;
      goes = subst (λ (cs : List Caller). GoesOn Goes [] cs) (sym callers_none) refl;
    }

-- ---- what comes of it

module _ {T : Type 0} (Does : View → T → T → List Entry → Type 0) {pool : Pool} {old drew : View} {tasks : List T} where
  pub no_crew : (ws : List (Worker T)) → RanCrew Does pool old drew tasks ws → tasks ≡ [] → ws ≡ []
  no_crew ws ran none = left ws (subst (λ (us : List (Worker T)). AllZip (IsWorked Does) us ws)
      (no_worker ran.drawn (sym (tasks_called ran.called) ∙ none)) ran.worked)
    where
      left : (vs : List (Worker T)) → AllZip (IsWorked Does) [] vs → vs ≡ []
      left [] z = refl
      left (v ∷ vs) z = absurd z

  no_task : RanCrew Does pool old drew tasks [] → tasks ≡ []
  no_task ran = tasks_called ran.called ∙ left ran.drawn ran.worked
    where
      left : (ws : List (Worker T)) → AllZip (IsWorked Does) ws [] → tasks_of ws ≡ []
      left [] z = refl
      left (w ∷ ws) z = absurd z

  -- All tasks were done, and the last one went on.
  pub crew_went_on : (Goes : Caller → List Entry → Type 0) {got new : View} {b : Bool} {done : List T} (ws : List (Worker T)) → IsOf pool old
      → old.number ≡ no_number → RanCrew Does pool old drew tasks ws → GatheredThen Goes drew got ws → Looked got new b → done ≡ tasks_of ws
      → CrewWentOn Does Goes old new tasks done (Ok tt)
  crew_went_on Goes {got} {new} {done = done} [] of none ran g l is =
      let w = crew_worked Does ran.drawn [] none ran.called ran.worked
      (subst (λ (v : View). GatheredCrew {T = T} drew v []) (sym g) (gathered_none drew)) l is in
      subst (λ (ts : List T). CrewWentOn Does Goes old new ts done (Ok tt)) (sym (no_task ran))
      (as_went (subst (λ (ts : List T). CrewWorked Does old new ts done (Ok tt)) (no_task ran) w) l.sound)
    where
      as_went : CrewWorked Does old new [] done (Ok tt) → IsSound new → CrewWentOn Does Goes old new [] done (Ok tt)
      as_went w sound = record {
        crew = w.crew;
        ends = none_done Does Goes w sound;
        wanting = λ h e. absurd (cc);
        lasts = w.lasts;
        sound = w.sound;
        still_sound = w.still_sound;
      }
  crew_went_on Goes {got} {new} {done = done} (u ∷ us) of none ran g l is =
      let w = as_crew Does Goes of none u us ran g.1 g.2 l done is in
      record {
        crew = w.crew;
        ends = done_before Does Goes of none u us ran g.1 g.2 l w.crew done is;
        wanting = λ h e. absurd (cc);
        lasts = w.lasts;
        sound = w.sound;
        still_sound = w.still_sound;
      }

-- A refusal says nothing of what a task comes to, nor of what comes then.
pub then_refused : {T : Type 0} (Does : View → T → T → List Entry → Type 0) (Goes : Caller → List Entry → Type 0) {old new : View} {tasks done : List T}
    (r : Refusal) → CrewRefused old new tasks done r → CrewWentOn Does Goes old new tasks done (Err r)
then_refused {T} Does Goes {old} {tasks = tasks} {done = done} r w =
    let v = refused_by {Other = Does} r w in
    record {
      crew = v.crew;
      ends = v.ends;
      wanting = v.wanting;
      lasts = v.lasts;
      sound = v.sound;
      still_sound = v.still_sound;
    }
