-- How a crew is drawn, works, and is gathered.
use Rattle.std.specs.{Prelude.{◌≡◌, ◌⊎◌, ◌<◌, true, List, [], ◌∷◌, ◌++◌, length, map, reverse, All, None, Result, Ok, Err}, List.{AllByRecursion, AllZip}}
use Rattle.fm_words.specs.declared.shape.Shape.{Shape}
use Rattle.fm_base.specs.{declared.{caller.Caller.{Caller}, refusal.Refusal.{Refusal, TheVariants.{NoPass}}}, Calls.{Entry}, Histories.{made_by}}
use Rattle.fm_base.specs.{Finds.{Find, Gathered, is_draw, is_number}, View.{Did}}
use Rattle.fm_rule_facts.specs.{Hands.{no_number}, Views.{View, In, IsSound}, Splits.{view_of, as_gathered}}
use Rattle.fm_rule_calls.specs.Told.{view_of_pass}
use Rattle.fm_rule.specs.{declared.pool.Pool.{Pool}, Draws.{Gathers}, Passes.{IsOf, GoesOnFrom}}
use Rattle.fm_arena.specs.Learnt.{AfterMeet}
use Rattle.fm_workers_crew.specs.{declared.worker.Worker.{Worker}, Crew.{DrewEach, IsFresh, IsIn, FoundNoNumber, callers}}

-- the pass looked for numbers and at the count of draws, and made no entry
pub record Went (old now : View) : Type 0 where
  pub more : List Entry
  pub seen : now.seen ≡ old.seen ++ more
  pub own : made_by old.caller more ≡ []
  pub apart : All (λ g. made_by g.caller more ≡ []) old.gathered
  pub draws : List Find
  pub finds : now.finds ≡ old.finds ++ draws
  pub only_draws : (f : Find) → In f draws → (is_draw f.step ≡ true) ⊎ (is_number f.step ≡ true)
  pub gathered : (f : Find) → In f draws → f.gathered ≡ length old.gathered
  pub is : now ≡ record old { seen = now.seen; finds = now.finds; whole = now.whole }

-- a pass that was drawn since the old view, and has nothing
pub record IsDrawn (old d : View) : Type 0 where
  pub fresh : IsFresh old d.caller
  pub begun : List Entry
  pub seen : d.seen ≡ old.seen ++ begun
  pub silent : made_by d.caller begun ≡ []
  pub is : d ≡ record (view_of old.shape true d.seen) { home = old.home; caller = d.caller }
  pub sound : IsSound d

-- outside, with nothing: it can be gathered once its memory is taken apart
pub record IsSpare (pool : Pool) (d : View) : Type 0 where
  pub of : IsOf pool d
  pub outside : d.inside ≡ None
  pub no_hold : d.holds ≡ []
  pub no_handle : d.handles ≡ []
  pub no_page : d.pages ≡ []
  pub no_close : d.closes ≡ []
  pub no_sweep : d.sweeps ≡ []
  pub no_other : d.gathered ≡ []

module _ {T : Type 0} where
  -- their tasks, the first worker's last
  abbrev pub tasks_of : List (Worker T) → List T
  tasks_of [] = []
  tasks_of (w ∷ ws) = tasks_of ws ++ w.task ∷ []

  -- what is gathered of their callers, in the same order
  abbrev pub crew_of : List (Worker T) → List Gathered
  crew_of [] = []
  crew_of (w ∷ ws) = crew_of ws ++ as_gathered w.memory ∷ []

  -- their passes, in the same order
  abbrev pub passes_of : List (Worker T) → List View
  passes_of [] = []
  passes_of (w ∷ ws) = passes_of ws ++ w.memory ∷ []

  -- their callers, the first worker's first
  abbrev pub order_of : List (Worker T) → List Caller
  order_of ws = map (λ w. w.memory.caller) ws

  -- these were drawn, one after the other
  pub record DrewCrew (old now : View) (ws : List (Worker T)) : Type 0 where
    pub went : Went old now
    pub drew : DrewEach went.draws (order_of ws)
    pub workers : AllByRecursion (λ w. IsDrawn old w.memory) ws

  abbrev pub EndsDraws : Shape → List T → List Find → Result (Unit {0}) Refusal → Type 0
  EndsDraws z left draws (Ok u) = left ≡ []
  EndsDraws z left draws (Err NoPass) = FoundNoNumber z draws × (0 < length left)
  EndsDraws z left draws (Err r) = ⊥

  -- of `draw_crew`, which takes the last task first
  pub record AfterDraws (old now : View) (tasks left : List T) (ws : List (Worker T)) (result : Result (Unit {0}) Refusal) : Type 0 where
    pub drew : DrewCrew old now ws
    pub parts : tasks ≡ left ++ tasks_of ws
    pub ends : EndsDraws old.shape left drew.went.draws result

  -- of `call_up`, where who was drawn first is the last worker
  pub record CalledUp (old now : View) (tasks left : List T) (ws : List (Worker T)) (result : Result (Unit {0}) Refusal) : Type 0 where
    pub went : Went old now
    pub drew : DrewEach went.draws (callers (crew_of ws))
    pub workers : AllByRecursion (λ w. IsDrawn old w.memory) ws
    pub parts : tasks ≡ left ++ reverse (tasks_of ws)
    pub ends : EndsDraws old.shape left went.draws result

  -- of `call_all`, where each task has a worker
  abbrev pub CalledAll : (old now : View) → (tasks : List T) → List (Worker T) → Type 0
  CalledAll old now tasks ws = CalledUp old now (reverse tasks) [] ws (Ok tt)

  -- a worker before and after its work
  pub record IsWorked (Does : View → T → T → List Entry → Type 0) (old new : Worker T) : Type 0 where
    pub outside : new.memory.inside ≡ None
    pub did : Did (view_of_pass old.memory) (view_of_pass new.memory) (Does new.memory old.task new.task)

  -- these were gathered, and the gatherer made no entry
  pub record GatheredCrew (old new : View) (ws : List (Worker T)) : Type 0 where
    pub more : List Entry
    pub seen : new.seen ≡ old.seen ++ more
    pub own : made_by old.caller more ≡ []
    pub apart : All (λ g. made_by g.caller more ≡ []) old.gathered
    pub is : new ≡ record old { seen = new.seen; gathered = old.gathered ++ crew_of ws }
    pub workers : AllByRecursion (λ w. IsIn w.memory new) ws

  -- of `run_crew`, where each task has a worker that is done with it
  pub record RanCrew (Does : View → T → T → List Entry → Type 0) (pool : Pool) (old now : View) (tasks : List T) (ws : List (Worker T)) : Type 0 where
    pub drawn : List (Worker T)
    pub called : CalledAll old now tasks drawn
    pub worked : AllZip (IsWorked Does) drawn ws
    pub spare : AllByRecursion (λ w. IsSpare pool w.memory) ws

-- each sound pass that has seen as much can do it
abbrev pub CanLater : (View → Type 0) → View → Type 0
CanLater Can old = (p : View) → IsSound p → p.shape ≡ old.shape → GoesOnFrom old.seen p.seen → Can p

-- the pass that is left saw what the gatherer had seen, went on, and was gathered
pub record Finished (Goes : Caller → List Entry → Type 0) (old left new : View) : Type 0 where
  pub cut : View
  pub met : AfterMeet left cut old.seen
  pub last : View
  pub outside : last.inside ≡ None
  pub did : Did (view_of_pass cut) (view_of_pass last) (Goes left.caller)
  pub gathers : Gathers old last no_number new

-- of `gather_then`, where the last one went on once the others were gathered
abbrev pub GatheredThen : {T : Type 0} → (Caller → List Entry → Type 0) → (old new : View) → List (Worker T) → Type 0
GatheredThen Goes old new [] = new ≡ old
GatheredThen Goes old new (w ∷ ws) = (now : View) × GatheredCrew old now ws × Finished Goes now w.memory new
