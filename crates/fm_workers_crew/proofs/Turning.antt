-- A crew that was drawn one by one, the last drawn first.
use Rattle.std.{proofs.Common.{◌≡◌, List, [], ◌∷◌, ◌++◌, Result, Ok, refl, reverse, ap, sym, ◌∙◌, subst}, specs.List.{AllByRecursion}}
use Rattle.std.proofs.lemmas.List.{append-nil, reverse-append, reverse-reverse}
use Rattle.fm_base_lists.proofs.Each.{all_both}
use Rattle.fm_base.specs.{declared.{caller.Caller.{Caller}, refusal.Refusal.{Refusal}}, Finds.{Gathered}}
use Rattle.fm_rule_facts.specs.{Views.{View}, Splits.{as_gathered}}
use Rattle.fm_workers_crew.specs.{declared.worker.Worker.{Worker}, Crew.{DrewEach, callers}}
use Rattle.fm_workers_crew.{specs.Rounds.{AfterDraws, CalledAll, CalledUp, IsDrawn, crew_of, order_of, tasks_of}, proofs.Drawing.{tasks_push}}

-- The first stands last then.
turn_cons : {X : Type 0} (x : X) (xs : List X) → reverse (x ∷ xs) ≡ reverse xs ++ x ∷ []
turn_cons {X} x xs = reverse-append (x ∷ []) xs

-- What holds of all holds of them in any order.
all_turned : {X : Type 0} (P : X → Type 0) (xs : List X) → AllByRecursion P xs → AllByRecursion P (reverse xs)
all_turned P [] h = tt
all_turned {X} P (x ∷ xs) h =
    subst (λ (ys : List X). AllByRecursion P ys) (sym (turn_cons x xs)) (all_both P (reverse xs) (x ∷ []) (all_turned P xs h.1) (h.0, tt))

module _ {T : Type 0} where
  -- What is gathered of the last worker comes first.
  crew_push : (ws : List (Worker T)) (w : Worker T) → crew_of (ws ++ w ∷ []) ≡ as_gathered w.memory ∷ crew_of ws
  crew_push [] w = refl
  crew_push (v ∷ ws) w = ap (λ (gs : List Gathered). gs ++ as_gathered v.memory ∷ []) (crew_push ws w)

  -- Their callers stand in the order in which they were drawn.
  crew_turned : (ws : List (Worker T)) → callers (crew_of (reverse ws)) ≡ order_of ws
  crew_turned [] = refl
  crew_turned (w ∷ ws) =
      ap (λ (us : List (Worker T)). callers (crew_of us)) (turn_cons w ws) ∙ (ap (λ (gs : List Gathered). callers gs) (crew_push (reverse ws) w)
      ∙ ap (λ (cs : List Caller). w.memory.caller ∷ cs) (crew_turned ws))

  -- Their tasks stand in that order too.
  tasks_turned : (ws : List (Worker T)) → reverse (tasks_of (reverse ws)) ≡ tasks_of ws
  tasks_turned [] = refl
  tasks_turned (w ∷ ws) =
      ap (λ (us : List (Worker T)). reverse (tasks_of us)) (turn_cons w ws) ∙ (ap (λ (ts : List T). reverse ts) (tasks_push (reverse ws) w)
      ∙ (turn_cons w.task (tasks_of (reverse ws)) ∙ ap (λ (ts : List T). ts ++ w.task ∷ []) (tasks_turned ws)))

  -- The crew as it is called up is what was drawn, turned.
  pub called_up : {old now : View} {tasks left : List T} {ws us : List (Worker T)} {r : Result (Unit {0}) Refusal} → us ≡ reverse ws
      → AfterDraws old now tasks left ws r → CalledUp old now tasks left us r
  called_up {old = old} {now = now} {tasks = tasks} {left = left} {ws = ws} {r = r} e a =
      subst (λ (xs : List (Worker T)). CalledUp old now tasks left xs r) (sym e)
      (record {
        went = a.drew.went;
        drew = subst (λ (cs : List Caller). DrewEach a.drew.went.draws cs) (sym (crew_turned ws)) a.drew.drew;
        workers = all_turned (λ (w : Worker T). IsDrawn old w.memory) ws a.drew.workers;
        parts = a.parts ∙ ap (λ (ts : List T). left ++ ts) (sym (tasks_turned ws));
        ends = a.ends;
      })

  -- What was moved twice stands as before.
  pub moved_back : (tasks left : List T) {todo : List T} (ws : List (Worker T)) → todo ≡ reverse tasks → todo ≡ left ++ reverse (tasks_of ws)
      → tasks ≡ tasks_of ws ++ reverse left
  moved_back tasks left ws e d =
      sym (reverse-reverse tasks) ∙ (ap (λ (ts : List T). reverse ts) (sym e ∙ d) ∙ (reverse-append left (reverse (tasks_of ws))
      ∙ ap (λ (ts : List T). ts ++ reverse left) (reverse-reverse (tasks_of ws))))

  -- All tasks have a worker where none is left.
  pub called_all : (tasks : List T) {todo left : List T} {old now : View} {ws : List (Worker T)} {u : Unit {0}} → todo ≡ reverse tasks
      → CalledUp old now todo left ws (Ok u) → CalledAll old now tasks ws
  called_all tasks {ws = ws} turned d = record {
    went = d.went;
    drew = d.drew;
    workers = d.workers;
    parts = sym turned ∙ d.parts ∙ ap (λ (ts : List T). ts ++ reverse (tasks_of ws)) d.ends;
    ends = refl;
  }

  pub tasks_called : {old now : View} {tasks : List T} {ws : List (Worker T)} → CalledAll old now tasks ws → tasks ≡ tasks_of ws
  tasks_called {tasks = tasks} {ws = ws} d = moved_back tasks [] ws refl d.parts ∙ append-nil (tasks_of ws)
