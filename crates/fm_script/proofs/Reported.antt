-- What the workers of a crew did, worker by worker.
use Rattle.std.proofs.Common.{◌≡◌, ℕ, suc, ◌+◌, ◌<◌, ◌≤◌, List, [], ◌∷◌, ◌++◌, length, length-append, map, get_or, append_assoc, refl, sym, ap, ◌∙◌, subst, arith}
use Rattle.std.{specs.List.{AllByRecursion, flat_map}, proofs.lemmas.List.{length-map, map-append}}
use Rattle.fm_base.specs.{declared.caller.Caller.{Caller}, Calls.{Entry}, Histories.{made_by}}
use Rattle.fm_rule_facts.specs.Views.{View}
use Rattle.fm_script_text.specs.declared.line.Line.{Line}
use Rattle.fm_script_lines.specs.{Numbers.{number_at}, Ordering.{worker_lines}}
use Rattle.fm_script_lines.specs.Report.{Done, AreRun, AreWorked, AreWorkers, is_first, is_worker, lent_names, lines_by, lines_of, runs, worked}
use Rattle.fm_script_lines.{specs.Standings.{Names, standing_at}, proofs.Picking.{worker_lines-push}}
use Rattle.fm_script_lines.specs.Report as report
use Rattle.fm_workers_crew.specs.Crew.{AreDone}
use Rattle.fm_script.specs.{declared.player.Player.{Player}, Players.{IsPlayer, Playing, Plays}, Runs.{AllPlayed, names_lent}}
use Rattle.fm_script.proofs.{After.{lent_next, made_lent}, Finding.{HaveFound, has_found}, Gathered.{lent_only}}

-- the place of a worker's first line, where this many are before it
abbrev pub start_at : List Line → ℕ → ℕ
start_at ls j = length (lines_by is_first ls ++ worker_lines j 1 ls)

pub start_more : (ls : List Line) (j : ℕ) → start_at ls (j + 1) ≡ start_at ls j + length (lines_by (is_worker (j + 1)) ls)
start_more ls j =
    let next : suc j ≡ j + 1 = omega arith in
    let same : 1 + j ≡ j + 1 = omega arith in
    let push : worker_lines (j + 1) 1 ls ≡ worker_lines j 1 ls ++ lines_by (is_worker (j + 1)) ls =
    ap (λ (m : ℕ). worker_lines m 1 ls) (sym next)
    ∙ (worker_lines-push j 1 ls ∙ ap (λ (m : ℕ). worker_lines j 1 ls ++ lines_by (is_worker m) ls) same) in
    ap (λ (xs : List Line). length (lines_by is_first ls ++ xs)) push
    ∙ (ap (λ (xs : List Line). length xs)
    (sym (append_assoc (lines_by is_first ls) (worker_lines j 1 ls) (lines_by (is_worker (j + 1)) ls)))
    ∙ length-append (lines_by is_first ls ++ worker_lines j 1 ls) (lines_by (is_worker (j + 1)) ls))

-- the lines of workers in a row are those of their numbers
pub worked_lines : (ls : List Line) (k : ℕ) (ps : List report.Player) → AreWorkers ls k ps → lines_of (worked ps) ≡ worker_lines (length ps) k ls
worked_lines ls k [] a = refl
worked_lines ls k (p ∷ ps) a =
    map-append (λ (d : Done). d.line) p.dones (worked ps)
    ∙ (ap (λ (xs : List Line). xs ++ lines_of (worked ps)) a.0
    ∙ ap (λ (xs : List Line). lines_by (is_worker k) ls ++ xs) (worked_lines ls (k + 1) ps a.1))

module _ (w : Playing) (more : List Entry) where
  -- what the first lines' names stand for to workers
  abbrev pub lent_firsts : Names
  lent_firsts = lent_names (standing_at [] 0 w.firsts)

  -- These workers' reports: the first has number j + 1
  pub record Reported (j : ℕ) (vs : List View) (ts us : List Player) : Type 0 where
    pub ps : List report.Player
    pub many : length ps ≡ length ts
    pub callers : map (λ p. p.caller) ps ≡ map (λ v. v.caller) vs
    pub told : map (λ u. u.caller) us ≡ map (λ v. v.caller) vs
    pub found : HaveFound vs ps
    pub entries : AllByRecursion (λ p. made_by p.caller more ≡ runs p.dones) ps
    pub lines : AreWorkers w.lines (j + 1) ps
    pub calls : AreWorked (number_at w.names) (start_at w.lines j) lent_firsts ps
    pub lent : names_lent us ≡ map made_lent (worked ps)
    pub replies : flat_map (λ u. u.replies.items) us ≡ map (λ d. d.reply) (worked ps)

  -- these tasks are of the workers from number j + 1 on
  abbrev pub AreTasks : ℕ → List Player → Type 0
  AreTasks j ts = (i : ℕ) (d : Player) → i < length ts → IsPlayer w.lines (j + i + 1) (start_at w.lines (j + i)) (get_or ts i d)

  next_tasks : (j : ℕ) (t : Player) (ts : List Player) → AreTasks j (t ∷ ts) → AreTasks (j + 1) ts
  next_tasks j t ts a i d low =
      let same : j + suc i ≡ j + 1 + i = omega arith in
      let inside : suc i < length (t ∷ ts) = omega (arith, low) in
      subst (λ (n : ℕ). IsPlayer w.lines (n + 1) (start_at w.lines n) (get_or ts i d)) same (a (suc i) d inside)

  pub reported : (j : ℕ) (vs : List View) (ts us : List Player) → length w.firsts ≤ start_at w.lines j → AreTasks j ts
      → AreDone (Plays w) more vs ts us → AllPlayed us → Reported j vs ts us
  reported j [] [] [] low tasks done played = record {
    ps = [];
    many = refl;
    callers = refl;
    told = refl;
    found = tt;
    entries = tt;
    lines = tt;
    calls = tt;
    lent = refl;
    replies = refl;
  }
  reported j [] [] (u ∷ us) low tasks done played = absurd done
  reported j [] (t ∷ ts) us low tasks done played = absurd done
  reported j (v ∷ vs) [] us low tasks done played = absurd done
  reported j (v ∷ vs) (t ∷ ts) [] low tasks done played = absurd done
  reported j (v ∷ vs) (t ∷ ts) (u ∷ us) low tasks done played =
      let plays = done.0 in
      let p = plays.played played.0 in
      let r = p.ran in
      let ds : List Done = r.dones in
      let task : IsPlayer w.lines (j + 1) (start_at w.lines j) t =
      subst (λ (n : ℕ). IsPlayer w.lines (n + 1) (start_at w.lines n) t) (omega arith) (tasks 0 t (omega arith)) in
      let mine : List Line = lines_by (is_worker (j + 1)) w.lines in
      let are : lines_of ds ≡ mine = r.are ∙ ap (λ (m : ℕ). lines_by (is_worker m) w.lines) task.number in
      let further = start_more w.lines j in
      let many : length ds ≡ length mine = sym (length_lines ds) ∙ ap (λ (xs : List Line). length xs) are in
      let behind : start_at w.lines j + length ds ≡ start_at w.lines (j + 1) = omega (arith, further, many) in
      let rest = reported (j + 1) vs ts us (omega (arith, low, further)) (next_tasks j t ts tasks) done.1 played.1 in
      let starts = task.start in
      record {
        ps = record { caller = v.caller; dones = ds } ∷ rest.ps;
        many = ap (λ (n : ℕ). suc n) rest.many;
        callers = ap (λ (xs : List Caller). v.caller ∷ xs) rest.callers;
        told = (λ i. plays.caller i ∷ rest.told i);
        found = (has_found p.before v r, rest.found);
        entries = (p.runs, rest.entries);
        lines = (are, rest.lines);
        calls = (
          subst (λ (n : ℕ). AreRun v.caller (number_at w.names) n lent_firsts ds) (omega (arith, starts))
              (subst (λ (names : Names). AreRun v.caller (number_at w.names) (t.start + 0) names ds)
              (λ i n. lent_only w.firsts t.start n (omega (arith, low, starts)) i)
              (subst (λ (x : Caller). AreRun x (number_at w.names) (t.start + 0) (standing_at w.firsts t.start []) ds) (sym r.went.same_caller) r.calls)),
          subst (λ (n : ℕ). AreWorked (number_at w.names) n lent_firsts rest.ps) (sym behind) rest.calls,
        );
        lent = (λ i. (p.lent ∙ lent_next r (omega (arith, low, starts))) i ++ rest.lent i) ∙ sym (map-append made_lent ds (worked rest.ps));
        replies = (λ i. sym r.replied i ++ rest.replies i) ∙ sym (map-append (λ (d : Done). d.reply) ds (worked rest.ps));
      }
    where
      length_lines : (ds : List Done) → length (lines_of ds) ≡ length ds
      length_lines ds = length-map ds (λ (d : Done). d.line)
