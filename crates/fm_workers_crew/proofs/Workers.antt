-- What each worker did, and what its pass has found.
use Rattle.std.proofs.Common.{inl, inr, ◌≡◌, ℕ, suc, ◌<◌, List, [], ◌∷◌, ◌++◌, length, map, refl, ap, sym, ◌∙◌, subst, arith, append_assoc, None, false}
use Rattle.std.{specs.{Prelude.{slice_index_or}, List.{AllByRecursion, AllZip}}, proofs.lemmas.List.{append-nil, map-append}}
use Rattle.std.proofs.lemmas.List.Elements.{filter-append, recursion_from_All}
use Rattle.fm_base_lists.proofs.Each.{all_both, all_split}
use Rattle.fm_base.specs.{declared.caller.Caller.{Caller}, Calls.{Entry}, Histories.{made_by}, Finds.{Find, Gathered, Rest, is_draw}, View.{Did}}
use Rattle.fm_rule_facts.specs.{Views.{View, In}, Splits.{as_gathered}}
use Rattle.fm_rule.specs.{declared.pool.Pool.{Pool}, Passes.{IsOf}}
use Rattle.fm_rule_calls.{specs.{Kept.{Lasts}, Told.{view_of_pass}}, proofs.Going.{reached_by, lasts_by}}
use Rattle.fm_arena.{specs.Lasting.{SamePool}, proofs.Lasting.{keeps}}
use Rattle.fm_workers_crew.specs.{declared.worker.Worker.{Worker}, Crew.{IsFresh, IsIn, AreDone, callers}}
use Rattle.fm_workers_crew.{specs.Rounds.{IsDrawn, IsSpare, IsWorked, tasks_of, crew_of, passes_of}, proofs.{Drawing.{made_behind}, Wholes.{NoDraws}}}

-- What stands behind the same list is the same.
pub same_behind : {X : Type 0} (xs ys zs : List X) → xs ++ ys ≡ xs ++ zs → ys ≡ zs
same_behind [] ys zs e = e
same_behind (x ∷ xs) ys zs e = same_behind xs ys zs (cc)

-- ---- one worker

spare_drawn : {pool : Pool} {old d : View} → IsOf pool old → IsDrawn old d → IsSpare pool d
spare_drawn of n = record {
  of = (ap (λ (v : View). v.home) n.is ∙ of.0, ap (λ (v : View). v.shape) n.is ∙ of.1);
  outside = ap (λ (v : View). v.inside) n.is;
  no_hold = ap (λ (v : View). v.holds) n.is;
  no_handle = ap (λ (v : View). v.handles) n.is;
  no_page = ap (λ (v : View). v.pages) n.is;
  no_close = ap (λ (v : View). v.closes) n.is;
  no_sweep = ap (λ (v : View). v.sweeps) n.is;
  no_other = ap (λ (v : View). v.gathered) n.is;
}

-- It has nothing after its work either.
pub spare_worked : {pool : Pool} {d e : View} {P : List Entry → Type 0} → IsSpare pool d → Did (view_of_pass d) (view_of_pass e) P → e.inside ≡ None
    → IsSpare pool e
spare_worked {pool = pool} {d = d} {e = e} s k out =
    let rest = k.makes.told.rest in
    record {
      of = keeps.of pool d e (keeps.stays d e k.own k.makes) s.of;
      outside = out;
      no_hold = ap (λ (r : Rest). r.holds) rest ∙ s.no_hold;
      no_handle = ap (λ (r : Rest). r.handles) rest ∙ s.no_handle;
      no_page = ap (λ (r : Rest). r.pages) rest ∙ s.no_page;
      no_close = ap (λ (r : Rest). r.closes) rest ∙ s.no_close;
      no_sweep = ap (λ (r : Rest). r.sweeps) rest ∙ s.no_sweep;
      no_other = ap (λ (r : Rest). r.gathered) rest ∙ s.no_other;
    }

-- What was known to the drawer is known to it.
lasts_drawn : {old d : View} → IsDrawn old d → Lasts old d
lasts_drawn {old = old} {d = d} n = lasts_by (reached_by n.begun n.seen (ap (λ (v : View). v.shape) n.is) n.sound)

-- It is of the drawer's pool.
same_drawn : {old d : View} → IsDrawn old d → SamePool old d
same_drawn n = record { home = ap (λ (v : View). v.home) n.is; shape = ap (λ (v : View). v.shape) n.is }

-- Its entries since are those of its work.
worker_made : {old new d e : View} {P : List Entry → Type 0} (more : List Entry) → IsDrawn old d → Did (view_of_pass d) (view_of_pass e) P → IsIn e new
    → new.seen ≡ old.seen ++ more → P (made_by d.caller more)
worker_made {old = old} {new = new} {d = d} {e = e} {P = P} more n k i seen =
    let m = k.makes in
    let all = k.makes.all in
    let rest = i.rest in
    let here : e.seen ≡ (old.seen ++ n.begun) ++ all = m.told.seen ∙ ap (λ (xs : List Entry). xs ++ all) n.seen in
    let both : old.seen ++ more ≡ old.seen ++ (n.begun ++ (all ++ rest)) =
    sym seen ∙ (i.seen ∙ (ap (λ (xs : List Entry). xs ++ rest) here
    ∙ (append_assoc (old.seen ++ n.begun) all rest ∙ append_assoc old.seen n.begun (all ++ rest)))) in
    let is : more ≡ n.begun ++ (all ++ rest) = same_behind old.seen more (n.begun ++ (all ++ rest)) both in
    let quiet : made_by d.caller rest ≡ [] = ap (λ (c : Caller). made_by c rest) (sym m.same_caller) ∙ i.quiet in
    let made : made_by d.caller more ≡ k.own =
    ap (made_by d.caller) is ∙ (made_behind d.caller n.begun (all ++ rest) n.silent
    ∙ (filter-append _ all rest ∙ (ap (λ (xs : List Entry). made_by d.caller all ++ xs) quiet
    ∙ (append-nil (made_by d.caller all) ∙ m.by_caller)))) in
    subst P (sym made) k.does

-- Who was drawn and did nothing made no entry.
idle_made : {old new d : View} (more : List Entry) → IsDrawn old d → IsIn d new → new.seen ≡ old.seen ++ more → made_by d.caller more ≡ []
idle_made {old = old} {d = d} more n i seen =
    let both : old.seen ++ more ≡ old.seen ++ (n.begun ++ i.rest) =
    sym seen ∙ (i.seen ∙ (ap (λ (xs : List Entry). xs ++ i.rest) n.seen ∙ append_assoc old.seen n.begun i.rest)) in
    ap (made_by d.caller) (same_behind old.seen more (n.begun ++ i.rest) both) ∙ (made_behind d.caller n.begun i.rest n.silent ∙ i.quiet)

-- ---- all workers

pub zip_all : {X : Type 0} (R : X → X → Type 0) (xs ys : List X) → length ys ≡ length xs
    → ((i : ℕ) (d : X) → i < length xs → R (slice_index_or xs i d) (slice_index_or ys i d)) → AllZip R xs ys
zip_all R [] [] e h = tt
zip_all R [] (y ∷ ys) e h = absurd (omega arith)
zip_all R (x ∷ xs) [] e h = absurd (omega arith)
zip_all R (x ∷ xs) (y ∷ ys) e h = (h 0 x (omega arith), zip_all R xs ys (omega arith) (λ i d l. h (suc i) d (omega arith)))

pub callers_push : (gs : List Gathered) (g : Gathered) → callers (gs ++ g ∷ []) ≡ callers gs ++ g.caller ∷ []
callers_push gs g = map-append (λ (x : Gathered). x.caller) gs (g ∷ [])

module _ {T : Type 0} where
  -- What holds of the caller of each worker.
  pub each_caller : (P : Caller → Type 0) (ws : List (Worker T)) → AllByRecursion (λ (w : Worker T). P w.memory.caller) ws
      → AllByRecursion P (callers (crew_of ws))
  each_caller P [] h = tt
  each_caller P (w ∷ ws) h = subst (λ (cs : List Caller). AllByRecursion P cs) (sym (callers_push (crew_of ws) (as_gathered w.memory)))
      (all_both P (callers (crew_of ws)) (w.memory.caller ∷ []) (each_caller P ws h.1) (h.0, tt))

  -- what was gathered of their passes
  pub crew_are : (ws : List (Worker T)) → crew_of ws ≡ map as_gathered (passes_of ws)
  crew_are [] = refl
  crew_are (w ∷ ws) = ap (λ (gs : List Gathered). gs ++ as_gathered w.memory ∷ []) (crew_are ws) ∙ sym (map-append as_gathered (passes_of ws) (w.memory ∷ []))

  pub each_pass : (P : View → Type 0) (ws : List (Worker T)) → AllByRecursion (λ (w : Worker T). P w.memory) ws → AllByRecursion P (passes_of ws)
  each_pass P [] h = tt
  each_pass P (w ∷ ws) h = all_both P (passes_of ws) (w.memory ∷ []) (each_pass P ws h.1) (h.0, tt)

  pub spare_all : (pool : Pool) (old : View) (ws : List (Worker T)) → IsOf pool old → AllByRecursion (λ (w : Worker T). IsDrawn old w.memory) ws
      → AllByRecursion (λ (w : Worker T). IsSpare pool w.memory) ws
  spare_all pool old [] of h = tt
  spare_all pool old (w ∷ ws) of h = (spare_drawn of h.0, spare_all pool old ws of h.1)

  pub fresh_all : (old : View) (ws : List (Worker T)) → AllByRecursion (λ (w : Worker T). IsDrawn old w.memory) ws
      → AllByRecursion (λ (w : Worker T). IsFresh old w.memory.caller) ws
  fresh_all old [] h = tt
  fresh_all old (w ∷ ws) h = (h.0.fresh, fresh_all old ws h.1)

  pub idle_all : (old new : View) (more : List Entry) (ws : List (Worker T)) → AllByRecursion (λ (w : Worker T). IsDrawn old w.memory) ws
      → AllByRecursion (λ (w : Worker T). IsIn w.memory new) ws → new.seen ≡ old.seen ++ more
      → AllByRecursion (λ (w : Worker T). made_by w.memory.caller more ≡ []) ws
  idle_all old new more [] n i seen = tt
  idle_all old new more (w ∷ ws) n i seen = (idle_made more n.0 i.0 seen, idle_all old new more ws n.1 i.1 seen)

  -- the work can be done by each
  pub ready_all : (can : View → T → Type 0) (stays : (p q : View) (t : T) → SamePool p q → Lasts p q → can p t → can q t) (old : View) (ws : List (Worker T))
      → AllByRecursion (λ (w : Worker T). IsDrawn old w.memory) ws → AllByRecursion (can old) (tasks_of ws)
      → AllByRecursion (λ (w : Worker T). (w.memory.inside ≡ None) × can w.memory w.task) ws
  ready_all can stays old [] n h = tt
  ready_all can stays old (w ∷ ws) n h =
      let parts = all_split (can old) (tasks_of ws) (w.task ∷ []) h in
      ((ap (λ (v : View). v.inside) n.0.is, stays old w.memory w.task (same_drawn n.0) (lasts_drawn n.0) parts.1.0), ready_all can stays old ws n.1 parts.0)

  module _ (Does : View → T → T → List Entry → Type 0) where
    pub spare_after : (pool : Pool) (ws vs : List (Worker T)) → AllByRecursion (λ (w : Worker T). IsSpare pool w.memory) ws → AllZip (IsWorked Does) ws vs
        → AllByRecursion (λ (v : Worker T). IsSpare pool v.memory) vs
    spare_after pool [] [] s z = tt
    spare_after pool [] (v ∷ vs) s z = absurd z
    spare_after pool (w ∷ ws) [] s z = absurd z
    spare_after pool (w ∷ ws) (v ∷ vs) s z = (spare_worked s.0 z.0.did z.0.outside, spare_after pool ws vs s.1 z.1)

    pub fresh_after : (old : View) (ws vs : List (Worker T)) → AllByRecursion (λ (w : Worker T). IsDrawn old w.memory) ws → AllZip (IsWorked Does) ws vs
        → AllByRecursion (λ (v : Worker T). IsFresh old v.memory.caller) vs
    fresh_after old [] [] n z = tt
    fresh_after old [] (v ∷ vs) n z = absurd z
    fresh_after old (w ∷ ws) [] n z = absurd z
    fresh_after old (w ∷ ws) (v ∷ vs) n z =
        (subst (λ (c : Caller). IsFresh old c) (sym z.0.did.makes.same_caller) n.0.fresh, fresh_after old ws vs n.1 z.1)

    done_push : (more : List Entry) (ps : List View) (ts us : List T) (p : View) (t u : T) → AreDone Does more ps ts us
        → Does p t u (made_by p.caller more) → AreDone Does more (ps ++ p ∷ []) (ts ++ t ∷ []) (us ++ u ∷ [])
    done_push more [] [] [] p t u h k = (k, tt)
    done_push more (q ∷ ps) (s ∷ ts) (r ∷ us) p t u h k = (h.0, done_push more ps ts us p t u h.1 k)
    done_push more ps ts us p t u h k = absurd h

    pub done_all : (old new : View) (more : List Entry) (ws vs : List (Worker T)) → AllByRecursion (λ (w : Worker T). IsDrawn old w.memory) ws
        → AllZip (IsWorked Does) ws vs → AllByRecursion (λ (v : Worker T). IsIn v.memory new) vs → new.seen ≡ old.seen ++ more
        → AreDone Does more (passes_of vs) (tasks_of ws) (tasks_of vs)
    done_all old new more [] [] n z i seen = tt
    done_all old new more [] (v ∷ vs) n z i seen = absurd z
    done_all old new more (w ∷ ws) [] n z i seen = absurd z
    done_all old new more (w ∷ ws) (v ∷ vs) n z i seen =
        let k = z.0.did in
        let does = worker_made more n.0 k i.0 seen in
        done_push more (passes_of vs) (tasks_of ws) (tasks_of vs) v.memory w.task v.task (done_all old new more ws vs n.1 z.1 i.1 seen)
        (subst (λ (c : Caller). Does v.memory w.task v.task (made_by c more)) (sym k.makes.same_caller) does)

-- ---- what is found

-- Neither a new pass nor one after its work has a find of a draw.
undrawn_new : {old d : View} → IsDrawn old d → NoDraws d
unfolding NoDraws
undrawn_new n f i = absurd (subst (λ (fs : List Find). In f fs) (ap (λ (v : View). v.finds) n.is) i)

in_all : (P : Find → Type 0) (fs : List Find) (f : Find) → AllByRecursion P fs → In f fs → P f
in_all P [] f h i = absurd i
in_all P (g ∷ fs) f h (inl e) = subst P (sym e) h.0
in_all P (g ∷ fs) f h (inr i) = in_all P fs f h.1 i

undrawn_worked : {old d : View} (e : View) {P : List Entry → Type 0} → IsDrawn old d → Did (view_of_pass d) (view_of_pass e) P → NoDraws e
unfolding NoDraws
undrawn_worked {d = d} e n k f i =
    let m = k.makes.told.finds in
    let is : e.finds ≡ k.makes.told.finds.more = m.grown ∙ ap (λ (fs : List Find). fs ++ k.makes.told.finds.more) (ap (λ (v : View). v.finds) n.is) in
    in_all (λ g. is_draw g.step ≡ false) k.makes.told.finds.more f (recursion_from_All (λ g. is_draw g.step ≡ false) k.makes.told.finds.more m.no_draw)
    (subst (λ (fs : List Find). In f fs) is i)

module _ {T : Type 0} where
  pub undrawn_all : (old : View) (ws : List (Worker T)) → AllByRecursion (λ (w : Worker T). IsDrawn old w.memory) ws
      → AllByRecursion (λ (w : Worker T). NoDraws w.memory) ws
  undrawn_all old [] n = tt
  undrawn_all old (w ∷ ws) n = (undrawn_new n.0, undrawn_all old ws n.1)

  module _ (Does : View → T → T → List Entry → Type 0) where
    pub undrawn_after : (old : View) (ws vs : List (Worker T)) → AllByRecursion (λ (w : Worker T). IsDrawn old w.memory) ws → AllZip (IsWorked Does) ws vs
        → AllByRecursion (λ (v : Worker T). NoDraws v.memory) vs
    undrawn_after old [] [] n z = tt
    undrawn_after old [] (v ∷ vs) n z = absurd z
    undrawn_after old (w ∷ ws) [] n z = absurd z
    undrawn_after old (w ∷ ws) (v ∷ vs) n z = (undrawn_worked v.memory n.0 z.0.did, undrawn_after old ws vs n.1 z.1)

    -- their callers are as before
    pub callers_after : (ws vs : List (Worker T)) → AllZip (IsWorked Does) ws vs → callers (crew_of vs) ≡ callers (crew_of ws)
    callers_after [] [] z = refl
    callers_after [] (v ∷ vs) z = absurd z
    callers_after (w ∷ ws) [] z = absurd z
    callers_after (w ∷ ws) (v ∷ vs) z =
        callers_push (crew_of vs) (as_gathered v.memory)
        ∙ ((λ i. callers_after ws vs z.1 i ++ (z.0.did.makes.same_caller i ∷ []))
        ∙ sym (callers_push (crew_of ws) (as_gathered w.memory)))
