-- Passes that are drawn one by one.
use Rattle.std.proofs.Common.{◌≡◌, ◌+◌, ◌<◌, true, List, [], ◌∷◌, ◌++◌, length, refl, ap, sym, ◌∙◌, subst, arith, append_assoc, ⊎_elim, inl, inr, All, get_or, Err, length-append}
use Rattle.std.{specs.List.{AllByRecursion}, proofs.lemmas.List.{append-nil, map-append, Elements.{filter-append}}}
use Rattle.fm_base_lists.proofs.Each.{all_both}
use Rattle.fm_words.specs.{declared.shape.Shape.{Shape}, Places.{groups}}
use Rattle.fm_base.specs.{declared.{caller.Caller.{Caller}, refusal.Refusal.{Refusal, TheVariants.{NoPass}}}, Calls.{Entry}, Histories.{made_by}}
use Rattle.fm_base.specs.Finds.{Find, Gathered}
use Rattle.fm_rule_facts.{specs.{Hands.{no_number}, Views.{View, In, HasCaller}, Splits.{view_of}}, proofs.Keeping.{in_append}}
use Rattle.fm_rule.specs.{declared.pool.Pool.{Pool}, Draws.{Asked, Drawn, Drew, NoneDrawn, FoundNone}}
use Rattle.fm_gate.specs.Needs.{IsOutside}
use Rattle.fm_arena.specs.Shares.{CanShare}
use Rattle.fm_workers_crew.specs.{declared.worker.Worker.{Worker}, Crew.{DrewEach, FoundNoNumber}}
use Rattle.fm_workers_crew.{specs.Rounds.{Went, IsDrawn, DrewCrew, AfterDraws, EndsDraws, order_of, tasks_of}, proofs.Orders.{drew_each_more, drew_each_push}}

-- Where two lists together are nothing, both are.
pub nil_left : {X : Type 0} (xs ys : List X) → xs ++ ys ≡ [] → xs ≡ []
nil_left [] ys e = refl
nil_left (x ∷ xs) ys e = absurd (cc)

pub nil_right : {X : Type 0} (xs ys : List X) → xs ++ ys ≡ [] → ys ≡ []
nil_right [] ys e = e
nil_right (x ∷ xs) ys e = absurd (cc)

-- Who made none of the first entries made just what it made of those behind.
pub made_behind : (c : Caller) (xs ys : List Entry) → made_by c xs ≡ [] → made_by c (xs ++ ys) ≡ made_by c ys
made_behind c xs ys e = filter-append _ xs ys ∙ ap (λ (es : List Entry). es ++ made_by c ys) e

-- Nothing was looked at.
pub went_none : (p : View) → Went p p
went_none p = record {
  more = [];
  seen = sym (append-nil p.seen);
  own = refl;
  apart = λ i g l. refl;
  draws = [];
  finds = sym (append-nil p.finds);
  only_draws = λ f i. absurd i;
  gathered = λ f i. absurd i;
  is = refl;
}

module _ {old now : View} (m : Went old now) where
  pub caller_still : now.caller ≡ old.caller
  caller_still = ap (λ (x : View). x.caller) m.is

  pub gathered_still : now.gathered ≡ old.gathered
  gathered_still = ap (λ (x : View). x.gathered) m.is

  pub shape_still : now.shape ≡ old.shape
  shape_still = ap (λ (x : View). x.shape) m.is

  pub home_still : now.home ≡ old.home
  home_still = ap (λ (x : View). x.home) m.is

  -- The pass looked once more.
  pub went_on : {next : View} {ds : List Find} → old.number ≡ no_number → Asked now next ds no_number → Went old next
  went_on {next = next} {ds = ds} none a =
      let later = subst (λ (gs : List Gathered). All (λ g. made_by g.caller a.more ≡ []) gs) gathered_still a.apart in
      record {
        more = m.more ++ a.more;
        seen = a.seen ∙ (ap (λ (es : List Entry). es ++ a.more) m.seen ∙ append_assoc old.seen m.more a.more);
        own = made_behind old.caller m.more a.more m.own ∙ (ap (λ (c : Caller). made_by c a.more) (sym caller_still) ∙ a.quiet);
        apart = λ i g l. made_behind (get_or old.gathered i g).caller m.more a.more (m.apart i g l) ∙ later i g l;
        draws = m.draws ++ ds;
        finds = a.found ∙ (ap (λ (fs : List Find). fs ++ ds) m.finds ∙ append_assoc old.finds m.draws ds);
        only_draws = λ f i. ⊎_elim (m.only_draws f) (a.only f) (in_append f m.draws ds i);
        gathered = λ f i. ⊎_elim (m.gathered f) (λ (j : In f ds). (a.kept f j).gathered ∙ ap (λ (gs : List Gathered). length gs) gathered_still)
            (in_append f m.draws ds i);
        is = a.is ∙ (ap (λ (v : View). record v { seen = next.seen; finds = next.finds; whole = next.whole; number = no_number }) m.is
            ∙ (λ i. record old { seen = next.seen; finds = next.finds; whole = next.whole; number = sym none i }));
      }

has_caller_by : (p q : View) (c : Caller) → q.caller ≡ p.caller → q.gathered ≡ p.gathered → HasCaller p c → HasCaller q c
has_caller_by p q c same g (inl e) = inl (e ∙ sym same)
has_caller_by p q c same g (inr h) = inr (h.0, subst (λ (gs : List Gathered). In h.0 gs) (sym g) h.1, h.2)

-- A pass that was drawn now was drawn since.
pub drawn_since : {old now next d : View} → old.number ≡ no_number → Went old now → Drawn now next d → IsDrawn old d
drawn_since {old = old} {now = now} {next = next} {d = d} none m k =
    let w = went_on m none k.asked in
    let c : d.caller ≡ k.caller = ap (λ (x : View). x.caller) k.is in
    let s : d.seen ≡ next.seen = ap (λ (x : View). x.seen) k.is in
    let silent : made_by d.caller (old.seen ++ w.more) ≡ [] =
    ap (made_by d.caller) (sym w.seen) ∙ (ap (λ (x : Caller). made_by x next.seen) c ∙ k.fresh.silent) in
    let parts : made_by d.caller old.seen ++ made_by d.caller w.more ≡ [] = sym (filter-append _ old.seen w.more) ∙ silent in
    record {
      fresh = record {
        number = subst (λ (x : Caller). x.number < old.shape.passes) (sym c)
            (subst (λ (z : Shape). k.caller.number < z.passes) (shape_still w) k.fresh.number);
        term = k.sound.term;
        later = λ e. k.fresh.later (sym c ∙ e);
        other = λ h. k.fresh.other (has_caller_by old next k.caller (caller_still w) (gathered_still w) (subst (λ (x : Caller). HasCaller old x) c h));
        silent = nil_left (made_by d.caller old.seen) (made_by d.caller w.more) parts;
      };
      begun = w.more;
      seen = s ∙ w.seen;
      silent = nil_right (made_by d.caller old.seen) (made_by d.caller w.more) parts;
      is = k.is ∙ (λ i. record (view_of (shape_still w i) true (sym s i)) { home = home_still w i; caller = sym c i });
      sound = k.sound;
    }

module _ {T : Type 0} where
  pub drew_nobody : (p : View) → DrewCrew {T = T} p p []
  unfolding went_none
  drew_nobody p = record { went = went_none p; drew = λ f i. absurd i; workers = tt }

module _ {T : Type 0} {old now next : View} {ws : List (Worker T)} where
  -- One more was drawn.
  pub drew_more : {vs : List (Worker T)} (w : Worker T) → old.number ≡ no_number → DrewCrew old now ws → vs ≡ ws ++ w ∷ [] → Drawn now next w.memory
      → DrewCrew old next vs
  unfolding went_on
  drew_more w none m e k =
      let is : w.memory.caller ≡ k.caller = ap (λ (x : View). x.caller) k.is in
      let order : order_of (ws ++ w ∷ []) ≡ order_of ws ++ w.memory.caller ∷ [] = map-append (λ (u : Worker T). u.memory.caller) ws (w ∷ []) in
      let one : Drew w.memory.caller k.finds = subst (λ (c : Caller). Drew c k.finds) (sym is) k.drew in
      record {
        went = went_on m.went none k.asked;
        drew = subst (λ (cs : List Caller). DrewEach (m.went.draws ++ k.finds) cs) (sym order ∙ ap (λ (us : List (Worker T)). order_of us) (sym e))
            (drew_each_push m.went.draws k.finds (order_of ws) m.drew one);
        workers = subst (λ (us : List (Worker T)). AllByRecursion (λ (u : Worker T). IsDrawn old u.memory) us) (sym e)
            (all_both (λ (u : Worker T). IsDrawn old u.memory) ws (w ∷ []) m.workers (drawn_since none m.went k, tt));
      }

  -- No more was drawn.
  pub drew_none : old.number ≡ no_number → DrewCrew old now ws → NoneDrawn now next → DrewCrew old next ws
  unfolding went_on
  drew_none none m k = record {
    went = went_on m.went none k.asked;
    drew = drew_each_more m.went.draws k.finds (order_of ws) m.drew k.all.none;
    workers = m.workers;
  }

  pub found_none : (none : old.number ≡ no_number) (m : DrewCrew old now ws) (k : NoneDrawn now next)
      → FoundNoNumber old.shape (drew_none none m k).went.draws
  unfolding drew_none went_on
  found_none none m k = record {
    before = m.went.draws;
    these = k.finds;
    after = [];
    parts = ap (λ (fs : List Find). m.went.draws ++ fs) (sym (append-nil k.finds));
    all = subst (λ (z : Shape). FoundNone (groups z) k.finds) (shape_still m.went) k.all;
  }

  -- No pass was left for the last task.
  pub refused_draws : {tasks left : List T} (before : List T) (t : T) (r : Refusal) → old.number ≡ no_number → DrewCrew old now ws
      → (r ≡ NoPass) × NoneDrawn now next → tasks ≡ left ++ tasks_of ws → left ≡ before ++ t ∷ [] → AfterDraws old next tasks left ws (Err r)
  refused_draws {left = left} before t r none m k parts last =
      let long : length left ≡ length before + 1 = ap (λ (ts : List T). length ts) last ∙ length-append before (t ∷ []) in
      record {
        drew = drew_none none m k.1;
        parts = parts;
        ends = subst (λ (e : Refusal). EndsDraws old.shape left (drew_none none m k.1).went.draws (Err e)) (sym k.0)
            (found_none none m k.1, omega (arith, long));
      }

module _ {T : Type 0} where
  -- The last worker's task comes first.
  pub tasks_push : (ws : List (Worker T)) (w : Worker T) → tasks_of (ws ++ w ∷ []) ≡ w.task ∷ tasks_of ws
  tasks_push [] w = refl
  tasks_push (v ∷ ws) w = ap (λ (ts : List T). ts ++ v.task ∷ []) (tasks_push ws w)

  -- A task went from the one list to the other.
  pub tasks_moved : (all now next : List T) (t : T) (crew more : List (Worker T)) (w : Worker T) → all ≡ now ++ tasks_of crew → now ≡ next ++ t ∷ []
      → more ≡ crew ++ w ∷ [] → w.task ≡ t → all ≡ next ++ tasks_of more
  tasks_moved all now next t crew more w a n m e =
      a ∙ (ap (λ (ts : List T). ts ++ tasks_of crew) n ∙ (append_assoc next (t ∷ []) (tasks_of crew)
      ∙ sym (ap (λ (ts : List T). next ++ ts) (ap (λ (ws : List (Worker T)). tasks_of ws) m ∙ (tasks_push crew w ∙ ap (λ (x : T). x ∷ tasks_of crew) e)))))

-- Who looked is outside still.
outside_asked : {pool : Pool} {p q : View} {ds : List Find} → IsOutside pool p → Asked p q ds no_number → IsOutside pool q
outside_asked o a = record {
  of = (ap (λ (v : View). v.home) a.is ∙ o.of.0, ap (λ (v : View). v.shape) a.is ∙ o.of.1);
  outside = ap (λ (v : View). v.inside) a.is ∙ o.outside;
  unmarked = ap (λ (v : View). v.mark) a.is ∙ o.unmarked;
  no_number = ap (λ (v : View). v.number) a.is;
  no_slot = ap (λ (v : View). v.hand) a.is ∙ o.no_slot;
  no_part = ap (λ (v : View). v.swept) a.is ∙ o.no_part;
}

pub outside_drew : {pool : Pool} {p q d : View} → IsOutside pool p → Drawn p q d → IsOutside pool q
outside_drew o k = outside_asked o k.asked

-- The drawn pass is outside too.
pub outside_new : {pool : Pool} {p q d : View} → IsOutside pool p → Drawn p q d → IsOutside pool d
outside_new o k =
    let q = outside_asked o k.asked in
    record {
      of = (ap (λ (v : View). v.home) k.is ∙ q.of.0, ap (λ (v : View). v.shape) k.is ∙ q.of.1);
      outside = ap (λ (v : View). v.inside) k.is;
      unmarked = ap (λ (v : View). v.mark) k.is;
      no_number = ap (λ (v : View). v.number) k.is;
      no_slot = ap (λ (v : View). v.hand) k.is;
      no_part = ap (λ (v : View). v.swept) k.is;
    }

-- and has nothing, so it can be a memory.
pub shares_new : {pool : Pool} {p q d : View} → IsOutside pool p → Drawn p q d → CanShare pool d
shares_new o k = record { outside = outside_new o k; no_page = ap (λ (v : View). v.pages) k.is }
