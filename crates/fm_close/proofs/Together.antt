-- Closes of several arenas by one pass.
use Rattle.std.{proofs.Common.{◌≡◌, ◌≢◌, Bool, true, false, List, [], ◌∷◌, ◌++◌, refl, ap, sym, ◌∙◌, subst, inl}, specs.Prelude.{Ok}}
use Rattle.std.specs.List.{AllByRecursion}
use Rattle.fm_base.specs.{declared.{arena_id.ArenaId.{ArenaId}}, Arenas.{Closing, Ended, arena_of}, Calls.{Entry}, Finds.{Close, Rest}}
use Rattle.fm_rule_facts.specs.{Views.{View, In, IsOnce, state_in}, Closes.{walk_of}}
use Rattle.fm_rule_steps.proofs.Closes.{passed_of-found}
use Rattle.fm_rule.specs.declared.pool.Pool.{Pool}
use Rattle.fm_rule_calls.specs.Kept.{Goes, rest_of}
use Rattle.fm_close.specs.declared.{shutting.Shutting.{Shutting}, outcome.Visit.{Visit, TheVariants.{Next, Inside, Ended as TheEnd}}}
use Rattle.fm_close.specs.{Does.{after_visit}, Learnt.{IsUnderWay, IsToSweep, StandsAfter, AfterShut, AfterVisit, AfterSweep}}
use Rattle.fm_close.{specs.CloseLaws.{StandsBy, StandTogether, ClosesLast}, proofs.Lasting.{lasts}}

-- What stands through a step, whatever the close, does so of each.
each_stands : {p q : View} → ((s : Shutting) → StandsBy s.ended p s → StandsBy s.ended q s) → (ss : List Shutting) → StandTogether p ss → StandTogether q ss
each_stands on [] t = tt
each_stands on (s ∷ ss) t = (on s t.0, t.1, each_stands on ss t.2)

-- By whether its arena has ended.
by_ended : {p q : View} (s : Shutting) → (IsUnderWay p s → IsUnderWay q s) → (IsToSweep p s → IsToSweep q s) → StandsBy s.ended p s → StandsBy s.ended q s
by_ended {p = p} {q = q} s way swept = go s.ended
  where
    go : (b : Bool) → StandsBy b p s → StandsBy b q s
    go false h = way h
    go true h = swept h

-- A close under way says that it is, and so does one that is to be swept.
under_way : {p : View} (s : Shutting) → IsUnderWay p s → StandsBy s.ended p s
under_way {p = p} s w = subst (λ (b : Bool). StandsBy b p s) (sym w.unfinished) w

to_sweep : {p : View} (s : Shutting) → IsToSweep p s → StandsBy s.ended p s
to_sweep {p = p} s w = subst (λ (b : Bool). StandsBy b p s) (sym w.ended) w

-- ---- one is begun

module _ {pool : Pool} {p q : View} {id : ArenaId} {s : Shutting} (h : AfterShut pool p q id (Ok s)) where
  its_arena : s.arena ≡ id
  its_arena = ap (λ (x : Shutting). x.arena) h.did.does.2

  begun_last : q.closes ≡ walk_of id 0 ∷ p.closes
  begun_last = ap (λ (x : Rest). x.closes) h.did.rest

  -- It is of another arena than a close that is under way.
  apart_from : (t : Shutting) → StandsBy t.ended p t → id ≢ t.arena
  apart_from t stands same = go t.ended stands
    where
      go : (b : Bool) → StandsBy b p t → ⊥
      go false w =
          let f = passed_of-found p.closes t.arena t.next w.at in
          let once = subst (IsOnce (λ (c : Close). c.arena)) begun_last h.did.goes.sound.closes_once in
          once.0 f.walk f.there (f.arena ∙ sym same)
      go true w =
          let f = passed_of-found p.sweeps t.arena 0 w.at in
          let there : In f.walk q.sweeps = subst (In f.walk) (sym (ap (λ (x : Rest). x.sweeps) h.did.rest)) f.there in
          let over = h.did.goes.sound.swept f.walk there in
          let shut = h.did.goes.sound.closing (walk_of id 0) (subst (In (walk_of id 0)) (sym begun_last) (inl refl)) in
          let e : Closing ≡ Ended = sym shut.1 ∙ (ap (λ (a : ArenaId). (arena_of (state_in q) a).life) (same ∙ sym f.arena) ∙ over.life) in
          cc

  apart_all : (ss : List Shutting) → StandTogether p ss → AllByRecursion (λ t. t.arena ≢ s.arena) ss
  apart_all [] t = tt
  apart_all (u ∷ us) t = ((λ e. apart_from u t.0 (sym (e ∙ its_arena))), apart_all us t.2)

  still : (ss : List Shutting) → StandTogether p ss → StandTogether q ss
  still [] t = tt
  still (u ∷ us) t = (
    by_ended u (lasts.beside.at_shut pool p q id (Ok s) u h (apart_from u t.0)) (lasts.ended_beside.at_shut pool p q id (Ok s) u h (apart_from u t.0)) t.0,
    t.1,
    still us t.2,
  )

  -- It stands beside those that stood.
  pub shut_beside : (ss : List Shutting) → StandTogether p ss → StandTogether q (s ∷ ss)
  shut_beside ss t = (under_way s h.walks, apart_all ss t, still ss t)

-- ---- one of a list is another

pub all_at : {A : Type 0} (P : A → Type 0) (xs ys : List A) (x : A) → AllByRecursion P (xs ++ x ∷ ys) → P x
all_at P [] ys x h = h.0
all_at P (z ∷ zs) ys x h = all_at P zs ys x h.1

pub all_put : {A : Type 0} (P : A → Type 0) (xs ys : List A) (x y : A) → P y → AllByRecursion P (xs ++ x ∷ ys) → AllByRecursion P (xs ++ y ∷ ys)
all_put P [] ys x y n h = (n, h.1)
all_put P (z ∷ zs) ys x y n h = (h.0, all_put P zs ys x y n h.1)

all_out : {A : Type 0} (P : A → Type 0) (xs ys : List A) (x : A) → AllByRecursion P (xs ++ x ∷ ys) → AllByRecursion P (xs ++ ys)
all_out P [] ys x h = h.1
all_out P (z ∷ zs) ys x h = (h.0, all_out P zs ys x h.1)

-- the close is of another arena than that
abbrev Apart : Shutting → Shutting → Type 0
Apart u x = x.arena ≢ u.arena

-- what stands of a close of another arena than this one
abbrev Beside : View → View → ArenaId → Type 0
Beside p q a = (u : Shutting) → a ≢ u.arena → StandsBy u.ended p u → StandsBy u.ended q u

others : {p q : View} {a : ArenaId} → Beside p q a → (us : List Shutting) → AllByRecursion (λ u. u.arena ≢ a) us → StandTogether p us → StandTogether q us
others on [] n t = tt
others on (u ∷ us) n t = (on u (λ e. n.0 (sym e)) t.0, t.1, others on us n.1 t.2)

-- ---- a mark is visited

same_arena : (s : Shutting) (v : Visit) → (after_visit s v).arena ≡ s.arena
same_arena s Next = refl
same_arena s (Inside k) = refl
same_arena s TheEnd = refl

stands_after : (q : View) (t : Shutting) (v : Visit) → StandsAfter q t v → StandsBy t.ended q t
stands_after q t Next h = under_way t h
stands_after q t (Inside k) h = under_way t h.0
stands_after q t TheEnd h = to_sweep t h.1

module _ {pool : Pool} {p q : View} {s t : Shutting} {v : Visit} (h : AfterVisit pool p q s t v) where
  visit_beside : Beside p q s.arena
  visit_beside u n = by_ended u (lasts.beside.at_visit pool p q s t v u h n) (lasts.ended_beside.at_visit pool p q s t v u h n)

  its : t.arena ≡ s.arena
  its = ap (λ (x : Shutting). x.arena) h.close ∙ same_arena s v

  -- The one that is visited stays at its place.
  pub visited : (us after : List Shutting) → StandTogether p (us ++ s ∷ after) → StandTogether q (us ++ t ∷ after)
  visited [] after st = (
    stands_after q t v h.stands,
    subst (λ (a : ArenaId). AllByRecursion (λ u. u.arena ≢ a) after) (sym its) st.1,
    others visit_beside after st.1 st.2,
  )
  visited (u ∷ us) after st =
      let far : s.arena ≢ u.arena = all_at (Apart u) us after s st.1 in (
        visit_beside u far st.0,
        all_put (Apart u) us after s t (λ e. far (sym its ∙ e)) st.1,
        visited us after st.2,
      )

-- ---- an arena is swept

module _ {pool : Pool} {p q : View} (s : Shutting) (h : AfterSweep pool p q s.arena) where
  sweep_beside : Beside p q s.arena
  sweep_beside u n = by_ended u (lasts.beside.at_sweep pool p q s.arena u h n) (lasts.ended_beside.at_sweep pool p q s.arena u h n)

  -- The one that is swept is gone.
  pub swept_out : (us after : List Shutting) → StandTogether p (us ++ s ∷ after) → StandTogether q (us ++ after)
  swept_out [] after st = others sweep_beside after st.1 st.2
  swept_out (u ∷ us) after st = (sweep_beside u (all_at (Apart u) us after s st.1) st.0, all_out (Apart u) us after s st.1, swept_out us after st.2)

-- ---- the laws

stands_all : (p q : View) (own : List Entry) (ss : List Shutting) → Goes p q own → rest_of q ≡ rest_of p → StandTogether p ss → StandTogether q ss
stands_all p q own ss g rest = each_stands (λ s. by_ended s (lasts.stands p q own s g rest) (lasts.ended p q own s g rest)) ss

pub together : ClosesLast
together = record {
  stand = stands_all;
  at_shut = λ pool p q id s ss h t. shut_beside h ss t;
  at_refusal = λ pool p q id r ss h t. stands_all p q h.did.own ss h.did.goes h.did.rest t;
  at_visit = λ pool p q s t v us after h st. visited h us after st;
  at_sweep = λ pool p q s us after h st. swept_out s h us after st;
  onward = λ pool p q ss h t. each_stands (λ s. by_ended s (lasts.beside.onward pool p q s h) (lasts.ended_beside.onward pool p q s h)) ss t;
}
