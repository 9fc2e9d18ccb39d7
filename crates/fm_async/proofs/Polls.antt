-- What the polls of all closes of a set come to.
use Rattle.std.proofs.Common.{◌≡◌, ℕ, ◌+◌, ◌-◌, ◌≤◌, Bool, true, false, if◌then◌else◌, List, [], ◌∷◌, ◌++◌, length, refl, ap, sym, ◌∙◌, subst, Option, Some, None, arith, append_assoc}
use Rattle.std.{specs.List.{AllByRecursion}}
use Rattle.fm_base.specs.{declared.{caller.Caller.{Caller}}, Calls.{Entry}, Finds.{Find, FindsMore}}
use Rattle.fm_base.proofs.Making.{FindsMore-trans}
use Rattle.fm_rule_facts.specs.{Views.{View, IsSound}}
use Rattle.fm_words.specs.declared.shape.Shape.{Shape}
use Rattle.fm_rule.specs.declared.pool.Pool.{Pool}
use Rattle.fm_rule_calls.{specs.Kept.{Goes}, proofs.Going.{goes_then, goes_none}}
use Rattle.fm_close.specs.{declared.shutting.Shutting.{Shutting}}
use Rattle.fm_async.specs.{declared.waiting.Waiting.{Waiting}, Visits.{entries_by, StopsBy}}
use Rattle.fm_async.specs.Polls.{Polls, PollsEach, arenas_of, end_since, ends_since, marks_left, IsBlocker}

-- One more is polled.
pub each_snoc : (pool : Pool) (p q r : View) (vs ws : List Waiting) (v w : Waiting) → PollsEach pool p q vs ws → Polls pool q r v w
    → PollsEach pool p r (vs ++ v ∷ []) (ws ++ w ∷ [])
each_snoc pool p q r [] [] v w e m = (r, subst (λ (x : View). Polls pool x r v w) e m, refl)
each_snoc pool p q r [] (x ∷ ws) v w e m = absurd e
each_snoc pool p q r (x ∷ vs) [] v w e m = absurd e
each_snoc pool p q r (x ∷ vs) (y ∷ ws) v w e m = (e.0, e.1, each_snoc pool e.0 q r vs ws v w e.2 m)

-- They are as many as before.
pub each-length : (pool : Pool) (p q : View) (vs ws : List Waiting) → PollsEach pool p q vs ws → length ws ≡ length vs
each-length pool p q [] [] e = refl
each-length pool p q [] (x ∷ ws) e = absurd e
each-length pool p q (x ∷ vs) [] e = absurd e
each-length pool p q (x ∷ vs) (y ∷ ws) e = let l = each-length pool e.0 q vs ws e.2 in omega arith

-- ---- one is polled

module _ {pool : Pool} {p q : View} {v w : Waiting} (sound : IsSound p) (m : Polls pool p q v w) where
  one_arena : (b : Bool) → v.close.ended ≡ b → w.close.arena ≡ v.close.arena
  one_arena true e = ap (λ (x : Shutting). x.arena) (m.none e).1
  one_arena false e = (m.visits e).visited.arena

  no_end_since : (b c : Bool) → b ≡ true → c ≡ true → end_since b c p.caller v.close.arena ≡ []
  no_end_since true true e f = refl
  no_end_since true false e f = absurd (cc)
  no_end_since false c e f = absurd (cc)

  ends_are : (c : Bool) → end_since false c p.caller v.close.arena ≡ entries_by c p.caller v.close.arena
  ends_are true = refl
  ends_are false = refl

  one_goes : (b : Bool) → v.close.ended ≡ b → Goes p q (end_since v.close.ended w.close.ended p.caller v.close.arena)
  one_goes true e =
      let none = m.none e in
      let now : w.close.ended ≡ true = ap (λ (x : Shutting). x.ended) none.1 ∙ e in
      subst (λ (x : View × List Entry). Goes p x.0 x.1) (λ j. (sym none.0 j, sym (no_end_since v.close.ended w.close.ended e now) j)) (goes_none sound)
  one_goes false e =
      subst (λ (es : List Entry). Goes p q es)
      (sym (ap (λ b. end_since b w.close.ended p.caller v.close.arena) e ∙ ends_are w.close.ended)) (m.visits e).visited.goes

  one_few : (b : Bool) → v.close.ended ≡ b → length q.finds ≤ length p.finds + (if b then 0 else p.shape.passes - v.close.next)
  one_few true e = let l = ap (λ (x : View). length x.finds) (m.none e).0 in omega arith
  one_few false e = let f = (m.visits e).few in omega arith

  -- its mark is among the finds of the poll
  stopped : (o r : View) (b : Option ℕ) → FindsMore o.finds p.finds → FindsMore q.finds r.finds → r.caller ≡ q.caller → StopsBy p q w.close b → IsBlocker o r w.close b
  stopped o r None f g c s = s
  stopped o r (Some k) f g c s = (
    s.0,
    record {
      before = f.more ++ s.1.more;
      find = s.1.find;
      after = g.more;
      grown = g.grown ∙ (ap (λ (fs : List Find). fs ++ g.more) (s.1.grown ∙ ap (λ (fs : List Find). (fs ++ s.1.more) ++ s.1.find ∷ []) f.grown)
          ∙ between o.finds f.more s.1.more g.more s.1.find);
      step = s.1.step;
      names = s.1.names;
      next = s.1.next;
      other = λ e. s.1.other (e ∙ ap (λ (x : Caller). x.number) c);
    },
  )
    where
      between : (xs ys zs us : List Find) (x : Find) → (((xs ++ ys) ++ zs) ++ x ∷ []) ++ us ≡ xs ++ ((ys ++ zs) ++ x ∷ us)
      between xs ys zs us x = append_assoc ((xs ++ ys) ++ zs) (x ∷ []) us ∙ (ap (λ (fs : List Find). fs ++ x ∷ us) (append_assoc xs ys zs)
          ∙ append_assoc xs (ys ++ zs) (x ∷ us))

  one_blocker : (o r : View) (b : Bool) → v.close.ended ≡ b → FindsMore o.finds p.finds → FindsMore q.finds r.finds → r.caller ≡ q.caller
      → IsBlocker o r w.close w.blocker
  one_blocker o r true e f g c =
      let none = m.none e in
      subst (λ (b : Option ℕ). IsBlocker o r w.close b) (sym none.2) (ap (λ (x : Shutting). x.ended) none.1 ∙ e)
  one_blocker o r false e f g c = stopped o r w.blocker f g c (m.visits e).stops

-- ---- each of them

-- What is so of all, from whatever was found before to whatever is found behind.
pub record Comes (p q : View) (vs ws : List Waiting) : Type 0 where
  pub arenas : arenas_of ws ≡ arenas_of vs
  pub goes : Goes p q (ends_since p.caller vs ws)
  pub few : length q.finds ≤ length p.finds + marks_left p.shape.passes vs
  pub blockers : (o : View) → FindsMore o.finds p.finds → AllByRecursion (λ w. IsBlocker o q w.close w.blocker) ws

pub each_comes : (pool : Pool) (p q : View) (vs ws : List Waiting) → IsSound p → PollsEach pool p q vs ws → Comes p q vs ws
each_comes pool p q [] [] sound e = record {
  arenas = refl;
  goes = subst (λ (x : View). Goes p x []) (sym e) (goes_none sound);
  few = let l = ap (λ (x : View). length x.finds) e in omega arith;
  blockers = λ o f. tt;
}
each_comes pool p q [] (x ∷ ws) sound e = absurd e
each_comes pool p q (x ∷ vs) [] sound e = absurd e
each_comes pool p q (v ∷ vs) (w ∷ ws) sound e =
    let r = e.0 in
    let first : Goes p r (end_since v.close.ended w.close.ended p.caller v.close.arena) = one_goes sound e.1 v.close.ended refl in
    let rest : Comes r q vs ws = each_comes pool r q vs ws first.sound e.2 in
    record {
      arenas = λ j. one_arena sound e.1 v.close.ended refl j ∷ rest.arenas j;
      goes = goes_then first (subst (λ (c : Caller). Goes r q (ends_since c vs ws)) first.same_caller rest.goes);
      few =
          let a = one_few sound e.1 v.close.ended refl in
          let b : length q.finds ≤ length r.finds + marks_left p.shape.passes vs = subst (λ (z : Shape). length q.finds ≤ length r.finds + marks_left z.passes vs) first.same_shape rest.few in
          omega arith;
      blockers = λ o f. (
        one_blocker sound e.1 o q v.close.ended refl f rest.goes.finds rest.goes.same_caller,
        rest.blockers o (FindsMore-trans o.finds p.finds r.finds f first.finds),
      );
    }
