-- Closes that are polled and swept one after another.
use Rattle.std.proofs.Common.{◌≡◌, ℕ, ◌+◌, ◌<◌, true, false, List, [], ◌∷◌, ◌++◌, length, get_or, refl, ap, sym, ◌∙◌, subst, append_assoc, arith}
use Rattle.std.proofs.{Math.{ListN.{set}, Seq.{set-append_seam}}, lemmas.List.{append-nil, length-append}}
use Rattle.fm_rule_facts.specs.Views.{View}
use Rattle.fm_rule.specs.declared.pool.Pool.{Pool}
use Rattle.fm_close.specs.{Learnt.{AfterSweep, CanSweep, CanWalk}}
use Rattle.fm_async.specs.{declared.waiting.Waiting.{Waiting}, Sets.{IsSet, SweepsAll, closes_of, unfinished}, Polls.{Polls, PollsEach}}
use Rattle.fm_async.proofs.Counts.{closes_of-append}
use Rattle.fm_async.proofs.Sets.{can_walk_at, polled_set, swept_set, sweeps_none, sweeps_then, can_sweep_last, last_ended}
use Rattle.fm_async.proofs.Polls.{each_snoc}

-- ---- polls

-- So many of them were polled: `was` are the closes at first, `now` those of this moment
pub record Round (pool : Pool) (o p : View) (was now : List Waiting) (i : ℕ) : Type 0 where
  pub old : List Waiting
  pub done : List Waiting
  pub rest : List Waiting
  pub were : was ≡ old ++ rest
  pub are : now ≡ done ++ rest
  pub at : length done ≡ i
  pub each : PollsEach pool o p old done
  pub set : IsSet pool p (closes_of now)

pub round_starts : {pool : Pool} {p : View} (ws : List Waiting) → IsSet pool p (closes_of ws) → Round pool p p ws ws 0
round_starts ws set = record { old = []; done = []; rest = ws; were = refl; are = refl; at = refl; each = refl; set = set }

-- The next of them is the first of the rest.
pub record NextOf (done rest : List Waiting) (v : Waiting) : Type 0 where
  pub others : List Waiting
  pub is : rest ≡ v ∷ others

next_of : (done rest : List Waiting) (i : ℕ) (v : Waiting) → length done ≡ i → i < length (done ++ rest) → v ≡ get_or (done ++ rest) i v → NextOf done rest v
next_of [] [] i v at l e = absurd (omega arith)
next_of [] (x ∷ rest) i v at l e = record { others = rest; is = (λ j. first j ∷ rest) }
  where
    first : x ≡ v
    first = sym (e ∙ ap (λ k. get_or (x ∷ rest) k v) (sym at))
next_of (d ∷ done) rest i v at l e =
    let n = next_of done rest (length done) v refl (omega arith) (e ∙ ap (λ k. get_or (d ∷ done ++ rest) k v) (sym at)) in
    record { others = n.others; is = n.is }

module _ {pool : Pool} {o p : View} {was now : List Waiting} {i : ℕ} (r : Round pool o p was now i) (v : Waiting) (l : i < length now) (e : v ≡ get_or now i v) where
  next : NextOf r.done r.rest v
  next = next_of r.done r.rest i v r.at (subst (λ (ws : List Waiting). i < length ws) r.are l) (e ∙ ap (λ (ws : List Waiting). get_or ws i v) r.are)

  now_is : now ≡ r.done ++ v ∷ next.others
  now_is = r.are ∙ ap (λ (ws : List Waiting). r.done ++ ws) next.is

  set_here : IsSet pool p (closes_of r.done ++ v.close ∷ closes_of next.others)
  set_here = subst (IsSet pool p) (ap closes_of now_is ∙ closes_of-append r.done (v ∷ next.others)) r.set

  pub round_can : v.close.ended ≡ false → CanWalk pool p v.close
  round_can = can_walk_at (closes_of r.done) (closes_of next.others) v.close set_here

  pub round_on : {q : View} {w : Waiting} → Polls pool p q v w → Round pool o q was (set now i w) (i + 1)
  round_on {q = q} {w = w} m =
      let put : set now i w ≡ r.done ++ w ∷ next.others = ap (λ (ws : List Waiting). set ws i w) now_is ∙ (ap (λ k. set (r.done ++ v ∷ next.others) k w) (sym r.at)
      ∙ set-append_seam r.done v next.others w) in
      record {
        old = r.old ++ v ∷ [];
        done = r.done ++ w ∷ [];
        rest = next.others;
        were = r.were ∙ (ap (λ (ws : List Waiting). r.old ++ ws) next.is ∙ sym (append_assoc r.old (v ∷ []) next.others));
        are = put ∙ sym (append_assoc r.done (w ∷ []) next.others);
        at = let n = length-append r.done (w ∷ []) in let a = r.at in omega arith;
        each = each_snoc pool o p q r.old r.done v w r.each m;
        set = subst (IsSet pool q) (sym (ap closes_of put ∙ closes_of-append r.done (w ∷ next.others)))
            (polled_set (closes_of r.done) (closes_of next.others) m set_here);
      }

none_left : {A : Type 0} (xs ys : List A) → length xs ≡ length (xs ++ ys) → ys ≡ []
none_left xs [] e = refl
none_left xs (y ∷ ys) e = let l = length-append xs (y ∷ ys) in absurd (omega arith)

-- ---- sweeps

-- Those that are left have all ended, and where they are swept too, all are swept
pub record Sweeping (pool : Pool) (o p : View) (was now : List Waiting) : Type 0 where
  pub set : IsSet pool p (closes_of now)
  pub ended : unfinished (closes_of now) ≡ 0
  pub onward : (q : View) → SweepsAll p q (closes_of now) → SweepsAll o q (closes_of was)

pub sweeping_starts : {pool : Pool} {p : View} (ws : List Waiting) → IsSet pool p (closes_of ws) → unfinished (closes_of ws) ≡ 0 → Sweeping pool p p ws ws
sweeping_starts ws set e = record { set = set; ended = e; onward = λ q s. s }

module _ {pool : Pool} {o p : View} {was now : List Waiting} (left : List Waiting) (r : Sweeping pool o p was now) (w : Waiting) (e : now ≡ left ++ w ∷ []) where
  lists : closes_of now ≡ closes_of left ++ w.close ∷ []
  lists = ap closes_of e ∙ closes_of-append left (w ∷ [])

  set_last : IsSet pool p (closes_of left ++ w.close ∷ [])
  set_last = subst (IsSet pool p) lists r.set

  last : (w.close.ended ≡ true) × (unfinished (closes_of left) ≡ 0)
  last = last_ended (closes_of left) w.close (ap unfinished (sym lists) ∙ r.ended)

  pub sweeping_can : CanSweep pool p w.close
  sweeping_can = can_sweep_last (closes_of left) w.close last.0 set_last

  pub sweeping_on : {q : View} → AfterSweep pool p q w.close.arena → Sweeping pool o q was left
  sweeping_on {q = q} h = record {
    set = swept_set (closes_of left) w.close last.0 set_last h;
    ended = last.1;
    onward = λ x s. r.onward x (subst (SweepsAll p x) (sym lists) (sweeps_then (closes_of left) w.close h s));
  }

-- Where none is left, all are swept.
pub sweeping_ends : {pool : Pool} {o p : View} {was now : List Waiting} → Sweeping pool o p was now → length now ≡ 0 → SweepsAll o p (closes_of was)
sweeping_ends {p = p} {now = now} r e = r.onward p (go now e)
  where
    go : (ws : List Waiting) → length ws ≡ 0 → SweepsAll p p (closes_of ws)
    go [] e = sweeps_none r.set.sound
    go (w ∷ ws) e = absurd (omega arith)
