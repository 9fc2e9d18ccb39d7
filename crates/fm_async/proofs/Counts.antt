-- How many closes and sweeps a pass has.
use Rattle.std.proofs.Common.{◌≡◌, ◌≢◌, ℕ, ◌+◌, ◌<◌, ◌≤◌, Bool, true, false, if◌then◌else◌, List, [], ◌∷◌, ◌++◌, length, get_or, take, refl, ap, sym, ◌∙◌, Some, arith}
use Rattle.std.proofs.lemmas.List.{length-append, take_more}
use Rattle.fm_base.specs.{declared.arena_id.ArenaId.{ArenaId}, Arenas.{same_id}, Finds.{Stretch, Walk}}
use Rattle.fm_base.proofs.Names.{same_id-true}
use Rattle.fm_base_machine.proofs.Putting.{same_id-not}
use Rattle.fm_rule_facts.specs.Closes.{passed_of, dropped}
use Rattle.fm_close.specs.declared.shutting.Shutting.{Shutting}
use Rattle.fm_async.specs.{declared.waiting.Waiting.{Waiting}, Sets.{closes_of, unfinished}}

-- Where an arena has a walk, one fewer is left once it is dropped.
pub length-dropped : {over : Stretch} (cs : List (Walk over)) (a : ArenaId) (k : ℕ) → passed_of cs a ≡ Some k → length (dropped a cs) + 1 ≡ length cs
length-dropped [] a k e = absurd (cc)
length-dropped (c ∷ cs) a k e = go (same_id c.arena a) e (length-dropped cs a k)
  where
    go : (b : Bool) → (if b then Some c.passed else passed_of cs a) ≡ Some k → (passed_of cs a ≡ Some k → length (dropped a cs) + 1 ≡ length cs)
        → length (if b then cs else c ∷ dropped a cs) + 1 ≡ length (c ∷ cs)
    go true s ih = omega arith
    go false s ih = let n = ih s in omega arith

-- ---- those of a list that haven't ended

pub unfinished-append : (ss ts : List Shutting) → unfinished (ss ++ ts) ≡ unfinished ss + unfinished ts
unfinished-append [] ts = omega arith
unfinished-append (s ∷ ss) ts = go s.ended (unfinished-append ss ts)
  where
    go : (b : Bool) → unfinished (ss ++ ts) ≡ unfinished ss + unfinished ts
        → (if b then unfinished (ss ++ ts) else unfinished (ss ++ ts) + 1) ≡ (if b then unfinished ss else unfinished ss + 1) + unfinished ts
    go true e = e
    go false e = omega arith

-- one by itself
abbrev pub one_left : (ended : Bool) → ℕ
one_left ended = if ended then 0 else 1

-- One that stands among others counts by itself.
pub unfinished-among : (ss ts : List Shutting) (s : Shutting) → unfinished (ss ++ s ∷ ts) ≡ (unfinished ss + unfinished ts) + one_left s.ended
unfinished-among ss ts s = unfinished-append ss (s ∷ ts) ∙ go s.ended
  where
    go : (b : Bool) → unfinished ss + (if b then unfinished ts else unfinished ts + 1) ≡ (unfinished ss + unfinished ts) + one_left b
    go true = omega arith
    go false = omega arith

pub length-among : {A : Type 0} (xs ys : List A) (x : A) → length (xs ++ x ∷ ys) ≡ (length xs + length ys) + 1
length-among xs ys x = let e = length-append xs (x ∷ ys) in omega arith

-- ---- the closes of a list

pub closes_of-append : (vs ws : List Waiting) → closes_of (vs ++ ws) ≡ closes_of vs ++ closes_of ws
closes_of-append [] ws = refl
closes_of-append (v ∷ vs) ws = ap (λ ss. v.close ∷ ss) (closes_of-append vs ws)

pub length-closes_of : (ws : List Waiting) → length (closes_of ws) ≡ length ws
length-closes_of [] = refl
length-closes_of (w ∷ ws) = let e = length-closes_of ws in omega arith

-- At most all of them.
pub unfinished-le : (ss : List Shutting) → unfinished ss ≤ length ss
unfinished-le [] = omega arith
unfinished-le (s ∷ ss) = go s.ended (unfinished-le ss)
  where
    go : (b : Bool) → unfinished ss ≤ length ss → (if b then unfinished ss else unfinished ss + 1) ≤ length (s ∷ ss)
    go true l = omega arith
    go false l = omega arith

-- One more of a row.
pub unfinished-more : (ws : List Waiting) (i : ℕ) (w : Waiting) → i < length ws → w ≡ get_or ws i w
    → unfinished (closes_of (take (i + 1) ws)) ≡ unfinished (closes_of (take i ws)) + one_left w.close.ended
unfinished-more ws i w l e =
    let lists : closes_of (take (i + 1) ws) ≡ closes_of (take i ws) ++ w.close ∷ [] =
    ap closes_of (take_more ws i w l ∙ ap (λ (x : Waiting). take i ws ++ x ∷ []) (sym e)) ∙ closes_of-append (take i ws) (w ∷ []) in
    let n = unfinished-among (closes_of (take i ws)) [] w.close in
    let m = ap unfinished lists in
    omega arith
