-- How often a count adds and claims.
use Rattle.std.proofs.Common.{◌≡◌, ◌≢◌, ℕ, zero, suc, ◌+◌, ◌≤◌, ◌==◌, ◌&&◌, Bool, true, false, if◌then◌else◌, List, [], ◌∷◌, ◌++◌, refl, ap, ◌∙◌, ⊎_elim, arith, Some, Result, Ok, Err}
use Rattle.std.{specs.{Prelude.{ℤ}, List.{AllByRecursion}}, proofs.lemmas.Bool.Decides.{nat_tests}}
use Rattle.fm_base.specs.{declared.{arena_id.ArenaId.{ArenaId}, caller.Caller.{Caller}, refusal.Refusal.{Refusal, TheVariants.{Closed, TableFull, WrongThread}}}, Arenas.{same_id}}
use Rattle.fm_base.specs.{Calls.{Add, Call, Enter, Entry, Found, Leave, Reply, SwapIf, Write}, Counting.{adds_to, weighed}, Visits.{refused_visit}}
use Rattle.fm_base.specs.Calls as machine
use Rattle.fm_base.proofs.Names.{same_id-self}
use Rattle.fm_base_laws.specs.{Claims.{claims_by}}
use Rattle.fm_group.specs.{Values.{Valued}, Table.{Counter, claim_word, count_word, named_by, places_in, tried_at}}
use Rattle.fm_group.specs.Counting.{CountsAt, DoesCount, DoesTries, EndsTries, FindsClaim, PassesBy, PassesFirst, ReadsAndTries, ReadsValue, StopsAt, add_one, claim_try, claims, meets, none_yet, one_more, other, shut, uncounted, unnamed, unread}
use Rattle.fm_group_laws.{specs.{Standing.{claims_to}, Touching.{IsIdle}}, proofs.Trying.{value_idle}}

abbrev pub bit : Bool → ℕ
bit b = if b then 1 else 0

pub weighed-append : (f : Entry → ℕ) (es fs : List Entry) → weighed f (es ++ fs) ≡ weighed f es + weighed f fs
weighed-append f [] fs = omega arith
weighed-append f (e ∷ es) fs = let h = weighed-append f es fs in omega (arith, h)

weighed_idle : (f : Entry → ℕ) → ((e : Entry) → IsIdle e.call → f e ≡ 0) → (own : List Entry) → AllByRecursion (λ e. IsIdle e.call) own → weighed f own ≡ 0
weighed_idle f none [] h = refl
weighed_idle f none (e ∷ own) h = let a = none e h.0 in let b = weighed_idle f none own h.1 in omega (arith, a, b)

-- ---- adds

abbrev adds_of : Counter → ℕ → Entry → ℕ
adds_of w q e = adds_to w.table.arena (count_word w.table q) e.call

idle_adds_none : (id : ArenaId) (word : ℕ) (call : Call) → IsIdle call → adds_to id word call ≡ 0
idle_adds_none id word (Add a k n) i = absurd i
idle_adds_none id word call i = refl

one_add : (w : Counter) (p q : ℕ) → adds_to w.table.arena (count_word w.table q) (Add w.table.arena (count_word w.table p) 1) ≡ bit (p == q)
one_add w p q = go (p == q) refl
  where
    go : (b : Bool) → (p == q) ≡ b
        → bit (same_id w.table.arena w.table.arena && count_word w.table p == count_word w.table q) ≡ bit (p == q)
    go true e =
        let same : p ≡ q = grind (arith, nat_tests) in
        let t : (count_word w.table p == count_word w.table q) ≡ true = grind (arith, nat_tests) in
        rw (same_id-self w.table.arena, t, e) refl
    go false e =
        let apart : p ≢ q = grind (arith, nat_tests) in
        let t : (count_word w.table p == count_word w.table q) ≡ false = grind (arith, nat_tests) in
        rw (same_id-self w.table.arena, t, e) refl

-- ---- claims

idle_by : (id : ArenaId) (word : ℕ) (call : Call) (reply : Reply) → IsIdle call → claims_by id word call reply ≡ 0
idle_by id word (SwapIf a k old new) reply i = absurd i
idle_by id word call reply i = refl

idle_claims_none : (w : Counter) (k : ℕ) (e : Entry) → IsIdle e.call → claims_to w k e ≡ 0
idle_claims_none w zero e i = refl
idle_claims_none w (suc k) e i =
    let a = idle_claims_none w k e i in
    let b = idle_by w.table.arena (claim_word w.table k) e.call e.reply i in
    omega (arith, a, b)

abbrev an_entry : Caller → Call → Reply → Entry
an_entry c call reply = record { caller = c; call = call; reply = reply }

adds_claim_none : (w : Counter) (k : ℕ) (c : Caller) (p count : ℕ)
    → claims_to w k (an_entry c (Add w.table.arena (count_word w.table p) 1) (Found count)) ≡ 0
adds_claim_none w zero c p count = refl
adds_claim_none w (suc k) c p count = let a = adds_claim_none w k c p count in omega (arith, a)

no_claim : (b d e : Bool) → e ≡ false → bit (b && d && e) ≡ 0
no_claim true true e is = ap bit is
no_claim true false e is = refl
no_claim false d e is = refl

module _ (w : Counter) (c : Caller) (n p : ℕ) where
  abbrev tries_it : ℕ → Entry
  tries_it found = an_entry c (SwapIf w.table.arena (claim_word w.table p) 0 (n + 1)) (Found found)

  -- A try that found a claim claims nothing.
  found_none : (k found : ℕ) → found ≢ 0 → claims_to w k (tries_it found) ≡ 0
  found_none zero found some = refl
  found_none (suc k) found some =
      let a = found_none k found some in
      let not : (found == 0) ≡ false = grind (arith, nat_tests) in
      let b = no_claim (same_id w.table.arena w.table.arena) (claim_word w.table p == claim_word w.table k) (found == 0) not in
      omega (arith, a, b)

  -- Each claims one place at most.
  none_above : (k found : ℕ) → k ≤ p → claims_to w k (tries_it found) ≡ 0
  none_above zero found low = refl
  none_above (suc k) found low =
      let a = none_above k found (omega (arith, low)) in
      let t : (claim_word w.table p == claim_word w.table k) ≡ false = grind (arith, nat_tests) in
      let b = not_here (same_id w.table.arena w.table.arena) (claim_word w.table p == claim_word w.table k) (found == 0) t in
      omega (arith, a, b)
    where
      not_here : (b d e : Bool) → d ≡ false → bit (b && d && e) ≡ 0
      not_here true true e is = absurd (cc)
      not_here true false e is = refl
      not_here false d e is = refl

  at_most : (b d e : Bool) → (if b && d && e then 1 else 0) ≤ 1
  at_most true true true = omega arith
  at_most true true false = omega arith
  at_most true false e = omega arith
  at_most false d e = omega arith

  one_most : (k found : ℕ) → claims_to w k (tries_it found) ≤ 1
  one_most zero found = omega arith
  one_most (suc k) found = go (one_most k found) (k == p) refl
    where
      elsewhere : (b d e : Bool) → d ≡ false → bit (b && d && e) ≡ 0
      elsewhere true true e is = absurd (cc)
      elsewhere true false e is = refl
      elsewhere false d e is = refl

      go : claims_to w k (tries_it found) ≤ 1 → (b : Bool) → (k == p) ≡ b
          → claims_to w k (tries_it found) + claims_by w.table.arena (claim_word w.table k) (tries_it found).call (Found found) ≤ 1
      go before true e =
          let same : k ≡ p = grind (arith, nat_tests) in
          let a = none_above k found (omega (arith, same)) in
          let b = at_most (same_id w.table.arena w.table.arena) (claim_word w.table p == claim_word w.table k) (found == 0) in
          omega (arith, a, b)
      go before false e =
          let apart : k ≢ p = grind (arith, nat_tests) in
          let t : (claim_word w.table p == claim_word w.table k) ≡ false = grind (arith, nat_tests) in
          let b = elsewhere (same_id w.table.arena w.table.arena) (claim_word w.table p == claim_word w.table k) (found == 0) t in
          omega (arith, before, b)

-- ---- what a count weighs

module _ (c : Caller) (w : Counter) (q : ℕ) where
  abbrev added : List Entry → ℕ
  added own = weighed (λ e. adds_to w.table.arena (count_word w.table q) e.call) own

  value_adds : (n : ℕ) (r : Result ℤ Refusal) (own : List Entry) → ReadsValue c w.values n r own → added own ≡ 0
  value_adds n r own h = weighed_idle (λ e. adds_to w.table.arena (count_word w.table q) e.call)
      (λ e i. idle_adds_none w.table.arena (count_word w.table q) e.call i) own (value_idle c w.values n r own h)

  module _ (n : ℕ) (x : ℤ) where
    find_adds : (p : ℕ) (r : Result ℤ Refusal) (own : List Entry) → FindsClaim c w n x p r own → added own ≡ 0
    find_adds p r own f =
        let both = weighed-append (λ e. adds_to w.table.arena (count_word w.table q) e.call) (claim_try c w n p f.found) f.reads in
        let reads = value_adds f.value r f.reads f.read in
        ap (λ (es : List Entry). weighed (λ e. adds_to w.table.arena (count_word w.table q) e.call) es) f.parts ∙ omega (arith, both, reads)

    count_adds_at : (p : ℕ) (own : List Entry) → CountsAt c w n x p own → added own ≡ bit (p == q)
    count_adds_at p own (claims count) = let one = one_add w p q in omega (arith, one)
    count_adds_at p own (meets count first f) =
        let one = one_add w p q in
        let both = weighed-append (λ e. adds_to w.table.arena (count_word w.table q) e.call) first (add_one c w p count) in
        let none = find_adds p (Ok x) first f in
        omega (arith, one, both, none)

    pass_adds : (p : ℕ) (own : List Entry) → PassesBy c w n x p own → added own ≡ 0
    pass_adds p own (unnamed found some none) = refl
    pass_adds p own (other y all apart f) = find_adds p (Ok y) all f

    passed_adds : (k : ℕ) (own : List Entry) → PassesFirst c w n x k own → added own ≡ 0
    passed_adds k own none_yet = refl
    passed_adds k own (one_more {k = j} first more h h2) =
        let both = weighed-append (λ e. adds_to w.table.arena (count_word w.table q) e.call) first more in
        let before = passed_adds j first h in
        let now = pass_adds (tried_at w x j) more h2 in
        omega (arith, both, before, now)

    tries_add : (p : ℕ) (own : List Entry) → EndsTries c w n x (CountsAt c w n x) p own → added own ≡ bit (p == q)
    tries_add p own h =
        let both = weighed-append (λ e. adds_to w.table.arena (count_word w.table q) e.call) h.before h.last in
        let before = passed_adds h.k h.before h.passed in
        let now = count_adds_at p h.last h.ended in
        ap (λ (es : List Entry). weighed (λ e. adds_to w.table.arena (count_word w.table q) e.call) es) h.parts ∙ omega (arith, both, before, now)

  -- One is added at its place.
  pub count_adds : (n p : ℕ) (own : List Entry) → DoesCount c w n (Ok p) own → weighed (λ e. adds_to w.table.arena (count_word w.table q) e.call) own ≡ bit (p == q)
  count_adds n p own d =
      let h = d.1 in
      let both = weighed-append (λ e. adds_to w.table.arena (count_word w.table q) e.call) h.reads h.tries in
      let reads = value_adds n (Ok h.number) h.reads h.read in
      let one = tries_add n h.number p h.tries h.tried in
      ap (λ (es : List Entry). weighed (λ e. adds_to w.table.arena (count_word w.table q) e.call) es) h.parts ∙ omega (arith, both, reads, one)

module _ (c : Caller) (w : Counter) (k : ℕ) where
  abbrev claims_all : List Entry → ℕ
  claims_all own = weighed (claims_to w k) own

  value_claims : (n : ℕ) (r : Result ℤ Refusal) (own : List Entry) → ReadsValue c w.values n r own → claims_all own ≡ 0
  value_claims n r own h = weighed_idle (claims_to w k) (idle_claims_none w k) own (value_idle c w.values n r own h)

  plain : (call : Call) (reply : Reply) → IsIdle call → claims_to w k (an_entry c call reply) ≡ 0
  plain call reply i = idle_claims_none w k (an_entry c call reply) i

  named_some : (v : Valued) (found m : ℕ) → named_by v found ≡ Some m → found ≢ 0
  named_some v found m e none = absurd (cc)

  module _ (n : ℕ) (x : ℤ) (p : ℕ) where
    try_claims : (found : ℕ) → found ≢ 0 → claims_all (claim_try c w n p found) ≡ 0
    try_claims found some =
        let a = plain (Enter w.table.arena) machine.Fine tt in
        let b = found_none w c n p k found some in
        let d = plain (Leave w.table.arena) machine.Fine tt in
        omega (arith, a, b, d)

    find_claims : (r : Result ℤ Refusal) (own : List Entry) → FindsClaim c w n x p r own → claims_all own ≡ 0
    find_claims r own f =
        let both = weighed-append (claims_to w k) (claim_try c w n p f.found) f.reads in
        let tried = try_claims f.found (named_some w.values f.found f.value f.names) in
        let reads = value_claims f.value r f.reads f.read in
        ap (λ (es : List Entry). weighed (claims_to w k) es) f.parts ∙ omega (arith, both, reads, tried)

    count_claims_at : (own : List Entry) → CountsAt c w n x p own → claims_all own ≤ 1
    count_claims_at own (claims count) =
        let a = plain (Enter w.table.arena) machine.Fine tt in
        let b = one_most w c n p k 0 in
        let e = adds_claim_none w k c p count in
        let d = plain (Leave w.table.arena) machine.Fine tt in
        omega (arith, a, b, e, d)
    count_claims_at own (meets count first f) =
        let both = weighed-append (claims_to w k) first (add_one c w p count) in
        let none = find_claims (Ok x) first f in
        let a = plain (Enter w.table.arena) machine.Fine tt in
        let e = adds_claim_none w k c p count in
        let d = plain (Leave w.table.arena) machine.Fine tt in
        omega (arith, both, none, a, e, d)

    pass_claims : (own : List Entry) → PassesBy c w n x p own → claims_all own ≡ 0
    pass_claims own (unnamed found some none) = try_claims found some
    pass_claims own (other y all apart f) = find_claims (Ok y) all f

    stop_claims : (own : List Entry) → StopsAt c w n x p own → claims_all own ≡ 0
    stop_claims own shut = let a = plain (Enter w.table.arena) machine.Closed tt in omega (arith, a)
    stop_claims own (unread all f) = find_claims (Err Closed) all f
    stop_claims own (uncounted first f) =
        let both = weighed-append (claims_to w k) first (refused_visit c w.table.arena) in
        let none = find_claims (Ok x) first f in
        let a = plain (Enter w.table.arena) machine.Closed tt in
        omega (arith, both, none, a)

  passed_claims : (n : ℕ) (x : ℤ) (j : ℕ) (own : List Entry) → PassesFirst c w n x j own → claims_all own ≡ 0
  passed_claims n x j own none_yet = refl
  passed_claims n x j own (one_more {k = i} first more h h2) =
      let both = weighed-append (claims_to w k) first more in
      let before = passed_claims n x i first h in
      let now = pass_claims n x (tried_at w x i) more h2 in
      omega (arith, both, before, now)

  ends_claim : (n : ℕ) (x : ℤ) (Ends : ℕ → List Entry → Type 0) → ((p : ℕ) (own : List Entry) → Ends p own → claims_all own ≤ 1)
      → (p : ℕ) (own : List Entry) → EndsTries c w n x Ends p own → claims_all own ≤ 1
  ends_claim n x Ends most p own h =
      let both = weighed-append (claims_to w k) h.before h.last in
      let before = passed_claims n x h.k h.before h.passed in
      let now = most p h.last h.ended in
      let is = ap (λ (es : List Entry). weighed (claims_to w k) es) h.parts in
      omega (arith, both, before, now, is)

  tries_claim : (n : ℕ) (x : ℤ) (r : Result ℕ Refusal) (own : List Entry) → DoesTries c w n x r own → claims_all own ≤ 1
  tries_claim n x (Ok p) own d = ends_claim n x (CountsAt c w n x) (λ q es h. count_claims_at n x q es h) p own d
  tries_claim n x (Err Closed) own d =
      ends_claim n x (StopsAt c w n x) (λ q es h. let none = stop_claims n x q es h in omega (arith, none)) d.0 own d.1
  tries_claim n x (Err TableFull) own d = let none = passed_claims n x (places_in w.table) own d in omega (arith, none)
  tries_claim n x (Err r) own d = absurd d

  both_claim : (n : ℕ) (r : Result ℕ Refusal) (own : List Entry) → ReadsAndTries c w n r own → claims_all own ≤ 1
  both_claim n r own h =
      let both = weighed-append (claims_to w k) h.reads h.tries in
      let reads = value_claims n (Ok h.number) h.reads h.read in
      let now = tries_claim n h.number r h.tries h.tried in
      let is = ap (λ (es : List Entry). weighed (claims_to w k) es) h.parts in
      omega (arith, both, reads, now, is)

  -- A count claims one place at most,
  pub count_claims : (n : ℕ) (r : Result ℕ Refusal) (own : List Entry) → DoesCount c w n r own → weighed (claims_to w k) own ≤ 1
  count_claims n (Ok p) own d = both_claim n (Ok p) own d.1
  count_claims n (Err WrongThread) own d = let is = ap (λ (es : List Entry). weighed (claims_to w k) es) d.1 in omega (arith, is)
  count_claims n (Err Closed) own d = ⊎_elim
      (λ (h : ReadsValue c w.values n (Err Closed) own). let none = value_claims n (Err Closed) own h in omega (arith, none))
      (λ (h : ReadsAndTries c w n (Err Closed) own). both_claim n (Err Closed) own h) d.1
  count_claims n (Err TableFull) own d = both_claim n (Err TableFull) own d.1
  count_claims n (Err r) own d = absurd d

  -- and none where the table is full.
  pub full_claims : (n : ℕ) (own : List Entry) → DoesCount c w n (Err TableFull) own → weighed (claims_to w k) own ≡ 0
  full_claims n own d =
      let h = d.1 in
      let both = weighed-append (claims_to w k) h.reads h.tries in
      let reads = value_claims n (Ok h.number) h.reads h.read in
      let now = passed_claims n h.number (places_in w.table) h.tries h.tried in
      ap (λ (es : List Entry). weighed (claims_to w k) es) h.parts ∙ omega (arith, both, reads, now)
