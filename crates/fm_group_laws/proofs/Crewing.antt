-- What a crew's shares come to, where nobody else changes the table's words or the records' bytes.
use Rattle.std.proofs.Common.{◌≡◌, ℕ, zero, suc, ◌+◌, ◌-◌, ◌/◌, ◌^◌, ◌<◌, ◌≤◌, ◌==◌, ◌&&◌, if◌then◌else◌, Bool, true, false, List, [], ◌∷◌, ◌++◌, length, map, refl, sym, ap, ◌∙◌, subst, inl, inr, ◌⊎◌, ⊎_elim, arith, Option, Some, None, Result, Ok, Err}
use Rattle.std.{specs.{Prelude.{ℤ, filter}, List.{AllByRecursion, AllZip, range_with_len}}, proofs.Math.Nat.{div-mul-le_self, mul-le-mul_left}, proofs.lemmas.{Bool.{cases_lt, Decides.{nat_tests}}, List.{map-append}, List.FromFn.{length-map-range_with_len}}}
use Rattle.fm_base_lists.{specs.Among.{IsAmong}, proofs.{Among.{all_filtered, among_kept, among_map}, Each.{all_among, all_both, all_of_among, all_weaker}, Ranges.{range_append}}}
use Rattle.fm_base.specs.{declared.{arena_id.ArenaId.{ArenaId}, caller.Caller.{Caller}, refusal.Refusal.{Refusal, TheVariants.{TableFull}}}, Arenas.{State, are_one, same_id, word_in}, Calls.{Call, Add, Entry, Found, Reply, SwapIf, Write}}
use Rattle.fm_base.{specs.{Counting.{OnlyAdds, adds_to, total}, Histories.{made_by}, Untouched.{Spares}}, proofs.Counting.{counted as word_counted}}
use Rattle.fm_base.proofs.Names.{same_id-true}
use Rattle.fm_base.{specs.Counting.{LeavesWord, weighed}, proofs.{Either.{by_either}, Weights.{weighs_by_callers}}}
use Rattle.fm_base_laws.{specs.Claims.{LeavesAs, OnlyClaims, all_claims, claims_by}, proofs.Claims.{claimed_by_some, claims_stand}}
use Rattle.fm_records.{specs.{Alone.{bytes_at_places}, Shares.{IsSpared}}, proofs.{AnsweringBytes.{length-places}, Sharing.{spared_found}}}
use Rattle.fm_group_lists.{specs.{Groups.{AreGroups, AreSummed, Group}, Settled.{AreSettled, named_below, times_of}}, proofs.Summing.{groups}}
use Rattle.fm_group.specs.{Values.{all_numbers, count_of, number_in}, Table.{Counter, claim_word, count_word, named_by, places_in}}
use Rattle.fm_group_laws.specs.Laws.{CountsAreGroups, NeverFull}
use Rattle.fm_group_laws.specs.{Shares.{AreCounting, last_word, AreLined, AreShared, DoesShare, IsElsewhere, NobodyElseCounts, Share}, Standing.{Fit, claims_to, key_at, number_if}, Touching.{Touches}}
use Rattle.fm_group.proofs.{Naming.{named_one as is_below}, Ordinals.{by_ordinal}}
use Rattle.fm_group_laws.proofs.{Sharing.{counted_adds, counted_settle, full_share, share_claims, share_full, share_touch, times_of-append, zip_both}}
use Rattle.fm_group_laws.proofs.{Trying.{touch_adds, touch_claims, touch_spares}, Weighing.{bit}}

-- ---- words that others leave

leaves_claims : (id : ArenaId) (word : ℕ) (call : Call) → LeavesWord id word call → OnlyClaims id word call
leaves_claims id word (Write a k v) h = h
leaves_claims id word (SwapIf a k old new) h = λ at. absurd (h at)
leaves_claims id word (Add a k n) h = h
leaves_claims id word call h = tt

leaves_adds : (id : ArenaId) (word : ℕ) (call : Call) → LeavesWord id word call → OnlyAdds id word call
leaves_adds id word (Write a k v) h = h
leaves_adds id word (SwapIf a k old new) h = h
leaves_adds id word (Add a k n) h = tt
leaves_adds id word call h = tt

leaves_unclaimed : (id : ArenaId) (word : ℕ) (call : Call) (reply : Reply) → LeavesWord id word call → claims_by id word call reply ≡ 0
leaves_unclaimed id word (SwapIf a k old new) (Found found) h = go (same_id a id) (k == word) refl refl
  where
    go : (b d : Bool) → same_id a id ≡ b → (k == word) ≡ d → bit (b && d && found == 0) ≡ 0
    go true true e f = let at : k ≡ word = grind (arith, nat_tests) in absurd (h (same_id-true a id e, at))
    go true false e f = refl
    go false d e f = refl
leaves_unclaimed id word (SwapIf a k old new) reply h = refl
leaves_unclaimed id word call reply h = refl

leaves_unadded : (id : ArenaId) (word : ℕ) (call : Call) → LeavesWord id word call → adds_to id word call ≡ 0
leaves_unadded id word (Add a k n) h = go (same_id a id) (k == word) refl refl
  where
    go : (b d : Bool) → same_id a id ≡ b → (k == word) ≡ d → ◌≡◌ {A = ℕ} (if b && d then n else 0) 0
    go true true e f = let at : k ≡ word = grind (arith, nat_tests) in absurd (h (same_id-true a id e, at))
    go true false e f = refl
    go false d e f = refl
leaves_unadded id word call h = refl

elsewhere_unclaimed : (w : Counter) (k : ℕ) (e : Entry) → k ≤ places_in w.table → IsElsewhere w e.call → claims_to w k e ≡ 0
elsewhere_unclaimed w zero e most o = refl
elsewhere_unclaimed w (suc k) e most o =
    let rest = elsewhere_unclaimed w k e (omega (arith, most)) o in
    let one = leaves_unclaimed w.table.arena (claim_word w.table k) e.call e.reply (o.claims k (omega (arith, most))) in
    omega (arith, rest, one)

times_most : (q : ℕ) (at : List ℕ) → times_of q at ≤ length at
times_most q [] = omega arith
times_most q (p ∷ at) = let rest = times_most q at in let one = one_or_none (p == q) in omega (arith, rest, one)
  where
    one_or_none : (b : Bool) → bit b ≤ 1
    one_or_none true = omega arith
    one_or_none false = omega arith

zip_long : {A B : Type 0} (R : A → B → Type 0) (xs : List A) (ys : List B) → AllZip R xs ys → length xs ≡ length ys
zip_long R [] [] h = refl
zip_long R (x ∷ xs) (y ∷ ys) h = let rest = zip_long R xs ys h.1 in omega (arith, rest)
zip_long R xs ys h = absurd h

-- ---- shares of a crew

module _ (w : Counter) (es : List Entry) (some : 0 < places_in w.table) where
  each_touches : (cs : List Caller) (bs : List Share) (rs : List (Result (Unit {0}) Refusal)) → AreShared w es cs bs rs
      → AllByRecursion (λ c. AllByRecursion (λ e. Touches w e.call) (made_by c es)) cs
  each_touches [] [] [] h = tt
  each_touches (c ∷ cs) (b ∷ bs) (r ∷ rs) h = (share_touch c w some b.0 b.1 r (made_by c es) h.0, each_touches cs bs rs h.1)
  each_touches cs bs rs h = absurd h

  -- what follows of touching, and of being elsewhere, holds of all entries
  pub all_are : (P : Call → Type 0) → ((call : Call) → Touches w call → P call) → ((call : Call) → IsElsewhere w call → P call)
      → (cs : List Caller) (bs : List Share) (rs : List (Result (Unit {0}) Refusal)) → AreShared w es cs bs rs → NobodyElseCounts w cs es
      → AllByRecursion (λ e. P e.call) es
  all_are P mine theirs cs bs rs shared others =
      by_either (λ e. P e.call) cs es
      (all_weaker (λ e. IsAmong e.caller cs ⊎ IsElsewhere w e.call) (λ e. IsAmong e.caller cs ⊎ P e.call)
      (λ e h. ⊎_elim (λ i. inl i) (λ (o : IsElsewhere w e.call). inr (theirs e.call o)) h) es others)
      (all_weaker (λ c. AllByRecursion (λ e. Touches w e.call) (made_by c es)) (λ c. AllByRecursion (λ e. P e.call) (made_by c es))
      (λ c h. all_weaker (λ e. Touches w e.call) (λ e. P e.call) (λ e t. mine e.call t) (made_by c es) h) cs (each_touches cs bs rs shared))

  total_claims : (m : ℕ) (from to : ℕ) (cs : List Caller) (bs : List Share) (rs : List (Result (Unit {0}) Refusal)) → AreShared w es cs bs rs
      → AreLined from bs to → total (λ c. weighed (claims_to w m) (made_by c es)) cs + from ≤ to
  total_claims m from to [] [] [] h lined = omega (arith, lined)
  total_claims m from to (c ∷ cs) (b ∷ bs) (r ∷ rs) h lined =
      let mine = share_claims c w some b.0 m b.1 r (made_by c es) lined.1 h.0 in
      let rest = total_claims m b.1 to cs bs rs h.1 lined.2 in
      let start = lined.0 in let low = lined.1 in
      omega (arith, mine, rest, start, low)
  total_claims m from to cs bs rs h lined = absurd h

  -- one of them was refused so, and found it full
  pub record FoundFull (cs : List Caller) (rs : List (Result (Unit {0}) Refusal)) (to : ℕ) : Type 0 where
    pub caller : Caller
    pub from : ℕ
    pub until : ℕ
    pub low : until ≤ to
    pub share : DoesShare caller w from until (Err TableFull) (made_by caller es)

  ends_below : (from to : ℕ) (bs : List Share) → AreLined from bs to → from ≤ to
  ends_below from to [] l = omega (arith, l)
  ends_below from to (b ∷ bs) l = let rest = ends_below b.1 to bs l.2 in let a = l.0 in let c = l.1 in omega (arith, rest, a, c)

  full_claims : (m : ℕ) (from to : ℕ) (cs : List Caller) (bs : List Share) (rs : List (Result (Unit {0}) Refusal)) → AreShared w es cs bs rs
      → AreLined from bs to → IsAmong (Err TableFull) rs
      → FoundFull cs rs to × (total (λ c. weighed (claims_to w m) (made_by c es)) cs + from + 1 ≤ to)
  full_claims m from to [] [] [] h lined i = absurd i
  full_claims m from to (c ∷ cs) (b ∷ bs) (r ∷ rs) h lined (inl e) =
      let mine = subst (λ (x : Result (Unit {0}) Refusal). DoesShare c w b.0 b.1 x (made_by c es)) (sym e) h.0 in
      let most = full_share c w some b.0 m b.1 (made_by c es) mine in
      let rest = total_claims m b.1 to cs bs rs h.1 lined.2 in
      let start = lined.0 in let low = lined.1 in (
        record { caller = c; from = b.0; until = b.1; low = ends_below b.1 to bs lined.2; share = mine },
        omega (arith, most, rest, start, low),
      )
  full_claims m from to (c ∷ cs) (b ∷ bs) (r ∷ rs) h lined (inr i) =
      let mine = share_claims c w some b.0 m b.1 r (made_by c es) lined.1 h.0 in
      let rest = full_claims m b.1 to cs bs rs h.1 lined.2 i in
      let f = rest.0 in let sum = rest.1 in
      let start = lined.0 in let low = lined.1 in (
        record { caller = f.caller; from = f.from; until = f.until; low = f.low; share = f.share },
        omega (arith, mine, sum, start, low),
      )
  full_claims m from to cs bs rs h lined i = absurd h

-- how often places were claimed, place by place
claims_step : (w : Counter) (p : ℕ) (es : List Entry) → weighed (claims_to w (suc p)) es
    ≡ weighed (claims_to w p) es + all_claims w.table.arena (claim_word w.table p) es
claims_step w p [] = refl
claims_step w p (e ∷ es) = let h = claims_step w p es in omega (arith, h)

claims_none : (w : Counter) (es : List Entry) → weighed (claims_to w 0) es ≡ 0
claims_none w [] = refl
claims_none w (e ∷ es) = let h = claims_none w es in omega (arith, h)

claims_sum : (w : Counter) (es : List Entry) (m : ℕ) → ((p : ℕ) → p < m → 1 ≤ all_claims w.table.arena (claim_word w.table p) es) → m ≤ weighed (claims_to w m) es
claims_sum w es zero h = omega arith
claims_sum w es (suc m) h =
    let step = claims_step w m es in
    let rest = claims_sum w es m (λ p b. h p (omega (arith, b))) in
    let one = h m (omega arith) in
    omega (arith, step, rest, one)

-- ---- where nobody else touched the table or the records

module _ (limit : ℕ) (now : State) (w : Counter) (es : List Entry) (cs : List Caller) (bs : List Share) (rs : List (Result (Unit {0}) Refusal))
    (h : AreCounting limit now w es cs bs rs) where
  abbrev bytes : List ℕ
  bytes = bytes_at_places now w.values.records

  abbrev word : ℕ → ℕ
  word = last_word limit now w es

  some : 0 < places_in w.table
  some = let a = h.can.table.some in let b = h.can.table.even in omega (arith, a, b)

  only_claims : (p : ℕ) → p < places_in w.table → AllByRecursion (λ e. OnlyClaims w.table.arena (claim_word w.table p) e.call) es
  only_claims p within = all_are w es some (OnlyClaims w.table.arena (claim_word w.table p)) (λ call t. touch_claims w p call t)
      (λ call o. leaves_claims w.table.arena (claim_word w.table p) call (o.claims p within)) cs bs rs h.shares h.others

  only_adds : (p : ℕ) → p < places_in w.table → AllByRecursion (λ e. OnlyAdds w.table.arena (count_word w.table p) e.call) es
  only_adds p within = all_are w es some (OnlyAdds w.table.arena (count_word w.table p)) (λ call t. touch_adds w p call t)
      (λ call o. leaves_adds w.table.arena (count_word w.table p) call (o.counts p within)) cs bs rs h.shares h.others

  pub spared : IsSpared limit now es w.values.records
  spared = record {
    legal = h.legal;
    spared = λ place from below. all_are w es some (Spares w.values.records.arena place)
        (λ call t. touch_spares w w.values.records.arena place h.can.table.apart call t) (λ call o. o.records place from below) cs bs rs h.shares h.others;
  }

  -- Each caller's entries fit what is left.
  pub fits : (c : Caller) → Fit w bytes word (made_by c es)
  fits c = record {
    claims = λ p within. all_filtered (LeavesAs w.table.arena (claim_word w.table p) (word (claim_word w.table p))) (λ e. are_one e.caller c) es
        (claims_stand limit now es w.table.arena (claim_word w.table p) h.legal (only_claims p within));
    finds = spared_found limit now es w.values.records c spared;
  }

  size : length bytes ≡ w.values.records.size
  size = length-places now w.values.records

  -- ---- the table never comes full where it has a place for each value

  pub never_full : count_of w.values ≤ places_in w.table → IsAmong (Err TableFull) rs → ⊥
  never_full room i =
      let found = full_claims w es some (places_in w.table) 0 (count_of w.values) cs bs rs h.shares h.lined i in
      let f = found.0 in
      let stands = share_full f.caller w some f.from bytes word h.can.values size f.until (made_by f.caller es) f.low f.share (fits f.caller) in
      let each : (p : ℕ) → p < places_in w.table → 1 ≤ all_claims w.table.arena (claim_word w.table p) es = λ p within.
      claimed_by_some limit now es w.table.arena (claim_word w.table p) h.legal (only_claims p within) (h.no_claim p within) (stands p within) in
      let many = claims_sum w es (places_in w.table) each in
      let by = weighs_by_callers (claims_to w (places_in w.table)) es cs h.apart others_none in
      let few = found.1 in
      omega (arith, room, many, by, few)
    where
      others_none : AllByRecursion (λ e. IsAmong e.caller cs ⊎ (claims_to w (places_in w.table) e ≡ 0)) es
      others_none = all_weaker (λ e. IsAmong e.caller cs ⊎ IsElsewhere w e.call) (λ e. IsAmong e.caller cs ⊎ (claims_to w (places_in w.table) e ≡ 0))
          (λ e k. ⊎_elim (λ i. inl i) (λ (o : IsElsewhere w e.call). inr (elsewhere_unclaimed w (places_in w.table) e (omega arith) o)) k) es h.others

  -- ---- what all shares come to

  -- some shares' places, one for each ordinal
  record IsPlaced (ds : List Caller) (from to : ℕ) : Type 0 where
    at : List ℕ
    below : AllByRecursion (λ p. p < places_in w.table) at
    stand : AllZip (λ p x. key_at w bytes word p ≡ Some x) at (map (number_in w.values bytes) (range_with_len from (to - from)))
    adds : (q : ℕ) → total (λ c. weighed (λ e. adds_to w.table.arena (count_word w.table q) e.call) (made_by c es)) ds ≡ times_of q at

  placed : (from to : ℕ) (ds : List Caller) (ls : List Share) (qs : List (Result (Unit {0}) Refusal)) → AreShared w es ds ls qs → AreLined from ls to
      → AllByRecursion (λ r. r ≡ Ok tt) qs → to ≤ count_of w.values → IsPlaced ds from to
  placed from to [] [] [] shared lined ok most =
      let none : to - from ≡ 0 = omega (arith, lined) in
      record {
        at = [];
        below = tt;
        stand = subst (λ (n : ℕ). AllZip (λ p x. key_at w bytes word p ≡ Some x) [] (map (number_in w.values bytes) (range_with_len from n))) (sym none) tt;
        adds = λ q. refl;
      }
  placed from to (c ∷ ds) (b ∷ ls) (r ∷ qs) shared lined ok most =
      let mine = subst (λ (x : Result (Unit {0}) Refusal). DoesShare c w b.0 b.1 x (made_by c es)) ok.0 shared.0 in
      let start = lined.0 in let low = lined.1 in
      let ends = ends_below w es some b.1 to ls lined.2 in
      let rest = placed b.1 to ds ls qs shared.1 lined.2 ok.1 most in
      let one = counted_settle c w some b.0 bytes word h.can.values size b.1 mine.0 (made_by c es) (omega (arith, ends, most)) mine.1 (fits c) in
      let long : to - from ≡ b.1 - b.0 + (to - b.1) = omega (arith, start, low, ends) in
      let next : b.0 + (b.1 - b.0) ≡ b.1 = omega (arith, low) in
      let all : map (number_in w.values bytes) (range_with_len from (to - from))
      ≡ map (number_in w.values bytes) (range_with_len b.0 (b.1 - b.0)) ++ map (number_in w.values bytes) (range_with_len b.1 (to - b.1)) =
      ap (λ n. map (number_in w.values bytes) (range_with_len from n)) long
      ∙ ap (λ n. map (number_in w.values bytes) (range_with_len n (b.1 - b.0 + (to - b.1)))) (sym start)
      ∙ ap (map (number_in w.values bytes)) (range_append b.0 (b.1 - b.0) (to - b.1))
      ∙ map-append (number_in w.values bytes) (range_with_len b.0 (b.1 - b.0)) (range_with_len (b.0 + (b.1 - b.0)) (to - b.1))
      ∙ ap (λ n. map (number_in w.values bytes) (range_with_len b.0 (b.1 - b.0)) ++ map (number_in w.values bytes) (range_with_len n (to - b.1))) next in
      record {
        at = mine.0 ++ rest.at;
        below = all_both (λ p. p < places_in w.table) mine.0 rest.at one.0 rest.below;
        stand = subst (λ (ns : List ℤ). AllZip (λ p x. key_at w bytes word p ≡ Some x) (mine.0 ++ rest.at) ns) (sym all)
            (zip_both (λ p x. key_at w bytes word p ≡ Some x) mine.0 rest.at (map (number_in w.values bytes) (range_with_len b.0 (b.1 - b.0)))
            (map (number_in w.values bytes) (range_with_len b.1 (to - b.1))) one.1 rest.stand);
        adds = λ q.
            let first = counted_adds c w some b.0 q b.1 mine.0 (made_by c es) mine.1 in
            let others = rest.adds q in
            let both = times_of-append q mine.0 rest.at in
            omega (arith, first, others, both);
      }
  placed from to ds ls qs shared lined ok most = absurd shared

  -- ---- the groups

  counted_once : AllByRecursion (λ r. r ≡ Ok tt) rs → (at : List ℕ)
      → ((q : ℕ) → total (λ c. weighed (λ e. adds_to w.table.arena (count_word w.table q) e.call) (made_by c es)) cs ≡ times_of q at)
      → length at ≡ count_of w.values → count_of w.values < 2 ^ 64 → (p : ℕ) → p < places_in w.table → word (count_word w.table p) ≡ times_of p at
  counted_once ok at adds long few p within =
      let low : word_in now w.table.arena (count_word w.table p) < 2 ^ 64 = let z = h.no_count p within in omega (arith, z) in
      let last = word_counted limit now es w.table.arena (count_word w.table p) h.legal low (only_adds p within) in
      let zero_there = h.no_count p within in
      let by = weighs_by_callers (λ e. adds_to w.table.arena (count_word w.table p) e.call) es cs h.apart
      (all_weaker (λ e. IsAmong e.caller cs ⊎ IsElsewhere w e.call) (λ e. IsAmong e.caller cs ⊎ (adds_to w.table.arena (count_word w.table p) e.call ≡ 0))
      (λ e k. ⊎_elim (λ i. inl i) (λ (o : IsElsewhere w e.call). inr (leaves_unadded w.table.arena (count_word w.table p) e.call (o.counts p within))) k) es h.others) in
      let sum = adds p in
      let most = times_most p at in
      omega (arith, last, zero_there, by, sum, most, long, few)

  among_range : (m from count : ℕ) → from ≤ m → m < from + count → IsAmong m (range_with_len from count)
  among_range m from zero low below = absurd (omega (arith, low, below))
  among_range m from (suc count) low below = elim (cases_lt from m) [
    | inl above ↦ inr (among_range m (from + 1) count (omega (arith, above)) (omega (arith, below)))
    | inr here ↦ (let same : m ≡ from = omega (arith, here, low) in inl same)
  ]

  key_among : (p : ℕ) (x : ℤ) → key_at w bytes word p ≡ Some x → IsAmong x (map (number_in w.values bytes) (range_with_len 0 (count_of w.values)))
  key_among p x e = go (named_by w.values (word (claim_word w.table p))) refl e
    where
      go : (o : Option ℕ) → named_by w.values (word (claim_word w.table p)) ≡ o → number_if w.values bytes o ≡ Some x
          → IsAmong x (map (number_in w.values bytes) (range_with_len 0 (count_of w.values)))
      go None n is = absurd (cc)
      go (Some m) n is =
          let below = is_below w.values (word (claim_word w.table p)) m n in
          let number : number_in w.values bytes m ≡ x = cc in
          subst (λ (y : ℤ). IsAmong y (map (number_in w.values bytes) (range_with_len 0 (count_of w.values)))) number
          (among_map (number_in w.values bytes) m (range_with_len 0 (count_of w.values)) (among_range m 0 (count_of w.values) (omega arith) (omega (arith, below))))

  -- There are no more values than bytes.
  pub few_values : count_of w.values ≤ w.values.records.size
  few_values =
      let each = mul-le-mul_left (w.values.records.size / w.values.path.root_size) h.can.values.few in
      let all = div-mul-le_self w.values.records.size w.values.path.root_size in
      omega (arith, each, all)

  settled : AllByRecursion (λ r. r ≡ Ok tt) rs → (at : List ℕ) × AreSettled (places_in w.table) (key_at w bytes word) (λ p. word (count_word w.table p)) at
      (map (number_in w.values bytes) (range_with_len 0 (count_of w.values)))
  settled ok =
      let p = placed 0 (count_of w.values) cs bs rs h.shares h.lined ok (omega arith) in
      let all : count_of w.values - 0 ≡ count_of w.values = omega arith in
      let stand = subst (λ (n : ℕ). AllZip (λ q x. key_at w bytes word q ≡ Some x) p.at (map (number_in w.values bytes) (range_with_len 0 n))) all p.stand in
      let long = length-map-range_with_len (number_in w.values bytes) 0 (count_of w.values) in
      let same = zip_long (λ q x. key_at w bytes word q ≡ Some x) p.at (map (number_in w.values bytes) (range_with_len 0 (count_of w.values))) stand in
      let few = few_values in
      let ends : w.values.records.first + w.values.records.size ≤ 2 ^ 40 = h.can.values.ends in
      let small : count_of w.values < 2 ^ 64 = omega (arith, few, ends) in (
        p.at,
        record {
          below = p.below;
          stand = stand;
          counted = counted_once ok p.at p.adds (omega (arith, long, same)) small;
          among = λ q x within e. key_among q x e;
          few = omega (arith, long, small);
        },
      )

  -- What is summed up of the table's last words are the groups of all numbers.
  pub groups_are : AllByRecursion (λ r. r ≡ Ok tt) rs → (gs : List Group)
      → AreSummed (named_below (key_at w bytes word) (λ p. word (count_word w.table p)) (places_in w.table)) gs → AreGroups (all_numbers w.values.path bytes) gs
  groups_are ok gs summed =
      let s = settled ok in
      subst (λ (ns : List ℤ). AreGroups ns gs) (by_ordinal w.values bytes h.can.values size)
      (groups (places_in w.table) (key_at w bytes word) (λ p. word (count_word w.table p)) s.0
      (map (number_in w.values bytes) (range_with_len 0 (count_of w.values))) s.1 gs summed)

-- ---- the laws

pub counts_are_groups : CountsAreGroups
counts_are_groups limit now w es cs bs rs gs h ok summed = groups_are limit now w es cs bs rs h ok gs summed

pub is_never_full : NeverFull
is_never_full limit now w es cs bs rs h room i = never_full limit now w es cs bs rs h room i
