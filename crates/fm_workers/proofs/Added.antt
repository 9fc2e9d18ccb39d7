-- What a crew adds to a word.
use Rattle.std.proofs.Common.{◌≡◌, ◌≢◌, ℕ, ◌+◌, ◌/◌, ◌<◌, ◌≤◌, ◌==◌, ◌&&◌, Bool, true, false, if◌then◌else◌, List, [], ◌∷◌, ◌++◌, slice_index, refl, sym, ap, ◌∙◌, subst, inl, inr, ⊎_elim, arith, Ok}
use Rattle.std.{specs.{Prelude.{◌⊎◌}, List.{AllByRecursion, flat_map}}, proofs.lemmas.Bool.Decides.{nat_tests}}
use Rattle.fm_base_lists.{specs.Among.{AreApart, IsAmong}, proofs.Each.{all_both, all_weaker}}
use Rattle.fm_base.specs.{declared.{arena_id.ArenaId.{ArenaId}, caller.Caller.{Caller}}, Arenas.{same_id}, Calls.{Entry}, Counting.{OnlyAdds, all_added, total}}
use Rattle.fm_base.{specs.Histories.{made_by}, proofs.{Counting.{added_by}, Names.{same_id-self}}}
use Rattle.fm_segment.specs.Region.{Region}
use Rattle.fm_workers_shares.specs.{declared.answers.Done.{Done}, Answered.{all_of}, Shares.{Cut}, Taking.{HasMade}}
use Rattle.fm_records.specs.Reads.{AreReads, read_visit}
use Rattle.fm_workers.specs.{Adding.{AddsAt, AddsBelow, adds, count_word, none_yet, nothing, one_more}, Counts.{how_many, number_of}}
use Rattle.fm_workers.{specs.{Sharing.{AreMade}, Tally.{LeavesWord}, Tallies.{all_numbers, tallying}}, proofs.Numbers.{how_many-append}}
use Rattle.fm_workers.proofs.{Reading.{each_read}, Talliers.{all_numbers-append}}

pub added-append : (id : ArenaId) (word : ℕ) (es fs : List Entry) → all_added id word (es ++ fs) ≡ all_added id word es + all_added id word fs
added-append id word [] fs = omega arith
added-append id word (e ∷ es) fs = let h = added-append id word es fs in omega (arith, h)

-- Reading adds nothing.
reads_added : (c : Caller) (a id : ArenaId) (word : ℕ) (rs : List (ℕ × ℕ)) → all_added id word (flat_map (read_visit c a) rs) ≡ 0
reads_added c a id word [] = refl
reads_added c a id word (r ∷ rs) = let h = reads_added c a id word rs in omega (arith, h)

-- One count adds to its own word alone.
one_added : (c : Caller) (counts : Region) (k n j : ℕ) (own : List Entry) → AddsAt c counts k n own
    → all_added counts.arena (count_word counts j) own ≡ (if k == j then n else 0)
one_added c counts k n j own nothing = elim (k == j) as (λ b. ◌≡◌ {A = ℕ} 0 (if b then 0 else 0)) [ true ↦ refl | false ↦ refl ]
one_added c counts k n j own (adds found some) =
    let P : Bool → Type 0 = λ b. (k == j) ≡ b
    → (if same_id counts.arena counts.arena && count_word counts k == count_word counts j then n else 0) ≡ (if b then n else 0) in
    let go : (b : Bool) → P b = λ b. elim b as P [
      | true ↦ (λ e. let t : (counts.first / 8 + k == counts.first / 8 + j) ≡ true = grind (arith, nat_tests) in rw (same_id-self counts.arena, t) refl)
      | false ↦ (λ e. let t : (counts.first / 8 + k == counts.first / 8 + j) ≡ false = grind (arith, nat_tests) in rw (same_id-self counts.arena, t) refl)
    ] in
    let h = go (k == j) refl in
    omega (arith, h)

none_above : (c : Caller) (counts : Region) (ns : List ℕ) (k j : ℕ) (own : List Entry) → AddsBelow c counts ns k own → k ≤ j
    → all_added counts.arena (count_word counts j) own ≡ 0
none_above c counts ns k j own none_yet above = refl
none_above c counts ns k j own (one_more {k = i} before more h a) above =
    let e : (i == j) ≡ false = grind (arith, nat_tests) in
    let old = none_above c counts ns i j before h (omega (arith, above)) in
    let one = one_added c counts i (slice_index ns i) j more a in
    let none : (if i == j then slice_index ns i else 0) ≡ 0 = ap (λ b. if b then slice_index ns i else 0) e in
    added-append counts.arena (count_word counts j) before more ∙ omega (arith, old, one, none)

pub all_below : (c : Caller) (counts : Region) (ns : List ℕ) (k j : ℕ) (own : List Entry) → AddsBelow c counts ns k own → j < k
    → all_added counts.arena (count_word counts j) own ≡ slice_index ns j
all_below c counts ns k j own none_yet below = absurd (omega (arith, below))
all_below c counts ns k j own (one_more {k = i} before more h a) below =
    let P : Bool → Type 0 = λ b. (i == j) ≡ b → all_added counts.arena (count_word counts j) (before ++ more) ≡ slice_index ns j in
    let one = one_added c counts i (slice_index ns i) j more a in
    let both = added-append counts.arena (count_word counts j) before more in
    let go : (b : Bool) → P b = λ b. elim b as P [
      | true ↦ (λ e.
          let same : i ≡ j = grind (arith, nat_tests) in
          let old = none_above c counts ns i j before h (omega (arith, same)) in
          let here : (if i == j then slice_index ns i else 0) ≡ slice_index ns i = ap (λ x. if x then slice_index ns i else 0) e in
          let is : slice_index ns i ≡ slice_index ns j = ap (slice_index ns) same in
          omega (arith, both, old, one, here, is))
      | false ↦ (λ e.
          let other : i ≢ j = grind (arith, nat_tests) in
          let old = all_below c counts ns i j before h (omega (arith, below, other)) in
          let here : (if i == j then slice_index ns i else 0) ≡ 0 = ap (λ x. if x then slice_index ns i else 0) e in
          omega (arith, both, old, one, here))
    ] in
    go (i == j) refl

-- ---- only adds

visits_only : (c : Caller) (a id : ArenaId) (word : ℕ) (rs : List (ℕ × ℕ)) → AllByRecursion (λ e. OnlyAdds id word e.call) (flat_map (read_visit c a) rs)
visits_only c a id word [] = tt
visits_only c a id word (r ∷ rs) = (tt, (tt, (tt, visits_only c a id word rs)))

at_only : (c : Caller) (counts : Region) (k n : ℕ) (id : ArenaId) (word : ℕ) (own : List Entry) → AddsAt c counts k n own
    → AllByRecursion (λ e. OnlyAdds id word e.call) own
at_only c counts k n id word own nothing = tt
at_only c counts k n id word own (adds found some) = (tt, (tt, (tt, tt)))

below_only : (c : Caller) (counts : Region) (ns : List ℕ) (k : ℕ) (id : ArenaId) (word : ℕ) (own : List Entry) → AddsBelow c counts ns k own
    → AllByRecursion (λ e. OnlyAdds id word e.call) own
below_only c counts ns k id word own none_yet = tt
below_only c counts ns k id word own (one_more {k = i} before more h a) =
    all_both (λ e. OnlyAdds id word e.call) before more (below_only c counts ns i id word before h) (at_only c counts i (slice_index ns i) id word more a)

module _ (k : Cut) (counts : Region) {c : Caller} {ds : List Done} {ns : List ℕ} (own : List Entry) (h : HasMade (tallying k counts) c ds ns (Ok tt) own) where
  reads : AreReads c k.segment h.served
  reads = each_read k.plan k.segment k.each c ds h.served h.does

  shares_only : (id : ArenaId) (word : ℕ) → AllByRecursion (λ e. OnlyAdds id word e.call) own
  shares_only id word = subst (λ (es : List Entry). AllByRecursion (λ e. OnlyAdds id word e.call) es) (sym h.parts)
      (all_both (λ e. OnlyAdds id word e.call) h.served h.last
      (subst (λ (es : List Entry). AllByRecursion (λ e. OnlyAdds id word e.call) es) (sym reads.visits) (visits_only c k.segment.arena id word reads.reads))
      (below_only c counts ns 256 id word h.last h.ends))

  shares_added : (n : ℕ) → n < 256 → all_added counts.arena (count_word counts n) own ≡ slice_index ns n
  shares_added n below =
      let none = ap (all_added counts.arena (count_word counts n)) reads.visits
      ∙ reads_added c k.segment.arena counts.arena (count_word counts n) reads.reads in
      let all = all_below c counts ns 256 n h.last h.ends below in
      let both = added-append counts.arena (count_word counts n) h.served h.last in
      ap (all_added counts.arena (count_word counts n)) h.parts ∙ omega (arith, none, all, both)

-- Each of the crew only adds, and what all of them added is how often numbers came in all shares.
pub record CrewAdds (counts : Region) (more : List Entry) (cs : List Caller) (taken : List (List Done)) : Type 0 where
  pub only : (id : ArenaId) (word : ℕ) → AllByRecursion (λ c. AllByRecursion (λ e. OnlyAdds id word e.call) (made_by c more)) cs
  pub sum : (n : ℕ) → n < 256
      → total (λ c. all_added counts.arena (count_word counts n) (made_by c more)) cs ≡ how_many (number_of n) (all_numbers (all_of taken))

pub crew_adds : (k : Cut) (counts : Region) (more : List Entry) (cs : List Caller) (taken : List (List Done)) (parts : List (List ℕ))
    → AreMade (tallying k counts) more cs taken parts → CrewAdds counts more cs taken
crew_adds k counts more [] [] [] h = record { only = λ id word. tt; sum = λ n below. refl }
crew_adds k counts more (c ∷ cs) (ds ∷ taken) (ns ∷ parts) h =
    let rest = crew_adds k counts more cs taken parts h.1 in
    record {
      only = λ id word. (shares_only k counts (made_by c more) h.0 id word, rest.only id word);
      sum = λ n below.
          let a = shares_added k counts (made_by c more) h.0 n below in
          let b = rest.sum n below in
          let is = h.0.holds.each n below in
          let all = ap (how_many (number_of n)) (all_numbers-append ds (all_of taken)) in
          let both = how_many-append (number_of n) (all_numbers ds) (all_numbers (all_of taken)) in
          omega (arith, a, b, is, all, both);
    }
crew_adds k counts more cs taken parts h = absurd h

-- ---- by callers, where others leave the word

-- What was added is the sum of what each of the crew added.
pub by_crew : (id : ArenaId) (word : ℕ) (es : List Entry) (cs : List Caller) → AreApart cs
    → AllByRecursion (λ e. IsAmong e.caller cs ⊎ LeavesWord id word e.call) es
    → all_added id word es ≡ total (λ c. all_added id word (made_by c es)) cs
by_crew id word es cs apart h = added_by id word es cs apart (all_weaker _ _ (λ e. ⊎_elim (λ i. inl i) (λ (l : LeavesWord id word e.call). inr l.1)) es h)
