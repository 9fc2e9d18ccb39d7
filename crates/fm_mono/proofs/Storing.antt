-- Many words put at once, as the machine puts them one after the other.
use Rattle.std.proofs.{Common.{◌≡◌, ℕ, suc, ◌+◌, ◌^◌, ◌<◌, ◌≤◌, true, List, [], ◌∷◌, length, get_or, refl, ◌∙◌, arith, Some}, lemmas.List.{length-set}}
use Rattle.fm_base.specs.{declared.arena_id.ArenaId.{ArenaId}, Arenas.{only_caller, arena_of, has_arena, changed, IsUnderWay}, Calls.{Write, Fine, entry_of}}
use Rattle.fm_base.specs.{Learnt.{AfterStores}, Machine.{written, MayPut}, View.{Makes}, Visits.{entries_of, writes}}
use Rattle.fm_base.proofs.{Lookup.{KeepsName, changed_has, lookup_changed, changed_twice, changed_same}, Making.{Makes-then, Makes-none}}
use Rattle.fm_base.proofs.Outcomes.{Makes-lasts}
use Rattle.fm_mono.{specs.Shown.{Arenas, view_of}, proofs.{Alone.{makes_one, sound_of}, Steps.{written_all}}}

-- inside an arena that is known, which has so many words from this index on
pub record HasWords (m : Arenas) (a : ArenaId) (first count : ℕ) : Type 0 where
  pub known : has_arena m.state a ≡ true
  pub under_way : IsUnderWay m.state only_caller a
  pub within : first + count ≤ length (arena_of m.state a).words

-- the first word put, the others can be
stored_one : (m : Arenas) (a : ArenaId) (first count v : ℕ) → HasWords m a first (suc count)
    → HasWords (record m { state = changed m.state a (written first v) }) a (suc first) count
stored_one m a first count v c =
    let named : KeepsName (written first v) = λ x. refl in
    let look : arena_of (changed m.state a (written first v)) a ≡ written first v (arena_of m.state a) =
    lookup_changed m.state a (written first v) named c.known in
    record {
      known = changed_has (written first v) named m.state a a ∙ c.known;
      under_way = rw look c.under_way;
      within = rw (look, length-set) (let w = c.within in omega arith);
    }

stores_all : (vs : List ℕ) (m : Arenas) (a : ArenaId) (first : ℕ) → HasWords m a first (length vs) → ((i : ℕ) → get_or vs i 0 < 2 ^ 64)
    → Makes (view_of m) (view_of (record m { state = changed m.state a (written_all first vs) })) (entries_of only_caller (writes a first vs))
stores_all [] m a first c fits =
    let same : changed m.state a (written_all first []) ≡ m.state = changed_same m.state a (written_all first []) refl in
    rw same (Makes-none (view_of m))
stores_all (v ∷ vs) m a first c fits =
    let m1 : Arenas = record m { state = changed m.state a (written first v) } in
    let may : MayPut m.state only_caller a first v = record { under_way = c.under_way; within = (let w = c.within in omega arith); fits = fits 0 } in
    let e1 = makes_one m m1 (Write a first v) Fine may refl refl refl refl in
    let rest = stores_all vs m1 a (suc first) (stored_one m a first (length vs) v c) (λ i. fits (suc i)) in
    let twice = changed_twice m.state a (written first v) (written_all (suc first) vs) (λ x. refl) in
    Makes-then (view_of m) (view_of m1) _ (entry_of only_caller (Write a first v) Fine ∷ []) (entries_of only_caller (writes a (suc first) vs)) e1
    (rw twice at rest)

-- what the caller learns where these words were put
pub after_stores : (m n : Arenas) (a : ArenaId) (first : ℕ) (vs : List ℕ) → m.limit ≤ 2 ^ 40 → m.inside ≡ Some a → HasWords m a first (length vs)
    → ((i : ℕ) → get_or vs i 0 < 2 ^ 64) → n ≡ record m { state = changed m.state a (written_all first vs) } → AfterStores (view_of m) (view_of n) first vs
after_stores m n a first vs small i c fits e = rw e (
    let makes = stores_all vs m a first c fits in
    record {
      did = record { own = entries_of only_caller (writes a first vs); does = rw i refl; makes = makes };
      inside = refl;
      lasts = Makes-lasts _ _ _ makes;
      sound = sound_of _ small;
    })
