-- Many words read at once, as the machine reads them one after the other.
use Rattle.std.proofs.Common.{◌≡◌, ℕ, suc, ◌+◌, ◌^◌, ◌<◌, ◌≤◌, List, [], ◌∷◌, length, get_or, refl, ap, ◌∙◌, arith, Some}
use Rattle.fm_base.specs.{declared.arena_id.ArenaId.{ArenaId}, Arenas.{only_caller, word_in}, Calls.{Read, Found, entry_of}, Learnt.{AfterLoads}, Machine.{MayReach}}
use Rattle.fm_base.{specs.{View.{Makes}, Visits.{entries_of, reads}}, proofs.{Making.{Makes-then, Makes-none}, Outcomes.{Makes-lasts}}}
use Rattle.fm_mono.{specs.Shown.{Arenas, view_of}, proofs.{Alone.{makes_one, sound_of}, Storing.{HasWords}}}

loads_all : (vs : List ℕ) (m : Arenas) (a : ArenaId) (first : ℕ) → HasWords m a first (length vs)
    → ((i : ℕ) → i < length vs → get_or vs i 0 ≡ word_in m.state a (first + i))
    → Makes (view_of m) (view_of m) (entries_of only_caller (reads a first vs))
loads_all [] m a first has are = Makes-none (view_of m)
loads_all (v ∷ vs) m a first has are =
    let reach : MayReach m.state only_caller a first = record { under_way = has.under_way; within = (let w = has.within in omega arith) } in
    let here : first + 0 ≡ first = omega arith in
    let one = makes_one m m (Read a first) (Found v) reach (ap Found (are 0 (omega arith) ∙ ap (word_in m.state a) here)) refl refl refl in
    let others : HasWords m a (suc first) (length vs) =
    record { known = has.known; under_way = has.under_way; within = (let w = has.within in omega arith) } in
    let rest = loads_all vs m a (suc first) others
    (λ i h. are (suc i) (omega arith) ∙ ap (word_in m.state a) (let at : first + suc i ≡ suc first + i = omega arith in at)) in
    Makes-then (view_of m) (view_of m) (view_of m) (entry_of only_caller (Read a first) (Found v) ∷ []) (entries_of only_caller (reads a (suc first) vs)) one rest

-- what the caller learns where these words were read
pub after_loads : (m : Arenas) (a : ArenaId) (first : ℕ) (vs : List ℕ) → m.limit ≤ 2 ^ 40 → m.inside ≡ Some a → HasWords m a first (length vs)
    → ((i : ℕ) → i < length vs → get_or vs i 0 ≡ word_in m.state a (first + i)) → AfterLoads (view_of m) (view_of m) first vs
after_loads m a first vs small i has are =
    let makes = loads_all vs m a first has are in
    record {
      did = record { own = entries_of only_caller (reads a first vs); does = rw i refl; makes = makes };
      inside = refl;
      lasts = Makes-lasts _ _ _ makes;
      sound = sound_of _ small;
    }
