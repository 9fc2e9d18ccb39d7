-- A history opens an arena once, so the lines of a report do.
use Rattle.std.proofs.Common.{◌≡◌, ℕ, ◌+◌, ◌≤◌, Bool, true, false, filter, List, [], ◌∷◌, ◌++◌, map, refl, ap, subst, arith, inl, inr}
use Rattle.std.{specs.List.{AllByRecursion}, proofs.lemmas.Bool.{cond-false, cond-true}}
use Rattle.fm_base.specs.{declared.{arena_id.ArenaId.{ArenaId}, caller.Caller.{Caller}}, Arenas.{State, are_one, has_arena, same_id}, Calls.{Call, Entry, Open}}
use Rattle.fm_base.{specs.{Histories.{IsLegal, made_by, state_after}, Machine.{MayCall, after}}, proofs.Growing.{Grows-after}}
use Rattle.fm_base.proofs.Names.{are_one-not, are_one-true, same_id-true}
use Rattle.fm_base_lists.specs.Among.{AreApart, IsAmong}
use Rattle.fm_rule_facts.specs.Holds.{one_if}
use Rattle.fm_script_lines.specs.Report.{Done, IsCut, Played, Player, all_done, callers, runs, worked}
use Rattle.fm_script.proofs.Known.{opened_there}

module _ (a : ArenaId) where
  -- ---- entries

  -- the call opens the arena
  abbrev pub is_opening : Call → Bool
  is_opening (Open id) = same_id id a
  is_opening call = false

  opening_is : (k : Call) → is_opening k ≡ true → k ≡ Open a
  opening_is (Open id) e = ap Open (same_id-true id a e)
  opening_is k e = absurd (let no : ⊥ = cc in no)

  -- how often it is opened
  abbrev pub openings : List Entry → ℕ
  openings [] = 0
  openings (e ∷ es) = one_if (is_opening e.call) + openings es

  openings-append : (xs ys : List Entry) → openings (xs ++ ys) ≡ openings xs + openings ys
  openings-append [] ys = omega arith
  openings-append (x ∷ xs) ys = let rest = openings-append xs ys in omega (arith, rest)

  -- An arena that is there is not opened.
  none_again : (limit : ℕ) (s : State) (es : List Entry) → IsLegal limit s es → has_arena s a ≡ true → openings es ≡ 0
  none_again limit s [] l h = refl
  none_again limit s (e ∷ es) l h =
      go (is_opening e.call) refl (none_again limit (after limit s e) es l.2 ((Grows-after limit s e l.0 l.1).has a h))
    where
      go : (b : Bool) → is_opening e.call ≡ b → openings es ≡ 0 → openings (e ∷ es) ≡ 0
      go true is rest =
          let may : MayCall s e.caller (Open a) = subst (λ (k : Call). MayCall s e.caller k) (opening_is e.call is) l.0 in
          let unknown : has_arena s a ≡ false = may.0 in
          absurd (let no : ⊥ = cc in no)
      go false is rest = let one : one_if (is_opening e.call) ≡ 0 = ap one_if is in omega (arith, one, rest)

  once : (limit : ℕ) (s : State) (es : List Entry) → IsLegal limit s es → openings es ≤ 1
  once limit s [] l = omega arith
  once limit s (e ∷ es) l = go (is_opening e.call) refl (once limit (after limit s e) es l.2)
    where
      go : (b : Bool) → is_opening e.call ≡ b → openings es ≤ 1 → openings (e ∷ es) ≤ 1
      go true is rest =
          let there = opened_there limit s (e ∷ []) e a (l.0, l.1, tt) (inl refl) (opening_is e.call is) in
          let none = none_again limit (after limit s e) es l.2 there in
          let one : one_if (is_opening e.call) ≡ 1 = ap one_if is in
          omega (arith, none, one)
      go false is rest = let one : one_if (is_opening e.call) ≡ 0 = ap one_if is in omega (arith, one, rest)

  pub kept : (p : Entry → Bool) (es : List Entry) → openings (filter p es) ≤ openings es
  kept p [] = omega arith
  kept p (e ∷ es) = go (p e) refl (kept p es)
    where
      go : (b : Bool) → p e ≡ b → openings (filter p es) ≤ openings es → openings (filter p (e ∷ es)) ≤ openings (e ∷ es)
      go true is rest =
          let this : openings (filter p (e ∷ es)) ≡ openings (e ∷ filter p es) = ap openings (cond-true (p e) (e ∷ filter p es) (filter p es) is) in
          omega (arith, this, rest)
      go false is rest =
          let this : openings (filter p (e ∷ es)) ≡ openings (filter p es) = ap openings (cond-false (p e) (e ∷ filter p es) (filter p es) is) in
          omega (arith, this, rest)

  -- ---- callers

  -- how often each of these callers opened it
  abbrev by_each : List Caller → List Entry → ℕ
  by_each [] es = 0
  by_each (c ∷ cs) es = openings (made_by c es) + by_each cs es

  by_none : (cs : List Caller) → by_each cs [] ≡ 0
  by_none [] = refl
  by_none (c ∷ cs) = let rest = by_none cs in omega (arith, rest)

  -- An entry of none of them.
  not_theirs : (cs : List Caller) (e : Entry) (es : List Entry) → ¬ (IsAmong e.caller cs) → by_each cs (e ∷ es) ≡ by_each cs es
  not_theirs [] e es out = refl
  not_theirs (c ∷ cs) e es out =
      let this : made_by c (e ∷ es) ≡ made_by c es =
      cond-false (are_one e.caller c) (e ∷ made_by c es) (made_by c es) (are_one-not e.caller c (λ is. out (inl is))) in
      let rest = not_theirs cs e es (λ i. out (inr i)) in
      (λ i. openings (this i) + rest i)

  -- An entry more is of one of them at most.
  one_more : (cs : List Caller) (e : Entry) (es : List Entry) → AreApart cs → by_each cs (e ∷ es) ≤ one_if (is_opening e.call) + by_each cs es
  one_more [] e es apart = omega arith
  one_more (c ∷ cs) e es apart = go (are_one e.caller c) refl (one_more cs e es apart.1)
    where
      go : (b : Bool) → are_one e.caller c ≡ b → by_each cs (e ∷ es) ≤ one_if (is_opening e.call) + by_each cs es
          → by_each (c ∷ cs) (e ∷ es) ≤ one_if (is_opening e.call) + by_each (c ∷ cs) es
      go true is rest =
          let this : openings (made_by c (e ∷ es)) ≡ openings (e ∷ made_by c es) =
          ap openings (cond-true (are_one e.caller c) (e ∷ made_by c es) (made_by c es) is) in
          let same : e.caller ≡ c = are_one-true e.caller c is in
          let others = not_theirs cs e es (λ i. apart.0 (subst (λ (x : Caller). IsAmong x cs) same i)) in
          omega (arith, this, others)
      go false is rest =
          let this : openings (made_by c (e ∷ es)) ≡ openings (made_by c es) =
          ap openings (cond-false (are_one e.caller c) (e ∷ made_by c es) (made_by c es) is) in
          omega (arith, this, rest)

  parted : (cs : List Caller) (es : List Entry) → AreApart cs → by_each cs es ≤ openings es
  parted cs [] apart = let none = by_none cs in omega (arith, none)
  parted cs (e ∷ es) apart =
      let more = one_more cs e es apart in
      let rest = parted cs es apart in
      omega (arith, more, rest)

  -- ---- lines

  abbrev pub opened_by : List Done → ℕ
  opened_by [] = 0
  opened_by (d ∷ ds) = openings d.run + opened_by ds

  opened_by-append : (ds es : List Done) → opened_by (ds ++ es) ≡ opened_by ds + opened_by es
  opened_by-append [] es = omega arith
  opened_by-append (d ∷ ds) es = let rest = opened_by-append ds es in omega (arith, rest)

  in_runs : (ds : List Done) → openings (runs ds) ≡ opened_by ds
  in_runs [] = refl
  in_runs (d ∷ ds) =
      let parts = openings-append d.run (runs ds) in
      let rest = in_runs ds in
      omega (arith, parts, rest)

  of_workers : (ws : List Player) (es : List Entry) → AllByRecursion (λ w. made_by w.caller es ≡ runs w.dones) ws
      → opened_by (worked ws) ≡ by_each (map (λ (w : Player). w.caller) ws) es
  of_workers [] es h = refl
  of_workers (w ∷ ws) es h =
      let parts = opened_by-append w.dones (worked ws) in
      let mine = in_runs w.dones in
      let own : openings (made_by w.caller es) ≡ openings (runs w.dones) = ap openings h.0 in
      let rest = of_workers ws es h.1 in
      omega (arith, parts, mine, own, rest)

  -- The history has what the lines of a report opened.
  pub in_history : (history : List Entry) (p : Played) → AreApart (callers p) → IsCut history p → opened_by (all_done p) ≤ openings history
  in_history history p apart cut =
      let whole : openings history ≡ openings (cut.before ++ (cut.between ++ cut.after)) = ap openings cut.parts in
      let outer = openings-append cut.before (cut.between ++ cut.after) in
      let inner = openings-append cut.between cut.after in
      let first = parted (p.main ∷ []) cut.before ((λ i. i), tt) in
      let first_own : openings (made_by p.main cut.before) ≡ openings (runs p.firsts) = ap openings cut.firsts in
      let first_is = in_runs p.firsts in
      let workers = parted (map (λ (w : Player). w.caller) p.players) cut.between apart.1 in
      let workers_is = of_workers p.players cut.between cut.players in
      let last = parted (p.main ∷ []) cut.after ((λ i. i), tt) in
      let last_own : openings (made_by p.main cut.after) ≡ openings (runs p.lasts) = ap openings cut.lasts in
      let last_is = in_runs p.lasts in
      let all = opened_by-append p.firsts (worked p.players ++ p.lasts) in
      let rest = opened_by-append (worked p.players) p.lasts in
      omega (arith, whole, outer, inner, first, first_own, first_is, workers, workers_is, last, last_own, last_is, all, rest)

  -- So they opened it once at most.
  pub all_once : (limit : ℕ) (history : List Entry) (p : Played) → AreApart (callers p) → IsCut history p → IsLegal limit [] history
      → opened_by (all_done p) ≤ 1
  all_once limit history p apart cut legal =
      let one = once limit [] history legal in
      let all = in_history history p apart cut in
      omega (arith, one, all)

  -- An arena that a history opens is there behind it.
  pub opened_behind : (limit : ℕ) (s : State) (es : List Entry) → IsLegal limit s es → 1 ≤ openings es → has_arena (state_after limit s es) a ≡ true
  opened_behind limit s [] l some = absurd (omega (arith, some))
  opened_behind limit s (e ∷ es) l some = go (is_opening e.call) refl (opened_behind limit (after limit s e) es l.2)
    where
      go : (b : Bool) → is_opening e.call ≡ b → (1 ≤ openings es → has_arena (state_after limit (after limit s e) es) a ≡ true)
          → has_arena (state_after limit s (e ∷ es)) a ≡ true
      go true is rest = opened_there limit s (e ∷ es) e a l (inl refl) (opening_is e.call is)
      go false is rest = let one : one_if (is_opening e.call) ≡ 0 = ap one_if is in rest (omega (arith, one, some))
