-- What a crew that only reads records, and changes words beside them, leaves as it was.
use Rattle.std.proofs.Common.{◌≡◌, ◌≢◌, ℕ, ◌+◌, ◌*◌, ◌<◌, ◌≤◌, Bool, true, false, List, [], ◌∷◌, ◌++◌, refl, ap, sym, ◌∙◌, subst, inl, arith}
use Rattle.std.{specs.{Prelude.{◌⊎◌, cond, ⊤}, List.{AllByRecursion, flat_map}}, proofs.lemmas.Grind.{same_number_lists}}
use Rattle.fm_base.specs.{declared.{arena_id.ArenaId.{ArenaId}, caller.Caller.{Caller}}, Arenas.{State, Alive, arena_of, has_arena, are_one}}
use Rattle.fm_base.specs.{Calls.{Call, Enter, Read, SwapIf, Add, Leave, Reply, Found, Entry, entry_of}, Histories.{made_by}, Untouched.{AllSpare, ComesIn, LeavesOpen, Spares}}
use Rattle.fm_base.{specs.Visits.{refused_visit}, proofs.Untouched.{alive, spared}}
use Rattle.fm_base.specs.Calls as calls
use Rattle.fm_base_bytes.specs.Words.{byte_at}
use Rattle.fm_segment_laws.proofs.Staying.{ChangesBelow, StayBelow, tidy_alone}
use Rattle.fm_rule_calls.{specs.Told.{view_of_pass}, proofs.Going.{Reached, reached_by}}
use Rattle.fm_gate.specs.Needs.{IsOutside}
use Rattle.fm_base_lists.{specs.Among.{IsAmong}, proofs.Each.{all_both, all_weaker}}
use Rattle.fm_rule_facts.specs.Views.{View, IsSound, limit_of, state_in}
use Rattle.fm_records.{specs.{Alone.{bytes_at_places}, Reads.{AreReads, read_visit}, Shares.{AreSpared}}, proofs.AnsweringBytes.{get_or-places, length-places}}
use Rattle.fm_rule.specs.declared.pool.Pool.{Pool}
use Rattle.fm_segment.specs.{Access.{IsKnown}, Region.{Region}}
use Rattle.fm_workers_crew.specs.Crew.{CrewGathered}
use Rattle.fm_base.proofs.Either.{by_either}
use Rattle.fm_workers.specs.Query.{OnlyReads, reads, stops}
use Rattle.fm_top_pooled.{specs.Stocked.{IsStockedOf, bytes_in_pool}, proofs.Tidying.{tidy_on}}

-- a visit's call that reads, or changes a word that may be changed
abbrev pub Touches : (ArenaId → ℕ → Type 0) → Call → Type 0
Touches MayChange (Enter a) = ⊤
Touches MayChange (Read a word) = ⊤
Touches MayChange (SwapIf a word old new) = MayChange a word
Touches MayChange (Add a word n) = MayChange a word
Touches MayChange (Leave a) = ⊤
Touches MayChange call = ⊥

module _ (MayChange : ArenaId → ℕ → Type 0) where
  abbrev pub AllTouch : List Entry → Type 0
  AllTouch es = AllByRecursion (λ e. Touches MayChange e.call) es

  reads_touch : (c : Caller) (a : ArenaId) (rs : List (ℕ × ℕ)) → AllTouch (flat_map (read_visit c a) rs)
  reads_touch c a [] = tt
  reads_touch c a (r ∷ rs) = (tt, (tt, (tt, reads_touch c a rs)))

  are_reads_touch : (s : Region) (c : Caller) (own : List Entry) → AreReads c s own → AllTouch own
  are_reads_touch s c own h = subst AllTouch (sym h.visits) (reads_touch c s.arena h.reads)

  pub only_reads_touch : (s : Region) (c : Caller) (own : List Entry) → OnlyReads s c own → AllTouch own
  only_reads_touch s c own (reads h) = are_reads_touch s c own h
  only_reads_touch s c own (stops h) =
      subst AllTouch (sym h.stops)
      (all_both (λ e. Touches MayChange e.call) h.before (refused_visit c s.arena) (are_reads_touch s c h.before h.reads) (tt, tt))

  -- ---- by the whole crew

  crew_only : (cs : List Caller) (es : List Entry) → AllByRecursion (λ e. IsAmong e.caller cs) es
      → AllByRecursion (λ e. IsAmong e.caller cs ⊎ Touches MayChange e.call) es
  crew_only cs [] h = tt
  crew_only cs (e ∷ es) h = (inl h.0, crew_only cs es h.1)

  -- what each of the callers did, who made all entries
  pub crew_touches : (cs : List Caller) (more : List Entry) → AllByRecursion (λ e. IsAmong e.caller cs) more
      → AllByRecursion (λ c. AllTouch (made_by c more)) cs → AllTouch more
  crew_touches cs more alone each = by_either (λ e. Touches MayChange e.call) cs more (crew_only cs more alone) each

  -- ---- what stays

  leaves : (id : ArenaId) (call : Call) → Touches MayChange call → LeavesOpen id call
  leaves id (Enter a) h = tt
  leaves id (Read a word) h = tt
  leaves id (SwapIf a word old new) h = tt
  leaves id (Add a word n) h = tt
  leaves id (Leave a) h = tt
  leaves id call h = absurd h

  spares : (id : ArenaId) (place : ℕ) (call : Call) → ((a : ArenaId) (word : ℕ) → MayChange a word → a ≢ id) → Touches MayChange call → Spares id place call
  spares id place (Enter a) apart h = tt
  spares id place (Read a word) apart h = tt
  spares id place (SwapIf a word old new) apart h = λ at. absurd (apart a word h at.0)
  spares id place (Add a word n) apart h = λ at. apart a word h at.0
  spares id place (Leave a) apart h = tt
  spares id place call apart h = absurd h

  below : (b : ArenaId) (end : ℕ) (call : Call) (reply : Reply) → ((a : ArenaId) (word : ℕ) → MayChange a word → (a ≡ b) × (8 * word + 8 ≤ end))
      → Touches MayChange call → ChangesBelow b end call reply
  below b end (Enter a) reply within h = tt
  below b end (Read a word) reply within h = tt
  below b end (SwapIf a word old new) (Found now) within h = λ is. let w = within a word h in let last = w.1 in (w.0, λ at l p. absurd (omega (arith, last, l, p)))
  below b end (SwapIf a word old new) reply within h = tt
  below b end (Add a word n) reply within h = within a word h
  below b end (Leave a) reply within h = tt
  below b end call reply within h = absurd h

  pub stay_below : (b : ArenaId) (end : ℕ) (es : List Entry) → ((a : ArenaId) (word : ℕ) → MayChange a word → (a ≡ b) × (8 * word + 8 ≤ end)) → AllTouch es
      → StayBelow b end es
  stay_below b end [] within h = tt
  stay_below b end (e ∷ es) within h = (below b end e.call e.reply within h.0, stay_below b end es within h.1)

  -- ---- a pool whose records were read by a crew

  module _ {n : ℕ} {pool : Pool} {p q : View} {s : Region} (h : IsStockedOf n pool p s) (crew : CrewGathered p q) (sound : IsSound q) (touch : AllTouch crew.more) where
    same_shape : q.shape ≡ p.shape
    same_shape = ap (λ (v : View). v.shape) crew.is

    reach : Reached p q crew.more
    reach = reached_by {p = p} {q = q} crew.more crew.seen same_shape sound

    -- an arena that was alive is so, and everyone came in
    pub stays_alive : (id : ArenaId) → has_arena (state_in p) id ≡ true → (arena_of (state_in p) id).life ≡ Alive
        → ((arena_of (state_in q) id).life ≡ Alive) × AllByRecursion (ComesIn id) crew.more
    stays_alive id known life =
        let none_shuts = all_weaker (λ (e : Entry). Touches MayChange e.call) (λ (e : Entry). LeavesOpen id e.call) (λ e t. leaves id e.call t) crew.more touch in
        let r = alive (limit_of p.shape) (state_in p) crew.more id reach.legal known life none_shuts in
        (ap (λ (t : State). (arena_of t id).life) reach.state ∙ r.0, r.1)

    -- nobody changes the records, where no word of their arena may be changed
    pub records_spared : ((a : ArenaId) (word : ℕ) → MayChange a word → a ≢ s.arena) → AreSpared s crew.more
    records_spared apart place from below =
        all_weaker (λ (e : Entry). Touches MayChange e.call) (λ (e : Entry). Spares s.arena place e.call)
        (λ e t. spares s.arena place e.call apart t) crew.more touch

    -- they are as they were then
    pub bytes_stay : ((a : ArenaId) (word : ℕ) → MayChange a word → a ≢ s.arena) → bytes_in_pool q s ≡ bytes_in_pool p s
    unfolding bytes_in_pool
    bytes_stay apart =
        let later = state_in q in
        let now = state_in p in
        let spare : (place : ℕ) → AllSpare s.arena place crew.more =
        λ place. all_weaker (λ (e : Entry). Touches MayChange e.call) (λ (e : Entry). Spares s.arena place e.call)
        (λ e t. spares s.arena place e.call apart t) crew.more touch in
        let long = length-places later s in
        same_number_lists (bytes_at_places later s) (bytes_at_places now s) (long ∙ sym (length-places now s))
        (λ k short.
        let within : k < s.size = omega (arith, short, long) in
        get_or-places later s k within
        ∙ ap (λ (t : State). byte_at (arena_of t s.arena).words (s.first + k)) reach.state
        ∙ spared (limit_of p.shape) (state_in p) crew.more s.arena (s.first + k) reach.legal (spare (s.first + k))
        ∙ sym (get_or-places now s k within))

    -- and all is as before, where what may be changed was given
    pub stocked_still : IsOutside pool q → IsKnown (view_of_pass q) s → (b : ArenaId) (end : ℕ) → end ≤ (arena_of (state_in p) b).given
        → ((a : ArenaId) (word : ℕ) → MayChange a word → (a ≡ b) × (8 * word + 8 ≤ end)) → IsStockedOf n pool q s
    stocked_still outside known b end given within = record {
      outside = outside;
      sound = sound;
      whole = crew.whole (record { sound = h.sound; whole = h.whole });
      tidy = tidy_on p q crew.more h.tidy same_shape crew.seen
          (tidy_alone (limit_of p.shape) end b (state_in p) crew.more reach.legal given (stay_below b end crew.more within touch));
      start = h.start;
      known = known;
      alive = (stays_alive s.arena h.known.arena h.alive).0;
      shared = h.shared;
      passes = ap (λ z. z.passes) same_shape ∙ h.passes;
    }

-- ---- who isn't stopped

-- what holds of all entries holds of a caller's
pub made_too : (P : Entry → Type 0) (c : Caller) (es : List Entry) → AllByRecursion P es → AllByRecursion P (made_by c es)
made_too P c [] h = tt
made_too P c (e ∷ es) h =
    let Q : Bool → Type 0 = λ b. AllByRecursion P (cond b (e ∷ made_by c es) (made_by c es)) in
    let go : (b : Bool) → Q b = λ b. elim b as Q [ true ↦ (h.0, made_too P c es h.1) | false ↦ made_too P c es h.1 ] in
    go (are_one e.caller c)

last_of : (P : Entry → Type 0) (xs : List Entry) (e : Entry) → AllByRecursion P (xs ++ e ∷ []) → P e
last_of P [] e h = h.0
last_of P (x ∷ xs) e h = last_of P xs e h.1

-- where everyone comes in, the last entry is no refusal
pub not_shut : (id : ArenaId) (c : Caller) (own before : List Entry) → AllByRecursion (ComesIn id) own → own ≡ before ++ refused_visit c id → ⊥
not_shut id c own before comes is =
    let last = last_of (ComesIn id) before (entry_of c (Enter id) calls.Closed) (subst (AllByRecursion (ComesIn id)) is comes) in
    let fine : calls.Closed ≡ calls.Fine = last refl in
    cc

-- nor is any caller's
pub not_stopped : (id : ArenaId) (c : Caller) (more before : List Entry) → AllByRecursion (ComesIn id) more
    → made_by c more ≡ before ++ refused_visit c id → ⊥
not_stopped id c more before comes is = not_shut id c (made_by c more) before (made_too (ComesIn id) c more comes) is
