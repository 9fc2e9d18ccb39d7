-- Lines about arenas, their holds and handles: they change no byte, and what they make is there.
use Rattle.std.proofs.Common.{◌≡◌, ℕ, Bool, true, false, Result, Ok, Err, List, [], refl, ap}
use Rattle.fm_segment_laws.specs.Accesses.{IsTidyBy}
use Rattle.fm_base.specs.{declared.{arena_id.ArenaId.{ArenaId}, caller.Caller.{Caller}, kind.Kind.{Kind}, refusal.Refusal.{Refusal}}, Arenas.{State, has_arena}}
use Rattle.fm_base.specs.{Calls.{Entry}, Does.{DoesOpen, DoesAllocate, DoesClose, DoesIsAlive, DoesHold, DoesAgain, DoesGiveBack}, Histories.{state_after}}
use Rattle.fm_base.{specs.View.{but_loans}, proofs.Learning.{open_is_new, allocate_gives}}
use Rattle.fm_base.specs.declared.kind.Kind.TheVariants as kind
use Rattle.fm_base.specs.declared.refusal.Refusal.TheVariants as refusal
use Rattle.fm_script_lines.specs.declared.outcome.LineOutcome.{LineOutcome}
use Rattle.fm_script_lines.specs.Calls.{coming, fine, Opens, Allocates, Asks, Closes, Holds, Unholds, TakesAgain, GivesBack, OverPool}
use Rattle.fm_script_lines.specs.{declared.{reply.Reply.TheVariants.{Fine, Place, Truth}, standing.Standing.TheVariants.{Segment}}, Outcomes.{outcome, plain}}
use Rattle.fm_script_lines.specs.Standings.{opened_as, held_as, handled_as}
use Rattle.fm_gate.specs.Makers.{Made}
use Rattle.fm_segment.specs.Region.{region_of}
use Rattle.fm_script_laws.proofs.Backing.{IsThere, nothing_there}
use Rattle.fm_script_laws.proofs.Calling.{Own, Comes, silent, later, makes, grown, none_tidy, nothing_comes, plain_comes, making_comes}
use Rattle.fm_script_laws.proofs.Quiet.{quiet_as, quiet_but}

-- An arena that was opened, whatever its kind.
opened_there : (s : State) (m : Made) (k : Kind) (id : ArenaId) → has_arena s id ≡ true → IsThere s (opened_as m k id)
opened_there s m kind.Global id h = record { arena = h; segment = tt }
opened_there s m kind.Automatic id h = record { arena = h; segment = tt }
opened_there s m kind.Confined id h = record { arena = h; segment = tt }
opened_there s m kind.Shared id h = record { arena = h; segment = tt }

-- any arena
some_arena : Kind → ArenaId
some_arena k = record { slot = 0; generation = 0; kind = k; owner = 0; term = 0 }

module _ {c : Caller} {limit : ℕ} {s : State} {all own : List Entry} (o : Own c limit s all own) where
  -- ---- open

  open_tidy : (k : Kind) (result : Result ArenaId Refusal) → DoesOpen c k result (but_loans own) → IsTidyBy c limit s all
  open_tidy k (Ok id) d = quiet_but o id _ d.2 (tt, tt)
  open_tidy k (Err refusal.NoSlot) d = quiet_but o (some_arena k) [] d tt
  open_tidy k (Err refusal.Memory) d = quiet_but o (some_arena k) [] d tt
  open_tidy k (Err r) d = absurd d

  open_there : (m : Made) (k : Kind) (result : Result ArenaId Refusal) → DoesOpen c k result (but_loans own)
      → IsThere (state_after limit s all) (coming (λ id. outcome Fine (opened_as m k id)) result).made
  open_there m k (Ok id) d =
      let new = open_is_new (silent c limit s) (later o) k (Ok id) (record { own = own; does = d; makes = makes o }) in
      opened_there (state_after limit s all) m k id new.known
  open_there m k (Err r) d = nothing_there (state_after limit s all)

  pub opens_come : (k : Kind) (out : LineOutcome) → Opens c k out own → Comes c limit s all out.made
  opens_come k out does =
      making_comes o (λ result es. OverPool (DoesOpen c k) result (but_loans es)) (λ id. outcome Fine (opened_as does.0 k id)) out
      (λ result d. open_tidy k result d.1) (λ result d. open_there does.0 k result d.1) does.1

  -- ---- alloc

  allocate_tidy : (id : ArenaId) (size align : ℕ) (result : Result ℕ Refusal) → DoesAllocate c id size align result (but_loans own) → IsTidyBy c limit s all
  allocate_tidy id size align (Ok place) d = quiet_but o id _ d.2 (tt, (tt, (tt, tt)))
  allocate_tidy id size align (Err refusal.BadAlignment) d = quiet_but o id [] d.1 tt
  allocate_tidy id size align (Err refusal.WrongThread) d = quiet_but o id [] d.2 tt
  allocate_tidy id size align (Err refusal.Closed) d = quiet_but o id _ d.2 (tt, tt)
  allocate_tidy id size align (Err (refusal.NoRoom given)) d = quiet_but o id _ d.2 (tt, (tt, (tt, tt)))
  allocate_tidy id size align (Err refusal.PoolFull) d = quiet_but o id _ d.2 (tt, (tt, tt))
  allocate_tidy id size align (Err refusal.Memory) d = quiet_but o id [] d.2 tt
  allocate_tidy id size align (Err r) d = absurd d

  allocate_there : (id : ArenaId) (size align : ℕ) → has_arena s id ≡ true → (result : Result ℕ Refusal)
      → DoesAllocate c id size align result (but_loans own)
      → IsThere (state_after limit s all) (coming (λ place. outcome (Place place) (Segment (region_of id place size))) result).made
  allocate_there id size align known (Ok place) d =
      let gives = allocate_gives (silent c limit s) (later o) id size align (Ok place) (record { own = own; does = d; makes = makes o }) in
      record { arena = tt; segment = record { arena = (grown o).has id known; given = gives.given } }
  allocate_there id size align known (Err r) d = nothing_there (state_after limit s all)

  pub allocates_come : (size align : ℕ) (id : ArenaId) (out : LineOutcome) → has_arena s id ≡ true → Allocates c size align id out own
      → Comes c limit s all out.made
  allocates_come size align id out known does =
      making_comes o (λ result es. OverPool (DoesAllocate c id size align) result (but_loans es))
      (λ place. outcome (Place place) (Segment (region_of id place size))) out
      (λ result d. allocate_tidy id size align result d.1) (λ result d. allocate_there id size align known result d.1) does

  -- ---- alive and close

  alive_tidy : (id : ArenaId) (result : Result Bool Refusal) → DoesIsAlive c id result own → IsTidyBy c limit s all
  alive_tidy id (Ok true) d = quiet_as o id _ d.1 (tt, (tt, tt))
  alive_tidy id (Ok false) d = quiet_as o id _ d.1 (tt, tt)
  alive_tidy id (Err refusal.WrongThread) d = none_tidy o d.1
  alive_tidy id (Err r) d = absurd d

  pub asks_come : (id : ArenaId) (out : LineOutcome) → Asks c id out own → Comes c limit s all out.made
  asks_come id out does = plain_comes o (DoesIsAlive c id) (λ alive. plain (Truth alive)) out (λ x. refl) (alive_tidy id) does

  close_tidy : (id : ArenaId) (result : Result (Unit {0}) Refusal) → DoesClose c id result (but_loans own) → IsTidyBy c limit s all
  close_tidy id (Ok u) d = quiet_but o id _ d.2 (tt, (tt, tt))
  close_tidy id (Err (refusal.CannotClose k)) d = quiet_but o id [] d.2 tt
  close_tidy id (Err refusal.WrongThread) d = quiet_but o id [] d.2 tt
  close_tidy id (Err refusal.Closed) d = quiet_but o id _ d.2 (tt, tt)
  close_tidy id (Err (refusal.Held holds)) d = quiet_but o id _ d.3 (tt, tt)
  close_tidy id (Err r) d = absurd d

  pub closes_come : (id : ArenaId) (out : LineOutcome) → Closes c id out own → Comes c limit s all out.made
  closes_come id out does = plain_comes o (λ result es. DoesClose c id result (but_loans es)) fine out (λ x. refl) (close_tidy id) does

  -- ---- holds and handles

  hold_tidy : (id : ArenaId) (result : Result (Unit {0}) Refusal) → DoesHold c id result own → IsTidyBy c limit s all
  hold_tidy id (Ok u) d = quiet_as o id _ d.1.1 (tt, tt)
  hold_tidy id (Err refusal.Unsupported) d = none_tidy o d.1
  hold_tidy id (Err refusal.WrongThread) d = none_tidy o d.1.1
  hold_tidy id (Err refusal.Closed) d = quiet_as o id _ d.1.1 (tt, tt)
  hold_tidy id (Err refusal.TooManyHolds) d = quiet_as o id _ d.1.1 (tt, tt)
  hold_tidy id (Err r) d = absurd d.1

  token_there : (out : LineOutcome) → IsThere (state_after limit s all) out.made → (result : Result (Unit {0}) Refusal)
      → IsThere (state_after limit s all) (coming (λ (u : Unit {0}). out) result).made
  token_there out there (Ok u) = there
  token_there out there (Err r) = nothing_there (state_after limit s all)

  pub holds_come : (id : ArenaId) (out : LineOutcome) → Holds c id out own → Comes c limit s all out.made
  holds_come id out does =
      making_comes o (DoesHold c id) (λ u. outcome Fine (held_as does.0 id)) out (hold_tidy id)
      (λ result d. token_there (outcome Fine (held_as does.0 id)) (record { arena = tt; segment = tt }) result) does.1

  pub unholds_come : (id : ArenaId) (out : LineOutcome) → Unholds c id out own → Comes c limit s all out.made
  unholds_come id out does = nothing_comes o out.made (ap (λ (x : LineOutcome). x.made) does.0) (quiet_as o id _ does.1 (tt, tt))

  again_tidy : (id : ArenaId) (result : Result (Unit {0}) Refusal) → DoesAgain c id result own → IsTidyBy c limit s all
  again_tidy id (Ok u) d = quiet_as o id _ d (tt, tt)
  again_tidy id (Err refusal.TooManyHolds) d = quiet_as o id _ d (tt, tt)
  again_tidy id (Err r) d = absurd d

  pub takes_come : (id : ArenaId) (out : LineOutcome) → TakesAgain c id out own → Comes c limit s all out.made
  takes_come id out does =
      making_comes o (DoesAgain c id) (λ u. outcome Fine (handled_as does.0 id)) out (again_tidy id)
      (λ result d. token_there (outcome Fine (handled_as does.0 id)) (record { arena = tt; segment = tt }) result) does.1

  back_tidy : (id : ArenaId) (others_left : Bool) → DoesGiveBack c id others_left (but_loans own) → IsTidyBy c limit s all
  back_tidy id true d = quiet_but o id _ d (tt, tt)
  back_tidy id false d = quiet_but o id _ d (tt, (tt, tt))

  pub gives_back_comes : (id : ArenaId) (out : LineOutcome) → GivesBack c id out own → Comes c limit s all out.made
  gives_back_comes id out does = nothing_comes o out.made (ap (λ (x : LineOutcome). x.made) does.2) (back_tidy id does.0 does.1)
