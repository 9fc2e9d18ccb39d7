-- A line of each command comes to what is tidy, and what its name stands for is there behind it.
use Rattle.std.{proofs.Common.{◌≡◌, ℕ, true, List}, specs.Prelude.{Ok, IfSome, Option, Some, None, ⊤}}
use Rattle.fm_base.specs.{declared.{arena_id.ArenaId.{ArenaId}, caller.Caller.{Caller}}, Arenas.{State, has_arena}, Calls.{Entry}}
use Rattle.fm_script_lines.specs.declared.{outcome.LineOutcome.{LineOutcome}, standing.Standing.{Standing}}
use Rattle.fm_script_lines.specs.Calls.{Line, On, Called, Answers, segment_made, CallDoes, Gets, Sets, Adds, Exchanges, Fills, Copies, Compares, Allocates, Asks, Closes, Holds, Unholds, TakesAgain, GivesBack}
use Rattle.fm_script_lines.specs.Standings as standing
use Rattle.fm_script_text.specs.declared.command.Command.{Command}
use Rattle.fm_script_text.specs.declared.command.Command.TheVariants as command
use Rattle.fm_segment.specs.{Region.{Region, read_only_of}, Slices.{slice_of}}
use Rattle.fm_script_laws.specs.Lines.{FillsWithByte}
use Rattle.fm_script_laws.proofs.Arenas.{opens_come, allocates_come, asks_come, closes_come, holds_come, unholds_come, takes_come, gives_back_comes}
use Rattle.fm_script_laws.proofs.{Backing.{IsGiven, IsThere}, Calling.{Own, Comes, on_comes}}
use Rattle.fm_script_laws.proofs.Segments.{slices_come, read_only_comes, gets_come, sets_come, adds_come, exchanges_come, fills_come, copies_come, compares_come}

-- Nothing is asked of a hold or a handle.
any : {X : Type 0} (found : Option X) → IfSome found (λ x. ⊤)
any None = tt
any (Some x) = tt

module _ {c : Caller} {limit : ℕ} {s : State} {all own : List Entry} (o : Own c limit s all own) (stands : List ℕ → Standing)
    (there : (name : List ℕ) → IsThere s (stands name)) (out : LineOutcome) where
  -- On an arena.
  arena_comes : (name : List ℕ) (Does : ArenaId → Line) → ((id : ArenaId) → has_arena s id ≡ true → Does id out own → Comes c limit s all out.made)
      → On (standing.arena_of (stands name)) Does out own → Comes c limit s all out.made
  arena_comes name Does f does = on_comes o (λ id. has_arena s id ≡ true) (standing.arena_of (stands name)) Does out (there name).arena f does

  -- On a segment.
  segment_comes : (name : List ℕ) (Does : Region → Line) → ((r : Region) → IsGiven s r → Does r out own → Comes c limit s all out.made)
      → On (standing.segment_of (stands name)) Does out own → Comes c limit s all out.made
  segment_comes name Does f does = on_comes o (IsGiven s) (standing.segment_of (stands name)) Does out (there name).segment f does

  -- Each command.
  pub call_comes : (k : Command) → FillsWithByte k → CallDoes c stands k out own → Comes c limit s all out.made
  call_comes (command.Open name kind) fills does = opens_come o kind out does
  call_comes (command.Alloc arena name size align) fills does =
      arena_comes arena (Allocates c size align) (λ id known d. allocates_come o size align id out known d) does
  call_comes (command.Slice segment name offset size) fills does =
      segment_comes segment (λ r. Called (Answers (slice_of offset size r)) segment_made) (λ r g d. slices_come o r g out offset size d) does
  call_comes (command.Readonly segment name) fills does =
      segment_comes segment (λ r. Called (Answers (Ok (read_only_of r))) segment_made) (λ r g d. read_only_comes o r g out d) does
  call_comes (command.Get cell) fills does = segment_comes cell.segment (Gets c cell) (λ r g d. gets_come o r g out cell d) does
  call_comes (command.Set cell value) fills does = segment_comes cell.segment (Sets c cell value) (λ r g d. sets_come o r g out cell value d) does
  call_comes (command.Add cell value) fills does = segment_comes cell.segment (Adds c cell value) (λ r g d. adds_come o r g out cell value d) does
  call_comes (command.Cas cell old new) fills does =
      segment_comes cell.segment (Exchanges c cell old new) (λ r g d. exchanges_come o r g out cell old new d) does
  call_comes (command.Fill segment byte) fills does = segment_comes segment (Fills c byte) (λ r g d. fills_come o r g out byte fills d) does
  call_comes (command.Copy source target) fills does =
      segment_comes source (λ r. On (standing.segment_of (stands target)) (Copies c r))
      (λ r g d. segment_comes target (Copies c r) (λ t h e. copies_come o t h out r e) d) does
  call_comes (command.Mismatch segment other) fills does =
      segment_comes segment (λ r. On (standing.segment_of (stands other)) (Compares c r))
      (λ r g d. segment_comes other (Compares c r) (λ t h e. compares_come o r g out t e) d) does
  call_comes (command.Alive arena) fills does = arena_comes arena (Asks c) (λ id known d. asks_come o id out d) does
  call_comes (command.Hold arena name) fills does = arena_comes arena (Holds c) (λ id known d. holds_come o id out d) does
  call_comes (command.Unhold hold) fills does =
      on_comes o (λ id. ⊤) (standing.hold_of (stands hold)) (Unholds c) out (any (standing.hold_of (stands hold))) (λ id known d. unholds_come o id out d) does
  call_comes (command.Again handle name) fills does =
      on_comes o (λ id. ⊤) (standing.handle_of (stands handle)) (TakesAgain c) out (any (standing.handle_of (stands handle)))
      (λ id known d. takes_come o id out d) does
  call_comes (command.Back handle) fills does =
      on_comes o (λ id. ⊤) (standing.handle_of (stands handle)) (GivesBack c) out (any (standing.handle_of (stands handle)))
      (λ id known d. gives_back_comes o id out d) does
  call_comes (command.Close arena by) fills does = arena_comes arena (Closes c) (λ id known d. closes_come o id out d) does
