-- An arena that gives bytes, in a machine in which nobody else is.
use Rattle.std.{proofs.Common.{◌≡◌, ℕ, ◌+◌, ◌%◌, Bool, true, false, List, [], ◌∷◌, refl, ap, ◌∙◌, None, Option, Ok}, specs.Prelude.{if◌then◌else◌, not}}
use Rattle.fm_base.specs.{declared.{arena_id.ArenaId.{ArenaId}, caller.Caller.{Caller}}, Arenas.{State}, Histories.{IsLegal, state_after}}
use Rattle.fm_base.specs.Calls.{Call, Open, Enter, Read, Write, SwapIf, Add, Allocate, Leave, Hold, Unhold, Shut, End, Lend, Back, Reply, Given, Entry}
use Rattle.fm_base.specs.{Does.{DidAllocate, DoesAllocate}, View.{but_loans, given_in, inside_after, inside_next, is_loan}}
use Rattle.fm_base.proofs.{Learning.{inside_but_loans}, Running.{visit_ends_outside}}
use Rattle.fm_segment_access.specs.Alone.{bytes_of_arena}
use Rattle.fm_base_bytes.specs.Words.{bytes_in}
use Rattle.fm_top_load.{specs.Held.{IsHeld, OnlyIn}, proofs.{GivenBytes.{rounded_whole}, Holding.{allocated_held, allocated_only}}}
use Rattle.fm_top_load.proofs.Machine.{AreOwn, lone, lone_makes}

-- It gave so many bytes behind those that it had given, whole words of them, and its words stay.
pub record Gave (limit : ℕ) (c : Caller) (s t : State) (a : ArenaId) (place count : ℕ) : Type 0 where
  pub at : place ≡ given_in (lone limit c s) a
  pub held : IsHeld (lone limit c t) a
  pub given : given_in (lone limit c t) a ≡ place + count
  pub same : bytes_of_arena t a ≡ bytes_of_arena s a
  pub elsewhere : OnlyIn a s t

pub gave : (limit : ℕ) (c : Caller) (s : State) (a : ArenaId) (place count : ℕ) (own : List Entry) → DoesAllocate c a count 8 (Ok place) (but_loans own)
    → IsHeld (lone limit c s) a → given_in (lone limit c s) a % 8 ≡ 0 → IsLegal limit s own → AreOwn c own
    → Gave limit c s (state_after limit s own) a place count
gave limit c s a place count own does held even legal mine =
    let t = state_after limit s own in
    let out : inside_after None own ≡ None =
    inside_but_loans None own ∙ (ap (inside_after None) does.2 ∙ visit_ends_outside None c a ((Allocate a count 8, Given place) ∷ [])) in
    let did : DidAllocate (lone limit c s) (lone limit c t) a count 8 (Ok place) =
    record { own = own; does = does; makes = lone_makes limit c s own legal mine out } in
    let gives = allocated_held (lone limit c s) (lone limit c t) a count place held refl did in
    record {
      at = gives.0 ∙ rounded_whole (given_in (lone limit c s) a) even;
      held = gives.1.held;
      given = gives.1.given_is;
      same = ap bytes_in gives.1.words_are;
      elsewhere = allocated_only (lone limit c s) (lone limit c t) a count place held did;
    }
