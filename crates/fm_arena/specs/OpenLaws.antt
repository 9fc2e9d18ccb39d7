-- An arena that a pass has a hold or a handle of is open to it, whatever code is written for any memory calls.
use Rattle.std.specs.Prelude.{◌≡◌, ◌≢◌, List, All}
use Rattle.fm_base.specs.{declared.arena_id.ArenaId.{ArenaId}, Calls.{Enter, Closed, Entry}, View.{Makes}}
use Rattle.fm_rule_facts.specs.Views.{View, In, IsAlive, IsSound, grips}
use Rattle.fm_rule_calls.specs.Told.{view_of_pass}

-- none of the caller's own entries is a visit to it that was answered Closed: so no call that is refused `Closed` by such a visit is
abbrev pub NeverShutOut : Type 0
NeverShutOut =
    (old new : View) (own : List Entry) (id : ArenaId) → Makes (view_of_pass old) (view_of_pass new) own → IsSound new → In id (grips id old)
    → All (λ e. e.call ≡ Enter id → e.reply ≢ Closed) own

-- and it is alive before and after
abbrev pub IsOpenWhileHeld : Type 0
IsOpenWhileHeld = (p : View) (id : ArenaId) → IsSound p → In id (grips id p) → IsAlive p id

pub record HeldIsOpen : Type 0 where
  pub alive : IsOpenWhileHeld
  pub never_shut_out : NeverShutOut
