-- What the names of a running script stand for, and what a pass must have for it.
use Rattle.std.specs.{Prelude.{◌≡◌, ◌≢◌, ℕ, ◌-◌, nat_lt, if◌then◌else◌, get_or, length, List, Option, Some, None, IfSome, ⊤}, Option.{option_map}}
use Rattle.fm_base.specs.declared.{arena_id.ArenaId.{ArenaId}, kind.Kind.{Kind}}
use Rattle.fm_base.specs.declared.kind.Kind.TheVariants as kind
use Rattle.fm_segment.specs.Access as segment
use Rattle.fm_segment.specs.Region.{Region}
use Rattle.fm_arena.specs.declared.handle.AutoHandle.{AutoHandle}
use Rattle.fm_gate.specs.declared.held.Hold as held
use Rattle.fm_gate.specs.Makers.{Made, made_by_pass}
use Rattle.fm_rule_facts.specs.Views.{View, IsKnown}
use Rattle.fm_rule_calls.specs.Told.{view_of_pass}
use Rattle.fm_script_lines.specs.declared.{bound.Bound.{Bound}, standing.Standing.{Standing, TheVariants.{Nothing, Arena, Automatic, Segment, Hold, Handle}}}
use Rattle.fm_script_lines.specs.declared.bound.Bound.TheVariants as other

-- ---- what a line may use it as

abbrev pub arena_of : Standing → Option ArenaId
arena_of (Arena id) = Some id
arena_of (Automatic id handle) = Some id
arena_of _ = None

abbrev pub segment_of : Standing → Option Region
segment_of (Segment r) = Some r
segment_of _ = None

abbrev pub hold_in : Standing → Option held.Hold
hold_in (Hold hold) = hold
hold_in _ = None

abbrev pub handle_in : Standing → Option AutoHandle
handle_in (Automatic id handle) = handle
handle_in (Handle handle) = handle
handle_in _ = None

abbrev pub hold_of : Standing → Option ArenaId
hold_of s = option_map (λ h. h.arena) (hold_in s)

abbrev pub handle_of : Standing → Option ArenaId
handle_of s = option_map (λ h. h.arena) (handle_in s)

-- ---- what becomes of it

-- what is left of a hold that was given back
abbrev pub unheld : Standing → Standing
unheld (Hold hold) = Hold None
unheld s = s

-- what is left of a handle that was given back: an automatic arena may still be named
abbrev pub handed_back : Standing → Standing
handed_back (Automatic id handle) = Automatic id None
handed_back (Handle handle) = Handle None
handed_back s = s

-- as other passes may use it: holds and handles are their pass's alone
abbrev pub lent : Standing → Standing
lent (Arena id) = Arena id
lent (Automatic id handle) = Arena id
lent (Segment r) = Segment r
lent _ = Nothing

-- the same, as a name of one's own
abbrev pub standing_as : Bound → Standing
standing_as other.Nothing = Nothing
standing_as (other.Arena id) = Arena id
standing_as (other.Segment r) = Segment r

-- no hold and no handle
pub record IsSpent (s : Standing) : Type 0 where
  pub no_hold : hold_of s ≡ None
  pub no_handle : handle_of s ≡ None

-- what the name of an arena stands for that a pass opened so
abbrev pub opened_as : Made → Kind → ArenaId → Standing
opened_as m kind.Global id = Arena id
opened_as m kind.Automatic id = Automatic id (Some (record { arena = id; maker = m }))
opened_as m kind.Confined id = Arena id
opened_as m kind.Shared id = Arena id

abbrev pub held_as : Made → ArenaId → Standing
held_as m id = Hold (Some (record { arena = id; maker = m }))

abbrev pub handled_as : Made → ArenaId → Standing
handled_as m id = Handle (Some (record { arena = id; maker = m }))

-- ---- by the number of the line that made it

-- What the line of this number made, where the pass's own lines begin at `start` and the lines before `base` ends were others'
abbrev pub standing_at : List Standing → ℕ → List Standing → ℕ → Standing
standing_at base start own n =
    if nat_lt n (length base) then lent (get_or base n Nothing)
    else (if nat_lt n start then Nothing else get_or own (n - start) Nothing)

-- what the names of numbers stand for
abbrev pub Names : Type 0
Names = ℕ → Standing

abbrev pub stands_of : Names → Option ℕ → Standing
stands_of names None = Nothing
stands_of names (Some n) = names n

abbrev pub standing_of : List Standing → ℕ → List Standing → Option ℕ → Standing
standing_of base start own number = stands_of (standing_at base start own) number

-- ---- what a pass knows of it

abbrev pub IsHandleIn : View → Option AutoHandle → Type 0
IsHandleIn p handle = IfSome handle (λ h. IsKnown p h.arena × (h.arena.kind ≡ kind.Automatic) × (h.maker ≡ made_by_pass p))

-- what it stands for is known to the pass, which made the hold or the handle
abbrev pub IsBacked : View → Standing → Type 0
IsBacked p Nothing = ⊤
IsBacked p (Arena id) = IsKnown p id
IsBacked p (Automatic id handle) = IsKnown p id × IsHandleIn p handle
IsBacked p (Segment r) = segment.IsKnown (view_of_pass p) r
IsBacked p (Hold hold) = IfSome hold (λ h. IsKnown p h.arena × (h.arena.kind ≢ kind.Automatic) × (h.maker ≡ made_by_pass p))
IsBacked p (Handle handle) = IsHandleIn p handle
