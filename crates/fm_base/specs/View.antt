-- What contracts see of a `Memory`, and what a call does to it.
use Rattle.std.specs.Prelude.{◌≡◌, ℕ, ◌≤◌, ◌^◌, ◌++◌, ◌⊎◌, Bool, true, List, [], ◌∷◌, Option, Some, None, false, filter, not, All, ⊤}
use Rattle.fm_base.specs.{declared.{caller.Caller.{Caller}, arena_id.ArenaId.{ArenaId}}, Arenas.{State, arena_of}}
use Rattle.fm_base.specs.{Calls.{Call, Enter, Leave, Lend, Back, Reply, Fine, Entry}, Histories.{IsLegal, state_after, made_by}, Finds.{Find, Rest, FindsMore}}

-- what an implementation may tell of its caller
pub record Told : Type 0 where
  -- the history at the caller's last step
  pub seen : List Entry
  -- the caller's own entries in it
  pub mine : List Entry
  pub finds : List Find
  pub rest : Rest

pub record View : Type 0 where
  -- how many bytes an arena can give
  pub limit : ℕ
  -- the machine's state as last seen
  pub state : State
  pub caller : Caller
  -- the arena that the caller entered, or none
  pub inside : Option ArenaId
  -- whether no other caller exists
  pub alone : Bool
  pub told : Option Told

abbrev pub given_in : View → ArenaId → ℕ
given_in v id = (arena_of v.state id).given

-- ---- what holds at any time

-- what is told is a legal history that leaves the state, and the caller's entries in it
abbrev pub IsToldOf : ℕ → State → Caller → Option Told → Type 0
IsToldOf limit s caller None = ⊤
IsToldOf limit s caller (Some t) =
    IsLegal limit [] t.seen × (s ≡ state_after limit [] t.seen) × (t.mine ≡ made_by caller t.seen)

pub record IsSound (v : View) : Type 0 where
  pub limit : v.limit ≤ 2 ^ 40
  pub told : IsToldOf v.limit v.state v.caller v.told

-- ---- what a call does

abbrev pub inside_next : Option ArenaId → Call → Reply → Option ArenaId
inside_next now (Enter id) Fine = Some id
inside_next now (Leave id) reply = None
inside_next now call reply = now

-- the arena that the caller is inside after its entries
abbrev pub inside_after : Option ArenaId → List Entry → Option ArenaId
inside_after now [] = now
inside_after now (e ∷ es) = inside_after (inside_next now e.call e.reply) es

-- what is told moves on by the entries `all`, of which `own` are the caller's
pub record MovesOn (old new : Told) (all own : List Entry) : Type 0 where
  pub seen : new.seen ≡ old.seen ++ all
  pub mine : new.mine ≡ old.mine ++ own
  pub finds : FindsMore old.finds new.finds
  pub rest : new.rest ≡ old.rest
  -- no gathered caller made one of them
  pub quiet : All (λ g. made_by g.caller all ≡ []) old.rest.gathered

-- whether anything is told stays as it is
abbrev pub TellsOn : Option Told → Option Told → List Entry → List Entry → Type 0
TellsOn None None all own = ⊤
TellsOn (Some t) (Some u) all own = MovesOn t u all own
TellsOn None (Some u) all own = ⊥
TellsOn (Some t) None all own = ⊥

-- whether it is told that every drawn number but the caller's is gathered into it
abbrev pub IsToldWhole : Option Told → Type 0
IsToldWhole None = ⊥
IsToldWhole (Some t) = t.rest.whole ≡ true

-- nobody else can make an entry: no other caller exists, or it is known that all others were gathered
abbrev pub IsByItself : View → Type 0
IsByItself v = (v.alone ≡ true) ⊎ IsToldWhole v.told

-- The memory goes from old to new by legal entries, and `own` are the caller's among them
pub record Makes (old new : View) (own : List Entry) : Type 0 where
  -- the entries, those of others too
  pub all : List Entry
  pub legal : IsLegal old.limit old.state all
  pub reached : new.state ≡ state_after old.limit old.state all
  pub by_caller : made_by old.caller all ≡ own
  pub alone : IsByItself old → all ≡ own
  pub inside : new.inside ≡ inside_after old.inside own
  pub same_limit : new.limit ≡ old.limit
  pub same_caller : new.caller ≡ old.caller
  pub same_alone : new.alone ≡ old.alone
  pub told : TellsOn old.told new.told all own

-- The memory goes from old to new, and the caller's own entries are as P says
pub record Did (old new : View) (P : List Entry → Type 0) : Type 0 where
  pub own : List Entry
  pub does : P own
  pub makes : Makes old new own

-- the entries but those that lend a block or take it back
abbrev pub is_loan : Call → Bool
is_loan (Lend block id part) = true
is_loan (Back block) = true
is_loan call = false

abbrev pub but_loans : List Entry → List Entry
but_loans es = filter (λ e. not (is_loan e.call)) es

-- The new history is legal and goes on from the old one, and these are the caller's new entries
pub record KeepsFaith (limit : ℕ) (old new : Told) (own : List Entry) : Type 0 where
  pub legal : IsLegal limit [] new.seen
  pub more : List Entry
  pub seen : new.seen ≡ old.seen ++ more
  pub mine : new.mine ≡ old.mine ++ own
