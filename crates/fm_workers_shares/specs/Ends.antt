-- How the passes of a crew end that take shares.
use Rattle.std.specs.{Prelude.{◌≡◌, ℕ, List, ◌∷◌, ◌++◌, Ok, Err}, List.{AllByRecursion}}
use Rattle.fm_base.specs.{declared.{caller.Caller.{Caller}, refusal.Refusal.{Refusal}}, Calls.{Entry}, Histories.{made_by}}
use Rattle.fm_workers_shares.specs.{declared.answers.Done.{Done}, Taking.{HasMade, Making, WasRefused}}

module _ {P : Type 0} (w : Making P) where
  -- among these entries the caller's are all that it had to do
  abbrev pub HasDone : List Entry → Caller → Type 0
  HasDone more c = (ds : List Done) × (part : P) × HasMade w c ds part (Ok tt) (made_by c more)

  -- or it was refused so, at a share or behind its last one
  pub data HasStopped (r : Refusal) (c : Caller) (own : List Entry) : Type 0 where
    at_a_share : (ds : List Done) (number : ℕ) → WasRefused w c ds number r own → HasStopped r c own
    behind_all : (ds : List Done) (part : P) → HasMade w c ds part (Err r) own → HasStopped r c own

  -- the first of the crew, in the order of the draws, that was refused: those before it did all that they had to do
  pub record FirstStopped (crew : List Caller) (more : List Entry) (r : Refusal) : Type 0 where
    pub before : List Caller
    pub caller : Caller
    pub after : List Caller
    pub parts : crew ≡ before ++ caller ∷ after
    pub done : AllByRecursion (HasDone more) before
    pub stopped : HasStopped r caller (made_by caller more)
