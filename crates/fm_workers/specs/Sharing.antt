-- What comes of shares that a crew takes.
use Rattle.std.specs.{Prelude.{◌≡◌, ◌⊎◌, ◌<◌, ℕ, List, [], ◌∷◌, length, Result, Ok, Err, IfOk, ⊤}, List.{AllByRecursion, range_with_len}}
use Rattle.fm_base.specs.{declared.{caller.Caller.{Caller}, refusal.Refusal.{Refusal, TheVariants.{Memory, NoPass}}}, Calls.{Entry}}
use Rattle.fm_base.specs.{Finds.{Find, Gathered}, Histories.{made_by}}
use Rattle.fm_rule_facts.specs.Views.{IsSound, View}
use Rattle.fm_rule_calls.specs.Kept.{Lasts}
use Rattle.fm_workers_jobs.specs.Turns.{times}
use Rattle.fm_workers_shares.specs.{declared.answers.Done.{Done}, Answered.{all_of}, Ends.{FirstStopped, HasDone, HasStopped}, Placing.{AreJoined}}
use Rattle.fm_workers_shares.specs.{Shares.{shares_in}, Taking.{HasMade, Making, jobs_of}}
use Rattle.fm_workers_crew.specs.Crew.{AreIdle, AreTooMany, CrewGathered, FoundNoNumber, IsWhole, callers}

-- no share was begun: memory was wanting before the first draw, or a draw found no number
abbrev pub NoneBegun : (threads : ℕ) → (old : View) → List Gathered → List Entry → List Find → Refusal → Type 0
NoneBegun threads old crew more draws Memory = crew ≡ []
NoneBegun threads old crew more draws NoPass =
    FoundNoNumber old.shape draws × (length crew < threads) × AreIdle more (callers crew) × (IsWhole old → AreTooMany old threads)
NoneBegun threads old crew more draws r = ⊥

module _ {P : Type 0} (w : Making P) where
  -- each of the crew took these shares, and made this part of them
  abbrev pub AreMade : List Entry → List Caller → List (List Done) → List P → Type 0
  AreMade more [] [] [] = ⊤
  AreMade more (c ∷ cs) (ds ∷ taken) (p ∷ ps) = HasMade w c ds p (Ok tt) (made_by c more) × AreMade more cs taken ps
  AreMade more cs taken ps = ⊥

  -- all shares were taken, each once, and the parts joined
  pub record AllMade {W : Type 0} (joins : W → P → W → Type 0) (crew : List Caller) (more : List Entry) (start whole : W) : Type 0 where
    pub taken : List (List Done)
    pub parts : List P
    pub made : AreMade more crew taken parts
    pub once : (number : ℕ) → times number (jobs_of (all_of taken)) ≡ times number (range_with_len 0 (shares_in w.cut))
    pub joined : AreJoined joins start parts whole

  -- among these entries the caller's are all that it had to do, or it was refused
  abbrev pub HasEnded : List Entry → Caller → Type 0
  HasEnded more c = HasDone w more c ⊎ ((r : Refusal) × HasStopped w r c (made_by c more))

  -- a pass for each taker was drawn, and took shares
  pub record HaveEnded (threads : ℕ) (crew : List Gathered) (more : List Entry) : Type 0 where
    pub count : length crew ≡ threads
    pub each : AllByRecursion (HasEnded more) (callers crew)

  abbrev pub EndsSharing : {W : Type 0} → (W → P → W → Type 0) → (threads : ℕ) → (old : View) → List Gathered → List Entry → List Find
      → (start whole : W) → Result (Unit {0}) Refusal → Type 0
  EndsSharing joins threads old crew more draws start whole (Ok u) = HaveEnded threads crew more × AllMade joins (callers crew) more start whole
  EndsSharing joins threads old crew more draws start whole (Err r) =
      NoneBegun threads old crew more draws r ⊎ (HaveEnded threads crew more × FirstStopped w (callers crew) more r)

  pub record SharedOut {W : Type 0} (joins : W → P → W → Type 0) (threads : ℕ) (old new : View) (start whole : W) (result : Result (Unit {0}) Refusal)
      : Type 0 where
    pub crew : CrewGathered old new
    pub ends : EndsSharing joins threads old crew.crew crew.more crew.draws start whole result
    pub lasts : Lasts old new
    pub sound : IfOk result (λ _. IsSound new)
    pub still_sound : IsSound old → IsSound new
