-- What a taker does, and what it keeps.
use Rattle.std.specs.Prelude.{◌≡◌, ℕ, List, [], ◌∷◌, ◌++◌, map, Result, Ok, Err}
use Rattle.fm_base.specs.{declared.{caller.Caller.{Caller}, refusal.Refusal.{Refusal}}, Calls.{Entry}, View.{View}}
use Rattle.fm_workers_jobs.specs.{declared.{account.Account.{Account}, jobs.Jobs.{Jobs}}, Accounts.{taker}, Turns.{HasAccount}}
use Rattle.fm_workers_jobs.specs.declared.account.Role.TheVariants as roles
use Rattle.fm_segment.specs.{Access.{IsKnown}, Region.{Region}}
use Rattle.fm_records_query.specs.Plan.{Plan}
use Rattle.fm_records.specs.Query.{DoesQuery}
use Rattle.fm_workers_shares.specs.{declared.{answers.Done.{Done}, taker.Taker.{Taker}}, Shares.{Cut, share_of}}

-- ---- shares that were answered

-- the share was answered by a caller's entries
abbrev pub DoesShare : Plan → Region → (each : ℕ) → Caller → Done → List Entry → Type 0
DoesShare p s each c d own = DoesQuery c p (share_of p s each d.job) (Ok d.answer) own

-- each was answered by a run of the entries, in their order
abbrev pub DoesEach : Plan → Region → (each : ℕ) → Caller → List Done → List Entry → Type 0
DoesEach p s each c [] own = own ≡ []
DoesEach p s each c (d ∷ ds) own =
    (one : List Entry) × (rest : List Entry) × (own ≡ one ++ rest) × DoesShare p s each c d one × DoesEach p s each c ds rest

abbrev pub jobs_of : List Done → List ℕ
jobs_of ds = map (λ d. d.job) ds

-- ---- what takers make of them

-- Of which shares each of them makes a part, and how
pub record Making (P : Type 0) : Type 1 where
  pub cut : Cut
  -- what the part is once these shares were answered, in this order
  pub holds : List Done → P → Type 0
  -- a caller's entries at the share of a number that is refused
  pub refuses : Caller → (number : ℕ) → Refusal → List Entry → Type 0
  -- and behind the last share
  pub ends : Caller → P → Result (Unit {0}) Refusal → List Entry → Type 0

-- whoever knew a segment knows it
abbrev pub KnowsOn : View → View → Type 0
KnowsOn v u = (s : Region) → IsKnown v s → IsKnown u s

module _ {P : Type 0} (w : Making P) where
  -- the share of a number is answered, and the part holds it too; or it is refused, and the part holds what it held
  abbrev pub MakesNext : Caller → (number : ℕ) → (old new : P) → Result (Unit {0}) Refusal → List Entry → Type 0
  MakesNext c number old new (Ok u) own =
      (d : Done) × (d.job ≡ number) × DoesShare w.cut.plan w.cut.segment w.cut.each c d own
      × ((ds : List Done) → w.holds ds old → w.holds (ds ++ d ∷ []) new)
  MakesNext c number old new (Err r) own = w.refuses c number r own

  -- shares were answered, one after the other, and then came what is behind the last one
  pub record HasMade (c : Caller) (ds : List Done) (part : P) (end : Result (Unit {0}) Refusal) (own : List Entry) : Type 0 where
    pub served : List Entry
    pub last : List Entry
    pub parts : own ≡ served ++ last
    pub does : DoesEach w.cut.plan w.cut.segment w.cut.each c ds served
    pub holds : w.holds ds part
    pub ends : w.ends c part end last

  -- or one more was refused
  pub record WasRefused (c : Caller) (ds : List Done) (number : ℕ) (r : Refusal) (own : List Entry) : Type 0 where
    pub served : List Entry
    pub last : List Entry
    pub parts : own ≡ served ++ last
    pub does : DoesEach w.cut.plan w.cut.segment w.cut.each c ds served
    pub refuses : w.refuses c number r last

-- ---- a taker

-- the account of a taker that took these jobs, and so many stops
abbrev pub took : List ℕ → (ended : ℕ) → Account
took jobs ended = record { role = roles.Taker; out = 0; pushed = []; stops = 0; taken = jobs; ended = ended }

module _ {P : Type 0} (w : Making P) (jobs : Jobs) where
  -- a taker that hasn't begun
  pub record IsReady (t : Taker P) : Type 0 where
    pub turn : HasAccount jobs t.turn taker
    pub none : w.holds [] t.part

  -- it took its stop, and came to its end; or it took one share more, which was refused
  pub data Takes (c : Caller) (t : Taker P) (own : List Entry) : Type 0 where
    to_its_stop : (ds : List Done) → HasAccount jobs t.turn (took (jobs_of ds) 1) → HasMade w c ds t.part t.end own → Takes c t own
    to_a_refusal : (ds : List Done) (number : ℕ) (r : Refusal) → HasAccount jobs t.turn (took (jobs_of ds ++ number ∷ []) 0) → t.end ≡ Err r
        → WasRefused w c ds number r own → Takes c t own
