-- A worker that serves chunks up to its stop.
use Rattle.std.specs.Prelude.{◌≡◌, ◌++◌, ◌∷◌, ℕ, None, List, []}
use Rattle.fm_base.specs.{declared.caller.Caller.{Caller}, Calls.{Entry}, View.{Did}}
use Rattle.std.proofs.Common.{ap, ◌∙◌}
use Rattle.fm_arena.specs.Lasting.{SamePool}
use Rattle.fm_records_query.specs.Plan.{Plan}
use Rattle.fm_rule_calls.specs.Told.{view_of_pass}
use Rattle.fm_rule_facts.specs.Views.{View, limit_of}
use Rattle.fm_segment.specs.Region.{region_of}
use Rattle.fm_workers_queue.specs.{declared.account.{Account.{Account}, Role.TheVariants.{User}}, Accounts.{user}, Turns.{HasAccount}}
use Rattle.fm_workers_chunks.specs.{Answering.{AnswersAndCloses}, declared.desk.{Desk.{Desk}, Server.{Server}}}
use Rattle.fm_workers_chunks.specs.declared.{chunk.Chunk.{Chunk}, job.Job.{Job, TheVariants.{Serve, Stop}}, served.Served.{Served}}

-- the pass is one of the pool that the notes are of, and the query is the one that was promised
pub record IsOnTerms (home : List ℕ) (limit : ℕ) (plan : Plan) (v : View) (p : Plan) : Type 0 where
  pub same_home : v.home ≡ home
  pub same_limit : limit_of v.shape ≡ limit
  pub same_plan : p ≡ plan

-- so is any pass of that pool
pub on_terms_later : {home : List ℕ} {limit : ℕ} {plan p : Plan} {v u : View} → SamePool v u → IsOnTerms home limit plan v p → IsOnTerms home limit plan u p
on_terms_later same on = record {
  same_home = same.home ∙ on.same_home;
  same_limit = ap limit_of same.shape ∙ on.same_limit;
  same_plan = on.same_plan;
}

-- ---- what was served

-- the chunk was answered over and its arena closed, or refused
pub record ServesOne (c : Caller) (p : Plan) (chunk : Chunk) (d : Served) (own : List Entry) : Type 0 where
  pub number : d.number ≡ chunk.number
  pub arena : d.arena ≡ chunk.arena
  pub count : d.count ≡ chunk.count
  pub does : AnswersAndCloses c p (region_of chunk.arena 0 chunk.count) d.answer own

-- each was, by a run of the entries, in their order
abbrev pub ServesEach : Caller → Plan → List Chunk → List Served → List Entry → Type 0
ServesEach c p [] [] own = own ≡ []
ServesEach c p (k ∷ ks) (d ∷ ds) own =
    (one : List Entry) × (rest : List Entry) × (own ≡ one ++ rest) × ServesOne c p k d one × ServesEach c p ks ds rest
ServesEach c p ks ds own = ⊥

-- as jobs, and these jobs behind them
abbrev pub jobs_then : List Chunk → List Job → List Job
jobs_then [] jobs = jobs
jobs_then (k ∷ ks) jobs = Serve k ∷ jobs_then ks jobs

-- ---- a worker

-- the account of who took these
abbrev pub took : {T : Type 0} → List T → Account T
took jobs = record { role = User; out = 0; pushed = []; taken = jobs }

-- the account of who pushed these
abbrev pub gave : {T : Type 0} → List T → Account T
gave jobs = record { role = User; out = 0; pushed = jobs; taken = [] }

module _ {K : Type 0} (desk : Desk K) where
  -- it took nothing and gave nothing back
  pub record IsAtDesk (server : Server) : Type 0 where
    pub taking : HasAccount desk.jobs.now server.taking user
    pub giving : HasAccount desk.served.now server.giving user

  -- it took chunks, and then these jobs, served each chunk in turn, and gave each back
  pub record ServesThen (c : Caller) (p : Plan) (last : List Job) (server : Server) (own : List Entry) : Type 0 where
    pub chunks : List Chunk
    pub served : List Served
    pub each : ServesEach c p chunks served own
    pub taking : HasAccount desk.jobs.now server.taking (took (jobs_then chunks last))
    pub giving : HasAccount desk.served.now server.giving (gave served)

  -- up to a stop
  abbrev pub ServesAll : Caller → Plan → Server → List Entry → Type 0
  ServesAll c p server own = ServesThen c p (Stop ∷ []) server own

  -- so far
  pub record IsServing (p : Plan) (old now : View) (server : Server) : Type 0 where
    pub did : Did (view_of_pass old) (view_of_pass now) (ServesThen old.caller p [] server)
    pub home : now.home ≡ old.home
    pub limit : limit_of now.shape ≡ limit_of old.shape
    pub caller : now.caller ≡ old.caller
    pub outside : now.inside ≡ None
