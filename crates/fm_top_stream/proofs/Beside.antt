-- What a crew answered over a segment, and what its drawer put beside that.
use Rattle.std.proofs.Common.{◌≡◌, ◌≢◌, ℕ, ◌+◌, ◌%◌, ◌<◌, ◌≤◌, List, length, Option, Some, Result, Ok, Err, refl, ap, sym, ◌∙◌, subst}
use Rattle.std.specs.{Prelude.{IfErr, IfOk}, Result.{result_err}}
use Rattle.fm_base.specs.{declared.{arena_id.ArenaId.{ArenaId}, caller.Caller.{Caller}, refusal.Refusal.{Refusal}}, Calls.{Entry}}
use Rattle.fm_base.specs.declared.refusal.Refusal.TheVariants as refusal
use Rattle.fm_gate.specs.Needs.{IsOutside}
use Rattle.fm_io.specs.View.{FilesView}
use Rattle.fm_records_query.specs.Plan.{Plan}
use Rattle.fm_records.specs.declared.found.Found.{Found}
use Rattle.fm_rule_facts.specs.Views.{View, limit_of}
use Rattle.fm_rule.specs.declared.pool.Pool.{Pool}
use Rattle.fm_segment.specs.Region.{Region}
use Rattle.fm_workers.specs.Beside.{AskedBeside}
use Rattle.fm_top_load.specs.{declared.{load_fault.LoadFault.{LoadFault, TheVariants.{Memory, Refused}}, reached.Reached.{Reached}, room.Room.TheVariants.{Given}}}
use Rattle.fm_top_load.specs.{Putting.{ArePut, DoesPutStretch, StopsPutting}, Reading.{GoesBy, ReadsFurther}, Whole.{ByPuts, ByReads, TellsLoad}}
use Rattle.fm_top_load.proofs.{Portions.{further_says}, Telling.{read_quietly, tells_memory, tells_of}}
use Rattle.fm_top_pooled.proofs.Filed.{by_reads}
use Rattle.fm_top_stream.specs.declared.{ahead.Ahead.{Ahead}, placed.Placed.{Placed}, putting.Putting.{Putting}}
use Rattle.fm_top_stream.specs.{Ahead.{AsksAhead, IsBoth, IsFollowed, IsNeither, PutsAhead, WantsMemory, WasTried}, Steps.{AnswersBeside}}
use Rattle.fm_top_stream.proofs.{Refusing.{never_refused, wants_beside}, Rounds.{AwaitsBeside, answered_beside}}

-- There is one answer.
put_same : {old new : FilesView} {x y : Putting} {c : Caller} {own other : List Entry} (puts : PutsAhead old new x y c own) (h : PutsAhead old new x y c other)
    → h.put ≡ puts.put
put_same puts h =
    let same : Some h.put ≡ Some puts.put = sym h.is ∙ puts.is in
    cc

-- What was put is the chunk.
put_is : {old new : FilesView} {x y : Putting} {c : Caller} {own : List Entry} (puts : PutsAhead old new x y c own) (chunk : Reached) → y.put ≡ Some (Ok chunk)
    → puts.put ≡ Ok chunk
put_is puts chunk put =
    let same : Some puts.put ≡ Some (Ok chunk) = sym puts.is ∙ put in
    cc

module _ {pool : Pool} {p m q : View} {s : Region} {plan : Plan} {threads : ℕ} {old new : FilesView} {x y : Putting} {answer : Result (List Found) Refusal}
    (asked : AskedBeside (PutsAhead old new x y m.caller) threads m q plan s answer) where
  -- Both came to something.
  pub asks_ahead : AwaitsBeside p.shape.passes x.stretch.most pool p m s x.arena → 0 < length x.portion.bytes → x.arena ≢ s.arena → x.stretch.most ≤ limit_of pool.shape → IsOutside pool q
      → (result : Result Ahead LoadFault) → IfOk result (IsBoth q answer y) → IfOk result (AsksAhead old.holds pool plan p s x)
  asks_ahead w any other room outside (Err fault) both = tt
  asks_ahead w any other room outside (Ok r) both =
      let a : AskedBeside (PutsAhead old new x y m.caller) threads m q plan s (Ok r.answer) =
      subst (λ (e : Result (List Found) Refusal). AskedBeside (PutsAhead old new x y m.caller) threads m q plan s e) both.answered asked in
      let answers = answered_beside w other room r.answer x.portion both.chunk any a (λ own puts. subst (λ (e : Result Reached LoadFault). DoesPutStretch x.stretch old.holds m.caller (Given x.arena) x.portion e own)
      (put_is puts both.chunk both.put) puts.does) outside in
      record {
        chunk = both.chunk;
        next = both.next ∙ ap (λ (a : ArenaId). Some (record { arena = a; chunk = both.chunk })) asked.crew.acts.arena;
        answers = subst (λ (v : View). AnswersBeside p.shape.passes x.stretch old.holds pool p v s plan x.arena r.answer both.chunk) (sym both.pass) answers;
      }

module _ {m q : View} {s : Region} {plan : Plan} {threads : ℕ} {old new : FilesView} {x y : Putting} {answer : Result (List Found) Refusal}
    (asked : AskedBeside (PutsAhead old new x y m.caller) threads m q plan s answer) where
  -- The next read follows on what was put.
  pub follows_ahead : (result : Result Ahead LoadFault) → IfOk result (IsBoth q answer y)
      → ReadsFurther old.reads new.reads x.stretch.name.now x.stretch.limit (GoesBy x.portion.ended (x.stretch.at + length x.portion.bytes))
      (λ next. IfOk result (λ r. IsFollowed x.stretch.at r.next next))
  follows_ahead (Err fault) both = further_says x.stretch.limit asked.crew.acts.reads (λ next goes. tt)
  follows_ahead (Ok r) both =
      let puts = asked.crew.acts in
      further_says x.stretch.limit puts.reads (λ next goes.
      subst (λ (n : Option Placed). IsFollowed x.stretch.at n next) (sym both.next)
      (subst (λ (e : Result Reached LoadFault). IfOk e (λ chunk. GoesBy chunk.ended (x.stretch.at + chunk.count) next)) (put_is puts both.chunk both.put) goes))

  -- What was put tells of the files, and else memory was wanting.
  pub tells_ahead : {passes most : ℕ} {pool : Pool} {p : View} → AwaitsBeside passes most pool p m s x.arena → (result : Result Ahead LoadFault)
      → IfOk result (IsBoth q answer y) → IfErr result (IsNeither y) → TellsLoad ByReads x.stretch.limit old new x.stretch.name.now (result_err result)
  tells_ahead w (Ok r) both none =
      let puts = asked.crew.acts in
      tells_of (λ by. tt) (subst (λ (e : Result Reached LoadFault). TellsLoad ByPuts x.stretch.limit old new x.stretch.name.now (result_err e)) (put_is puts both.chunk both.put) puts.tells)
  tells_ahead w (Err fault) both none =
      let puts = asked.crew.acts in
      by_put puts.put puts.tells (λ r e. never_refused w r asked (λ own h. stops own h r (put_same puts h ∙ e))) (none.read puts.put puts.is)
      (λ reached e. none.other reached (puts.is ∙ ap Some e))
    where
      stops : (own : List Entry) (h : PutsAhead old new x y m.caller own) (r : Refusal) → h.put ≡ Err (Refused r) → StopsPutting m.caller (Given x.arena) r own
      stops own h r e = subst (λ (k : Result Reached LoadFault). DoesPutStretch x.stretch old.holds m.caller (Given x.arena) x.portion k own) e h.does

      by_put : (e : Result Reached LoadFault) → TellsLoad ByPuts x.stretch.limit old new x.stretch.name.now (result_err e) → ((r : Refusal) → e ≡ Err (Refused r) → ⊥)
          → IfErr e (λ f. f ≡ fault) → ((reached : Reached) → e ≡ Ok reached → fault ≡ Memory) → TellsLoad ByReads x.stretch.limit old new x.stretch.name.now (Some fault)
      by_put (Err f) tells not is other =
          subst (λ (k : LoadFault). TellsLoad ByReads x.stretch.limit old new x.stretch.name.now (Some k)) is (tells_of (λ by. by_reads f by (λ r e. not r (ap Err e))) tells)
      by_put (Ok reached) tells not is other =
          subst (λ (k : LoadFault). TellsLoad ByReads x.stretch.limit old new x.stretch.name.now (Some k)) (sym (other reached refl)) (tells_memory tt (read_quietly tells))

  -- It was tried.
  pub was_tried : WasTried y
  was_tried = record { put = asked.crew.acts.put; is = asked.crew.acts.is }

  -- Once it was put, nothing but memory was wanting to the answer.
  pub answer_wants : {passes most : ℕ} {pool : Pool} {p : View} → AwaitsBeside passes most pool p m s x.arena → s.size % plan.size ≡ 0 → WantsMemory answer y
  answer_wants w even chunk put = wants answer asked
    where
      are_put : (own : List Entry) → PutsAhead old new x y m.caller own → (bytes : List ℕ) × ArePut m.caller (Given x.arena) bytes own
      are_put own h =
          let puts = subst (λ (e : Result Reached LoadFault). DoesPutStretch x.stretch old.holds m.caller (Given x.arena) x.portion e own) (put_is h chunk put) h.does in
          (puts.bytes, puts.put)

      wants : (a : Result (List Found) Refusal) → AskedBeside (PutsAhead old new x y m.caller) threads m q plan s a → IfErr a (λ r. r ≡ refusal.Memory)
      wants (Ok a) asks = tt
      wants (Err r) asks = wants_beside w r asks even are_put
