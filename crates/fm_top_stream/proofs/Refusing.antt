-- Neither what is put beside a crew nor its query is refused: nobody shuts an arena.
use Rattle.std.proofs.Common.{◌≡◌, ℕ, ◌%◌, ◌==◌, Bool, true, false, List, [], ◌∷◌, ◌++◌, length, Result, Ok, Err, refl, ap, sym, ◌∙◌, subst, append_assoc, ⊎_elim, arith}
use Rattle.std.specs.{Prelude.{MatchBool}, List.{AllByRecursion}}
use Rattle.fm_base.specs.declared.{arena_id.ArenaId.{ArenaId}, caller.Caller.{Caller}, kind.Kind.TheVariants.{Confined, Shared}, refusal.Refusal.{Refusal, TheVariants.{Closed, Memory, NoPass, Ragged, WrongThread}}}
use Rattle.fm_base.specs.{Arenas.{MayUse}, Calls.{Call, Enter, Entry, Leave, Read}, Finds.{Find, is_draw}, Histories.{made_by}, Untouched.{AllLeaveOpen, ComesIn, LeavesOpen}}
use Rattle.fm_base.{specs.Visits.{Run, ends, goes_on, refused_visit}, proofs.Untouched.{alive}}
use Rattle.fm_base_lists.proofs.Each.{all_both, all_weaker}
use Rattle.fm_records_query.specs.Plan.{Plan}
use Rattle.fm_records.specs.declared.found.Found.{Found as Answer}
use Rattle.fm_rule_facts.specs.{Hands.{most_draws}, Views.{View, In, limit_of, state_in}}
use Rattle.fm_rule.specs.{declared.pool.Pool.{Pool}, Draws.{FoundNone, FoundZero}}
use Rattle.fm_words.specs.{declared.shape.Shape.{Shape}, Places.{groups}, Shapes.{IsValid}}
use Rattle.fm_segment.specs.Region.{Region}
use Rattle.fm_segment_access.specs.{Ranges.{DoesPutBy, EndsPutting, Putting, putting}, Runs.{DoesPutAll, PutsMore}}
use Rattle.fm_top_load.specs.{Putting.{ArePut, StopsPutting}, declared.room.Room.TheVariants.{Given}}
use Rattle.fm_top_pooled.proofs.{Crews.{Touches, not_stopped}, Shows.{NoneMayAdd}}
use Rattle.fm_workers.specs.Beside.{AskedBeside}
use Rattle.fm_workers_crew.specs.Crew.{FoundNoNumber, callers}
use Rattle.fm_top_stream.proofs.{Elsewhere.{IsOfPuts, open_by_puts, run_is, runs_are}, Rounds.{AwaitsBeside, are_of, crew_each, of_all, reach}}

-- ---- how a run is refused

-- the entries end in a visit that was refused
record StopsAt (c : Caller) (id : ArenaId) (own : List Entry) : Type 0 where
  before : List Entry
  stops : own ≡ before ++ refused_visit c id

stops_behind : {c : Caller} {id : ArenaId} {own : List Entry} (first : List Entry) → StopsAt c id own → StopsAt c id (first ++ own)
stops_behind {c} {id} first h = record {
  before = first ++ h.before;
  stops = ap (λ es. first ++ es) h.stops ∙ sym (append_assoc first h.before (refused_visit c id));
}

module _ (c : Caller) (id : ArenaId) where
  run_stops : (Step : Putting → List Entry → Putting → Type 0) (x : Putting) (own : List Entry) → Run Step (EndsPutting c id) x own false
      → StopsAt c id own
  run_stops Step x own (ends e) = record { before = []; stops = e.1 }
  run_stops Step x own (goes_on y first rest step run) = stops_behind first (run_stops Step y rest run)

  -- Who may use the arena found it closed.
  puts_stop : (at : ℕ) (bytes : List ℕ) (r : Refusal) (own : List Entry) → MayUse id c → DoesPutBy PutsMore c id at bytes (Err r) own
      → StopsAt c id own
  puts_stop at bytes WrongThread own may d = absurd (d.0 may)
  puts_stop at bytes Closed own may d = run_stops (PutsMore c id) (putting at bytes) own d.1
  puts_stop at bytes r own may d = absurd d

  -- With no bytes nothing is refused.
  some_refused : (none : Bool) (r : Refusal) (own : List Entry) (Does : Type 0) → MatchBool none ((Err r ≡ Ok (tt {0})) × (own ≡ [])) Does → Does
  some_refused true r own Does d = let is = d.0 in absurd cc
  some_refused false r own Does d = d

  all_stop : (at : ℕ) (bytes : List ℕ) (r : Refusal) (own : List Entry) → MayUse id c → DoesPutAll c id at bytes (Err r) own → StopsAt c id own
  all_stop at bytes r own may d =
      puts_stop at bytes r own may (some_refused (length bytes == 0) r own (DoesPutBy PutsMore c id at bytes (Err r) own) d)

-- ---- it isn't refused

-- What holds of the calls by which bytes are put holds of the crew's too.
reading_is : {P : Call → Type 0} {a : ArenaId} → IsOfPuts P a → (call : Call) → Touches NoneMayAdd call → P call
reading_is k (Enter x) h = k.enter x
reading_is k (Read x word) h = k.read x word
reading_is k (Leave x) h = k.leave x
reading_is k call h = absurd h

module _ {passes most : ℕ} {pool : Pool} {p m q : View} {s : Region} {plan : Plan} {threads : ℕ} {b : ArenaId}
    (w : AwaitsBeside passes most pool p m s b) where
  -- Nobody shuts the arena, so the first pass is let in each time.
  pub never_refused : {Acts : List Entry → Type 0} {result : Result (List Answer) Refusal} (r : Refusal)
      (asked : AskedBeside Acts threads m q plan s result) → ((own : List Entry) → Acts own → StopsPutting m.caller (Given b) r own) → ⊥
  never_refused r asked refuses =
      let c = m.caller in
      let more = asked.crew.more in
      let cs = callers asked.crew.crew in
      let put = refuses (made_by c more) asked.crew.acts in
      let opens = λ (e : Entry). LeavesOpen b e.call in
      let k = open_by_puts b b in
      let own : AllLeaveOpen b (made_by c more) =
      subst (AllLeaveOpen b) (sym put.parts)
      (all_both opens put.before put.last (runs_are (LeavesOpen b) b k c put.all put.before put.put)
      (run_is (LeavesOpen b) b k c (length put.all) put.bytes (Err r) put.last put.refused)) in
      let crew =
      crew_each s more opens (λ es touch. all_weaker (λ (e : Entry). Touches NoneMayAdd e.call) opens (λ e t. reading_is k e.call t) es touch) cs
      asked.visits in
      let leave = of_all opens c cs more (are_of asked w.awaits.stocked) own crew in
      let comes = (alive (limit_of m.shape) (state_in m) more b (reach asked).legal w.held.known w.held.alive leave).1 in
      let last = stops_behind put.before (all_stop c b (length put.all) put.bytes r put.last w.held.usable put.refused) in
      not_stopped b c more last.before comes (put.parts ∙ last.stops)

-- ---- the query

-- None of no finds drew nobody.
no_finds : (before these after : List Find) → [] ≡ before ++ (these ++ after) → these ≡ []
no_finds [] [] after is = refl
no_finds [] (f ∷ fs) after is = absurd (cc)
no_finds (f ∷ fs) these after is = absurd (cc)

none_found : {z : Shape} → IsValid z → FoundNoNumber z [] → ⊥
none_found {z} valid found =
    let why = subst (λ (fs : List Find). FoundNone (groups z) fs) (no_finds found.before found.these found.after found.parts) found.all in
    let some = valid.passes.0 in
    ⊎_elim (λ (zero : FoundZero (groups z) []). (zero 0 (omega (arith, some))).1) (λ (f : (f : Find) × In f [] × (is_draw f.step ≡ true) × (f.found ≡ most_draws)). f.1) why.why

module _ {passes most : ℕ} {pool : Pool} {p m q : View} {s : Region} {plan : Plan} {threads : ℕ} {b : ArenaId} {Acts : List Entry → Type 0}
    (w : AwaitsBeside passes most pool p m s b) where
  -- Everyone was let in to the segment's arena, where bytes were put into another.
  all_come : {result : Result (List Answer) Refusal} (asked : AskedBeside Acts threads m q plan s result) → (bytes : List ℕ)
      → ArePut m.caller (Given b) bytes (made_by m.caller asked.crew.more) → AllByRecursion (ComesIn s.arena) asked.crew.more
  all_come asked bytes put =
      let c = m.caller in
      let more = asked.crew.more in
      let cs = callers asked.crew.crew in
      let opens = λ (e : Entry). LeavesOpen s.arena e.call in
      let k = open_by_puts s.arena b in
      let own : AllLeaveOpen s.arena (made_by c more) = runs_are (LeavesOpen s.arena) b k c bytes (made_by c more) put in
      let crew =
      crew_each s more opens (λ es touch. all_weaker (λ (e : Entry). Touches NoneMayAdd e.call) opens (λ e t. reading_is k e.call t) es touch) cs
      asked.visits in
      let leave = of_all opens c cs more (are_of asked w.awaits.stocked) own crew in
      (alive (limit_of m.shape) (state_in m) more s.arena (reach asked).legal w.awaits.stocked.known.arena w.awaits.stocked.alive leave).1

  -- Memory alone is wanting.
  pub wants_beside : (r : Refusal) (asked : AskedBeside Acts threads m q plan s (Err r)) → s.size % plan.size ≡ 0
      → ((own : List Entry) → Acts own → (bytes : List ℕ) × ArePut m.caller (Given b) bytes own) → r ≡ Memory
  wants_beside (Ragged rest) asked even puts =
      let some = asked.ends.1 in
      let is = asked.ends.0 in
      absurd (omega (arith, some, is, even))
  wants_beside WrongThread asked even puts =
      let kind : Confined ≡ Shared = sym asked.ends.1 ∙ w.awaits.stocked.shared in
      absurd (cc)
  wants_beside Closed asked even puts =
      let found = asked.ends.1 in
      let put = puts (made_by m.caller asked.crew.more) asked.crew.acts in
      absurd (not_stopped s.arena found.first.caller asked.crew.more found.stops.before (all_come asked put.0 put.1) found.stops.stops)
  wants_beside NoPass asked even puts = absurd (none_found w.awaits.stocked.sound.valid asked.ends.1)
  wants_beside Memory asked even puts = refl
  wants_beside r asked even puts = absurd asked.ends
