-- What a crew answers of records in a pool, that nothing but memory is wanting, and what the pool's history shows then.
use Rattle.std.proofs.Common.{◌≡◌, ℕ, ◌%◌, ◌<◌, ◌≤◌, List, [], ◌++◌, append_assoc, length, Result, Ok, Err, IfErr, refl, ap, sym, ◌∙◌, subst, inl, inr, ⊎_elim, arith, length-append}
use Rattle.std.{specs.{Prelude.{◌⊎◌}, List.{AllByRecursion}}, proofs.Math.Nat.{zero-mod}}
use Rattle.fm_base.specs.declared.{arena_id.ArenaId.{ArenaId}, caller.Caller.{Caller}, kind.Kind.TheVariants.{Confined, Shared}, refusal.Refusal.{Refusal}}
use Rattle.fm_base.specs.{declared.refusal.Refusal.TheVariants.{Ragged, WrongThread, Closed, NoPass, Memory}, Arenas.{State, are_one, has_arena}}
use Rattle.fm_base.specs.{Calls.{Entry, Read, Found as Found_word, entry_of}, Histories.{IsTidy, made_by, state_after}, Untouched.{Spares}}
use Rattle.fm_gate.specs.Needs.{IsOutside}
use Rattle.fm_base_lists.{specs.Among.{IsAmong}, proofs.{Among.{among_kept, among_left, among_right}, Each.{all_among, all_both, all_weaker}}}
use Rattle.fm_path.specs.Resolution.{Resolution}
use Rattle.fm_rule_facts.specs.Views.{View, IsSound, limit_of, state_in}
use Rattle.fm_records_query.specs.Plan.{Plan}
use Rattle.fm_records.specs.{declared.found.Found.{Found}, Alone.{bytes_at_places}, Answers.{answer}, Laws.{IsAsked, value_in}, Reads.{IsWordOf}}
use Rattle.fm_records.{specs.Shares.{AreSpared}, proofs.AnsweringBytes.{length-places}}
use Rattle.fm_rule.specs.{declared.pool.Pool.{Pool}, Finishing.{FinishedView, Finishes}, GivenBytes.{state_of}}
use Rattle.fm_segment.specs.Region.{Region, region_of}
use Rattle.fm_words.specs.declared.shape.Shape.{Shape}
use Rattle.fm_workers_crew.{specs.Crew.{AreTooMany, CrewGathered, IsFresh, IsWhole, callers}, proofs.Again.{crews_come, few_of_one}}
use Rattle.fm_workers.specs.Query.{CanQueryWith, IsReadByCrew, NobodyElseWrites, OnlyReads, QueriedWith}
use Rattle.fm_top_pooled.specs.Asking.{Asked, AskedOf, HasPasses, KeepsHistory}
use Rattle.fm_top_pooled.specs.Shown.{AreRead, AsksWord, IsReadByOther, ShowsBoth, ShowsQuery, ShowsRecords, state_before}
use Rattle.fm_top_pooled.specs.Stocked.{IsStocked, IsStockedOf, IsTidyPass, bytes_in_pool}
use Rattle.fm_top_pooled.proofs.Crews.{AllTouch, bytes_stay, crew_touches, not_stopped, only_reads_touch, records_spared, stays_alive, stocked_still}

pub pooled_is : (p : View) (s : Region) → bytes_in_pool p s ≡ bytes_at_places (state_in p) s
unfolding bytes_in_pool
pooled_is p s = refl

pub length-pooled : (p : View) (s : Region) → length (bytes_in_pool p s) ≡ s.size
length-pooled p s = ap length (pooled_is p s) ∙ length-places (state_in p) s

pub is_whole : {n : ℕ} {pool : Pool} {p : View} {s : Region} → IsStockedOf n pool p s → IsWhole p
is_whole h = record { sound = h.sound; whole = h.whole }

pub can_ask : {n : ℕ} {pool : Pool} {p : View} {s : Region} (plan : Plan) (threads : ℕ) → IsStockedOf n pool p s → 0 < threads → threads ≤ 16
    → CanQueryWith pool p plan s threads
can_ask {s = s} plan threads h some few = record {
  outside = h.outside;
  known = h.known;
  aligned = ap (λ (r : Region). r.first % plan.alignment) h.start ∙ zero-mod plan.alignment;
  some = some;
  few = few;
}

-- ---- which words were read

-- where the records stand, as the words that are asked for name it
pub region_is : {n : ℕ} {pool : Pool} {p : View} {s : Region} → IsStockedOf n pool p s → region_of s.arena 0 (length (bytes_in_pool p s)) ≡ s
region_is {p = p} {s = s} h = ap (λ n. region_of s.arena 0 n) (length-pooled p s) ∙ sym h.start

-- what one of a crew that was drawn has read, others than the first pass have
pub by_other : (p : View) (s : Region) (cs : List Caller) (more : List Entry) → AllByRecursion (IsFresh p) cs → (word : ℕ) → IsReadByCrew s cs more word
    → IsReadByOther more s.arena word
by_other p s cs more fresh word r = record {
  caller = r.caller;
  other = (all_among (IsFresh p) r.caller cs fresh r.among).later;
  read = record {
    found = r.read.found;
    among =
        let e : Entry = entry_of r.caller (Read s.arena word) (Found_word r.read.found) in
        among_kept (λ x. are_one x.caller r.caller) e more r.read.among;
  };
}

-- each word of each value that is asked for was read by one of the crew
abbrev pub AreReadByCrew : View → Plan → Region → List Caller → List Entry → Type 0
AreReadByCrew p plan s crew more =
    (index : ℕ) (r : Resolution) (is : List ℕ) (word : ℕ) → IsAsked plan (bytes_at_places (state_in p) s) index r is
    → IsWordOf (value_in plan s index r is) word → IsReadByCrew s crew more word

pub are_read : {n : ℕ} {pool : Pool} {p : View} {s : Region} (plan : Plan) (cs : List Caller) (more : List Entry) → IsStockedOf n pool p s
    → AllByRecursion (IsFresh p) cs → AreReadByCrew p plan s cs more → AreRead more (AsksWord plan (bytes_in_pool p s)) s.arena
are_read {p = p} {s = s} plan cs more h fresh read word asks =
    by_other p s cs more fresh word
    (read asks.index asks.path asks.indices word
    (subst (λ (bs : List ℕ). IsAsked plan bs asks.index asks.path asks.indices) (pooled_is p s) asks.asked)
    (subst (λ (r : Region). IsWordOf (value_in plan r asks.index asks.path asks.indices) word) (region_is h) asks.has))

-- what stands of records once a crew has read them
pub asked : {n : ℕ} {pool : Pool} {p q : View} {s : Region} (threads : ℕ) (plan : Plan) → IsStockedOf n pool p s → (crew : CrewGathered p q) → length crew.crew ≤ threads
    → AreReadByCrew p plan s (callers crew.crew) crew.more → IsStockedOf n pool q s → bytes_in_pool q s ≡ bytes_in_pool p s → AreSpared s crew.more
    → AskedOf n threads pool p q plan s
asked {p = p} {q = q} threads plan h crew few read stocked same spared = record {
  before = h;
  stocked = stocked;
  same = same;
  more = crew.more;
  seen = crew.seen;
  spared = spared;
  read = are_read plan (callers crew.crew) crew.more h crew.fresh read;
  drawn = omega (arith, ap (λ (v : View). length v.gathered) crew.is, length-append p.gathered crew.crew, few);
}

-- there is a number for each worker, since numbers come back
pub never_wanting : {pool : Pool} {p : View} {s : Region} (threads : ℕ) → IsStocked pool p s → HasPasses p threads → ¬ (AreTooMany p threads)
never_wanting {p = p} threads h passes =
    let left = passes.left in
    let few = passes.crew.few in
    let all = h.passes in
    crews_come.back p threads (is_whole h) (λ n. let one = few_of_one n p.gathered in omega arith) (omega arith) (omega arith)

-- ---- a query

-- a query adds to no word
abbrev pub NoneMayAdd : ArenaId → ℕ → Type 0
NoneMayAdd a word = ⊥

module _ {n : ℕ} {pool : Pool} {p q : View} {s : Region} {plan : Plan} {threads : ℕ} (h : IsStockedOf n pool p s) (sound : IsSound q) where
  pub touch : {r : Result (List Found) Refusal} (w : QueriedWith threads p q plan s r) → AllTouch NoneMayAdd w.crew.more
  touch w =
      let cs = callers w.crew.crew in
      crew_touches NoneMayAdd cs w.crew.more (w.crew.alone (is_whole h))
      (all_weaker (λ (c : Caller). OnlyReads s c (made_by c w.crew.more)) (λ (c : Caller). AllTouch NoneMayAdd (made_by c w.crew.more))
      (λ c r. only_reads_touch NoneMayAdd s c (made_by c w.crew.more) r) cs w.visits)

  -- memory can be wanting, or a pass where the workers are too many
  pub wants : (r : Result (List Found) Refusal) → QueriedWith threads p q plan s r → s.size % plan.size ≡ 0
      → IfErr r (λ e. (e ≡ Memory) ⊎ ((e ≡ NoPass) × AreTooMany p threads))
  wants (Ok a) w even = tt
  wants (Err (Ragged rest)) w even =
      let some = w.ends.1 in
      let is = w.ends.0 in
      absurd (omega (arith, some, is, even))
  wants (Err WrongThread) w even =
      let kind : Confined ≡ Shared = sym w.ends.1 ∙ h.shared in
      absurd (cc)
  wants (Err Closed) w even =
      let found = w.ends.1 in
      absurd (not_stopped s.arena found.first.caller w.crew.more found.stops.before
      (stays_alive NoneMayAdd h w.crew sound (touch w) s.arena h.known.arena h.alive).1 found.stops.stops)
  wants (Err NoPass) w even = inr (refl, w.wanting (is_whole h) refl)
  wants (Err Memory) w even = inl refl
  wants (Err r) w even = absurd w.ends

  -- all entries are the crew's
  nobody_else : {r : Result (List Found) Refusal} (w : QueriedWith threads p q plan s r) → NobodyElseWrites s (callers w.crew.crew) w.crew.more
  nobody_else w = λ place from below.
      all_weaker (λ (e : Entry). IsAmong e.caller (callers w.crew.crew)) (λ (e : Entry). IsAmong e.caller (callers w.crew.crew) ⊎ Spares s.arena place e.call)
      (λ e i. inl i) w.crew.more (w.crew.alone (is_whole h))

  -- the answer is that over the bytes
  pub answers : (a : List Found) → QueriedWith threads p q plan s (Ok a) → a ≡ answer plan (bytes_in_pool p s)
  answers a w = (w.value (nobody_else w)).value ∙ ap (answer plan) (sym (pooled_is p s))

  pub was_asked : (a : List Found) → QueriedWith threads p q plan s (Ok a) → IsOutside pool q → AskedOf n threads pool p q plan s
  was_asked a w outside =
      asked threads plan h w.crew w.one_each (w.value (nobody_else w)).read
      (stocked_still NoneMayAdd h w.crew sound (touch w) outside w.known s.arena 0 (omega arith) (λ b word none. absurd none))
      (bytes_stay NoneMayAdd h w.crew sound (touch w) (λ b word none. absurd none))
      (records_spared NoneMayAdd h w.crew sound (touch w) (λ b word none. absurd none))

-- Where there are passes enough only memory can be wanting.
pub only_wants : {pool : Pool} {p q : View} {s : Region} {plan : Plan} {threads : ℕ} (h : IsStocked pool p s) → IsSound q
    → (r : Result (List Found) Refusal) → QueriedWith threads p q plan s r → s.size % plan.size ≡ 0 → HasPasses p threads → IfErr r (λ e. e ≡ Memory)
only_wants h sound (Ok a) w even passes = tt
only_wants {p = p} {threads = threads} h sound (Err r) w even passes =
    ⊎_elim (λ (m : r ≡ Memory). m) (λ (t : (r ≡ NoPass) × AreTooMany p threads). absurd (never_wanting threads h passes t.1)) (wants h sound (Err r) w even)

-- ---- the finished pool

pub keeps_history : {pool : Pool} {p : View} {f : FinishedView} → p.shape ≡ pool.shape → IsTidyPass p → Finishes pool p f → KeepsHistory p f
keeps_history {p = p} {f = f} of tidy finishes =
    let shape : f.shape ≡ p.shape = finishes.shape ∙ sym of in
    record {
      is_history = record {
        legal = finishes.finished.legal;
        tidy = subst (λ (z : Shape). IsTidy (limit_of z) [] f.history) (sym shape)
            (subst (λ (es : List Entry). IsTidy (limit_of p.shape) [] es) (sym finishes.history) tidy);
        lent = finishes.finished.lent;
      };
      shape = shape;
      history = finishes.history;
    }

pub state_kept : {p : View} {f : FinishedView} → KeepsHistory p f → state_of f ≡ state_in p
state_kept {p} {f} kept =
    ap (λ (z : Shape). state_after (limit_of z) [] f.history) kept.shape ∙ ap (λ (es : List Entry). state_after (limit_of p.shape) [] es) kept.history

-- its history shows what was read of the records that stood in it
pub shows : {pool : Pool} {p q : View} {s : Region} {f : FinishedView} (bytes : List ℕ) (Asks : ArenaId → ℕ → Type 0) (more : List Entry)
    → IsStocked pool p s → IsStocked pool q s → KeepsHistory q f → q.seen ≡ p.seen ++ more → bytes_in_pool p s ≡ bytes → bytes_in_pool q s ≡ bytes
    → AreSpared s more → AreRead more Asks s.arena → ShowsRecords f bytes Asks
shows {p = p} {q = q} {s = s} {f = f} bytes Asks more h k kept seen were are spared read =
    let shape : f.shape ≡ p.shape = kept.shape ∙ (k.outside.of.1 ∙ sym h.outside.of.1) in
    let first : state_before f p.seen ≡ state_in p = ap (λ (z : Shape). state_after (limit_of z) [] p.seen) shape in
    let state : state_of f ≡ state_in q = state_kept kept in
    let region : region_of s.arena 0 (length bytes) ≡ s =
    ap (λ (bs : List ℕ). region_of s.arena 0 (length bs)) (sym were) ∙ region_is h in
    record {
      is_history = kept.is_history;
      id = s.arena;
      before = p.seen;
      after = more;
      parts = kept.history ∙ seen;
      known = ap (λ (t : State). has_arena t s.arena) first ∙ h.known.arena;
      stand = ap (λ (t : State). bytes_at_places t (region_of s.arena 0 (length bytes))) first ∙ ap (bytes_at_places (state_in p)) region
          ∙ sym (pooled_is p s) ∙ were;
      spared = subst (λ (r : Region). AreSpared r more) (sym region) spared;
      read = read;
      last = ap (λ (t : State). bytes_at_places t (region_of s.arena 0 (length bytes))) state ∙ ap (bytes_at_places (state_in q)) region
          ∙ sym (pooled_is q s) ∙ are;
    }

-- ---- two queries

pub read_in : (es fs : List Entry) (id : ArenaId) (word : ℕ) → ((e : Entry) → IsAmong e es → IsAmong e fs) → IsReadByOther es id word
    → IsReadByOther fs id word
read_in es fs id word into r = record {
  caller = r.caller;
  other = r.other;
  read = record { found = r.read.found; among = into (entry_of r.caller (Read id word) (Found_word r.read.found)) r.read.among };
}

pub both_read : {pool : Pool} {p q r : View} {s : Region} {a b : Plan} {threads : ℕ} (bytes : List ℕ) (one : Asked threads pool p q a s)
    (two : Asked threads pool q r b s) → bytes_in_pool p s ≡ bytes → (word : ℕ) → AsksWord a bytes s.arena word ⊎ AsksWord b bytes s.arena word
    → IsReadByOther (one.more ++ two.more) s.arena word
both_read {s = s} {a = a} bytes one two are word (inl asks) =
    read_in one.more (one.more ++ two.more) s.arena word (λ e i. among_left e one.more two.more i)
    (one.read word (subst (λ (bs : List ℕ). AsksWord a bs s.arena word) (sym are) asks))
both_read {s = s} {b = b} bytes one two are word (inr asks) =
    read_in two.more (one.more ++ two.more) s.arena word (λ e i. among_right e one.more two.more i)
    (two.read word (subst (λ (bs : List ℕ). AsksWord b bs s.arena word) (sym (one.same ∙ are)) asks))

-- ---- what is shown

pub shows_query : {pool : Pool} {p q : View} {s : Region} {f : FinishedView} {plan : Plan} {threads : ℕ} (bytes : List ℕ) → Asked threads pool p q plan s
    → KeepsHistory q f → bytes_in_pool p s ≡ bytes → ShowsQuery f plan bytes
shows_query {s = s} {plan = plan} bytes asks kept are =
    shows bytes (AsksWord plan bytes) asks.more asks.before asks.stocked kept asks.seen are (asks.same ∙ are) asks.spared
    (subst (λ (bs : List ℕ). AreRead asks.more (AsksWord plan bs) s.arena) are asks.read)

pub shows_both : {pool : Pool} {p q r : View} {s : Region} {f : FinishedView} {a b : Plan} {threads : ℕ} (bytes : List ℕ) → Asked threads pool p q a s
    → Asked threads pool q r b s → KeepsHistory r f → bytes_in_pool p s ≡ bytes → ShowsBoth f a b bytes
shows_both {p = p} {s = s} {a = a} {b = b} bytes one two kept are =
    shows bytes (λ id word. AsksWord a bytes id word ⊎ AsksWord b bytes id word) (one.more ++ two.more) one.before two.stocked kept
    (two.seen ∙ (ap (λ (es : List Entry). es ++ two.more) one.seen ∙ append_assoc p.seen one.more two.more)) are (two.same ∙ (one.same ∙ are))
    (λ place from below. all_both (λ e. Spares s.arena place e.call) one.more two.more (one.spared place from below) (two.spared place from below))
    (both_read bytes one two are)
