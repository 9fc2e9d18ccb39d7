-- A pass that draws a crew for the segment, and puts the next stretch of the file into another arena while the crew answers.
use Rattle.std.proofs.Common.{◌≡◌, ◌≢◌, ℕ, ◌<◌, ◌≤◌, true, false, List, [], ◌∷◌, length, take, Option, Result, Ok, refl, ap, sym, ◌∙◌, subst, inl, inr, ⊎_elim, arith}
use Rattle.std.specs.{Prelude.{◌⊎◌}, List.{AllByRecursion}}
use Rattle.fm_base_aside.{specs.Aside.{IsLook, IsOwnOrLook, OthersLook, arena_for, state_for}, proofs.Looks.{alone_for, arena_for_of, has_for}}
use Rattle.fm_base.specs.declared.{arena_id.ArenaId.{ArenaId}, caller.Caller.{Caller}, refusal.Refusal.{Refusal}}
use Rattle.fm_base.specs.{Arenas.{Alive, Arena, State, MayUse, are_one, arena_of, has_arena}, Calls.{Call, Enter, Entry, Leave, Read}}
use Rattle.fm_base.specs.{Histories.{made_by, state_after}, Machine.{words_within}, Untouched.{AllSpare, Spares}, View.{given_in}}
use Rattle.fm_base.proofs.Names.{are_one-not, are_one-true}
use Rattle.fm_base_bytes.specs.Words.{bytes_in}
use Rattle.fm_base_lists.{specs.Among.{IsAmong}, proofs.Each.{all_weaker}}
use Rattle.fm_gate.specs.Needs.{IsOutside}
use Rattle.fm_io.specs.Files.{Contents}
use Rattle.fm_records_query.specs.Plan.{Plan}
use Rattle.fm_records.specs.{declared.found.Found.{Found as Answer}, Alone.{bytes_at_places}, Answers.{answer}}
use Rattle.fm_rule_calls.{specs.Told.{view_of_pass}, proofs.Going.{Reached, reached_by}}
use Rattle.fm_rule_facts.specs.Views.{View, limit_of, state_in}
use Rattle.fm_rule.specs.declared.pool.Pool.{Pool}
use Rattle.fm_segment.specs.Region.{Region}
use Rattle.fm_segment_access.specs.Alone.{bytes_of_arena}
use Rattle.fm_segment_laws.proofs.{Staying.{ChangesBelow, StayBelow, tidy_alone}}
use Rattle.fm_top_load.specs.{declared.{reached.Reached.{Reached as Reach}, room.Room.TheVariants.{Given}, stretch.Stretch.{Stretch}}, Held.{IsHeld, names_in, words_at}, Portions.{PortionView}, Putting.{ArePut, PutsStretch}}
use Rattle.fm_top_load.{specs.{Whole.{IsCut}}, proofs.{Lone.{StandsAt, puts_stand}, Machine.{AreOwn, lone, own_are}}}
use Rattle.fm_top_pooled.specs.{Shown.{AsksWord}, Stocked.{IsAlone, IsStockedOf, bytes_in_pool}}
use Rattle.fm_top_pooled.proofs.{Filed.{puts_stay}, Crews.{AllTouch, Touches, only_reads_touch, stay_below}, Shows.{NoneMayAdd, are_read, is_whole, pooled_is}}
use Rattle.fm_top_pooled.proofs.Tidying.{tidy_on}
use Rattle.fm_base.proofs.Either.{by_either}
use Rattle.fm_workers.specs.{Beside.{AskedBeside}, Query.{IsAnswer, NobodyElseWrites, OnlyReads, QueriedWith}}
use Rattle.fm_workers_crew.specs.Crew.{IsFresh, callers}
use Rattle.fm_words.specs.declared.shape.Shape.{Shape}
use Rattle.fm_top_stream.{specs.{Shown.{ReadStanding}, Steps.{AnswersBeside, GoesOn, HasChunk, Stand, StandBut}}, proofs.{Elsewhere.{put_elsewhere}, Going.{goes_then}}}
use Rattle.fm_top_stream.proofs.Reading.{Awaits, awaits_more}

-- ---- whose entries they are

-- each entry is the caller's or one of the crew's
abbrev pub AreOf : Caller → List Caller → List Entry → Type 0
AreOf c cs es = AllByRecursion (λ e. (e.caller ≡ c) ⊎ IsAmong e.caller cs) es

-- What holds of the caller's own entries, and of those of each of the crew, holds of all.
pub of_all : (P : Entry → Type 0) (c : Caller) (cs : List Caller) (es : List Entry) → AreOf c cs es → AllByRecursion P (made_by c es)
    → AllByRecursion (λ d. AllByRecursion P (made_by d es)) cs → AllByRecursion P es
of_all P c cs es are own each =
    by_either P (c ∷ cs) es
    (all_weaker (λ e. (e.caller ≡ c) ⊎ IsAmong e.caller cs) (λ e. IsAmong e.caller (c ∷ cs) ⊎ P e) (λ e i. inl i) es are) (own, each)

-- ---- the crew only looks

-- A query adds to no word, so it only looks.
looks : (call : Call) → Touches NoneMayAdd call → IsLook call
looks (Enter a) h = tt
looks (Read a word) h = tt
looks (Leave a) h = tt
looks call h = absurd h

-- To another caller all that it made are looks.
look_beside : (c d : Caller) (own : List Entry) → d ≢ c → AreOwn d own → AllTouch NoneMayAdd own → AllByRecursion (IsOwnOrLook c) own
look_beside c d [] other mine touch = tt
look_beside c d (e ∷ es) other mine touch =
    let apart : are_one e.caller c ≡ false = subst (λ (x : Caller). are_one x c ≡ false) (sym (are_one-true e.caller d mine.0)) (are_one-not d c other) in
    (inr (apart, looks e.call touch.0), look_beside c d es other mine.1 touch.1)

-- Staying below a place is said of each entry.
stay_each : (a : ArenaId) (end : ℕ) (es : List Entry) → StayBelow a end es → AllByRecursion (λ e. ChangesBelow a end e.call e.reply) es
stay_each a end [] h = tt
stay_each a end (e ∷ es) h = (h.0, stay_each a end es h.1)

each_stays : (a : ArenaId) (end : ℕ) (es : List Entry) → AllByRecursion (λ e. ChangesBelow a end e.call e.reply) es → StayBelow a end es
each_stays a end [] h = tt
each_stays a end (e ∷ es) h = (h.0, each_stays a end es h.1)

module _ (s : Region) (es : List Entry) where
  abbrev AreReadings : List Caller → Type 0
  AreReadings cs = AllByRecursion (λ d. OnlyReads s d (made_by d es)) cs

  crew_looks : (m : View) (cs : List Caller) → AllByRecursion (IsFresh m) cs → AreReadings cs
      → AllByRecursion (λ d. AllByRecursion (IsOwnOrLook m.caller) (made_by d es)) cs
  crew_looks m [] fresh visits = tt
  crew_looks m (d ∷ cs) fresh visits = (
    look_beside m.caller d (made_by d es) (λ is. fresh.0.other (inl is)) (own_are d es) (only_reads_touch NoneMayAdd s d (made_by d es) visits.0),
    crew_looks m cs fresh.1 visits.1,
  )

  -- What follows from touching no word holds of what each of them made.
  pub crew_each : (P : Entry → Type 0) → ((own : List Entry) → AllTouch NoneMayAdd own → AllByRecursion P own) → (cs : List Caller) → AreReadings cs
      → AllByRecursion (λ d. AllByRecursion P (made_by d es)) cs
  crew_each P f cs visits =
      all_weaker (λ (d : Caller). OnlyReads s d (made_by d es)) (λ (d : Caller). AllByRecursion P (made_by d es))
      (λ d r. f (made_by d es) (only_reads_touch NoneMayAdd s d (made_by d es) r)) cs visits

  crew_stays : (a : ArenaId) (end : ℕ) (cs : List Caller) → AreReadings cs
      → AllByRecursion (λ d. AllByRecursion (λ e. ChangesBelow a end e.call e.reply) (made_by d es)) cs
  crew_stays a end cs visits =
      crew_each (λ e. ChangesBelow a end e.call e.reply)
      (λ own touch. stay_each a end own (stay_below NoneMayAdd a end own (λ x word none. absurd none) touch)) cs visits

-- ---- what is put beside it

-- Nobody but the crew writes in the segment, where the caller's own entries spare all bytes of its arena.
nobody_else : (s : Region) (c : Caller) (cs : List Caller) (es : List Entry) → AreOf c cs es
    → ((place : ℕ) → AllSpare s.arena place (made_by c es)) → NobodyElseWrites s cs es
nobody_else s c cs es are spare place from below =
    let P : Entry → Type 0 = λ e. IsAmong e.caller cs ⊎ Spares s.arena place e.call in
    by_either P (c ∷ []) es
    (all_weaker (λ (e : Entry). (e.caller ≡ c) ⊎ IsAmong e.caller cs) (λ (e : Entry). IsAmong e.caller (c ∷ []) ⊎ P e)
    (λ e i. ⊎_elim (λ (is : e.caller ≡ c). inl (inl is)) (λ (a : IsAmong e.caller cs). inr (inl a)) i) es are)
    (all_weaker (λ (e : Entry). Spares s.arena place e.call) P (λ e x. inr x) (made_by c es) (spare place), tt)

-- ---- what stands then, where the pass alone is seen

names_for : (c : Caller) (s : State) → names_in (state_for c s) ≡ names_in s
names_for c [] = refl
names_for c (a ∷ s) = ap (λ (ns : List ArenaId). a.id ∷ ns) (names_for c s)

-- An arena has what it has, but for who is under way in it.
seen_for : {X : Type 0} (f : Arena → X) (c : Caller) (s : State) (id : ArenaId) → f (arena_of (state_for c s) id) ≡ f (arena_for c (arena_of s id))
seen_for f c s id = ap f (arena_for_of c s id)

-- The pass's own entries, by which these bytes were put, are a legal history by themselves: what they leave stands.
module _ {m q : View} {b : ArenaId} {bytes : List ℕ} (more : List Entry) (reach : Reached m q more) (look : OthersLook m.caller more)
    (put : ArePut m.caller (Given b) bytes (made_by m.caller more)) (held : IsHeld (view_of_pass m) b) (within : length bytes ≤ limit_of m.shape) where
  stands : StandsAt (limit_of m.shape) m.caller (state_for m.caller (state_in m)) (state_for m.caller (state_in q)) (Given b) bytes
  stands =
      let c = m.caller in
      let limit = limit_of m.shape in
      let s = state_in m in
      let alone = alone_for c limit s more reach.legal look in
      let state : state_for c (state_in q) ≡ state_after limit (state_for c s) (made_by c more) = ap (state_for c) reach.state ∙ alone.1 in
      let mine : IsHeld (lone limit c (state_for c s)) b = record {
        by_itself = inl refl;
        small = held.small;
        outside = refl;
        known = has_for c s b ∙ held.known;
        usable = held.usable;
        alive = seen_for (λ (x : Arena). x.life) c s b ∙ held.alive;
        size = seen_for (λ (x : Arena). length x.words) c s b ∙ held.size;
      } in
      subst (λ (t : State). StandsAt limit c (state_for c s) t (Given b) bytes) (sym state)
      (puts_stand limit c (state_for c s) (Given b) bytes (made_by c more) put mine within alone.0 (own_are c more))

  stand_but : StandBut b (state_in m) (state_in q)
  stand_but =
      let c = m.caller in
      let s = state_in m in
      let t = state_in q in
      let only = stands.elsewhere in
      record {
        names = sym (names_for c t) ∙ only.names ∙ names_for c s;
        arenas = λ x. sym (has_for c t x) ∙ only.arenas x ∙ has_for c s x;
        life = λ x n. sym (seen_for (λ (o : Arena). o.life) c t x) ∙ ap (λ (o : Arena). o.life) (only.others x n) ∙ seen_for (λ (o : Arena). o.life) c s x;
        words = λ x n. sym (seen_for (λ (o : Arena). o.words) c t x) ∙ ap (λ (o : Arena). o.words) (only.others x n) ∙ seen_for (λ (o : Arena). o.words) c s x;
      }

  given_still : given_in (view_of_pass q) b ≡ given_in (view_of_pass m) b
  given_still =
      sym (seen_for (λ (o : Arena). o.given) m.caller (state_in q) b) ∙ stands.given ∙ seen_for (λ (o : Arena). o.given) m.caller (state_in m) b

  bytes_stand : take (length bytes) (bytes_of_arena (state_in q) b) ≡ bytes
  bytes_stand = sym (seen_for (λ (o : Arena). take (length bytes) (bytes_in o.words)) m.caller (state_in q) b) ∙ stands.stand

  known_still : has_arena (state_in q) b ≡ true
  known_still = sym (has_for m.caller (state_in q) b) ∙ stands.held.known

  alive_still : (arena_of (state_in q) b).life ≡ Alive
  alive_still = sym (seen_for (λ (o : Arena). o.life) m.caller (state_in q) b) ∙ stands.held.alive

  size_still : length (words_at (view_of_pass q) b) ≡ words_within (limit_of m.shape)
  size_still = sym (seen_for (λ (o : Arena). length o.words) m.caller (state_in q) b) ∙ stands.held.size

-- ---- the pass that has another arena

-- An arena is held by the pass once it is known to be whole again.
held_then : {pool : Pool} (m q : View) (b : ArenaId) → IsHeld (view_of_pass m) b → IsAlone q.gathered pool q → q.shape ≡ m.shape → q.caller ≡ m.caller
    → has_arena (state_in q) b ≡ true → (arena_of (state_in q) b).life ≡ Alive → length (words_at (view_of_pass q) b) ≡ words_within (limit_of m.shape)
    → IsHeld (view_of_pass q) b
held_then m q b held alone shape caller known alive size = record {
  by_itself = inr alone.whole;
  small = alone.sound.limit;
  outside = alone.outside.outside;
  known = known;
  usable = subst (MayUse b) (sym caller) held.usable;
  alive = alive;
  size = size ∙ ap (λ (z : Shape). words_within (limit_of z)) (sym shape);
}

-- the pass waits for passes to draw, the segment stands, and beside it an arena that has given room
pub record AwaitsBeside (passes most : ℕ) (pool : Pool) (p m : View) (s : Region) (b : ArenaId) : Type 0 where
  pub awaits : Awaits passes pool p m s
  pub held : IsHeld (view_of_pass m) b
  pub given : most ≤ given_in (view_of_pass m) b

module _ {passes most : ℕ} {pool : Pool} {p m q : View} {s : Region} {plan : Plan} {threads : ℕ} {b : ArenaId}
    (w : AwaitsBeside passes most pool p m s b) where
  -- Nobody could be drawn: it waits once more.
  pub still_beside : {r : Result (List Answer) Refusal} → QueriedWith threads m q plan s r → IsOutside pool q → AwaitsBeside passes most pool p q s b
  still_beside queried outside =
      let next = awaits_more w.awaits queried outside in
      let was = w.awaits.stand in
      let now = next.stand in
      let had = w.given in
      let more = queried.lasts.given b in
      record {
        awaits = next;
        held = held_then m q b w.held next.goes.alone (ap (λ (v : View). v.shape) queried.crew.is) (ap (λ (v : View). v.caller) queried.crew.is)
            (now.arenas b ∙ sym (was.arenas b) ∙ w.held.known) (now.life b ∙ sym (was.life b) ∙ w.held.alive)
            (ap length (now.words b ∙ sym (was.words b)) ∙ w.held.size);
        given = omega (arith, had, more);
      }

-- Each arena but one stands as it did before the wait.
stand_since : {s t u : State} {b : ArenaId} → Stand s t → StandBut b t u → StandBut b s u
stand_since first next = record {
  names = next.names ∙ first.names;
  arenas = λ x. next.arenas x ∙ first.arenas x;
  life = λ x n. next.life x n ∙ first.life x;
  words = λ x n. next.words x n ∙ first.words x;
}

-- ---- what a crew and the pass beside it did

module _ {Acts : List Entry → Type 0} {threads : ℕ} {m q : View} {plan : Plan} {s : Region} {result : Result (List Answer) Refusal}
    (asked : AskedBeside Acts threads m q plan s result) where
  -- It is a legal history from there.
  pub reach : Reached m q asked.crew.more
  reach = reached_by {p = m} {q = q} asked.crew.more asked.crew.seen asked.crew.shape asked.crew.sound

  -- Each entry is the pass's own, or one of the crew's.
  pub are_of : {passes : ℕ} {pool : Pool} → IsStockedOf passes pool m s → AreOf m.caller (callers asked.crew.crew) asked.crew.more
  are_of stocked = asked.crew.alone (is_whole stocked)

-- ---- it was answered

module _ {passes : ℕ} {stretch : Stretch} {told : Option Contents} {pool : Pool} {p m q : View} {s : Region} {plan : Plan} {threads : ℕ} {b : ArenaId}
    {Acts : List Entry → Type 0} {a : List Answer} {chunk : Reach} (w : AwaitsBeside passes stretch.most pool p m s b) (other : b ≢ s.arena)
    (room : stretch.most ≤ limit_of pool.shape) (asked : AskedBeside Acts threads m q plan s (Ok a))
    {first : PortionView} (put : PutsStretch stretch told m.caller (Given b) first chunk (made_by m.caller asked.crew.more)) (any : 0 < length first.bytes) (outside : IsOutside pool q) where
  look : OthersLook m.caller asked.crew.more
  look =
      of_all (IsOwnOrLook m.caller) m.caller (callers asked.crew.crew) asked.crew.more (are_of asked w.awaits.stocked)
      (all_weaker (λ (e : Entry). are_one e.caller m.caller ≡ true) (IsOwnOrLook m.caller) (λ e is. inl is) (made_by m.caller asked.crew.more)
      (own_are m.caller asked.crew.more))
      (crew_looks s asked.crew.more m (callers asked.crew.crew) asked.crew.fresh asked.visits)

  -- Only bytes that were given are changed.
  stays : StayBelow b stretch.most asked.crew.more
  stays =
      each_stays b stretch.most asked.crew.more
      (of_all (λ (e : Entry). ChangesBelow b stretch.most e.call e.reply) m.caller (callers asked.crew.crew) asked.crew.more (are_of asked w.awaits.stocked)
      (stay_each b stretch.most (made_by m.caller asked.crew.more)
      (puts_stay m.caller b stretch.most put.bytes (made_by m.caller asked.crew.more) put.put put.cut.within))
      (crew_stays s asked.crew.more b stretch.most (callers asked.crew.crew) asked.visits))

  goes : GoesOn pool m q
  goes =
      let alone = w.awaits.goes.alone in
      let crew = asked.crew in
      record {
        alone = record {
          outside = outside;
          sound = crew.sound;
          whole = crew.whole (is_whole w.awaits.stocked);
          tidy = tidy_on m q crew.more alone.tidy crew.shape crew.seen
              (tidy_alone (limit_of m.shape) stretch.most b (state_in m) crew.more (reach asked).legal w.given stays);
          gathered = refl;
          none_to_end = crew.closes ∙ alone.none_to_end;
          none_to_sweep = crew.sweeps ∙ alone.none_to_sweep;
          no_page = crew.pages ∙ alone.no_page;
        };
        more = crew.more;
        seen = crew.seen;
      }

  fits : length put.bytes ≤ limit_of m.shape
  fits =
      let limits : limit_of m.shape ≡ limit_of pool.shape = ap limit_of w.awaits.goes.alone.outside.of.1 in
      let within = put.cut.within in
      omega (arith, limits, within, room)

  stand : StandBut b (state_in m) (state_in q)
  stand = stand_but asked.crew.more (reach asked) look put.put w.held fits

  still : IsStockedOf passes pool q s
  still =
      let was = w.awaits.stocked in
      let alone = goes.alone in
      record {
        outside = outside;
        sound = alone.sound;
        whole = alone.whole;
        tidy = alone.tidy;
        start = was.start;
        known = asked.known;
        alive = stand.life s.arena (λ is. other (sym is)) ∙ was.alive;
        shared = was.shared;
        passes = ap (λ (z : Shape). z.passes) asked.crew.shape ∙ was.passes;
      }

  is_answer : IsAnswer m plan s (callers asked.crew.crew) asked.crew.more a
  is_answer =
      asked.value (nobody_else s m.caller (callers asked.crew.crew) asked.crew.more (are_of asked w.awaits.stocked)
      (λ place. put_elsewhere s.arena place b other m.caller put.bytes (made_by m.caller asked.crew.more) put.put))

  read : ReadStanding (limit_of q.shape) q.seen plan s (bytes_in_pool p s)
  read = record {
    before = m.seen;
    after = asked.crew.more;
    parts = asked.crew.seen;
    stood = ap (λ (z : Shape). bytes_at_places (state_after (limit_of z) [] m.seen) s) asked.crew.shape ∙ sym (pooled_is m s) ∙ w.awaits.same;
    read = λ word asks.
        are_read plan (callers asked.crew.crew) asked.crew.more w.awaits.stocked asked.crew.fresh is_answer.read word
        (subst (λ bs. AsksWord plan bs s.arena word) (sym w.awaits.same) asks);
  }

  has : HasChunk stretch told (bytes_of_arena (state_in q) b) chunk
  has =
      let all = bytes_of_arena (state_in q) b in
      let within = put.cut.within in
      let count = put.count in
      let more = put.more in
      let is : take chunk.count all ≡ put.bytes =
      ap (λ n. take n all) (sym put.count) ∙ bytes_stand asked.crew.more (reach asked) look put.put w.held fits in
      record {
        cut = subst (λ bs. IsCut stretch.limit stretch.most told stretch.name.now stretch.at bs chunk.ended) (sym is) put.cut;
        some = omega (arith, more, any);
        within = omega (arith, within, count);
      }

  answers : AnswersBeside passes stretch told pool p q s plan b a chunk
  answers =
      let more = asked.crew.more in
      let had = w.given in
      let same = given_still more (reach asked) look put.put w.held fits in
      record {
        goes = goes_then w.awaits.goes goes;
        stocked = still;
        stand = stand_since w.awaits.stand stand;
        value = is_answer.value ∙ ap (answer plan) (sym (pooled_is m s)) ∙ ap (answer plan) w.awaits.same;
        few = asked.few;
        read = read;
        held = held_then m q b w.held goes.alone asked.crew.shape asked.crew.caller (known_still more (reach asked) look put.put w.held fits)
            (alive_still more (reach asked) look put.put w.held fits) (size_still more (reach asked) look put.put w.held fits);
        given = omega (arith, had, same);
        has = has;
      }

module _ {passes : ℕ} {stretch : Stretch} {told : Option Contents} {pool : Pool} {p m q : View} {s : Region} {plan : Plan} {threads : ℕ} {b : ArenaId}
    (w : AwaitsBeside passes stretch.most pool p m s b) (other : b ≢ s.arena) (room : stretch.most ≤ limit_of pool.shape) where
  -- It was answered, and the stretch was put.
  pub answered_beside : {Acts : List Entry → Type 0} (a : List Answer) (first : PortionView) (chunk : Reach) → 0 < length first.bytes → (asked : AskedBeside Acts threads m q plan s (Ok a))
      → ((own : List Entry) → Acts own → PutsStretch stretch told m.caller (Given b) first chunk own) → IsOutside pool q
      → AnswersBeside passes stretch told pool p q s plan b a chunk
  answered_beside a first chunk any asked puts outside = answers w other room asked (puts (made_by m.caller asked.crew.more) asked.crew.acts) any outside
