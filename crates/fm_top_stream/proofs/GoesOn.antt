-- A stream goes on by one chunk, and ends.
use Rattle.std.proofs.Common.{◌≡◌, ◌≢◌, ℕ, ◌+◌, ◌%◌, ◌^◌, ◌<◌, ◌≤◌, Bool, true, false, List, [], ◌∷◌, ◌++◌, length, map, take, Option, Some, None, refl, ap, sym, ◌∙◌, subst, inr, ⊎_elim, arith, append_assoc, length-append}
use Rattle.std.{specs.{Prelude.{IfSome}, List.{AllByRecursion, range_with_len}}, proofs.{Math.Nat.{zero-mod}, lemmas.List.{length-take-le}}}
use Rattle.fm_base_bytes.specs.Words.{byte_at, bytes_in}
use Rattle.fm_base_lists.{specs.Among.{IsAmong}, proofs.{Among.{among_either, among_left}, Each.{all_both, all_weaker}}}
use Rattle.fm_base.specs.{declared.{arena_id.ArenaId.{ArenaId}, kind.Kind.TheVariants.{Confined, Shared}}, Arenas.{Arena, arena_of}, Machine.{words_within}}
use Rattle.fm_base.specs.{Calls.{Entry}, Histories.{state_after}}
use Rattle.fm_io.specs.{Files.{Contents, AreBytesFrom, EndsBefore}, View.{FilesView, Leaves}}
use Rattle.fm_rule_calls.specs.Told.{view_of_pass}
use Rattle.fm_rule_facts.specs.Views.{View, IsKnown, limit_of, state_in}
use Rattle.fm_rule.specs.declared.pool.Pool.{Pool}
use Rattle.fm_segment_access.specs.Alone.{bytes_of_arena}
use Rattle.fm_segment.specs.Region.{Region, region_of}
use Rattle.fm_records_query.specs.Plan.{Plan}
use Rattle.fm_records.specs.{declared.found.Found.{Found}, Alone.{bytes_at_places}, Answers.{answer}, Few.{AreFew}, Joined.{CanJoin, joined}}
use Rattle.fm_records.proofs.{AnsweringBytes.{places_have}, Few.{few_join}, Joining.{answer-append}}
use Rattle.fm_words.specs.declared.shape.Shape.{Shape}
use Rattle.fm_top_load.specs.{declared.{load_fault.LoadFault.{LoadFault, TheVariants.{Ragged}}, stretch.Stretch.{Stretch}}, Held.{IsHeld, OnlyIn, names_in}, Portions.{PortionView}}
use Rattle.fm_top_load.specs.Whole.{IsCut, IsPortion, IsWhole}
use Rattle.fm_top_load.{specs.Records.{IsRest, TellsRecords}, proofs.{FileBytes.{first_to_last}, Telling.{tells_rest}}}
use Rattle.fm_top_pooled.{specs.Stocked.{IsAlone, IsStockedOf, bytes_in_pool}, proofs.Filling.{held_room}}
use Rattle.fm_top_pooled.proofs.Shows.{pooled_is}
use Rattle.fm_top_stream.specs.{Chunks.{all_bytes}, Gone.{CanAnswer, CanAsk, CanTakeChunk, GoesByChunk, GoneSoFar, GoneThrough, HasGone, HasNext}}
use Rattle.fm_top_stream.specs.{declared.{under_way.UnderWay.{UnderWay}, placed.Placed.{Placed}}, Shown.{ReadStanding, ShowsChunk}}
use Rattle.fm_top_stream.specs.Steps.{AnswersOn, CanClose, Closes, GoesOn, StandsIn, arenas_of}
use Rattle.fm_top_stream.proofs.Runs.{all_more, count_more, cut_more, cut_whole, even_all, even_sum, first_more, is_ragged, whole_file, whole_more}
use Rattle.fm_top_stream.proofs.Standing.{all_shown, all_zip_more, named_known, still_read}

-- ---- the stream so far

-- No chunk has gone through.
pub gone_none : {told : Option Contents} {name : List ℕ} {most : ℕ} {pool : Pool} {v : View} {p : Plan} {a : List Found} → IsAlone v.gathered pool v
    → v.seen ≡ [] → a ≡ answer p [] → AreFew 0 p a → AreBytesFrom told name 0 [] → GoneSoFar told name most 0 pool v p [] a
gone_none {v = v} {p = p} alone none is few first = record {
  runs = [];
  gone = record {
    alone = alone;
    value = is;
    few = few;
    ids = [];
    chunks = tt;
    names = ap (λ (es : List Entry). names_in (state_after (limit_of v.shape) [] es)) none;
    apart = tt;
  };
  whole = tt;
  count = refl;
  first = first;
}

-- An arena that showed a chunk is known.
pub shown_known : {pool : Pool} {v : View} {p : Plan} {behind : List ArenaId} {runs : List (List ℕ)} {a : List Found} (gone : HasGone pool v p behind runs a)
    (id : ArenaId) → IsAmong id gone.ids → IsKnown v id
shown_known {v = v} {behind = behind} gone id i =
    named_known (state_in v) id (subst (λ ns. IsAmong id ns) (sym gone.names) (among_left id gone.ids behind i))

module _ {pool : Pool} {v w : View} {p : Plan} {behind : List ArenaId} {runs : List (List ℕ)} {a : List Found} where
  -- Arenas were opened behind all others, which are as they were.
  pub gone_behind : (new : List ArenaId) → HasGone pool v p behind runs a → GoesOn pool v w
      → ((b : ArenaId) → IsKnown v b → (arena_of (state_in w) b).life ≡ (arena_of (state_in v) b).life)
      → ((b : ArenaId) → IsKnown v b → (arena_of (state_in w) b).words ≡ (arena_of (state_in v) b).words)
      → names_in (state_in w) ≡ names_in (state_in v) ++ new → AllByRecursion (λ b. ¬ (IsKnown v b)) new → HasGone pool w p (behind ++ new) runs a
  gone_behind new gone goes life words names unknown = record {
    alone = goes.alone;
    value = gone.value;
    few = gone.few;
    ids = gone.ids;
    chunks = all_shown v w p gone.ids runs goes.more (goes.alone.outside.of.1 ∙ sym gone.alone.outside.of.1) goes.seen
        (λ b i. life b (shown_known gone b i)) (λ b i. words b (shown_known gone b i)) gone.chunks;
    names = names ∙ ap (λ ns. ns ++ new) gone.names ∙ append_assoc gone.ids behind new;
    apart = all_both (λ id. ¬ (IsAmong id gone.ids)) behind new gone.apart
        (all_weaker (λ b. ¬ (IsKnown v b)) (λ b. ¬ (IsAmong b gone.ids)) (λ b not i. not (shown_known gone b i)) new unknown);
  }

module _ {told : Option Contents} {name : List ℕ} {most at : ℕ} {pool : Pool} {v : View} {p : Plan} {behind : List ArenaId} {was : List Found}
    (so_far : GoneSoFar told name most at pool v p behind was) where
  pub even_so_far : 0 < p.size → most % p.size ≡ 0 → length (all_bytes so_far.runs) % p.size ≡ 0
  even_so_far some even = even_all most p.size so_far.runs even (zero-mod p.size) so_far.whole

  -- The same chunks, in the pool as it is later.
  pub gone_later : {w : View} {then : List ArenaId} → HasGone pool w p then so_far.runs was → GoneSoFar told name most at pool w p then was
  gone_later gone = record { runs = so_far.runs; gone = gone; whole = so_far.whole; count = so_far.count; first = so_far.first }

  module _ {z : View} {then : List ArenaId} {bytes : List ℕ} {now : List Found} {limit : ℕ} {ended : Bool} (gone : HasGone pool z p then (so_far.runs ++ bytes ∷ []) now)
      (cut : IsCut limit most told name at bytes ended) where
    -- One chunk more, which isn't the last.
    pub gone_more : ended ≡ false → GoneSoFar told name most (at + length bytes) pool z p then now
    gone_more goes =
        let all = all_more so_far.runs bytes in
        record {
          runs = so_far.runs ++ bytes ∷ [];
          gone = gone;
          whole = whole_more most so_far.runs bytes so_far.whole (cut.full goes);
          count = ap length all ∙ count_more bytes cut (all_bytes so_far.runs) so_far.count so_far.first;
          first = subst (AreBytesFrom told name 0) (sym all) (first_more bytes cut (all_bytes so_far.runs) so_far.count so_far.first);
        }

  module _ {z : View} {bytes : List ℕ} {now : List Found} {limit : ℕ} {ended : Bool} (gone : HasGone pool z p [] (so_far.runs ++ bytes ∷ []) now)
      (cut : IsCut limit most told name at bytes ended) where
    -- The last one.
    pub gone_last : EndsBefore told name (at + length bytes) → 0 < length bytes → 0 < p.size → most % p.size ≡ 0 → length bytes % p.size ≡ 0
        → GoneThrough limit told name most pool z p now
    gone_last ends any some even whole =
        let all = all_more so_far.runs bytes in
        record {
          runs = so_far.runs ++ bytes ∷ [];
          gone = gone;
          cut = cut_more most so_far.runs bytes so_far.whole any cut.within;
          short = (let count = ap length all ∙ count_more bytes cut (all_bytes so_far.runs) so_far.count so_far.first in let short = cut.short in omega (arith, count, short));
          is_file = subst (IsWhole told name) (sym all) (whole_file bytes cut (all_bytes so_far.runs) so_far.count so_far.first ends);
          even = ap (λ bs. length bs % p.size) all ∙ ap (λ n. n % p.size) (length-append (all_bytes so_far.runs) bytes)
              ∙ even_sum (length (all_bytes so_far.runs)) (length bytes) p.size (even_so_far some even) whole;
        }

-- The file is empty.
pub empty_file : {told : Option Contents} {name : List ℕ} {most : ℕ} {pool : Pool} {v : View} {p : Plan} {a : List Found} {limit : ℕ}
    (so_far : GoneSoFar told name most 0 pool v p [] a) → 0 < most → 0 < p.size → most % p.size ≡ 0 → EndsBefore told name 0
    → GoneThrough limit told name most pool v p a
empty_file {told = told} {name = name} {most = most} so_far any some even ends = record {
  runs = so_far.runs;
  gone = so_far.gone;
  cut = cut_whole most so_far.runs any so_far.whole;
  is_file = first_to_last told name (all_bytes so_far.runs) so_far.first (subst (EndsBefore told name) (sym so_far.count) ends);
  short = (let count = so_far.count in omega (arith, count));
  even = even_so_far so_far some even;
}

-- ---- a chunk that stands in its arena

-- The next chunk's arena was not known before.
pub unknown_next : (P : ArenaId → Type 0) (Q : Placed → Type 0) (next : Option Placed) → IfSome next (λ x. P x.arena × Q x) → AllByRecursion P (arenas_of next)
unknown_next P Q None h = tt
unknown_next P Q (Some x) h = (h.0, tt)

module _ {limit most at : ℕ} {told : Option Contents} {name : List ℕ} {pool : Pool} {v : View} {x : Placed} (alone : IsAlone v.gathered pool v)
    (room : most ≤ limit_of pool.shape) (stands : StandsIn limit most told name at v x) where
  abbrev pub chunk_bytes : List ℕ
  chunk_bytes = take x.chunk.count (bytes_of_arena (state_in v) x.arena)

  fits : x.chunk.count ≤ length (bytes_of_arena (state_in v) x.arena)
  fits =
      let limits : limit_of v.shape ≡ limit_of pool.shape = ap limit_of alone.outside.of.1 in
      let within = stands.within in
      held_room v x.arena x.chunk.count stands.held (omega (arith, limits, within, room))

  pub long : length chunk_bytes ≡ x.chunk.count
  long = length-take-le x.chunk.count (bytes_of_arena (state_in v) x.arena) fits

  -- It is a stock of the pool.
  pub is_stocked : (s : Region) → s ≡ region_of x.arena 0 x.chunk.count → IsStockedOf v.shape.passes pool v s
  is_stocked s is =
      let given = stands.given in
      let within = stands.within in
      subst (λ (r : Region). IsStockedOf v.shape.passes pool v r) (sym is) (record {
        outside = alone.outside;
        sound = alone.sound;
        whole = alone.whole;
        tidy = alone.tidy;
        start = refl;
        known = record { arena = stands.held.known; given = omega (arith, given, within) };
        alive = stands.held.alive;
        shared = stands.shared;
        passes = refl;
      })

  pub bytes_are : (s : Region) → s ≡ region_of x.arena 0 x.chunk.count → bytes_in_pool v s ≡ chunk_bytes
  bytes_are s is =
      let all = fits in
      pooled_is v s ∙ ap (bytes_at_places (state_in v)) is ∙ places_have (state_in v) (region_of x.arena 0 x.chunk.count) (omega (arith, all))

  module _ {passes : ℕ} {stretch : Stretch} {y : View} {s : Region} {plan : Plan} {found : List Found} {next : Option Placed}
      (is : s ≡ region_of x.arena 0 x.chunk.count) (answers : AnswersOn passes stretch told pool v y s plan found next) where
    -- Its arena can be closed.
    pub can_close : CanClose pool y x.arena
    can_close =
        let at : s.arena ≡ x.arena = ap (λ (r : Region). r.arena) is in
        record {
          alone = answers.goes.alone;
          known = subst (λ a. IsKnown y a) at answers.stocked.known.arena;
          alive = answers.life x.arena stands.held.known ∙ stands.held.alive;
          shared = stands.shared;
        }

    module _ {z : View} (closes : Closes pool y z x.arena) where
      -- It shows what it had.
      pub shown : ShowsChunk (limit_of z.shape) (state_in z) z.seen plan x.arena chunk_bytes
      shown =
          let words : (arena_of (state_in z) x.arena).words ≡ (arena_of (state_in v) x.arena).words = closes.words ∙ answers.words x.arena stands.held.known in
          let region : region_of x.arena 0 (length chunk_bytes) ≡ s = ap (λ n. region_of x.arena 0 n) long ∙ sym is in
          let limit : limit_of y.shape ≡ limit_of z.shape = ap limit_of (answers.goes.alone.outside.of.1 ∙ sym closes.goes.alone.outside.of.1) in
          record {
            ended = closes.ended;
            stand = ap (λ (ws : List ℕ). map (byte_at ws) (range_with_len 0 (length chunk_bytes))) words
                ∙ ap (bytes_at_places (state_in v)) region ∙ sym (pooled_is v s) ∙ bytes_are s is;
            read = still_read closes.goes.more closes.goes.seen
                (subst (λ (q : ℕ × Region × List ℕ). ReadStanding q.0 y.seen plan q.1 q.2) (λ i. (limit i, sym region i, bytes_are s is i)) answers.read);
          }

      -- The runs go on by it, and so does the answer.
      pub gone_on : (runs : List (List ℕ)) (was : List Found) → HasGone pool v plan (x.arena ∷ []) runs was → 0 < plan.size
          → length (all_bytes runs) % plan.size ≡ 0 → length (all_bytes runs) + x.chunk.count ≤ 2 ^ 62
          → CanJoin was found × HasGone pool z plan (arenas_of next) (runs ++ chunk_bytes ∷ []) (joined was found)
      gone_on runs was gone some even small =
          let all : all_bytes (runs ++ chunk_bytes ∷ []) ≡ all_bytes runs ++ chunk_bytes = all_more runs chunk_bytes in
          let size : s.size ≡ length chunk_bytes = ap (λ (r : Region). r.size) is ∙ sym long in
          let joins = few_join plan (length (all_bytes runs)) s.size was found gone.few answers.few (let n = ap (λ (r : Region). r.size) is in omega (arith, n, small)) in
          let count : length (all_bytes runs) + s.size ≡ length (all_bytes (runs ++ chunk_bytes ∷ [])) =
          ap (λ n. length (all_bytes runs) + n) size ∙ sym (length-append (all_bytes runs) chunk_bytes) ∙ ap length (sym all) in
          let unknown = unknown_next (λ b. ¬ (IsKnown v b)) (λ n. StandsIn stretch.limit stretch.most told stretch.name.now stretch.at y n) next answers.stands in
          let mid : HasGone pool y plan (x.arena ∷ arenas_of next) runs was =
          gone_behind (arenas_of next) gone answers.goes answers.life answers.words answers.names unknown in
          let other : (b : ArenaId) → IsAmong b mid.ids → b ≢ x.arena = λ b i e. mid.apart.0 (subst (λ (a : ArenaId). IsAmong a mid.ids) e i) in
          let kept = all_shown y z plan mid.ids runs closes.goes.more
          (closes.goes.alone.outside.of.1 ∙ sym answers.goes.alone.outside.of.1) closes.goes.seen (λ b i. ap (λ o. o.life) (closes.elsewhere.others b (other b i)))
          (λ b i. ap (λ o. o.words) (closes.elsewhere.others b (other b i))) mid.chunks in (
            joins.can,
            record {
              alone = closes.goes.alone;
              value = ap (λ b. joined b found) gone.value ∙ ap (joined (answer plan (all_bytes runs))) (answers.value ∙ ap (answer plan) (bytes_are s is))
                  ∙ answer-append plan (all_bytes runs) chunk_bytes some even ∙ ap (answer plan) (sym all);
              few = subst (λ n. AreFew n plan (joined was found)) count joins.few;
              ids = mid.ids ++ x.arena ∷ [];
              chunks = all_zip_more (ShowsChunk (limit_of z.shape) (state_in z) z.seen plan) mid.ids runs x.arena chunk_bytes kept shown;
              names = closes.elsewhere.names ∙ mid.names ∙ sym (append_assoc mid.ids (x.arena ∷ []) (arenas_of next));
              apart = apart_behind mid.ids x.arena (arenas_of next) mid.apart.1
                  (all_weaker (λ b. ¬ (IsKnown v b)) (λ b. b ≢ x.arena) (λ b not e. not (subst (λ (a : ArenaId). IsKnown v a) (sym e) stands.held.known)) (arenas_of next)
                  unknown);
            },
          )
        where
          apart_behind : (ids : List ArenaId) (a : ArenaId) (ns : List ArenaId) → AllByRecursion (λ id. ¬ (IsAmong id ids)) ns → AllByRecursion (λ id. id ≢ a) ns
              → AllByRecursion (λ id. ¬ (IsAmong id (ids ++ a ∷ []))) ns
          apart_behind ids a [] h k = tt
          apart_behind ids a (n ∷ ns) h k = (
            (λ i. ⊎_elim (λ (j : IsAmong n ids). h.0 j) (λ (j : IsAmong n (a ∷ [])). ⊎_elim (λ (e : n ≡ a). k.0 e) (λ (f : ⊥). f) j) (among_either n ids (a ∷ []) i)),
            apart_behind ids a ns h.1 k.1,
          )

-- ---- and the next one

-- An arena is held still by a pass that is known to be whole.
pub held_still : {pool : Pool} {v w : View} {a : ArenaId} → IsHeld (view_of_pass v) a → a.kind ≡ Shared → IsAlone v.gathered pool v → IsAlone w.gathered pool w → IsKnown w a
    → (arena_of (state_in w) a).life ≡ (arena_of (state_in v) a).life → (arena_of (state_in w) a).words ≡ (arena_of (state_in v) a).words
    → IsHeld (view_of_pass w) a
held_still {v = v} {w = w} {a = a} held shared before now known life words =
    let shape : w.shape ≡ v.shape = now.outside.of.1 ∙ sym before.outside.of.1 in
    record {
      by_itself = inr now.whole;
      small = subst (λ (z : Shape). limit_of z ≤ 2 ^ 40) (sym shape) held.small;
      outside = now.outside.outside;
      known = known;
      usable = λ e. let no : Confined ≡ Shared = sym e ∙ shared in absurd (cc);
      alive = life ∙ held.alive;
      size = ap length words ∙ held.size ∙ ap (λ (z : Shape). words_within (limit_of z)) (sym shape);
    }

-- A chunk stands still while the pool's other arenas change.
pub stands_still : {limit most at : ℕ} {told : Option Contents} {name : List ℕ} {pool : Pool} {v w : View} {a : ArenaId} {x : Placed}
    → StandsIn limit most told name at v x → x.arena ≢ a → GoesOn pool v w → IsAlone v.gathered pool v → OnlyIn a (state_in v) (state_in w)
    → StandsIn limit most told name at w x
stands_still {limit} {most} {at} {told} {name} {v = v} {w = w} {x = x} stands other goes before only =
    let same : arena_of (state_in w) x.arena ≡ arena_of (state_in v) x.arena = only.others x.arena other in
    record {
      held = held_still stands.held stands.shared before goes.alone (only.arenas x.arena ∙ stands.held.known) (ap (λ o. o.life) same) (ap (λ o. o.words) same);
      given = subst (λ (o : Arena). most ≤ o.given) (sym same) stands.given;
      shared = stands.shared;
      cut = subst (λ (o : Arena). IsCut limit most told name at (take x.chunk.count (bytes_in o.words)) x.chunk.ended) (sym same) stands.cut;
      some = stands.some;
      within = stands.within;
    }

-- A chunk can be answered over, once the first portion behind it was read.
pub can_answer : {stretch : Stretch} {told now : Option Contents} {threads : ℕ} {p : Plan} {pool : Pool} {g : UnderWay} {x : Placed} {s : Region}
    {first : PortionView} → CanTakeChunk stretch told threads p pool g x → s ≡ region_of x.arena 0 x.chunk.count → now ≡ told
    → IsPortion stretch.limit stretch.most told stretch.name.now stretch.at first → CanAnswer stretch now threads p pool g.pass s first
can_answer {stretch = stretch} {p = p} {s = s} {first = first} can is same next =
    let alone = can.has.gone.gone.alone in
    record {
      asks = can.asks;
      alone = alone;
      stocked = is_stocked alone can.asks.room can.has.stands s is;
      even = (λ j. (is j).size % p.size) ∙ can.even;
      read = can.read;
      next = subst (λ (x : Option Contents). IsPortion stretch.limit stretch.most x stretch.name.now stretch.at first) (sym same) next;
    }

module _ {stretch : Stretch} {told : Option Contents} {threads : ℕ} {p : Plan} {pool : Pool} {g : UnderWay} {x : Placed} (can : CanTakeChunk stretch told threads p pool g x)
    {y z : View} {s : Region} {found : List Found} {next : Option Placed} (is : s ≡ region_of x.arena 0 x.chunk.count)
    (answers : AnswersOn g.pass.shape.passes stretch told pool g.pass y s p found next) (closes : Closes pool y z x.arena) where
  room : stretch.most ≤ limit_of pool.shape
  room = can.asks.room

  alone : IsAlone g.pass.gathered pool g.pass
  alone = can.has.gone.gone.alone

  stands : StandsIn stretch.limit stretch.most told stretch.name.now can.from g.pass x
  stands = can.has.stands

  on : CanJoin g.answer found × HasGone pool z p (arenas_of next) (can.has.gone.runs ++ chunk_bytes alone room stands ∷ []) (joined g.answer found)
  on =
      let so_far = can.has.gone in
      let count = so_far.count in
      let at = can.at in
      let short = can.read.short in
      let small = can.read.small in
      gone_on alone room stands is answers closes so_far.runs g.answer so_far.gone can.asks.sized (even_so_far so_far can.asks.sized can.asks.even)
      (omega (arith, count, at, short, small))

  pub next_joins : CanJoin g.answer found
  next_joins = on.0

  -- The next one stands, or the file was gone through.
  pub goes_by : (h : UnderWay) → h.pass ≡ z → h.answer ≡ joined g.answer found
      → IfSome next (λ n. x.chunk.ended ≡ false) → GoesByChunk stretch told p pool h next
  goes_by h here same more =
      let so_far = can.has.gone in
      let bytes = chunk_bytes alone room stands in
      let count : length bytes ≡ x.chunk.count = long alone room stands in
      let at : can.from + length bytes ≡ stretch.at = ap (λ n. can.from + n) count ∙ can.at in
      let gone : HasGone pool h.pass p (arenas_of next) (so_far.runs ++ bytes ∷ []) h.answer =
      subst (λ (v : View). HasGone pool v p (arenas_of next) (so_far.runs ++ bytes ∷ []) h.answer) (sym here)
      (subst (HasGone pool z p (arenas_of next) (so_far.runs ++ bytes ∷ [])) (sym same) on.1) in
      record {
        on = on_next next gone answers.stands more;
        ends = λ none. gone_last so_far (subst (λ (n : Option Placed). HasGone pool h.pass p (arenas_of n) (so_far.runs ++ bytes ∷ []) h.answer) none gone) stands.cut
            (subst (EndsBefore told stretch.name.now) (sym at) (answers.ended none)) (let some = stands.some in omega (arith, count, some)) can.asks.sized can.asks.even
            (ap (λ n. n % p.size) count ∙ can.even);
      }
    where
      on_next : (n : Option Placed) → HasGone pool h.pass p (arenas_of n) (can.has.gone.runs ++ chunk_bytes alone room stands ∷ []) h.answer
          → IfSome n (λ k. (¬ (IsKnown g.pass k.arena)) × StandsIn stretch.limit stretch.most told stretch.name.now stretch.at y k) → IfSome n (λ k. x.chunk.ended ≡ false)
          → IfSome n (HasNext stretch.limit stretch.most told stretch.name.now stretch.at p pool h)
      on_next None gone new more = tt
      on_next (Some k) gone new more =
          let count : length (chunk_bytes alone room stands) ≡ x.chunk.count = long alone room stands in
          let at : can.from + length (chunk_bytes alone room stands) ≡ stretch.at = ap (λ n. can.from + n) count ∙ can.at in
          let other : k.arena ≢ x.arena = λ e. new.0 (subst (λ (a : ArenaId). IsKnown g.pass a) (sym e) stands.held.known) in
          record {
            gone = subst (λ n. GoneSoFar told stretch.name.now stretch.most n pool h.pass p (k.arena ∷ []) h.answer) at (gone_more can.has.gone gone stands.cut more);
            stands = subst (λ (v : View). StandsIn stretch.limit stretch.most told stretch.name.now stretch.at v k) (sym here)
                (stands_still new.1 other closes.goes answers.goes.alone closes.elsewhere);
          }

-- Where a next chunk begins the file didn't end before it.
pub goes_on : (ended : Bool) (count : ℕ) (next : Option Placed) → IfSome next (λ n. 0 < count) → (ended ≡ true → count ≡ 0) → IfSome next (λ n. ended ≡ false)
goes_on ended count None some none = tt
goes_on true count (Some n) some none = absurd (let zero = none refl in omega (arith, some, zero))
goes_on false count (Some n) some none = refl

-- The chunk ends within the limit.
pub ends_within : {limit most at : ℕ} {told : Option Contents} {name : List ℕ} {p : Plan} {pool : Pool} {g : UnderWay} {x : Placed} {threads : ℕ}
    (has : HasNext limit most told name at p pool g x) → CanAsk most threads p pool → at + x.chunk.count ≤ limit
ends_within has asks =
    let count = long has.gone.gone.alone asks.room has.stands in
    let short = has.stands.cut.short in
    omega (arith, count, short)

-- The chunk leaves a rest, so it is the file's last.
pub tells_chunk : {limit most at threads : ℕ} {old new : FilesView} {name : List ℕ} {p : Plan} {pool : Pool} {g : UnderWay} {x : Placed} {fault : LoadFault} (size : ℕ)
    (has : HasNext limit most old.holds name at p pool g x) → CanAsk most threads p pool → Leaves ⊥ ⊥ old new → size ≡ p.size → IsRest x.chunk.count size fault
    → TellsRecords limit old new name p.size (Some fault)
tells_chunk {limit} {old = old} {new = new} {name = name} {p = p} {g = g} {x = x} size has asks left same rest =
    let bytes = chunk_bytes has.gone.gone.alone asks.room has.stands in
    let count : length bytes ≡ x.chunk.count = long has.gone.gone.alone asks.room has.stands in
    let some : 0 < x.chunk.count % p.size = subst (λ n. 0 < x.chunk.count % n) same rest.some in
    subst (λ (f : LoadFault). TellsRecords limit old new name p.size (Some f)) (sym (rest.is ∙ ap (λ n. Ragged (x.chunk.count % n)) same))
    (tells_rest left (is_ragged bytes has.stands.cut (all_bytes has.gone.runs) has.gone.count has.gone.first p (x.chunk.count % p.size)
    (even_so_far has.gone asks.sized asks.even) asks.even (ap (λ n. n % p.size) (sym count)) some))
