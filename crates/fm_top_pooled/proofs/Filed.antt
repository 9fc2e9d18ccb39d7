-- A pool's first pass that reads a file into an arena, portion by portion.
use Rattle.std.proofs.Common.{◌≡◌, ℕ, ◌+◌, ◌<◌, ◌≤◌, Bool, true, false, Option, List, [], length, take, Ok, refl, ap, sym, ◌∙◌, subst, ⊎_elim, arith, length-append}
use Rattle.std.proofs.lemmas.Bool.{true_from_ne_false}
use Rattle.std.{specs.Prelude.{◌⊎◌}, proofs.lemmas.List.{take-take}}
use Rattle.fm_base.specs.{declared.{arena_id.ArenaId.{ArenaId}, caller.Caller.{Caller}, kind.Kind.TheVariants.{Shared}, refusal.Refusal.{Refusal}}, Arenas.{State, arena_of}, Calls.{Entry}}
use Rattle.fm_base.specs.{Histories.{state_after}, Outcomes.{Nature}, View.{Did, Makes, given_in}}
use Rattle.fm_base_bytes.specs.Words.{bytes_in}
use Rattle.fm_base_bytes.specs.Bytes.{AreBytes}
use Rattle.fm_segment_access.specs.{Alone.{bytes_of_arena, with_bytes}, Runs.{DoesPutAll}}
use Rattle.fm_segment_laws.proofs.{Putting.{put_all_stays}, Staying.{StayBelow, stay_append}}
use Rattle.fm_rule_calls.specs.Told.{view_of_pass}
use Rattle.fm_gate.specs.Needs.{IsOutside}
use Rattle.fm_io.specs.{Files.{Contents, AreBytesFrom, EndsBefore}}
use Rattle.fm_top_load.specs.{Filled.{Fills, HoldsRoom}, Held.{IsHeld, PutsHeld}, Limits.{record_file_limit}, Portions.{PortionView}, Putting.{ArePut, PutsStretch, none_put, put_more}}
use Rattle.fm_top_load.specs.{Whole.{ByPuts, ByReads, IsCut, IsPortion, IsWhole}, declared.{load_fault.LoadFault.{LoadFault, TheVariants.{Missing, Failed, TooLong, Memory, Ragged, Refused}}, reached.Reached.{Reached}}}
use Rattle.fm_top_load.specs.declared.{room.Room.TheVariants.{Given}, stretch.Stretch.{Stretch}}
use Rattle.fm_top_load.proofs.{FileBytes.{first_to_last}}
use Rattle.fm_rule_facts.specs.Views.{View, IsKnown, IsSound, limit_of, state_in}
use Rattle.fm_records.{proofs.AnsweringBytes.{length-places, places_have}, specs.Alone.{bytes_at_places}}
use Rattle.fm_rule.specs.{declared.pool.Pool.{Pool}, Finishing.{FinishedView, Finishes}, GivenBytes.{given_bytes, state_of}, Passes.{IsOf}}
use Rattle.fm_segment.specs.Region.{Region, region_of}
use Rattle.fm_words.specs.declared.shape.Shape.{Shape}
use Rattle.fm_top_pooled.proofs.Shows.{length-pooled}
use Rattle.fm_top_pooled.specs.Stocked.{HoldsFirst, HoldsWhole, IsLeft, IsLone, IsStock, PutsFile, bytes_in_pool, pool_passes}
use Rattle.fm_top_pooled.proofs.{Filling.{bytes_stand, held_room, only_on, put_lone, stay_lone}, Left.{left_still}, Opening.{knows_none}}
use Rattle.fm_top_pooled.proofs.Quiet.{LendNone, loans_kept, put_all_lends, puts_lend}

-- ---- runs of bytes

-- Portions that are put behind one another stay below where they end.
pub puts_stay : (c : Caller) (a : ArenaId) (end : ℕ) (bytes : List ℕ) (own : List Entry) → ArePut c (Given a) bytes own → length bytes ≤ end → StayBelow a end own
puts_stay c a end bytes own none_put within = tt
puts_stay c a end bytes own (put_more all run before last first are does) within =
    let long = length-append all run in
    stay_append a end before last (puts_stay c a end all before first (omega (arith, long, within)))
    (put_all_stays c a end (length all) run (Ok tt) last are (omega (arith, long, within)) does)

-- ---- what is known

-- a pass that had seen nothing knows one arena, if it opened one
pub one_known : (p q : View) (a : ArenaId) → p.seen ≡ [] → ((b : ArenaId) → IsKnown q b → (b ≡ a) ⊎ IsKnown p b) → (b : ArenaId) → IsKnown q b → b ≡ a
one_known p q a none only b known = ⊎_elim (λ (e : b ≡ a). e) (λ (was : IsKnown p b). absurd (knows_none p b none was)) (only b known)

-- ---- a stock

-- so many of the bytes that an arena has given are one
pub stock_is : {beside : ℕ} {pool : Pool} {p : View} {a : ArenaId} (s : Region) (count : ℕ) → IsLone pool p → IsHeld (view_of_pass p) a → count ≤ given_in (view_of_pass p) a
    → count ≤ limit_of pool.shape → a.kind ≡ Shared → ((b : ArenaId) → IsKnown p b → b ≡ a) → pool.shape.passes ≡ pool_passes → IsLeft beside p
    → s ≡ region_of a 0 count → IsStock beside pool p s
stock_is {beside} {pool} {p} {a} s count lone held given room shared only passes left is =
    subst (λ (r : Region). IsStock beside pool p r) (sym is) (record {
      stocked = record {
        outside = lone.outside;
        sound = lone.sound;
        whole = lone.whole;
        tidy = lone.tidy;
        start = refl;
        known = record { arena = held.known; given = omega (arith, given) };
        alive = held.alive;
        shared = shared;
        passes = ap (λ (z : Shape). z.passes) lone.outside.of.1 ∙ passes;
      };
      lone = lone;
      held = held;
      room = room;
      only = only;
      left = left;
    })

-- and these are its bytes
first_bytes : {pool : Pool} {p : View} {a : ArenaId} (s : Region) (count : ℕ) → IsLone pool p → IsHeld (view_of_pass p) a → count ≤ limit_of pool.shape
    → s ≡ region_of a 0 count → bytes_in_pool p s ≡ take count (bytes_of_arena (state_in p) a)
unfolding bytes_in_pool
first_bytes {pool} {p} {a} s count lone held room is =
    let limit : limit_of p.shape ≡ limit_of pool.shape = ap limit_of lone.outside.of.1 in
    let fits = held_room p a count held (omega (arith, limit, room)) in
    ap (bytes_at_places (state_in p)) is ∙ places_have (state_in p) (region_of a 0 count) (omega (arith, fits))

-- the arena has given all of it
given_all : {beside : ℕ} {pool : Pool} {p : View} {s : Region} → IsStock beside pool p s → s.size ≤ given_in (view_of_pass p) s.arena
given_all {s = s} stock =
    let first = ap (λ (r : Region). r.first) stock.stocked.start in
    let given = stock.stocked.known.given in
    omega (arith, first, given)

-- there is room for a stretch that is as long
pub holds_room : {beside : ℕ} {pool : Pool} {p m : View} {s : Region} {a : ArenaId} (stretch : Stretch) → IsStock beside pool p s → m ≡ p → a ≡ s.arena → stretch.most ≡ s.size
    → HoldsRoom stretch (view_of_pass m) (Given a)
holds_room {beside} {pool} {p} {m} {s} {a} stretch stock at is all =
    let room = stock.room in
    let limit = ap limit_of stock.lone.outside.of.1 in
    let fits : stretch.most ≤ limit_of p.shape = omega (arith, all, room, limit) in
    subst (λ (q : View × ArenaId). IsHeld (view_of_pass q.0) q.1 × (stretch.most ≤ limit_of q.0.shape)) (λ i. (sym at i, sym is i)) (stock.held, fits)

-- ---- bytes that fill it

-- between the pass and its memory
module _ {beside : ℕ} {pool : Pool} {p m q r : View} {s : Region} (stock : IsStock beside pool p s) (at : m ≡ p) (is : r ≡ q) (outside : IsOf pool q → IsOutside pool r) (sound : IsSound r) where
  -- the pool has what it had
  has_passes : pool.shape.passes ≡ pool_passes
  has_passes = ap (λ (z : Shape). z.passes) (sym stock.lone.outside.of.1) ∙ stock.stocked.passes

  has_left : {own : List Entry} → IsLone pool r → Makes (view_of_pass m) (view_of_pass q) own → LendNone own → IsLeft beside r
  has_left lone makes none = left_still (lone.outside.of.1 ∙ sym stock.lone.outside.of.1) (loans_kept stock.lone at makes none is) stock.left

  pub stock_filled : (bytes : List ℕ) → length bytes ≡ s.size → Did (view_of_pass m) (view_of_pass q) (DoesPutAll m.caller s.arena 0 bytes (Ok tt)) → AreBytes bytes
      → PutsHeld (view_of_pass m) (view_of_pass q) s.arena 0 bytes → IsStock beside pool r s × (bytes_in_pool r s ≡ bytes)
  stock_filled bytes all did are puts =
      let a = s.arena in
      let given = given_all stock in
      let start : s ≡ region_of s.arena 0 (length bytes) = stock.stocked.start ∙ ap (region_of a 0) (sym all) in
      let lone = put_lone pool p m q r a bytes stock.lone at did are (omega (arith, all, given)) is outside sound in
      let held : IsHeld (view_of_pass r) s.arena = subst (λ (v : View). IsHeld (view_of_pass v) a) (sym is) puts.held in
      let same = ap (λ (v : View). given_in (view_of_pass v) a) is ∙ puts.given ∙ ap (λ (v : View). given_in (view_of_pass v) a) at in
      let room = stock.room in
      let limit = ap limit_of stock.lone.outside.of.1 in
      let old = held_room p a s.size stock.held (omega (arith, room, limit)) in
      let stand = ap (λ (v : View). bytes_of_arena (state_in v) a) is ∙ puts.stand
      ∙ ap (λ (v : View). with_bytes (bytes_of_arena (state_in v) a) 0 bytes) at in (
        stock_is s (length bytes) lone held (omega (arith, same, given, all)) (omega (arith, room, all)) stock.stocked.shared
            (λ b k. stock.only b (sym ((only_on p m q r a at puts.elsewhere is).arenas b) ∙ k)) has_passes
            (has_left lone did.makes (put_all_lends m.caller a 0 bytes (Ok tt) did.own did.does)) start,
        bytes_stand r a s (bytes_of_arena (state_in p) a) bytes start stand (omega (arith, old, all)),
      )

  -- or a stretch of a file, which may be shorter
  pub stock_put : {nature : Nature} {stretch : Stretch} {told : Option Contents} {first : PortionView} {reached : Reached} (t : Region) → stretch.most ≡ s.size
      → Did (view_of_pass m) (view_of_pass q) (PutsStretch stretch told m.caller (Given s.arena) first reached)
      → Fills nature stretch told (view_of_pass m) (view_of_pass q) (Given s.arena) (Ok reached) → t ≡ region_of s.arena 0 reached.count
      → PutsFile stretch told beside pool r t reached
  stock_put {nature} {stretch} {told} {first} {reached} t all did fills here =
      let a = s.arena in
      let put = did.does in
      let count = put.count in
      let within = put.cut.within in
      let given = given_all stock in
      let had : length put.bytes ≤ given_in (view_of_pass p) s.arena = omega (arith, within, all, given) in
      let lone = stay_lone pool p m q r a (given_in (view_of_pass p) a) did.own stock.lone at did.makes
      (puts_stay m.caller a (given_in (view_of_pass p) a) put.bytes did.own put.put had) (omega arith) is outside sound in
      let held : IsHeld (view_of_pass r) s.arena = subst (λ (v : View). IsHeld (view_of_pass v) a) (sym is) fills.held in
      let same = ap (λ (v : View). given_in (view_of_pass v) a) is ∙ fills.given ∙ ap (λ (v : View). given_in (view_of_pass v) a) at in
      let room = stock.room in
      let fits : reached.count ≤ limit_of pool.shape = omega (arith, count, within, all, room) in
      record {
        stock = stock_is t reached.count lone held (omega (arith, same, had, count)) fits stock.stocked.shared
            (λ b k. stock.only b (sym ((only_on p m q r a at fills.elsewhere is).arenas b) ∙ k)) has_passes
            (has_left lone did.makes (puts_lend m.caller a put.bytes did.own put.put)) here;
        count = ap (λ (x : Region). x.size) here;
        cut = subst (λ (bs : List ℕ). IsCut stretch.limit stretch.most told stretch.name.now stretch.at bs reached.ended)
            (sym (first_bytes t reached.count lone held fits here ∙ ap (λ (v : View). take reached.count (bytes_of_arena (state_in v) a)) is)) fills.stand;
      }

-- ---- what was read

-- all of a file
pub whole_put : {stretch : Stretch} {told : Option Contents} {beside : ℕ} {pool : Pool} {p : View} {s : Region} {reached : Reached}
    → PutsFile stretch told beside pool p s reached → stretch.at ≡ 0 → stretch.limit ≡ record_file_limit → reached.ended ≡ true
    → HoldsWhole told stretch.name.now beside pool p s
whole_put {stretch} {told} {p = p} {s = s} put first limit ended =
    let short = put.cut.short in
    let end : stretch.at + length (bytes_in_pool p s) ≡ length (bytes_in_pool p s) = omega (arith, first) in
    record {
      stock = put.stock;
      whole = first_to_last told stretch.name.now (bytes_in_pool p s) (subst (λ n. AreBytesFrom told stretch.name.now n (bytes_in_pool p s)) first put.cut.bytes_are)
          (subst (EndsBefore told stretch.name.now) end (put.cut.ends ended));
      short = omega (arith, short, limit);
    }

-- or its first bytes
pub first_put : {stretch : Stretch} {told now : Option Contents} {beside : ℕ} {pool : Pool} {p : View} {s : Region} {reached : Reached}
    → PutsFile stretch told beside pool p s reached → stretch.at ≡ 0 → stretch.limit ≡ record_file_limit → now ≡ told
    → HoldsFirst now stretch.name.now beside pool p s
first_put {stretch} {told} {now} {beside} {pool} {p} {s} put first limit same =
    let short = put.cut.short in
    subst (λ (x : Option Contents). HoldsFirst x stretch.name.now beside pool p s) (sym same) (record {
      stock = put.stock;
      first = subst (λ n. AreBytesFrom told stretch.name.now n (bytes_in_pool p s)) first put.cut.bytes_are;
      short = omega (arith, short, limit, length-pooled p s);
    })

-- behind which nothing came
pub first_whole : {most : ℕ} {told : Option Contents} {name : List ℕ} {beside : ℕ} {pool : Pool} {p : View} {s : Region} {next : PortionView}
    → HoldsFirst told name beside pool p s → IsPortion record_file_limit most told name s.size next → 0 < most → length next.bytes ≡ 0
    → HoldsWhole told name beside pool p s
first_whole {most} {told} {name} {p = p} {s = s} {next = next} h portion some none =
    let count = length-pooled p s in
    let short = h.short in
    let ended : next.ended ≡ true = true_from_ne_false next.ended (λ f. let all = portion.full f in omega (arith, all, none, some)) in
    let end : s.size + length next.bytes ≡ length (bytes_in_pool p s) = omega (arith, none, count) in
    record {
      stock = h.stock;
      whole = first_to_last told name (bytes_in_pool p s) h.first (subst (EndsBefore told name) end (portion.ends ended));
      short = omega (arith, short, count);
    }

-- a list of it was put into a pool
pub list_stands : {told : Option Contents} {name bytes : List ℕ} {beside : ℕ} {pool : Pool} {p : View} {s : Region} → IsStock beside pool p s
    → bytes_in_pool p s ≡ bytes → IsWhole told name bytes → length bytes ≤ record_file_limit → HoldsWhole told name beside pool p s
list_stands {told} {name} {bytes} {beside} {pool} {p} {s} stock is whole short = record {
  stock = stock;
  whole = subst (λ (bs : List ℕ). IsWhole told name bs) (sym is) whole;
  short = subst (λ (bs : List ℕ). length bs ≤ record_file_limit) (sym is) short;
}

-- ---- a pool that is taken apart

pub state_left : {pool : Pool} {p : View} {f : FinishedView} → IsLone pool p → Finishes pool p f → state_of f ≡ state_in p
state_left {pool} {p} {f} lone finishes =
    ap (λ (z : Shape). state_after (limit_of z) [] f.history) (finishes.shape ∙ sym lone.outside.of.1)
    ∙ ap (λ (es : List Entry). state_after (limit_of p.shape) [] es) finishes.history

-- the first bytes of those that were given are the arena's first ones
pub taken : (p : View) (f : FinishedView) (a : ArenaId) (count : ℕ) → state_of f ≡ state_in p → count ≤ given_in (view_of_pass p) a
    → take count (given_bytes f a) ≡ take count (bytes_of_arena (state_in p) a)
taken p f a count is within =
    ap (λ (s : State). take count (take (arena_of s a).given (bytes_in (arena_of s a).words))) is
    ∙ take-take count (given_in (view_of_pass p) a) (bytes_of_arena (state_in p) a) within

-- all of a stock's bytes are taken out
pub taken_all : {beside : ℕ} {pool : Pool} {p : View} {s : Region} → IsStock beside pool p s → (f : FinishedView) (a : ArenaId) (n : ℕ) → a ≡ s.arena → n ≡ s.size → state_of f ≡ state_in p
    → take n (given_bytes f a) ≡ bytes_in_pool p s
taken_all {beside} {pool} {p} {s} stock f a n at size is =
    ap (λ (q : ℕ × ArenaId). take q.0 (given_bytes f q.1)) (λ i. (size i, at i)) ∙ taken p f s.arena s.size is (given_all stock)
    ∙ sym (first_bytes s s.size stock.lone stock.held stock.room stock.stocked.start)

-- ---- a fault

-- one that isn't a refusal comes of reads
pub by_reads : (fault : LoadFault) → ByPuts fault → ((r : Refusal) → fault ≡ Refused r → ⊥) → ByReads fault
by_reads Missing by not = tt
by_reads Failed by not = tt
by_reads TooLong by not = tt
by_reads Memory by not = tt
by_reads (Ragged rest) by not = by
by_reads (Refused r) by not = not r refl
