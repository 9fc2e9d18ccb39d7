-- A pool's first pass that puts bytes into an arena that it opened.
use Rattle.std.{proofs.Common.{◌≡◌, ℕ, ◌+◌, ◌≤◌, List, ◌++◌, length, take, drop, Ok, refl, ap, sym, ◌∙◌, subst, inr, arith}, specs.Prelude.{◌⊎◌}}
use Rattle.std.proofs.Math.Seq.{take-append_seam}
use Rattle.fm_base.specs.{declared.{arena_id.ArenaId.{ArenaId}, kind.Kind.TheVariants.{Shared}}, Arenas.{State}, Calls.{Entry}, Finds.{Gathered, Rest}}
use Rattle.fm_base.specs.{Histories.{IsLegal, IsTidy}, View.{Did, Makes, given_in}}
use Rattle.fm_base_bytes.{specs.Bytes.{AreBytes}, proofs.Words.{length-bytes_in}}
use Rattle.fm_segment_access.{specs.{Alone.{bytes_of_arena, with_bytes}, Runs.{DoesPutAll}}, proofs.Splicing.{keeps_count}}
use Rattle.fm_segment_laws.proofs.{Staying.{StayBelow, tidy_alone}, Putting.{put_all_stays}}
use Rattle.fm_arena.proofs.Lasting.{keeps as pool_keeps}
use Rattle.fm_rule_calls.specs.Told.{view_of_pass}
use Rattle.fm_gate.specs.Needs.{IsOutside}
use Rattle.fm_top_load.specs.Held.{IsHeld, OnlyIn, words_at}
use Rattle.fm_rule_facts.specs.Views.{View, IsKnown, IsSound, limit_of, state_in}
use Rattle.fm_records.{specs.Alone.{bytes_at_places}, proofs.AnsweringBytes.{places_have}}
use Rattle.fm_rule.specs.{declared.pool.Pool.{Pool}, Passes.{IsOf}}
use Rattle.fm_segment.specs.Region.{Region, region_of}
use Rattle.fm_words.specs.declared.shape.Shape.{Shape}
use Rattle.fm_top_pooled.{specs.Stocked.{HasOpened, IsAlone, IsStockedOf, KeepsArenas, bytes_in_pool}, proofs.Tidying.{tidy_on}}

-- ---- calls of a memory

-- the pass is one of the pool still
pub still_of : (pool : Pool) (p q : View) (own : List Entry) → Makes (view_of_pass p) (view_of_pass q) own → IsOf pool p → IsOf pool q
still_of pool p q own makes of = pool_keeps.of pool p q (pool_keeps.stays p q own makes) of

-- and by itself, where its entries were tidy
lone_on : {gs : List Gathered} (pool : Pool) (p q : View) (own : List Entry) → IsAlone gs pool p → Makes (view_of_pass p) (view_of_pass q) own
    → IsTidy (limit_of p.shape) (state_in p) own → IsOutside pool q → IsSound q → IsAlone gs pool q
lone_on pool p q own lone makes tidy outside sound = record {
  outside = outside;
  sound = sound;
  whole = ap (λ (x : Rest). x.whole) makes.told.rest ∙ lone.whole;
  tidy = tidy_on p q own lone.tidy (outside.of.1 ∙ sym lone.outside.of.1)
      (makes.told.seen ∙ ap (λ (es : List Entry). p.seen ++ es) (makes.alone (inr lone.whole))) tidy;
  gathered = ap (λ (x : Rest). x.gathered) makes.told.rest ∙ lone.gathered;
  none_to_end = ap (λ (x : Rest). x.closes) makes.told.rest ∙ lone.none_to_end;
  none_to_sweep = ap (λ (x : Rest). x.sweeps) makes.told.rest ∙ lone.none_to_sweep;
  no_page = ap (λ (x : Rest). x.pages) makes.told.rest ∙ lone.no_page;
}

own_legal : {gs : List Gathered} (pool : Pool) (p q : View) (own : List Entry) → IsAlone gs pool p → (makes : Makes (view_of_pass p) (view_of_pass q) own)
    → IsLegal (limit_of p.shape) (state_in p) own
own_legal pool p q own lone makes =
    subst (λ (es : List Entry). IsLegal (limit_of p.shape) (state_in p) es) (makes.alone (inr lone.whole)) makes.legal

-- after entries that stay below what was given
pub stay_lone : {gs : List Gathered} (pool : Pool) (p m q r : View) (a : ArenaId) (end : ℕ) (own : List Entry) → IsAlone gs pool p → m ≡ p
    → (makes : Makes (view_of_pass m) (view_of_pass q) own) → StayBelow a end own → end ≤ given_in (view_of_pass p) a
    → r ≡ q → (IsOf pool q → IsOutside pool r) → IsSound r → IsAlone gs pool r
stay_lone {gs = gs} pool p m q r a end own lone at made stays given is outside sound =
    let lone_m : IsAlone gs pool m = subst (λ (v : View). IsAlone gs pool v) (sym at) lone in
    let makes : Makes (view_of_pass m) (view_of_pass r) own = subst (λ (v : View). Makes (view_of_pass m) (view_of_pass v) own) (sym is) made in
    let room : end ≤ given_in (view_of_pass m) a = subst (λ (v : View). end ≤ given_in (view_of_pass v) a) (sym at) given in
    lone_on pool m r own lone_m makes
    (tidy_alone (limit_of m.shape) end a (state_in m) own (own_legal pool m q own lone_m made) room stays)
    (outside (still_of pool m q own made lone_m.outside.of)) sound

-- after bytes were put that were given
pub put_lone : {gs : List Gathered} (pool : Pool) (p m q r : View) (a : ArenaId) (bytes : List ℕ) → IsAlone gs pool p → m ≡ p
    → Did (view_of_pass m) (view_of_pass q) (DoesPutAll m.caller a 0 bytes (Ok tt)) → AreBytes bytes → length bytes ≤ given_in (view_of_pass p) a
    → r ≡ q → (IsOf pool q → IsOutside pool r) → IsSound r → IsAlone gs pool r
put_lone pool p m q r a bytes lone at did are given is outside sound =
    stay_lone pool p m q r a (length bytes) did.own lone at did.makes
    (put_all_stays m.caller a (length bytes) 0 bytes (Ok tt) did.own are (omega arith) did.does) given is outside sound

-- ---- what stands in the arena

-- the bytes that were put at its start
pub stood : (s : State) (a : ArenaId) (all bytes : List ℕ) → bytes_of_arena s a ≡ with_bytes all 0 bytes → length bytes ≤ length all
    → bytes_at_places s (region_of a 0 (length bytes)) ≡ bytes
stood s a all bytes is fits =
    let rest = drop (0 + length bytes) all in
    let count : length (bytes_of_arena s a) ≡ length all = ap length is ∙ keeps_count all bytes 0 (omega (arith, fits)) in
    places_have s (region_of a 0 (length bytes)) (omega (arith, count, fits)) ∙ ap (take (length bytes)) is ∙ take-append_seam bytes rest

-- what was known stays, where the new arena alone is changed
pub only_keeps : (p q r : View) (a : ArenaId) → ¬ (IsKnown p a) → KeepsArenas p q → OnlyIn a (state_in q) (state_in r) → KeepsArenas p r
only_keeps p q r a unknown keeps only = record {
  known = λ b k. only.arenas b ∙ keeps.known b k;
  same = λ b k. only.others b (λ is. unknown (subst (λ (x : ArenaId). IsKnown p x) is k)) ∙ keeps.same b k;
}

pub stocked : {gs : List Gathered} {n : ℕ} (pool : Pool) (p q : View) (a : ArenaId) (s : Region) (bytes : List ℕ) → IsAlone gs pool q → IsHeld (view_of_pass q) a
    → given_in (view_of_pass q) a ≡ length bytes → a.kind ≡ Shared → pool.shape.passes ≡ n → s ≡ region_of a 0 (length bytes) → IsStockedOf n pool q s
stocked {n = n} pool p q a s bytes lone held given shared passes is =
    subst (λ (r : Region). IsStockedOf n pool q r) (sym is) (record {
      outside = lone.outside;
      sound = lone.sound;
      whole = lone.whole;
      tidy = lone.tidy;
      start = refl;
      known = record { arena = held.known; given = omega (arith, given) };
      alive = held.alive;
      shared = shared;
      passes = ap (λ (z : Shape). z.passes) lone.outside.of.1 ∙ passes;
    })

pub bytes_stand : (q : View) (a : ArenaId) (s : Region) (all bytes : List ℕ) → s ≡ region_of a 0 (length bytes)
    → bytes_of_arena (state_in q) a ≡ with_bytes all 0 bytes → length bytes ≤ length all → bytes_in_pool q s ≡ bytes
unfolding bytes_in_pool
bytes_stand q a s all bytes is put fits = ap (bytes_at_places (state_in q)) is ∙ stood (state_in q) a all bytes put fits

-- an arena that is held has all words of the limit
pub held_room : (q : View) (a : ArenaId) (size : ℕ) → IsHeld (view_of_pass q) a → size ≤ limit_of q.shape → size ≤ length (bytes_of_arena (state_in q) a)
held_room q a size held fits =
    let words = held.size in
    omega (arith, length-bytes_in (words_at (view_of_pass q) a), words, fits)

-- ---- between the pass and its memory

pub only_on : (p m q r : View) (a : ArenaId) → m ≡ p → OnlyIn a (state_in m) (state_in q) → r ≡ q → OnlyIn a (state_in p) (state_in r)
only_on p m q r a at only is =
    subst (λ (v : View). OnlyIn a (state_in p) (state_in v)) (sym is) (subst (λ (v : View). OnlyIn a (state_in v) (state_in q)) at only)

-- ---- which arenas it knows
