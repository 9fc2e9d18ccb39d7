-- An arena that is opened beside that of the records, which stand still.
use Rattle.std.{proofs.Common.{◌≡◌, ℕ, ◌+◌, ◌<◌, ◌≤◌, List, map, slice_index, refl, ap, sym, ◌∙◌, subst, arith}, specs.List.{range_with_len}}
use Rattle.fm_base.specs.{declared.{arena_id.ArenaId.{ArenaId}, kind.Kind.TheVariants.{Shared}}, Arenas.{Arena, arena_of}}
use Rattle.fm_base_bytes.specs.Words.{byte_at}
use Rattle.fm_rule_calls.specs.Told.{view_of_pass}
use Rattle.fm_gate.specs.Learnt.{AllBusy}
use Rattle.fm_top_load.specs.Held.{HoldsThen, words_at}
use Rattle.fm_rule_facts.specs.Views.{View, IsKnown, limit_of, state_in}
use Rattle.fm_rule.specs.declared.pool.Pool.{Pool}
use Rattle.fm_segment.specs.Region.{Region, region_of}
use Rattle.fm_words.specs.declared.shape.Shape.{Shape}
use Rattle.fm_top_pooled.specs.{Besides.{CanOpenBeside, IsBeside}, Stocked.{HasPagesFor, IsLone, IsOpened, IsStock, IsStocked, IsZero, KeepsArenas, bytes_in_pool}}
use Rattle.fm_top_pooled.proofs.{Left.{fewer_left}, Opening.{pages_left}}

-- ---- there is room

-- the first pass of a stock can open one of so many bytes, where no fewer are left
pub can_open : {beside : ℕ} {pool : Pool} {p : View} (s : Region) (size : ℕ) → IsStock beside pool p s → 0 < size → size ≤ beside → CanOpenBeside pool p s.arena size
can_open {p = p} s size h some fits = record {
  lone = h.lone;
  only = h.only;
  some = some;
  left = fewer_left size h.lone.sound.valid.page_words.0 some fits h.left;
}

-- of two slots one is left, where only one arena was opened
pub second_free : {pool : Pool} {p : View} {a : ArenaId} {size : ℕ} → CanOpenBeside pool p a size → ¬ (AllBusy p)
second_free {a = a} can busy =
    let slots = can.left.slots can.some in
    let first = busy 0 (omega (arith, slots)) in
    let second = busy 1 (omega (arith, slots)) in
    let here : a.slot ≡ 0 = ap (λ (x : ArenaId). x.slot) (sym (can.only first.arena first.known)) ∙ first.in_slot in
    let there : a.slot ≡ 1 = ap (λ (x : ArenaId). x.slot) (sym (can.only second.arena second.known)) ∙ second.in_slot in
    absurd (omega (arith, here, there))

-- and the pages still
pub second_pages : {pool : Pool} {p q : View} {a b : ArenaId} {size : ℕ} → CanOpenBeside pool p a size → IsOpened pool p q b → HasPagesFor q size
second_pages {size = size} can opened = pages_left size can.lone opened can.left.pages

-- and room
pub second_room : {pool : Pool} {p : View} {a : ArenaId} {size : ℕ} → CanOpenBeside pool p a size → size ≤ limit_of pool.shape
second_room {size = size} can = subst (λ (z : Shape). size ≤ limit_of z) can.lone.outside.of.1 can.left.room

-- ---- the records stand still

module _ {pool : Pool} {p r : View} {s : Region} (h : IsStocked pool p s) (keeps : KeepsArenas p r) where
  same_arena : arena_of (state_in r) s.arena ≡ arena_of (state_in p) s.arena
  same_arena = keeps.same s.arena h.known.arena

  pub stocked_beside : IsLone pool r → IsStocked pool r s
  stocked_beside lone = record {
    outside = lone.outside;
    sound = lone.sound;
    whole = lone.whole;
    tidy = lone.tidy;
    start = h.start;
    known = record {
      arena = keeps.known s.arena h.known.arena;
      given = subst (λ (n : ℕ). s.first + s.size ≤ n) (ap (λ (x : Arena). x.given) (sym same_arena)) h.known.given;
    };
    alive = ap (λ (x : Arena). x.life) same_arena ∙ h.alive;
    shared = h.shared;
    passes = ap (λ (z : Shape). z.passes) (lone.outside.of.1 ∙ sym h.outside.of.1) ∙ h.passes;
  }

  pub bytes_beside : bytes_in_pool r s ≡ bytes_in_pool p s
  unfolding bytes_in_pool
  bytes_beside = ap (λ (x : Arena). map (byte_at x.words) (range_with_len s.first s.size)) same_arena

-- ---- the new arena

-- its first bytes, in an arena that wasn't known
pub beside : {r : View} {s t : Region} {a : ArenaId} {size : ℕ} (p q : View) → HoldsThen (view_of_pass r) a size (words_at (view_of_pass q) a) → IsZero q a
    → a.kind ≡ Shared → t ≡ region_of a 0 size → IsKnown p s.arena → ¬ (IsKnown p a) → IsBeside r s t size
beside {r} {s} {a = a} {size = size} p q held zero shared is known unknown =
    subst (λ (x : Region). IsBeside r s x size) (sym is) (record {
      all = refl;
      known = record { arena = held.held.known; given = omega (arith, held.given_is) };
      alive = held.held.alive;
      shared = shared;
      other = λ same. unknown (subst (λ (b : ArenaId). IsKnown p b) (sym same) known);
      zero = λ word. ap (λ (ws : List ℕ). slice_index ws word) held.words_are ∙ zero word;
    })
