-- A pass that is free between its calls.
use Rattle.std.{proofs.Common.{ℕ, List, ap, ◌∙◌, ◌≡◌, arith}, specs.Prelude.{All}}
use Rattle.fm_base.specs.{declared.arena_id.ArenaId.{ArenaId}, Calls.{Call, Reply}, Finds.{Rest}}
use Rattle.fm_rule_calls.{specs.Kept.{Lasts, rest_of}, proofs.Lasting.{lasts_then}}
use Rattle.fm_gate.specs.{Crews.{HasNothing, StandsOn}, Learnt.{AfterAct}, Needs.{CanReach, IsOutside}}
use Rattle.fm_rule_facts.specs.Views.{View}
use Rattle.fm_rule.specs.declared.pool.Pool.{Pool}
use Rattle.fm_bench.specs.Ready.{CanRead, FreeAfter, IsFree, IsOpen}

-- after an act the word can still be reached
pub still_reached : {pool : Pool} {p q : View} {word : ℕ} {call : ArenaId → Call} {reply : Reply} → CanReach pool p word
    → AfterAct pool p q call reply → CanReach pool q word
still_reached {word = word} can after =
    let given = can.given in
    let more = after.lasts.given can.id in
    record { id = can.id; inside = after.inside can.id can.inside; given = omega (arith, given, more) }

-- a pass that has what it had has nothing still
pub nothing_stays : {p q : View} → rest_of q ≡ rest_of p → HasNothing p → HasNothing q
nothing_stays is was = record {
  no_hold = ap (λ (r : Rest). r.holds) is ∙ was.no_hold;
  no_handle = ap (λ (r : Rest). r.handles) is ∙ was.no_handle;
  no_page = ap (λ (r : Rest). r.pages) is ∙ was.no_page;
  no_close = ap (λ (r : Rest). r.closes) is ∙ was.no_close;
  no_sweep = ap (λ (r : Rest). r.sweeps) is ∙ was.no_sweep;
}

pub free_after : {pool : Pool} {p q : View} → IsFree pool p → IsOutside pool q → rest_of q ≡ rest_of p → Lasts p q → FreeAfter pool p q
free_after was outside is lasts = record { free = record { outside = outside; nothing = nothing_stays is was.nothing }; lasts = lasts }

pub free_on : {pool : Pool} {p q : View} → IsFree pool p → StandsOn pool p q → FreeAfter pool p q
free_on was s = record { free = record { outside = s.outside was.outside; nothing = s.nothing was.nothing }; lasts = s.lasts }

pub free_then : {pool : Pool} {p q r : View} → FreeAfter pool p q → FreeAfter pool q r → FreeAfter pool p r
free_then one two = record { free = two.free; lasts = lasts_then one.lasts two.lasts }

-- the arena stays open to a pass that knows what another one knew
pub open_on : {p q : View} {bytes : ℕ} {a : ArenaId} → Lasts p q → IsOpen p bytes a → IsOpen q bytes a
open_on {a = a} lasts was =
    let given = was.given in
    let more = lasts.given a in
    record { known = lasts.known a was.known; given = omega (arith, given, more) }

pub all_open_on : {p q : View} {bytes : ℕ} (arenas : List ArenaId) → Lasts p q → All (IsOpen p bytes) arenas → All (IsOpen q bytes) arenas
all_open_on arenas lasts all = λ k d low. open_on lasts (all k d low)

pub reads_on : {pool : Pool} {p q : View} {bytes : ℕ} {a : ArenaId} → CanRead pool p bytes a → FreeAfter pool p q → CanRead pool q bytes a
reads_on was after = record { free = after.free; opened = open_on after.lasts was.opened }
