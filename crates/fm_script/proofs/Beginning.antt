-- What the run of a script begins with, and what it leaves.
use Rattle.std.{proofs.Common.{◌≡◌, ℕ, ◌+◌, ◌-◌, ◌≤◌, List, length, sym, ap, ◌∙◌, subst, arith}, specs.Borrow.{Bor}}
use Rattle.fm_base.specs.{declared.caller.Caller.{Caller}, Finds.{Rest}}
use Rattle.fm_arena.specs.Shares.{CanShare}
use Rattle.fm_rule_facts.specs.{Hands.{slots_in}, Views.{View, IsSound}}
use Rattle.fm_rule.specs.{declared.pool.Pool.{Pool}, Finishing.{CanFinish, FinishedView, Finishes}, Views.{first_pass}}
use Rattle.fm_words.specs.declared.shape.Shape.{Shape}
use Rattle.fm_script_text.specs.{declared.line.Line.{Line}, Scripts.{ScriptOf}}
use Rattle.fm_script_lines.specs.{declared.numbers.Numbers.{Numbers}, Numbers.{AreNumbers}, Ordering.{AreStarts, in_order, lines_at}}
use Rattle.fm_script.specs.{declared.{main_lines.MainLines.{MainLines}, player.Player.{Player}}, Players.{ArePlayers}, Runs.{CanRun, HasRun, IsWritten, Ran}}

pub some_pass : (s : ScriptOf) → IsWritten s → 1 ≤ s.shape.passes
some_pass s w = w.valid.passes.0

-- a script's lines in the order of printing, its workers and the pool's first pass
pub record Begun (s : ScriptOf) (order : List Line) (starts : List ℕ) (players : List Player) (home : List ℕ) (p : View) : Type 0 where
  pub in_printing : order ≡ in_order (s.shape.passes - 1) s.lines
  pub are_starts : AreStarts s.lines (s.shape.passes - 1) starts
  pub are_players : ArePlayers s.lines starts players
  pub first : p ≡ first_pass home s.shape

-- They are those of the script, as the lines and the shape that they were made of are.
pub begun : (s : ScriptOf) {lines : List Line} {z other : Shape} {all ordered : List (Bor Line)} {starts made : List ℕ} {players : List Player}
    {home : List ℕ} {p : View} → lines ≡ s.lines → z ≡ s.shape → all ≡ ordered → lines_at ordered ≡ in_order (z.passes - 1) lines → starts ≡ made
    → AreStarts lines (z.passes - 1) made → ArePlayers lines starts players → other ≡ s.shape → p ≡ first_pass home other
    → Begun s (lines_at all) starts players home p
begun s {lines} {z} {other} {all} {ordered} {starts} {made} {players} {home} lines_are shape_is same ordering given are_starts are_players again first =
    record {
      in_printing = ap (λ (ls : List (Bor Line)). lines_at ls) same ∙ (ordering ∙ (λ i. in_order ((shape_is i).passes - 1) (lines_are i)));
      are_starts = subst (λ (xs : List ℕ). AreStarts s.lines (s.shape.passes - 1) xs) (sym given)
          (subst (λ (y : Shape). AreStarts s.lines (y.passes - 1) made) shape_is
          (subst (λ (ls : List Line). AreStarts ls (z.passes - 1) made) lines_are are_starts));
      are_players = subst (λ (ls : List Line). ArePlayers ls starts players) lines_are are_players;
      first = first ∙ ap (λ (y : Shape). first_pass home y) again;
    }

module _ (s : ScriptOf) (w : IsWritten s) (order : List Line) (names : Numbers) (starts : List ℕ) (players : List Player)
    (in_printing : order ≡ in_order (s.shape.passes - 1) s.lines) (numbers : AreNumbers order names)
    (are_starts : AreStarts s.lines (s.shape.passes - 1) starts) (are_players : ArePlayers s.lines starts players) where
  workers : length players ≡ s.shape.passes - 1
  workers = are_players.many ∙ are_starts.many

  one_more : 1 + length players ≡ s.shape.passes
  one_more =
      let some = some_pass s w in
      let many = workers in
      omega (arith, some, many)

  order_is : order ≡ in_order (length players) s.lines
  order_is = in_printing ∙ ap (λ (n : ℕ). in_order n s.lines) (sym workers)

  pub all_counted : length order ≡ length (in_order (length players) s.lines)
  all_counted = ap (λ (ls : List Line). length ls) order_is

  module _ (home : List ℕ) (p : View) (first : p ≡ first_pass home s.shape) (sound : IsSound p) where
    pub can_run : CanRun names s.lines p players
    can_run = record {
      only = record {
        whole = record { sound = sound; whole = ap (λ (v : View). v.whole) first };
        unused = ap (λ (v : View). v.seen) first;
        first = ap (λ (v : View). v.caller) first;
        no_slot = record { sweeps = ap (λ (v : View). v.sweeps) first; slots = ap (λ (v : View). slots_in v.hand) first };
        no_close = ap (λ (v : View). v.closes) first;
        alone = ap (λ (v : View). v.gathered) first;
      };
      rules = w.rules;
      numbers = subst (λ (ls : List Line). AreNumbers ls names) order_is numbers;
      starts = starts;
      are_starts = subst (λ (n : ℕ). AreStarts s.lines n starts) (sym workers) are_starts;
      are_players = are_players;
      enough =
          let all = one_more in
          let shape = ap (λ (v : View). v.shape.passes) first in
          omega (arith, all, shape);
    }

    pub has_run : (pool : Pool) (q : View) (caller : Caller) (next : List Player) (main : MainLines) (f : FinishedView)
        → pool.shape ≡ s.shape → caller ≡ p.caller → Ran names s.lines p q players next main → Finishes pool q f
        → HasRun s order names caller next main f
    has_run pool q caller next main f shape by ran finishes = record {
      old = p;
      new = q;
      tasks = players;
      can = can_run;
      ran = ran;
      in_printing = order_is;
      passes = one_more;
      by = by;
      of_shape = ap (λ (v : View). v.shape) first;
      shape = finishes.shape ∙ shape;
      history = finishes.history;
      finished = finishes.finished;
    }

-- The pass that is left speaks for all.
pub can_finish : (pool : Pool) (names : Numbers) (lines : List Line) (p q : View) (tasks players : List Player) (main : MainLines)
    → CanShare pool q → Ran names lines p q tasks players main → CanFinish pool q
can_finish pool names lines p q tasks players main outside ran = record {
  of = outside.outside.of;
  whole = ap (λ (r : Rest). r.whole) ran.all.last.went.rest ∙ ran.all.worked.crew.crew.whole ran.all.whole;
  no_slot = outside.outside.no_slot;
}
