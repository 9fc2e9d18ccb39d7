-- A pass that went on by lines is of the pool that it was of.
use Rattle.std.proofs.Common.{◌≡◌, ℕ, List, ◌++◌, drop, sym, ap, subst, ◌∙◌}
use Rattle.fm_arena.specs.{Learnt.{AfterIntoPass}, Shares.{CanShare}}
use Rattle.fm_base.specs.{Calls.{Entry}, Finds.{Rest}}
use Rattle.fm_rule_calls.specs.Kept.{shape_numbers}
use Rattle.fm_words.specs.declared.shape.Shape.{Shape}
use Rattle.fm_rule_facts.specs.Views.{View}
use Rattle.fm_rule.specs.{declared.pool.Pool.{Pool}, Passes.{IsOf}}
use Rattle.fm_script_lines.specs.Runs.{Went}

same_home : (p q : View) {own : List Entry} → Went p q own → q.home ≡ p.home
same_home p q w =
    ap (λ (ns : List ℕ). drop 6 ns)
    (ap (λ (z : Shape). shape_numbers z ++ q.home) (sym w.same_shape) ∙ ap (λ (x : Rest). x.home) w.rest)

pub still_of : (pool : Pool) (p q : View) {own : List Entry} → Went p q own → IsOf pool p → IsOf pool q
still_of pool p q w of = (same_home p q w ∙ of.0, w.same_shape ∙ of.1)

-- So the pass is outside, once it is taken back from the calls over a table's end.
pub shares_still : (pool : Pool) (before memory settled pass : View) {own : List Entry} → memory ≡ before → Went memory settled own
    → AfterIntoPass settled pass → IsOf pool before → CanShare pool pass
shares_still pool before memory settled pass is went after of = record {
  outside = after.outside pool (still_of pool memory settled went (subst (λ (p : View). IsOf pool p) (sym is) of));
  no_page = after.no_page;
}
