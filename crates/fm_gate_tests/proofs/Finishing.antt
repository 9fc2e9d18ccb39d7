-- A finished pool knows the arenas that its last pass knew.
use Rattle.std.proofs.Common.{◌≡◌, ◌∙◌, List, [], ap, sym, true}
use Rattle.fm_words.specs.declared.shape.Shape.{Shape}
use Rattle.fm_base.specs.{declared.arena_id.ArenaId.{ArenaId}, Arenas.{has_arena}, Calls.{Entry}, Histories.{state_after}}
use Rattle.fm_rule_facts.specs.Views.{View, IsKnown, limit_of}
use Rattle.fm_rule.specs.{declared.pool.Pool.{Pool}, Passes.{IsOf}, Finishing.{FinishedView, Finishes}, GivenBytes.{state_of}}

pub is_known : (pool : Pool) (p : View) (f : FinishedView) (a : ArenaId) → IsOf pool p → Finishes pool p f → IsKnown p a
    → has_arena (state_of f) a ≡ true
is_known pool p f a of done known =
    let shape : f.shape ≡ p.shape = done.shape ∙ sym of.1 in
    ap (λ (z : Shape). has_arena (state_after (limit_of z) [] f.history) a) shape
    ∙ (ap (λ (es : List Entry). has_arena (state_after (limit_of p.shape) [] es) a) done.history ∙ known)
