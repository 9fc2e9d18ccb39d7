use Rattle.std.proofs.Common.{rules, arith, ap, sym, ◌∙◌, subst, ◌≡◌, ◌<◌, ◌≤◌, ℕ, List, [], ◌∷◌, replicate, length, None}
use lib.ListN.{set, length-replicate}
use Rattle.fm_words.specs.{declared.shape.Shape.{Shape}, Places.{at, draw, slot_bits, words}, Bits.{ones}}
use Rattle.fm_base.specs.Arenas.{only_caller}
use Rattle.fm_rule_facts.specs.{Views.{IsSound}, Splits.{first_view}, Facts.{Rule}}
use Rattle.fm_rule_steps.proofs.First.{two_words}
use Rattle.fm_rule.{specs.{Beginning.{IsBegun}, Views.{no_part, Keeps}}, proofs.{Beginning.{begun_none, begun_rule, begun_sound}, Allowed.{sound_homed}}}
use Rattle.fm_rule.proofs.Keeping.{first_keeps}
use Rattle.fm_rule.proofs.pool.Pool.make.Goals as goal

draw_is : (z : Shape) (i : ℕ) → i ≡ at z draw → i ≡ 1
unfolding at
draw_is z i e = e

bits_is : (z : Shape) (i : ℕ) → i ≡ at z slot_bits → i ≡ 2
unfolding at
bits_is z i e = e

within : (z : Shape) {ws : List ℕ} {i k n : ℕ} → i ≡ k → k ≤ 2 → ws ≡ replicate n 0 → n ≡ words z → i < length ws
within z {ws = ws} {n = n} is low all long =
    let p = two_words z in let l : length ws ≡ n = ap length all ∙ length-replicate n 0 in omega arith

pub index_mut-requires : goal.index_mut-requires
index_mut-requires c = search (
  rules,
  within c.args.shape (draw_is _ _ c.draw_place.ensures) (omega arith)
      (c.in_ok-words.ensures.items_if_clones_equal (λ y e. e)) c.words.ensures,
  c.in_ok-words.words.len,
)

pub index_mut-requires-2 : goal.index_mut-requires-2
index_mut-requires-2 c = search (
  rules,
  within c.args.shape (bits_is _ _ c.slot_bits_place.ensures) (omega arith)
      (c.in_ok-words.ensures.items_if_clones_equal (λ y e. e)) c.words.ensures,
  c.in_ok-words.words.len,
)

pub set_page_bits-requires-clause-begun : goal.set_page_bits-requires-clause-begun
set_page_bits-requires-clause-begun c =
    let z : Shape = c.args.shape in
    let is = (λ j. set (set (c.in_ok-words.ensures.items_if_clones_equal (λ y e. e) j) (draw_is _ _ c.draw_place.ensures j) 1)
    (bits_is _ _ c.slot_bits_place.ensures j) (c.ones.ensures j))
    ∙ (λ j. set (set (replicate (c.words.ensures j) 0) 1 1) 2 (ones z.slots)) in
    subst (λ (ws : List ℕ). IsBegun z ws 0 0) (sym is) (begun_none z c.requires)

pub of_words-requires : goal.of_words-requires
of_words-requires c =
    subst (λ (ws : List ℕ). Rule c.args.shape ws (first_view c.args.shape ∷ [])) (sym c.deref.ensures.value)
    (begun_rule c.args.shape _ c.requires c.set_number_bits.ensures)

pub invariant_of-pass : goal.invariant_of-pass
invariant_of-pass c =
    subst (Keeps only_caller None (no_part, no_part) 0) (sym c.in_ok-table.ensures.4)
    (first_keeps c.args.shape (begun_sound c.args.shape _ c.requires c.set_number_bits.ensures))

pub returns-clause-sound : goal.returns-clause-sound
returns-clause-sound c =
    sound_homed _ c.in_ok-table.seat.me.0 (subst IsSound (λ j. (sym c.in_ok-table.ensures.4 j).0) (begun_sound c.args.shape _ c.requires c.set_number_bits.ensures))
