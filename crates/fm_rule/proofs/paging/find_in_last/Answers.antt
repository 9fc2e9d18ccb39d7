use Rattle.std.proofs.Common.{◌<◌, ◌%◌, ◌-◌, ℕ, ap, sym, ◌∙◌, subst, arith}
use Rattle.fm_words.specs.{declared.shape.Shape.{Shape}, Places.{at, map, page_word}}
use Rattle.fm_rule_facts.specs.{Views.{View}, Steps.{part, entries, noted}}
use Rattle.fm_rule.specs.Placing.{FindsPlace}
use Rattle.fm_rule.proofs.{Knowing.{opened, sees, inside_slot, shape_is, valid}, Making.{can_read_map}, Keeping.{read_map_keeps}, Stepping.{step_stepped, map_learnt}}
use Rattle.fm_rule.proofs.Placing.{kept_here, in_kept, in_page, kept_place, kept_small, kept_part, kept_on, kept_some, finds_place}
use Rattle.fm_rule.proofs.paging.find_in_last.Goals as goal

pub load_as-found-requires-clause-can : goal.load_as-found-requires-clause-can
load_as-found-requires-clause-can c =
    let k = kept_here c.args.word c.pass.view_is c.requires.of.1 c.pass.invariant c.if-word-part.true in
    can_read_map (opened c.pass.view_is c.requires.of c.pass.invariant)
    c.requires.inside k.low (k.word_at ∙ ap (λ (s : ℕ). at c.args.pool.now.shape (map s c.pass.inside.part.index)) c.if-part-id.true)

pub keep_part-requires-clause-place : goal.keep_part-requires-clause-place
keep_part-requires-clause-place c =
    let k = kept_here c.args.word c.pass.view_is c.requires.of.1 c.pass.invariant c.if-word-part.true in (
      subst (λ (s : ℕ). s < c.args.pool.now.shape.slots) (sym c.if-part-id.true)
          (inside_slot (sees c.pass.view_is c.requires.of.1 c.pass.invariant) c.requires.inside),
      k.low,
    )

pub overflow_add-result : goal.overflow_add-result
overflow_add-result c =
    let s = sees c.pass.view_is c.requires.of.1 c.pass.invariant in
    let k = kept_here c.args.word c.pass.view_is c.requires.of.1 c.pass.invariant c.if-word-part.true in
    let low = c.load_as-found.ensures.tells.learns.low in
    let sh = ap (λ (x : Shape). x.pages) (shape_is s) in
    let same = c.if-found-part.true in
    let small = kept_small _ _ c.args.word k c.if-part-word.true c.if-word-part.true (valid s) (omega arith) in
    omega arith

pub invariant_of-pass : goal.invariant_of-pass
invariant_of-pass c =
    let z = shape_is (sees c.pass.view_is c.requires.of.1 c.pass.invariant) in
    let k = kept_here c.args.word c.pass.view_is c.requires.of.1 c.pass.invariant c.if-word-part.true in
    read_map_keeps c.pass.invariant _ _ c.load_as-found.ensures z
    (λ e. kept_some _ _ c.args.word k c.if-part-word.true c.if-word-part.true (sym c.if-found-part.true ∙ e))
    (λ p e. kept_part _ _ c.args.word k c.if-part-word.true c.if-word-part.true p (sym c.if-found-part.true ∙ e))
    (λ l. kept_on _ _ c.args.word k c.if-part-word.true c.if-word-part.true) _ c.pass.invariant.other

pub returns-then-found-part-clause-found : goal.returns-then-found-part-clause-found
unfolding part entries noted
returns-then-found-part-clause-found c =
    let k = kept_here c.args.word c.pass.view_is c.requires.of.1 c.pass.invariant c.if-word-part.true in
    finds_place _ _ c.load_as-found.result c.requires.of.1 (in_kept _ _ c.args.word k c.if-part-word.true c.if-word-part.true)
    (map_learnt c.pass.view_is c.load_as-found.ensures.tells.learns)
    (step_stepped c.pass.view_is c.pass.invariant c.load_as-found.ensures)
    (λ h. kept_place _ _ c.args.word k c.if-part-word.true c.if-word-part.true
    ∙ ap (λ (x : ℕ). at c.args.pool.now.shape (page_word (x - 1) (c.args.word % c.args.pool.now.shape.page_words)))
    (sym c.if-found-part.true))

pub returns-then-word-part-clause-found : goal.returns-then-word-part-clause-found
unfolding part entries noted
returns-then-word-part-clause-found c =
    let k = kept_here c.args.word c.pass.view_is c.requires.of.1 c.pass.invariant c.if-word-part.true in
    subst (λ (w : View). FindsPlace c.args.pass.now c.args.id c.args.word c.word_place.result w) (sym c.keep_part.ensures)
    (finds_place _ _ c.load_as-found.result c.requires.of.1 (in_kept _ _ c.args.word k c.if-part-word.true c.if-word-part.true)
    (map_learnt c.pass.view_is c.load_as-found.ensures.tells.learns)
    (step_stepped c.pass.view_is c.pass.invariant c.load_as-found.ensures)
    (λ h. c.word_place.ensures h ∙ ap (λ (x : ℕ). at c.args.pool.now.shape (page_word (c.load_as-found.result - 1) x))
    (sym (in_page _ _ c.args.word k c.if-part-word.true c.if-word-part.true))))
