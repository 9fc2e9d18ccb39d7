use Rattle.std.proofs.Common.{◌≡◌, ◌-◌, ◌<◌, ◌≤◌, ℕ, ap, ◌∙◌, arith}
use Rattle.fm_words.specs.{Places.{at, page_word}, Maps.{map_word}}
use Rattle.fm_rule.proofs.pool.Pool.word_place.Goals as goal

low_page : (p x n : ℕ) → map_word p ≡ x → x ≤ n → p < n
unfolding map_word
low_page p x n e h = omega arith

before : (p x : ℕ) → map_word p ≡ x → p ≡ x - 1
unfolding map_word
before p x e = omega arith

pub page_place-requires-clause-place : goal.page_place-requires-clause-place
page_place-requires-clause-place c = (low_page c.in-Some.page c.args.word c.args.self.now.shape.pages c.in-Some.ensures.back c.requires.low, c.requires.offset)

pub returns-in-Some : goal.returns-in-Some
returns-in-Some c = λ l. c.page_place.ensures
    ∙ ap (λ (p : ℕ). at c.args.self.now.shape (page_word p c.args.offset)) (before c.in-Some.page c.args.word c.in-Some.ensures.back)
