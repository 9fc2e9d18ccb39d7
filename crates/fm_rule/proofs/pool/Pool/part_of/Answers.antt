use Rattle.std.proofs.Common.{◌≡◌, ◌*◌, ◌<◌, ◌≤◌, ℕ, Some, None, ap, sym, ◌∙◌, arith}
use Rattle.fm_words.{specs.{Places.{at, page_word}, Maps.{map_word, map_of}}, proofs.Maps.{map_of-map_word, map_word-injective}}
use Rattle.fm_rule.proofs.pool.Pool.part_of.Goals as goal

low_page : (p x n : ℕ) → map_word p ≡ x → x ≤ n → p < n
unfolding map_word
low_page p x n e h = omega arith

pub page_place-requires-clause-place : goal.page_place-requires-clause-place
page_place-requires-clause-place c =
    (low_page c.in-Some.page c.args.word c.args.self.now.shape.pages c.in-Some.ensures.back c.requires.low, c.args.self.now.valid.page_words.0)

pub returns-in-Some-clause-some : goal.returns-in-Some-clause-some
returns-in-Some-clause-some c = λ page e. (
  (λ j. c.from.ensures j * c.from-in-Some.ensures j),
  c.from-in-Some-2.ensures,
  c.page_place.ensures ∙ ap (λ (p : ℕ). at c.args.self.now.shape (page_word p 0)) (map_word-injective _ _ (c.in-Some.ensures.back ∙ e)),
)

pub returns-in-None-clause-some : goal.returns-in-None-clause-some
returns-in-None-clause-some c = λ page e. absurd (let q : None ≡ Some page = c.in-None.ensures.page ∙ (ap map_of e ∙ map_of-map_word page) in cc)

pub map_place-requires-clause-place : goal.map_place-requires-clause-place
map_place-requires-clause-place c = c.requires.place

pub returns-in-Some-clause-kept : goal.returns-in-Some-clause-kept
returns-in-Some-clause-kept c = λ l. record {
  page = c.in-Some.page;
  word = sym c.in-Some.ensures.back;
  from = c.page_place.ensures;
  size = c.from-in-Some-3.ensures;
  first = (λ j. c.from.ensures j * c.from-in-Some.ensures j);
  word_at = c.map_place.ensures;
  low = c.requires.place.1;
}
