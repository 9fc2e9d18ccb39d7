use Rattle.std.proofs.Common.{◌≡◌, ◌<◌, ◌-◌, ◌/◌, ◌%◌, ℕ, ap, ◌∙◌, arith}
use Rattle.fm_words.specs.{Places.{at, page_word}, Maps.{map_word}}
use Rattle.fm_rule.proofs.{GivenBytes.{Stands, stands, shape_in, finished_in}, finishing.Finished.word_with.Goals.{After-from-size}}
use Rattle.fm_rule.proofs.finishing.Finished.word_with.Goals as goal

here : (c : After-from-size) → Stands c.args.self.now c.args.id c.args.k c.self.inside.shape c.from-size.result
here c = stands c.args.self.now (finished_in _ _ c.self.view_is c.self.invariant) c.args.id c.requires.has c.args.k c.requires.low c.self.inside.shape
    (shape_in _ _ c.self.view_is) c.from-size.result c.from-size.ensures

pub overflow_cast-part : goal.overflow_cast-part
overflow_cast-part c = let s = here c in let a = s.part in let b = s.few in omega arith

pub map_place-requires-clause-place : goal.map_place-requires-clause-place
map_place-requires-clause-place c = let s = here c in (s.slot, s.part)

pub word-page-requires : goal.word-page-requires
word-page-requires c = (here (goal.at.word-page-requires c).After-from-size).map_low _ c.map_place.ensures

pub overflow_sub-page : goal.overflow_sub-page
unfolding map_word
overflow_sub-page c = let s = here (goal.at.overflow_sub-page c).After-from-size in let e = c.word-page.ensures ∙ s.map_is _ c.map_place.ensures in omega arith

pub overflow_cast-page : goal.overflow_cast-page
unfolding map_word
overflow_cast-page c =
    let s = here (goal.at.overflow_cast-page c).After-from-size in
    let e = c.word-page.ensures ∙ s.map_is _ c.map_place.ensures in
    let a = s.low in let b = c.self.invariant.valid.pages.1 in omega arith

pub page_place-requires-clause-place : goal.page_place-requires-clause-place
unfolding map_word
page_place-requires-clause-place c =
    let s = here (goal.at.page_place-requires-clause-place c).After-from-size in
    let e = c.word-page.ensures ∙ s.map_is _ c.map_place.ensures in
    let a = s.low in ((let q : c.word-page.result - 1 < c.self.inside.shape.pages = omega arith in q), s.in_page)

-- the page is one less
is_page : (x p : ℕ) → x ≡ map_word p → x - 1 ≡ p
unfolding map_word
is_page x p e = omega arith

pub word-requires : goal.word-requires
word-requires c =
    let s = here (goal.at.word-requires c).After-from-size in
    let e = c.word-page.ensures ∙ s.map_is _ c.map_place.ensures in
    s.page_low _ (c.page_place.ensures ∙ ap (λ (p : ℕ). at c.self.inside.shape (page_word p (c.args.k / 8 % c.from-size.result))) (is_page _ _ e))

pub returns : goal.returns
returns c =
    let s = here (goal.at.returns c).After-from-size in
    let e = c.word-page.ensures ∙ s.map_is _ c.map_place.ensures in
    c.word.ensures ∙ s.word _ (c.page_place.ensures ∙ ap (λ (p : ℕ). at c.self.inside.shape (page_word p (c.args.k / 8 % c.from-size.result))) (is_page _ _ e))
