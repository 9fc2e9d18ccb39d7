use Rattle.std.proofs.Common.{◌≡◌, ◌⊎◌, inl, inr, refl, zero, suc, ◌+◌, ◌/◌, ◌%◌, ◌<◌, List, ◌++◌, ◌∷◌, [], ℕ, ap, ◌∙◌, subst, arith}
use Rattle.fm_words.specs.{declared.shape.Shape.{Shape}, Places.{at, given as given_place}}
use Rattle.fm_base_bytes.specs.Words.{byte_of}
use Rattle.fm_base.specs.{Arenas.{State, word_in}, declared.arena_id.ArenaId.{ArenaId}}
use Rattle.fm_rule.proofs.{Knowing.{place_below}, GivenBytes.{shape_in, finished_in, given_now, one_byte}}
use Rattle.fm_rule.proofs.finishing.Finished.collect.Goals as goal

pub word-given-requires : goal.word-given-requires
word-given-requires c =
    place_below _ (given_place c.args.id.slot) c.requires.fits.slot
    (c.given_place.ensures ∙ ap (λ (x : Shape). at x (given_place c.args.id.slot)) (shape_in _ _ c.self.view_is))

pub word_after-word-requires-clause-low : goal.word_after-word-requires-clause-low
word_after-word-requires-clause-low c =
    subst (λ (n : ℕ). c.loop-k.k < n) (given_now c.args.self.now c.args.id c.requires c.self.inside.shape (shape_in _ _ c.self.view_is) c.given_place.result
    c.word-given.result c.given_place.ensures c.word-given.ensures) c.loop-k-test.true

-- the next byte stands in the same word, or is the first of its word
next : (s : State) (a : ArenaId) (k word rest : ℕ) → (k + 1) % 8 ≡ rest → word ≡ word_in s a (k / 8)
    → ((k + 1) % 8 ≡ 0) ⊎ (word ≡ word_in s a ((k + 1) / 8))
next s a k word zero e is = inl e
next s a k word (suc r) e is = inr (is ∙ ap (word_in s a) (let same : k / 8 ≡ (k + 1) / 8 = omega arith in same))

pub loop-k-preserved : goal.loop-k-preserved
loop-k-preserved c =
    let value : ℕ = byte_of c.word_after-word.result (c.loop-k.k % 8) in
    let low = subst (λ (n : ℕ). c.loop-k.k < n) (given_now c.args.self.now c.args.id c.requires c.self.inside.shape (shape_in _ _ c.self.view_is)
    c.given_place.result c.word-given.result c.given_place.ensures c.word-given.ensures) c.loop-k-test.true in (
      (c.in_ok-push.ensures {u = tt}).items
          ∙ (ap (λ (bs : List ℕ). bs ++ value ∷ []) c.loop-k.invariant.0
          ∙ one_byte c.args.self.now (finished_in _ _ c.self.view_is c.self.invariant) c.args.id c.requires c.loop-k.k value low
          (ap (λ (w : ℕ). byte_of w (c.loop-k.k % 8)) c.word_after-word.ensures)),
      next _ _ c.loop-k.k _ _ refl c.word_after-word.ensures,
    )
