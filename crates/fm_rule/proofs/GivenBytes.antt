-- The bytes of an arena stand in the words of its slot.
use Rattle.std.proofs.Common.{◌≡◌, ◌≢◌, Some, None, ℕ, ◌+◌, ◌*◌, ◌/◌, ◌%◌, ◌<◌, ◌≤◌, List, [], ◌∷◌, ◌++◌, length, take, get_or, sym, ap, ◌∙◌, subst, arith, true}
use Rattle.std.proofs.{lemmas.List.{take_more}, Math.Nat.{mod-lt}}
use Rattle.fm_words.specs.{Places.{at, map, page_word, words, session, given as given_place}, declared.shape.Shape.{Shape}, Maps.{map_word}}
use Rattle.fm_rule_steps.proofs.Bearing.{shown_alive, shown_unalive}
use Rattle.fm_rule_facts.specs.{Words.{alive_holds}, Views.{Fits, span, limit_of}}
use Rattle.fm_base.specs.{declared.arena_id.ArenaId.{ArenaId}, Arenas.{Alive, Ended, arena_of, word_in, has_arena}, Histories.{IsWhole}}
use Rattle.fm_base.proofs.{Growing.{there_by_life}, Wholeness.{whole_always}}
use Rattle.fm_base_bytes.{specs.Words.{bytes_in, byte_of}, proofs.Words.{length-bytes_in, get_or-bytes_in}}
use Rattle.fm_rule.{proofs.Knowing.{place_below}, specs.{Finishing.{FinishedView, IsFinished}, GivenBytes.{HasBytes, given_bytes, state_of}}}

module _ (f : FinishedView) (i : IsFinished f) (a : ArenaId) (has : HasBytes f a) where
  whole : IsWhole (limit_of f.shape) (arena_of (state_of f) a)
  whole = whole_always (limit_of f.shape) f.history i.legal a
      (there_by_life (state_of f) a (λ e. let q : Alive ≡ Ended = sym has.shows.life ∙ e in absurd (cc)))

  -- a byte that was given stands in a word of the slot
  pub given_below : (k : ℕ) → k < (arena_of (state_of f) a).given → k / 8 < span f.shape
  given_below k l =
      let n : ℕ = span f.shape in
      let g : (arena_of (state_of f) a).given ≤ n * 8 = whole.given in omega arith

  long : length (arena_of (state_of f) a).words ≡ span f.shape
  long =
      let n : ℕ = span f.shape in
      let w : length (arena_of (state_of f) a).words ≡ (n * 8 + 7) / 8 = whole.words in omega arith

  -- one byte more
  pub one_byte : (k b : ℕ) → k < (arena_of (state_of f) a).given
      → b ≡ byte_of (word_in (state_of f) a (k / 8)) (k % 8)
      → take k (bytes_in (arena_of (state_of f) a).words) ++ b ∷ [] ≡ take (k + 1) (bytes_in (arena_of (state_of f) a).words)
  one_byte k b l is =
      let words : List ℕ = (arena_of (state_of f) a).words in
      let low = given_below k l in
      let n = long in
      let below : k / 8 < length words = omega arith in
      let all = length-bytes_in words in
      let there : k < length (bytes_in words) = omega arith in
      let byte : get_or (bytes_in words) k 0 ≡ b =
      get_or-bytes_in words k below ∙ sym is in
      sym (take_more (bytes_in words) k 0 there ∙ ap (λ x. take k (bytes_in words) ++ x ∷ []) byte)

-- where a byte that was given stands, in a shape that is the same
pub record Stands (f : FinishedView) (a : ArenaId) (k : ℕ) (y : Shape) (size : ℕ) : Type 0 where
  pub slot : a.slot < y.slots
  pub part : k / 8 / size < y.reach
  pub few : y.reach ≤ 4096
  pub page : ℕ
  pub low : page < y.pages
  pub in_page : k / 8 % size < y.page_words
  pub map_low : (p : ℕ) → p ≡ at y (map a.slot (k / 8 / size)) → p < words f.shape
  pub map_is : (p : ℕ) → p ≡ at y (map a.slot (k / 8 / size)) → get_or f.words p 0 ≡ map_word page
  pub page_low : (p : ℕ) → p ≡ at y (page_word page (k / 8 % size)) → p < words f.shape
  pub word : (p : ℕ) → p ≡ at y (page_word page (k / 8 % size)) → get_or f.words p 0 ≡ word_in (state_of f) a (k / 8)

pub stands : (f : FinishedView) → IsFinished f → (a : ArenaId) → HasBytes f a → (k : ℕ) → k < (arena_of (state_of f) a).given → (y : Shape) → y ≡ f.shape
    → (size : ℕ) → size ≡ y.page_words → Stands f a k y size
stands f i a has k l y same size is =
    let z : Shape = f.shape in
    let s = has.shows.word (k / 8) (omega arith) in
    let base : Stands f a k z z.page_words = record {
      slot = has.fits.slot;
      part = s.part;
      few = (let p = i.valid.reach.1 in let q = i.valid.pages.1 in omega arith);
      page = s.page;
      low = s.low;
      in_page = mod-lt (k / 8) i.valid.page_words.0;
      map_low = λ p e. place_below z (map a.slot (k / 8 / z.page_words)) (has.fits.slot, s.part) e;
      map_is = λ p e. ap (λ (n : ℕ). get_or f.words n 0) e ∙ s.named;
      page_low = λ p e. place_below z (page_word s.page (k / 8 % z.page_words)) (s.low, mod-lt (k / 8) i.valid.page_words.0) e;
      word = λ p e. ap (λ (n : ℕ). get_or f.words n 0) e ∙ sym s.word;
    } in
    subst (λ (x : Shape × ℕ). Stands f a k x.0 x.1) (λ j. (sym same j, sym (is ∙ ap (λ (x : Shape). x.page_words) same) j)) base

pub shape_in : (g f : FinishedView) → g ≡ f → g.shape ≡ f.shape
shape_in g f e = ap (λ (x : FinishedView). x.shape) e

pub finished_in : (g f : FinishedView) → g ≡ f → IsFinished g → IsFinished f
finished_in g f = subst IsFinished

-- the loop's end
pub all_given : (f : FinishedView) (a : ArenaId) → HasBytes f a → (given k : ℕ) → given ≡ get_or f.words (at f.shape (given_place a.slot)) 0 → k ≡ given
    → take k (bytes_in (arena_of (state_of f) a).words) ≡ given_bytes f a
all_given f a has given k e d = ap (λ n. take n (bytes_in (arena_of (state_of f) a).words)) (d ∙ (e ∙ sym has.shows.given))

-- whether the session's word shows the arena alive
pub alive_by : (f : FinishedView) → IsFinished f → (a : ArenaId) → Fits f.shape a → has_arena (state_of f) a ≡ true → (n word : ℕ)
    → word ≡ get_or f.words (at f.shape (session a.slot)) 0 → alive_holds a word ≡ Some n → HasBytes f a
alive_by f i a fit known n word w e = record {
  fits = fit;
  shows = shown_alive f.shape i.valid f.words f.history i.shows a fit known n (ap (alive_holds a) (sym w) ∙ e);
}

pub unalive_by : (f : FinishedView) → IsFinished f → (a : ArenaId) → (word : ℕ)
    → word ≡ get_or f.words (at f.shape (session a.slot)) 0 → alive_holds a word ≡ None → (arena_of (state_of f) a).life ≢ Alive
unalive_by f i a word w e =
    shown_unalive f.shape i.valid f.words f.history i.shows a (λ fit. ap (alive_holds a) (sym w) ∙ e)

pub unfit_by : (f : FinishedView) → IsFinished f → (a : ArenaId) → ¬ (Fits f.shape a) → (arena_of (state_of f) a).life ≢ Alive
unfit_by f i a n = shown_unalive f.shape i.valid f.words f.history i.shows a (λ fit. absurd (n fit))

-- the given word is the arena's count
pub given_now : (f : FinishedView) (a : ArenaId) → HasBytes f a → (y : Shape) → y ≡ f.shape → (p given : ℕ) → p ≡ at y (given_place a.slot)
    → given ≡ get_or f.words p 0 → given ≡ (arena_of (state_of f) a).given
given_now f a has y same p given e w =
    w ∙ (ap (λ (n : ℕ). get_or f.words n 0) (e ∙ ap (λ (x : Shape). at x (given_place a.slot)) same) ∙ sym has.shows.given)
