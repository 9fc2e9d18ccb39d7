-- Where the words of a part stand that a pass read at some visit.
use Rattle.std.proofs.Common.{◌≡◌, ℕ, ◌+◌, ◌-◌, ◌*◌, ◌/◌, ◌%◌, ◌^◌, ◌<◌, ◌≤◌, List, [], Option, subst, sym, ap, ◌∙◌, arith}
use Rattle.std.proofs.{lemmas.Nat.{div-mul-add, mod-mul-add}}
use Rattle.fm_words.{specs.{declared.shape.Shape.{Shape}, Shapes.{IsValid}, Maps.{map_word}, Places.{at, page_word}}, proofs.Tables.{at-within}}
use Rattle.fm_base.specs.declared.{caller.Caller.{Caller}, arena_id.ArenaId.{ArenaId}}
use Rattle.fm_rule_facts.specs.{Views.{View}, Parts.{reads_after}, Moves.{LearnsMap}, Steps.{Stepped, none_noted}}
use Rattle.atomic_table.specs.Table.{Me}
use Rattle.fm_rule.{specs.{declared.pass.Part.{Part}, Views.{homed, IsKept, HasPart, Keeps}, Placing.{FindsPlace}}, proofs.Knowing.{page_word_from, sees, shape_is, words_small}}

-- the part that a pass keeps is one of its pool
pub kept_here : {z : Shape} {now : View} {home : List ℕ} {c : Caller} {i : Option ArenaId} {parts : Part × Part} {count : ℕ} {me : Me (Unit {0}) View} (word : ℕ)
    → homed home me.0 ≡ now → now.shape ≡ z → Keeps c i parts count me → word - parts.0.first < parts.0.size → IsKept z parts.0
kept_here {parts = parts} word is of k high = subst (λ (y : Shape). IsKept y parts.0) (shape_is (sees is of k)) (k.last.kept (omega arith))

module _ (z : Shape) (part : Part) (word : ℕ) (k : IsKept z part) (low : part.first ≤ word) (high : word - part.first < part.size) where
  pub fits : word - part.first < z.page_words
  fits = let a = k.size in omega arith

  whole : word ≡ part.index * z.page_words + (word - part.first)
  whole = let a = k.first in omega arith

  -- a word of it lies in the part of its index
  pub in_kept : word / z.page_words ≡ part.index
  in_kept = ap (λ (n : ℕ). n / z.page_words) whole ∙ div-mul-add part.index z.page_words (word - part.first) fits

  pub in_page : word % z.page_words ≡ word - part.first
  in_page = ap (λ (n : ℕ). n % z.page_words) whole ∙ mod-mul-add part.index z.page_words (word - part.first) fits

  -- where its page begins, as long as its map word is the same
  pub kept_place : part.from + (word - part.first) ≡ at z (page_word (part.word - 1) (word % z.page_words))
  unfolding map_word
  kept_place =
      let page : k.page ≡ part.word - 1 = (let h = k.word in omega arith) in
      ap (λ (n : ℕ). n + (word - part.first)) k.from ∙ (page_word_from z k.page (word - part.first)
      ∙ (λ j. at z (page_word (page j) (sym in_page j))))

  pub kept_small : IsValid z → part.word ≤ z.pages → part.from + (word - part.first) < 2 ^ 32
  unfolding map_word
  kept_small valid pages =
      let low : k.page < z.pages = (let h = k.word in omega arith) in
      let below = at-within z (page_word k.page (word - part.first)) (low, fits) in
      let small = words_small z valid in
      let is = ap (λ (n : ℕ). n + (word - part.first)) k.from ∙ page_word_from z k.page (word - part.first) in
      omega arith

  -- while its map word is the same, it is the part of that map word
  pub kept_part : HasPart z part.index part.word (record part { words = part.size })
  unfolding map_word
  kept_part page e =
      let is : k.page ≡ page = (let h = k.word in omega arith) in
      (k.first, k.size, k.from ∙ ap (λ (p : ℕ). at z (page_word p 0)) is)

  pub kept_on : IsKept z (record part { words = part.size })
  kept_on = record { page = k.page; word = k.word; from = k.from; size = k.size; first = k.first; word_at = k.word_at; low = k.low }

  pub kept_some : part.word ≡ 0 → part.size ≡ 0
  unfolding map_word
  kept_some e = absurd (let h = k.word in omega arith)

-- what a pass finds by the map word of the part of this index
pub finds_place : {v w : View} {a : ArenaId} {word place : ℕ} (z : Shape) (index found : ℕ) → v.shape ≡ z → word / z.page_words ≡ index
    → LearnsMap v a index found w → Stepped v w (record v { reads = reads_after index found v.reads }) [] none_noted
    → (0 < found → place ≡ at z (page_word (found - 1) (word % z.page_words))) → FindsPlace v a word place w
finds_place {v = v} {w = w} {a = a} {word = word} {place = place} z index found sh is l s p =
    let part : index ≡ word / v.shape.page_words = sym is ∙ ap (λ (x : Shape). word / x.page_words) (sym sh) in
    record {
      found = found;
      map = subst (λ (n : ℕ). LearnsMap v a n found w) part l;
      stepped = subst (λ (n : ℕ). Stepped v w (record v { reads = reads_after n found v.reads }) [] none_noted) part s;
      place = λ h. p h ∙ ap (λ (x : Shape). at x (page_word (found - 1) (word % x.page_words))) (sym sh);
    }
