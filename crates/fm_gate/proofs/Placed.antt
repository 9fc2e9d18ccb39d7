-- Words that stand behind each other in a page.
use Rattle.std.proofs.Common.{◌≡◌, ℕ, ◌+◌, ◌*◌, ◌/◌, ◌%◌, ◌^◌, ◌<◌, ap, sym, subst, ◌∙◌, arith}
use Rattle.std.proofs.{Math.Nat.{mod-lt}, lemmas.Nat.{div-add-mod', div-mul-add, mod-mul-add}}
use Rattle.fm_words.specs.{declared.shape.Shape.{Shape}, Places.{at, page_word}}
use Rattle.fm_words.proofs.Tables.{at-within, words-le}
use Rattle.fm_rule_facts.specs.{Parts.{mapping_of}, Steps.{HasPlace}, Views.{View, In, IsSound}}

-- A place is a word of the table.
pub place_small : {v : View} {word place : ℕ} → IsSound v → HasPlace v word place → place < 2 ^ 32
place_small {v = v} {word = word} {place = place} sound h =
    let z : Shape = v.shape in
    let some : 0 < v.shape.page_words = (let l = sound.valid.page_words.0 in omega arith) in
    let below = at-within z (page_word h.page (word % z.page_words)) (h.low, mod-lt word some) in
    let small = words-le z sound.valid in
    let is = h.is in
    omega arith

page_word_on : (z : Shape) (p o k : ℕ) → at z (page_word p o) + k ≡ at z (page_word p (o + k))
unfolding at
page_word_on z p o k = let x : ℕ = p * z.page_words in omega arith

-- Words behind one in its page stand behind it.
pub place_behind : {v : View} {word place : ℕ} (k : ℕ) → HasPlace v word place → word % v.shape.page_words + k < v.shape.page_words → HasPlace v (word + k) (place + k)
place_behind {v = v} {word = word} {place = place} k h fits =
    let z : Shape = v.shape in
    let size : ℕ = z.page_words in
    let part : ℕ = word / size in
    let o : ℕ = word % size in
    let all : word / size * size + word % size ≡ word = div-add-mod' word size in
    let x : ℕ = word / size * size in
    let whole : word + k ≡ x + (o + k) = omega arith in
    let in_part : (word + k) / size ≡ part = ap (λ (n : ℕ). n / size) whole ∙ div-mul-add part size (o + k) fits in
    let in_page : (word + k) % size ≡ o + k = ap (λ (n : ℕ). n % size) whole ∙ mod-mul-add part size (o + k) fits in
    record {
      page = h.page;
      low = h.low;
      read = subst (λ (n : ℕ). In (mapping_of n h.page) v.reads) (sym in_part) h.read;
      is = ap (λ (n : ℕ). n + k) h.is ∙ page_word_on z h.page o k ∙ ap (λ (n : ℕ). at z (page_word h.page n)) (sym in_page);
    }
