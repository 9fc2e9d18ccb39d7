use Rattle.std.proofs.Common.{◌≡◌, ◌+◌, ◌*◌, ◌/◌, ◌<◌, ◌≤◌, ◌^◌, max, ℕ, refl, ap, sym, subst, ◌∙◌, arith}
use Rattle.std.specs.Int.{IsPowerOfTwo}
use Rattle.fm_words.specs.{Shapes.{IsValid}, declared.shape.Shape.{Shape}}
use Rattle.fm_top_pooled.proofs.Shapes.{can_be, covering, few_parts, has_room, least_power, one_or_two, parts_are, short_page}
use Rattle.fm_top_pooled.proofs.shape.shape_for.Goals as goal

-- how many words a page has at least
least : (c : goal.After-max-2) → c.div_ceil.result ≡ covering (covering c.max.result 8) 32
least c = c.div_ceil.ensures ∙ ap (λ (n : ℕ). covering n 32) c.div_ceil-words.ensures

some_words : (c : goal.After-max-2) → 0 < c.max-page_words.result
some_words c = let wide = c.max-page_words.ensures in omega (arith, wide)

few : (c : goal.After-max-2) (size : ℕ) → size ≤ c.max.result → covering size (8 * c.max-page_words.result) ≤ 32
few c size less =
    let wide = c.max-page_words.ensures in
    let enough = c.next_power_of_two.ensures.lower_bound in
    few_parts size c.max.result c.max-page_words.result (some_words c) less
    (subst (λ (n : ℕ). n ≤ c.max-page_words.result) (least c) (omega (arith, wide, enough)))

pub returns-clause-valid : goal.returns-clause-valid
returns-clause-valid c =
    let next = c.next_power_of_two.ensures in
    let most = c.max.ensures in
    let short = c.requires.room in
    let less = c.requires.beside in
    let words = c.div_ceil-words.ensures in
    let pages = c.div_ceil.ensures in
    let high : c.next_power_of_two.result ≤ 2 ^ 18 =
    least_power c.next_power_of_two.result c.div_ceil.result 18 next.power next.upper_bound (omega (arith, most, short, less, words, pages)) in
    let wide = c.max-page_words.ensures in
    let first = c.div_ceil-2.ensures in
    let one = c.max-first.ensures in
    let second = c.div_ceil-second.ensures in
    let few_first = few c c.args.room (omega (arith, most)) in
    let few_second = few c c.args.beside (omega (arith, most)) in
    let slots = one_or_two c.args.beside c.slots_for.result c.slots_for.ensures.one c.slots_for.ensures.two in
    subst (λ (n : ℕ). IsValid (record {
      passes = 17;
      slots = c.slots_for.result;
      pages = c.max-first.result + c.div_ceil-second.result;
      page_words = c.max-page_words.result;
      reach = n;
      generations = 1;
    })) (sym c.max-2.ensures)
    (can_be c.slots_for.result c.max-first.result c.div_ceil-second.result c.max-page_words.result slots.0 slots.1
    (omega (arith, one)) (omega (arith, one, first, few_first)) (omega (arith, second, few_second)) (some_words c) (omega (arith, wide, high)))

pub returns-clause-made : goal.returns-clause-made
returns-clause-made c =
    let w = c.max-page_words.result in
    let wide = c.max-page_words.ensures in
    let reach = c.max-2.ensures in
    let one = c.max-first.ensures in
    let first = c.div_ceil-2.ensures in
    let second = c.div_ceil-second.ensures in
    let z : Shape = record {
      passes = 17;
      slots = c.slots_for.result;
      pages = c.max-first.result + c.div_ceil-second.result;
      page_words = c.max-page_words.result;
      reach = c.max-2.result;
      generations = 1;
    } in
    let parts_first = parts_are z c.args.room (some_words c) in
    let parts_second = parts_are z c.args.beside (some_words c) in
    record {
      passes = refl;
      one = c.slots_for.ensures.one;
      two = c.slots_for.ensures.two;
      first = has_room c.args.room w c.max-2.result (some_words c) (omega (arith, reach, one, first));
      second = has_room c.args.beside w c.max-2.result (some_words c) (omega (arith, reach, second));
      pages = omega (arith, one, first, second, parts_first, parts_second);
      reach = omega (arith, reach, one, first, second, parts_first, parts_second);
      wide = omega (arith, wide);
      short = λ long.
          let next = c.next_power_of_two.ensures in
          let power : w ≡ c.next_power_of_two.result = omega (arith, wide, long) in
          subst (λ (n : ℕ). 128 * w < n) c.max.ensures
          (short_page w c.max.result (subst IsPowerOfTwo (sym power) next.power)
          (subst (λ (n : ℕ). w / 2 < max 1 n) (least c) (subst (λ (n : ℕ). n / 2 < max 1 c.div_ceil.result) (sym power) next.upper_bound)) long);
    }
