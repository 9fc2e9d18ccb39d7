use Rattle.std.proofs.{Common.{w64, sym, ap, refl, ◌/◌, ◌∙◌}, lemmas.Int.{to_z-of_z}}
use Rattle.fm_base.specs.Calls.{SwapIf, Found}
use Rattle.fm_segment.proofs.Exits.{gave}
use Rattle.fm_lanes.specs.declared.value.Value.TheVariants.{Long}
use Rattle.fm_handle.specs.{Acts.{ExchangesLong, word_of}, Alone.{ExchangesValue}, Place.{fills_word}}
use Rattle.fm_handle.proofs.{Places.{whole_word}, Visiting.{reaches}, Words.{word_means}}
use Rattle.fm_visit.proofs.{Handles.{not_updated, one_act, updated, value_word}, Updating.{exchange_long_alone}}
use Rattle.fm_visit.proofs.whole.compare_and_exchange_long.Goals as goal

pub returns-in_err-place : goal.returns-in_err-place
returns-in_err-place g c =
    let h = c.args.handle.now in
    let s = c.args.s.now in
    rw (gave c.from_residual.ensures.1) (not_updated c.args.base c.requires fills_word
    (λ place. ExchangesLong h.value.order s.arena place c.args.expected c.args.v)
    (λ place x. ExchangesValue (g.M.Memory.view c.args.m.now) (g.M.Memory.view c.args.m.now) h.value s.arena place (Long c.args.expected) (Long c.args.v) (Long x))
    (sym c.in_err-place.ensures.finds.place))

pub swap_if-found-requires : goal.swap_if-found-requires
swap_if-found-requires g c = value_word c.requires c.in_ok-place.ensures.finds.stands

pub returns : goal.returns
returns g c =
    let h = c.args.handle.now in
    let s = c.args.s.now in
    let p = c.in_ok-place.place in
    let here = reaches c.in_ok-place.ensures.finds refl in
    let long = whole_word h s p here.1 here.0 in
    let a = c.word_of.result in
    let b = c.word_of-2.result in
    let found = c.swap_if-found.result in
    let act = c.swap_if-found.ensures in
    let order = ap (λ s. s.order) (c.value.ensures ∙ ap (λ r. r.value) c.resolved.ensures) in
    let one = rw (to_z-of_z w64 c.args.expected c.ranges.expected) at c.word_of.ensures in
    let two = rw (to_z-of_z w64 c.args.v c.ranges.v) at c.word_of-2.ensures in
    let first = one ∙ ap (λ o. word_of o c.args.expected) order in
    let second = two ∙ ap (λ o. word_of o c.args.v) order in
    let d = one_act {Do = ExchangesLong h.value.order s.arena p c.args.expected c.args.v c.long_in.result} (λ id. SwapIf id (p / 8) a b) (Found found)
    c.requires.inside.inside act (record {
      word = found;
      small = c.swap_if-found.type_inv;
      swaps = rw (first, second) refl;
      value = rw (← order) c.long_in.ensures;
    }) in
    rw (to_z-of_z w64 c.long_in.result (record { sfits = c.long_in.type_inv })) (updated c.args.base c.requires fills_word (λ place. ExchangesLong h.value.order s.arena place c.args.expected c.args.v)
    (λ place x. ExchangesValue (g.M.Memory.view c.args.m.now) (g.M.Memory.view c.swap_if-found.new.self) h.value s.arena place (Long c.args.expected) (Long c.args.v) (Long x))
    (sym c.in_ok-place.ensures.finds.place) d (act.inside ∙ c.requires.inside.inside)
    (λ q. exchange_long_alone long (word_means h.value.order c.args.expected c.ranges.expected) d q))
