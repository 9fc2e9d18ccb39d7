use Rattle.std.proofs.{Common.{w64, sym, ap, refl, ◌/◌, [], ◌∷◌, ◌∙◌}, lemmas.Int.{to_z-of_z}}
use Rattle.fm_base.specs.Calls.{Write, Fine}
use Rattle.fm_segment.proofs.Exits.{gave}
use Rattle.fm_lanes.specs.declared.value.Value.TheVariants.{Long}
use Rattle.fm_handle.specs.{Acts.{Stores, word_of}, Alone.{PutsValue}, Place.{fills_word}}
use Rattle.fm_handle.proofs.{Places.{whole_word}, Visiting.{reaches}}
use Rattle.fm_visit.proofs.{Handles.{not_updated, one_act, updated, value_word}, Updating.{store_alone}}
use Rattle.fm_visit.proofs.whole.set_long.Goals as goal

pub returns-in_err-place : goal.returns-in_err-place
returns-in_err-place g c =
    let h = c.args.handle.now in
    let s = c.args.s.now in
    rw (gave c.from_residual.ensures.1) (not_updated c.args.base c.requires fills_word (λ place u. Stores s.arena place (word_of h.value.order c.args.v))
    (λ place u. PutsValue (g.M.Memory.view c.args.m.now) (g.M.Memory.view c.args.m.now) h.value s.arena place (Long c.args.v))
    (sym c.in_err-place.ensures.finds.place))

pub store-requires : goal.store-requires
store-requires g c = value_word c.requires c.in_ok-place.ensures.finds.stands

pub returns : goal.returns
returns g c =
    let h = c.args.handle.now in
    let s = c.args.s.now in
    let p = c.in_ok-place.place in
    let here = reaches c.in_ok-place.ensures.finds refl in
    let long = whole_word h s p here.1 here.0 in
    let w = c.word_of.result in
    let a = c.store.ensures in
    let one = rw (to_z-of_z w64 c.args.v c.ranges.v) at c.word_of.ensures in
    let is = one ∙ ap (λ o. word_of o c.args.v) (ap (λ s. s.order) (c.value.ensures ∙ ap (λ r. r.value) c.resolved.ensures)) in
    let d = one_act {Do = Stores s.arena p (word_of h.value.order c.args.v)} (λ id. Write id (p / 8) w) Fine c.requires.inside.inside a
    (ap (λ n. (Write s.arena (p / 8) n, Fine) ∷ []) is) in
    updated c.args.base c.requires fills_word (λ place u. Stores s.arena place (word_of h.value.order c.args.v))
    (λ place u. PutsValue (g.M.Memory.view c.args.m.now) (g.M.Memory.view c.store.new.self) h.value s.arena place (Long c.args.v))
    (sym c.in_ok-place.ensures.finds.place) d (a.inside ∙ c.requires.inside.inside) (λ q. store_alone long d q)
