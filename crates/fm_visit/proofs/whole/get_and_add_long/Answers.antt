use Rattle.std.proofs.{Common.{w64, sym, ap, refl, ◌/◌, [], ◌∷◌, ◌∙◌}, lemmas.Int.{to_z-of_z}}
use Rattle.fm_base.specs.Calls.{Add, Found}
use Rattle.fm_segment.proofs.Exits.{gave}
use Rattle.fm_lanes.specs.declared.{value.Value.TheVariants.{Long}}
use Rattle.fm_handle.specs.{Acts.{AddsLong}, Alone.{AddsValue}, Place.{is_word}}
use Rattle.fm_handle.proofs.{Places.{whole_word, word_parts}, Visiting.{reaches}}
use Rattle.fm_visit.proofs.{Handles.{not_updated, one_act, updated, value_word}, Updating.{add_long_alone}}
use Rattle.fm_visit.proofs.whole.get_and_add_long.Goals as goal

pub returns-in_err-place : goal.returns-in_err-place
returns-in_err-place g c =
    let h = c.args.handle.now in
    let s = c.args.s.now in
    rw (gave c.from_residual.ensures.1) (not_updated c.args.base c.requires is_word (λ place. AddsLong s.arena place c.args.delta)
    (λ place x. AddsValue (g.M.Memory.view c.args.m.now) (g.M.Memory.view c.args.m.now) h.value s.arena place (Long c.args.delta) (Long x))
    (sym c.in_err-place.ensures.finds.place))

pub add-found-requires : goal.add-found-requires
add-found-requires g c = value_word c.requires c.in_ok-place.ensures.finds.stands

pub returns : goal.returns
returns g c =
    let h = c.args.handle.now in
    let s = c.args.s.now in
    let p = c.in_ok-place.place in
    let here = reaches c.in_ok-place.ensures.finds refl in
    let parts = word_parts h.value here.0 in
    let long = whole_word h s p here.1 parts.0 in
    let n = c.word_of.result in
    let found = c.add-found.result in
    let act = c.add-found.ensures in
    let one = rw (to_z-of_z w64 c.args.delta c.ranges.delta) at c.word_of.ensures in
    let d = one_act {Do = AddsLong s.arena p c.args.delta c.long_in.result} (λ id. Add id (p / 8) n) (Found found) c.requires.inside.inside act
    (record { word = found; adds = ap (λ m. (Add s.arena (p / 8) m, Found found) ∷ []) one; value = c.long_in.ensures }) in
    rw (to_z-of_z w64 c.long_in.result (record { sfits = c.long_in.type_inv })) (updated c.args.base c.requires is_word (λ place. AddsLong s.arena place c.args.delta)
    (λ place x. AddsValue (g.M.Memory.view c.args.m.now) (g.M.Memory.view c.add-found.new.self) h.value s.arena place (Long c.args.delta) (Long x))
    (sym c.in_ok-place.ensures.finds.place) d (act.inside ∙ c.requires.inside.inside) (λ q. add_long_alone long parts.1 d q))
