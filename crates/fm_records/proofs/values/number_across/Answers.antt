-- A value in two words, each kept or read.
use Rattle.std.proofs.{Common.{◌≡◌, ◌∙◌, ◌/◌, ◌+◌, ap, w64, rules}, lemmas.Int.{to_z-of_z}}
use mir.Val.{to_z, of_z}
use Rattle.fm_base.specs.declared.refusal.Refusal.TheVariants.{Closed}
use Rattle.fm_records.{specs.Words.{if_new, kept_after}, proofs.{Getting.{closed_high, closed_low, got_across}, Seeing.{sees_still, word_above, word_of_place}}}
use Rattle.fm_lanes.proofs.Meaning.{width_of-bounds}
use Rattle.fm_records.proofs.values.number_across.Goals as goal

pub fetch-requires-clause-word : goal.fetch-requires-clause-word
fetch-requires-clause-word g c = word_of_place c.requires.lies (width_of-bounds c.args.value.now.kind).0

pub returns-in-None : goal.returns-in-None
returns-in-None g c =
    closed_low c.args.value.now c.args.place g.K.Keep.keeps (g.K.Keep.kept c.args.kept.now) _ c.requires.across c.find-known.ensures c.find-known_above.ensures Closed
    c.in-None.ensures

pub fetch-requires-2-clause-can : goal.fetch-requires-2-clause-can
fetch-requires-2-clause-can g c = sees_still c.requires.can c.in-Some.ensures

pub fetch-requires-2-clause-word : goal.fetch-requires-2-clause-word
fetch-requires-2-clause-word g c = word_above c.requires.lies c.requires.across

pub returns-in-None-fetch : goal.returns-in-None-fetch
returns-in-None-fetch g c =
    closed_high c.args.value.now c.args.place g.K.Keep.keeps (g.K.Keep.kept c.args.kept.now) _ c.requires.across c.find-known.ensures c.find-known_above.ensures c.in-Some.low
    c.in-Some.ensures Closed c.in-None-fetch.ensures

pub returns : goal.returns
returns g c =
    let z = c.number_between.result in
    let read : to_z w64 (of_z w64 z) ≡ z = to_z-of_z w64 z (search (rules, c.number_between.type_inv)) in
    got_across c.args.value.now c.args.place g.K.Keep.keeps (g.K.Keep.kept c.args.kept.now) _ c.requires.across c.find-known.ensures
    c.find-known_above.ensures c.in-Some.low c.in-Some.ensures c.in-Some-fetch.high _
    (c.learn-2.ensures ∙ ap (λ k. kept_after g.K.Keep.keeps k (if_new c.find-known_above.result (c.args.place / 8 + 1) c.in-Some-fetch.high)) c.learn.ensures)
    (read ∙ c.number_between.ensures) c.in-Some-fetch.ensures
