use Rattle.std.proofs.Common.{◌≡◌, ◌+◌, ◌-◌, ◌++◌, ◌∷◌, [], List, refl, ap, sym, ◌∙◌, arith}
use Rattle.fm_top_chunks.specs.declared.keeper.Back.{Back}
use Rattle.fm_top_chunks.proofs.Coming.{came_back}
use Rattle.fm_top_chunks.proofs.coming_back.take_back.Goals as goal

pub returns : goal.returns
returns g c =
    let s = c.take-served.result in
    let one : Back = record { number = s.number; arena = s.arena; count = s.count; answer = s.answer } in
    let some = c.requires.some in
    came_back g.K.Terms.home g.K.Terms.limit g.K.Terms.plan g.K.Terms.stands s one c.requires c.take-served.ensures.promise c.meet.ensures
    (record { number = refl; arena = refl; count = refl; answer = refl }) (omega arith)
    (c.push_reserved.ensures.items ∙ ap (λ (bs : List Back). bs ++ one ∷ []) c.reserve.ensures.items) c.take-served.ensures.account refl refl
