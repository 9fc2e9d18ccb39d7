use Rattle.std.proofs.Common.{◌≡◌, List, [], ◌∷◌, ◌++◌, sym, ap, ◌∙◌, subst, Ok}
use Rattle.fm_base.specs.View.{Did}
use Rattle.fm_segment.specs.Region.{Region}
use Rattle.fm_records.specs.{Learnt.{CanQuery}, Query.{DoesQuery}}
use Rattle.fm_workers_shares.{specs.{declared.answers.Done.{Done}, Shares.{Cut, cut}}, proofs.Serving.{can_query_share, served_one, served_wants}}
use Rattle.fm_workers_shares.proofs.shares.SharesJobAnswers.share.Goals as goal

pub returns-then-is_err-clause-did : goal.returns-then-is_err-clause-did
returns-then-is_err-clause-did g c = served_wants c.args.self.now (g.M.Memory.view c.args.m.now) c.args.number c.args.part.now c.reserve.new.self.items c.requires.can

pub query_segment-requires : goal.query_segment-requires
query_segment-requires g c =
    let v = g.M.Memory.view c.args.m.now in
    let same : cut c.self.inside.query.now c.self.inside.segment.now c.self.inside.each ≡ c.args.self.now = c.self.view_is in
    subst (λ (k : Cut). CanQuery v k.plan c.numbered-share.result) (sym same)
    (subst (λ (r : Region). CanQuery v c.args.self.now.plan r) (sym c.numbered-share.ensures.share)
    (can_query_share c.args.self.now v c.args.number c.numbered-share.ensures.whole c.requires.outside c.requires.can))

pub returns-clause-did : goal.returns-clause-did
returns-clause-did g c =
    let v = g.M.Memory.view c.args.m.now in
    let u = g.M.Memory.view c.query_segment.new.m in
    let same : cut c.self.inside.query.now c.self.inside.segment.now c.self.inside.each ≡ c.args.self.now = c.self.view_is in
    let did : Did v u (DoesQuery v.caller c.self.inside.query.now c.numbered-share.result (Ok c.in_ok-answer.answer)) =
    subst (λ r. Did v u (DoesQuery v.caller c.self.inside.query.now c.numbered-share.result r)) c.in_ok-answer.was c.query_segment.ensures.did in
    served_one c.args.self.now c.args.part.now c.push_reserved.new.self.items (record { job = c.args.number; answer = c.in_ok-answer.answer }) tt
    (subst (λ (r : Region). Did v u (DoesQuery v.caller c.args.self.now.plan r (Ok c.in_ok-answer.answer))) c.numbered-share.ensures.share
    (subst (λ (k : Cut). Did v u (DoesQuery v.caller k.plan c.numbered-share.result (Ok c.in_ok-answer.answer))) same did))
    (c.push_reserved.ensures.items
    ∙ ap (λ (ds : List Done). ds ++ record { job = c.args.number; answer = c.in_ok-answer.answer } ∷ []) (c.reserve.ensures.items ∙ c.part.view_is))
