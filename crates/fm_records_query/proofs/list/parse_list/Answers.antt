use Rattle.std.proofs.Common.{refl}
use Rattle.fm_records_query.{specs.Lists.{list_of}, proofs.{Lists.{list_is_query, list_refused}, Plans.{is_plan}}}
use Rattle.fm_records_query.proofs.list.parse_list.Goals as goal

pub of-requires-in-Ok-resolve_all : goal.of-requires-in-Ok-resolve_all
of-requires-in-Ok-resolve_all c =
    is_plan c.args.layout.now (list_of c.of.result) _ _ _ _ _ _ c.size.ensures.well_formed c.requires
    (list_is_query c.of.result (rw c.of.ensures c.in-Ok.ensures.path.is_path)) refl refl
    c.size.ensures.size c.alignment.ensures.alignment c.in-Ok-resolve_all.ensures.resolved (rw c.new.ensures.items tt)

pub returns-clause-refused : goal.returns-clause-refused
returns-clause-refused c =
    list_refused c.args.layout.now c.args.text.now c.of.result c.in-Err-resolve_all.refusal (rw c.of.ensures c.in-Ok.ensures.path)
    c.in-Err-resolve_all.ensures.refused
