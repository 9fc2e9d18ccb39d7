use Rattle.std.proofs.{Common.{List, subst}, lemmas.Result.{IfOk-weaker}}
use Rattle.fm_group.specs.Values.{all_numbers}
use Rattle.fm_group_lists.specs.Groups.{AreSummed, Group}
use Rattle.fm_c_calls.proofs.{Grouping.{once_grouped}, Valued.{numbers_few}}
use Rattle.fm_c_calls.proofs.groups.groups_over.Goals as goal

pub returns : goal.returns
returns c =
    IfOk-weaker c.of.result _ _
    (λ gs summed. once_grouped (all_numbers c.args.path.now c.args.records.now) gs (numbers_few c.requires.values c.requires.whole)
    (subst (λ (ps : List Group). AreSummed ps gs) c.in_ok-each.ensures summed)) c.of.ensures.summed
