use Rattle.std.proofs.{Common.{refl}, lemmas.Result.{err_from_is_err_and}}
use Rattle.fm_group.{proofs.GroupsRead.{can_read_places, groups_may_not, groups_read, groups_unread, groups_unsummed}}
use Rattle.fm_group.proofs.table.CountTable.read_groups.Goals as goal

pub returns-then-not-may_count : goal.returns-then-not-may_count
returns-then-not-may_count g c = groups_may_not c.requires (c.if-not-may_count.ensures.no refl)

pub read_places-requires : goal.read_places-requires
read_places-requires g c = can_read_places c.may_count.ensures.can c.requires (c.if-not-may_count.ensures.yes refl)

pub returns-in_err-found : goal.returns-in_err-found
returns-in_err-found g c =
    let p = err_from_is_err_and c.from_residual.result c.from_residual.ensures.1 in
    rw (p.1, p.2) (groups_unread c.requires (c.if-not-may_count.ensures.yes refl) c.in_err-found.field-0.0 c.in_err-found.ensures.did c.in_err-found.ensures.outside)

pub returns-in_err-groups : goal.returns-in_err-groups
returns-in_err-groups g c =
    let p = err_from_is_err_and c.from_residual-in_err-groups.result c.from_residual-in_err-groups.ensures.1 in
    rw (p.1, p.2) (groups_unsummed c.requires (c.if-not-may_count.ensures.yes refl) c.in_ok-found.found.items c.in_ok-found.ensures.did c.in_ok-found.ensures.outside
    c.in_err-groups.ensures.wants)

pub returns : goal.returns
returns g c =
    groups_read c.requires (c.if-not-may_count.ensures.yes refl) c.in_ok-found.found.items c.in_ok-found.ensures.did c.in_ok-found.ensures.outside
    c.in_ok-groups.groups c.in_ok-groups.ensures.summed
