use Rattle.std.proofs.{lemmas.Int.{to_z-of_z}}
use Rattle.std.proofs.Common.{rules, w64, ◌≡◌, Some, None, Ok, Err, refl, ap, sym, ◌∙◌, subst}
use Rattle.std.proofs.lemmas.Result.{err_from_is_err_and}
use Rattle.fm_group.specs.{Asked.{CanValue}, Table.{Counter, named_by}}
use Rattle.fm_group.proofs.{Naming.{named_one}, Lasting.{can_later, can_less, can_value}, OnePlace.{counts_same, counts_there, passes_other, passes_unnamed, stops_shut, stops_uncounted, stops_unread}, ReadingOne.{read_as}}
use Rattle.fm_group.proofs.table.CountTable.try_place.Goals as goal

pub returns-in_err-claim-clause-did : goal.returns-in_err-claim-clause-did
returns-in_err-claim-clause-did g c =
    let p = err_from_is_err_and c.from_residual.result c.from_residual.ensures.1 in
    rw (p.1, p.2) (stops_shut c.args.self.now c.args.ordinal c.args.place c.args.number c.in_err-claim.field-0.0 c.in_err-claim.ensures.did)

pub returns-then-claim-eq0-clause-did : goal.returns-then-claim-eq0-clause-did
returns-then-claim-eq0-clause-did g c = counts_there c.args.number c.in_ok-claim.ensures.did c.if-claim-eq0.true

pub returns-in-None-clause-did : goal.returns-in-None-clause-did
returns-in-None-clause-did g c =
    let values = sym (ap (λ (w : Counter). w.values) c.self.view_is) in
    let none : named_by c.args.self.now.values c.in_ok-claim.claim ≡ None = ap (λ v. named_by v c.in_ok-claim.claim) values ∙ sym c.named.ensures ∙ c.in-None.is in
    passes_unnamed c.args.number c.in_ok-claim.ensures.did c.if-claim-eq0.false none

pub number-requires : goal.number-requires
number-requires g c =
    let values = sym (ap (λ (w : Counter). w.values) c.self.view_is) in
    let names : named_by c.args.self.now.values c.in_ok-claim.claim ≡ Some c.in-Some.other =
    ap (λ v. named_by v c.in_ok-claim.claim) values ∙ sym c.named.ensures ∙ c.in-Some.is in
    subst (λ v. CanValue (g.M.Memory.view c.claim.new.m) v c.in-Some.other) values
    (can_value c.requires c.in_ok-claim.ensures.did c.in_ok-claim.ensures.outside (named_one c.args.self.now.values c.in_ok-claim.claim c.in-Some.other names))

pub returns-in_err-found-clause-did : goal.returns-in_err-found-clause-did
returns-in_err-found-clause-did g c =
    let p = err_from_is_err_and c.from_residual-in_err-found.result c.from_residual-in_err-found.ensures.1 in
    let values = sym (ap (λ (w : Counter). w.values) c.self.view_is) in
    let names : named_by c.args.self.now.values c.in_ok-claim.claim ≡ Some c.in-Some.other =
    ap (λ v. named_by v c.in_ok-claim.claim) values ∙ sym c.named.ensures ∙ c.in-Some.is in
    rw (p.1, p.2) (stops_unread c.args.number c.in_ok-claim.ensures.did c.if-claim-eq0.false names c.in_err-found.field-0.0
    (read_as c.in-Some.other (Err c.in_err-found.field-0.0) (sym values) c.in_err-found.ensures.did))

pub returns-then-not-is_same-clause-did : goal.returns-then-not-is_same-clause-did
returns-then-not-is_same-clause-did g c =
    let values = sym (ap (λ (w : Counter). w.values) c.self.view_is) in
    let names : named_by c.args.self.now.values c.in_ok-claim.claim ≡ Some c.in-Some.other =
    ap (λ v. named_by v c.in_ok-claim.claim) values ∙ sym c.named.ensures ∙ c.in-Some.is in
    let found = to_z-of_z w64 c.in_ok-found.found (search (rules, c.number.type_inv)) in
    let mine = to_z-of_z w64 c.args.number (search (rules, c.ranges.number)) in
    passes_other c.args.number c.in_ok-claim.ensures.did c.if-claim-eq0.false names c.in_ok-found.found (λ e. c.if-not-is_same.ensures.no refl (found ∙ e ∙ sym mine))
    (read_as c.in-Some.other (Ok c.in_ok-found.found) (sym values) c.in_ok-found.ensures.did)

pub add_one-requires : goal.add_one-requires
add_one-requires g c = can_less (can_later (can_later c.requires c.in_ok-claim.ensures.did c.in_ok-claim.ensures.outside) c.in_ok-found.ensures.did c.in_ok-found.ensures.outside)

pub returns-clause-did : goal.returns-clause-did
returns-clause-did g c =
    let values = sym (ap (λ (w : Counter). w.values) c.self.view_is) in
    let names : named_by c.args.self.now.values c.in_ok-claim.claim ≡ Some c.in-Some.other =
    ap (λ v. named_by v c.in_ok-claim.claim) values ∙ sym c.named.ensures ∙ c.in-Some.is in
    let found = to_z-of_z w64 c.in_ok-found.found (search (rules, c.number.type_inv)) in
    let mine = to_z-of_z w64 c.args.number (search (rules, c.ranges.number)) in
    counts_same c.args.number c.in_ok-claim.ensures.did c.if-claim-eq0.false names c.in_ok-found.found (sym found ∙ c.if-not-is_same.ensures.yes refl ∙ mine)
    (read_as c.in-Some.other (Ok c.in_ok-found.found) (sym values) c.in_ok-found.ensures.did) tt c.in_ok-add_one.ensures.did

pub returns-in_err-add_one-clause-did : goal.returns-in_err-add_one-clause-did
returns-in_err-add_one-clause-did g c =
    let p = err_from_is_err_and c.from_residual-in_err-add_one.result c.from_residual-in_err-add_one.ensures.1 in
    let values = sym (ap (λ (w : Counter). w.values) c.self.view_is) in
    let names : named_by c.args.self.now.values c.in_ok-claim.claim ≡ Some c.in-Some.other =
    ap (λ v. named_by v c.in_ok-claim.claim) values ∙ sym c.named.ensures ∙ c.in-Some.is in
    let found = to_z-of_z w64 c.in_ok-found.found (search (rules, c.number.type_inv)) in
    let mine = to_z-of_z w64 c.args.number (search (rules, c.ranges.number)) in
    rw (p.1, p.2) (stops_uncounted c.args.number c.in_ok-claim.ensures.did c.if-claim-eq0.false names c.in_ok-found.found (sym found ∙ c.if-not-is_same.ensures.yes refl ∙ mine)
    (read_as c.in-Some.other (Ok c.in_ok-found.found) (sym values) c.in_ok-found.ensures.did) c.in_err-add_one.field-0.0 c.in_err-add_one.ensures.did)
