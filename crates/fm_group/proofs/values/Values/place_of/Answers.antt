use Rattle.std.proofs.Common.{ap, ◌∙◌, subst, arith}
use Rattle.fm_group.{specs.{Values.{AreValued, Valued}}, proofs.{Standing.{is_offset, place_near, steady_there}}}
use Rattle.fm_group.proofs.values.Values.place_of.Goals as goal

pub offset_of-offset-requires-clause-steady : goal.offset_of-offset-requires-clause-steady
offset_of-offset-requires-clause-steady c =
    let v = c.args.self.now in
    steady_there v (subst AreValued c.self.view_is c.self.invariant.0) c.args.ordinal c.requires (c.offset.ensures ∙ ap (λ (u : Valued). u.path.offset) c.self.view_is)
    (c.as_slice.ensures ∙ c.dims.ensures ∙ ap (λ (u : Valued). u.path.dims) c.self.view_is) c.parts_of-record.ensures.index

pub overflow_add-result : goal.overflow_add-result
overflow_add-result c =
    let v = c.args.self.now in
    let are = subst AreValued c.self.view_is c.self.invariant.0 in
    let is = is_offset v are c.args.ordinal c.requires (c.offset.ensures ∙ ap (λ (u : Valued). u.path.offset) c.self.view_is)
    (c.as_slice.ensures ∙ c.dims.ensures ∙ ap (λ (u : Valued). u.path.dims) c.self.view_is) c.parts_of-record.ensures.index
    c.offset_of-offset.result c.parts_of-record.ensures.record (c.root_size.ensures ∙ ap (λ (u : Valued). u.path.root_size) c.self.view_is) c.offset_of-offset.ensures in
    let near = place_near v c.args.ordinal are c.requires in
    omega (arith, is, near)

pub overflow_add-result-2 : goal.overflow_add-result-2
overflow_add-result-2 c =
    let v = c.args.self.now in
    let are = subst AreValued c.self.view_is c.self.invariant.0 in
    let is = is_offset v are c.args.ordinal c.requires (c.offset.ensures ∙ ap (λ (u : Valued). u.path.offset) c.self.view_is)
    (c.as_slice.ensures ∙ c.dims.ensures ∙ ap (λ (u : Valued). u.path.dims) c.self.view_is) c.parts_of-record.ensures.index
    c.offset_of-offset.result c.parts_of-record.ensures.record (c.root_size.ensures ∙ ap (λ (u : Valued). u.path.root_size) c.self.view_is) c.offset_of-offset.ensures in
    let near = place_near v c.args.ordinal are c.requires in
    let first = c.first.ensures.first ∙ ap (λ (u : Valued). u.records.first) c.self.view_is in
    omega (arith, is, near, first)

pub returns : goal.returns
returns c =
    let v = c.args.self.now in
    let are = subst AreValued c.self.view_is c.self.invariant.0 in
    let is = is_offset v are c.args.ordinal c.requires (c.offset.ensures ∙ ap (λ (u : Valued). u.path.offset) c.self.view_is)
    (c.as_slice.ensures ∙ c.dims.ensures ∙ ap (λ (u : Valued). u.path.dims) c.self.view_is) c.parts_of-record.ensures.index
    c.offset_of-offset.result c.parts_of-record.ensures.record (c.root_size.ensures ∙ ap (λ (u : Valued). u.path.root_size) c.self.view_is) c.offset_of-offset.ensures in
    let first = c.first.ensures.first ∙ ap (λ (u : Valued). u.records.first) c.self.view_is in
    omega (arith, is, first)
