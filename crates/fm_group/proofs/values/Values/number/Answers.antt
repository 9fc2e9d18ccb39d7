use Rattle.std.proofs.Common.{ap, sym, ◌∙◌}
use Rattle.fm_group.{specs.{Values.{Valued}}, proofs.{ReadingOne.{lies_as, reads_as, read_outside}}}
use Rattle.fm_group.proofs.values.Values.number.Goals as goal

pub number_of_value-requires-clause-lies : goal.number_of_value-requires-clause-lies
number_of_value-requires-clause-lies g c =
    lies_as c.args.self.now c.requires.are c.requires.below (sym (ap (λ (v : Valued). v.records) c.self.view_is)) c.place_of.ensures
    (c.value.ensures ∙ ap (λ (v : Valued). v.path.value) c.self.view_is)

pub returns-clause-did : goal.returns-clause-did
returns-clause-did g c =
    reads_as c.args.self.now c.args.ordinal c.number_of_value.result (sym (ap (λ (v : Valued). v.records) c.self.view_is)) c.place_of.ensures
    (c.value.ensures ∙ ap (λ (v : Valued). v.path.value) c.self.view_is) c.number_of_value.ensures

pub returns-clause-outside : goal.returns-clause-outside
returns-clause-outside g c =
    read_outside c.args.self.now c.args.ordinal c.number_of_value.result c.requires.outside
    (reads_as c.args.self.now c.args.ordinal c.number_of_value.result (sym (ap (λ (v : Valued). v.records) c.self.view_is)) c.place_of.ensures
    (c.value.ensures ∙ ap (λ (v : Valued). v.path.value) c.self.view_is) c.number_of_value.ensures)
