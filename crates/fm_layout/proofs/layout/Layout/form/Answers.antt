use Rattle.std.proofs.Common.{◌∙◌, ap}
use Rattle.fm_layout.{specs.declared.form.Form.TheVariants.{Struct, Union}, proofs.Indexed.{count_of-trees}}
use Rattle.fm_layout.proofs.layout.Layout.form.Goals as goal

pub returns-in-Struct-clause-form : goal.returns-in-Struct-clause-form
returns-in-Struct-clause-form c = rw (← c.self.view_is, c.in-Struct.is, count_of-trees) (ap Struct (c.len.ensures ∙ c.in-Struct.members.ok.0))

pub returns-in-Union-clause-form : goal.returns-in-Union-clause-form
returns-in-Union-clause-form c = rw (← c.self.view_is, c.in-Union.is, count_of-trees) (ap Union (c.len-in-Union.ensures ∙ c.in-Union.members.ok.0))
