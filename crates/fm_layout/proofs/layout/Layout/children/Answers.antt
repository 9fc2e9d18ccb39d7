use Rattle.fm_layout.proofs.Whole.{list_of-trees}
use Rattle.fm_layout.proofs.layout.Layout.children.Goals as goal

pub returns-in-Struct : goal.returns-in-Struct
returns-in-Struct c = rw (← c.self.view_is, c.in-Struct.is, list_of-trees) c.deref-in-Struct.ensures.value

pub returns-in-Union : goal.returns-in-Union
returns-in-Union c = rw (← c.self.view_is, c.in-Union.is, list_of-trees) c.deref-in-Union.ensures.value
