use Rattle.fm_layout.proofs.Indexed.{tree_at-trees, got}
use Rattle.fm_layout.proofs.layout.Layout.member.Goals as goal

pub returns-in-Struct : goal.returns-in-Struct
returns-in-Struct c = rw (
  ← c.self.view_is,
  c.in-Struct.is,
  tree_at-trees,
  ← c.deref.ensures.value,
) (got _ _ c.get.result _ c.get.ensures.lookup.1 c.get.ensures.lookup.3)

pub returns-in-Union : goal.returns-in-Union
returns-in-Union c = rw (
  ← c.self.view_is,
  c.in-Union.is,
  tree_at-trees,
  ← c.deref-in-Union.ensures.value,
) (got _ _ c.get-in-Union.result _ c.get-in-Union.ensures.lookup.1 c.get-in-Union.ensures.lookup.3)
