-- Segments that can be accessed.
use Rattle.std.specs.Prelude.{◌≡◌, None}
use Rattle.fm_base.specs.View.{View}
use Rattle.fm_segment.specs.{Access.{IsKnown}, Region.{Region}}

-- the caller is in no arena, and the segment is known
pub record CanAccess (v : View) (r : Region) : Type 0 where
  pub outside : v.inside ≡ None
  pub known : IsKnown v r

-- both can be accessed
pub record AreReady (v : View) (a b : Region) : Type 0 where
  pub first : CanAccess v a
  pub second : CanAccess v b
