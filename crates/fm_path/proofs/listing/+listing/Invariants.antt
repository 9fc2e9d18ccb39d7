use Rattle.std.{proofs.Common.{◌+◌, ◌*◌}, specs.String.{string_bytes}}
use Rattle.fm_layout.specs.Depth.{depth}
use Rattle.fm_path.proofs.{Noted.{HasNoted}, Texts.{IsListing}}
use Rattle.fm_path.proofs.listing.+listing.Given as goal

abbrev pub decreases-list : goal.decreases-list
decreases-list l = 2 * depth l.layout.now + 1

abbrev pub decreases-list_element : goal.decreases-list_element
decreases-list_element l = 2 * depth l.layout.now

abbrev pub decreases-list_members : goal.decreases-list_members
decreases-list_members l = 2 * depth l.layout.now

abbrev pub invariant-list_members-loop-i : goal.invariant-list_members-loop-i
invariant-list_members-loop-i l =
    IsListing (string_bytes l.fn.text) (string_bytes l.text) l.path l.at l.dims l.layout l.i l.inner × HasNoted l.names l.layout l.i
