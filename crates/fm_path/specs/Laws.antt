-- Where the places of a layout lie, and what its lines are of them.
use Rattle.std.specs.Prelude.{◌≡◌, ℕ, pos, ◌+◌, ◌-◌, ◌%◌, ◌^◌, ◌≤◌, min, Ok, List, [], map}
use Rattle.fm_layout.specs.{Tree.{Tree, alignment_of}, Size.{size_of}, Parts.{form_of, IsValue}}
use Rattle.fm_layout.specs.declared.form.Form.TheVariants as form
use Rattle.fm_base_lists.specs.Among.{IsAmong}
use Rattle.fm_path_meaning.specs.{declared.dim.Dim.{Dim}, Places.{Place, places, Apart}, Follow.{follow}, Walk.{AreAdmitted, offset_at}}
use Rattle.fm_path.specs.{Listing.{Line, lines}, Resolution.{Resolution, IsResolved}}

-- each place ends within the layout
abbrev pub LieInside : Tree → Type 0
LieInside t = (p : Place) → IsAmong p (places t) → p.offset + size_of p.layout ≤ size_of t

-- each place stands at a multiple of its alignment
abbrev pub LieAligned : Tree → Type 0
LieAligned t = (p : Place) → IsAmong p (places t) → p.offset % alignment_of p.layout ≡ 0

-- two values are one, or share no byte, or the first step in which they differ is at a union
abbrev pub LieApart : Tree → Type 0
LieApart t =
    (p q : Place) → IsAmong p (places t) → IsAmong q (places t) → IsValue p.layout → IsValue q.layout
    → Apart p.steps q.steps t p.offset (size_of p.layout) q.offset (size_of q.layout)

-- two places with the same steps are one
abbrev pub StandOnce : Tree → Type 0
StandOnce t = (p q : Place) → IsAmong p (places t) → IsAmong q (places t) → p.steps ≡ q.steps → p ≡ q

-- the strides and bounds of a line
abbrev pub dim_of : ℕ × ℕ → Dim
dim_of d = record { stride = pos d.0; bound = d.1 }

abbrev pub dims_of : Line → List Dim
dims_of l = map dim_of l.dims

-- the line's path is resolved to the line's offset, as far as 64 bits go, and to its strides, bounds, kind and order
pub record IsOfPath (t : Tree) (l : Line) : Type 0 where
  pub resolution : Resolution
  pub resolved : IsResolved l.path t resolution
  pub offset : resolution.offset ≡ min l.offset (2 ^ 64 - 1)
  pub dims : resolution.dims ≡ dims_of l
  pub kind : resolution.value.kind ≡ l.kind
  pub order : resolution.value.order ≡ l.order

-- so is each line's
abbrev pub LinesResolve : Tree → Type 0
LinesResolve t = (l : Line) → IsAmong l (lines [] 0 [] t) → IsOfPath t l

-- at these indices, which are below the line's bounds, its path comes to this value
pub record Shows (t : Tree) (l : Line) (p : Place) : Type 0 where
  pub indices : List ℕ
  pub admitted : AreAdmitted (dims_of l) indices
  pub follows : follow l.path t indices ≡ Ok p.steps
  pub offset : offset_at l.offset (dims_of l) indices ≡ p.offset
  pub form : form_of p.layout ≡ form.Value l.kind l.order

-- each value has a line that comes to it
abbrev pub ValuesHaveLines : Tree → Type 0
ValuesHaveLines t = (p : Place) → IsAmong p (places t) → IsValue p.layout → (l : Line) × IsAmong l (lines [] 0 [] t) × Shows t l p
