-- Lines about segments: they change only bytes that were given, and a part of what was given was so.
use Rattle.std.proofs.Common.{◌≡◌, ℕ, ℤ, ◌+◌, ◌<◌, ◌≤◌, nat_le, Bool, true, false, if◌then◌else◌, Result, Ok, Err, List, [], refl, sym, ◌∙◌, subst, arith}
use Rattle.std.proofs.lemmas.Bool.{leb-true}
use Rattle.fm_segment_laws.specs.Accesses as access
use Rattle.fm_segment_laws.specs.Handles as handle
use Rattle.fm_segment_laws.proofs.Handling.{paths_inside}
use Rattle.fm_base.specs.{declared.{caller.Caller.{Caller}, refusal.Refusal.{Refusal, TheVariants.{Bounds}}}, Arenas.{State}, Calls.{Entry}}
use Rattle.fm_base.{specs.Histories.{state_after}, proofs.Growing.{Grows}}
use Rattle.fm_handle.specs.{Access.{DoesAdd, DoesExchange}, Place.{update_place_of, can_update}}
use Rattle.fm_lanes.specs.declared.value.Value.{Value}
use Rattle.fm_layout.{specs.{Tree.{Tree}, WellFormed.{IsWellFormed}}, proofs.Sound.{IsPowerOfTwo-width, width_bounds}}
use Rattle.fm_path.specs.Resolution.{Resolution, StaysInside, IsSpecOf}
use Rattle.fm_path_meaning.specs.{declared.dim.Dim.{Dim}, Found.{HasDims, no_step}}
use Rattle.fm_script_lines.specs.declared.{outcome.LineOutcome.{LineOutcome}, reply.Reply.TheVariants.{Number}}
use Rattle.fm_script_lines.specs.Calls.{Called, Answers, coming, fine, number, segment_made, tree_of, IsHandleOf, Gets, Sets, Adds, Exchanges, Fills, Copies, Compares}
use Rattle.fm_script_lines.specs.Outcomes.{plain}
use Rattle.fm_script_text.specs.declared.cell.Cell.{Cell}
use Rattle.fm_segment.specs.{Access.{DoesGetAt, DoesSetAt, place_of, writable_place_of}, Comparisons.{DoesMismatch}, Copies.{DoesCopySegment}}
use Rattle.fm_segment.specs.{Fills.{DoesFillSegment}, Region.{Region, part_of, read_only_of}, Slices.{slice_of}}
use Rattle.fm_script_laws.proofs.Backing.{IsGiven, IsThere, nothing_there}
use Rattle.fm_script_laws.proofs.Calling.{Own, Comes, grown, none_tidy, access_tidy, handle_tidy, plain_comes, making_comes}

-- ---- a handle on a value

-- A value's layout is well formed, so a handle on it stays inside it.
value_well : (cell : Cell) → IsWellFormed (tree_of cell)
value_well cell =
    let bounds = width_bounds cell.kind in
    let least = bounds.0 in
    let most = bounds.1 in
    record { power = IsPowerOfTwo-width cell.kind; least = least; greatest = omega arith; size = omega arith }

cell_inside : (cell : Cell) (h : Resolution) → IsHandleOf cell h → StaysInside h
cell_inside cell h is = paths_inside (tree_of cell) (value_well cell) [] h is

-- No step of its path is open.
no_dims : (t : Tree) (ds : List Dim) → HasDims [] t ds → ds ≡ []
no_dims t ds no_step = refl

-- It is of the value's kind.
cell_kind : (cell : Cell) (h : Resolution) → IsHandleOf cell h → h.value.kind ≡ cell.kind
cell_kind cell h is =
    let whole : is.last ≡ tree_of cell = let e = is.ends in cc in
    (subst (λ (t : Tree). IsSpecOf t h.value) whole is.value).0

-- ---- parts

-- A part of what was given was given.
part_given : (s : State) (r : Region) (offset size : ℕ) → IsGiven s r → offset + size ≤ r.size → IsGiven s (part_of offset size r)
part_given s r offset size g within = record { arena = g.arena; given = (let k = g.given in omega arith) }

slice_there : (s : State) (r : Region) (offset size : ℕ) → IsGiven s r → IsThere s (coming segment_made (slice_of offset size r)).made
slice_there s r offset size g =
    let P : Bool → Type 0 = λ b. nat_le (offset + size) r.size ≡ b
    → IsThere s (coming segment_made (if b then Ok (part_of offset size r) else Err Bounds)).made in
    let go : (b : Bool) → P b = λ b. elim b as P [
      | true ↦ (λ e. record { arena = tt; segment = part_given s r offset size g (leb-true (offset + size) r.size e) })
      | false ↦ (λ e. nothing_there s)
    ] in
    go (nat_le (offset + size) r.size) refl

-- Later too.
given_on : (s u : State) → Grows s u → (r : Region) → IsGiven s r → IsGiven u r
given_on s u g r k = record { arena = g.has r.arena k.arena; given = (let a = k.given in let b = g.given r.arena in omega arith) }

module _ {c : Caller} {limit : ℕ} {s : State} {all own : List Entry} (o : Own c limit s all own) (r : Region) (g : IsGiven s r) (out : LineOutcome) where
  given_later : IsGiven (state_after limit s all) r
  given_later = given_on s (state_after limit s all) (grown o) r g

  pub slices_come : (offset size : ℕ) → Called (Answers (slice_of offset size r)) segment_made out own → Comes c limit s all out.made
  slices_come offset size does = making_comes o (Answers (slice_of offset size r)) segment_made out (λ result d. none_tidy o d.1)
      (λ result d. subst (λ (x : Result Region Refusal). IsThere (state_after limit s all) (coming segment_made x).made) (sym d.0)
      (slice_there (state_after limit s all) r offset size given_later)) does

  pub read_only_comes : Called (Answers (Ok (read_only_of r))) segment_made out own → Comes c limit s all out.made
  read_only_comes does = making_comes o (Answers (Ok (read_only_of r))) segment_made out (λ result d. none_tidy o d.1)
      (λ result d. subst (λ (x : Result Region Refusal). IsThere (state_after limit s all) (coming segment_made x).made) (sym d.0)
      (record { arena = tt; segment = record { arena = given_later.arena; given = given_later.given } })) does

  -- ---- values

  pub gets_come : (cell : Cell) → Gets c cell r out own → Comes c limit s all out.made
  gets_come cell does =
      plain_comes o (DoesGetAt c r.arena (tree_of cell) (place_of cell.offset (tree_of cell) r)) number out (λ x. refl)
      (λ result d. access_tidy o r g (access.gets (tree_of cell) (place_of cell.offset (tree_of cell) r) result d)) does

  pub sets_come : (cell : Cell) (z : ℤ) → Sets c cell z r out own → Comes c limit s all out.made
  sets_come cell z does =
      plain_comes o (DoesSetAt c r.arena (tree_of cell) (writable_place_of cell.offset (tree_of cell) r) does.0) fine out (λ x. refl)
      (λ result d. access_tidy o r g (access.sets (tree_of cell) cell.offset does.0 result does.1.kind_is d)) does.2

  -- By a handle.
  handles_come : (cell : Cell) (h : Resolution) → IsHandleOf cell h → (Does : Result Value Refusal → List Entry → Type 0)
      → ((result : Result Value Refusal) → Does result own → handle.DoesCall c h r cell.offset [] own) → Called Does number out own
      → Comes c limit s all out.made
  handles_come cell h is Does f does = plain_comes o Does number out (λ x. refl)
      (λ result d. handle_tidy o h (cell_inside cell h is) (no_dims (tree_of cell) h.dims is.dims) r cell.offset g (f result d)) does

  pub adds_come : (cell : Cell) (z : ℤ) → Adds c cell z r out own → Comes c limit s all out.made
  adds_come cell z does =
      handles_come cell does.2 does.3 (DoesAdd c does.2 r (update_place_of can_update cell.offset [] does.2 r) does.0)
      (λ result d. handle.adds does.0 result (does.1.kind_is ∙ sym (cell_kind cell does.2 does.3)) d) does.4

  pub exchanges_come : (cell : Cell) (y z : ℤ) → Exchanges c cell y z r out own → Comes c limit s all out.made
  exchanges_come cell y z does =
      handles_come cell does.4 does.5 (DoesExchange c does.4 r (update_place_of can_update cell.offset [] does.4 r) does.0 does.2)
      (λ result d. handle.exchanges does.0 does.2 result (does.3.kind_is ∙ sym (cell_kind cell does.4 does.5)) d) does.6

  -- ---- bytes

  pub fills_come : (byte : ℕ) → byte < 256 → Fills c byte r out own → Comes c limit s all out.made
  fills_come byte is does = plain_comes o (DoesFillSegment c r byte) fine out (λ x. refl)
      (λ result d. access_tidy o r g (access.fills byte result is d)) does

  pub copies_come : (source : Region) → Copies c source r out own → Comes c limit s all out.made
  copies_come source does = plain_comes o (DoesCopySegment source 0 r 0 source.size c) fine out (λ x. refl)
      (λ result d. access_tidy o r g (access.copies source 0 0 source.size result d)) does

  pub compares_come : (other : Region) → Compares c r other out own → Comes c limit s all out.made
  compares_come other does = plain_comes o (DoesMismatch c r other) (λ z. plain (Number z)) out (λ x. refl)
      (λ result d. access_tidy o r g (access.compares other result d)) does
