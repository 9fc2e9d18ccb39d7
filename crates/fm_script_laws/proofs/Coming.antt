-- What a line's call answers may come over a pool, where it wants no page.
use Rattle.std.proofs.Common.{◌≡◌, ℕ, ◌+◌, ◌==◌, nat_le, nat_lt, nat_eq, if◌then◌else◌, Bool, true, false, MatchBool, Result, Ok, Err, List, [], ◌∷◌, replicate, refl, sym, subst, ℤ}
use Rattle.std.specs.Prelude.{◌%◌, ◌&&◌}
use Rattle.fm_segment_access.specs.{Found.{DoesAt}, Ranges.{DoesFill, DoesPut}}
use Rattle.fm_base.specs.{declared.{arena_id.ArenaId.{ArenaId}, caller.Caller.{Caller}, kind.Kind.{Kind}, refusal.Refusal.{Refusal}}, Calls.{Entry}}
use Rattle.fm_base.specs.{Does.{DoesOpen, DoesClose, DoesEnter, DoesIsAlive, DoesHold, DoesAgain}, Outcomes.{MayCome, MayRefuse, Nature}, View.{but_loans}}
use Rattle.fm_base.specs.Visits.{Acts}
use Rattle.fm_base.specs.declared.refusal.Refusal.TheVariants as refusal
use Rattle.fm_arena.specs.Shares.{nature_of_shared}
use Rattle.fm_segment_copies.specs.{Comparisons.{DoesCompare}, Copies.{DoesCopy}, Sides.{side}, declared.side.Side.{Side}}
use Rattle.fm_handle.specs.{Access.{DoesVisit}, Place.{can_update, if_admitted, if_rooted, if_writable, update_place_of, value_place}}
use Rattle.fm_lanes.specs.{declared.value.Value.{Value}, Coding.{bytes_of_value}}
use Rattle.fm_layout.specs.{Size.{size_of}, Tree.{Tree, alignment_of}}
use Rattle.fm_layout.specs.Tree as tree
use Rattle.fm_path.specs.Resolution.{Resolution}
use Rattle.fm_path_meaning.specs.declared.dim.Dim.{Dim}
use Rattle.fm_segment.specs.{Access.{DoesGetAt, DoesSetAt, place_of, writable_place_of}, Comparisons.{DoesMismatch, common_size}, Copies.{DoesCopySegment}}
use Rattle.fm_segment.specs.{Fills.{DoesAfter, DoesFillSegment}, Region.{Region}}

-- what a pool answers to calls that take neither memory nor pages
abbrev pub without_pages : Nature
without_pages = record { alone = false; memory = false; no_slot = true; pool_full = false }

-- it may come of one
abbrev pub May : {X : Type 0} → Result X Refusal → Type 0
May result = MayCome without_pages result

-- ---- places

pub if_may : {X : Type 0} (b : Bool) (x y : Result X Refusal) → May x → May y → May (if b then x else y)
if_may true x y h k = h
if_may false x y h k = k

pub place_may : (offset : ℕ) (t : Tree) (r : Region) → May (place_of offset t r)
place_may offset t r =
    let here : Result ℕ Refusal = Ok (r.first + offset) in
    let even : Result ℕ Refusal = if nat_eq ((r.first + offset) % alignment_of t) 0 then here else Err refusal.Misaligned in
    if_may (nat_le (offset + size_of t) r.size) even (Err refusal.Bounds)
    (if_may (nat_eq ((r.first + offset) % alignment_of t) 0) here (Err refusal.Misaligned) tt tt) tt

pub writable_may : (offset : ℕ) (t : Tree) (r : Region) → May (writable_place_of offset t r)
writable_may offset t r = if_may r.read_only (Err refusal.ReadOnly) (place_of offset t r) tt (place_may offset t r)

admitted_may : (k : ℕ) (ds : List Dim) (found : Result ℕ Refusal) → May found → May (if_admitted k ds [] found)
admitted_may k [] found h = h
admitted_may k (d ∷ ds) found h = h

pub update_may : (base : ℕ) (h : Resolution) (r : Region) → May (update_place_of can_update base [] h r)
update_may base h r =
    let here : Result ℕ Refusal = Ok (value_place base [] h r) in
    let even : Result ℕ Refusal = if nat_eq ((r.first + base) % h.root_alignment) 0 then here else Err refusal.Misaligned in
    let rooted : Result ℕ Refusal = if_rooted base h r here in
    let writable : Result ℕ Refusal = if_writable r rooted in
    let even_may : May even = if_may (nat_eq ((r.first + base) % h.root_alignment) 0) here (Err refusal.Misaligned) tt tt in
    let rooted_may : May rooted = if_may (nat_le (base + h.root_size) r.size) even (Err refusal.Bounds) even_may tt in
    let writable_found : May writable = if_may r.read_only (Err refusal.ReadOnly) rooted tt rooted_may in
    if_may (can_update h.value) (if_admitted 0 h.dims [] writable) (Err refusal.Unsupported) (admitted_may 0 h.dims writable writable_found) tt

-- ---- calls

pub at_may : {X : Type 0} (found : Result ℕ Refusal) (Does : ℕ → Result X Refusal → List Entry → Type 0) (result : Result X Refusal) (own : List Entry)
    → May found → ((p : ℕ) → Does p result own → May result) → DoesAt found Does result own → May result
at_may (Err r) Does result own h f d = subst (λ (x : Result _ Refusal). May x) (sym d.0) h
at_may (Ok p) Does result own h f d = f p d

after_may : (checked : Result (Unit {0}) Refusal) (Does : Result (Unit {0}) Refusal → List Entry → Type 0) (result : Result (Unit {0}) Refusal)
    (own : List Entry) → May checked → (Does result own → May result) → DoesAfter checked Does result own → May result
after_may (Err e) Does result own h f d = subst (λ (x : Result (Unit {0}) Refusal). May x) (sym d.0) h
after_may (Ok u) Does result own h f d = f d

module _ (c : Caller) (own : List Entry) where
  enter_may : (id : ArenaId) (r : Refusal) → DoesEnter c id (Err r) own → MayRefuse without_pages r
  enter_may id refusal.Memory d = absurd d
  enter_may id refusal.PoolFull d = absurd d
  enter_may id refusal.NoSlot d = refl
  enter_may id r d = tt

  pub get_may : (id : ArenaId) (t : Tree) (found : Result ℕ Refusal) (result : Result Value Refusal) → May found → DoesGetAt c id t found result own
      → May result
  get_may id t (Err r) result h d = subst (λ (x : Result Value Refusal). May x) (sym d.0) h
  get_may id (tree.Value k o l) (Ok p) (Ok v) h d = tt
  get_may id (tree.Value k o l) (Ok p) (Err refusal.Memory) h d = absurd d
  get_may id (tree.Value k o l) (Ok p) (Err refusal.PoolFull) h d = absurd d
  get_may id (tree.Value k o l) (Ok p) (Err refusal.NoSlot) h d = refl
  get_may id (tree.Value k o l) (Ok p) (Err r) h d = tt
  get_may id t (Ok p) result h d = absurd d

  put_may : (id : ArenaId) (place : ℕ) (bytes : List ℕ) (result : Result (Unit {0}) Refusal) → DoesPut c id place bytes result own → May result
  put_may id place bytes (Ok u) d = tt
  put_may id place bytes (Err refusal.Memory) d = absurd d
  put_may id place bytes (Err refusal.PoolFull) d = absurd d
  put_may id place bytes (Err refusal.NoSlot) d = refl
  put_may id place bytes (Err r) d = tt

  pub set_may : (id : ArenaId) (t : Tree) (found : Result ℕ Refusal) (v : Value) (result : Result (Unit {0}) Refusal) → May found
      → DoesSetAt c id t found v result own → May result
  set_may id t (Err r) v result h d = subst (λ (x : Result (Unit {0}) Refusal). May x) (sym d.0) h
  set_may id (tree.Value k o l) (Ok p) v result h d = put_may id p (bytes_of_value o v) result d
  set_may id t (Ok p) v result h d = absurd d

  fill_on : (id : ArenaId) (place size byte : ℕ) (none : Bool) (result : Result (Unit {0}) Refusal)
      → MatchBool none ((result ≡ Ok tt) × (own ≡ [])) (DoesPut c id place (replicate size byte) result own) → May result
  fill_on id place size byte true result d = subst (λ (x : Result (Unit {0}) Refusal). May x) (sym d.0) tt
  fill_on id place size byte false result d = put_may id place (replicate size byte) result d

  pub fill_may : (r : Region) (byte : ℕ) (result : Result (Unit {0}) Refusal) → DoesFillSegment c r byte result own → May result
  fill_may r byte result d =
      after_may _ (DoesFill c r.arena r.first r.size byte) result own (if_may (nat_lt 0 r.size && r.read_only) (Err refusal.ReadOnly) (Ok tt) tt tt)
      (λ f. fill_on r.arena r.first r.size byte (r.size == 0) result f) d

  both_may : (x y : Side) (count : ℕ) (result : Result (Unit {0}) Refusal) → DoesCopy c x y count result own → May result
  both_may x y count (Ok u) d = tt
  both_may x y count (Err refusal.Memory) d = absurd d
  both_may x y count (Err refusal.PoolFull) d = absurd d
  both_may x y count (Err refusal.NoSlot) d = refl
  both_may x y count (Err r) d = tt

  pub copy_may : (source target : Region) (n : ℕ) (result : Result (Unit {0}) Refusal) → DoesCopySegment source 0 target 0 n c result own → May result
  copy_may source target n result d =
      let x = side source.arena (source.first + 0) in
      let y = side target.arena (target.first + 0) in
      let fit : Result (Unit {0}) Refusal =
      if nat_le (0 + n) source.size && nat_le (0 + n) target.size then Ok tt else Err refusal.Bounds in
      after_may _ (DoesCopy c x y n) result own
      (if_may (nat_lt 0 n && target.read_only) (Err refusal.ReadOnly) fit tt
      (if_may (nat_le (0 + n) source.size && nat_le (0 + n) target.size) (Ok tt) (Err refusal.Bounds) tt tt))
      (λ f. both_may x y n result f) d

  compare_may : (x y : Side) (count : ℕ) (r : Refusal) → DoesCompare c x y count (Err r) own → MayRefuse without_pages r
  compare_may x y count refusal.Memory d = absurd d
  compare_may x y count refusal.PoolFull d = absurd d
  compare_may x y count refusal.NoSlot d = refl
  compare_may x y count r d = tt

  pub mismatch_may : (r other : Region) (result : Result ℤ Refusal) → DoesMismatch c r other result own → May result
  mismatch_may r other (Ok z) d = tt
  mismatch_may r other (Err e) d = compare_may (side r.arena r.first) (side other.arena other.first) (common_size r other) e d

  pub visit_may : {X : Type 0} (id : ArenaId) (Give : X → Acts → Type 0) (result : Result X Refusal) → DoesVisit c id Give result own → May result
  visit_may id Give (Ok x) d = tt
  visit_may id Give (Err r) d = enter_may id r d

  pub alive_may : (id : ArenaId) (result : Result Bool Refusal) → DoesIsAlive c id result own → May result
  alive_may id (Ok alive) d = tt
  alive_may id (Err refusal.Memory) d = absurd d
  alive_may id (Err refusal.PoolFull) d = absurd d
  alive_may id (Err refusal.NoSlot) d = refl
  alive_may id (Err r) d = tt

  pub open_may : (kind : Kind) (result : Result ArenaId Refusal) → DoesOpen c kind result (but_loans own) → MayCome nature_of_shared result → May result
  open_may kind (Ok id) d m = tt
  open_may kind (Err refusal.Memory) d m = absurd (cc)
  open_may kind (Err refusal.NoSlot) d m = refl
  open_may kind (Err r) d m = absurd d

  pub close_may : (id : ArenaId) (result : Result (Unit {0}) Refusal) → DoesClose c id result (but_loans own) → May result
  close_may id (Ok u) d = tt
  close_may id (Err refusal.Memory) d = absurd d
  close_may id (Err refusal.PoolFull) d = absurd d
  close_may id (Err refusal.NoSlot) d = refl
  close_may id (Err r) d = tt

  pub hold_may : (id : ArenaId) (result : Result (Unit {0}) Refusal) → DoesHold c id result own → May result
  hold_may id (Ok u) d = tt
  hold_may id (Err refusal.Memory) d = absurd d.1
  hold_may id (Err refusal.PoolFull) d = absurd d.1
  hold_may id (Err refusal.NoSlot) d = refl
  hold_may id (Err r) d = tt

  pub again_may : (id : ArenaId) (result : Result (Unit {0}) Refusal) → DoesAgain c id result own → May result
  again_may id (Ok u) d = tt
  again_may id (Err refusal.Memory) d = absurd d
  again_may id (Err refusal.PoolFull) d = absurd d
  again_may id (Err refusal.NoSlot) d = refl
  again_may id (Err r) d = tt
