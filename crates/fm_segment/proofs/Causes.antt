-- Why accesses to values are refused.
use Rattle.std.proofs.{Common.{◌≡◌, ℕ, ◌+◌, ◌≤◌, true, false, nat_le, Result, Ok}, lemmas.Bool.{leb-true, leb-false}}
use Rattle.fm_base.specs.declared.{caller.Caller.{Caller}, arena_id.ArenaId.{ArenaId}, refusal.Refusal.{Refusal, TheVariants.{ReadOnly, Unsupported}}}
use Rattle.fm_layout.specs.{Tree.{Tree, alignment_of}, Size.{size_of}}
use Rattle.fm_segment_access.proofs.Causes.{Causes, place_causes, placed_causes, write_causes, tested_causes, tested_ok, if_tested, unless_tested}
use Rattle.fm_segment.specs.{Access.{place_of, writable_place_of, if_tiling, GetCause, SetCause, IndexCause}, Region.{Region}}

module _ (offset : ℕ) (t : Tree) (r : Region) (c : Caller) where
  pub get_causes : Causes (place_of offset t r) r.arena c (GetCause offset t r c)
  get_causes = placed_causes offset (size_of t) (alignment_of t) r.first r.size (Ok (r.first + offset)) r.arena c (place_causes (r.first + offset) r.arena c)

  pub set_causes : Causes (writable_place_of offset t r) r.arena c (SetCause offset t r c)
  set_causes = write_causes r.read_only (place_of offset t r) r.arena c (GetCause offset t r c) (λ none. none) get_causes

-- Where a place is found, the segment isn't read-only.
pub write_ok : (offset : ℕ) (t : Tree) (r : Region) (p : ℕ) → writable_place_of offset t r ≡ Ok p → (r.read_only ≡ false) × (place_of offset t r ≡ Ok p)
write_ok offset t r p h =
    tested_ok (r.read_only ≡ false) (r.read_only ≡ true) (writable_place_of offset t r) (place_of offset t r) ReadOnly p
    (unless_tested r.read_only (place_of offset t r) ReadOnly) h

-- Where it is found by index, the alignment is at most the size.
pub when_tiling : (t : Tree) (found : Result ℕ Refusal) (p : ℕ) → if_tiling t found ≡ Ok p → (nat_le (alignment_of t) (size_of t) ≡ true) × (found ≡ Ok p)
when_tiling t found p h =
    let tiles = nat_le (alignment_of t) (size_of t) in
    tested_ok (tiles ≡ true) (tiles ≡ false) (if_tiling t found) found Unsupported p (if_tested tiles found Unsupported) h

module _ (t : Tree) (found : Result ℕ Refusal) (id : ArenaId) (c : Caller) (Cause : Refusal → Type 0) (none : Cause Unsupported → ⊥) where
  index_lift : alignment_of t ≤ size_of t → (e : Refusal) → Cause e → IndexCause t Cause e
  index_lift w Unsupported x = absurd (none x)
  index_lift w e x = (w, x)

  -- The causes of an access by index.
  pub index_causes : Causes found id c Cause → Causes (if_tiling t found) id c (IndexCause t Cause)
  index_causes h =
      let tiles = nat_le (alignment_of t) (size_of t) in
      tested_causes (tiles ≡ true) (tiles ≡ false) (if_tiling t found) found Unsupported id c Cause (IndexCause t Cause) (if_tested tiles found Unsupported) h
      (λ w. leb-false (alignment_of t) (size_of t) w) (λ w. index_lift (leb-true (alignment_of t) (size_of t) w))
