-- The names of the members so far tell whether the next one is the first of its name.
use Rattle.std.proofs.Common.{◌≡◌, refl, sym, ap, subst, ℕ, ◌+◌, ◌<◌, Bool, true, false, ◌||◌, not, if◌then◌else◌, Option, Some, None, List, arith, ◌∙◌, eq-eqb, Bor}
use Rattle.std.specs.{List.{list_any}, BTreeMap.{is_at}, BTreeSet.{IsEmpty, Updates}, Cmp.Lexicographic.{slice_cmp}, Ordering.{nat_cmp}}
use Rattle.std.proofs.lemmas.{Bool.{ne_eqb}, Map.Text.{is_eq-slice_cmp}, Slice.Eq.{bytes_eq-Decides}}
use Rattle.fm_layout.specs.{Tree.{Tree, name_of}, Parts.{member_of}}
use Rattle.fm_path_text.specs.declared.step.PathStep.TheVariants.{Name, Group}
use Rattle.fm_path_meaning.{specs.Follow.{members_of, is_name_of, index_in}, proofs.Members.{IsSeeking, seek_start, seek_more, seek_found}}
use Rattle.fm_path.specs.{Listing.{is_index, step_named, step_to}, Noted.{Names, has_name, is_new, Notes, step_by}}

-- whether a member before index i is the first of this name
abbrev pub IsSought : Bool → List ℕ → ℕ → Tree → Type 0
IsSought true name i t = (j : ℕ) × (j < i) × (index_in name (members_of t) ≡ Some j)
IsSought false name i t = IsSeeking name i t

-- the names are those of the first i members
pub record HasNoted (names : Names) (t : Tree) (i : ℕ) : Type 0 where
  pub held : (name : List ℕ) → IsSought (has_name names name) name i t

-- before the first member no name was noted
pub note_start : (names : Names) (t : Tree) → IsEmpty names → HasNoted names t 0
note_start names t e = record {
  held = λ name. subst (λ b. IsSought b name 0 t) (sym (ap (list_any (is_at (λ k. slice_cmp nat_cmp name k.now))) e)) (seek_start name t);
}

-- one more member's name
sought_more : (old own : Bool) (name : List ℕ) (i : ℕ) (t u : Tree) → member_of i t ≡ Some u → is_name_of (name_of u) name ≡ own → IsSought old name i t
    → IsSought (own || old) name (i + 1) t
sought_more true true name i t u e h s = (s.0, omega (arith, s.1), s.2)
sought_more true false name i t u e h s = (s.0, omega (arith, s.1), s.2)
sought_more false true name i t u e h s = (i, omega arith, seek_found name i t u s e h)
sought_more false false name i t u e h s = seek_more name i t u s e h

-- one more name was noted
pub note_more : (old new : Names) (t u : Tree) (i : ℕ) → HasNoted old t i → member_of i t ≡ Some u → Notes old new (name_of u) → HasNoted new t (i + 1)
note_more old new t u i h e n = record {
  held = λ name. subst (λ b. IsSought b name (i + 1) t) (sym (n name))
      (sought_more (has_name old name) (is_name_of (name_of u) name) name i t u e refl (h.held name));
}

-- a member is the first of its name where none before it is
first_here : (b : Bool) (name : List ℕ) (i : ℕ) (t u : Tree) → member_of i t ≡ Some u → name_of u ≡ Some name → IsSought b name i t
    → is_index i (index_in name (members_of t)) ≡ not b
first_here true name i t u e n s = ap (is_index i) s.2 ∙ ne_eqb i s.0 (λ x. omega (arith, s.1))
first_here false name i t u e n s =
    ap (is_index i) (seek_found name i t u s e (ap (λ o. is_name_of o name) n ∙ (bytes_eq-Decides name name).1 refl)) ∙ eq-eqb i i refl

-- so the step by it is the step to the member
pub step_is : (names : Names) (first : Bool) (t u : Tree) (i : ℕ) → HasNoted names t i → member_of i t ≡ Some u → first ≡ is_new names (name_of u)
    → step_by first i (name_of u) ≡ step_to t i u
step_is names first t u i h e f = go (name_of u) refl f
  where
    go : (own : Option (List ℕ)) → name_of u ≡ own → first ≡ is_new names own → step_by first i own ≡ step_named t i own
    go None n f = refl
    go (Some name) n f = ap (λ b. if b then Name name else Group i) (f ∙ sym (first_here (has_name names name) name i t u e n (h.held name)))

-- a name that was put into the set was noted
pub noted : (old new : Names) (k : Bor (List ℕ)) → Updates (λ x y. slice_cmp nat_cmp x.now y.now) old new k true → Notes old new (Some k.now)
noted old new k u name =
    let q : Bor (List ℕ) = record { ref_ptr = (0, 0); now = name } in
    u.0 q ∙ ap (λ b. if b then true else has_name old name) (is_eq-slice_cmp k.now name) ∙ held (is_name_of (Some k.now) name) (has_name old name)
  where
    held : (a b : Bool) → (if a then true else b) ≡ (a || b)
    held true b = refl
    held false b = refl
