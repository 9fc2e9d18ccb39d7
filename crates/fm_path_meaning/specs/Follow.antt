-- Following a path, with an index for each step that is left open.
use Rattle.std.specs.Prelude.{ℕ, ℤ, pos, negsuc, ◌+◌, ◌-◌, ◌*◌, ◌<◌, ◌≤◌, Bool, false, Option, Some, None, Result, Ok, Err, List, [], ◌∷◌, nat_lt, bytes_eq, if◌then◌else◌}
use Rattle.std.proofs.Common.{zero, suc}
use Rattle.fm_base.specs.declared.refusal.Refusal.{Refusal, TheVariants.{NotGroup, NoMember, NotSequence, IndexOut, StillOpen, BadStep}}
use Rattle.fm_path_text.specs.declared.step.PathStep.{PathStep, TheVariants.{Name, Group, At, Each, EachFrom}}
use Rattle.fm_layout.specs.{Tree.{Tree, Trees, Sequence, Struct, Union, NoMore, More, name_of}, Parts.{member_of, count_of}}
use Rattle.fm_path_meaning.specs.Places.{Step, Element, Member}

-- the members of a struct or union
abbrev pub members_of : Tree → Option Trees
members_of (Struct ms l) = Some ms
members_of (Union ms l) = Some ms
members_of t = None

abbrev pub IsStruct : Tree → Type 0
IsStruct (Struct ms l) = Unit {0}
IsStruct t = ⊥

-- how many elements a sequence has, and their layout
abbrev pub row_of : Tree → Option (ℕ × Tree)
row_of (Sequence n e l) = Some (n, e)
row_of t = None

abbrev pub is_name_of : Option (List ℕ) → List ℕ → Bool
is_name_of None name = false
is_name_of (Some own) name = bytes_eq own name

-- the least index of a member of this name, the first member having this index
abbrev pub index_named : List ℕ → ℕ → Trees → Option ℕ
index_named name i NoMore = None
index_named name i (More t ts) =
    if is_name_of (name_of t) name then Some i else index_named name (i + 1) ts

abbrev pub index_in : List ℕ → Option Trees → Option ℕ
index_in name None = None
index_in name (Some ms) = index_named name 0 ms

-- how many members a group has
abbrev pub count_in : Option Trees → Option ℕ
count_in None = None
count_in (Some ms) = Some (count_of ms)

-- element F + i*S
abbrev pub element_from : ℕ → ℤ → ℕ → ℕ
element_from f (pos s) i = f + i * s
element_from f (negsuc s) i = f - i * suc s

-- index i of a step that is left open is admitted in a sequence of so many elements
abbrev pub IsAdmitted : PathStep → ℕ → ℕ → Type 0
IsAdmitted Each count i = i < count
IsAdmitted (EachFrom f (pos s)) count i = f + i * s < count
IsAdmitted (EachFrom f (negsuc s)) count i = (i * suc s ≤ f) × (f - i * suc s < count)
IsAdmitted p count i = ⊥

infixl 10 ◌>>=◌
abbrev pub ◌>>=◌ : {A B : Type 0} → Result A Refusal → (A → Result B Refusal) → Result B Refusal
(Ok x) >>= f = f x
(Err e) >>= f = Err e

-- what a step leads to: a part; or where it leaves an index open, the elements of a row of so many
pub data Lead : Type 0 where
  Part : (step : Step) → (to : Tree) → Lead
  Open : (by : PathStep) → (count : ℕ) → (to : Tree) → Lead

abbrev pub lead_member : ℕ → ℕ → Option Tree → Result Lead Refusal
lead_member k n None = Err (NoMember k)
lead_member k n (Some u) = Ok (Part (Member n) u)

abbrev pub lead_found : ℕ → Tree → Option ℕ → Result Lead Refusal
lead_found k t None = Err (NoMember k)
lead_found k t (Some n) = lead_member k n (member_of n t)

abbrev pub in_group : ℕ → Option Trees → Result Lead Refusal → Result Lead Refusal
in_group k None r = Err (NotGroup k)
in_group k (Some ms) r = r

abbrev pub row_or : ℕ → Option (ℕ × Tree) → Result (ℕ × Tree) Refusal
row_or k None = Err (NotSequence k)
row_or k (Some r) = Ok r

abbrev pub lead_at : ℕ → ℕ → ℕ × Tree → Result Lead Refusal
lead_at k n r = if nat_lt n r.0 then Ok (Part (Element n) r.1) else Err (IndexOut k)

abbrev pub lead_from : ℕ → ℕ → ℤ → ℕ × Tree → Result Lead Refusal
lead_from k f (pos zero) r = Err (BadStep k)
lead_from k f s r = if nat_lt f r.0 then Ok (Open (EachFrom f s) r.0 r.1) else Err (IndexOut k)

-- where step k of a path leads from this layout, or its refusal
abbrev pub lead : ℕ → PathStep → Tree → Result Lead Refusal
lead k (Name name) t = in_group k (members_of t) (lead_found k t (index_in name (members_of t)))
lead k (Group n) t = in_group k (members_of t) (lead_member k n (member_of n t))
lead k (At n) t = row_or k (row_of t) >>= lead_at k n
lead k Each t = row_or k (row_of t) >>= λ r. Ok (Open Each r.0 r.1)
lead k (EachFrom f s) t = row_or k (row_of t) >>= lead_from k f s

-- the same where no step may be left open
abbrev pub lead_closed : ℕ → PathStep → Tree → Result Lead Refusal
lead_closed k Each t = Err (StillOpen k)
lead_closed k (EachFrom f s) t = Err (StillOpen k)
lead_closed k p t = lead k p t

-- the element that an index of an open step means
abbrev pub element_at : PathStep → ℕ → ℕ
element_at (EachFrom f s) i = element_from f s i
element_at p i = i

-- the concrete step, with the index i where it is left open
abbrev pub step_at : Lead → ℕ → Step
step_at (Part s u) i = s
step_at (Open p n u) i = Element (element_at p i)

-- the layout there
abbrev pub end_at : Lead → Tree
end_at (Part s u) = u
end_at (Open p n u) = u

-- the next index, and the indices after a step
abbrev pub first : List ℕ → ℕ
first [] = 0
first (i ∷ is) = i

abbrev pub others : List ℕ → List ℕ
others [] = []
others (i ∷ is) = is

abbrev pub after : Lead → List ℕ → List ℕ
after (Part s u) is = is
after (Open p n u) is = others is

abbrev pub before : Step → Result (List Step) Refusal → Result (List Step) Refusal
before s (Ok ss) = Ok (s ∷ ss)
before s (Err e) = Err e

-- the concrete steps of a path from its step k on, where steps lead so
abbrev pub follow_by : (ℕ → PathStep → Tree → Result Lead Refusal) → List PathStep → ℕ → Tree → List ℕ → Result (List Step) Refusal
follow_by go [] k t is = Ok []
follow_by go (p ∷ ps) k t is = go k p t >>= λ l. before (step_at l (first is)) (follow_by go ps (k + 1) (end_at l) (after l is))

-- the concrete steps that a path comes to at indices, or the first step's refusal
abbrev pub follow : List PathStep → Tree → List ℕ → Result (List Step) Refusal
follow path t is = follow_by lead path 0 t is

abbrev pub follow_closed : List PathStep → Tree → Result (List Step) Refusal
follow_closed path t = follow_by lead_closed path 0 t []
