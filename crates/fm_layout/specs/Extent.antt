-- What is known of the size and the alignment of a group, at its end and on the way through its members.
use Rattle.std.specs.{Prelude.{◌≡◌, ℕ, ◌+◌, ◌≤◌, max, None}, Int.{IsPowerOfTwo}}
use Rattle.fm_layout.specs.{Tree.{Trees}, Size.{sum_of, greatest_of, greatest_alignment}, WellFormed.{limit, AreLaidOut, AreWellFormed}, Made.{fault_of}}
use Rattle.fm_layout.specs.Named.{HaveNames}

-- the size and the alignment of a struct of members that keep the rule
pub record IsStructExtent (bytes alignment : ℕ) (ts : Trees) : Type 0 where
  pub size : bytes ≡ sum_of ts
  pub greatest : alignment ≡ greatest_alignment ts
  pub power : IsPowerOfTwo alignment
  pub small : bytes ≤ limit
  pub below : alignment ≤ limit
  pub laid_out : AreLaidOut 0 ts
  pub named : HaveNames ts
  pub none : fault_of 0 0 ts ≡ None

-- the size and the alignment of a union of these members
pub record IsUnionExtent (bytes alignment : ℕ) (ts : Trees) : Type 0 where
  pub size : bytes ≡ greatest_of ts
  pub greatest : alignment ≡ greatest_alignment ts
  pub power : IsPowerOfTwo alignment
  pub small : bytes ≤ limit
  pub below : alignment ≤ limit
  pub well_formed : AreWellFormed ts
  pub named : HaveNames ts

-- what is known on the way through the members of a struct, at member index
pub record IsLaying (index at alignment : ℕ) (ts rest : Trees) : Type 0 where
  pub fault : fault_of index at rest ≡ fault_of 0 0 ts
  pub size : at + sum_of rest ≡ sum_of ts
  pub greatest : max alignment (greatest_alignment rest) ≡ greatest_alignment ts
  pub power : IsPowerOfTwo alignment
  pub small : at ≤ limit
  pub below : alignment ≤ limit
  pub laid_out : AreLaidOut at rest → AreLaidOut 0 ts
  pub named : HaveNames rest → HaveNames ts

-- what is known on the way through the members of a union
pub record IsStacking (bytes alignment : ℕ) (ts rest : Trees) : Type 0 where
  pub size : max bytes (greatest_of rest) ≡ greatest_of ts
  pub greatest : max alignment (greatest_alignment rest) ≡ greatest_alignment ts
  pub power : IsPowerOfTwo alignment
  pub small : bytes ≤ limit
  pub below : alignment ≤ limit
  pub well_formed : AreWellFormed rest → AreWellFormed ts
  pub named : HaveNames rest → HaveNames ts
