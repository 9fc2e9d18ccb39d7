-- What names stand for is known in a state, and stays so.
use Rattle.std.{proofs.Common.{◌≡◌, ℕ, ◌+◌, ◌≤◌, ◌==◌, Bool, true, false, if◌then◌else◌, List, Option, Some, None, subst, sym, arith}, specs.Prelude.{IfSome}}
use Rattle.fm_base.{specs.{Arenas.{State, arena_of, has_arena}, declared.arena_id.ArenaId.{ArenaId}}, proofs.Growing.{Grows}}
use Rattle.fm_script_lines.specs.{declared.standing.Standing.{Standing, TheVariants.{Nothing}}, Lines.{behind, is_number}, Report.{Done, names_behind}}
use Rattle.fm_script_lines.{specs.{Standings.{Names, lent, stands_of, unheld, handed_back}, Tables.{SeenAs}}, proofs.Backing.{some_weaker}}
use Rattle.fm_script_lines.proofs.{Lent.{seen_alike, stays_lent}, Naming.{lent_seen}}
use Rattle.fm_script_lines.specs.Standings as standing
use Rattle.fm_script_text.specs.declared.command.Command.{Command}
use Rattle.fm_script_text.specs.declared.command.Command.TheVariants as command
use Rattle.fm_segment.specs.Region.{Region}

-- the segment's arena is there, and has given its bytes
pub record IsGiven (s : State) (r : Region) : Type 0 where
  pub arena : has_arena s r.arena ≡ true
  pub given : r.first + r.size ≤ (arena_of s r.arena).given

-- what it stands for, as an arena or as a segment, is there
pub record IsThere (s : State) (t : Standing) : Type 0 where
  pub arena : IfSome (standing.arena_of t) (λ id. has_arena s id ≡ true)
  pub segment : IfSome (standing.segment_of t) (IsGiven s)

-- so is each name
abbrev pub AllThere : State → Names → Type 0
AllThere s names = (n : ℕ) → IsThere s (names n)

-- What stands for nothing is there.
pub nothing_there : (s : State) → IsThere s Nothing
nothing_there s = record { arena = tt; segment = tt }

-- Later too.
pub there_on : (s u : State) → Grows s u → (t : Standing) → IsThere s t → IsThere u t
there_on s u g t h = record {
  arena = some_weaker (λ id. has_arena s id ≡ true) (λ id. has_arena u id ≡ true) (standing.arena_of t) g.has h.arena;
  segment = some_weaker (IsGiven s) (IsGiven u) (standing.segment_of t)
      (λ r k. record { arena = g.has r.arena k.arena; given = (let a = k.given in let b = g.given r.arena in omega arith) }) h.segment;
}

pub all_on : (s u : State) → Grows s u → (names : Names) → AllThere s names → AllThere u names
all_on s u g names h n = there_on s u g (names n) (h n)

-- So is what may be used as it may.
there_as : (s : State) (t u : Standing) → SeenAs t u → IsThere s u → IsThere s t
there_as s t u seen h = record {
  arena = subst (λ (o : Option ArenaId). IfSome o (λ id. has_arena s id ≡ true)) (sym seen.arena) h.arena;
  segment = subst (λ (o : Option Region). IfSome o (IsGiven s)) (sym seen.segment) h.segment;
}

-- What is left of it is: to others, and once a hold or a handle was given back.
pub lent_there : (s : State) (t : Standing) → IsThere s t → IsThere s (lent t)
lent_there s t = there_as s (lent t) t (lent_seen t)

unheld_there : (s : State) (t : Standing) → IsThere s t → IsThere s (unheld t)
unheld_there s t = there_as s (unheld t) t (seen_alike (unheld t) t (stays_lent t).once_unheld)

handed_there : (s : State) (t : Standing) → IsThere s t → IsThere s (handed_back t)
handed_there s t = there_as s (handed_back t) t (seen_alike (handed_back t) t (stays_lent t).once_handed)

-- One of two that are.
pub either_there : (s : State) (b : Bool) (t u : Standing) → IsThere s t → IsThere s u → IsThere s (if b then t else u)
either_there s true t u h k = h
either_there s false t u h k = k

behind_there : (s : State) (number : List ℕ → Option ℕ) (c : Command) (n : ℕ) (t : Standing) → IsThere s t → IsThere s (behind number c n t)
behind_there s number (command.Unhold hold) n t h = either_there s (is_number (number hold) n) (unheld t) t (unheld_there s t h) h
behind_there s number (command.Back handle) n t h = either_there s (is_number (number handle) n) (handed_back t) t (handed_there s t h) h
behind_there s number c n t h = h

-- Behind a line that made what is there.
pub names_there : (s : State) (number : List ℕ → Option ℕ) (k : ℕ) (d : Done) (names : Names) → IsThere s d.made → AllThere s names
    → AllThere s (names_behind number k d names)
names_there s number k d names made h n =
    either_there s (n == k) d.made (behind number d.line.command n (names n)) made (behind_there s number d.line.command n (names n) (h n))

-- What a name leads to by its number.
pub stands_there : (s : State) (names : Names) (number : Option ℕ) → AllThere s names → IsThere s (stands_of names number)
stands_there s names None h = nothing_there s
stands_there s names (Some n) h = h n
