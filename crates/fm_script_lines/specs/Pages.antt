-- Where a line that allocates is refused for want of pages, and which parts of its arena it gives pages.
use Rattle.std.specs.{Prelude.{◌≡◌, ◌≢◌, ◌<◌, ◌≤◌, ◌+◌, ◌*◌, ◌/◌, ℕ, List, [], ◌∷◌, ◌++◌, Result, Ok, Err, IfSome, ⊤}, List.{AllByRecursion}}
use Rattle.fm_words.specs.{declared.shape.Shape.{Shape}, Places.{page_groups}}
use Rattle.fm_base.specs.declared.{arena_id.ArenaId.{ArenaId}, caller.Caller.{Caller}, refusal.Refusal.{Refusal, TheVariants.{NoRoom, PoolFull}}}
use Rattle.fm_base.specs.{Calls.{Allocate, Entry, Enter, Fine, Given, Leave, Lend, entry_of}, Histories.{made_by, state_after}, Machine.{rounded_up}, View.{but_loans}}
use Rattle.fm_base.specs.Calls as machine_call
use Rattle.fm_base.specs.Arenas as machine
use Rattle.fm_base_lists.specs.Among.{IsAmong}
use Rattle.fm_rule_facts.specs.{Loans.{loans_of}, Scarcity.{lacking, parts_before}, Views.{View, Begins, limit_of, unlent, unlent_in}}
use Rattle.fm_arena.specs.Allocating.{AllocatesExactly}
use Rattle.fm_script_text.specs.declared.command.Command.{Command}
use Rattle.fm_script_text.specs.declared.command.Command.TheVariants as command
use Rattle.fm_script_lines.specs.declared.{reply.Reply.{Reply, TheVariants.{Place, Refused}}, standing.Standing.{Standing}}
use Rattle.fm_script_lines.specs.{Played.{Done, IsCut, Played, runs}, Standings.{arena_of}}

-- of a line that allocates so many bytes, of this alignment
abbrev pub IfAllocates : Command → (ℕ → ℕ → Type 0) → Type 0
IfAllocates (command.Alloc arena name size align) P = P size align
IfAllocates c P = ⊤

-- a caller was let into the arena in these entries
pub record HasEntered (id : ArenaId) (run : List Entry) : Type 0 where
  pub caller : Caller
  pub among : IsAmong (entry_of caller (Enter id) Fine) run

-- so it is of each line, behind these entries and those of the lines before it
abbrev pub EachBehind : (List Entry → Done → Type 0) → List Entry → List Done → Type 0
EachBehind P before [] = ⊤
EachBehind P before (d ∷ ds) = P before d × EachBehind P (before ++ d.run) ds

-- how many bytes the arena had given behind these entries
abbrev pub given_behind : Shape → List Entry → ArenaId → ℕ
given_behind z es id = (machine.arena_of (state_after (limit_of z) [] es) id).given

-- ---- a pass by itself

-- where the range of an allocation ends that is placed behind these entries
abbrev pub end_behind : Shape → List Entry → ArenaId → (size align : ℕ) → ℕ
end_behind z es id size align = rounded_up (given_behind z es id) align + size

-- the range is within the arena's limit, and fewer pages aren't lent than parts up to its end lack one
pub record IsScarceBehind (z : Shape) (es : List Entry) (id : ArenaId) (size align : ℕ) : Type 0 where
  pub fits : end_behind z es id size align ≤ limit_of z
  pub few : unlent z.pages (loans_of es) < lacking (parts_before z (end_behind z es id size align)) (loans_of es) id

-- the line is refused so exactly where the arena lets it in and pages are too scarce for its range
pub record IsFullRightly (z : Shape) (before : List Entry) (size align : ℕ) (d : Done) : Type 0 where
  pub full : d.reply ≡ Refused PoolFull
      → (id : ArenaId) × HasEntered id d.run × IsScarceBehind z before id size align
  pub enough : d.reply ≢ Refused PoolFull
      → (id : ArenaId) → HasEntered id d.run → ¬ (IsScarceBehind z before id size align)

-- so it is if it allocates
abbrev pub AllocatesRightly : Shape → List Entry → Done → Type 0
AllocatesRightly z before d = IfAllocates d.line.command (λ size align. IsFullRightly z before size align d)

-- ---- a pass among others

-- The history had come to here at a point of a line's call: behind its caller's entries before the line, and before
-- those behind it
pub record IsPointOf (c : Caller) (history own run at : List Entry) : Type 0 where
  pub begins : Begins at history
  pub done : List Entry
  pub left : List Entry
  pub parts : run ≡ done ++ left
  pub own_at : made_by c at ≡ own ++ done

-- at a point of the line's call fewer pages of a word of page bits weren't lent than the pool has passes
pub record FoundFew (z : Shape) (c : Caller) (history own run : List Entry) (group : ℕ) : Type 0 where
  pub at : List Entry
  pub point : IsPointOf c history own run at
  pub few : unlent_in z group (loans_of at) < z.passes

-- so it was for each word of page bits, if the line allocates, and is refused for want of pages
abbrev pub FindsFew : Shape → Caller → (history own : List Entry) → Done → Type 0
FindsFew z c history own d = IfAllocates d.line.command (λ size align.
    d.reply ≡ Refused PoolFull → (group : ℕ) → group < page_groups z → FoundFew z c history own d.run group)

-- ---- what is lent

-- The entry lends a page to the arena as a part with a byte of the range, which is within the limit, as the arena's count
-- placed it at a point of the line's call that lies before the entry
pub record LendsInRange (z : Shape) (c : Caller) (history own run : List Entry) (id : ArenaId) (size align : ℕ)
    (e : Entry) : Type 0 where
  pub page : ℕ
  pub part : ℕ
  pub lends : e.call ≡ Lend page id part
  pub at : List Entry
  pub point : IsPointOf c history own run at
  pub made : List Entry
  pub later : List Entry
  pub until : Begins at made
  pub stands : history ≡ made ++ e ∷ later
  pub fits : end_behind z at id size align ≤ limit_of z
  pub after : given_behind z at id / (z.page_words * 8) ≤ part
  pub before : part * (z.page_words * 8) < end_behind z at id size align

-- The line enters the arena, lends pages for its range alone, does the rest, and leaves
pub record LendsInside (z : Shape) (c : Caller) (history own run : List Entry) (id : ArenaId) (size align : ℕ)
    (rest : List Entry) : Type 0 where
  pub lends : List Entry
  pub are : AllByRecursion (LendsInRange z c history own run id size align) lends
  pub is : run ≡ entry_of c (Enter id) Fine ∷ (lends ++ rest) ++ entry_of c (Leave id) Fine ∷ []

-- by its answer: it allocates, unless a page is wanting; and where it is refused before that, it lends nothing
abbrev pub LineLends : Shape → Caller → (history own run : List Entry) → (size align : ℕ) → Reply → Type 0
LineLends z c history own run size align (Place place) =
    (id : ArenaId) × LendsInside z c history own run id size align (entry_of c (Allocate id size align) (Given place) ∷ [])
LineLends z c history own run size align (Refused (NoRoom given)) =
    (id : ArenaId) × LendsInside z c history own run id size align (entry_of c (Allocate id size align) (machine_call.NoRoom given) ∷ [])
LineLends z c history own run size align (Refused PoolFull) =
    (id : ArenaId) × LendsInside z c history own run id size align []
LineLends z c history own run size align reply = but_loans run ≡ run

-- So a line that allocates lends
abbrev pub LendsRightly : Shape → Caller → (history own : List Entry) → Done → Type 0
LendsRightly z c history own d = IfAllocates d.line.command (λ size align. LineLends z c history own d.run size align d.reply)

-- ---- all lines

-- First and last lines are refused exactly where pages are too scarce, those of workers only where they had become few;
-- and all lend pages for their ranges alone
pub record HavePages (z : Shape) {history : List Entry} (p : Played) (cut : IsCut history p) : Type 0 where
  pub firsts : EachBehind (AllocatesRightly z) [] p.firsts
  pub workers : AllByRecursion (λ w. EachBehind (FindsFew z w.caller history) [] w.dones) p.players
  pub lasts : EachBehind (AllocatesRightly z) (cut.before ++ cut.between) p.lasts
  pub first_loans : EachBehind (LendsRightly z p.main history) [] p.firsts
  pub worker_loans : AllByRecursion (λ w. EachBehind (LendsRightly z w.caller history) [] w.dones) p.players
  pub last_loans : EachBehind (LendsRightly z p.main history) (runs p.firsts) p.lasts

-- ---- what a pass learns

abbrev pub answered : Result ℕ Refusal → Reply
answered (Ok place) = Place place
answered (Err refusal) = Refused refusal

-- what a pass learns of pages by a line that allocates in this arena
pub record PagesTold (old new : View) (id : ArenaId) (size align : ℕ) (reply : Reply) : Type 0 where
  pub result : Result ℕ Refusal
  pub is : reply ≡ answered result
  pub exact : AllocatesExactly old new id size align result

-- by a line of this command, where names stand for this
abbrev pub PagesToldBy : (List ℕ → Standing) → View → View → Command → Reply → Type 0
PagesToldBy stands old new (command.Alloc arena name size align) reply =
    IfSome (arena_of (stands arena)) (λ id. PagesTold old new id size align reply)
PagesToldBy stands old new c reply = ⊤
