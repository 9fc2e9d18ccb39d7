-- Where a line that opens an arena is refused for want of a slot.
use Rattle.std.specs.Prelude.{◌≡◌, ◌≢◌, ℕ, ◌<◌, ◌≤◌, Bool, true, false, List, [], ◌∷◌, ◌++◌, length, Some, ⊤}
use Rattle.fm_words.specs.declared.shape.Shape.{Shape}
use Rattle.fm_base.specs.{declared.{arena_id.ArenaId.{ArenaId}, caller.Caller.{Caller}, refusal.Refusal.TheVariants.{NoSlot}}, Calls.{Entry}}
use Rattle.fm_base.specs.{Finds.{Find, is_slot}, Histories.{made_by, state_after}, View.{but_loans}}
use Rattle.fm_rule_facts.specs.Views.{View, Begins, In, IsBusyIn, limit_of}
use Rattle.fm_gate.specs.Learnt.{AllBusy}
use Rattle.fm_arena.specs.Opening.{FoundNoneLeft, HasNoSlot}
use Rattle.fm_script_text.specs.declared.command.Command.{Command}
use Rattle.fm_script_text.specs.declared.command.Command.TheVariants as command
use Rattle.fm_script_lines.specs.{declared.reply.Reply.{Reply, TheVariants.{Fine, Refused}}, Played.{Done, IsCut, Played, Player, worked}, Standings.{arena_of}}

-- the line opens an arena
abbrev pub opens : Command → Bool
opens (command.Open name kind) = true
opens c = false

-- it does, and is refused for want of a slot
pub record FindsNoSlot (d : Done) : Type 0 where
  pub opens : opens d.line.command ≡ true
  pub refused : d.reply ≡ Refused NoSlot

-- ---- a pass by itself

-- every slot has an arena that hasn't ended, or has had its last generation
abbrev pub AllBusyIn : Shape → List Entry → Type 0
AllBusyIn z es = (slot : ℕ) → slot < z.slots → IsBusyIn z.generations (state_after (limit_of z) [] es) slot

-- behind these entries the line is refused exactly where every slot is busy
pub record OpensRightly (z : Shape) (before : List Entry) (d : Done) : Type 0 where
  pub refused : d.reply ≡ Refused NoSlot → AllBusyIn z before
  pub opened : d.reply ≢ Refused NoSlot → ¬ (AllBusyIn z before)

-- so are the lines of a pass that is by itself, each behind those before it
abbrev pub OpenRightly : Shape → List Entry → List Done → Type 0
OpenRightly z before [] = ⊤
OpenRightly z before (d ∷ ds) = (opens d.line.command ≡ true → OpensRightly z before d) × OpenRightly z (before ++ d.run) ds

-- ---- a pass among others

-- an `open` line of these was answered ok, by an arena of the slot
pub record Opened (slot : ℕ) (ds : List Done) : Type 0 where
  pub done : Done
  pub among : In done ds
  pub opens : opens done.line.command ≡ true
  pub fine : done.reply ≡ Fine
  pub arena : ArenaId
  pub is : arena_of done.made ≡ Some arena
  pub in_slot : arena.slot ≡ slot

-- one worker's lines: where one finds no slot, each slot was lent to one of these others or to a line before it
abbrev pub FindRightly : Shape → (others earlier : List Done) → List Done → Type 0
FindRightly z others earlier [] = ⊤
FindRightly z others earlier (d ∷ ds) =
    (FindsNoSlot d → (slot : ℕ) → slot < z.slots → Opened slot (others ++ earlier)) × FindRightly z others (earlier ++ d ∷ []) ds

-- the workers' lines; `before` are the first lines and those of the workers before these
abbrev pub WorkersFind : Shape → List Done → List Player → Type 0
WorkersFind z before [] = ⊤
WorkersFind z before (w ∷ ws) = FindRightly z (before ++ worked ws) [] w.dones × WorkersFind z (before ++ w.dones) ws

-- ---- all lines

-- First and last lines are refused exactly where every slot is busy, and those of workers where other lines had each slot
pub record HaveSlots (z : Shape) {history : List Entry} (p : Played) (cut : IsCut history p) : Type 0 where
  pub firsts : OpenRightly z [] p.firsts
  pub workers : WorkersFind z p.firsts p.players
  pub lasts : OpenRightly z (cut.before ++ cut.between) p.lasts

-- ---- what a pass learns

-- what a pass learns of its slots by a line that opens an arena
pub record SlotsTold (old new : View) (reply : Reply) : Type 0 where
  pub exact : old.whole ≡ true → HasNoSlot old → (reply ≡ Refused NoSlot → AllBusy old) × (reply ≢ Refused NoSlot → ¬ (AllBusy old))
  pub found : reply ≡ Refused NoSlot → FoundNoneLeft old new

-- The caller found no slot when it had seen `at`, in which its own entries are these, loans not counted
pub record FoundAt (c : Caller) (finds : List Find) (seen own : List Entry) : Type 0 where
  pub find : Find
  pub among : In find finds
  pub step : is_slot find.step ≡ true
  pub nothing : find.found ≡ 0
  pub at : List Entry
  pub begins : Begins at seen
  pub early : find.seen ≤ length at
  pub own_at : but_loans (made_by c at) ≡ but_loans own

-- so it did at each of its lines that found none, behind entries of its own
abbrev pub AreFound : Caller → List Find → List Entry → List Entry → List Done → Type 0
AreFound c finds seen own [] = ⊤
AreFound c finds seen own (d ∷ ds) = (FindsNoSlot d → FoundAt c finds seen own) × AreFound c finds seen (own ++ d.run) ds
