-- Where a worker's line finds no slot, other lines had each slot.
use Rattle.std.specs.{Prelude.{◌≡◌, ℕ, true, List, [], ◌++◌, Option}, List.{AllByRecursion}}
use Rattle.fm_base.specs.{Calls.{Entry}, Finds.{Find, is_slot}, Histories.{IsLegal}}
use Rattle.fm_rule_facts.specs.Views.{Begins, In, NoneLeft, limit_of}
use Rattle.fm_script_lines.specs.{Played.{IsCut, Played, Player}, Report.{AreRun, AreWorked}, Slots.{AreFound, WorkersFind}, Standings.{Names}}
use Rattle.fm_words.specs.declared.shape.Shape.{Shape}

-- What a worker's pass had found and seen when its lines had run, in a history that went on to these entries
pub record FindsTold (z : Shape) (all : List Entry) (w : Player) : Type 0 where
  pub finds : List Find
  pub seen : List Entry
  pub begins : Begins seen all
  pub found : AreFound w.caller finds seen [] w.dones
  pub none_left : (f : Find) → In f finds → is_slot f.step ≡ true → f.found ≡ 0 → NoneLeft z all w.caller f

-- Each slot had an arena that a first line, another worker's line or an earlier one of its own opened
abbrev pub FindsAreRight : Type 0
FindsAreRight =
    (z : Shape) (history : List Entry) (p : Played) (cut : IsCut history p)
    (number : List ℕ → Option ℕ) (k m : ℕ) (names others : Names)
    → AreRun p.main number k names p.firsts → AreWorked number m others p.players
    → IsLegal (limit_of z) [] (cut.before ++ cut.between)
    → AllByRecursion (FindsTold z (cut.before ++ cut.between)) p.players
    → WorkersFind z p.firsts p.players
