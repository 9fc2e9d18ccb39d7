-- Lines that ran, those of one caller and those of a script, and their entries in a history.
use Rattle.std.specs.{Prelude.{◌≡◌, ℕ, ◌<◌, ◌≤◌, List, ◌∷◌, ◌++◌, map}, List.{AllByRecursion, flat_map}}
use Rattle.fm_base.specs.{declared.caller.Caller.{Caller}, Arenas.{only_caller}, Calls.{Entry}, Histories.{made_by}}
use Rattle.fm_base_lists.specs.Among.{IsAmong}
use Rattle.fm_rule_facts.specs.Hands.{last_term}
use Rattle.fm_script_text.specs.declared.line.Line.{Line}
use Rattle.fm_script_lines.specs.declared.{reply.Reply.{Reply}, standing.Standing.{Standing}}

-- a line that ran: its reply, its caller's entries, and what its name stands for
pub record Done : Type 0 where
  pub line : Line
  pub reply : Reply
  pub run : List Entry
  pub made : Standing

abbrev pub runs : List Done → List Entry
runs ds = flat_map (λ d. d.run) ds

abbrev pub lines_of : List Done → List Line
lines_of ds = map (λ d. d.line) ds

-- a worker and its lines
pub record Player : Type 0 where
  pub caller : Caller
  pub dones : List Done

pub record Played : Type 0 where
  -- the caller of the first lines and of the last
  pub main : Caller
  pub firsts : List Done
  pub players : List Player
  pub lasts : List Done

-- the workers' lines, in the order of printing
abbrev pub worked : List Player → List Done
worked ws = flat_map (λ w. w.dones) ws

-- all lines, in the order of printing
abbrev pub all_done : Played → List Done
all_done p = p.firsts ++ (worked p.players ++ p.lasts)

abbrev pub callers : Played → List Caller
callers p = p.main ∷ map (λ w. w.caller) p.players

-- the first lines' caller is the first one of a pool of so many passes, and each worker's has a number of the pool and a term that numbers can have
pub record AreDrawn (passes : ℕ) (p : Played) : Type 0 where
  pub first : p.main ≡ only_caller
  pub numbers : AllByRecursion (λ c. c.number < passes) (map (λ w. w.caller) p.players)
  pub terms : AllByRecursion (λ c. c.term ≤ last_term) (map (λ w. w.caller) p.players)

-- the first lines' entries stand before the workers', and these before the last lines'
pub record IsCut (history : List Entry) (p : Played) : Type 0 where
  pub before : List Entry
  pub between : List Entry
  pub after : List Entry
  pub parts : history ≡ before ++ (between ++ after)
  pub firsts : made_by p.main before ≡ runs p.firsts
  pub lasts : made_by p.main after ≡ runs p.lasts
  pub players : AllByRecursion (λ w. made_by w.caller between ≡ runs w.dones) p.players
  pub only_firsts : AllByRecursion (λ e. e.caller ≡ p.main) before
  pub only_workers : AllByRecursion (λ e. IsAmong e.caller (map (λ w. w.caller) p.players)) between
  pub only_lasts : AllByRecursion (λ e. e.caller ≡ p.main) after
