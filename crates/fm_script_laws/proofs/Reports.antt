-- What all lines of a script did is tidy.
use Rattle.std.proofs.Common.{◌≡◌, ℕ, ◌+◌, nat_lt, Bool, true, false, cond, List, [], ◌∷◌, ◌++◌, Option, length, map, sym, subst, inl, arith}
use Rattle.std.specs.List.{AllByRecursion}
use Rattle.fm_segment_laws.specs.Accesses.{IsTidyBy}
use Rattle.fm_base.specs.{declared.caller.Caller.{Caller}, Arenas.{State}, Calls.{Entry}, Histories.{IsLegal, IsTidy, made_by, state_after}}
use Rattle.fm_base.proofs.{Growing.{Grows-state_after}, Making.{IsLegal-split}}
use Rattle.fm_base_lists.{specs.Among.{IsAmong}, proofs.Each.{all_weaker}}
use Rattle.fm_script_lines.specs.Report.{Player, AreWorked, AreWorkers, gathered_names, is_first, is_last, is_worker, lent_names, lines_by, names_after, none_stands, number_of, runs, worked}
use Rattle.fm_script_lines.specs.Standings.{Names}
use Rattle.fm_script_text.specs.{declared.{command.Command.{Command}, line.Line.{Line}, who.Who.{Who}}, Scripts.{IsSaid}, Syntax.{IsSpelled}}
use Rattle.fm_script_text.specs.declared.command.Command.TheVariants as command
use Rattle.fm_script_laws.{specs.{Lines.{FillsWithByte}, Reports.{ReportsAreTidy}}, proofs.Backing.{AllThere, all_on, either_there, lent_there, nothing_there}}
use Rattle.fm_script_laws.proofs.{Parting.{tidy_append, tidy_many}, Rows.{row_comes}}

-- ---- a script's lines

-- What a line's text says to fill with is a byte.
spelled_fills : (k : Command) → IsSpelled k → FillsWithByte k
spelled_fills (command.Fill segment byte) h = let small = h.1 in omega arith
spelled_fills k h = tt

abbrev AllFill : List Line → Type 0
AllFill ls = AllByRecursion (λ l. FillsWithByte l.command) ls

said_fill : (ls : List Line) → AllByRecursion IsSaid ls → AllFill ls
said_fill ls h = all_weaker IsSaid (λ l. FillsWithByte l.command) (λ l k. spelled_fills l.command k.is_spelled) ls h

-- Of those that are picked out.
picked_fill : (is : Who → Bool) (ls : List Line) → AllFill ls → AllFill (lines_by is ls)
picked_fill is [] h = tt
picked_fill is (l ∷ ls) h =
    let P : Bool → Type 0 = λ b. AllFill (cond b (l ∷ lines_by is ls) (lines_by is ls)) in
    let go : (b : Bool) → P b = λ b. elim b as P [ true ↦ (h.0, picked_fill is ls h.1) | false ↦ picked_fill is ls h.1 ] in
    go (is l.who)

-- ---- the workers

-- each worker's own are tidy, and behind them what names stand for is there
record CrewComes (limit : ℕ) (number : List ℕ → Option ℕ) (s : State) (k : ℕ) (ws : List Player) (all : List Entry) : Type 0 where
  tidy : AllByRecursion (λ c. IsTidyBy c limit s all) (map (λ w. w.caller) ws)
  there : (names : Names) → AllThere s names → AllThere (state_after limit s all) (gathered_names number k ws names)

module _ (limit : ℕ) (number : List ℕ → Option ℕ) (s : State) (all : List Entry) (legal : IsLegal limit s all) (ls : List Line) (fill : AllFill ls)
    (names : Names) (there : AllThere s names) where
  -- Each worker's lines run in the one history, and the names that are gathered are theirs.
  crew_comes : (m k : ℕ) (ws : List Player) → AreWorkers ls m ws → AllByRecursion (λ w. made_by w.caller all ≡ runs w.dones) ws → AreWorked number k names ws
      → CrewComes limit number s k ws all
  crew_comes m k [] lines by run = record { tidy = tt; there = λ base h. all_on s (state_after limit s all) (Grows-state_after limit s all legal) base h }
  crew_comes m k (w ∷ ws) lines by run =
      let fills = subst AllFill (sym lines.0) (picked_fill (is_worker m) ls fill) in
      let first = row_comes w.caller limit number s k names w.dones all there fills legal by.0 run.0 in
      let rest = crew_comes (m + 1) (k + length w.dones) ws lines.1 by.1 run.1 in
      let later = state_after limit s all in
      record {
        tidy = (first.tidy, rest.tidy);
        there = λ base h n.
            let own = lent_there later (names_after number k w.dones none_stands n) (first.there none_stands (λ x. nothing_there s) n) in
            either_there later (nat_lt n k) (base n) _ (all_on s later (Grows-state_after limit s all legal) base h n)
            (either_there later (nat_lt n (k + length w.dones)) _ _ own (rest.there base h n));
      }

-- ---- all lines

-- Entries of one caller.
tidy_one : (c : Caller) (limit : ℕ) (s : State) (es : List Entry) → AllByRecursion (λ e. e.caller ≡ c) es → IsTidyBy c limit s es → IsTidy limit s es
tidy_one c limit s es alone tidy =
    tidy_many (c ∷ []) limit s es (all_weaker (λ e. e.caller ≡ c) (λ e. IsAmong e.caller (c ∷ [])) (λ e is. inl is) es alone) (tidy, tt)

-- The first lines, the workers' and the last, one behind the other.
pub report_tidy : ReportsAreTidy
report_tidy s limit history p said report legal =
    let cut = report.cut in
    let number = number_of p in
    let fill = said_fill s.lines said in
    let whole = IsLegal-split limit [] cut.before (cut.between ++ cut.after) (subst (λ (es : List Entry). IsLegal limit [] es) cut.parts legal) in
    let begun = state_after limit [] cut.before in
    let parts = IsLegal-split limit begun cut.between cut.after whole.1 in
    let gathered = state_after limit begun cut.between in
    let firsts = row_comes p.main limit number [] 0 none_stands p.firsts cut.before (λ n. nothing_there [])
    (subst AllFill (sym report.lines.firsts) (picked_fill is_first s.lines fill)) whole.0 cut.firsts report.first_calls in
    let named = firsts.there none_stands (λ n. nothing_there []) in
    let names = names_after number 0 p.firsts none_stands in
    let crew = crew_comes limit number begun cut.between parts.0 s.lines fill (lent_names names) (λ n. lent_there begun (names n) (named n)) 1
    (length p.firsts) p.players report.lines.workers cut.players report.worker_calls in
    let lasts = row_comes p.main limit number gathered (length p.firsts + length (worked p.players))
    (gathered_names number (length p.firsts) p.players names) p.lasts cut.after (crew.there names named)
    (subst AllFill (sym report.lines.lasts) (picked_fill is_last s.lines fill)) parts.1 cut.lasts report.last_calls in
    subst (λ (es : List Entry). IsTidy limit [] es) (sym cut.parts)
    (tidy_append limit [] cut.before (cut.between ++ cut.after) (tidy_one p.main limit [] cut.before cut.only_firsts firsts.tidy)
    (tidy_append limit begun cut.between cut.after
    (tidy_many (map (λ w. w.caller) p.players) limit begun cut.between cut.only_workers crew.tidy)
    (tidy_one p.main limit gathered cut.after cut.only_lasts lasts.tidy)))
