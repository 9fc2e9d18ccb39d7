-- Lines of one caller in a row are tidy, whatever others do in between.
use Rattle.std.{proofs.Common.{◌≡◌, ℕ, ◌+◌, List, [], ◌∷◌, ◌++◌, Option, sym, subst}, specs.List.{AllByRecursion}}
use Rattle.fm_segment_laws.specs.Accesses.{IsTidyBy}
use Rattle.fm_base.specs.{declared.caller.Caller.{Caller}, Arenas.{State}, Calls.{Entry}, Histories.{IsLegal, made_by, state_after}}
use Rattle.fm_base.proofs.{Growing.{Grows-state_after}, Making.{IsLegal-split, state_after-append}}
use Rattle.fm_script_lines.specs.{Outcomes.{outcome}, Report.{Done, AreRun, lines_of, names_after, names_behind, runs}, Standings.{Names, stands_of}}
use Rattle.fm_script_laws.{specs.Lines.{FillsWithByte}, proofs.{Backing.{AllThere, all_on, names_there, stands_there}, Calling.{Own, Comes}}}
use Rattle.fm_script_laws.proofs.{Commands.{call_comes}, Cutting.{Cut, cut}, Parting.{own_append, own_none}}

-- the caller's own of these entries are tidy, and behind them what names stand for is there
pub record RowComes (c : Caller) (limit : ℕ) (number : List ℕ → Option ℕ) (s : State) (k : ℕ) (ds : List Done) (all : List Entry) : Type 0 where
  pub tidy : IsTidyBy c limit s all
  pub there : (names : Names) → AllThere s names → AllThere (state_after limit s all) (names_after number k ds names)

module _ (c : Caller) (limit : ℕ) (number : List ℕ → Option ℕ) where
  -- A line, and those behind it.
  joined : (s : State) (k : ℕ) (d : Done) (ds : List Done) (xs ys : List Entry) → IsLegal limit s xs → Comes c limit s xs d.made
      → RowComes c limit number (state_after limit s xs) (k + 1) ds ys → RowComes c limit number s k (d ∷ ds) (xs ++ ys)
  joined s k d ds xs ys legal here rest = record {
    tidy = own_append c limit s xs ys here.tidy rest.tidy;
    there = λ names h.
        let on = all_on s (state_after limit s xs) (Grows-state_after limit s xs legal) names h in
        subst (λ (u : State). AllThere u (names_after number (k + 1) ds (names_behind number k d names))) (sym (state_after-append limit s xs ys))
        (rest.there (names_behind number k d names) (names_there (state_after limit s xs) number k d names here.there on));
  }

  -- The entries are cut behind the first line's last one, and so on.
  pub row_comes : (s : State) (k : ℕ) (names : Names) (ds : List Done) (all : List Entry) → AllThere s names
      → AllByRecursion (λ l. FillsWithByte l.command) (lines_of ds) → IsLegal limit s all → made_by c all ≡ runs ds → AreRun c number k names ds
      → RowComes c limit number s k ds all
  row_comes s k names [] all there fills legal by run = record {
    tidy = own_none c limit s all by;
    there = λ other h. all_on s (state_after limit s all) (Grows-state_after limit s all legal) other h;
  }
  row_comes s k names (d ∷ ds) all there fills legal by run =
      let at : Cut c all d.run (runs ds) = cut c all d.run (runs ds) by in
      let parts = IsLegal-split limit s at.before at.behind (subst (λ (es : List Entry). IsLegal limit s es) at.is legal) in
      let mine : Own c limit s at.before d.run = record { legal = parts.0; by = at.first } in
      let here : Comes c limit s at.before d.made =
      call_comes mine (λ name. stands_of names (number name)) (λ name. stands_there s names (number name) there) (outcome d.reply d.made) d.line.command
      fills.0 run.0 in
      let next = state_after limit s at.before in
      let on = names_there next number k d names here.there (all_on s next (Grows-state_after limit s at.before parts.0) names there) in
      let rest = row_comes next (k + 1) (names_behind number k d names) ds at.behind on fills.1 parts.1 at.last run.1 in
      subst (λ (es : List Entry). RowComes c limit number s k (d ∷ ds) es) (sym at.is) (joined s k d ds at.before at.behind parts.0 here rest)
