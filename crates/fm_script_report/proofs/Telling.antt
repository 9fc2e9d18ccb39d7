-- What a report tells, of lines that were played.
use Rattle.std.proofs.Common.{◌≡◌, ℕ, List, [], ◌∷◌, map, Option, refl, sym, ap, ◌∙◌, subst}
use Rattle.fm_base.specs.declared.{arena_id.ArenaId.{ArenaId}, caller.Caller.{Caller}}
use Rattle.fm_rule.specs.Finishing.{FinishedView}
use Rattle.fm_script_lines.specs.{declared.reply.Reply.{Reply}, Numbers.{number_from}, Report.{Done, IsReport, Played, all_done, callers, lines_of, number_of}}
use Rattle.fm_script_text.specs.{declared.line.Line.{Line}, Scripts.{ScriptOf}}
use Rattle.fm_script_report.specs.{declared.line.ReportLine.{ReportLine}, Alive.{alive_of, arena_by}, Told.{AreTold, IsReportOf, opened_of, report_of, told_of}}
use Rattle.fm_script_report.specs.Views.{ReportView}

-- Lines that are told with their replies are told one by one.
told-of_dones : (ds : List Done) (ts : List ReportLine) → AreTold (lines_of ds) (map (λ d. d.reply) ds) ts → ts ≡ told_of ds
told-of_dones [] [] t = refl
told-of_dones [] (x ∷ ts) t = absurd (let e = t.replies in cc)
told-of_dones (d ∷ ds) [] t = absurd (let e = t.replies in cc)
told-of_dones (d ∷ ds) (x ∷ ts) t =
    let texts = t.texts in
    let replies = t.replies in
    let text : x.text ≡ d.line.text = cc in
    let reply : x.reply ≡ d.reply = cc in
    let rest : ts ≡ told_of ds = told-of_dones ds ts (record { texts = cc; replies = cc }) in
    λ i. record { text = text i; reply = reply i } ∷ rest i

module _ (s : ScriptOf) (p : Played) (f : FinishedView) (opened : List (Option ArenaId)) (number : List ℕ → Option ℕ) where
  -- The names' numbers and arenas are those of the lines that were played.
  arenas_played : ((name : List ℕ) → number name ≡ number_of p name) → opened ≡ opened_of (all_done p)
      → alive_of f (arena_by number opened) s.lines ≡ alive_of f (arena_by (number_of p) (opened_of (all_done p))) s.lines
  arenas_played numbers are = λ i. alive_of f (arena_by (λ name. numbers name i) (are i)) s.lines

  -- What was put together of a run is its report.
  pub tells : (r : ReportView) (order : List Line) (replies : List Reply) (ts : List ReportLine) (cs : List Caller)
      → r ≡ report_of (arena_by number opened) s.lines ts cs f → f.shape ≡ s.shape → IsReport s f.history p → cs ≡ callers p
      → lines_of (all_done p) ≡ order → map (λ d. d.reply) (all_done p) ≡ replies → AreTold order replies ts
      → ((name : List ℕ) → number name ≡ number_from 0 order name) → opened ≡ opened_of (all_done p) → IsReportOf s r
  tells r order replies ts cs is shape did by lines replied told numbers are =
      subst (λ (v : ReportView). IsReportOf s v) (sym is) (record {
        shape = shape;
        played = p;
        did = did;
        by = by;
        lines = told-of_dones (all_done p) ts
            (subst (λ (rs : List Reply). AreTold (lines_of (all_done p)) rs ts) (sym replied)
            (subst (λ (ls : List Line). AreTold ls replies ts) (sym lines) told));
        alive = arenas_played (λ name. numbers name ∙ ap (λ ls. number_from 0 ls name) (sym lines)) are;
      })
