-- What is told of a script that has run.
use Rattle.std.{proofs.{Common.{◌≡◌, ℕ, List, [], ◌∷◌, ◌++◌, Option, length, map, refl, sym, ap, ◌∙◌, subst}, lemmas.List.{length-map}}, specs.List.{flat_map}}
use Rattle.fm_base.specs.{declared.{arena_id.ArenaId.{ArenaId}, caller.Caller.{Caller}}, Calls.{Entry}, Histories.{IsTidy}}
use Rattle.fm_rule_facts.specs.Views.{limit_of}
use Rattle.fm_rule.specs.Finishing.{FinishedView, IsFinished}
use Rattle.fm_script_text.specs.{declared.line.Line.{Line}, Scripts.{ScriptOf}}
use Rattle.fm_script_lines.specs.declared.{bound.Bound.{Bound}, numbers.Numbers.{Numbers}, reply.Reply.{Reply}, standing.Standing.{Standing}}
use Rattle.fm_script_lines.specs.{Numbers.{number_at, number_from}, Report.{Done, Played, IsReport, all_done, callers, lines_of}}
use Rattle.fm_script_lines.{specs.Standings.{arena_of, standing_as}, proofs.Naming.{lent_seen}}
use Rattle.fm_script_laws.proofs.Reports.{report_tidy}
use Rattle.fm_script_report.specs.{declared.line.ReportLine.{ReportLine}, Alive.{AreOpened, arena_by}, Told.{AreTold, IsRunOf, opened_of, report_of}}
use Rattle.fm_script_report.{specs.Views.{ReportView}, proofs.Telling.{tells}}
use Rattle.fm_script.{specs.{declared.{main_lines.MainLines.{MainLines}, player.Player.{Player}}, Runs.{HasRun}}, proofs.After.{made_lent}}
use Rattle.fm_script.proofs.Opened.{were_opened}
use Rattle.fm_script.proofs.Telling as telling

-- the arenas that names stand for
abbrev pub arenas_lent : List Bound → List (Option ArenaId)
arenas_lent ls = map (λ l. arena_of (standing_as l)) ls

arenas_twice : (ls : List Bound) → arenas_lent ls ≡ map arena_of (map standing_as ls)
arenas_twice [] = refl
arenas_twice (l ∷ ls) = λ i. arena_of (standing_as l) ∷ arenas_twice ls i

-- To others a name stands for the same arena.
arenas_made : (ds : List Done) → map arena_of (map made_lent ds) ≡ opened_of ds
arenas_made [] = refl
arenas_made (d ∷ ds) = let s = lent_seen d.made in λ i. s.arena i ∷ arenas_made ds i

module _ (s : ScriptOf) (order : List Line) (names : Numbers) (caller : Caller) (players : List Player) (main : MainLines) (f : FinishedView)
    (h : HasRun s order names caller players main f) where
  -- all replies, in the order of printing
  abbrev pub all_replies : List Reply
  all_replies = main.firsts.items ++ (flat_map (λ (p : Player). p.replies.items) players ++ main.lasts.items)

  -- Replies that were put together in that order are they.
  pub replies_put : {all put lasts : List Reply} → all ≡ put → put ≡ main.firsts.items ++ (flat_map (λ (p : Player). p.replies.items) players ++ lasts)
      → lasts ≡ main.lasts.items → all ≡ all_replies
  replies_put same are last =
      same ∙ (are ∙ ap (λ (rs : List Reply). main.firsts.items ++ (flat_map (λ (p : Player). p.replies.items) players ++ rs)) last)

  abbrev pub played : Played
  played = telling.the_played names s.lines h.old h.new h.tasks players h.ran.own main.firsts.items main.lasts.items h.can h.ran.all

  replied : all_replies ≡ map (λ d. d.reply) (all_done played)
  replied = telling.replies_are names s.lines h.old h.new h.tasks players h.ran.own main.firsts.items main.lasts.items h.can h.ran.all

  printed : lines_of (all_done played) ≡ order
  printed =
      telling.in_printing names s.lines h.old h.new h.tasks players h.ran.own main.firsts.items main.lasts.items h.can h.ran.all
      ∙ sym h.in_printing

  -- There is a reply for each line.
  pub replies_many : length all_replies ≡ length order
  replies_many =
      ap (λ (rs : List Reply). length rs) replied
      ∙ (length-map (all_done played) (λ (d : Done). d.reply)
      ∙ (sym (length-map (all_done played) (λ (d : Done). d.line)) ∙ ap (λ (ls : List Line). length ls) printed))

  opened_are : arenas_lent main.lent.items ≡ opened_of (all_done played)
  opened_are =
      arenas_twice main.lent.items
      ∙ (ap (λ (ss : List Standing). map arena_of ss)
      (h.ran.lent_names ∙ telling.lent_are names s.lines h.old h.new h.tasks players h.ran.own main.firsts.items main.lasts.items h.can h.ran.all)
      ∙ arenas_made (all_done played))

  did : IsReport s f.history played
  did =
      subst (λ (es : List Entry). IsReport s es played) (sym h.history)
      (telling.is_report names s.lines h.old h.new h.tasks players h.ran.own main.firsts.items main.lasts.items h.can h.ran.all s refl h.of_shape h.passes)

  -- The arenas of names were opened in the pool's history.
  pub all_opened : (opened : List (Option ArenaId)) → opened ≡ arenas_lent main.lent.items → AreOpened f opened
  all_opened opened are =
      subst (λ (os : List (Option ArenaId)). AreOpened f os) (sym (are ∙ opened_are))
      (were_opened s (limit_of f.shape) f.history played h.finished.legal did)

  all_callers : caller ∷ map (λ (p : Player). p.caller) players ≡ callers played
  all_callers =
      ap (λ (c : Caller). c ∷ map (λ (p : Player). p.caller) players) h.by
      ∙ telling.callers_are names s.lines h.old h.new h.tasks players h.ran.own main.firsts.items main.lasts.items h.can h.ran.all

  numbered : (name : List ℕ) → number_at names name ≡ number_from 0 order name
  numbered name = h.can.numbers name ∙ ap (λ (ls : List Line). number_from 0 ls name) (sym h.in_printing)

  -- What was put together is the report.
  pub run_told : (opened : List (Option ArenaId)) (cs : List Caller) (replies : List Reply) (ts : List ReportLine) (r : ReportView)
      → opened ≡ arenas_lent main.lent.items → cs ≡ caller ∷ map (λ (p : Player). p.caller) players → replies ≡ all_replies
      → AreTold order replies ts → r ≡ report_of (arena_by (number_at names) opened) s.lines ts cs f → IsRunOf s r
  run_told opened cs replies ts r arenas by answers told is =
      let report = tells s played f opened (number_at names) r order replies ts cs is h.shape did (by ∙ all_callers) printed
      (sym replied ∙ sym answers) told numbered (arenas ∙ opened_are) in
      let same : r.finished ≡ f = ap (λ (v : ReportView). v.finished) is in
      record {
        report = report;
        finished = subst (λ (g : FinishedView). IsFinished g) (sym same) h.finished;
        tidy = subst (λ (g : FinishedView). IsTidy (limit_of g.shape) [] g.history) (sym same)
            (report_tidy s (limit_of f.shape) f.history played h.can.rules.said did h.finished.legal);
      }
