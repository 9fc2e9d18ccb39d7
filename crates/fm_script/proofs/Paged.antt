-- What a script's passes did with pages, in the words of its report.
use Rattle.std.{proofs.{Common.{◌≡◌, true, List, [], ◌++◌, append_assoc, sym, ap, ◌∙◌, subst}, lemmas.List.{append-nil}}, specs.List.{AllByRecursion}}
use Rattle.std.proofs.lemmas.List.Elements.{filter-append}
use Rattle.fm_base.specs.{declared.caller.Caller.{Caller}, Calls.{Entry}, Finds.{Gathered, Rest}, Histories.{made_by}}
use Rattle.fm_base_lists.proofs.Each.{all_weaker}
use Rattle.fm_words.specs.declared.shape.Shape.{Shape}
use Rattle.fm_rule_facts.specs.Views.{View, Begins}
use Rattle.fm_arena.specs.Opening.{HasNoSlot}
use Rattle.fm_script_text.specs.declared.line.Line.{Line}
use Rattle.fm_script_lines.specs.declared.{numbers.Numbers.{Numbers}, reply.Reply.{Reply}, standing.Standing.{Standing}}
use Rattle.fm_script_lines.specs.{Pages.{AllocatesRightly, EachBehind, FindsFew, HavePages, LendsRightly}, Report.{Played, IsCut, runs}}
use Rattle.fm_script_lines.proofs.Lending.{behind_as, lends_later}
use Rattle.fm_script_lines.specs.Report as report
use Rattle.fm_workers_crew.specs.Crew.{CrewGathered, IsFresh, callers}
use Rattle.fm_script.{specs.{declared.player.Player.{Player}, Runs.{AllRan, CanRun}}, proofs.Finding.{HaveFound, PagesFound, all_pages_found}}

module _ {names : Numbers} {lines : List Line} {old new : View} {tasks players : List Player} {own : List Standing} {firsts lasts : List Reply}
    (can : CanRun names lines old tasks) (all : AllRan names lines old new tasks players own firsts lasts) where
  abbrev crew : CrewGathered all.before all.between
  crew = all.worked.crew.crew

  -- what they did, where these are the workers
  abbrev played : List report.Player → Played
  played ps = record { main = old.caller; firsts = all.first.dones; players = ps; lasts = all.last.dones }

  -- ---- the pass that gathers them

  shape_between : all.between.shape ≡ old.shape
  shape_between = ap (λ (v : View). v.shape) crew.is ∙ all.first.went.same_shape

  caller_between : all.between.caller ≡ old.caller
  caller_between = ap (λ (v : View). v.caller) crew.is ∙ all.first.went.same_caller

  pub no_close : all.between.closes ≡ []
  no_close = ap (λ (v : View). v.closes) crew.is ∙ (ap (λ (x : Rest). x.closes) all.first.went.rest ∙ can.only.no_close)

  before_is : all.before.seen ≡ all.first.went.more
  before_is = all.first.went.seen ∙ ap (λ (es : List Entry). es ++ all.first.went.more) can.only.unused

  between_is : all.between.seen ≡ all.first.went.more ++ crew.more
  between_is = crew.seen ∙ ap (λ (es : List Entry). es ++ crew.more) before_is

  -- Its own entries are those of the first lines.
  own_between : made_by all.between.caller all.between.seen ≡ runs all.first.dones
  own_between =
      (λ i. made_by (caller_between i) (between_is i))
      ∙ (filter-append _ all.first.went.more crew.more
      ∙ ((λ i. all.first.went.by_pass i ++ subst (λ (c : Caller). made_by c crew.more ≡ []) all.first.went.same_caller crew.own i)
      ∙ append-nil (runs all.first.dones)))

  later_last : Begins all.between.seen new.seen
  later_last = (all.last.went.more, all.last.went.seen)

  later_first : Begins all.before.seen new.seen
  later_first = (
    crew.more ++ all.last.went.more,
    all.last.went.seen ∙ (ap (λ (es : List Entry). es ++ all.last.went.more) crew.seen ∙ append_assoc all.before.seen crew.more all.last.went.more),
  )

  -- ---- all of them

  workers_found : (ps : List report.Player) → HaveFound crew.passes ps → AllByRecursion (λ w. made_by w.caller crew.more ≡ runs w.dones) ps
      → AllByRecursion (PagesFound old.shape new.seen) ps
  workers_found ps found entries =
      subst (λ (z : Shape). AllByRecursion (PagesFound z new.seen) ps) shape_between
      (all_pages_found all.before all.between crew.more new.seen crew.seen later_last crew.passes ps found
      (subst (λ (gs : List Gathered). AllByRecursion (IsFresh all.before) (callers gs)) crew.are_passes crew.fresh) crew.within entries)

  pub have_pages : (ps : List report.Player) (cut : IsCut new.seen (played ps)) → cut.before ++ cut.between ≡ all.first.went.more ++ crew.more
      → HaveFound crew.passes ps → AllByRecursion (λ w. made_by w.caller crew.more ≡ runs w.dones) ps → all.between.whole ≡ true
      → HasNoSlot all.between → HavePages old.shape (played ps) cut
  have_pages ps cut parts found entries wholly no_slot =
      let told = workers_found ps found entries in
      record {
        firsts = subst (λ (es : List Entry). EachBehind (AllocatesRightly old.shape) es all.first.dones) can.only.unused
            (all.first.full can.only.whole.whole can.only.no_close can.only.no_slot);
        workers = all_weaker (PagesFound old.shape new.seen) (λ w. EachBehind (FindsFew old.shape w.caller new.seen) [] w.dones) (λ w f. f.few) ps told;
        lasts = subst (λ (x : Shape × List Entry). EachBehind (AllocatesRightly x.0) x.1 all.last.dones)
            (λ i. (shape_between i, (between_is ∙ sym parts) i)) (all.last.full wholly no_close no_slot);
        first_loans = behind_as (LendsRightly old.shape old.caller all.before.seen) (LendsRightly old.shape old.caller new.seen)
            (lends_later old.shape old.caller all.before.seen new.seen later_first) [] all.first.dones
            (subst (λ (es : List Entry). EachBehind (LendsRightly old.shape old.caller all.before.seen) (made_by old.caller es) all.first.dones)
            can.only.unused all.first.loans);
        worker_loans = all_weaker (PagesFound old.shape new.seen) (λ w. EachBehind (LendsRightly old.shape w.caller new.seen) [] w.dones) (λ w f. f.loans)
            ps told;
        last_loans = subst (λ (x : Shape × (Caller × List Entry)). EachBehind (LendsRightly x.0 x.1.0 new.seen) x.1.1 all.last.dones)
            (λ i. (shape_between i, (caller_between i, own_between i))) all.last.loans;
      }
