-- How what is asked of records ends, by what was read so far.
use Rattle.std.{proofs.Common.{◌≡◌, ◌≢◌, ◌⊎◌, ℕ, List, Option, Some, Result, Ok, Err, subst}, specs.{Borrow.{Bor}, Prelude.{⊤, IfErr, IfOk}}}
use Rattle.fm_base.specs.declared.refusal.Refusal.{Refusal, TheVariants.{Memory}}
use Rattle.fm_io.{specs.{Reads.{Ended, Read}, View.{FilesView}}, proofs.Left.{leaves_then}}
use Rattle.fm_layout.specs.Tree.{Tree}
use Rattle.fm_top_load.specs.{Reading.{ReadsUpTo}, declared.load_fault.LoadFault.{LoadFault}}
use Rattle.fm_top.specs.{Causes.{IsAsked}, Ends.{EndsFile, EndsRequest}, Found.{OfFound}, Outcome.{layout_file_limit}, Run.{HasOutcome}}
use Rattle.fm_top.specs.Queries.{AskEnds, ComesTo, ComesToNone, IsLayoutRefused, IsRecordLayout, PlanEnds, PlanOf, TextEnds, over_layout, planned, records_limit}
use Rattle.fm_top.specs.{Stops.{layout_stop, load_stop, or_stop, query_stop}, Words.{Ask}, declared.{command.wish.Wish.{Wish}, outcome.{reply.Reply.{Reply}, stop.Stop.{Stop}}}}
use Rattle.fm_top.proofs.{Ends.{IsQuiet, ends_as, ends_weaker, unread_ends}, Listed.{quiet_layout}, Loaded.{IsRead, or_err, or_ok}, Outcomes.{ask-whole, refused-layout, refused-text}, ReadFor.{ask_both}}

-- a refused text comes of no failed read, nor of a missing file
quiet_query : (e : Refusal) → IsQuiet (Err (query_stop e))
quiet_query Memory = tt
quiet_query e = tt

-- the file was read to its end
pub ended : {old new : Option (List Read)} {name : List ℕ} (limit : ℕ) {T : Type 0} (file : Bor (List ℕ)) (r : Result T LoadFault) {x : T}
    → Ok x ≡ or_stop (load_stop file) r → ReadsUpTo old new name limit (λ next. IfOk r (λ y. next ≡ Ended)) → ReadsUpTo old new name limit
    (λ next. next ≡ Ended)
ended {old} {new} {name} limit file r is reads = subst (λ r. ReadsUpTo old new name limit (λ next. IfOk r (λ y. next ≡ Ended))) (or_ok (load_stop file) r is)
    reads

-- the layout's file was read, and these bytes were taken
module _ {old mid : FilesView} (w : Wish) (layout text file : List ℕ) {bytes given : List ℕ} (read : IsRead old mid layout layout_file_limit bytes)
    (whole : ReadsUpTo old.reads mid.reads layout layout_file_limit (λ next. next ≡ Ended)) (same : given ≡ bytes) where
  asked : {new : FilesView} {end : Result Reply Stop} → EndsFile file (records_limit w) ((p : PlanOf w) × IsAsked w (Some given) text p)
      (λ found o. AskEnds w layout text file found (Some given) o) mid new end → EndsRequest (Ask w layout text file) old new end
  asked {end = end} ends = record {
    outcome = ends_weaker (λ o. OfFound mid.holds file (λ found. AskEnds w layout text file found (Some given) o))
        (HasOutcome (Ask w layout text file) old.holds) end
        (λ o has. ask-whole w layout text file old.holds o read.whole same read.left.held has) ends.outcome;
    reads = ask_both w layout text file old.holds read.whole same whole ends.reads;
    files = leaves_then read.left ends.files;
  }

  -- the layout is refused
  pub layout_ends : {T : Type 0} (r : Result T Refusal) {s : Stop} → Err s ≡ or_stop layout_stop r → IfErr r (λ e. IsLayoutRefused w given e ⊎ (e ≡ Memory))
      → {end : Result Reply Stop} → end ≡ Err s → EndsRequest (Ask w layout text file) old mid end
  layout_ends r is refused ends =
      let told = or_err layout_stop r is in
      let denied = subst (λ r. IfErr r (λ e. IsLayoutRefused w given e ⊎ (e ≡ Memory))) told.1 refused in
      rw (ends, told.2) (asked (unread_ends (Err (layout_stop told.0)) (refused-layout w text file layout given told.0 denied) (quiet_layout told.0)))

  module _ (t : Tree) (is_layout : IsRecordLayout w given t) where
    over : {new : FilesView} {end : Result Reply Stop} {Needs : Type 0} → (Needs → (p : PlanOf w) × ComesTo w text t p)
        → EndsFile file (records_limit w) Needs (λ found o. TextEnds w text t file found o) mid new end → EndsRequest (Ask w layout text file) old new end
    over so ends = asked (ends_as (λ needs. let p = so needs in (p.0, (t, is_layout, p.1))) (λ found o has. over_layout given t o is_layout has) ends)

    -- the text is refused
    pub text_ends : {T : Type 0} (r : Result T Refusal) {s : Stop} → Err s ≡ or_stop query_stop r → IfErr r (λ e. e ≢ Memory → ComesToNone w text t e)
        → {end : Result Reply Stop} → end ≡ Err s → EndsRequest (Ask w layout text file) old mid end
    text_ends r is refused ends =
        let told = or_err query_stop r is in
        let denied = subst (λ r. IfErr r (λ e. e ≢ Memory → ComesToNone w text t e)) told.1 refused in
        rw (ends, told.2) (over {Needs = ⊥} (λ e. absurd e) (unread_ends (Err (query_stop told.0)) (refused-text w text file t told.0 denied)
        (quiet_query told.0)))

    -- the text comes to a plan
    pub plan_ends : (p : PlanOf w) → ComesTo w text t p → {new : FilesView} {end : Result Reply Stop}
        → EndsFile file (records_limit w) ⊤ (PlanEnds w p file) mid new end → EndsRequest (Ask w layout text file) old new end
    plan_ends p plan ends = over (λ always. (p, plan)) (ends_as (λ always. always) (λ found o has. planned p o plan has) ends)
