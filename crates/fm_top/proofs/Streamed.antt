-- How a run ends whose record file goes through a pool.
use Rattle.std.{proofs.Common.{◌≡◌, ℕ, List, Some, Result, Ok, ap, ◌∙◌, subst}, specs.{Borrow.{Bor}, Prelude.{⊤, IfOk}, Result.{result_err}}}
use Rattle.fm_io.specs.View.{FilesView}
use Rattle.fm_records_query.specs.Plan.{Plan}
use Rattle.fm_records.specs.{declared.found.Found.{Found}, Texts.{answer_text}}
use Rattle.fm_rule.specs.Finishing.{FinishedView}
use Rattle.fm_top_load.specs.Reading.{ReadsSome}
use Rattle.fm_top_load.specs.{Records.{TellsRecords}, declared.load_fault.LoadFault.{LoadFault}}
use Rattle.fm_top_stream.specs.{Chunks.{stream_file_limit}, Shown.{Streams}}
use Rattle.fm_top.specs.{Ending.{shown}, Ends.{EndsFile}, Outcome.{answered_by_pool, even}, Queries.{PlanEnds}}
use Rattle.fm_top.specs.{Stops.{load_stop, or_stop}, declared.{command.{question.Question.TheVariants.{Stream}, wish.Wish.TheVariants.{Answer}}, outcome.{reply.Reply.{Reply}, stop.Stop.{Stop}}}}
use Rattle.fm_top.proofs.{Loaded.{known_ok, leaves_as, or_ok}, ReadFor.{read_for}}

-- it ends so for the file of this name
abbrev Ends : FilesView → FilesView → List ℕ → Plan → (threads : ℕ) → Result Reply Stop → Type 0
Ends old new name p threads end = EndsFile name stream_file_limit ⊤ (PlanEnds (Answer Stream threads) p name) old new end

module _ {old new : FilesView} (file : Bor (List ℕ)) (p : Plan) (threads : ℕ) (reads : ReadsSome old.reads new.reads file.now stream_file_limit) where
  -- It was answered.
  pub streamed_ends : {T : Type 0} (r : Result T LoadFault) {x : T} (answer : T → List Found) (finished : T → FinishedView) (reply : Reply)
      → Ok x ≡ or_stop (load_stop file) r → TellsRecords stream_file_limit old new file.now p.size (result_err r) → IfOk r (λ y. Streams threads old.holds file.now p (answer y)
      (finished y))
      → shown reply ≡ answered_by_pool (answer_text p (answer x)) (finished x) → Ends old new file.now p threads (Ok reply)
  streamed_ends r {x} answer finished reply streamed told all is =
      let streams = known_ok (load_stop file) r (λ y. Streams threads old.holds file.now p (answer y) (finished y)) streamed all in
      let tells = subst (λ r. TellsRecords stream_file_limit old new file.now p.size (result_err r)) (or_ok (load_stop file) r streamed) told in
      record {
        outcome = (
          Some streams.bytes,
          streams.is_file,
          even streams.bytes (shown reply) streams.short streams.even (record {
            finished = finished x;
            outcome = is ∙ ap (λ found. answered_by_pool (answer_text p found) (finished x)) streams.value;
            shows = streams.shows;
          }),
        );
        reads = read_for reads tt;
        files = leaves_as (λ e. absurd (cc)) (λ e. absurd (cc)) (λ e. absurd (cc)) (λ e. absurd e) tells.left;
      }
