-- What a query over a region that is just these bytes answers.
use Rattle.std.proofs.Common.{◌≡◌, ℕ, ◌%◌, ◌≤◌, List, length, take, drop, Result, Ok, Err, IfOk, IfErr, refl, sym, ap, subst, ◌∙◌, arith}
use Rattle.fm_base.specs.declared.refusal.Refusal.{Refusal}
use Rattle.fm_base.specs.declared.refusal.Refusal.TheVariants as refusal
use Rattle.fm_base.specs.View.{View}
use Rattle.fm_records_query.specs.Plan.{Plan}
use Rattle.fm_records.specs.{Alone.{bytes_at_places}, Answers.{answer}, Learnt.{CanQuery, Queried}, declared.found.Found.{Found}}
use Rattle.fm_records.proofs.AnsweringBytes.{places_have}
use Rattle.fm_segment.specs.{Region.{Region}}
use Rattle.fm_segment_access.specs.Alone.{bytes_of_arena}
use Rattle.fm_top_load.specs.Limits.{record_file_limit}
use Rattle.fm_c_calls.specs.Held.{Holds, IsAnswer, IsNoAnswer, uneven, no_memory}

module _ {v : View} {s : Region} {bytes : List ℕ} (h : Holds v s bytes) where
  pub can_query : (p : Plan) → CanQuery v p s
  can_query p = record {
    outside = h.stand.held.outside;
    known = record { arena = h.stand.held.known; given = omega (arith, h.first, h.size, h.stand.given) };
    aligned = ap (λ n. n % p.alignment) h.first ∙ omega arith;
  }

  places : bytes_at_places v.state s ≡ bytes
  places =
      places_have v.state s (omega (arith, h.first, h.size, h.stand.room))
      ∙ ap (λ n. take s.size (drop n (bytes_of_arena v.state s.arena))) h.first
      ∙ ap (λ n. take n (bytes_of_arena v.state s.arena)) h.size
      ∙ h.stand.stand

  module _ {w : View} {p : Plan} (short : length bytes ≤ record_file_limit) where
    pub answers : (result : Result (List Found) Refusal) → Queried v w p s result → IfOk result (IsAnswer p bytes)
    answers (Ok a) q = record {
      short = short;
      whole = subst (λ n. n % p.size ≡ 0) h.size q.did.does.even;
      found = (q.alone h.stand.held.by_itself).value ∙ ap (answer p) places;
      items = q.answer;
    }
    answers (Err e) q = tt

    pub refuses : (result : Result (List Found) Refusal) → Queried v w p s result → IfErr result (IsNoAnswer p bytes)
    refuses (Ok a) q = tt
    refuses (Err refusal.Memory) q = no_memory
    refuses (Err (refusal.Ragged rest)) q =
        let is : rest ≡ length bytes % p.size = q.refused.0 ∙ ap (λ n. n % p.size) h.size in
        subst (λ n. IsNoAnswer p bytes (refusal.Ragged n)) (sym is) (uneven short (λ none. absurd (omega (arith, q.refused.1, is, none))))
    refuses (Err refusal.WrongThread) q = absurd (q.refused.1 h.stand.held.usable)
    refuses (Err refusal.Closed) q = absurd ((q.shut h.stand.held.by_itself).shut refl h.stand.held.alive)
    refuses (Err e) q = absurd q.refused
