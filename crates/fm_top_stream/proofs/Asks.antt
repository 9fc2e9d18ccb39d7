-- What a crew answers over a chunk, and what stands then of the next one.
use Rattle.std.proofs.Common.{◌≡◌, ◌≢◌, ℕ, ◌+◌, ◌<◌, ◌≤◌, List, length, map, Option, Some, None, Result, Ok, Err, refl, ap, sym, ◌∙◌, subst, arith}
use Rattle.std.{specs.{Prelude.{IfOk, IfSome}, List.{range_with_len}}, proofs.lemmas.List.{append-nil}}
use Rattle.fm_base_bytes.specs.Words.{byte_at}
use Rattle.fm_base.specs.{declared.arena_id.ArenaId.{ArenaId}, Arenas.{Arena, arena_of}}
use Rattle.fm_io.specs.Files.{Contents}
use Rattle.fm_records_query.specs.Plan.{Plan}
use Rattle.fm_records.specs.{declared.found.Found.{Found}, Answers.{answer}}
use Rattle.fm_rule_calls.specs.Told.{view_of_pass}
use Rattle.fm_rule_facts.specs.Views.{View, IsKnown, limit_of, state_in}
use Rattle.fm_rule.specs.declared.pool.Pool.{Pool}
use Rattle.fm_segment.specs.Region.{Region}
use Rattle.fm_words.specs.declared.shape.Shape.{Shape}
use Rattle.fm_top_load.specs.{declared.{reached.Reached.{Reached}, stretch.Stretch.{Stretch}, load_fault.LoadFault.{LoadFault}}, Held.{IsHeld}, Portions.{PortionView}}
use Rattle.fm_top_pooled.{specs.Stocked.{IsStockedOf, bytes_in_pool}, proofs.Shows.{pooled_is}}
use Rattle.fm_top_stream.specs.{Ahead.{AsksAhead, CanAskBeside, CanPutAs}, Gone.{AnswersAhead, CanAnswer}, declared.ahead.Ahead.{Ahead}}
use Rattle.fm_top_stream.specs.{declared.{placed.Placed.{Placed}, putting.Putting.{Putting}}, Shown.{ReadStanding}, Steps.{Answers, AnswersBeside, AnswersOn, Gives, Opens}}
use Rattle.fm_top_stream.proofs.{Going.{goes_then}, Runs.{ends_here}}

module _ {stretch : Stretch} {told : Option Contents} {threads : ℕ} {p : Plan} {pool : Pool} {v : View} {s : Region} {first : PortionView}
    (can : CanAnswer stretch told threads p pool v s first) where
  -- The file has ended.
  pub answers_last : {q : View} {found : List Found} → Answers v.shape.passes pool v q s p found → length first.bytes ≡ 0
      → AnswersOn v.shape.passes stretch told pool v q s p found None
  answers_last answers none = record {
    goes = answers.goes;
    stocked = answers.stocked;
    value = answers.value;
    few = answers.few;
    read = answers.read;
    life = λ x k. answers.stand.life x;
    words = λ x k. answers.stand.words x;
    names = answers.stand.names ∙ sym (append-nil _);
    stands = tt;
    ended = λ e. ends_here can.next none can.asks.any;
  }

  module _ {u w : View} {b : ArenaId} (opens : Opens pool v u b) (gives : Gives pool u w b stretch.most) where
    apart : (x : ArenaId) → IsKnown v x → x ≢ b
    apart x known e = opens.opened.unknown (subst (λ (a : ArenaId). IsKnown v a) e known)

    still : (x : ArenaId) → IsKnown v x → arena_of (state_in w) x ≡ arena_of (state_in v) x
    still x known = gives.elsewhere.others x (apart x known) ∙ opens.opened.keeps.same x known

    same_shape : w.shape ≡ v.shape
    same_shape = gives.goes.alone.outside.of.1 ∙ sym can.alone.outside.of.1

    segment : arena_of (state_in w) s.arena ≡ arena_of (state_in v) s.arena
    segment = still s.arena can.stocked.known.arena

    -- It can be asked of, while the next chunk is put into the arena that was opened.
    pub can_beside : 0 < length first.bytes → (x : Putting) → x.stretch ≡ stretch → x.portion ≡ first → x.arena ≡ b
        → CanAskBeside told threads p pool w s x
    can_beside some x e1 e2 e3 =
        let held = gives.held.held in
        let given = gives.held.given_is in
        let small = held.small in
        let limit = ap limit_of gives.goes.alone.outside.of.1 in
        let room = can.asks.room in
        let put : CanPutAs told stretch first b w = record {
          known = held.known;
          given = omega (arith, given);
          small = omega (arith, small, limit, room);
          read = can.read;
          next = can.next;
          some = some;
          room = can.asks.any;
        } in
        record {
          alone = gives.goes.alone;
          stocked = record {
            outside = gives.goes.alone.outside;
            sound = gives.goes.alone.sound;
            whole = gives.goes.alone.whole;
            tidy = gives.goes.alone.tidy;
            start = can.stocked.start;
            known = record {
              arena = gives.elsewhere.arenas s.arena ∙ opens.opened.keeps.known s.arena can.stocked.known.arena;
              given = subst (λ (o : Arena). s.first + s.size ≤ o.given) (sym segment) can.stocked.known.given;
            };
            alive = ap (λ o. o.life) segment ∙ can.stocked.alive;
            shared = can.stocked.shared;
            passes = refl;
          };
          some = can.asks.some;
          few = can.asks.few;
          even = can.even;
          other = λ e. apart s.arena can.stocked.known.arena (sym e ∙ e3);
          held = subst (IsHeld (view_of_pass w)) (sym e3) held;
          room = subst (λ (y : Stretch). y.most ≤ limit_of pool.shape) (sym e1) room;
          can = subst (λ (y : Stretch × PortionView × ArenaId). CanPutAs told y.0 y.1 y.2 w) (λ i. (sym e1 i, sym e2 i, sym e3 i)) put;
        }

    -- It was, and that chunk stands.
    pub answers_beside : {q : View} {found : List Found} {chunk : Reached} → AnswersBeside w.shape.passes stretch told pool w q s p b found chunk
        → AnswersOn v.shape.passes stretch told pool v q s p found (Some (record { arena = b; chunk = chunk }))
    answers_beside {q} answers =
        let bytes : bytes_in_pool w s ≡ bytes_in_pool v s =
        pooled_is w s ∙ ap (λ (o : Arena). map (byte_at o.words) (range_with_len s.first s.size)) segment ∙ sym (pooled_is v s) in
        let given = answers.given in
        record {
          goes = goes_then opens.goes (goes_then gives.goes answers.goes);
          stocked = subst (λ n. IsStockedOf n pool q s) (ap (λ (z : Shape). z.passes) same_shape) answers.stocked;
          value = answers.value ∙ ap (answer p) bytes;
          few = answers.few;
          read = subst (ReadStanding (limit_of q.shape) q.seen p s) bytes answers.read;
          life = λ x k. answers.stand.life x (apart x k) ∙ ap (λ o. o.life) (still x k);
          words = λ x k. answers.stand.words x (apart x k) ∙ ap (λ o. o.words) (still x k);
          names = answers.stand.names ∙ gives.elsewhere.names ∙ opens.opened.names;
          stands = (
            opens.opened.unknown,
            record {
              held = answers.held;
              given = given;
              shared = opens.opened.shared;
              cut = answers.has.cut;
              some = answers.has.some;
              within = answers.has.within;
            },
          );
          ended = λ e. absurd (cc);
        }

    -- The same of what the call gives.
    pub answers_ahead : (x : Putting) → x.stretch ≡ stretch → x.arena ≡ b → 0 < length first.bytes → (result : Result Ahead LoadFault)
        → IfOk result (AsksAhead told pool p w s x) → IfOk result (AnswersAhead stretch told p pool v s first)
    answers_ahead x e1 e2 some (Err fault) asks = tt
    answers_ahead x e1 e2 some (Ok r) asks =
        let beside : AnswersBeside w.shape.passes stretch told pool w r.pass s p b r.answer asks.chunk =
        subst (λ (y : Stretch × ArenaId). AnswersBeside w.shape.passes y.0 told pool w r.pass s p y.1 r.answer asks.chunk) (λ i. (e1 i, e2 i)) asks.answers in
        let next : r.next ≡ Some (record { arena = b; chunk = asks.chunk }) =
        asks.next ∙ ap (λ (a : ArenaId). Some (record { arena = a; chunk = asks.chunk })) e2 in
        record {
          answers = subst (λ (n : Option Placed). AnswersOn v.shape.passes stretch told pool v r.pass s p r.answer n) (sym next) (answers_beside beside);
          some = subst (λ (n : Option Placed). IfSome n (λ k. 0 < length first.bytes)) (sym next) some;
        }
