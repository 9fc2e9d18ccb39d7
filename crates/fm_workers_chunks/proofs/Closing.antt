-- A query, and the close behind it.
use Rattle.std.proofs.Common.{◌++◌, List, Ok, Err, subst}
use Rattle.fm_base.specs.{declared.{caller.Caller.{Caller}, refusal.Refusal.{Refusal}}, Does.{DoesClose}, Learnt.{AfterClose}, View.{but_loans}}
use Rattle.fm_base.proofs.Making.{Makes-then}
use Rattle.fm_arena.specs.Shares.{IsGone}
use Rattle.fm_records.specs.{declared.found.Found.{Found}, Learnt.{Queried}}
use Rattle.fm_records_query.specs.Plan.{Plan}
use Rattle.fm_rule_calls.specs.Told.{view_of_pass}
use Rattle.fm_rule_facts.specs.Views.{View}
use Rattle.fm_segment.specs.Region.{Region}
use Rattle.fm_workers_chunks.specs.Answering.{AnsweredAndClosed, CanAnswer, answered, unanswered, unclosed}
use Rattle.fm_workers_chunks.proofs.Refusing.{close_refused, query_refused}

-- It was refused.
pub not_answered : {old new : View} {p : Plan} {s : Region} (r : Refusal) → CanAnswer (view_of_pass old) p s
    → Queried (view_of_pass old) (view_of_pass new) p s (Err r) → AnsweredAndClosed old new p s (Err r)
not_answered {old} {new} {p} {s} r can q = record {
  did = record { own = q.did.own; does = unanswered r q.did.own q.did.does; makes = q.did.makes };
  refused = query_refused old.caller p s r q.did.own can.shared can.even q.did.does;
  answer = tt;
  few = tt;
  gone = tt;
  outside = q.outside;
}

module _ (old mid new : View) {p : Plan} {s : Region} (a : List Found) (q : Queried (view_of_pass old) (view_of_pass mid) p s (Ok a)) where
  -- The close was refused.
  pub not_closed : (r : Refusal) → CanAnswer (view_of_pass old) p s → AfterClose (view_of_pass mid) (view_of_pass new) s.arena (Err r)
      → AnsweredAndClosed old new p s (Err r)
  not_closed r can k =
      let does = subst (λ (c : Caller). DoesClose c s.arena (Err r) (but_loans k.did.own)) q.did.makes.same_caller k.did.does in
      record {
        did = record {
          own = q.did.own ++ k.did.own;
          does = unclosed r a q.did.own k.did.own q.did.does does;
          makes = Makes-then (view_of_pass old) (view_of_pass mid) (view_of_pass new) q.did.own k.did.own q.did.makes k.did.makes;
        };
        refused = close_refused old.caller s.arena r (but_loans k.did.own) can.shared does;
        answer = tt;
        few = tt;
        gone = tt;
        outside = k.outside;
      }

  -- It was answered, and the arena closed.
  pub both_done : AfterClose (view_of_pass mid) (view_of_pass new) s.arena (Ok tt) → IsGone new s.arena → AnsweredAndClosed old new p s (Ok a)
  both_done k gone = record {
    did = record {
      own = q.did.own ++ k.did.own;
      does = answered a q.did.own k.did.own q.did.does
          (subst (λ (c : Caller). DoesClose c s.arena (Ok tt) (but_loans k.did.own)) q.did.makes.same_caller k.did.does);
      makes = Makes-then (view_of_pass old) (view_of_pass mid) (view_of_pass new) q.did.own k.did.own q.did.makes k.did.makes;
    };
    refused = tt;
    answer = q.answer;
    few = q.few;
    gone = gone;
    outside = k.outside;
  }
