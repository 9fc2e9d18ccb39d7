-- A worker takes one chunk more, or its stop.
use Rattle.std.proofs.lemmas.List.{append-nil}
use Rattle.std.proofs.Common.{◌≡◌, ◌++◌, ◌∷◌, None, List, [], refl, ap, sym, ◌∙◌, subst, append_assoc}
use Rattle.fm_base.specs.{declared.caller.Caller.{Caller}, Calls.{Entry}, View.{Did}}
use Rattle.fm_base.proofs.Making.{Makes-none, Makes-then}
use Rattle.fm_records_query.specs.Plan.{Plan}
use Rattle.fm_rule_calls.specs.Told.{view_of_pass}
use Rattle.fm_rule_facts.specs.Views.{View}
use Rattle.fm_segment.specs.Region.{region_of}
use Rattle.fm_workers_queue.specs.{declared.account.Account.{Account}, Accounts.{after_push, after_take}, Turns.{HasAccount, account_of}}
use Rattle.fm_workers_chunks.specs.{Answering.{AnswersAndCloses}, Serving.{Serves}, Taking.{IsAtDesk, IsServing, ServesAll, ServesEach, ServesOne, gave, jobs_then, took}}
use Rattle.fm_workers_chunks.specs.declared.{chunk.Chunk.{Chunk}, desk.{Desk.{Desk}, Server.{Server}}, job.Job.{Job, TheVariants.{Serve, Stop}}, served.Served.{Served}}

jobs_then-append : (ks : List Chunk) (last : List Job) → jobs_then ks [] ++ last ≡ jobs_then ks last
jobs_then-append [] last = refl
jobs_then-append (k ∷ ks) last = ap (λ js. Serve k ∷ js) (jobs_then-append ks last)

jobs_then-more : (ks : List Chunk) (k : Chunk) → jobs_then ks (Serve k ∷ []) ≡ jobs_then (ks ++ k ∷ []) []
jobs_then-more [] k = refl
jobs_then-more (x ∷ ks) k = ap (λ js. Serve x ∷ js) (jobs_then-more ks k)

-- Who isn't given a chunk is stopped.
pub is_stop : (j : Job) → ((k : Chunk) → ¬ (j ≡ Serve k)) → j ≡ Stop
is_stop (Serve k) other = absurd (other k refl)
is_stop Stop other = refl

-- One more was served.
each-more : (c : Caller) (p : Plan) (ks : List Chunk) (ds : List Served) (own : List Entry) (k : Chunk) (d : Served) (one : List Entry)
    → ServesEach c p ks ds own → ServesOne c p k d one → ServesEach c p (ks ++ k ∷ []) (ds ++ d ∷ []) (own ++ one)
each-more c p [] [] own k d one e x = (one, [], ap (λ es. es ++ one) e ∙ sym (append-nil one), x, refl)
each-more c p (y ∷ ks) (z ∷ ds) own k d one e x =
    (e.0, e.1 ++ one, ap (λ es. es ++ one) e.2 ∙ append_assoc e.0 e.1 one, e.3, each-more c p ks ds e.1 k d one e.4 x)
each-more c p [] (z ∷ ds) own k d one e x = absurd e
each-more c p (y ∷ ks) [] own k d one e x = absurd e

module _ {K : Type 0} (desk : Desk K) where
  -- Nothing was taken.
  pub begins : {p : Plan} {v : View} {server : Server} → IsAtDesk desk server → v.inside ≡ None → IsServing desk p v v server
  begins {v = v} at outside = record {
    did = record {
      own = [];
      does = record { chunks = []; served = []; each = refl; taking = at.taking; giving = at.giving };
      makes = Makes-none (view_of_pass v);
    };
    home = refl;
    limit = refl;
    caller = refl;
    outside = outside;
  }

  -- A chunk was taken, served and given back.
  pub one_more : {p : Plan} {old now next : View} {server later : Server} {k : Chunk} {d : Served} → IsServing desk p old now server
      → HasAccount desk.jobs.now later.taking (after_take (account_of server.taking) (Serve k)) → Serves now next p k d
      → HasAccount desk.served.now later.giving (after_push (account_of server.giving) d) → IsServing desk p old next later
  one_more {p} {old} {now} {next} {server} {later} {k} {d} s took_one x gave_one =
      let so_far = s.did.does in
      let one : ServesOne old.caller p k d x.did.own = record {
        number = x.is.number;
        arena = x.is.arena;
        count = x.is.count;
        does = subst (λ (c : Caller). AnswersAndCloses c p (region_of k.arena 0 k.count) d.answer x.did.own) s.caller x.did.does;
      } in
      record {
        did = record {
          own = s.did.own ++ x.did.own;
          does = record {
            chunks = so_far.chunks ++ k ∷ [];
            served = so_far.served ++ d ∷ [];
            each = each-more old.caller p so_far.chunks so_far.served s.did.own k d x.did.own so_far.each one;
            taking = record {
              is_of = took_one.is_of;
              is = took_one.is ∙ ap (λ (v : Account Job). after_take v (Serve k)) so_far.taking.is
                  ∙ ap took (jobs_then-append so_far.chunks (Serve k ∷ []) ∙ jobs_then-more so_far.chunks k);
            };
            giving = record { is_of = gave_one.is_of; is = gave_one.is ∙ ap (λ (v : Account Served). after_push v d) so_far.giving.is };
          };
          makes = Makes-then (view_of_pass old) (view_of_pass now) (view_of_pass next) s.did.own x.did.own s.did.makes x.did.makes;
        };
        home = x.home ∙ s.home;
        limit = x.limit ∙ s.limit;
        caller = x.did.makes.same_caller ∙ s.caller;
        outside = x.outside;
      }

  -- The stop was taken.
  pub stopped : {p : Plan} {old now : View} {server later : Server} {j : Job} → IsServing desk p old now server
      → HasAccount desk.jobs.now later.taking (after_take (account_of server.taking) j) → j ≡ Stop → later.giving ≡ server.giving
      → Did (view_of_pass old) (view_of_pass now) (ServesAll desk old.caller p later)
  stopped {p} {old} {now} {server} {later} {j} s took_one is same =
      let so_far = s.did.does in
      record {
        own = s.did.own;
        does = record {
          chunks = so_far.chunks;
          served = so_far.served;
          each = so_far.each;
          taking = record {
            is_of = took_one.is_of;
            is = took_one.is ∙ ap (λ (v : Account Job). after_take v j) so_far.taking.is
                ∙ ap (λ (i : Job). took (jobs_then so_far.chunks [] ++ i ∷ [])) is ∙ ap took (jobs_then-append so_far.chunks (Stop ∷ []));
          };
          giving = subst (λ turn. HasAccount desk.served.now turn (gave so_far.served)) (sym same) so_far.giving;
        };
        makes = s.did.makes;
      }
