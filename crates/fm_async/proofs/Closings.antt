-- What the calls of a set of closes come to.
use Rattle.std.proofs.Common.{◌≡◌, ◌<◌, ◌++◌, ◌∷◌, ℕ, ap, List, [], length, refl, sym, subst, arith}
use Rattle.std.specs.Prelude.{Ok, Err}
use Rattle.std.proofs.lemmas.List.{length-append}
use Rattle.fm_base.specs.declared.{arena_id.ArenaId.{ArenaId}, refusal.Refusal.{Refusal}}
use Rattle.fm_rule_facts.specs.Views.{View}
use Rattle.fm_rule.specs.declared.pool.Pool.{Pool}
use Rattle.fm_close.specs.{declared.shutting.Shutting.{Shutting}, Learnt.{AfterShut}}
use Rattle.fm_async.specs.{declared.waiting.Waiting.{Waiting}, Polls.{PollsEach, AfterPolls}}
use Rattle.fm_async.specs.Sets.{IsSet, IsSetCloser, SweepsAll, AfterAdd, AfterSweepAll, closes_of, set_of, waiting_of}
use Rattle.fm_rule_calls.proofs.Going.{lasts_on}
use Rattle.fm_base.proofs.Making.{FindsMore-none}
use Rattle.fm_async.proofs.{Counts.{closes_of-append}, Sets.{added_set, refused_set}, Polls.{each-length, each_comes}}

module _ {pool : Pool} {p q : View} {room : ℕ} (ws : List Waiting) (c : IsSetCloser (set_of pool p room ws)) where
  -- One more is begun.
  pub added : {id : ArenaId} {s : Shutting} → length ws < room → AfterShut pool p q id (Ok s)
      → AfterAdd (set_of pool p room ws) (set_of pool q room (ws ++ waiting_of s ∷ [])) id (Ok tt)
  added {id = id} {s = s} l h = record {
    pool = refl;
    room = refl;
    adds = (s, h, refl);
    most = let n = length-append ws (waiting_of s ∷ []) in omega arith;
    lasts = h.lasts;
    is = record {
      set = subst (IsSet pool q) (sym (closes_of-append ws (waiting_of s ∷ []))) (added_set h (closes_of ws) c.set);
      few = let n = length-append ws (waiting_of s ∷ []) in omega arith;
      most = c.most;
    };
  }

  -- None is.
  pub refused : {id : ArenaId} {r : Refusal} → AfterShut pool p q id (Err r) → AfterAdd (set_of pool p room ws) (set_of pool q room ws) id (Err r)
  refused h = record { pool = refl; room = refl; adds = (h, refl); most = omega arith; lasts = h.lasts; is = record { set = refused_set (closes_of ws) h c.set; few = c.few; most = c.most } }

  -- All are polled.
  pub advanced : (us : List Waiting) → IsSet pool q (closes_of us) → PollsEach pool p q ws us → AfterPolls (set_of pool p room ws) (set_of pool q room us)
  advanced us set each =
      let comes = each_comes pool p q ws us c.set.sound each in
      record {
        pool = refl;
        room = refl;
        each = each;
        arenas = comes.arenas;
        many = each-length pool p q ws us each;
        goes = comes.goes;
        blockers = comes.blockers p (FindsMore-none p.finds);
        few = comes.few;
        lasts = lasts_on comes.goes;
        is = record { set = set; few = (let n = each-length pool p q ws us each in let f = c.few in omega arith); most = c.most };
      }

  -- All are swept.
  pub swept : (us : List Waiting) → us ≡ [] → IsSet pool q (closes_of us) → SweepsAll p q (closes_of ws)
      → AfterSweepAll (set_of pool p room ws) (set_of pool q room us)
  swept us e set s = record {
    pool = refl;
    room = refl;
    empty = e;
    sweeps = s;
    is = record { set = set; few = (let n = ap length e in omega arith); most = c.most };
  }
