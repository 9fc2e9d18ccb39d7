-- A query asked of shares.
use Rattle.std.specs.Prelude.{◌≡◌, ◌≢◌, ◌%◌, List, [], Ok, Err}
use Rattle.fm_base.specs.{declared.kind.Kind.TheVariants.{Confined}, View.{View}}
use Rattle.fm_segment.specs.Access.{IsKnown}
use Rattle.fm_records.specs.Query.{DoesQuery}
use Rattle.fm_workers_shares.specs.{declared.answers.Done.{Done}, Shares.{Cut, share_of}, Taking.{KnowsOn, Making}}

-- the segment is known to who has seen so much, its first record aligned, and anyone may use it
pub record CanAsk (k : Cut) (v : View) : Type 0 where
  pub known : IsKnown v k.segment
  pub aligned : k.segment.first % k.plan.alignment ≡ 0
  pub open_to_all : k.segment.arena.kind ≢ Confined

-- each taker keeps its answers, and has nothing to do behind the last share
abbrev pub asking : Cut → Making (List Done)
asking k = record {
  cut = k;
  holds = λ ds part. part ≡ ds;
  refuses = λ c number r own. DoesQuery c k.plan (share_of k.plan k.segment k.each number) (Err r) own;
  ends = λ c part end own. (end ≡ Ok tt) × (own ≡ []);
}

pub can_ask_later : (k : Cut) {v u : View} → KnowsOn v u → CanAsk k v → CanAsk k u
can_ask_later k on can = record { known = on k.segment can.known; aligned = can.aligned; open_to_all = can.open_to_all }
