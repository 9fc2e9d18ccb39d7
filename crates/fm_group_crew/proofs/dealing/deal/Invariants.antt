use Rattle.std.{proofs.Common.{◌≡◌, ◌≤◌, length, map, vec_capacity}, specs.List.{range_with_len}}
use Rattle.fm_group_crew.specs.Dealt.{bounds, share_at}
use Rattle.fm_group_crew.proofs.dealing.deal.Given as goal

abbrev pub invariant-loop-k : goal.invariant-loop-k
invariant-loop-k l = record {
  dealt : bounds l.shares.items ≡ map (share_at l.len l.threads) (range_with_len 0 l.k);
  count : length l.shares.items ≡ l.k;
  room : l.threads ≤ vec_capacity l.shares;
}
