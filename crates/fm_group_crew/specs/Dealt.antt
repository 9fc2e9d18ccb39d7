-- Values dealt out in shares.
use Rattle.std.specs.{Prelude.{ℕ, ◌+◌, ◌*◌, ◌/◌, List, map}, List.{range_with_len}}
use Rattle.fm_group_laws.specs.Shares.{Share}
use Rattle.fm_group_crew.specs.declared.share.CountShare.{CountShare}

-- from where the k-th of t shares of n values goes, and up to where
abbrev pub share_at : (n t k : ℕ) → Share
share_at n t k = (n * k / t, n * (k + 1) / t)

-- all of them
abbrev pub dealt : (n t : ℕ) → List Share
dealt n t = map (share_at n t) (range_with_len 0 t)

abbrev pub bounds : List CountShare → List Share
bounds ts = map (λ t. (t.from, t.to)) ts
