-- Shares are runs of records, one behind the other, that callers answer.
use Rattle.std.proofs.{Common.{◌≡◌, ℕ, ◌+◌, ◌-◌, ◌*◌, ◌/◌, ◌%◌, ◌≤◌, List, sym, ap, ◌∙◌, arith, Ok}, Math.Nat.{mul-le-mul_right, mul-mod_left}}
use Rattle.std.proofs.lemmas.Nat.{div-add-mod'}
use Rattle.fm_base_lists.specs.Among.{IsAmong}
use Rattle.fm_base.specs.{declared.caller.Caller.{Caller}, Calls.{Entry}}
use Rattle.fm_segment.specs.Region.{Region}
use Rattle.fm_records_query.specs.Plan.{Plan}
use Rattle.fm_records.specs.{declared.found.Found.{Found}, Query.{DoesQuery}, Shares.{IsFirst, IsRunOf, Share, behind}}
use Rattle.fm_workers_shares.{specs.Shares.{piece, share_of}, proofs.Numbers.{run_ends}}

-- A run is the first share of what begins with it.
pub first_of_piece : (p : Plan) (s : Region) (from next to : ℕ) (w : Share) → from ≤ next → next ≤ to
    → w.region ≡ piece p s from next → IsFirst p (piece p s from to) w
first_of_piece p s from next to w order later is =
    let size : w.region.size ≡ (next - from) * p.size = ap (λ (x : Region). x.size) is in
    let ends_here = run_ends from next p.size order in
    let ends_all = run_ends from to p.size (omega (arith, later, order)) in
    let below = mul-le-mul_right p.size later in
    let at : s.first + from * p.size ≡ s.first + from * p.size + 0 = omega arith in
    record {
      region = is ∙ (λ i. record { arena = s.arena; first = at i; size = sym size i; read_only = s.read_only });
      whole = ap (λ (n : ℕ). n % p.size) size ∙ mul-mod_left (next - from) p.size;
      within = omega (arith, size, ends_here, ends_all, below);
    }

-- The runs behind it are what stands behind it.
pub behind_piece : (p : Plan) (s region : Region) (from next to : ℕ) → from ≤ next → next ≤ to
    → region ≡ piece p s from next → piece p s next to ≡ behind region.size (piece p s from to)
behind_piece p s region from next to order later is =
    let size : region.size ≡ (next - from) * p.size = ap (λ (x : Region). x.size) is in
    let ends_here = run_ends from next p.size order in
    let ends_all = run_ends from to p.size (omega (arith, later, order)) in
    let ends_rest = run_ends next to p.size later in
    let first : s.first + next * p.size ≡ s.first + from * p.size + region.size = omega (arith, size, ends_here) in
    let left : (to - next) * p.size ≡ (to - from) * p.size - region.size = omega (arith, size, ends_here, ends_all, ends_rest) in
    λ i. record { arena = s.arena; first = first i; size = left i; read_only = s.read_only }

-- All whole records are the segment.
pub whole_piece : (p : Plan) (s : Region) → s.size % p.size ≡ 0 → piece p s 0 (s.size / p.size) ≡ s
whole_piece p s even =
    let at : s.first + 0 * p.size ≡ s.first = omega arith in
    let from : s.size / p.size - 0 ≡ s.size / p.size = omega arith in
    let exact : s.size / p.size * p.size ≡ s.size = omega (arith, div-add-mod' s.size p.size, even) in
    let size : (s.size / p.size - 0) * p.size ≡ s.size = ap (λ (n : ℕ). n * p.size) from ∙ exact in
    λ i. record { arena = s.arena; first = at i; size = size i; read_only = s.read_only }

module _ (p : Plan) (s : Region) (each : ℕ) (crew : List Caller) (more : List Entry) where
  -- one of the crew answered the share of this number so, by a run of its entries
  pub record IsAnsweredAt (k : ℕ) (x : List Found) : Type 0 where
    pub caller : Caller
    pub among : IsAmong caller crew
    pub own : List Entry
    pub run : IsRunOf caller more own
    pub does : DoesQuery caller p (share_of p s each k) (Ok x) own
