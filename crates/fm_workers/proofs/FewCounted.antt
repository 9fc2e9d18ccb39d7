-- No more numbers are listed than a segment has bytes, so the counts of all shares can be added.
use Rattle.std.{proofs.{Common.{◌≡◌, ℕ, ◌*◌, ◌/◌, ◌≤◌, List, [], ◌∷◌, length, ap, ◌∙◌, subst, refl, arith, Ok}, Math.Nat.{div-mul-le_self}}, specs.Prelude.{ℤ}}
use Rattle.fm_base.specs.{declared.caller.Caller.{Caller}, Calls.{Entry}}
use Rattle.fm_segment.specs.Region.{Region}
use Rattle.fm_records_query.specs.Plan.{IsPlan, Plan}
use Rattle.fm_records.specs.{declared.found.Found.{Found, TheVariants.{Listed}}, Adds.{AddsRecords}, Query.{DoesQuery}, Reads.{record_places}}
use Rattle.fm_records.{specs.Shares.{AreCut, AreDone, Share, behind}, proofs.Behind.{length-record_places}}
use Rattle.fm_workers.{specs.{Counts.{IsTally, how_many, listed}, Tally.{all_listed}}, proofs.ByRuns.{AddsListed, none_found, records_add}}
use Rattle.fm_workers.proofs.Numbers.{how_many-append, how_many-most}

-- what is listed over a region: numbers alone, no more than it has bytes
pub record ListsFew (region : Region) (found : List Found) : Type 0 where
  pub numbers : List ℤ
  pub is : found ≡ Listed numbers ∷ []
  pub few : length numbers ≤ region.size

pub share_lists : (c : Caller) (p : Plan) (region : Region) (found : List Found) (own : List Entry) → IsPlan p → IsTally p → DoesQuery c p region (Ok found) own
    → ListsFew region found
share_lists c p region found own plan tally does =
    let places : List ℕ = record_places (region.size / p.size) p.size region.first in
    let r = subst (λ gs. AddsRecords c region.arena p places gs found (Ok tt) own) (none_found p tally) does.records in
    let a = subst (λ n. AddsListed (n * p.size) r.given) (length-record_places (region.size / p.size) p.size region.first)
    (records_add c region.arena p plan tally places (Ok tt) own r.given r.reads refl) in
    let few = a.few in
    let all = div-mul-le_self region.size p.size in
    record { numbers = a.numbers; is = r.added ∙ a.adds []; few = omega (arith, few, all) }

-- No number comes oftener in shares than these have bytes.
pub shares_list : (p : Plan) (s : Region) (more : List Entry) (ws : List Share) (n : ℤ) → IsPlan p → IsTally p → AreCut p s ws → AreDone p more ws
    → how_many n (all_listed ws) ≤ s.size
shares_list p s more [] n plan tally cut done = omega arith
shares_list p s more (w ∷ ws) n plan tally cut done =
    let mine = share_lists w.caller p w.region w.found w.own plan tally done.0.does in
    let rest = shares_list p (behind w.region.size s) more ws n plan tally cut.1 done.1 in
    let within = cut.0.within in
    let most = how_many-most n (listed w.found) in
    let long = ap (λ (fs : List Found). length (listed fs)) mine.is in
    let few = mine.few in
    let both = how_many-append n (listed w.found) (all_listed ws) in
    omega (arith, rest, within, most, long, few, both)
