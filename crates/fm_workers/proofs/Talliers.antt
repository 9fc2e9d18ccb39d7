-- A pass counts a share.
use Rattle.std.proofs.Common.{◌≡◌, ◌+◌, ◌-◌, ◌/◌, ℕ, List, [], ◌∷◌, ◌++◌, None, refl, sym, ap, ◌∙◌, subst, append_assoc, Ok}
use Rattle.std.{specs.Prelude.{ℤ}, proofs.{Math.Nat.{mul-mod_left}, lemmas.List.{append-nil}}}
use Rattle.fm_base.specs.View.{Did, View}
use Rattle.fm_segment.specs.Region.{Region}
use Rattle.fm_workers_shares.specs.{declared.answers.Done.{Done}, Shares.{Cut, IsCut, share_of, start_of}, Taking.{MakesNext}}
use Rattle.fm_workers_shares.proofs.Serving.{can_query_share}
use Rattle.fm_workers.specs.{Counts.{AreCounts, AreSums, listed}, Tallies.{CanCount, CanTally, DoesCount, all_numbers, tallying}}
use Rattle.fm_workers.proofs.Numbers.{both_counted}

pub all_numbers-append : (ds es : List Done) → all_numbers (ds ++ es) ≡ all_numbers ds ++ all_numbers es
all_numbers-append [] es = refl
all_numbers-append (d ∷ ds) es =
    ap (λ (ns : List ℤ). listed d.answer ++ ns) (all_numbers-append ds es) ∙ sym (append_assoc (listed d.answer) (all_numbers ds) (all_numbers es))

pub can_count_share : (k : Cut) (counts : Region) (v : View) (number : ℕ) → IsCut k → v.inside ≡ None → CanTally k counts v
    → CanCount v k.plan (share_of k.plan k.segment k.each number)
can_count_share k counts v number is outside can = record {
  tally = can.tally;
  query = can_query_share k v number is outside can.ask;
  whole = mul-mod_left (start_of (k.segment.size / k.plan.size) k.each (number + 1) - start_of (k.segment.size / k.plan.size) k.each number) k.plan.size;
  may = λ i. absurd (can.ask.open_to_all i);
}

-- Its numbers are added to those that were counted.
pub counted_share : {x y : View} (k : Cut) (counts : Region) (number : ℕ) (old new more : List ℕ) (u : Unit {0})
    → Did x y (DoesCount x.caller k.plan (share_of k.plan k.segment k.each number) (Ok more)) → AreSums old more new
    → Did x y (MakesNext (tallying k counts) x.caller number old new (Ok u))
counted_share k counts number old new more u d sums = record {
  own = d.own;
  does = (
    record { job = number; answer = d.does.found },
    refl,
    d.does.did,
    λ ds are. subst (λ (ns : List ℤ). AreCounts ns new)
        (sym (all_numbers-append ds (record { job = number; answer = d.does.found } ∷ [])
        ∙ ap (λ (ns : List ℤ). all_numbers ds ++ ns) (append-nil (listed d.does.found))))
        (both_counted (all_numbers ds) (listed d.does.found) old more new are d.does.are sums),
  );
  makes = d.makes;
}
