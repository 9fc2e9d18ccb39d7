use Rattle.std.proofs.Common.{◌≡◌, ◌≤◌, List, [], ◌∷◌, ◌++◌, length, get_or, ap, ◌∙◌, subst, arith}
use Rattle.fm_records.specs.declared.found.Found.{Found}
use Rattle.fm_workers.specs.Counts.{AreCounts, listed, numbers_listed}
use Rattle.fm_workers.proofs.counting.count_listed.Goals as goal

first_listed : (fs : List Found) (f : Found) → 1 ≤ length fs → f ≡ get_or fs 0 f → numbers_listed f ≡ listed fs
first_listed [] f some is = absurd (omega (arith, some))
first_listed (x ∷ fs) f some is = ap numbers_listed is

pub returns-in-len1-up : goal.returns-in-len1-up
returns-in-len1-up c ns h =
    let first = first_listed c.found.result.now c.first-item.result c.in-len1-up.len_at_least c.first-item.is in
    subst (λ ms. AreCounts (ns ++ ms) c.count_found.new.counts) (first ∙ ap listed c.found.ensures) (c.count_found.ensures ns h)
