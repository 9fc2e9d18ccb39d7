-- The sum of all counts, one more at a time.
use Rattle.std.proofs.Common.{◌≡◌, ℕ, ◌+◌, ◌%◌, ◌^◌, ◌<◌, List, [], ◌∷◌, ◌++◌, length, get_or, take, ap, ◌∙◌, arith}
use Rattle.std.proofs.lemmas.List.{take_more}
use Rattle.fm_group_lists.specs.Groups.{Group, total_of}

total_snoc : (gs : List Group) (g : Group) → total_of (gs ++ g ∷ []) ≡ total_of gs + g.1
total_snoc [] g = omega arith
total_snoc (x ∷ gs) g = let rest = total_snoc gs g in omega (arith, rest)

pub total_more : (gs : List Group) (k : ℕ) (d : Group) (total : ℕ) → k < length gs → total ≡ total_of (take k gs) % 2 ^ 64
    → (total + (get_or gs k d).1) % 2 ^ 64 ≡ total_of (take (k + 1) gs) % 2 ^ 64
total_more gs k d total below is =
    let more : total_of (take (k + 1) gs) ≡ total_of (take k gs) + (get_or gs k d).1 = ap total_of (take_more gs k d below) ∙ total_snoc (take k gs) (get_or gs k d) in
    omega (arith, is, more)
