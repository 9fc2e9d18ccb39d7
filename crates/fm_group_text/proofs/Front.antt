-- The text of the first groups, and of one more.
use Rattle.std.{proofs.{Common.{◌≡◌, ℕ, zero, suc, ◌<◌, List, [], ◌∷◌, ◌++◌, length, take, get_or, sym, ap, ◌∙◌, arith}, lemmas.List.{append-nil, append_assoc}}, specs.List.{flat_map}}
use Rattle.fm_group_lists.specs.Groups.{Group}
use Rattle.fm_group_text.specs.Printed.{group_text}

pub front_more : (gs : List Group) (k : ℕ) (d : Group) → k < length gs
    → flat_map group_text (take (suc k) gs) ≡ flat_map group_text (take k gs) ++ group_text (get_or gs k d)
front_more [] k d below = absurd (omega (arith, below))
front_more (g ∷ gs) zero d below = append-nil (group_text g)
front_more (g ∷ gs) (suc k) d below =
    let more = front_more gs k d (omega (arith, below)) in
    ap (λ rest. group_text g ++ rest) more ∙ sym (append_assoc (group_text g) (flat_map group_text (take k gs)) (group_text (get_or gs k d)))
