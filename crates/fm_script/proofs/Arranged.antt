-- Workers put behind each other.
use Rattle.std.proofs.Common.{◌≡◌, ℕ, ◌+◌, ◌<◌, ◌≤◌, nat_lt, Bool, true, false, List, [], ◌∷◌, ◌++◌, length, length-append, map, take, drop, get_or, refl, sym, ap, ◌∙◌, subst, arith, All}
use Rattle.std.proofs.lemmas.{Bool.{ltb-true, ltb-false}, Grind.{flat_map-append}}
use Rattle.std.proofs.lemmas.List.{get_or_append_left, get_or-append_right, get_or_push, length-map, take_more, take-append-drop, append-nil}
use Rattle.fm_script_text.specs.declared.line.Line.{Line}
use Rattle.fm_script_lines.specs.{declared.standing.Standing.{Standing}, Standings.{standing_as}}
use Rattle.fm_script.specs.{declared.player.Player.{Player}, Players.{IsPlayer}, Runs.{names_lent}}

-- One worker more.
pub player_more : (lines : List Line) (starts : List ℕ) (place : ℕ) (ps next : List Player) (p : Player) → next ≡ ps ++ p ∷ [] → length ps ≡ place
    → IsPlayer lines (place + 1) (get_or starts place 0) p
    → ((k : ℕ) (d : Player) → k < place → IsPlayer lines (k + 1) (get_or starts k 0) (get_or ps k d))
    → (k : ℕ) (d : Player) → k < place + 1 → IsPlayer lines (k + 1) (get_or starts k 0) (get_or next k d)
player_more lines starts place ps next p is many here each k d below = go (nat_lt k place) refl
  where
    go : (b : Bool) → nat_lt k place ≡ b → IsPlayer lines (k + 1) (get_or starts k 0) (get_or next k d)
    go true e =
        let l = ltb-true k place e in
        subst (λ (q : Player). IsPlayer lines (k + 1) (get_or starts k 0) q)
        (sym (ap (λ (xs : List Player). get_or xs k d) is ∙ get_or_append_left ps (p ∷ []) d k (omega (arith, l, many)))) (each k d l)
    go false e =
        let g = ltb-false k place e in
        let same : place ≡ k = omega (arith, g, below) in
        subst (λ (q : Player). IsPlayer lines (k + 1) (get_or starts k 0) q)
        (sym (ap (λ (xs : List Player). get_or xs k d) is ∙ get_or_push ps p d k (omega (arith, same, many))))
        (subst (λ (n : ℕ). IsPlayer lines (n + 1) (get_or starts n 0) p) same here)

module _ (ps : List Player) (k : ℕ) (p : Player) (below : k < length ps) (there : p ≡ get_or ps k p) where
  pub taken : take (k + 1) ps ≡ take k ps ++ p ∷ []
  taken = take_more ps k p below ∙ ap (λ (x : Player). take k ps ++ x ∷ []) (sym there)

  pub lent_taken : names_lent (take (k + 1) ps) ≡ names_lent (take k ps) ++ map standing_as p.lent.items
  lent_taken =
      ap (λ (xs : List Player). names_lent xs) taken
      ∙ (flat_map-append (λ (x : Player). map standing_as x.lent.items) (take k ps) (p ∷ [])
      ∙ ap (λ (xs : List Standing). names_lent (take k ps) ++ xs) (append-nil (map standing_as p.lent.items)))

  -- There is room for its names.
  pub lent_room : length (names_lent (take k ps)) + length p.lent.items ≤ length (names_lent ps)
  lent_room =
      let one = ap (λ (xs : List Standing). length xs) lent_taken in
      let more = length-append (names_lent (take k ps)) (map standing_as p.lent.items) in
      let mapped = length-map p.lent.items standing_as in
      let all = ap (λ (xs : List Player). length (names_lent xs)) (sym (take-append-drop (k + 1) ps))
      ∙ (ap (λ (xs : List Standing). length xs)
      (flat_map-append (λ (x : Player). map standing_as x.lent.items) (take (k + 1) ps) (drop (k + 1) ps))
      ∙ length-append (names_lent (take (k + 1) ps)) (names_lent (drop (k + 1) ps))) in
      omega (arith, one, more, mapped, all)

-- Of both lists.
pub all_of_both : (P : Standing → Type 0) (xs ys : List Standing) → All P (xs ++ ys) → All P xs × All P ys
all_of_both P xs ys all =
    let long = length-append xs ys in (
      (λ k d l. subst P (get_or_append_left xs ys d k l) (all k d (omega (arith, long, l)))),
      (λ k d l. subst P
          (get_or-append_right xs ys (length xs) (length xs + k) d refl (omega arith) ∙ ap (λ (n : ℕ). get_or ys n d) (omega arith))
          (all (length xs + k) d (omega (arith, long, l)))),
    )
