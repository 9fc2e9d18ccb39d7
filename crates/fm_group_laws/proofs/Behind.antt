-- Who reads behind all counts answers the groups of all numbers.
use Rattle.std.proofs.Common.{◌≡◌, ℕ, zero, suc, ◌+◌, ◌<◌, ◌≤◌, List, ◌∷◌, map, refl, ap, ◌∙◌, subst, arith}
use Rattle.std.specs.List.{range_with_len}
use Rattle.fm_base.{specs.{Arenas.{State, word_in}, Calls.{Entry}, Histories.{state_after}}, proofs.Untouched.{spared as byte_stays}}
use Rattle.fm_segment.specs.Region.{Region}
use Rattle.fm_records.specs.{Alone.{bytes_at_places}, Shares.{IsSpared}}
use Rattle.fm_group_lists.specs.{Groups.{AreSummed}, Settled.{named_below}}
use Rattle.fm_group.specs.Table.{count_word, places_in}
use Rattle.fm_group_laws.{specs.{Laws.{GroupsAreRead}, Standing.{key_at}}, proofs.{Crewing.{counts_are_groups, spared}, Reading.{read_stands}}}

same_below : (f g : ℕ → ℕ) (a n : ℕ) → ((k : ℕ) → a ≤ k → k < a + n → f k ≡ g k) → map f (range_with_len a n) ≡ map g (range_with_len a n)
same_below f g a zero h = refl
same_below f g a (suc n) h =
    ap (λ k. k ∷ map f (range_with_len (a + 1) n)) (h a (omega arith) (omega arith))
    ∙ ap (λ (ks : List ℕ). g a ∷ ks) (same_below f g (a + 1) n (λ k low below. h k (omega (arith, low)) (omega (arith, below))))

-- bytes that all entries spare stand behind them
bytes_stand : (limit : ℕ) (now : State) (es : List Entry) (s : Region) → IsSpared limit now es s → bytes_at_places (state_after limit now es) s ≡ bytes_at_places now s
bytes_stand limit now es s h =
    same_below _ _ s.first s.size
    (λ k from below. byte_stays limit now es s.arena k h.legal (h.spared k from below))

pub groups_read : GroupsAreRead
groups_read limit now w es more cs bs rs c gs h ok legal others d =
    let stand = bytes_stand limit now es w.values.records (spared limit now w es cs bs rs h) in
    let summed = read_stands limit (state_after limit now es) w more c gs h.can legal others d in
    counts_are_groups limit now w es cs bs rs gs h ok
    (subst (λ (bytes : List ℕ). AreSummed (named_below (key_at w bytes (word_in (state_after limit now es) w.table.arena))
    (λ p. word_in (state_after limit now es) w.table.arena (count_word w.table p)) (places_in w.table)) gs) stand summed)
