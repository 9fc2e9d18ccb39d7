-- Names that grow at their end.
use Rattle.std.{proofs.{Common.{◌≡◌, sym, subst, ℕ, ◌+◌, ◌<◌, ◌||◌, List, [], ◌∷◌, ◌++◌, length, take, arith}, Math.ListN.{set}}, specs.Prelude.{IsTrue}}
use Rattle.std.proofs.lemmas.List.{length-append, length-take, take_more_set}
use Rattle.fm_layout.specs.Name.{is_letter, is_digit, IsName, IsNameEnd}

-- one more letter or digit behind bytes of a name
pub bytes_more : (s : List ℕ) (c : ℕ) → IsNameEnd s → IsTrue (is_letter c || is_digit c) → IsNameEnd (s ++ c ∷ [])
bytes_more [] c n h = (h, tt)
bytes_more (x ∷ s) c n h = (n.0, bytes_more s c n.1 h)

-- one more letter or digit behind a name that has room
pub name_more : (s : List ℕ) (c : ℕ) → IsName s → length s < 64 → IsTrue (is_letter c || is_digit c) → IsName (s ++ c ∷ [])
name_more [] c n lt h = absurd n
name_more (x ∷ s) c n lt h = (n.0, bytes_more s c n.1 h, omega (arith, length-append s (c ∷ [])))

-- one more byte written behind a name's bytes
pub name_written : (bytes : List ℕ) (len c : ℕ) → length bytes ≡ 64 → len < 64 → IsName (take len bytes) → IsTrue (is_letter c || is_digit c)
    → IsName (take (len + 1) (set bytes len c))
name_written bytes len c size lt n h =
    subst IsName (sym (take_more_set bytes len c (omega arith))) (name_more (take len bytes) c n (omega (arith, length-take len bytes)) h)
