-- Tries on a word, as far as they have come.
use Rattle.std.proofs.Common.{◌≡◌, ◌≢◌, ℕ, ◌/◌, ◌%◌, ◌<◌, arith, List, [], ◌∷◌, ◌++◌, refl, sym, ap, subst, ◌∙◌, append_assoc, Some}
use Rattle.fm_base.specs.{declared.{caller.Caller.{Caller}, arena_id.ArenaId.{ArenaId}}, Calls.{Call, Reply, Read, SwapIf, Found, Entry, entry_of}}
use Rattle.fm_base.specs.{View.{View, Makes, Did, given_in}, Does.{CanReach, DoesAct}, Visits.{Acts, entries_of, Tries, looked, missed, hit}}
use Rattle.fm_base.proofs.{Making.{Makes-then}, Outcomes.{Makes-lasts}, Visiting.{act_makes}}
use Rattle.fm_lanes.specs.{declared.{order.Order.{Order}, value.Value.{Value}}, Value.{kind_of}}
use Rattle.fm_handle.specs.{Access.{DoesInside}, Acts.{Adds, CutOff, Exchanges, sum_of, value_in, with_value}}
use Rattle.fm_handle.specs.Acts as acts

-- The entries of acts, one after the other.
entries_of-append : (c : Caller) (xs ys : Acts) → entries_of c (xs ++ ys) ≡ entries_of c xs ++ entries_of c ys
entries_of-append c [] ys = refl
entries_of-append c (x ∷ xs) ys = ap (λ (es : List Entry). entry_of c x.0 x.1 ∷ es) (entries_of-append c xs ys)

-- Acts that are the beginning of tries, of which the last found `seen`: whatever completes them completes all
pub record Looked (id : ArenaId) (word : ℕ) (GivesUp : ℕ → Type 0) (seen : ℕ) (so_far : Acts) : Type 0 where
  pub onward : (change : ℕ → ℕ) (found : ℕ) (rest : Acts) → Tries id word change found rest → Tries id word change found (so_far ++ rest)
  pub cuts : (found : ℕ) (rest : Acts) → CutOff id word GivesUp found rest → CutOff id word GivesUp found (so_far ++ rest)
  pub cut : GivesUp seen → CutOff id word GivesUp seen so_far

module _ {id : ArenaId} {word : ℕ} {GivesUp : ℕ → Type 0} {seen : ℕ} where
  -- the word was looked at
  looked_once : Looked id word GivesUp seen ((Read id word, Found seen) ∷ [])
  looked_once = record {
    onward = λ change found rest t. looked seen rest t;
    cuts = λ found rest t. acts.looked seen rest t;
    cut = λ h. acts.at_read h;
  }

  -- one SwapIf more, that missed
  looked_more : {old found : ℕ} (new : ℕ) {so_far : Acts} → ¬ (found ≡ old) → Looked id word GivesUp seen so_far
      → Looked id word GivesUp found (so_far ++ (SwapIf id word old new, Found found) ∷ [])
  looked_more {old} {found} new n l =
      let miss : Call × Reply = (SwapIf id word old new, Found found) in
      record {
        onward = λ change last rest t. rw append_assoc (l.onward change last (miss ∷ rest) (missed found old new rest n t));
        cuts = λ last rest t. rw append_assoc (l.cuts last (miss ∷ rest) (acts.missed found old new rest n t));
        cut = λ h. l.cuts found (miss ∷ []) (acts.at_swap old new n h);
      }

-- ---- the memory meanwhile

-- from old to now the caller looked, and found `seen` last
pub record IsTrying (old now : View) (id : ArenaId) (word : ℕ) (GivesUp : ℕ → Type 0) (seen : ℕ) : Type 0 where
  pub inside : now.inside ≡ Some id
  pub so_far : Acts
  pub looks : Looked id word GivesUp seen so_far
  pub makes : Makes old now (entries_of old.caller so_far)

-- After a Read.
pub trying_begins : {old now : View} {id : ArenaId} {word : ℕ} {GivesUp : ℕ → Type 0} {seen : ℕ} → old.inside ≡ Some id → now.inside ≡ old.inside
    → Did old now (DoesAct old.inside old.caller (λ a. Read a word) (Found seen)) → IsTrying old now id word GivesUp seen
trying_begins {old} {now} {id} {word} {seen = seen} inside stays d = record {
  inside = stays ∙ inside;
  so_far = (Read id word, Found seen) ∷ [];
  looks = looked_once;
  makes = act_makes old now id old.caller (λ a. Read a word) (Found seen) inside refl d;
}

module _ {old now next : View} {id : ArenaId} {word : ℕ} {GivesUp : ℕ → Type 0} {seen : ℕ} (new found : ℕ) (t : IsTrying old now id word GivesUp seen)
    (d : Did now next (DoesAct now.inside now.caller (λ a. SwapIf a word seen new) (Found found))) where
  -- what one SwapIf more made
  swapped : Makes old next (entries_of old.caller (t.so_far ++ (SwapIf id word seen new, Found found) ∷ []))
  swapped =
      let m = act_makes now next id old.caller (λ a. SwapIf a word seen new) (Found found) t.inside t.makes.same_caller d in
      subst (λ (es : List Entry). Makes old next es) (sym (entries_of-append old.caller t.so_far ((SwapIf id word seen new, Found found) ∷ [])))
      (Makes-then old now next _ _ t.makes m)

  -- A SwapIf that missed.
  pub trying_goes_on : next.inside ≡ now.inside → ¬ (found ≡ seen) → IsTrying old next id word GivesUp found
  trying_goes_on stays n = record {
    inside = stays ∙ t.inside;
    so_far = t.so_far ++ (SwapIf id word seen new, Found found) ∷ [];
    looks = looked_more new n t.looks;
    makes = swapped;
  }

  -- A SwapIf that hit: the acts of the tries.
  tried : (change : ℕ → ℕ) → found ≡ seen → new ≡ change seen
      → (these : Acts) × Tries id word change seen these × Makes old next (entries_of old.caller these)
  tried change f n =
      let Here : ℕ → ℕ → Type 0 = λ m k. Makes old next (entries_of old.caller (t.so_far ++ (SwapIf id word seen m, Found k) ∷ [])) in
      let last : Acts = (SwapIf id word seen (change seen), Found seen) ∷ [] in
      (t.so_far ++ last, t.looks.onward change seen last hit, subst (λ (k : ℕ). Here (change seen) k) f (subst (λ (m : ℕ). Here m found) n swapped))

-- ---- where the word can be reached

pub still_reaches : {old now : View} {id : ArenaId} (place : ℕ) {GivesUp : ℕ → Type 0} {seen : ℕ} → IsTrying old now id (place / 8) GivesUp seen
    → place < given_in old id → CanReach now (place / 8)
still_reaches {old} {now} {id} place t given =
    record { id = id; inside = t.inside; given = (let more = (Makes-lasts old now _ t.makes).given id in omega arith) }

-- ---- how the tries end

-- Another value was found.
pub exchange_gives_up : {old next : View} {id : ArenaId} {place : ℕ} {o : Order} {expected v found : Value} {seen : ℕ}
    → IsTrying old next id (place / 8) (λ now. value_in (kind_of v) o (place % 8) now ≢ expected) seen
    → found ≡ value_in (kind_of v) o (place % 8) seen → found ≢ expected → Did old next (DoesInside old.caller (Exchanges o id place expected v found))
exchange_gives_up {old} {seen = seen} t value other = record {
  own = entries_of old.caller t.so_far;
  does = record { acts = t.so_far; are = acts.finds_another seen _ t.so_far value other (t.looks.cut (λ e. other (value ∙ e))); entries = refl };
  makes = t.makes;
}

module _ {old now next : View} {id : ArenaId} {place : ℕ} {o : Order} {GivesUp : ℕ → Type 0} {seen new found : ℕ}
    (t : IsTrying old now id (place / 8) GivesUp seen) (f : found ≡ seen)
    (d : Did now next (DoesAct now.inside now.caller (λ a. SwapIf a (place / 8) seen new) (Found found))) where
  -- The value was exchanged.
  pub exchange_hits : {expected v : Value} → new ≡ with_value o v (place % 8) seen → value_in (kind_of v) o (place % 8) seen ≡ expected
      → Did old next (DoesInside old.caller (Exchanges o id place expected v expected))
  exchange_hits {v = v} n value =
      let h = tried new found t d (with_value o v (place % 8)) f n in
      record {
        own = entries_of old.caller h.0;
        does = record { acts = h.0; are = acts.puts seen h.0 value h.1; entries = refl };
        makes = h.2;
      }

  -- The sum was put.
  pub add_hits : {delta sum : Value} → new ≡ with_value o (sum_of sum delta) (place % 8) seen → sum ≡ value_in (kind_of delta) o (place % 8) seen
      → Did old next (DoesInside old.caller (Adds o id place delta sum))
  add_hits {delta} {sum} n value =
      let h = tried new found t d (with_value o (sum_of sum delta) (place % 8)) f n in
      record {
        own = entries_of old.caller h.0;
        does = record { acts = h.0; are = record { word = seen; value = value; tries = h.1 }; entries = refl };
        makes = h.2;
      }
