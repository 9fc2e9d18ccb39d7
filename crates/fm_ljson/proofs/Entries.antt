-- What is known behind an entry.
use Rattle.std.proofs.Common.{◌≡◌, inr, ℕ, ◌+◌, ◌<◌, Bool, true, false, cond, List, [], ◌∷◌, ◌++◌, length, map, drop, get_or, Option, Some, None, option_and_then, refl, sym, ap, subst, ◌∙◌}
use Rattle.std.{specs.Prelude.{nat_lt}, proofs.{Math.Path.{fun_ext}, lemmas.{List.{append_assoc, drop_more}, Option.{none-some}}}}
use Rattle.serde_json.specs.{Data.{Data}, View.{view}, declared.value.Value.{Value}}
use Rattle.fm_base.specs.declared.refusal.Refusal.TheVariants.{BadShape}
use Rattle.fm_ljson.specs.Documents.{Entry, Numbered, Parts, at_entry, before, behind, broken_at, entry, entry_of, first_broken_of, first_of, new_entry, numbered, parts_at, parts_from, unless_known}
use Rattle.fm_ljson.specs.{Loops.{IsAt, IsBadShape, IsBrokenEntry, IsReading, IsSoundEntry, behind_all}, Nodes.{most_written_nodes}}
use Rattle.fm_ljson.specs.Refs.{also_known, none_known}

unless_said : (b : Bool) (e f : Entry) → cond b None (Some f) ≡ Some e → Some f ≡ Some e
unless_said true e f h = absurd (none-some e h)
unless_said false e f h = h

by_known : (known : List ℕ → Bool) (o : Option Entry) (e : Entry) → option_and_then (unless_known known) o ≡ Some e → o ≡ Some e
by_known known None e h = absurd (none-some e h)
by_known known (Some f) e h = unless_said (known f.name) e f h

by_number : (b : Bool) (known : List ℕ → Bool) (o : Option Entry) (e : Entry) → cond b (option_and_then (unless_known known) o) None ≡ Some e → o ≡ Some e
by_number true known o e h = by_known known o e h
by_number false known o e h = absurd (none-some e h)

-- An entry that may stand there says what it says by itself.
pub new_entry-says : (known : List ℕ → Bool) (n : ℕ) (d : Data) (e : Entry) → new_entry known n d ≡ Some e → entry_of d ≡ Some e
new_entry-says known n d e h = by_number (nat_lt n most_written_nodes) known (entry_of d) e h

-- ---- through entries

numbered_entry : (e : Numbered) (n : ℕ) → e.number ≡ n → numbered n (entry e.layout e.name) ≡ e
numbered_entry e n is = ap (λ k. numbered k (entry e.layout e.name)) (sym is)

behind_more : (es : List Numbered) (e : Numbered) (p : Parts) → behind_all es (before e p) ≡ behind_all (es ++ e ∷ []) p
behind_more es e p = ap (λ xs. record { entries = xs; number = p.number }) (sym (append_assoc es (e ∷ []) p.entries))

-- One more entry is read.
pub reading_more : (known new : List ℕ → Bool) (es : List Numbered) (n m : ℕ) (types rest : List Data) (layout d : Data) (e : Numbered)
    → IsReading known es n types (d ∷ rest) layout → IsSoundEntry known n d e m → ((other : List ℕ) → new other ≡ also_known e.name known other)
    → IsReading new (es ++ e ∷ []) m types rest layout
reading_more known new es n m types rest layout d e r s noted =
    let name : also_known e.name known ≡ new = sym (fun_ext noted) in
    let at : behind (n + 1) e.layout ≡ m = sym s.next in
    let says : entry_of d ≡ Some (entry e.layout e.name) = new_entry-says known n d (entry e.layout e.name) s.says in
    record {
      same = r.same
          ∙ ap (λ o. at_entry n o (λ f. first_of (broken_at known (n + 1) f.layout) (first_broken_of (also_known f.name known)
          (behind (n + 1) f.layout) rest layout))) s.says
          ∙ ap (λ o. first_of o (first_broken_of (also_known e.name known) (behind (n + 1) e.layout) rest layout)) s.none
          ∙ ap (λ k. first_broken_of k (behind (n + 1) e.layout) rest layout) name
          ∙ ap (λ k. first_broken_of new k rest layout) at;
      parts = r.parts
          ∙ ap (λ o. behind_all es (parts_at n o (λ k. parts_from k rest))) says
          ∙ ap (λ (x : Numbered). behind_all es (before x (parts_from (behind (n + 1) e.layout) rest))) (numbered_entry e (n + 1) s.number)
          ∙ behind_more es e (parts_from (behind (n + 1) e.layout) rest)
          ∙ ap (λ k. behind_all (es ++ e ∷ []) (parts_from k rest)) at;
      few = s.few;
    }

-- The first node that breaks a rule is that of all.
pub reading_broken : (known : List ℕ → Bool) (es : List Numbered) (n m : ℕ) (types rest : List Data) (layout d : Data)
    → IsReading known es n types (d ∷ rest) layout → IsBrokenEntry known n d m → first_broken_of none_known 1 types layout ≡ Some m
reading_broken known es n m types rest layout d r h =
    r.same ∙ h (λ e. first_broken_of (also_known e.name known) (behind (n + 1) e.layout) rest layout)

-- A node that is refused.
pub bad_at : (o : Option ℕ) (n : ℕ) → o ≡ Some n → IsBadShape o (BadShape n)
bad_at o n is = inr (subst (λ p. IsAt p (BadShape n)) (sym is) refl)

-- ---- at a value

-- The next of the values is the first of those left.
pub reading_item : (known : List ℕ → Bool) (es : List Numbered) (n : ℕ) (types : List Data) (layout : Data) (vs : List Value) (i : ℕ) (v : Value)
    → i < length vs
    → v ≡ get_or vs i v → IsReading known es n types (map view (drop i vs)) layout
    → IsReading known es n types (view v ∷ map view (drop (i + 1) vs)) layout
reading_item known es n types layout vs i v here is r =
    let next : drop i vs ≡ v ∷ drop (i + 1) vs = drop_more vs i v here ∙ ap (λ (w : Value). w ∷ drop (i + 1) vs) (sym is) in
    subst (λ (ws : List Value). IsReading known es n types (map view ws) layout) next r
