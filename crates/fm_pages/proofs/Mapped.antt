-- A page of the hand is mapped, or comes back.
use Rattle.std.proofs.Common.{◌≡◌, ◌≢◌, ℕ, ◌-◌, ◌==◌, Bool, true, false, if◌then◌else◌, List, [], ◌∷◌, refl, ap, sym, ◌∙◌, subst, inl, inr, Option, Some, eq-eqb, ne_eqb}
use Rattle.std.proofs.lemmas.List.Elements.{All-cons, All-nil}
use Rattle.fm_base.specs.{declared.{caller.Caller.{Caller}, arena_id.ArenaId.{ArenaId}}, Calls.{Lend, Fine, entry_of}, Histories.{made_by}, View.{inside_after}}
use Rattle.fm_base.specs.Finds.{Maps, is_draw}
use Rattle.fm_rule_facts.specs.{Parts.{Mapping, mapping_of, reads_mapped, pages_mapped}, Views.{View, In}, Steps.{Stepped, note_of, where_found}}
use Rattle.fm_rule_calls.proofs.Going.{NoDraws, goes_step, made_by-one}
use Rattle.fm_pages.specs.Maps.{Way, PageMapped, PartTaken}

inside_lent : (b : Bool) (now : Option ArenaId) (c : Caller) (a : ArenaId) (i page : ℕ)
    → now ≡ inside_after now (where_found b (entry_of c (Lend page a i) Fine ∷ []))
inside_lent true now c a i page = refl
inside_lent false now c a i page = refl

made_lent : (b : Bool) (c : Caller) (a : ArenaId) (i page : ℕ)
    → made_by c (where_found b (entry_of c (Lend page a i) Fine ∷ [])) ≡ where_found b (entry_of c (Lend page a i) Fine ∷ [])
made_lent true c a i page = made_by-one c (Lend page a i) Fine
made_lent false c a i page = refl

map_keeps : (b : Bool) (m n o : Mapping) (ms : List Mapping) → In m ms → In m (if b then n ∷ ms else o ∷ ms)
map_keeps true m n o ms k = inr k
map_keeps false m n o ms k = inr k

abbrev MapsTo : View → View → ArenaId → ℕ → ℕ → ℕ → Type 0
MapsTo q r a i page y = Stepped q r (record q { reads = reads_mapped i page y q.reads; pages = pages_mapped y q.pages })
    (where_found (y == 0) (entry_of q.caller (Lend page a i) Fine ∷ [])) (note_of (Maps a i page) y q)

draws_none : (q : View) (a : ArenaId) (i page y : ℕ) → NoDraws (note_of (Maps a i page) y q)
draws_none q a i page y n = All-cons (λ f. is_draw f.step ≡ false) _ [] refl (All-nil (λ f. is_draw f.step ≡ false))

way_map : {q r : View} (a : ArenaId) (i page y : ℕ) → MapsTo q r a i page y
    → Way q r (where_found (y == 0) (entry_of q.caller (Lend page a i) Fine ∷ [])) (pages_mapped y q.pages)
way_map {q = q} {r = r} a i page y s =
    let reads : reads_mapped i page y q.reads ≡ r.reads = sym (ap (λ (v : View). v.reads) s.is_part) in
    record {
      goes = goes_step s refl (inside_lent (y == 0) q.inside q.caller a i page) (made_lent (y == 0) q.caller a i page) (draws_none q a i page y);
      is = s.is_part ∙ (λ j. record q {
        seen = r.seen;
        finds = sym (ap (λ (v : View). v.finds) s.is_part) j;
        reads = reads j;
        pages = pages_mapped y q.pages;
      });
      keeps = λ m k. subst (In m) reads (map_keeps (y == 0) m (mapping_of i page) (mapping_of i (y - 1)) q.reads k);
    }

module _ {q r : View} (a : ArenaId) (i page y : ℕ) (has : q.pages ≡ page ∷ []) (t : MapsTo q r a i page y) where
  reads_are : (b : Bool) → (y == 0) ≡ b → r.reads ≡ (if b then mapping_of i page ∷ q.reads else mapping_of i (y - 1) ∷ q.reads)
  reads_are b e = ap (λ (v : View). v.reads) t.is_part ∙ ap (λ (c : Bool). if c then mapping_of i page ∷ q.reads else mapping_of i (y - 1) ∷ q.reads) e

  way_is : (b : Bool) → (y == 0) ≡ b → Way q r (where_found b (entry_of q.caller (Lend page a i) Fine ∷ [])) (if b then [] else q.pages)
  way_is b e = subst (λ (c : Bool). Way q r (where_found c (entry_of q.caller (Lend page a i) Fine ∷ [])) (if c then [] else q.pages)) e (way_map a i page y t)

  -- The page is the arena's.
  pub page_mapped : y ≡ 0 → PageMapped q r a i page
  page_mapped e =
      let one = eq-eqb y 0 e in
      record { way = way_is true one; read = subst (In (mapping_of i page)) (sym (reads_are true one)) (inl refl) }

  -- Another one is.
  pub part_taken : y ≢ 0 → q.inside ≡ Some a → PartTaken q r a i page
  part_taken n ins =
      let none = ne_eqb y 0 n in
      let read : In (mapping_of i (y - 1)) r.reads = subst (In (mapping_of i (y - 1))) (sym (reads_are false none)) (inl refl) in
      record {
        way = subst (λ (ps : List ℕ). Way q r [] ps) has (way_is false none);
        other = y - 1;
        read = read;
        lent_so = t.sound.reads a (mapping_of i (y - 1)) (ap (λ (v : View). v.inside) t.is_part ∙ ins) read;
      }
