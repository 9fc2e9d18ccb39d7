-- Reading which page each part of a range has.
use Rattle.std.proofs.Common.{◌≡◌, ◌≢◌, ℕ, ◌+◌, ◌-◌, ◌*◌, ◌/◌, ◌==◌, ◌<◌, ◌≤◌, Bool, true, false, if◌then◌else◌, [], ◌∷◌, sym, refl, ap, subst, arith, inl, ne_eqb}
use Rattle.std.proofs.lemmas.List.Elements.{All-nil}
use Rattle.fm_base.specs.declared.arena_id.ArenaId.{ArenaId}
use Rattle.fm_rule_facts.specs.{Parts.{mapping_of, reads_after}, Steps.{Stepped, none_noted}, Views.{View, In, IsSound}}
use Rattle.fm_rule_calls.proofs.Going.{goes_none}
use Rattle.fm_pages.{specs.{Covers.{LendsIn, page_bytes}, Maps.{Way}}, proofs.{Parts.{way_then, way_read, pages_way}, Ranges.{covering_all}}}
use Rattle.fm_rule_steps.proofs.Reading.{eqb_true, eqb_false}
use Rattle.fm_gate.specs.Giving.{HasRead}

-- the pass made no entry, and has read a page for all parts of the range before the next one
pub record Reading (v m : View) (from to next : ℕ) : Type 0 where
  pub way : Way v m [] []
  pub each : (i : ℕ) → from / page_bytes v ≤ i → i < next → (page : ℕ) × In (mapping_of i page) m.reads

pub reading_begins : {v : View} (from to : ℕ) → IsSound v → v.pages ≡ [] → Reading v v from to (from / page_bytes v)
reading_begins {v = v} from to sound none = record {
  way = record { goes = goes_none sound; is = λ j. record v { pages = none j }; keeps = λ m k. k };
  each = λ i low high. absurd (omega arith);
}

abbrev Reads : View → View → ℕ → ℕ → Type 0
Reads m r n x = Stepped m r (record m { reads = reads_after n x m.reads }) [] none_noted

-- The next part has a page.
pub reading_more : {v m r : View} {from to n : ℕ} (x : ℕ) → Reading v m from to n → x ≢ 0 → Reads m r n x → Reading v r from to (n + 1)
reading_more {v = v} {m = m} {r = r} {from = from} {n = n} x c some s = record {
  way = way_then c.way w;
  each = λ i low high. one_of i low high (i == n) refl;
}
  where
    w : Way m r [] []
    w = way_read n x (pages_way c.way) s

    here : In (mapping_of n (x - 1)) r.reads
    here = subst (In (mapping_of n (x - 1))) (sym (ap (λ (v : View). v.reads) s.is_part))
        (subst (λ (b : Bool). In (mapping_of n (x - 1)) (if b then m.reads else mapping_of n (x - 1) ∷ m.reads)) (sym (ne_eqb x 0 some)) (inl refl))

    one_of : (i : ℕ) → from / page_bytes v ≤ i → i < n + 1 → (b : Bool) → (i == n) ≡ b → (page : ℕ) × In (mapping_of i page) r.reads
    one_of i low high true e = (x - 1, subst (λ (k : ℕ). In (mapping_of k (x - 1)) r.reads) (sym (eqb_true i n e)) here)
    one_of i low high false e =
        let d : i ≢ n = eqb_false i n e in
        let had = c.each i low (omega arith) in (had.0, w.keeps (mapping_of i had.0) had.1)

-- All have.
pub reading_all : {v r : View} {from to n : ℕ} (a : ArenaId) → Reading v r from to n → IsSound v → to ≤ n * page_bytes v → HasRead v r from to true
reading_all {v = v} {from = from} {to = to} a c sound all = record {
  way = c.way;
  parts = (covering_all (record { own = []; lends = All-nil (LendsIn v a from to); way = c.way; each = c.each }) sound all).outcome;
}

-- One has none.
pub reading_ends : {v m r : View} {from to n : ℕ} (x : ℕ) → Reading v m from to n → Reads m r n x
    → HasRead v r from to false
reading_ends {n = n} x c s = record { way = way_then c.way (way_read n x (pages_way c.way) s); parts = tt }
