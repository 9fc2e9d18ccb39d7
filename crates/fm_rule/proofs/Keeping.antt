-- What a pass keeps over each step.
use Rattle.std.proofs.Common.{◌≡◌, ◌==◌, if◌then◌else◌, Bool, true, false, ◌∷◌, ◌++◌, ne_eqb, ℕ, zero, suc, ◌+◌, ◌-◌, ◌*◌, ◌<◌, inl, inr, arith, subst, List, [], length, Option, None, sym, refl, ap, ◌∙◌}
use Rattle.std.proofs.lemmas.List.{append-nil}
use Rattle.atomic_table.specs.declared.shared.Seat.{Seat}
use Rattle.fm_words.specs.{declared.shape.Shape.{Shape}, Maps.{map_word}, Places.{at, page_word}}
use Rattle.fm_base.specs.{Arenas.{only_caller}, Calls.{Entry}, Finds.{Find, Gathered}, declared.{caller.Caller.{Caller}, arena_id.ArenaId.{ArenaId}}}
use Rattle.fm_rule_facts.specs.{declared.step.Step.{Step, TheVariants.{Checks, Unmarks, ReadsMap}}, Views.{View, In, IsSound, brought}, Splits.{first_view}}
use Rattle.fm_rule_facts.specs.{Words.{alive_holds, inside_found}, Steps.{part}, Parts.{Mapping, mapping_of, reads_after}, Moves.{Same, Gives}}
use Rattle.fm_rule.{specs.{declared.{pass.Part.{Part}, seen.Seen.{Seen}}, Acts.{Acted}, Views.{IsPart, IsKept, Stands, Keeps, no_part}}, proofs.Allowed.{StaysInside, leaves}}

-- after a step that leaves the arena that it is inside
pub part_on : (v w : View) (part : Part) → w.shape ≡ v.shape → ((x : Mapping) → In x v.reads → In x w.reads) → IsPart v part → IsPart w part
part_on v w part sh more k = record {
  mapping = k.mapping;
  read = more k.mapping k.read;
  low = subst (λ (z : Shape). k.mapping.page < z.pages) (sym sh) k.low;
  words = k.words ∙ ap (λ (z : Shape). z.page_words) (sym sh);
  first = k.first ∙ ap (λ (z : Shape). k.mapping.part * z.page_words) (sym sh);
  from = k.from ∙ ap (λ (z : Shape). at z (page_word k.mapping.page 0)) (sym sh);
}

pub stands_on : (v w : View) (part : Part) → w.shape ≡ v.shape → ((x : Mapping) → In x v.reads → In x w.reads) → Stands v part → Stands w part
stands_on v w part sh more s = record {
  known = λ l. part_on v w part sh more (s.known l);
  kept = λ l. subst (λ (z : Shape). IsKept z part) (sym sh) (s.kept l);
}

-- no part, and one that isn't known in this visit
pub stands_none : (v : View) → Stands v no_part
stands_none v = record { known = λ l. absurd (omega arith); kept = λ l. absurd (omega arith) }

stands_off : (v w : View) (part : Part) → w.shape ≡ v.shape → Stands v part → Stands w (record part { words = 0 })
stands_off v w part sh s = record {
  known = λ l. absurd (omega arith);
  kept = λ l. subst (λ (z : Shape). IsKept z (record part { words = 0 })) (sym sh) (let h = s.kept l in
      record { page = h.page; word = h.word; from = h.from; size = h.size; first = h.first; word_at = h.word_at; low = h.low });
}

module _ {c : Caller} {i : Option ArenaId} {known : Part × Part} {count : ℕ} where
  -- what it keeps, by where it is inside and the part that it knows then
  keeps_as : {v p w : View} {es : List Entry} {fs : ℕ → List Find} {held held' : List (ℕ × Unit {0})} {i' : Option ArenaId} {known' : Part × Part}
      → Keeps c i known count (v, held) → Same v (record p { whole = v.whole }) → Gives v p es fs w → held' ≡ held → i' ≡ p.inside
      → Stands w known'.0 → Stands w known'.1 → Keeps c i' known' count (w, held')
  keeps_as k s g e inside last other =
      let gathered = ap (λ (x : View). x.gathered) g.is ∙ (λ j. s.gathered j ++ brought ((s.met ∙ k.met) j)) in
      record {
        live = ap (λ (x : View). x.live) g.is ∙ (s.live ∙ k.live);
        caller = k.caller ∙ sym (ap (λ (x : View). x.caller) g.is ∙ s.caller);
        inside = inside ∙ sym (ap (λ (x : View). x.inside) g.is);
        last = last;
        other = other;
        met = ap (λ (x : View). x.met) g.is;
        counted = k.counted ∙ ap (λ (gs : List Gathered). length gs) (sym (gathered ∙ append-nil _));
        sound = g.sound;
        empty = e ∙ k.empty;
      }

  pub keeps_on : {v p w : View} {es : List Entry} {fs : ℕ → List Find} {held held' : List (ℕ × Unit {0})}
      → Keeps c i known count (v, held) → Same v (record p { whole = v.whole }) → p.inside ≡ v.inside → ((x : Mapping) → In x v.reads → In x p.reads)
      → Gives v p es fs w → held' ≡ held → Keeps c i known count (w, held')
  keeps_on {v = v} {w = w} k s ins more g e =
      let shape = ap (λ (x : View). x.shape) g.is ∙ s.shape in
      keeps_as k s g e (k.inside ∙ sym ins)
      (stands_on v w known.0 shape (λ x j. subst (In x) (sym (ap (λ (u : View). u.reads) g.is)) (more x j)) k.last)
      (stands_on v w known.1 shape (λ x j. subst (In x) (sym (ap (λ (u : View). u.reads) g.is)) (more x j)) k.other)

  module _ {old new : Seat (Unit {0}) Seen} {x : ℕ} (k : Keeps c i known count old.me) where
    -- a step that leaves it inside what it was inside
    pub step_keeps : {step : Step} → Acted old new step x → StaysInside step → Keeps c i known count new.me
    step_keeps {step = step} a stays =
        let l = leaves step old.me.0 x in keeps_on k l.same (l.inside stays) (l.reads stays) a.tells.gives a.slots

    -- where it is inside, and that no part is known there
    pub check_keeps : {a : ArenaId} {i' : Option ArenaId} → Acted old new (Checks a) x → i' ≡ inside_found a (alive_holds a x)
        → Keeps c i' (record known.0 { words = 0 }, record known.1 { words = 0 }) count new.me
    unfolding part
    check_keeps {a = a} t ins =
        let g = t.tells.gives in
        keeps_as k (leaves (Checks a) old.me.0 x).same g t.slots ins
        (stands_off old.me.0 new.me.0 known.0 (ap (λ (u : View). u.shape) g.is) k.last)
        (stands_off old.me.0 new.me.0 known.1 (ap (λ (u : View). u.shape) g.is) k.other)

    pub unmark_keeps : Acted old new Unmarks x → Keeps c None known count new.me
    unfolding part
    unmark_keeps t =
        let g = t.tells.gives in
        keeps_as k (leaves Unmarks old.me.0 x).same g t.slots refl
        (stands_on old.me.0 new.me.0 known.0 (ap (λ (u : View). u.shape) g.is) (λ y j. subst (In y) (sym (ap (λ (u : View). u.reads) g.is)) j) k.last)
        (stands_on old.me.0 new.me.0 known.1 (ap (λ (u : View). u.shape) g.is) (λ y j. subst (In y) (sym (ap (λ (u : View). u.reads) g.is)) j) k.other)

    -- a part is known by what was read last
    pub read_map_keeps : {a : ArenaId} {b : ℕ} (z : Shape) (now : Part) → Acted old new (ReadsMap a b) x → old.me.0.shape ≡ z
        → (x ≡ 0 → now.words ≡ 0)
        → ((p : ℕ) → x ≡ map_word p → (now.first ≡ b * z.page_words) × (now.words ≡ z.page_words) × (now.from ≡ at z (page_word p 0)))
        → (0 < now.size → IsKept z now) → (other : Part) → Stands old.me.0 other
        → Keeps c i (now, other) count new.me
    unfolding part map_word
    read_map_keeps {a = a} {b = b} z now t sh none some kept other stands =
        let g = t.tells.gives in
        keeps_as k (leaves (ReadsMap a b) old.me.0 x).same g t.slots k.inside
        (record { known = go x refl; kept = λ l. subst (λ (y : Shape). IsKept y now) (sym (ap (λ (u : View). u.shape) g.is ∙ sh)) (kept l) })
        (stands_on old.me.0 new.me.0 other (ap (λ (u : View). u.shape) g.is)
        (λ m j. subst (In m) (sym (ap (λ (u : View). u.reads) g.is)) (reads_keep (x == 0) m (mapping_of b (x - 1)) old.me.0.reads j)) stands)
      where
        reads_keep : (r : Bool) (m n : Mapping) (ms : List Mapping) → In m ms → In m (if r then ms else n ∷ ms)
        reads_keep true m n ms j = j
        reads_keep false m n ms j = inr j

        -- a word that isn't 0 adds its page
        read_adds : (b p x : ℕ) (ms : List Mapping) → x ≡ suc p → In (mapping_of b p) (reads_after b x ms)
        read_adds b p x ms e =
            let n : (x == 0) ≡ false = ne_eqb x 0 (λ q. absurd (omega arith)) in
            subst (λ (c : Bool). In (mapping_of b p) (if c then ms else mapping_of b (x - 1) ∷ ms)) (sym n)
            (inl (ap (mapping_of b) (let h : p ≡ x - 1 = omega arith in h)))

        go : (y : ℕ) → x ≡ y → 0 < now.words → IsPart new.me.0 now
        go zero q l = absurd (let n = none q in omega arith)
        go (suc p) q l =
            let g = t.tells.gives in
            let shape : new.me.0.shape ≡ z = ap (λ (u : View). u.shape) g.is ∙ sh in
            let y = some p (q ∙ (let h : suc p ≡ p + 1 = omega arith in h)) in
            let reads : new.me.0.reads ≡ reads_after b x old.me.0.reads = ap (λ (u : View). u.reads) g.is in
            record {
              mapping = mapping_of b p;
              read = subst (In (mapping_of b p)) (sym reads) (read_adds b p x old.me.0.reads q);
              low = (let h = t.tells.learns.low in let s : new.me.0.shape.pages ≡ old.me.0.shape.pages = ap (λ (u : View). u.shape.pages) g.is in omega arith);
              words = y.1 ∙ ap (λ (u : Shape). u.page_words) (sym shape);
              first = y.0 ∙ ap (λ (u : Shape). b * u.page_words) (sym shape);
              from = y.2 ∙ ap (λ (u : Shape). at u (page_word p 0)) (sym shape);
            }

-- a new pool's first pass
pub first_keeps : (z : Shape) → IsSound (first_view z) → Keeps only_caller None (no_part, no_part) 0 (first_view z, [])
first_keeps z sound = record {
  live = refl;
  caller = refl;
  inside = refl;
  last = stands_none (first_view z);
  other = stands_none (first_view z);
  met = refl;
  counted = refl;
  sound = sound;
  empty = refl;
}
