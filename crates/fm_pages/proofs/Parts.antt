-- Ways of a pass that maps pages, and reads which page a part has.
use Rattle.std.proofs.Common.{◌≡◌, ◌≢◌, ℕ, ◌-◌, ◌==◌, Bool, true, false, if◌then◌else◌, List, [], ◌∷◌, ◌++◌, refl, ap, sym, ◌∙◌, subst, inl, inr, ne_eqb}
use Rattle.fm_base.specs.Calls.{Entry}
use Rattle.fm_rule_facts.specs.{Parts.{Mapping, mapping_of, reads_after}, Views.{View, In}, Steps.{Stepped, none_noted, is_clear}}
use Rattle.fm_rule.specs.{declared.pool.Pool.{Pool}, Passes.{IsOf}}
use Rattle.fm_rule_calls.proofs.Going.{goes_step, goes_then, no_draws}
use Rattle.fm_pages.{specs.{Claims.{Went}, Maps.{Way}}, proofs.Clear.{clear_still}}

-- ---- ways

pub way_then : {p q r : View} {es fs : List Entry} {ps qs : List ℕ} → Way p q es ps → Way q r fs qs → Way p r (es ++ fs) qs
way_then {r = r} {qs = qs} v w = record {
  goes = goes_then v.goes w.goes;
  is = w.is ∙ ap (λ (x : View). record x { seen = r.seen; finds = r.finds; reads = r.reads; pages = qs }) v.is;
  keeps = λ m i. w.keeps m (v.keeps m i);
}

pub way_went : {p q : View} {ps : List ℕ} → Went p q ps → Way p q [] ps
way_went {p = p} {q = q} {ps = ps} g =
    let reads : q.reads ≡ p.reads = ap (λ (x : View). x.reads) g.is in
    record {
      goes = g.goes;
      is = g.is ∙ ap (λ (ms : List Mapping). record p { seen = q.seen; finds = q.finds; reads = ms; pages = ps }) (sym reads);
      keeps = λ m i. subst (In m) (sym reads) i;
    }

pub of_way : (pool : Pool) {p q : View} {es : List Entry} {ps : List ℕ} → Way p q es ps → IsOf pool p → IsOf pool q
of_way pool w o = (w.goes.same_home ∙ o.0, w.goes.same_shape ∙ o.1)

pub pages_way : {p q : View} {es : List Entry} {ps : List ℕ} → Way p q es ps → q.pages ≡ ps
pages_way w = ap (λ (x : View). x.pages) w.is

-- a pass that was clear is so still
pub clear_way : {p q : View} {es : List Entry} → Way p q es [] → is_clear p ≡ true → is_clear q ≡ true
clear_way {p = p} {q = q} w h = ap is_clear w.is ∙ clear_still p q.seen q.finds q.reads h

-- ---- reading a map word

read_keeps : (b : Bool) (m n : Mapping) (ms : List Mapping) → In m ms → In m (if b then ms else n ∷ ms)
read_keeps true m n ms i = i
read_keeps false m n ms i = inr i

pub way_read : {p q : View} (i x : ℕ) → p.pages ≡ [] → Stepped p q (record p { reads = reads_after i x p.reads }) [] none_noted → Way p q [] []
way_read {p = p} {q = q} i x none s =
    let finds : p.finds ++ [] ≡ q.finds = sym (ap (λ (v : View). v.finds) s.is_part) in
    let reads : reads_after i x p.reads ≡ q.reads = sym (ap (λ (v : View). v.reads) s.is_part) in
    record {
      goes = goes_step s refl refl refl no_draws;
      is = s.is_part ∙ (λ j. record p { seen = q.seen; finds = finds j; reads = reads j; pages = none j });
      keeps = λ m k. subst (In m) reads (read_keeps (x == 0) m (mapping_of i (x - 1)) p.reads k);
    }

pub read_there : {p q : View} (i x : ℕ) → x ≢ 0 → Stepped p q (record p { reads = reads_after i x p.reads }) [] none_noted → In (mapping_of i (x - 1)) q.reads
read_there {p = p} i x n s = subst (In (mapping_of i (x - 1))) (sym (ap (λ (v : View). v.reads) s.is_part))
    (subst (λ (b : Bool). In (mapping_of i (x - 1)) (if b then p.reads else mapping_of i (x - 1) ∷ p.reads)) (sym (ne_eqb x 0 n)) (inl refl))
