-- A value that is read: where the caller is then, and what comes of it.
use Rattle.std.{proofs.Common.{◌≡◌, ℕ, ◌+◌, ◌<◌, List, [], refl, sym, ap, ◌∙◌, subst, None, Result, Ok, Err}, specs.Prelude.{ℤ}}
use Rattle.fm_base.specs.{declared.{caller.Caller.{Caller}, refusal.Refusal.{Refusal, TheVariants.{Closed, Memory}}}, Calls.{Entry}}
use Rattle.fm_base.{specs.{View.{Did, View, inside_after}}}
use Rattle.fm_lanes.specs.Kind.{width_of}
use Rattle.fm_path.specs.declared.value_spec.ValueSpec.{ValueSpec}
use Rattle.fm_records.proofs.{Seeing.{seen_reads}, Visiting.{reads_outside, stops_outside}}
use Rattle.fm_records.specs.{Reads.{GetsNumber, LiesIn, Sees}, Words.{kept_none}}
use Rattle.fm_segment.specs.Region.{Region}
use Rattle.fm_group.proofs.Ordinals.{value_lies}
use Rattle.fm_group.specs.{Counting.{ReadsValue}, Values.{AreValued, Valued, count_of, offset_of}}

value_outside : (c : Caller) (v : Valued) (n : ℕ) (r : Result ℤ Refusal) (own : List Entry) → ReadsValue c v n r own → inside_after None own ≡ None
value_outside c v n (Ok x) own h = reads_outside (seen_reads (Ok x) h)
value_outside c v n (Err Closed) own h = stops_outside (seen_reads (Err Closed) h)
value_outside c v n (Err Memory) own h = reads_outside (seen_reads (Err Memory) h)
value_outside c v n (Err r) own h = absurd h.to

-- A value was read, and the caller is outside.
pub read_outside : {x y : View} (v : Valued) (n : ℕ) (r : Result ℤ Refusal) → x.inside ≡ None → Did x y (ReadsValue x.caller v n r) → y.inside ≡ None
read_outside {x} v n r outside d = d.makes.inside ∙ ap (λ i. inside_after i d.own) outside ∙ value_outside x.caller v n r d.own d.does

-- the same, of values that are seen so
pub read_as : {x y : View} {v u : Valued} (n : ℕ) (r : Result ℤ Refusal) → v ≡ u → Did x y (ReadsValue x.caller v n r) → Did x y (ReadsValue x.caller u n r)
read_as {x} {y} n r e d = subst (λ (k : Valued). Did x y (ReadsValue x.caller k n r)) e d

-- where a value lies, of what is seen so
pub lies_as : (v : Valued) {s : Region} {n place : ℕ} {spec : ValueSpec} → AreValued v → n < count_of v → v.records ≡ s → place ≡ v.records.first + offset_of v n
    → spec ≡ v.path.value → LiesIn s place (width_of spec.kind)
lies_as v {s} {n} {place} {spec} are below same at is =
    subst (λ (k : ValueSpec). LiesIn s place (width_of k.kind)) (sym is)
    (subst (λ (p : ℕ). LiesIn s p (width_of v.path.value.kind)) (sym at)
    (subst (λ (r : Region). LiesIn r (v.records.first + offset_of v n) (width_of v.path.value.kind)) same (value_lies v are n below)))

pub reads_as : {x y : View} (v : Valued) {s : Region} (n : ℕ) {place : ℕ} {spec : ValueSpec} (r : Result ℤ Refusal) → v.records ≡ s
    → place ≡ v.records.first + offset_of v n → spec ≡ v.path.value
    → Sees x y s (λ e own. GetsNumber kept_none [] spec place e own []) r → Did x y (ReadsValue x.caller v n r)
reads_as {x} {y} v {s} n {place} {spec} r same at is d =
    subst (λ (q : Region). Sees x y q (λ e own. GetsNumber kept_none [] v.path.value (v.records.first + offset_of v n) e own []) r) (sym same)
    (subst (λ (p : ℕ). Sees x y s (λ e own. GetsNumber kept_none [] v.path.value p e own []) r) at
    (subst (λ (k : ValueSpec). Sees x y s (λ e own. GetsNumber kept_none [] k place e own []) r) is d))
