-- Numbers and values that are read inside an arena.
use Rattle.std.proofs.Common.{◌≡◌, ℕ, ◌+◌, ◌*◌, ◌/◌, ◌%◌, ◌^◌, ◌<◌, ◌≤◌, List, [], ◌∷◌, ◌++◌, length, take, drop, sym, ap, subst, ◌∙◌, arith, Some, length-append}
use Rattle.std.proofs.{Math.Pow.{pow_mono}, lemmas.{Nat.{shl_whole}, List.{append-nil, Elements.{All-nil, All-append}}}}
use Rattle.fm_base.specs.declared.arena_id.ArenaId.{ArenaId}
use Rattle.fm_base.specs.{Calls.{Read, Found, Entry}, Histories.{IsLegal, state_after}, Learnt.{AfterAct}, View.{View, Did, IsByItself}, Visits.{Acts, entries_of}, Arenas.{State}}
use Rattle.fm_base.proofs.Faith.{Makes-alone}
use Rattle.fm_base_bytes.{specs.Bytes.{AreBytes, bytes_of, number_of, lane}, proofs.Bytes.{AreBytes-bytes_of, lane-lt, length-bytes_of, number_of-append, number_of-bytes_of}}
use Rattle.fm_lanes.specs.{declared.{order.Order.{Order}, value.Value.{Value}, value_kind.ValueKind.{ValueKind}}, Coding.{decoded, turned, value_of}, Kind.{width_of}}
use Rattle.fm_segment_access.{specs.Alone.{FindsAs, bytes_of_arena}, proofs.{Getting.{below_behind}, Values.{value_of-number}}}
use Rattle.fm_visit.specs.{Acts.{HasActs}, Runs.{GetsFrom, GetsAs}, Values.{ReadsPart}}
use Rattle.fm_visit.specs.Runs as runs
use Rattle.fm_visit.proofs.{Going.{did_then, has}, Learning.{just_act}, Runs.{GetsFind, gets_find}}

-- It fits its bytes.
pub part_fits : {x y : View} {id : ArenaId} {place width v : ℕ} → ReadsPart x y id place width v → v < 2 ^ (8 * width)
part_fits {place = place} {width} {v} p = subst (λ (n : ℕ). n < 2 ^ (8 * width)) (sym p.value) (lane-lt p.word (place % 8) width)

-- A number that lies in one word.
pub got_one : {x y : View} {id : ArenaId} {place width v : ℕ} → 0 < width → place % 8 + width ≤ 8 → ReadsPart x y id place width v
    → Did x y (HasActs x.caller (GetsAs number_of id place width v))
got_one {id = id} {place} {width} {v} some fits p =
    let acts : Acts = (Read id (place / 8), Found p.word) ∷ [] in
    let gets : GetsFrom id place (bytes_of width (lane p.word (place % 8) width) ++ []) ((Read id (place / 8), Found p.word) ∷ []) = runs.more place width p.word [] [] (record { some = some; longest = omega arith }) (runs.none (place + width)) in
    has acts (record {
      bytes = bytes_of width (lane p.word (place % 8) width) ++ [];
      gets = gets;
      count = ap length (append-nil (bytes_of width (lane p.word (place % 8) width))) ∙ length-bytes_of width (lane p.word (place % 8) width);
      value = sym (ap number_of (append-nil (bytes_of width (lane p.word (place % 8) width)) ∙ ap (bytes_of width) (sym p.value))
          ∙ number_of-bytes_of width v (part_fits p));
    }) p.did

-- A number that crosses a word's end: the pieces before and behind it.
module _ {x y z : View} {id : ArenaId} {place first rest low high : ℕ} (p : ReadsPart x y id place first low) (q : ReadsPart y z id (place + first) rest high)
    (few : first + rest ≤ 8) where
  pub high_fits : high * 2 ^ (8 * first) % 2 ^ 64 ≡ high * 2 ^ (8 * first)
  high_fits = shl_whole high (8 * rest) (8 * first) 64 (part_fits q) (omega arith)

  pub sum_fits : low + high * 2 ^ (8 * first) < 2 ^ 64
  sum_fits =
      let sum = below_behind low high first rest (part_fits p) (part_fits q) in
      let up : 2 ^ (8 * (first + rest)) ≤ 2 ^ 64 = (let le : 8 * (first + rest) ≤ 64 = omega arith in pow_mono le) in
      omega arith

  pub got_two : 0 < first → 0 < rest → place % 8 + first ≡ 8 → Did x z (HasActs x.caller (GetsAs number_of id place (first + rest) (low + high * 2 ^ (8 * first))))
  got_two some more across =
      let u = lane p.word (place % 8) first in
      let w = lane q.word ((place + first) % 8) rest in
      let last : GetsFrom id (place + first) (bytes_of rest (lane q.word ((place + first) % 8) rest) ++ []) ((Read id ((place + first) / 8), Found q.word) ∷ []) = runs.more (place + first) rest q.word [] [] (record { some = more; longest = omega arith }) (runs.none (place + first + rest)) in
      let n : length (bytes_of rest (lane q.word ((place + first) % 8) rest) ++ []) ≡ rest =
      ap length (append-nil (bytes_of rest (lane q.word ((place + first) % 8) rest))) ∙ length-bytes_of rest (lane q.word ((place + first) % 8) rest) in
      let gets : GetsFrom id place (bytes_of first (lane p.word (place % 8) first) ++ (bytes_of rest (lane q.word ((place + first) % 8) rest) ++ []))
      ((Read id (place / 8), Found p.word) ∷ (Read id ((place + first) / 8), Found q.word) ∷ []) = runs.more place first p.word (bytes_of rest w ++ []) ((Read id ((place + first) / 8), Found q.word) ∷ [])
      (record { some = some; longest = omega arith }) last in
      let m : length (bytes_of first (lane p.word (place % 8) first)) ≡ first = length-bytes_of first (lane p.word (place % 8) first) in
      let lows : number_of (bytes_of first (lane p.word (place % 8) first)) ≡ low =
      ap (λ k. number_of (bytes_of first k)) (sym p.value) ∙ number_of-bytes_of first low (part_fits p) in
      let highs : number_of (bytes_of rest (lane q.word ((place + first) % 8) rest) ++ []) ≡ high =
      ap number_of (append-nil (bytes_of rest (lane q.word ((place + first) % 8) rest)) ∙ ap (bytes_of rest) (sym q.value)) ∙ number_of-bytes_of rest high (part_fits q) in
      has ((Read id (place / 8), Found p.word) ∷ (Read id ((place + first) / 8), Found q.word) ∷ []) (record {
        bytes = bytes_of first u ++ (bytes_of rest w ++ []);
        gets = gets;
        count = length-append (bytes_of first u) (bytes_of rest w ++ []) ∙ omega arith;
        value = sym (number_of-append (bytes_of first u) (bytes_of rest w ++ []) ∙ rw (lows, m, highs) (omega arith));
      }) (did_then ((Read id (place / 8), Found p.word) ∷ []) ((Read id ((place + first) / 8), Found q.word) ∷ []) p.did q.did)

-- ---- values

-- What reads find are bytes.
pub gets_are : (id : ArenaId) (place : ℕ) (bytes : List ℕ) (acts : Acts) → GetsFrom id place bytes acts → AreBytes bytes
gets_are id place bytes acts (runs.none p) = All-nil (λ b. b < 256)
gets_are id place bytes acts (runs.more p width word rest later is g) =
    All-append (λ b. b < 256) (bytes_of width (lane word (p % 8) width)) rest (AreBytes-bytes_of width (lane word (p % 8) width)) (gets_are id (p + width) rest later g)

-- A number that was got, turned and decoded, is a value.
pub got_value : {x y : View} {id : ArenaId} {place : ℕ} (k : ValueKind) (o : Order) (width n m : ℕ) (v : Value) → width ≡ width_of k → m ≡ turned width n o
    → v ≡ decoded k m → Did x y (HasActs x.caller (GetsAs number_of id place width n)) → Did x y (HasActs x.caller (GetsAs (value_of k o) id place (width_of k) v))
got_value {id = id} {place} k o width n m v w t e d =
    let g = d.does.are in
    record {
      own = d.own;
      does = record {
        acts = d.does.acts;
        are = record {
          bytes = g.bytes;
          gets = g.gets;
          count = g.count ∙ w;
          value = e ∙ ap (decoded k) (t ∙ ap (λ j. turned j n o) w)
              ∙ value_of-number k o g.bytes n (gets_are id place g.bytes d.does.acts g.gets) (g.count ∙ w) g.value;
        };
        entries = d.does.entries;
      };
      makes = d.makes;
    }

-- ---- of the only caller

module _ {old new : View} {id : ArenaId} {place : ℕ} {bytes : List ℕ} (d : Did old new (HasActs old.caller (GetsFrom id place bytes))) (h : IsByItself old) where
  pub gets_alone : GetsFind old.state new.state id place bytes
  gets_alone =
      let m = Makes-alone old new d.own h d.makes in
      let legal = subst (λ (es : List Entry). IsLegal old.limit old.state es) d.does.entries m.0 in
      let after : state_after old.limit old.state (entries_of old.caller d.does.acts) ≡ new.state = sym (m.1 ∙ ap (state_after old.limit old.state) d.does.entries) in
      subst (λ (t : State). GetsFind old.state t id place bytes) after (gets_find old.limit old.caller old.state id place bytes d.does.acts d.does.are legal)

-- What it reads is what the bytes that stand there mean.
pub means_alone : {X : Type 0} {old new : View} {mean : List ℕ → X} {id : ArenaId} {place width : ℕ} {v : X}
    → Did old new (HasActs old.caller (GetsAs mean id place width v)) → IsByItself old → FindsAs mean old new id place width v
means_alone {old = old} {mean = mean} {id} {place} {width} d h =
    let g = d.does.are in
    let f = gets_alone (record { own = d.own; does = record { acts = d.does.acts; are = g.gets; entries = d.does.entries }; makes = d.makes }) h in
    record { value = g.value ∙ ap mean (f.value ∙ ap (λ n. take n (drop place (bytes_of_arena old.state id))) g.count); same = f.same }
