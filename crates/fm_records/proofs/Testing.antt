-- Conditions that are tested in order, up to the first that fails.
use Rattle.std.proofs.Common.{◌≡◌, ℕ, ◌+◌, ◌<◌, ◌≤◌, Bool, true, false, Result, Ok, Err, List, [], ◌∷◌, ◌++◌, length, take, drop, get_or, refl, sym, ap, ◌∙◌, subst, arith}
use Rattle.std.{specs.Prelude.{ℤ, ◌≢◌}, proofs.lemmas.List.{take_more, take_all, take-append-drop}}
use Rattle.fm_base.specs.{declared.refusal.Refusal.{Refusal}, View.{View}}
use Rattle.fm_lanes.specs.Kind.{width_of}
use Rattle.fm_path.specs.declared.value_spec.ValueSpec.{ValueSpec}
use Rattle.fm_path_meaning.specs.{Walk.{AreAdmitted, offset_at}, declared.dim.Dim.{Dim}}
use Rattle.fm_segment.specs.Region.{Region}
use Rattle.fm_records_query.specs.declared.condition.Condition.{Condition}
use Rattle.fm_records.specs.{Answers.{compares}, Adds.{IsTestable}, Reads.{no_turn, short_turn, GetsNumber, LiesIn, Sees, Tests, TestsConditions}}
use Rattle.fm_records.{specs.Words.{Seen, kept_all}, proofs.Seeing.{sees_as, sees_err, sees_none, sees_ok, sees_on}}
use Rattle.fm_records.proofs.Turns.{in_turn_on, in_turn_cut, in_turn_one}

-- a condition's value stands in the segment
pub testable_lies : {s : Region} {place n : ℕ} {x : Condition} (spec : ValueSpec) → IsTestable s place x → spec ≡ x.path.value → n ≡ x.path.offset
    → LiesIn s (place + n) (width_of spec.kind)
testable_lies {s} {place} {n} {x} spec t is_spec is_n =
    let P : List Dim → Type 0 = λ ds. AreAdmitted ds [] → offset_at x.path.offset ds [] + width_of x.path.value.kind ≤ x.path.root_size in
    let inside : x.path.offset + width_of x.path.value.kind ≤ x.path.root_size = subst P t.closed (t.stays.inside []) tt in
    let from = t.lies.from in
    let within = t.lies.within in
    subst (λ (v : ValueSpec). LiesIn s (place + n) (width_of v.kind)) (sym is_spec)
    (record { from = omega (arith, from); within = omega (arith, inside, within, is_n) })

abbrev Gets : ℕ → List Seen → List Seen → ValueSpec → ℕ → Result ℤ Refusal → List Seen → Type 0
Gets place k l v at r own = GetsNumber kept_all k v (place + at) r own l

module _ {old new : View} (s : Region) (place : ℕ) (x : Condition) (k l : List Seen) (spec : ValueSpec) (n : ℕ) (is_spec : spec ≡ x.path.value)
    (is_n : n ≡ x.path.offset) where
  -- what was read there is its number, or the arena was found closed
  number_there : (read : Result ℤ Refusal) → Sees old new s (Gets place k l spec n) read → Sees old new s (Gets place k l x.path.value x.path.offset) read
  number_there read d =
      subst (λ (v : ValueSpec). Sees old new s (Gets place k l v x.path.offset) read) is_spec (subst (λ (j : ℕ). Sees old new s (Gets place k l spec j) read) is_n d)

  -- it was compared
  pub test_done : (z : ℤ) (b : Bool) → b ≡ compares x.operator z x.literal → Sees old new s (Gets place k l spec n) (Ok z)
      → Sees old new s (λ r own. Tests place k x r own l) (Ok b)
  test_done z b is d =
      sees_ok (Gets place k l x.path.value x.path.offset) (λ r own. Tests place k x r own l) z b (number_there (Ok z) d) (λ h. (z, h, sym is))

  -- or the arena was found closed
  pub test_closed : (r : Refusal) → Sees old new s (Gets place k l spec n) (Err r) → Sees old new s (λ r own. Tests place k x r own l) (Err r)
  test_closed r d = sees_err (Gets place k l x.path.value x.path.offset) (λ e own. Tests place k x e own l) r (number_there (Err r) d) (λ h. h)

-- the first i conditions hold
pub record AreTested (old now : View) (s : Region) (place : ℕ) (k l : List Seen) (cs : List Condition) (i : ℕ) : Type 0 where
  pub did : Sees old now s (λ r own. TestsConditions place k (take i cs) r own l) (Ok true)

pub none_tested : (old : View) (s : Region) (place : ℕ) (k : List Seen) (cs : List Condition) → AreTested old old s place k k cs 0
none_tested old s place k cs = record { did = sees_none old s true no_turn }

-- one condition alone
test_one : (place : ℕ) (k l : List Seen) (x : Condition) (result : Result Bool Refusal) (own : List Seen) → Tests place k x result own l
    → TestsConditions place k (x ∷ []) result own l
test_one place k l x (Ok true) own h = in_turn_one x own [] h
test_one place k l x (Ok false) own h = short_turn own [] (λ e. cc) h
test_one place k l x (Err r) own h = short_turn own [] (λ e. cc) h

module _ {old now next : View} {s : Region} {place : ℕ} {k l m : List Seen} (cs : List Condition) (i : ℕ) (x : Condition) (a : AreTested old now s place k l cs i)
    (below : i < length cs) (here : x ≡ get_or cs i x) (result : Result Bool Refusal) (d : Sees now next s (λ r own. Tests place l x r own m) result) where
  to : take i cs ++ x ∷ [] ≡ take (i + 1) cs
  to = ap (λ y. take i cs ++ y ∷ []) here ∙ sym (take_more cs i x below)

  -- one more is tested
  more : Sees old next s (λ r own. TestsConditions place k (take (i + 1) cs) r own m) result
  more =
      subst (λ (ys : List Condition). Sees old next s (λ r own. TestsConditions place k ys r own m) result) to
      (sees_on (λ r own. Tests place l x r own m) (λ r own. TestsConditions place k (take i cs ++ x ∷ []) r own m) result a.did d (λ h.
      in_turn_on (take i cs) (x ∷ []) (Ok true) result a.did.does.seen d.does.seen [] [] a.did.does.does refl (test_one place l m x result d.does.seen h)))

  -- and holds
  pub test_holds : result ≡ Ok true → AreTested old next s place k m cs (i + 1)
  test_holds e = record { did = subst (Sees old next s (λ r own. TestsConditions place k (take (i + 1) cs) r own m)) e more }

  -- or it is the last
  pub test_ends : (end : Result Bool Refusal) → result ≡ end → end ≢ Ok true → Sees old next s (λ r own. TestsConditions place k cs r own m) end
  test_ends end is apart =
      subst (λ (ys : List Condition). Sees old next s (λ r own. TestsConditions place k ys r own m) end) (take-append-drop (i + 1) cs)
      (subst (Sees old next s (λ r own. TestsConditions place k (take (i + 1) cs ++ drop (i + 1) cs) r own m)) is
      (sees_as (λ r own. TestsConditions place k (take (i + 1) cs) r own m) (λ r own. TestsConditions place k (take (i + 1) cs ++ drop (i + 1) cs) r own m)
      result more (λ h. in_turn_cut (take (i + 1) cs) (drop (i + 1) cs) result more.does.seen [] h (λ e. apart (sym is ∙ e)))))

-- all do
pub all_tested : {old now : View} {s : Region} {place : ℕ} {k l : List Seen} (cs : List Condition) (i : ℕ) → AreTested old now s place k l cs i → length cs ≤ i
    → Sees old now s (λ r own. TestsConditions place k cs r own l) (Ok true)
all_tested {old} {now} {s} {place} {k} {l} cs i a past =
    subst (λ (ys : List Condition). Sees old now s (λ r own. TestsConditions place k ys r own l) (Ok true)) (take_all i cs past) a.did
