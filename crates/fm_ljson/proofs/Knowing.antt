-- What is known of types that are not built, one after the other.
use Rattle.std.proofs.Common.{◌≡◌, inl, inr, ℕ, ◌<◌, true, cond, List, Option, Some, None, IfSome, Result, Ok, Err, IfOk, IfErr, refl, sym, ap, subst, ◌∙◌, arith}
use Rattle.std.{specs.Prelude.{nat_lt, option_copied}, proofs.{Math.Path.{fun_ext}, lemmas.{Bool.Decides.{nat_tests}, Option.{none-some, same_Some}}}}
use Rattle.serde_json.specs.{Data.{Data}, View.{view}}
use Rattle.fm_base.specs.declared.refusal.Refusal.{Refusal, TheVariants.{BadShape}}
use Rattle.fm_layout.specs.{Tree.{Tree, Label, Value, Padding, Sequence, Struct, Union, alignment_of, relabelled}, Made.{with_name}, Named.{IsNameIfAny}}
use Rattle.fm_ljson.specs.{Built.{OrMemory, built, copied, copied_as, named, renamed}, Footprints.{IsFootprint, IsFootprintOf, IsRefusedSo}}
use Rattle.fm_ljson.specs.Known.{AreBelow, AreKnown, AreSafe, IsKnown, IsKnownIfAny, IsLearnt, IsSafe, earlier, last_of, seen}
use Rattle.fm_ljson.specs.{Nodes.{most_written_levels}, Node.{node_of}, Refs.{Ref, ref_of}, declared.known.Known.{Known}}
use Rattle.fm_ljson.proofs.{Building.{built_none, or_memory}, Weighing.{footprint_named}}

-- ---- names

relabelled_again : (name : List ℕ) (l : Label) (t : Tree) → with_name name (relabelled (record { alignment = alignment_of t; name = l.name }) t) ≡ with_name name t
relabelled_again name l (Value k o m) = refl
relabelled_again name l (Padding n m) = refl
relabelled_again name l (Sequence n e m) = refl
relabelled_again name l (Struct ms m) = refl
relabelled_again name l (Union ms m) = refl

-- The last name stays.
named_again : (last first : Option (List ℕ)) (t : Tree) → named (last_of last first) t ≡ named last (named first t)
named_again None first t = refl
named_again (Some name) None t = refl
named_again (Some name) (Some other) t = sym (relabelled_again name (record { alignment = 0; name = Some other }) t)

renamed_again : (last first : Option (List ℕ)) (s : Result Tree Refusal) → renamed (last_of last first) s ≡ renamed last (renamed first s)
renamed_again last first (Ok t) = ap Ok (named_again last first t)
renamed_again last first (Err r) = refl

renamed_none : (s : Result Tree Refusal) → renamed None s ≡ s
renamed_none (Ok t) = refl
renamed_none (Err r) = refl

-- ---- what an entry tells

-- what is known of a name, as far as it is
known_tree : (types : List ℕ → Option Known) (trees : List ℕ → Option Tree) (o : Option Known) (p : Option Tree) (k : Known) → IsKnownIfAny types trees o p
    → o ≡ Some k → (t : Tree) × (p ≡ Some t) × IsKnown types trees k t
known_tree types trees None p k h is = absurd (none-some k is)
known_tree types trees (Some j) None k h is = absurd h
known_tree types trees (Some j) (Some t) k h is = (t, refl, subst (λ (x : Known). IsKnown types trees x t) (same_Some j k is) h)

module _ (types : List ℕ → Option Known) (trees : List ℕ → Option Tree) (known : AreKnown types trees) where
  below_all : (n : ℕ) (name : List ℕ) (o : Option Known) (p : Option Tree) → IfSome o (λ k. k.place < n) → IsKnownIfAny types trees o p → seen n o p ≡ p
  below_all n name None None h is = refl
  below_all n name None (Some t) h is = absurd is
  below_all n name (Some k) p h is =
      let yes : nat_lt k.place n ≡ true = grind (arith, nat_tests, h) in ap (λ b. cond b p None) yes

  -- All are among the first n.
  pub all_earlier : (n : ℕ) → AreBelow n types → earlier n types trees ≡ trees
  all_earlier n below = fun_ext (λ name. below_all n name (types name) (trees name) (below name) (known name))

  learnt_by : (k : Known) (s : Result Tree Refusal) → option_copied k.name ≡ None
      → built (earlier k.before types trees) most_written_levels (view k.layout.now) ≡ s → IsFootprintOf k.footprint s → IsLearnt types trees k s
  learnt_by k (Err e) none is foot = absurd foot
  learnt_by k (Ok t) none is foot = record {
    tree = t;
    there = refl;
    known = record {
      made = ap (λ name. renamed name (built (earlier k.before types trees) most_written_levels (view k.layout.now))) none
          ∙ renamed_none (built (earlier k.before types trees) most_written_levels (view k.layout.now)) ∙ is;
      footprint = foot;
    };
  }

  -- A type that is defined as a node.
  pub learnt_node : (n : ℕ) (k : Known) → AreBelow n types → k.before ≡ n → option_copied k.name ≡ None
      → IsFootprintOf k.footprint (built trees most_written_levels (view k.layout.now))
      → IsLearnt types trees k (built trees most_written_levels (view k.layout.now))
  learnt_node n k below at none foot =
      learnt_by k _ none
      (ap (λ f. built f most_written_levels (view k.layout.now)) (ap (λ m. earlier m types trees) at ∙ all_earlier n below)) foot

  -- A type that is defined as a ref.
  pub learnt_ref : (d : Data) (r : Ref) (j k : Known) → Some r ≡ ref_of d → Some j ≡ types r.of → view k.layout.now ≡ view j.layout.now → k.before ≡ j.before
      → k.footprint ≡ j.footprint → option_copied k.name ≡ last_of r.name (option_copied j.name) → IsLearnt types trees k (copied trees (ref_of d))
  learnt_ref d r j k is has layout before foot name =
      let p = known_tree types trees (types r.of) (trees r.of) j (known r.of) (sym has) in
      let made = built (earlier j.before types trees) most_written_levels (view j.layout.now) in
      let same : built (earlier k.before types trees) most_written_levels (view k.layout.now) ≡ made =
      ap (λ m. built (earlier m types trees) most_written_levels (view k.layout.now)) before
      ∙ ap (built (earlier j.before types trees) most_written_levels) layout in
      record {
        tree = named r.name p.0;
        there = ap (copied trees) (sym is) ∙ ap (copied_as r.name) p.1;
        known = record {
          made = ap (renamed (option_copied k.name)) same ∙ ap (λ n. renamed n made) name ∙ renamed_again r.name (option_copied j.name) made
              ∙ ap (renamed r.name) p.2.made;
          footprint = subst (λ f. IsFootprint f (named r.name p.0)) (sym foot) (footprint_named r.name j.footprint p.0 p.2.footprint);
        };
      }

-- ---- without layouts

last_is_name : (last first : Option (List ℕ)) → IsNameIfAny last → IsNameIfAny first → IsNameIfAny (last_of last first)
last_is_name None first h k = k
last_is_name (Some name) first h k = h

at_some : {A : Type 0} (P : A → Type 0) (o : Option A) (a : A) → IfSome o P → Some a ≡ o → P a
at_some {A} P o a h is = let H : Option A → Type 0 = λ x. IfSome x P in subst H (sym is) h

-- What a ref may name is safe.
pub safe_at : (types : List ℕ → Option Known) (name : List ℕ) (k : Known) → AreSafe types → Some k ≡ types name → IsSafe k
safe_at types name k safe has = at_some IsSafe (types name) k (safe name) has

-- Its last name is one.
pub name_at_ref : (types : List ℕ → Option Known) (r : Ref) (j : Known) (name : Option (List ℕ)) → AreSafe types → Some j ≡ types r.of → IsNameIfAny r.name
    → name ≡ last_of r.name (option_copied j.name) → IsNameIfAny name
name_at_ref types r j name safe has is last =
    subst IsNameIfAny (sym last) (last_is_name r.name (option_copied j.name) is (safe_at types r.of j safe has).named)

-- So is what is defined as a ref.
pub again_safe : (types : List ℕ → Option Known) (r : Ref) (j k : Known) (n : ℕ) → AreSafe types → AreBelow n types → Some j ≡ types r.of → IsNameIfAny r.name
    → k.before ≡ j.before → k.place ≡ n → option_copied k.name ≡ last_of r.name (option_copied j.name) → IsSafe k
again_safe types r j k n safe below has is before place name =
    let s = safe_at types r.of j safe has in
    let low : j.place < n = at_some (λ (x : Known). x.place < n) (types r.of) j (below r.of) has in
    record {
      before = omega (arith, s.before, low, before, place);
      named = name_at_ref types r j (option_copied k.name) safe has is name;
    }

-- ---- what is no node is a ref

pub again_known : (types : List ℕ → Option Known) (d : Data) (r : Result Known Refusal) → None ≡ node_of d
    → IfOk r (λ k. (trees : List ℕ → Option Tree) → AreKnown types trees → IsLearnt types trees k (copied trees (ref_of d)))
    → IfOk r (λ k. (trees : List ℕ → Option Tree) → AreKnown types trees → IsLearnt types trees k (built trees most_written_levels d))
again_known types d (Err e) none h = tt
again_known types d (Ok k) none h = λ trees known.
    let same : copied trees (ref_of d) ≡ built trees most_written_levels d = sym (built_none trees most_written_levels d (omega arith) none) in
    subst (IsLearnt types trees k) same (h trees known)

pub again_refused : (types : List ℕ → Option Known) (d : Data) (r : Result Known Refusal) → None ≡ node_of d
    → IfErr r (λ e. (trees : List ℕ → Option Tree) → AreKnown types trees → IsRefusedSo e (copied trees (ref_of d)))
    → IfErr r (λ e. (trees : List ℕ → Option Tree) → AreKnown types trees → IsRefusedSo e (built trees most_written_levels d))
again_refused types d (Ok k) none h = tt
again_refused types d (Err e) none h = λ trees known.
    let same : copied trees (ref_of d) ≡ built trees most_written_levels d = sym (built_none trees most_written_levels d (omega arith) none) in
    subst (IsRefusedSo e) same (h trees known)
