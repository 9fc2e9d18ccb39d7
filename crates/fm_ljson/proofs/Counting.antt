-- The nodes of a part are among those of the whole.
use Rattle.std.proofs.Common.{◌≡◌, ℕ, zero, suc, ◌+◌, ◌-◌, ◌<◌, ◌≤◌, ◌||◌, Bool, true, false, cond, List, [], ◌∷◌, ◌++◌, length, map, drop, get_or, Option, Some, None, Result, Ok, Err, IfOk, IfErr, refl, sym, ap, subst, ◌∙◌, arith, length-append, nat_eq, le-leb}
use Rattle.std.{specs.Prelude.{flat_map, is_some, nat_le, not}, proofs.lemmas.List.{drop_all, drop_more}}
use borrow.Author.Tests.{lt-leb, ne_eqb}
use Rattle.serde_json.specs.{Data.{Data}, View.{view}, declared.value.Value.{Value}}
use Rattle.fm_ljson.specs.{Node.{Node, node_of, parts_in, parts_of, parts_of_node}, Refs.{is_known_ref, ref_of}}
use Rattle.fm_ljson.specs.{Nodes.{first_broken, is_broken, is_sound, nodes}, Counted.{AreSound, IsCounting}}

none_past : (b : Bool) (n : ℕ) (r s t : Option ℕ) → (r ≡ None → s ≡ t) → cond b (Some n) r ≡ None → cond b (Some n) s ≡ t
none_past true n r s t k h = cc
none_past false n r s t k h = k h

some_past : (b : Bool) (n m : ℕ) (r s : Option ℕ) → (r ≡ Some m → s ≡ Some m) → cond b (Some n) r ≡ Some m → cond b (Some n) s ≡ Some m
some_past true n m r s k h = h
some_past false n m r s k h = k h

either_true : (a b c : Bool) → (a ≡ true) → a || (b || c) ≡ true
either_true a b c h = rw h refl

middle_true : (a b c : Bool) → (b ≡ true) → a || (b || c) ≡ true
middle_true true b c h = refl
middle_true false b c h = rw h refl

last_true : (a b c : Bool) → (c ≡ true) → a || (b || c) ≡ true
last_true true b c h = refl
last_true false true c h = refl
last_true false false c h = h

all_false : (a b c : Bool) → a ≡ false → b ≡ false → c ≡ false → a || (b || c) ≡ false
all_false a b c p q r = rw (p, q, r) refl

-- where these names are known, and no node has this number
module _ (known : List ℕ → Bool) (most : ℕ) where
  -- Past nodes that break no rule, the first that breaks one is the first of the others.
  first_broken-append : (n : ℕ) (xs ys : List (ℕ × Data)) → first_broken known most n xs ≡ None
      → first_broken known most n (xs ++ ys) ≡ first_broken known most (n + length xs) ys
  first_broken-append n [] ys h = let same : n ≡ n + 0 = omega arith in ap (λ k. first_broken known most k ys) same
  first_broken-append n (x ∷ xs) ys h =
      let same : n + 1 + length xs ≡ n + length (x ∷ xs) = omega arith in
      none_past (is_broken known most n x) n (first_broken known most (n + 1) xs) (first_broken known most (n + 1) (xs ++ ys))
      (first_broken known most (n + length (x ∷ xs)) ys)
      (λ e. first_broken-append (n + 1) xs ys e ∙ ap (λ k. first_broken known most k ys) same) h

  -- A node that breaks a rule comes before all that follow.
  first_broken-front : (n m : ℕ) (xs ys : List (ℕ × Data)) → first_broken known most n xs ≡ Some m → first_broken known most n (xs ++ ys) ≡ Some m
  first_broken-front n m [] ys h = cc
  first_broken-front n m (x ∷ xs) ys h =
      some_past (is_broken known most n x) n m (first_broken known most (n + 1) xs) (first_broken known most (n + 1) (xs ++ ys))
      (first_broken-front (n + 1) m xs ys) h

  -- ---- through parts

  pub counting_start : (n : ℕ) (all : List (ℕ × Data)) → n ≤ most → IsCounting known most n n all all
  counting_start n all few = record { same = refl; next = refl; few = few }

  pub counting_more : (n k m : ℕ) (all first rest : List (ℕ × Data)) → IsCounting known most n k all (first ++ rest) → AreSound known most k m first
      → IsCounting known most n m all rest
  counting_more n k m all first rest c s = record {
    same = c.same ∙ first_broken-append k first rest s.none ∙ ap (λ j. first_broken known most j rest) (sym s.next);
    next = omega (arith, c.next, s.next, length-append first rest);
    few = s.few;
  }

  pub counting_broken : (n k m : ℕ) (all first rest : List (ℕ × Data)) → IsCounting known most n k all (first ++ rest)
      → first_broken known most k first ≡ Some m
      → first_broken known most n all ≡ Some m
  counting_broken n k m all first rest c h = c.same ∙ first_broken-front k m first rest h

  pub counting_end : (n k : ℕ) (all : List (ℕ × Data)) → IsCounting known most n k all [] → AreSound known most n k all
  counting_end n k all c = record { none = c.same; next = omega (arith, c.next); few = c.few }

  -- ---- at a node

  broken_here : (n levels : ℕ) (d : Data) → is_broken known most n (levels, d) ≡ true → first_broken known most n (nodes levels d) ≡ Some n
  unfolding nodes
  broken_here n zero d h = rw h refl
  broken_here n (suc levels) d h = rw h refl

  pub one_too_many : (n levels : ℕ) (d : Data) → most ≤ n → first_broken known most n (nodes levels d) ≡ Some n
  one_too_many n levels d many = broken_here n levels d (either_true _ (nat_eq levels 0) (not (is_sound known d)) (le-leb most n many))

  pub too_deep : (n levels : ℕ) (d : Data) → levels ≡ 0 → first_broken known most n (nodes levels d) ≡ Some n
  too_deep n levels d deep = broken_here n levels d (middle_true _ (nat_eq levels 0) (not (is_sound known d)) (ap (λ k. nat_eq k 0) deep))

  -- a layout is sound, so is a ref to a known name, and nothing else
  sound_as : (d : Data) (o : Option Node) (b : Bool) → o ≡ node_of d → is_known_ref known (ref_of d) ≡ b → is_sound known d ≡ (is_some o || b)
  sound_as d o b is r = rw (sym is, r) refl

  pub no_node : (n levels : ℕ) (d : Data) → None ≡ node_of d → is_known_ref known (ref_of d) ≡ false → first_broken known most n (nodes levels d) ≡ Some n
  no_node n levels d none other =
      broken_here n levels d (last_true _ (nat_eq levels 0) (not (is_sound known d)) (ap not (sound_as d None false none other)))

  -- The nodes from this one down, where it breaks no rule.
  pub whole_here : (n levels : ℕ) (d : Data) (x : Node) → n < most → Some x ≡ node_of d
      → first_broken known most n ((suc levels, d) ∷ flat_map (nodes levels) (parts_of d)) ≡ first_broken known most (n + 1)
      (flat_map (nodes levels) (parts_in x.content))
  whole_here n levels d x few is =
      ap (λ b. cond b (Some n) (first_broken known most (n + 1) (flat_map (nodes levels) (parts_of d))))
      (all_false (nat_le most n) (nat_eq (suc levels) 0) (not (is_sound known d)) (lt-leb most n few)
      (ne_eqb (suc levels) 0 (λ e. absurd (omega (arith, e)))) (ap not (sound_as d (Some x) (is_known_ref known (ref_of d)) is refl)))
      ∙ ap (λ ds. first_broken known most (n + 1) (flat_map (nodes levels) ds)) (ap parts_of_node (sym is))

  pub sound_node : (n m levels : ℕ) (d : Data) (x : Node) → n < most → 0 < levels → Some x ≡ node_of d
      → AreSound known most (n + 1) m (flat_map (nodes (levels - 1)) (parts_in x.content)) → AreSound known most n m (nodes levels d)
  unfolding nodes
  sound_node n m zero d x few deep is s = absurd (omega arith)
  sound_node n m (suc levels) d x few deep is s =
      let down : suc levels - 1 ≡ levels = omega arith in
      let t : AreSound known most (n + 1) m (flat_map (nodes levels) (parts_in x.content)) = rw down at s in
      let parts : parts_of d ≡ parts_in x.content = ap parts_of_node (sym is) in
      record {
        none = whole_here n levels d x few is ∙ t.none;
        next = omega (arith, t.next, ap (λ ds. length (flat_map (nodes levels) ds)) parts);
        few = t.few;
      }

  pub broken_below : (n m levels : ℕ) (d : Data) (x : Node) → n < most → 0 < levels → Some x ≡ node_of d
      → first_broken known most (n + 1) (flat_map (nodes (levels - 1)) (parts_in x.content)) ≡ Some m → first_broken known most n (nodes levels d) ≡ Some m
  unfolding nodes
  broken_below n m zero d x few deep is h = absurd (omega arith)
  broken_below n m (suc levels) d x few deep is h =
      let down : suc levels - 1 ≡ levels = omega arith in
      whole_here n levels d x few is ∙ (rw down at h)

  -- A ref to a known name breaks no rule, and has no nodes below it.
  pub sound_ref : (n levels : ℕ) (d : Data) → n < most → 0 < levels → None ≡ node_of d → is_known_ref known (ref_of d) ≡ true
      → AreSound known most n (n + 1) (nodes levels d)
  unfolding nodes
  sound_ref n zero d few deep none is = absurd (omega arith)
  sound_ref n (suc levels) d few deep none is =
      let parts : parts_of d ≡ [] = ap parts_of_node (sym none) in
      let here : is_broken known most n (suc levels, d) ≡ false =
      all_false (nat_le most n) (nat_eq (suc levels) 0) (not (is_sound known d)) (lt-leb most n few)
      (ne_eqb (suc levels) 0 (λ e. absurd (omega (arith, e)))) (ap not (sound_as d None true none is)) in
      record {
        none = ap (λ b. cond b (Some n) (first_broken known most (n + 1) (flat_map (nodes levels) (parts_of d)))) here
            ∙ ap (λ ds. first_broken known most (n + 1) (flat_map (nodes levels) ds)) parts;
        next = omega (arith, ap (λ ds. length (flat_map (nodes levels) ds)) parts);
        few = omega arith;
      }

  -- ---- at a value

  -- The next of the values is the first of those left.
  pub counting_item : (levels n k : ℕ) (all : List (ℕ × Data)) (vs : List Value) (i : ℕ) (v : Value) → i < length vs → v ≡ get_or vs i v
      → IsCounting known most n k all (flat_map (nodes levels) (map view (drop i vs)))
      → IsCounting known most n k all (nodes levels (view v) ++ flat_map (nodes levels) (map view (drop (i + 1) vs)))
  counting_item levels n k all vs i v here is c =
      let next : drop i vs ≡ v ∷ drop (i + 1) vs = drop_more vs i v here ∙ ap (λ (w : Value). w ∷ drop (i + 1) vs) (sym is) in
      subst (λ (ws : List Value). IsCounting known most n k all (flat_map (nodes levels) (map view ws))) next c

  -- None of the values is left.
  pub counting_done : (levels n k : ℕ) (all : List (ℕ × Data)) (vs : List Value) (i : ℕ) → length vs ≤ i
      → IsCounting known most n k all (flat_map (nodes levels) (map view (drop i vs))) → AreSound known most n k all
  counting_done levels n k all vs i past c =
      counting_end n k all (subst (λ (ws : List Value). IsCounting known most n k all (flat_map (nodes levels) (map view ws))) (drop_all i vs past) c)

  -- What is found below a node is found from it down.
  pub all_sound : (n levels : ℕ) (d : Data) (x : Node) (parts : List Data) (r : Result ℕ ℕ) → n < most → 0 < levels → Some x ≡ node_of d
      → parts ≡ parts_in x.content
      → IfOk r (λ m. AreSound known most (n + 1) m (flat_map (nodes (levels - 1)) parts)) → IfOk r (λ m. AreSound known most n m (nodes levels d))
  all_sound n levels d x parts (Ok m) few deep is same h =
      sound_node n m levels d x few deep is (subst (λ ds. AreSound known most (n + 1) m (flat_map (nodes (levels - 1)) ds)) same h)
  all_sound n levels d x parts (Err e) few deep is same h = tt

  pub one_broken : (n levels : ℕ) (d : Data) (x : Node) (parts : List Data) (r : Result ℕ ℕ) → n < most → 0 < levels → Some x ≡ node_of d
      → parts ≡ parts_in x.content
      → IfErr r (λ m. first_broken known most (n + 1) (flat_map (nodes (levels - 1)) parts) ≡ Some m)
      → IfErr r (λ m. first_broken known most n (nodes levels d) ≡ Some m)
  one_broken n levels d x parts (Ok m) few deep is same h = tt
  one_broken n levels d x parts (Err e) few deep is same h =
      broken_below n e levels d x few deep is (subst (λ ds. first_broken known most (n + 1) (flat_map (nodes (levels - 1)) ds) ≡ Some e) same h)
