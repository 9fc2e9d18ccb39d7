-- A table's end: the names are gone one by one, with their holds and handles.
use Rattle.std.proofs.Common.{◌≡◌, ◌+◌, ◌<◌, List, [], ◌∷◌, ◌++◌, length, length-append, map, reverse, append_assoc, get_or, refl, ap, sym, ◌∙◌, subst, arith, Option, Some, None, All}
use Rattle.std.proofs.lemmas.List.{append-nil, get_or_push, get_or_append_left, map-append, reverse-append, reverse-reverse, Elements.{All-weaker}}
use Rattle.fm_base.{specs.{declared.arena_id.ArenaId.{ArenaId}, Arenas.{same_id}, Outcomes.{Lasts}}, proofs.Names.{same_id-self}}
use Rattle.fm_rule_facts.specs.{Holds.{how_many, one_if}, Views.{View}}
use Rattle.fm_rule_calls.specs.Told.{view_of_pass}
use Rattle.fm_script_lines.specs.declared.{bound.Bound.{Bound}, standing.Standing.{Standing, TheVariants.{Nothing, Arena, Segment, Hold, Handle}}}
use Rattle.fm_script_lines.specs.Standings.{IsBacked, hold_in, handle_in, hold_of, handle_of, lent, standing_as}
use Rattle.fm_script_lines.{specs.Tokens.{Backs, CanSpend, HasTokens, among, onto, without}, proofs.Backing.{backed_later, can_unhold, has_handle}}
use Rattle.fm_script_lines.proofs.Counting.{among_push, token_less}
use Rattle.fm_script_lines.specs.declared.standing.Standing.TheVariants as standing
use Rattle.fm_gate.specs.Makers.{made_by_pass}

-- No line yet.
pub backs_none : (p : View) (base : List Standing) → All (λ s. IsBacked p (lent s)) base → Backs p p.holds p.handles base []
backs_none p base known = record {
  others_known = known;
  own_known = λ k d l. absurd (omega (arith, l));
  has_holds = record { mine = []; are = refl; as_many = λ a. refl };
  has_handles = record { mine = []; are = refl; as_many = λ a. refl };
}

tokens_popped : (token : Standing → Option ArenaId) {all others : List ArenaId} (rest : List Standing) (s : Standing)
    → HasTokens all (among token (rest ++ s ∷ [])) others → HasTokens (without (token s) all) (among token rest) others
tokens_popped token {all = all} {others = others} rest s t = go (token s) refl
  where
    go : (o : Option ArenaId) → token s ≡ o → HasTokens (without o all) (among token rest) others
    go None e = record {
      mine = t.mine;
      are = t.are;
      as_many = λ a.
          let push = among_push token a rest s in
          let none : how_many a (onto (token s) []) ≡ 0 = ap (λ (o : Option ArenaId). how_many a (onto o [])) e in
          let many = t.as_many a in
          omega (arith, push, none, many);
    }
    go (Some b) e =
        let count : (a : ArenaId) → how_many a (among token (rest ++ s ∷ [])) ≡ how_many a (among token rest) + one_if (same_id b a) = λ a.
        let push = among_push token a rest s in
        let one : how_many a (onto (token s) []) ≡ one_if (same_id b a) + 0 = ap (λ (o : Option ArenaId). how_many a (onto o [])) e in
        omega (arith, push, one) in
        token_less b (among token rest) t (let here = count b in let q : one_if (same_id b b) ≡ 1 = ap one_if (same_id-self b) in omega (arith, here, q)) count

-- The last name is gone, with its hold or handle.
pub backs_popped : (p q : View) {holds handles : List ArenaId} (base rest : List Standing) (s : Standing) → Backs p holds handles base (rest ++ s ∷ [])
    → Lasts (view_of_pass p) (view_of_pass q) → made_by_pass q ≡ made_by_pass p → q.holds ≡ without (hold_of s) p.holds
    → q.handles ≡ without (handle_of s) p.handles
    → Backs q holds handles base rest
backs_popped p q {holds = holds} {handles = handles} base rest s b l same hs ks = record {
  others_known = All-weaker (λ x. IsBacked p (lent x)) (λ x. IsBacked q (lent x)) (λ x h. backed_later p q l same (lent x) h) base b.others_known;
  own_known = λ k d lt.
      let long = length-append rest (s ∷ []) in
      subst (λ (x : Standing). IsBacked q x) (get_or_append_left rest (s ∷ []) d k lt)
      (backed_later p q l same (get_or (rest ++ s ∷ []) k d) (b.own_known k d (omega (arith, long, lt))));
  has_holds = subst (λ (xs : List ArenaId). HasTokens xs (among hold_of rest) holds) (sym hs) (tokens_popped hold_of rest s b.has_holds);
  has_handles = subst (λ (xs : List ArenaId). HasTokens xs (among handle_of rest) handles) (sym ks) (tokens_popped handle_of rest s b.has_handles);
}

-- The last name's hold or handle may be given back.
pub can_spend : (p : View) {holds handles : List ArenaId} (base rest : List Standing) (s : Standing) → Backs p holds handles base (rest ++ s ∷ [])
    → CanSpend p s
can_spend p base rest s b = by_case s refl
  where
    last : (x : Standing) → s ≡ x → get_or (rest ++ s ∷ []) (length rest) Nothing ≡ x
    last x e = get_or_push rest s Nothing (length rest) refl ∙ e

    within : length rest < length (rest ++ s ∷ [])
    within = let long = length-append rest (s ∷ []) in omega (arith, long)

    by_case : (x : Standing) → s ≡ x → CanSpend p x
    by_case Nothing e = tt
    by_case (Arena id) e = tt
    by_case (standing.Automatic id None) e = tt
    by_case (standing.Automatic id (Some h)) e = has_handle p b (length rest) h within (ap handle_in (last (standing.Automatic id (Some h)) e))
    by_case (Segment r) e = tt
    by_case (Hold None) e = tt
    by_case (Hold (Some h)) e = can_unhold p b (length rest) h within (ap hold_in (last (Hold (Some h)) e))
    by_case (Handle None) e = tt
    by_case (Handle (Some h)) e = has_handle p b (length rest) h within (ap handle_in (last (Handle (Some h)) e))

none_left : (mine : List ArenaId) → ((a : ArenaId) → how_many a mine ≡ 0) → mine ≡ []
none_left [] e = refl
none_left (b ∷ bs) e =
    absurd (let here = e b in let q : one_if (same_id b b) ≡ 1 = ap one_if (same_id-self b) in omega (arith, here, q))

tokens_gone : {all others : List ArenaId} → HasTokens all [] others → all ≡ others
tokens_gone {others = others} t = t.are ∙ ap (λ (xs : List ArenaId). xs ++ others) (none_left t.mine t.as_many)

-- Where no name is left, the pass has what it had before.
pub backs_gone : (p : View) (holds handles : List ArenaId) (base own : List Standing) → Backs p holds handles base own → own ≡ []
    → (p.holds ≡ holds) × (p.handles ≡ handles)
backs_gone p holds handles base own b none =
    let c = subst (λ (xs : List Standing). Backs p holds handles base xs) none b in
    (tokens_gone c.has_holds, tokens_gone c.has_handles)

-- What is left of a name more.
pub others_popped : (others : List Bound) (x : Bound) (rest : List Standing) (s : Standing) → standing_as x ≡ lent s
    → map standing_as (others ++ x ∷ []) ++ reverse (map lent rest) ≡ map standing_as others ++ reverse (map lent (rest ++ s ∷ []))
others_popped others x rest s is =
    let ends : reverse (map lent (rest ++ s ∷ [])) ≡ lent s ∷ reverse (map lent rest) =
    ap (λ (xs : List Standing). reverse xs) (map-append lent rest (s ∷ [])) ∙ reverse-append (map lent rest) (lent s ∷ []) in
    ap (λ (xs : List Standing). xs ++ reverse (map lent rest)) (map-append standing_as others (x ∷ []))
    ∙ (append_assoc (map standing_as others) (standing_as x ∷ []) (reverse (map lent rest))
    ∙ ap (λ (xs : List Standing). map standing_as others ++ xs) (ap (λ (y : Standing). y ∷ reverse (map lent rest)) is ∙ sym ends))

-- What holds of all holds of all but the last, and of the last.
pub all_popped : (P : Standing → Type 0) (rest : List Standing) (s : Standing) → All P (rest ++ s ∷ []) → All P rest × P s
all_popped P rest s all =
    let long = length-append rest (s ∷ []) in (
      (λ k d l. subst P (get_or_append_left rest (s ∷ []) d k l) (all k d (omega (arith, long, l)))),
      subst P (get_or_push rest s Nothing (length rest) refl) (all (length rest) Nothing (omega (arith, long))),
    )

map_reverse : {X Y : Type 0} (f : X → Y) (xs : List X) → map f (reverse xs) ≡ reverse (map f xs)
map_reverse f [] = refl
map_reverse {X} {Y} f (x ∷ xs) =
    ap (λ (ys : List X). map f ys) (reverse-append (x ∷ []) xs)
    ∙ (map-append f (reverse xs) (x ∷ [])
    ∙ (ap (λ (ys : List Y). ys ++ f x ∷ []) (map_reverse f xs) ∙ sym (reverse-append (f x ∷ []) (map f xs))))

-- All are there, the last first.
pub turned : (others : List Bound) (own all : List Standing) → own ≡ []
    → map standing_as others ++ reverse (map lent own) ≡ reverse (map lent all) → map standing_as (reverse others) ≡ map lent all
turned others own all none is =
    let gone : map standing_as others ≡ reverse (map lent all) = sym (append-nil (map standing_as others))
    ∙ (ap (λ (xs : List Standing). map standing_as others ++ reverse (map lent xs)) (sym none) ∙ is) in
    map_reverse standing_as others ∙ (ap (λ (xs : List Standing). reverse xs) gone ∙ reverse-reverse (map lent all))
