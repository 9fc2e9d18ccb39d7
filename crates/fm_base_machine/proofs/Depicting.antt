-- The functions after each call.
use Rattle.std.proofs.Common.{◌≡◌, ℕ, ◌+◌, ◌-◌, ◌%◌, ◌^◌, ◌<◌, ◌==◌, Bool, true, false, if◌then◌else◌, not, List, [], ◌∷◌, ◌++◌, length, slice_index, slice_set, refl, ap, sym, ◌∙◌, subst, Some, None, inl, inr, arith}
use Rattle.std.{specs.Prelude.{Contains}, proofs.{lemmas.List.{get_or-set_same, get_or-set_other, length-replicate}, Math.ListN.{length-set}}}
use native.Mathlib.Decide.{ℕ_discrete}
use mathlib.Core.Logic.{dite}
use Rattle.fm_base.specs.declared.{caller.Caller.{Caller}, arena_id.ArenaId.{ArenaId}}
use Rattle.fm_base.specs.Arenas.{Life, Alive, Closing, Ended, State, Arena, arena_of, has_arena, changed, same_id, word_in, IsUnderWay, are_one}
use Rattle.fm_base.specs.Calls.{Call, Open, Enter, Read, Write, SwapIf, Add, Allocate, Leave, Hold, Unhold, Shut, End, Lend, Back, Reply, Fine, Found, Given, Entry}
use Rattle.fm_base.specs.Machine.{MayCall, state_by, after, words_within, opened, entered, left, written, swapped, given_up_to, held, released, closing, ended}
use Rattle.fm_base.{specs.Histories.{IsLegal, state_after}, proofs.Names.{same_id-self, are_one-not}}
use Rattle.fm_base.proofs.Lookup.{KeepsName, lookup_changed, changed_has, has_arena-opened, arena_of-opened, arena_of-none, swapped_hit, swapped_miss}
use Rattle.fm_base.proofs.{Growing.{there_by_life}, Placing.{there_by_way}}
use Rattle.fm_base_machine.specs.Functions.{Stage, Lives, Closes, Over, stage_of, put, put_at, put_by, Machine, moved, Depicts}
use Rattle.fm_base_machine.specs.Steps.{opening, moved_by, AlwaysDepicts}
use Rattle.fm_base.proofs.Names.{are_one-equal}
use Rattle.fm_base_machine.proofs.Putting.{some_is, at_changed, stays_changed, zeros, put_here, put_else, at_here, at_else, by_here, by_else, one_caller, by_name, changed_else, opened_else, has_else, contains_cases, contains_first, contains_more, kept_contains, contains_kept}

-- ---- an arena is changed

module _ (limit : ℕ) (s : State) (t : Machine) (id : ArenaId) (f : Arena → Arena) (named : KeepsName f) (h : has_arena s id ≡ true)
    (d : Depicts limit s t) where
  keep_life : (f (arena_of s id)).life ≡ (arena_of s id).life → (b : ArenaId)
      → t.life b ≡ stage_of (has_arena (changed s id f) b) (arena_of (changed s id f) b).life
  keep_life e b =
      d.life b ∙ (ap (λ x. stage_of x (arena_of s b).life) (sym (changed_has f named s id b))
      ∙ ap (λ l. stage_of (has_arena (changed s id f) b) l) (stays_changed s id f named h (λ a. a.life) e b))

  keep_word : (f (arena_of s id)).words ≡ (arena_of s id).words → (b : ArenaId) (w : ℕ) → t.word b w ≡ word_in (changed s id f) b w
  keep_word e b w = d.word b w ∙ ap (λ (ws : List ℕ). slice_index ws w) (stays_changed s id f named h (λ a. a.words) e b)

  keep_given : (f (arena_of s id)).given ≡ (arena_of s id).given → (b : ArenaId) → t.given b ≡ (arena_of (changed s id f) b).given
  keep_given e b = d.given b ∙ stays_changed s id f named h (λ a. a.given) e b

  keep_holds : (f (arena_of s id)).holds ≡ (arena_of s id).holds → (b : ArenaId) → t.holds b ≡ (arena_of (changed s id f) b).holds
  keep_holds e b = d.holds b ∙ stays_changed s id f named h (λ a. a.holds) e b

  same_way : (f (arena_of s id)).under_way ≡ (arena_of s id).under_way → (b : ArenaId) → (arena_of s b).under_way ≡ (arena_of (changed s id f) b).under_way
  same_way e b = stays_changed s id f named h (λ a. a.under_way) e b

  keep_under : (f (arena_of s id)).under_way ≡ (arena_of s id).under_way → (k : Caller) (a : ArenaId) → IsUnderWay (changed s id f) k a → t.inside k ≡ Some a
  keep_under e k a u = d.under k a (subst (λ (xs : List Caller). Contains xs k) (sym (same_way e a)) u)

  keep_listed : (f (arena_of s id)).under_way ≡ (arena_of s id).under_way → (k : Caller) (a : ArenaId) → t.inside k ≡ Some a → IsUnderWay (changed s id f) k a
  keep_listed e k a i = subst (λ (xs : List Caller). Contains xs k) (same_way e a) (d.listed k a i)

  keep_long : length (f (arena_of s id)).words ≡ length (arena_of s id).words → (b : ArenaId) → has_arena (changed s id f) b ≡ true
      → length (arena_of (changed s id f) b).words ≡ words_within limit
  keep_long e b k = sym (stays_changed s id f named h (λ a. length a.words) e b) ∙ d.long b (sym (changed_has f named s id b) ∙ k)

module _ (limit : ℕ) (s : State) (t : Machine) (d : Depicts limit s t) (c : Caller) (id : ArenaId) where
  -- ---- words

  set_word : (word v : ℕ) (ws : List ℕ) → word < length ws → (g : ℕ → ℕ) → ((w : ℕ) → g w ≡ slice_index ws w) → (w : ℕ)
      → put g word v w ≡ slice_index (slice_set ws word v) w
  set_word word v ws l g e w = dite (ℕ_discrete w word)
      (λ q. subst (λ (x : ℕ). put g word v x ≡ slice_index (slice_set ws word v) x) (sym q) (put_here g word v ∙ sym (get_or-set_same ws word v 0 l)))
      (λ n. put_else g word v w n ∙ (e w ∙ sym (get_or-set_other ws word w v 0 n)))

  pub depicts_written : (word v : ℕ) → IsUnderWay s c id → word < length (arena_of s id).words
      → Depicts limit (changed s id (written word v)) (record t { word = put_at t.word id (put (t.word id) word v) })
  depicts_written word v way l =
      let f = written word v in
      let h = there_by_way s c id way in
      record {
        life = keep_life limit s t id f (λ a. refl) h d refl;
        word = λ b w. by_name id b (λ (x : ArenaId). put_at t.word id (put (t.word id) word v) x w ≡ word_in (changed s id f) x w)
            (ap (λ (g : ℕ → ℕ). g w) (at_here t.word id (put (t.word id) word v))
            ∙ (set_word word v (arena_of s id).words l (t.word id) (d.word id) w
            ∙ ap (λ (a : Arena). slice_index a.words w) (sym (lookup_changed s id f (λ a. refl) h))))
            (λ n. ap (λ (g : ℕ → ℕ). g w) (at_else t.word id (put (t.word id) word v) b n)
            ∙ (d.word b w ∙ ap (λ (a : Arena). slice_index a.words w) (sym (changed_else s id f (λ a. refl) b n))));
        given = keep_given limit s t id f (λ a. refl) h d refl;
        holds = keep_holds limit s t id f (λ a. refl) h d refl;
        under = keep_under limit s t id f (λ a. refl) h d refl;
        listed = keep_listed limit s t id f (λ a. refl) h d refl;
        long = keep_long limit s t id f (λ a. refl) h d (length-set (arena_of s id).words word v);
      }

  -- ---- counts

  pub depicts_given : (count : ℕ) → has_arena s id ≡ true → Depicts limit (changed s id (given_up_to count)) (record t { given = put_at t.given id count })
  depicts_given count h =
      let f = given_up_to count in
      record {
        life = keep_life limit s t id f (λ a. refl) h d refl;
        word = keep_word limit s t id f (λ a. refl) h d refl;
        given = at_changed s id f (λ a. refl) h (λ a. a.given) t.given count d.given refl;
        holds = keep_holds limit s t id f (λ a. refl) h d refl;
        under = keep_under limit s t id f (λ a. refl) h d refl;
        listed = keep_listed limit s t id f (λ a. refl) h d refl;
        long = keep_long limit s t id f (λ a. refl) h d refl;
      }

  depicts_holds : (f : Arena → Arena) → KeepsName f → (n : ℕ) → has_arena s id ≡ true → n ≡ (f (arena_of s id)).holds
      → ((a : Arena) → f a ≡ record a { holds = (f a).holds }) → Depicts limit (changed s id f) (record t { holds = put_at t.holds id n })
  depicts_holds f named n h e only =
      let o = only (arena_of s id) in
      record {
        life = keep_life limit s t id f named h d (ap (λ (a : Arena). a.life) o);
        word = keep_word limit s t id f named h d (ap (λ (a : Arena). a.words) o);
        given = keep_given limit s t id f named h d (ap (λ (a : Arena). a.given) o);
        holds = at_changed s id f named h (λ a. a.holds) t.holds n d.holds e;
        under = keep_under limit s t id f named h d (ap (λ (a : Arena). a.under_way) o);
        listed = keep_listed limit s t id f named h d (ap (λ (a : Arena). a.under_way) o);
        long = keep_long limit s t id f named h d (ap (λ (a : Arena). length a.words) o);
      }

  pub depicts_held : has_arena s id ≡ true → Depicts limit (changed s id held) (record t { holds = put_at t.holds id (t.holds id + 1) })
  depicts_held h = depicts_holds held (λ a. refl) (t.holds id + 1) h (ap (λ n. n + 1) (d.holds id)) (λ a. refl)

  pub depicts_released : has_arena s id ≡ true → Depicts limit (changed s id released) (record t { holds = put_at t.holds id (t.holds id - 1) })
  depicts_released h = depicts_holds released (λ a. refl) (t.holds id - 1) h (ap (λ n. n - 1) (d.holds id)) (λ a. refl)

  -- ---- life

  depicts_life : (f : Arena → Arena) → KeepsName f → (l : Life) (x : Stage) → has_arena s id ≡ true → stage_of true l ≡ x
      → ((a : Arena) → f a ≡ record a { life = l }) → Depicts limit (changed s id f) (record t { life = put_at t.life id x })
  depicts_life f named l x h e only =
      let o = only (arena_of s id) in
      record {
        life = λ b. by_name id b (λ (c : ArenaId). put_at t.life id x c ≡ stage_of (has_arena (changed s id f) c) (arena_of (changed s id f) c).life)
            (at_here t.life id x ∙ (sym e
            ∙ (ap (λ b. stage_of b l) (sym (changed_has f named s id id ∙ h))
            ∙ ap (λ (a : Arena). stage_of (has_arena (changed s id f) id) a.life) (sym (lookup_changed s id f named h ∙ o)))))
            (λ n. at_else t.life id x b n
            ∙ (d.life b ∙ (ap (λ y. stage_of y (arena_of s b).life) (sym (changed_has f named s id b))
            ∙ ap (λ (a : Arena). stage_of (has_arena (changed s id f) b) a.life) (sym (changed_else s id f named b n)))));
        word = keep_word limit s t id f named h d (ap (λ (a : Arena). a.words) o);
        given = keep_given limit s t id f named h d (ap (λ (a : Arena). a.given) o);
        holds = keep_holds limit s t id f named h d (ap (λ (a : Arena). a.holds) o);
        under = keep_under limit s t id f named h d (ap (λ (a : Arena). a.under_way) o);
        listed = keep_listed limit s t id f named h d (ap (λ (a : Arena). a.under_way) o);
        long = keep_long limit s t id f named h d (ap (λ (a : Arena). length a.words) o);
      }

  pub depicts_closing : has_arena s id ≡ true → Depicts limit (changed s id closing) (record t { life = put_at t.life id Closes })
  depicts_closing h = depicts_life closing (λ a. refl) Closing Closes h refl (λ a. refl)

  pub depicts_ended : has_arena s id ≡ true → Depicts limit (changed s id ended) (record t { life = put_at t.life id Over })
  depicts_ended h = depicts_life ended (λ a. refl) Ended Over h refl (λ a. refl)

  -- ---- who is under way

  pub depicts_entered : has_arena s id ≡ true → ((a : ArenaId) → ¬ (IsUnderWay s c a))
      → Depicts limit (changed s id (entered c)) (record t { inside = put_by t.inside c (Some id) })
  depicts_entered h nowhere =
      let f = entered c in
      let here = lookup_changed s id f (λ a. refl) h in
      record {
        life = keep_life limit s t id f (λ a. refl) h d refl;
        word = keep_word limit s t id f (λ a. refl) h d refl;
        given = keep_given limit s t id f (λ a. refl) h d refl;
        holds = keep_holds limit s t id f (λ a. refl) h d refl;
        under = λ k a. by_name id a (λ (x : ArenaId). IsUnderWay (changed s id f) k x → put_by t.inside c (Some id) k ≡ Some x)
            (λ u. elim (contains_cases (arena_of s id).under_way c k (subst (λ (x : Arena). Contains x.under_way k) here u)) [
              | inl i ↦ subst (λ (x : Caller). put_by t.inside c (Some id) x ≡ Some id) i (by_here t.inside c (Some id))
              | inr r ↦ by_else t.inside c (Some id) k (λ q. nowhere id (subst (λ (x : Caller). IsUnderWay s x id) q r)) ∙ d.under k id r
            ])
            (λ n u. let r : IsUnderWay s k a = subst (λ (x : Arena). Contains x.under_way k) (changed_else s id f (λ a. refl) a n) u in
            by_else t.inside c (Some id) k (λ q. nowhere a (subst (λ (x : Caller). IsUnderWay s x a) q r)) ∙ d.under k a r);
        listed = λ k a e. dite (one_caller k c)
            (λ q. let i : id ≡ a = some_is id a (sym (by_here t.inside c (Some id)) ∙ (ap (put_by t.inside c (Some id)) (sym q) ∙ e)) in
            subst (λ (x : ArenaId). IsUnderWay (changed s id f) k x) i
            (subst (λ (x : Arena). Contains x.under_way k) (sym here)
            (subst (λ (x : Caller). Contains (c ∷ (arena_of s id).under_way) x) (sym q) (contains_first (arena_of s id).under_way c))))
            (λ n. let r = d.listed k a (sym (by_else t.inside c (Some id) k n) ∙ e) in
            by_name id a (λ (x : ArenaId). IsUnderWay s k x → IsUnderWay (changed s id f) k x)
            (λ u. subst (λ (x : Arena). Contains x.under_way k) (sym here) (contains_more (arena_of s id).under_way c k u))
            (λ m u. subst (λ (x : Arena). Contains x.under_way k) (sym (changed_else s id f (λ a. refl) a m)) u) r);
        long = keep_long limit s t id f (λ a. refl) h d refl;
      }

  pub depicts_left : IsUnderWay s c id → Depicts limit (changed s id (left c)) (record t { inside = put_by t.inside c None })
  depicts_left way =
      let f = left c in
      let h = there_by_way s c id way in
      let here = lookup_changed s id f (λ a. refl) h in
      let p : Caller → Bool = λ x. not (are_one x c) in
      record {
        life = keep_life limit s t id f (λ a. refl) h d refl;
        word = keep_word limit s t id f (λ a. refl) h d refl;
        given = keep_given limit s t id f (λ a. refl) h d refl;
        holds = keep_holds limit s t id f (λ a. refl) h d refl;
        under = λ k a. by_name id a (λ (x : ArenaId). IsUnderWay (changed s id f) k x → put_by t.inside c None k ≡ Some x)
            (λ u. let r = kept_contains p (arena_of s id).under_way k (subst (λ (x : Arena). Contains x.under_way k) here u) in
            by_else t.inside c None k (λ q. let b : are_one k c ≡ true = are_one-equal k c q in let g = r.1 in absurd (cc)) ∙ d.under k id r.0)
            (λ n u. let r : IsUnderWay s k a = subst (λ (x : Arena). Contains x.under_way k) (changed_else s id f (λ a. refl) a n) u in
            by_else t.inside c None k (λ q. let one = d.under k a r in let two = d.under c id way in let i : id ≡ a = some_is id a (sym two
            ∙ (ap t.inside (sym q)
            ∙ one)) in let m : same_id id a ≡ true = subst (λ (x : ArenaId). same_id id x ≡ true) i (same_id-self id) in absurd (cc)) ∙ d.under k a r);
        listed = λ k a e. dite (one_caller k c)
            (λ q. let none : put_by t.inside c None k ≡ None = ap (put_by t.inside c None) q ∙ by_here t.inside c None in absurd (cc))
            (λ n. let r = d.listed k a (sym (by_else t.inside c None k n) ∙ e) in
            by_name id a (λ (x : ArenaId). IsUnderWay s k x → IsUnderWay (changed s id f) k x)
            (λ u. subst (λ (x : Arena). Contains x.under_way k) (sym here) (contains_kept p (arena_of s id).under_way k u (ap not (are_one-not k c n))))
            (λ m u. subst (λ (x : Arena). Contains x.under_way k) (sym (changed_else s id f (λ a. refl) a m)) u) r);
        long = keep_long limit s t id f (λ a. refl) h d refl;
      }

  -- ---- a new arena

  pub depicts_opened : has_arena s id ≡ false → Depicts limit (s ++ opened limit id ∷ []) (record t { life = put_at t.life id Lives })
  depicts_opened h =
      let o = opened limit id in
      let new = arena_of-opened s o h in
      let old = arena_of-none s id h in
      record {
        life = λ b. by_name id b (λ (x : ArenaId). put_at t.life id Lives x ≡ stage_of (has_arena (s ++ o ∷ []) x) (arena_of (s ++ o ∷ []) x).life)
            (at_here t.life id Lives
            ∙ (ap (λ b. stage_of b Alive) (sym (has_arena-opened s o)) ∙ ap (λ (a : Arena). stage_of (has_arena (s ++ o ∷ []) id) a.life) (sym new)))
            (λ n. at_else t.life id Lives b n
            ∙ (d.life b ∙ (ap (λ y. stage_of y (arena_of s b).life) (sym (has_else s o b n))
            ∙ ap (λ (a : Arena). stage_of (has_arena (s ++ o ∷ []) b) a.life) (sym (opened_else s o b n)))));
        word = λ b w. by_name id b (λ (x : ArenaId). t.word x w ≡ word_in (s ++ o ∷ []) x w)
            (d.word id w ∙ (ap (λ (a : Arena). slice_index a.words w) old
            ∙ (sym (zeros (words_within limit) w) ∙ ap (λ (a : Arena). slice_index a.words w) (sym new))))
            (λ n. d.word b w ∙ ap (λ (a : Arena). slice_index a.words w) (sym (opened_else s o b n)));
        given = λ b. by_name id b (λ (x : ArenaId). t.given x ≡ (arena_of (s ++ o ∷ []) x).given)
            (d.given id ∙ (ap (λ (a : Arena). a.given) old ∙ ap (λ (a : Arena). a.given) (sym new)))
            (λ n. d.given b ∙ ap (λ (a : Arena). a.given) (sym (opened_else s o b n)));
        holds = λ b. by_name id b (λ (x : ArenaId). t.holds x ≡ (arena_of (s ++ o ∷ []) x).holds)
            (d.holds id ∙ (ap (λ (a : Arena). a.holds) old ∙ ap (λ (a : Arena). a.holds) (sym new)))
            (λ n. d.holds b ∙ ap (λ (a : Arena). a.holds) (sym (opened_else s o b n)));
        under = λ k a. by_name id a (λ (x : ArenaId). IsUnderWay (s ++ o ∷ []) k x → t.inside k ≡ Some x)
            (λ u. absurd (let l = (subst (λ (x : Arena). Contains x.under_way k) new u).1 in omega arith))
            (λ n u. d.under k a (subst (λ (x : Arena). Contains x.under_way k) (opened_else s o a n) u));
        listed = λ k a e. by_name id a (λ (x : ArenaId). IsUnderWay s k x → IsUnderWay (s ++ o ∷ []) k x)
            (λ u. absurd (let m = there_by_way s k id u in cc))
            (λ n u. subst (λ (x : Arena). Contains x.under_way k) (sym (opened_else s o a n)) u) (d.listed k a e);
        long = λ b. by_name id b (λ (x : ArenaId). has_arena (s ++ o ∷ []) x ≡ true → length (arena_of (s ++ o ∷ []) x).words ≡ words_within limit)
            (λ k. ap (λ (a : Arena). length a.words) new ∙ length-replicate (words_within limit) 0)
            (λ n k. ap (λ (a : Arena). length a.words) (opened_else s o b n) ∙ d.long b (sym (has_else s o b n) ∙ k));
      }

-- ---- every call

there_if_alive : (s : State) (id : ArenaId) → (arena_of s id).life ≡ Alive → has_arena s id ≡ true
there_if_alive s id e = there_by_life s id (λ o. let c : Alive ≡ Ended = sym e ∙ o in absurd (cc))

pub depicts_by : (limit : ℕ) (s : State) (t : Machine) (c : Caller) (call : Call) (reply : Reply) → Depicts limit s t → MayCall s c call
    → Depicts limit (state_by limit s c call reply) (moved t c call reply)
depicts_by limit s t c (Open id) reply d may = depicts_opened limit s t d c id may.0
depicts_by limit s t c (Enter id) Fine d may = depicts_entered limit s t d c id may.0 may.2
depicts_by limit s t c (Enter id) reply d may = d
depicts_by limit s t c (Read id word) reply d may = d
depicts_by limit s t c (Write id word value) reply d may = depicts_written limit s t d c id word value may.under_way may.within
depicts_by limit s t c (SwapIf id word old new) (Found found) d may =
    let put_new : Machine = record t { word = put_at t.word id (put (t.word id) word new) } in
    let P : Bool → Type 0 = λ b. (found == old) ≡ b → Depicts limit (changed s id (swapped word old new found)) (if b then put_new else t) in
    let go : (b : Bool) → P b = λ b. elim b as P [
      | true ↦ (λ e. subst (λ (x : State). Depicts limit x put_new) (sym (swapped_hit s id word old new found e))
          (depicts_written limit s t d c id word new may.under_way may.within))
      | false ↦ (λ e. subst (λ (x : State). Depicts limit x t) (sym (swapped_miss s id word old new found e)) d)
    ] in
    go (found == old) refl
depicts_by limit s t c (SwapIf id word old new) reply d may = d
depicts_by limit s t c (Add id word n) (Found found) d may = depicts_written limit s t d c id word ((found + n) % 2 ^ 64) may.under_way may.within
depicts_by limit s t c (Add id word n) reply d may = d
depicts_by limit s t c (Allocate id size align) (Given place) d may = depicts_given limit s t d c id (place + size) (there_by_way s c id may.0)
depicts_by limit s t c (Allocate id size align) reply d may = d
depicts_by limit s t c (Leave id) reply d may = depicts_left limit s t d c id may
depicts_by limit s t c (Hold id) Fine d may = depicts_held limit s t d c id may.0
depicts_by limit s t c (Hold id) reply d may = d
depicts_by limit s t c (Unhold id) reply d may = depicts_released limit s t d c id (there_if_alive s id may.0)
depicts_by limit s t c (Shut id) Fine d may = depicts_closing limit s t d c id may.0
depicts_by limit s t c (Shut id) reply d may = d
depicts_by limit s t c (End id) reply d may = depicts_ended limit s t d c id (there_by_life s id (λ o. let e : Closing ≡ Ended = sym may.0 ∙ o in absurd (cc)))
depicts_by limit s t c (Lend block id part) reply d may = d
depicts_by limit s t c (Back block) reply d may = d

pub depicts_none : (limit : ℕ) → Depicts limit [] opening
depicts_none limit = record {
  life = λ a. refl;
  word = λ a w. refl;
  given = λ a. refl;
  holds = λ a. refl;
  under = λ k a u. absurd (let l = u.1 in omega arith);
  listed = λ k a e. absurd (cc);
  long = λ a h. absurd (cc);
}

depicts_from : (limit : ℕ) (s : State) (t : Machine) (es : List Entry) → Depicts limit s t → IsLegal limit s es
    → Depicts limit (state_after limit s es) (moved_by t es)
depicts_from limit s t [] d l = d
depicts_from limit s t (e ∷ es) d l =
    depicts_from limit (after limit s e) (moved t e.caller e.call e.reply) es (depicts_by limit s t e.caller e.call e.reply d l.0) l.2

pub always : AlwaysDepicts
always limit h l = depicts_from limit [] opening h (depicts_none limit) l
