-- A pass and the one that is split off from it, and a pass that another is gathered into.
use Rattle.std.proofs.Common.{◌≡◌, ℕ, suc, ◌+◌, ◌<◌, Bool, true, false, if◌then◌else◌, List, [], ◌∷◌, ◌++◌, length, sym, refl, ap, ◌∙◌, subst, arith, inl, inr, Option, None, ⊎_elim, All, append_assoc, ◌^◌, ◌≤◌}
use Rattle.std.proofs.lemmas.List.{append-nil, length-append, Elements.{filter-append}}
use Rattle.fm_base.specs.{declared.{caller.Caller.{Caller}, arena_id.ArenaId.{ArenaId}}, Arenas.{IsUnderWay}, Calls.{Entry}, Histories.{made_by}}
use Rattle.fm_base.specs.Finds.{Gathered}
use Rattle.fm_base_machine.specs.Handles.{AreLeft}
use Rattle.fm_rule_facts.specs.{declared.step.Step.TheVariants.{Looks}, Views.{Met, View, In, IsSound, is_automatic, brought, state_in}}
use Rattle.fm_rule_facts.specs.Splits.{drawn_left, drawn_right, as_gathered, gather, IsAtRest, caller_or}
use Rattle.fm_rule_facts.specs.{Hands.{no_number, number_drawn, number_of_joined, last_term}, Steps.{part, entries, noted}, Facts.{Begins}}
use Rattle.fm_rule_facts.{specs.Moves.{Gives, Tells}, proofs.Keeping.{none_added, in_left, in_right}}
use Rattle.fm_rule.{specs.{declared.pass.Part.{Part}, Views.{homed, no_part, Keeps}}, proofs.{Allowed.{sound_with, sound_homed, all_of_in}, Keeping.{stands_on, stands_none}}}
use Rattle.fm_rule.specs.{Draws.{CanGather, Gathers, GivesBack}, declared.pool.Pool.{Pool}}

-- ---- the drawer and the new pass

-- (a pass that drew isn't known to be whole)
pub left_sound : (v : View) → v.whole ≡ false → IsSound v → IsSound (drawn_left v)
left_sound v not_whole s =
    sound_with v.home no_number v s (λ c e. absurd (cc)) (λ w. absurd (let q : false ≡ true = sym not_whole ∙ w in cc))

-- a view without holds and handles has none of any sort
none_gripped : (a : ArenaId) (b : Bool) → ¬ (In a (if b then [] else []))
none_gripped a true i = i
none_gripped a false i = i

pub right_sound : (v : View) (c : Caller) → v.number ≡ number_drawn c → IsSound v → IsSound (drawn_right v)
right_sound v c e s =
    let y = s.drawn c e in
    let is : caller_or v.number ≡ c = ap caller_or e in
    record {
      valid = s.valid;
      limit = s.limit;
      legal = s.legal;
      lent = s.lent;
      within = s.within;
      number = subst (λ (k : Caller). k.number < v.shape.passes) (sym is) y.number;
      inside = λ a q. absurd (cc);
      outside = λ a w. absurd (y.outside a (subst (λ (k : Caller). IsUnderWay (state_in v) k a) is w));
      fits = s.fits;
      older = s.older;
      closing = λ c i. absurd i;
      closes_once = tt;
      swept = λ c i. absurd i;
      loans = s.loans;
      unlent = λ c i. absurd i;
      covered = s.covered;
      reads = λ a m q. absurd (cc);
      own_pages = λ p i. absurd i;
      swept_page = λ a i p w q. absurd (cc);
      few_left = λ f. ⊎_elim (λ i. absurd i) (λ (g : (g : Gathered) × In g [] × In f g.finds). absurd g.1);
      held = λ a i. absurd (none_gripped a (is_automatic a.kind) i);
      own_handles = λ a k. subst (λ (es : List Entry). AreLeft a es 0) (sym (ap (λ (k : Caller). made_by k v.seen) is ∙ y.silent)) refl;
      none_left = λ w. absurd (cc);
      hand = λ x i. absurd i;
      drawn = λ k q. absurd (cc);
      few = omega arith;
      knows = λ w. absurd (cc);
      all_drawn = λ w. absurd (cc);
      numbers_gone = λ w. absurd (cc);
      one_each = tt;
      others = λ g i. absurd i;
      term = subst (λ (k : Caller). k.term ≤ last_term) (sym is) y.term;
      earlier = λ w. absurd (cc);
    }

abbrev Held : Type 0
Held = List (ℕ × Unit {0})

pub left_keeps : (c : Caller) (i : Option ArenaId) (part' : Part × Part) (count : ℕ) (v : View) (held : Held) → v.whole ≡ false → Keeps c i part' count (v, held)
    → Keeps c i part' count (drawn_left v, held)
left_keeps c i part' count v held w k = record {
  live = k.live;
  caller = k.caller;
  inside = k.inside;
  last = stands_on v (drawn_left v) part'.0 refl (λ x j. j) k.last;
  other = stands_on v (drawn_left v) part'.1 refl (λ x j. j) k.other;
  met = k.met;
  counted = k.counted;
  sound = left_sound v w k.sound;
  empty = k.empty;
}

pub right_keeps : (c : Caller) (v : View) → v.number ≡ number_drawn c → IsSound v
    → Keeps c None (no_part, no_part) 0 (drawn_right v, [])
right_keeps c v e s = record {
  live = refl;
  caller = ap caller_or (sym e);
  inside = refl;
  last = stands_none (drawn_right v);
  other = stands_none (drawn_right v);
  met = refl;
  counted = refl;
  sound = right_sound v c e s;
  empty = refl;
}

in_all : {A : Type 0} (P : A → Type 0) (xs : List A) → All P xs → (x : A) → In x xs → P x
in_all P [] a x i = absurd i
in_all P (y ∷ xs) a x (inl e) = subst P (sym e) (a 0 y (omega arith))
in_all P (y ∷ xs) a x (inr i) = in_all P xs (λ j d l. a (suc j) d (omega arith)) x i

-- ---- gathering

-- the other can be gathered
pub at_rest : {pool : Pool} (now v : View) (home : List ℕ) → homed home v ≡ now → v.live ≡ true → v.met ≡ [] → CanGather pool now → IsAtRest v
at_rest now v home is l m can = record {
  live = l;
  inside = ap (λ (x : View). x.inside) is ∙ can.outside;
  mark = ap (λ (x : View). x.mark) is ∙ can.unmarked;
  number = ap (λ (x : View). x.number) is ∙ can.no_number;
  hand = ap (λ (x : View). x.hand) is ∙ can.no_slot;
  closes = ap (λ (x : View). x.closes) is ∙ can.no_close;
  sweeps = ap (λ (x : View). x.sweeps) is ∙ can.no_sweep;
  holds = ap (λ (x : View). x.holds) is ∙ can.no_hold;
  pages = ap (λ (x : View). x.pages) is ∙ can.no_page;
  handles = ap (λ (x : View). x.handles) is ∙ can.no_handle;
  met = m;
}

-- the look after another was gathered
module _ (v o u w : View) (x : ℕ) (is : u ≡ gather v o) (met : v.met ≡ []) (t : Tells Looks u x w) where
  told_of : Gives (gather v o) (gather v o) [] (λ n. []) w
  unfolding part entries noted
  told_of = (subst (λ (y : View). Tells Looks y x w) is t).gives

  abbrev its : Met
  its = record { seen = o.seen; gathered = as_gathered o ∷ o.gathered }

  gathered_is : w.gathered ≡ v.gathered ++ (as_gathered o ∷ o.gathered)
  gathered_is =
      ap (λ (y : View). y.gathered) told_of.is
      ∙ ((λ i. v.gathered ++ ((as_gathered o ∷ o.gathered) ++ brought (met i)))
      ∙ ap (λ (gs : List Gathered). v.gathered ++ gs) (append-nil (as_gathered o ∷ o.gathered)))

  seen_is : w.seen ≡ v.seen ++ told_of.others
  seen_is = ap (λ (y : View). y.seen) told_of.is ∙ append-nil (v.seen ++ told_of.others)

  begins : Begins o.seen w.seen
  begins = told_of.met its (inl refl)

  -- no caller of the other's made an entry since
  since : (g : Gathered) → In g (as_gathered o ∷ o.gathered) → made_by g.caller begins.0 ≡ []
  since g i = none_added (made_by g.caller o.seen) (made_by g.caller begins.0)
      (sym (filter-append _ o.seen begins.0) ∙ (ap (made_by g.caller) (sym begins.1) ∙ told_of.came its (inl refl) g i))

  pub gathers : (old other : View) (home home' last : List ℕ) → homed home v ≡ old → homed home' o ≡ other → last ≡ home
      → Gathers old other (number_of_joined other.caller) (homed last w)
  gathers old other home home' last is-old is-other stays =
      subst (λ (y : View × View × List ℕ). Gathers y.0 y.1 (number_of_joined y.1.caller) (homed y.2 w)) (λ i. (is-old i, is-other i, sym stays i)) (record {
        more = told_of.others;
        seen = seen_is;
        quiet = told_of.quiet;
        apart = all_of_in (λ (g : Gathered). made_by g.caller told_of.others ≡ []) v.gathered
            (λ g i. ap (made_by g.caller) (sym (append-nil told_of.others)) ∙ told_of.apart g i);
        alone = told_of.alone;
        rest = begins.0;
        its_seen = begins.1;
        its_quiet = since (as_gathered o) (inl refl);
        its_apart = λ g i. since g (inr i);
        is = ap (homed home) told_of.is ∙ (λ i. record (homed home v) {
          seen = sym seen_is' i;
          finds = append-nil v.finds i;
          gathered = (sym gathered_is' ∙ gathered_is) i;
          number = number_of_joined o.caller;
          met = sym met i;
        });
        sound = sound_homed home w told_of.sound;
      })
    where
      seen_is' : w.seen ≡ (v.seen ++ told_of.others) ++ []
      seen_is' = ap (λ (y : View). y.seen) told_of.is

      gathered_is' : w.gathered ≡ v.gathered ++ ((as_gathered o ∷ o.gathered) ++ brought v.met)
      gathered_is' = ap (λ (y : View). y.gathered) told_of.is

  -- so many callers can be counted
  pub few_after : (count more : ℕ) → count ≡ length v.gathered → more ≡ length o.gathered → count + 1 + more < 2 ^ 64
  few_after count more a b =
      let g = told_of.sound.few in
      let long : length w.gathered ≡ length v.gathered + suc (length o.gathered) =
      ap (λ (gs : List Gathered). length gs) gathered_is ∙ length-append v.gathered (as_gathered o ∷ o.gathered) in
      omega arith

  pub gather_keeps : (c : Caller) (i : Option ArenaId) (part' : Part × Part) (count more : ℕ) (held held' : Held) → Keeps c i part' count (v, held)
      → more ≡ length o.gathered → held' ≡ held → Keeps c i part' (count + 1 + more) (w, held')
  gather_keeps c i part' count more held held' k m e =
      let g = told_of in
      let inside : w.inside ≡ v.inside = ap (λ (y : View). y.inside) g.is in
      let shape : w.shape ≡ v.shape = ap (λ (y : View). y.shape) g.is in
      let count_is : count ≡ length v.gathered = k.counted in
      let long : length w.gathered ≡ length v.gathered + suc (length o.gathered) =
      ap (λ (gs : List Gathered). length gs) gathered_is ∙ length-append v.gathered (as_gathered o ∷ o.gathered) in
      record {
        live = ap (λ (y : View). y.live) g.is ∙ k.live;
        caller = k.caller ∙ sym (ap (λ (y : View). y.caller) g.is);
        inside = k.inside ∙ sym inside;
        last = stands_on v w part'.0 shape (λ x j. subst (In x) (sym (ap (λ (y : View). y.reads) g.is)) j) k.last;
        other = stands_on v w part'.1 shape (λ x j. subst (In x) (sym (ap (λ (y : View). y.reads) g.is)) j) k.other;
        met = ap (λ (y : View). y.met) g.is;
        counted = (let a = count_is in let b = long in omega arith);
        sound = g.sound;
        empty = e ∙ k.empty;
      }

-- the number of the other was given back
pub gathered_back : (old other mid new : View) → Gathers old other (number_of_joined other.caller) mid → GivesBack mid new → Gathers old other no_number new
gathered_back old other mid new g b =
    let same : mid.caller ≡ old.caller = ap (λ (v : View). v.caller) g.is in
    let all : mid.gathered ≡ old.gathered ++ (as_gathered other ∷ other.gathered) = ap (λ (v : View). v.gathered) g.is in
    let since : (x : Gathered) → In x (old.gathered ++ (as_gathered other ∷ other.gathered)) → made_by x.caller b.more ≡ [] =
    (λ x i. in_all (λ (y : Gathered). made_by y.caller b.more ≡ []) mid.gathered b.apart x (subst (In x) (sym all) i)) in
    record {
      more = g.more ++ b.more;
      seen = b.seen ∙ (ap (λ (xs : List Entry). xs ++ b.more) g.seen ∙ append_assoc old.seen g.more b.more);
      quiet = filter-append _ g.more b.more ∙ (λ j. g.quiet j ++ (ap (λ (c : Caller). made_by c b.more) (sym same) ∙ b.quiet) j);
      apart = all_of_in (λ (x : Gathered). made_by x.caller (g.more ++ b.more) ≡ []) old.gathered (λ x i.
          filter-append _ g.more b.more ∙ (λ j. in_all (λ (y : Gathered). made_by y.caller g.more ≡ []) old.gathered g.apart x i j
          ++ since x (in_left x old.gathered (as_gathered other ∷ other.gathered) i) j));
      alone = λ w. (λ j. g.alone w j ++ b.alone (ap (λ (v : View). v.whole) g.is ∙ w) j);
      rest = g.rest ++ b.more;
      its_seen = b.seen ∙ (ap (λ (xs : List Entry). xs ++ b.more) g.its_seen ∙ append_assoc other.seen g.rest b.more);
      its_quiet = filter-append _ g.rest b.more
          ∙ (λ j. g.its_quiet j ++ since (as_gathered other) (in_right (as_gathered other) old.gathered (as_gathered other ∷ other.gathered) (inl refl)) j);
      its_apart = λ x i. filter-append _ g.rest b.more
          ∙ (λ j. g.its_apart x i j ++ since x (in_right x old.gathered (as_gathered other ∷ other.gathered) (inr i)) j);
      is = b.is ∙ (λ j. record (g.is j) { seen = new.seen; number = no_number });
      sound = b.sound;
    }
