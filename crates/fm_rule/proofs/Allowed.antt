-- What a step needs is what the table asks, and what a step tells is that it stepped.
use Rattle.std.proofs.Common.{◌≡◌, ℕ, ◌-◌, ◌/◌, ◌<◌, ◌==◌, if◌then◌else◌, Bool, true, false, List, [], ◌∷◌, ◌++◌, length, set, slice_index, All, Option, Some, None, inl, inr, sym, refl, ap, ◌∙◌, subst}
use Rattle.std.{specs.Prelude.{⊤}, proofs.lemmas.List.{append-nil, Elements.{All-nil, All-cons}}}
use Rattle.atomic_table.specs.Table.{State, Me, keeps, Allows}
use Rattle.fm_words.specs.declared.shape.Shape.{Shape}
use Rattle.fm_base.specs.{declared.{caller.Caller.{Caller}, arena_id.ArenaId.{ArenaId}}, Calls.{Entry}, Histories.{made_by}}
use Rattle.fm_base.specs.Finds.{Find, Gathered, Close, Sweep, is_number, group_of}
use Rattle.fm_rule_facts.specs.declared.step.Step.{Step}
use Rattle.fm_rule_facts.specs.declared.step.Step.TheVariants.{Draws, Marks, Checks, Loads, Stores, SwapsIf, Adds, Allocates, Holds, Unholds, Backs, Unmarks, Shuts, Visits, TakesSlot, LearnsGeneration, Opens, Claims, Maps, ReadsMap, SweepsGiven, SweepsMap, Unmaps, Wipes, GivesPage, ReturnsPage, ResetsGiven, Retires, GivesSlot, Looks, TakesNumber, LearnsTerm, RaisesTerm, GivesNumber}
use Rattle.fm_rule_facts.specs.Views.{Met, View, In, IsSound, IsNew, IsNumberGone, all_gathered, brought}
use Rattle.fm_rule_facts.specs.{Hands.{Hand, Number, no_number, number_drawn, number_after, drawn_by}, Steps.{Stepped, part, entries, noted, draws}}
use Rattle.fm_rule_facts.specs.{Facts.{Rule}, Parts.{Mapping, Swept, mapping_of, reads_after, reads_mapped}, Moves.{Same, Gives, Tells, MayStep, MayStore}}
use Rattle.fm_rule.specs.Views.{homed}

abbrev pub Keeping : Shape → State (Unit {0}) View → Type 0
Keeping z s = Rule z s.words s.views

-- a step that may be made is allowed
pub allow : (y z : Shape) (j k : Step) (slots id : ℕ) (m : Me (Unit {0}) View) (i : ℕ) (f : ℕ → ℕ) → y ≡ z → j ≡ k → MayStep y k id m.0 i f
    → Allows (Keeping z) slots id m i f (λ found n. Tells j m.0 found n.0 × (n.1 ≡ m.1))
allow y z j k slots id m i f e' e may s h deep at fits =
    let d = may.may s.words s.views (subst (λ (x : Shape). Rule x s.words s.views) (sym e') h) at in (
      d.0,
      keeps,
      tt,
      subst (λ (x : Shape). Rule x (set s.words i (f (slice_index s.words i))) (set s.views id d.0)) e' d.1,
      (subst (λ (q : Step). Tells q m.0 (slice_index s.words i) d.0) (sym e) d.2, refl),
    )

-- and a store
pub allow_store : (y z : Shape) (j k : Step) (slots id : ℕ) (m : Me (Unit {0}) View) (i x : ℕ) → y ≡ z → j ≡ k → MayStore y k id m.0 i x
    → Allows (Keeping z) slots id m i (λ _. x) (λ _ n. Tells j m.0 x n.0 × (n.1 ≡ m.1))
allow_store y z j k slots id m i x e' e may s h deep at fits =
    let d = may.may s.words s.views (subst (λ (c : Shape). Rule c s.words s.views) (sym e') h) at in
    (d.0, keeps, tt, subst (λ (c : Shape). Rule c (set s.words i x) (set s.views id d.0)) e' d.1, (subst (λ (q : Step). Tells q m.0 x d.0) (sym e) d.2, refl))

pub told_as : (j k : Step) (v w : View) (x : ℕ) → j ≡ k → Tells j v x w → Tells k v x w
told_as j k v w x e t = subst (λ (q : Step). Tells q v x w) e t

-- ---- a step was made

-- the steps after which the pass is inside what it was inside, and still has what it read of that
abbrev pub StaysInside : Step → Type 0
StaysInside (Checks a) = ⊥
StaysInside Unmarks = ⊥
StaysInside step = ⊤

-- what a step makes of a view: the view after, the entries, and what is noted
abbrev pub Outcome : Type 0
Outcome = View × List Entry × (ℕ → List Find)

abbrev pub outcome : Step → View → ℕ → Outcome
outcome s v x = (part s v x, entries s v x, noted s v x)

-- it is the same in every pool
abbrev pub IsSteady : Step → View → ℕ → Type 0
IsSteady s v x = (home : List ℕ) → (homed home (part s v x), entries s v x, noted s v x) ≡ outcome s (homed home v) x

-- what no step changes by itself, what it leaves under a condition, and what is true of it
pub record Leaves (C S : Type 0) (v p : View) : Type 0 where
  pub holds : S
  pub same : Same v (record p { whole = v.whole })
  pub inside : C → p.inside ≡ v.inside
  pub reads : C → (y : Mapping) → In y v.reads → In y p.reads

pub all_same : (v : View) → Same v v
all_same v = record { home = refl; shape = refl; live = refl; caller = refl; seen = refl; met = refl; finds = refl; gathered = refl; whole = refl }

module _ {C S : Type 0} {v : View} {m : Option ArenaId} {cs : List Close} {ss : List Sweep} {swept : Swept} {hand : Hand} {hs gs : List ArenaId}
    {ps : List ℕ} {number : Number} {whole : Bool} where
  -- a step may change these
  leaves_reads : {ms : List Mapping} → S → ((y : Mapping) → In y v.reads → In y ms) → Leaves C S v (record v {
    mark = m;
    closes = cs;
    sweeps = ss;
    swept = swept;
    hand = hand;
    holds = hs;
    handles = gs;
    pages = ps;
    reads = ms;
    number = number;
    whole = whole;
  })
  leaves_reads holds more = record {
    holds = holds;
    same = record { home = refl; shape = refl; live = refl; caller = refl; seen = refl; met = refl; finds = refl; gathered = refl; whole = refl };
    inside = λ _. refl;
    reads = λ _. more;
  }

-- or, where the condition fails, these
leaves_arena : {C S : Type 0} {v : View} {i m : Option ArenaId} {ms : List Mapping} → S → ¬ C → Leaves C S v (record v { inside = i; mark = m; reads = ms })
leaves_arena holds never = record {
  holds = holds;
  same = record { home = refl; shape = refl; live = refl; caller = refl; seen = refl; met = refl; finds = refl; gathered = refl; whole = refl };
  inside = λ c. absurd (never c);
  reads = λ c. absurd (never c);
}

leaves_draws : {C S : Type 0} (o : Option Caller) (k : Number) (e x : ℕ) (v : View) → S → Leaves C S v (draws o k e x v)
leaves_draws None k e x v holds = leaves_reads holds (λ y i. i)
leaves_draws (Some n) k e x v holds = leaves_reads holds (λ y i. i)

homed_draws : (o : Option Caller) (k : Number) (e x : ℕ) (home : List ℕ) (v : View) → homed home (draws o k e x v) ≡ draws o k e x (homed home v)
homed_draws None k e x home v = refl
homed_draws (Some n) k e x home v = refl

more_mapped : (b p x : ℕ) (ms : List Mapping) (y : Mapping) → In y ms → In y (reads_mapped b p x ms)
more_mapped b p x ms y i = go (x == 0)
  where
    go : (c : Bool) → In y (if c then mapping_of b p ∷ ms else mapping_of b (x - 1) ∷ ms)
    go true = inr i
    go false = inr i

more_read : (b x : ℕ) (ms : List Mapping) (y : Mapping) → In y ms → In y (reads_after b x ms)
more_read b x ms y i = go (x == 0)
  where
    go : (c : Bool) → In y (if c then ms else mapping_of b (x - 1) ∷ ms)
    go true = i
    go false = inr i

pub leaves : (s : Step) (v : View) (x : ℕ) → Leaves (StaysInside s) (IsSteady s v x) v (part s v x)
unfolding part entries noted
leaves (Checks a) v x = leaves_arena (λ h. refl) (λ c. c)
leaves Unmarks v x = leaves_arena (λ h. refl) (λ c. c)
leaves (Draws e) v x =
    leaves_draws (drawn_by v.number e x) (number_after v.number e x) e x v
    (λ h j. (homed_draws (drawn_by v.number e x) (number_after v.number e x) e x h v j, entries (Draws e) v x, noted (Draws e) v x))
leaves (Maps a i p) v x = leaves_reads (λ h. refl) (more_mapped i p x v.reads)
leaves (ReadsMap a i) v x = leaves_reads (λ h. refl) (more_read i x v.reads)
leaves (Marks a) v x = leaves_reads (λ h. refl) (λ y i. i)
leaves (Loads w) v x = leaves_reads (λ h. refl) (λ y i. i)
leaves (Stores w y) v x = leaves_reads (λ h. refl) (λ y i. i)
leaves (SwapsIf w o y) v x = leaves_reads (λ h. refl) (λ y i. i)
leaves (Adds w n) v x = leaves_reads (λ h. refl) (λ y i. i)
leaves (Allocates g n a) v x = leaves_reads (λ h. refl) (λ y i. i)
leaves (Holds a w) v x = leaves_reads (λ h. refl) (λ y i. i)
leaves (Unholds a) v x = leaves_reads (λ h. refl) (λ y i. i)
leaves (Backs a w) v x = leaves_reads (λ h. refl) (λ y i. i)
leaves (Shuts a) v x = leaves_reads (λ h. refl) (λ y i. i)
leaves (Visits a k) v x = leaves_reads (λ h. refl) (λ y i. i)
leaves (Opens a) v x = leaves_reads (λ h. refl) (λ y i. i)
leaves (TakesSlot e b) v x = leaves_reads (λ h. refl) (λ y i. i)
leaves (LearnsGeneration s) v x = leaves_reads (λ h. refl) (λ y i. i)
leaves (Claims g e b) v x = leaves_reads (λ h. refl) (λ y i. i)
leaves (SweepsGiven a) v x = leaves_reads (λ h. refl) (λ y i. i)
leaves (SweepsMap a i) v x = leaves_reads (λ h. refl) (λ y i. i)
leaves (Unmaps a i p) v x = leaves_reads (λ h. refl) (λ y i. i)
leaves (Wipes a i p w) v x = leaves_reads (λ h. refl) (λ y i. i)
leaves (GivesPage p) v x = leaves_reads (λ h. refl) (λ y i. i)
leaves (ReturnsPage a p) v x = leaves_reads (λ h. refl) (λ y i. i)
leaves (ResetsGiven a) v x = leaves_reads (λ h. refl) (λ y i. i)
leaves (Retires a) v x = leaves_reads (λ h. refl) (λ y i. i)
leaves (GivesSlot s) v x = leaves_reads (λ h. refl) (λ y i. i)
leaves Looks v x = leaves_reads (λ h. refl) (λ y i. i)
leaves (TakesNumber g e b) v x = leaves_reads (λ h. refl) (λ y i. i)
leaves (LearnsTerm n) v x = leaves_reads (λ h. refl) (λ y i. i)
leaves (RaisesTerm n) v x = leaves_reads (λ h. refl) (λ y i. i)
leaves (GivesNumber n) v x = leaves_reads (λ h. refl) (λ y i. i)

pub all_of_in : {A : Type 0} (P : A → Type 0) (xs : List A) → ((x : A) → In x xs → P x) → All P xs
all_of_in P [] f = All-nil P
all_of_in P (x ∷ xs) f = All-cons P x xs (f x (inl refl)) (all_of_in P xs (λ y i. f y (inr i)))

-- a view is as sound in one pool as in another, and with another number in the hand, by what its soundness says of that
pub sound_with : (home : List ℕ) (k : Number) (v : View) → IsSound v → ((c : Caller) → k ≡ number_drawn c → IsNew v c)
    → (v.whole ≡ true → k ≡ no_number → (f : Find) → In f v.finds → is_number f.step ≡ true → f.found ≡ 0 → (n : ℕ)
    → n / 64 ≡ group_of f.step → n < v.shape.passes → IsNumberGone v f n)
    → IsSound (record v { home = home; number = k })
sound_with home k v s drawn gone = record {
  valid = s.valid;
  limit = s.limit;
  legal = s.legal;
  lent = s.lent;
  within = s.within;
  number = s.number;
  inside = s.inside;
  outside = s.outside;
  fits = s.fits;
  older = s.older;
  hand = s.hand;
  closing = s.closing;
  closes_once = s.closes_once;
  swept = λ c i. let o = s.swept c i in record { known = o.known; life = o.life; empty = o.empty };
  loans = s.loans;
  unlent = s.unlent;
  covered = s.covered;
  reads = s.reads;
  own_pages = s.own_pages;
  swept_page = s.swept_page;
  few_left = s.few_left;
  held = s.held;
  own_handles = s.own_handles;
  none_left = s.none_left;
  drawn = λ n e.
      let y = drawn n e in record { later = y.later; number = y.number; term = y.term; other = y.other; silent = y.silent; outside = y.outside };
  few = s.few;
  knows = s.knows;
  all_drawn = λ w. let h = s.all_drawn w in record { first = h.first; others = h.others };
  one_each = s.one_each;
  others = s.others;
  term = s.term;
  earlier = s.earlier;
  numbers_gone = gone;
}

pub sound_homed : (home : List ℕ) (v : View) → IsSound v → IsSound (homed home v)
sound_homed home v s = sound_with home v.number v s s.drawn s.numbers_gone

pub sound_now : (now v : View) (home : List ℕ) → homed home v ≡ now → IsSound v → IsSound now
sound_now now v home is s = subst IsSound is (sound_homed home v s)

-- what a step gives is that it stepped
pub stepped : (home : List ℕ) (v p w : View) (es : List Entry) (fs : ℕ → List Find) → Same v (record p { whole = v.whole }) → v.met ≡ [] → Gives v p es fs w
    → Stepped (homed home v) (homed home w) (homed home p) es fs
stepped home v p w es fs s m g =
    let seen : w.seen ≡ (v.seen ++ g.others) ++ es = ap (λ (x : View). x.seen) g.is ∙ ap (λ (xs : List Entry). (xs ++ g.others) ++ es) s.seen in
    let seen' : w.seen ≡ (p.seen ++ g.others) ++ es = ap (λ (x : View). x.seen) g.is in
    let met : p.met ≡ [] = s.met ∙ m in
    let all : all_gathered p ≡ p.gathered = ap (λ (xs : List Met). p.gathered ++ brought xs) met ∙ append-nil p.gathered in
    record {
      others = g.others;
      quiet = g.quiet;
      apart = all_of_in (λ (x : Gathered). made_by x.caller (g.others ++ es) ≡ []) v.gathered g.apart;
      alone = g.alone;
      seen = seen;
      is_part =
          ap (homed home) g.is ∙ (λ j. record (homed home p) {
            seen = sym seen' j;
            finds = s.finds j ++ fs (length (s.seen j ++ g.others));
            gathered = all j;
            met = sym met j;
          });
      sound = sound_homed home w g.sound;
    }
