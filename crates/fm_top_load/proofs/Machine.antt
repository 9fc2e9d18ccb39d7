-- A machine in which nobody but one caller is.
use Rattle.std.{proofs.Common.{◌≡◌, ℕ, ◌≤◌, ◌^◌, Bool, true, false, List, [], ◌∷◌, refl, ap, sym, subst, ◌∙◌, None, cond, inl}, specs.List.{AllByRecursion}}
use Rattle.fm_base.specs.{declared.{arena_id.ArenaId.{ArenaId}, caller.Caller.{Caller}}, Arenas.{MayUse, State, are_one}, Calls.{Entry}}
use Rattle.fm_base.{specs.{Histories.{IsLegal, made_by, state_after}, View.{View, IsByItself, Makes, inside_after}}, proofs.{Faith.{Makes-alone}, Making.{by_itself_still}}}
use Rattle.fm_base.specs.Machine.{words_within}
use Rattle.fm_top_load.specs.Held.{IsHeld}

-- a memory in which nobody else is, and the caller is in no arena
abbrev pub lone : ℕ → Caller → State → View
lone limit c s = record { limit = limit; state = s; caller = c; inside = None; alone = true; told = None }

-- all entries are the caller's
abbrev pub AreOwn : Caller → List Entry → Type 0
AreOwn c es = AllByRecursion (λ e. are_one e.caller c ≡ true) es

pub own_made : (c : Caller) (es : List Entry) → AreOwn c es → made_by c es ≡ es
own_made c [] own = refl
own_made c (e ∷ es) own = ap (λ b. cond b (e ∷ made_by c es) (made_by c es)) own.0 ∙ ap (λ (xs : List Entry). e ∷ xs) (own_made c es own.1)

-- What a caller made is its own.
pub own_are : (c : Caller) (es : List Entry) → AreOwn c (made_by c es)
own_are c [] = tt
own_are c (e ∷ es) =
    let P : Bool → Type 0 = λ b. are_one e.caller c ≡ b → AreOwn c (cond b (e ∷ made_by c es) (made_by c es)) in
    let go : (b : Bool) → P b = λ b. elim b as P [ true ↦ (λ is. (is, own_are c es)) | false ↦ (λ is. own_are c es) ] in
    go (are_one e.caller c) refl

-- Entries that end in no arena are a call.
pub lone_makes : (limit : ℕ) (c : Caller) (s : State) (own : List Entry) → IsLegal limit s own → AreOwn c own → inside_after None own ≡ None
    → Makes (lone limit c s) (lone limit c (state_after limit s own)) own
lone_makes limit c s own legal mine out = record {
  all = own;
  legal = legal;
  reached = refl;
  by_caller = own_made c own mine;
  alone = λ h. refl;
  inside = sym out;
  same_limit = refl;
  same_caller = refl;
  same_alone = refl;
  told = tt;
}

-- ---- where a caller is by itself

-- it holds the arena in that machine too
pub held_lone : {v : View} {a : ArenaId} → IsHeld v a → IsHeld (lone v.limit v.caller v.state) a
held_lone held = record {
  by_itself = inl refl;
  small = held.small;
  outside = refl;
  known = held.known;
  usable = held.usable;
  alive = held.alive;
  size = held.size;
}

-- a call of it is one there
pub record IsAlone (x z : View) (own : List Entry) : Type 0 where
  pub legal : IsLegal x.limit x.state own
  pub mine : AreOwn x.caller own
  pub state : z.state ≡ state_after x.limit x.state own

pub is_alone : {x z : View} {own : List Entry} → IsByItself x → Makes x z own → IsAlone x z own
is_alone {x} {z} {own} alone makes =
    let made = Makes-alone x z own alone makes in
    record {
      legal = made.0;
      mine = subst (AreOwn x.caller) makes.by_caller (own_are x.caller makes.all);
      state = made.1;
    }

-- and what it holds there it holds
pub held_back : {x z : View} {a : ArenaId} {own : List Entry} → IsByItself x → Makes x z own → z.inside ≡ None → IsHeld (lone x.limit x.caller z.state) a → IsHeld z a
held_back {x} {z} {a} {own} alone makes out held = record {
  by_itself = by_itself_still x z own makes alone;
  small = subst (λ n. n ≤ 2 ^ 40) (sym makes.same_limit) held.small;
  outside = out;
  known = held.known;
  usable = subst (MayUse a) (sym makes.same_caller) held.usable;
  alive = held.alive;
  size = held.size ∙ ap words_within (sym makes.same_limit);
}
