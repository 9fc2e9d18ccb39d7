-- A visit, put together from its calls.
use Rattle.std.{proofs.Common.{◌≡◌, ℕ, ◌*◌, ◌<◌, ◌≤◌, true, List, [], ◌∷◌, refl, ap, sym, ◌∙◌, subst, arith, Some}, specs.Prelude.{Ok, Err}}
use Rattle.fm_base.specs.{declared.{caller.Caller.{Caller}, arena_id.ArenaId.{ArenaId}, refusal.Refusal.{Refusal}}, Arenas.{has_arena, MayUse}}
use Rattle.fm_base.specs.{Calls.{Call, Reply, Enter, Leave, Fine, SwapIf, Found, Entry, entry_of}, View.{View, Makes, Did, given_in, inside_next, inside_after}}
use Rattle.fm_base.specs.{Does.{CanReach, DoesEnter, DoesAct, DoesPatch, patched}, Visits.{visit, refused_visit, Acts, entries_of, Tries, looked, missed, hit}}
use Rattle.fm_base.proofs.{Making.{Makes-then}, Growing.{Makes-grows}}
use Rattle.fm_base.specs.declared.refusal.Refusal.TheVariants as refusal

-- ---- what single calls made

-- what an `enter` that was Ok made
pub entered_makes : (x y : View) (id : ArenaId) (u : Unit {0}) → Did x y (DoesEnter x.caller id (Ok u))
    → MayUse id x.caller × Makes x y (entry_of x.caller (Enter id) Fine ∷ [])
entered_makes x y id u d = (d.does.0, subst (λ (es : List Entry). Makes x y es) d.does.1 d.makes)

-- where the arena may be used, an `enter` is refused because the arena is closed
pub refused_makes : (x y : View) (id : ArenaId) (r : Refusal) → MayUse id x.caller → Did x y (DoesEnter x.caller id (Err r))
    → (r ≡ refusal.Closed) × Makes x y (refused_visit x.caller id)
refused_makes x y id refusal.Closed may d = (refl, subst (λ (es : List Entry). Makes x y es) d.does.1 d.makes)
refused_makes x y id refusal.WrongThread may d = absurd (d.does.0 may)
refused_makes x y id r may d = absurd d.does

-- what one act inside an arena made
pub act_makes : (x y : View) (id : ArenaId) (c : Caller) (f : ArenaId → Call) (reply : Reply) → x.inside ≡ Some id → x.caller ≡ c
    → Did x y (DoesAct x.inside x.caller f reply)
    → Makes x y (entry_of c (f id) reply ∷ [])
act_makes x y id c f reply i k d =
    let e : DoesAct (Some id) c f reply d.own = rw (i, k) at d.does in
    subst (λ (es : List Entry). Makes x y es) e d.makes

-- what a `patch` inside an arena made
pub record Patched (x y : View) (id : ArenaId) (word mask bits found : ℕ) : Type 0 where
  pub acts : Acts
  pub tries : Tries id word (patched mask bits) found acts
  pub makes : Makes x y (entries_of x.caller acts)

pub patch_makes : (x y : View) (id : ArenaId) (word mask bits found : ℕ) → x.inside ≡ Some id → Did x y (DoesPatch x.inside x.caller word mask bits found)
    → Patched x y id word mask bits found
patch_makes x y id word mask bits found i d =
    let e : DoesPatch (Some id) x.caller word mask bits found d.own = rw i at d.does in
    record { acts = e.0; tries = e.1; makes = subst (λ (es : List Entry). Makes x y es) e.2 d.makes }

-- ---- inside

-- after an `enter` a word with a given byte can be reached
pub can_reach : (x y : View) (id : ArenaId) (word : ℕ) → Makes x y (entry_of x.caller (Enter id) Fine ∷ []) → 8 * word < given_in x id → CanReach y word
can_reach x y id word m h = record { id = id; inside = m.inside; given = (let g = (Makes-grows x y _ m).given id in omega arith) }

-- acts of tries leave the caller inside
pub tries_stay : (id : ArenaId) (word : ℕ) (f : ℕ → ℕ) (found : ℕ) (c : Caller) (acts : Acts) → Tries id word f found acts
    → inside_after (Some id) (entries_of c acts) ≡ Some id
tries_stay id word f found c acts (looked w rest t) = tries_stay id word f found c rest t
tries_stay id word f found c acts (missed w old new rest n t) = tries_stay id word f found c rest t
tries_stay id word f found c acts hit = refl

-- a change that gives the same at the word found
pub Tries-alike : (id : ArenaId) (word : ℕ) (f g : ℕ → ℕ) (found : ℕ) (acts : Acts) → f found ≡ g found → Tries id word f found acts
    → Tries id word g found acts
Tries-alike id word f g found acts e (looked w rest t) = looked w rest (Tries-alike id word f g found rest e t)
Tries-alike id word f g found acts e (missed w old new rest n t) = missed w old new rest n (Tries-alike id word f g found rest e t)
Tries-alike id word f g found acts e hit = subst (λ (n : ℕ). Tries id word g found ((SwapIf id word found n, Found found) ∷ [])) (sym e) hit

-- ---- whole visits

-- acts between Enter and Leave, where the caller is inside after them
pub visit_of_inside : (x y u v : View) (id : ArenaId) (acts : Acts) → u.inside ≡ Some id
    → Makes x y (entry_of x.caller (Enter id) Fine ∷ []) → Makes y u (entries_of y.caller acts) → Did u v (DoesAct u.inside u.caller Leave Fine)
    → Makes x v (visit x.caller id acts)
visit_of_inside x y u v id acts u_in enter act leave =
    let act' : Makes y u (entries_of x.caller acts) = subst (λ (c : Caller). Makes y u (entries_of c acts)) enter.same_caller act in
    let leave' = act_makes u v id x.caller Leave Fine u_in (act'.same_caller ∙ enter.same_caller) leave in
    Makes-then x u v _ _ (Makes-then x y u _ _ enter act') leave'

-- acts between Enter and Leave that stay inside
pub visit_of_acts : (x y u v : View) (id : ArenaId) (acts : Acts) → inside_after (Some id) (entries_of x.caller acts) ≡ Some id
    → Makes x y (entry_of x.caller (Enter id) Fine ∷ []) → Makes y u (entries_of y.caller acts) → Did u v (DoesAct u.inside u.caller Leave Fine)
    → Makes x v (visit x.caller id acts)
visit_of_acts x y u v id acts stays enter act leave =
    let act' : Makes y u (entries_of x.caller acts) = subst (λ (c : Caller). Makes y u (entries_of c acts)) enter.same_caller act in
    visit_of_inside x y u v id acts (act'.inside ∙ (ap (λ i. inside_after i (entries_of x.caller acts)) enter.inside ∙ stays)) enter act leave

-- one act between Enter and Leave
pub visit_of_one : (x y u v : View) (id : ArenaId) (f : ArenaId → Call) (reply : Reply) → inside_next (Some id) (f id) reply ≡ Some id
    → Makes x y (entry_of x.caller (Enter id) Fine ∷ []) → Did y u (DoesAct y.inside y.caller f reply) → Did u v (DoesAct u.inside u.caller Leave Fine)
    → Makes x v (visit x.caller id ((f id, reply) ∷ []))
visit_of_one x y u v id f reply stays enter act leave =
    visit_of_acts x y u v id ((f id, reply) ∷ []) stays enter (act_makes y u id y.caller f reply enter.inside refl act) leave

-- ---- what lasts

-- an arena that is known, may be used, and has given the bytes below `end`
pub record CanUse (x : View) (id : ArenaId) (end : ℕ) : Type 0 where
  pub known : has_arena x.state id ≡ true
  pub may : MayUse id x.caller
  pub given : end ≤ given_in x id
