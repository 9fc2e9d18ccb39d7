-- One visit, from its calls; and what is done at the place found.
use Rattle.std.proofs.Common.{◌≡◌, ◌≢◌, ℕ, Bool, true, false, MatchBool, Result, Ok, Err, List, [], ◌∷◌, refl, sym, subst, ◌∙◌, Some, None}
use Rattle.fm_base.specs.{declared.{caller.Caller.{Caller}, arena_id.ArenaId.{ArenaId}, refusal.Refusal.{Refusal}}, Calls.{Call, Reply, Leave, Fine, Entry}}
use Rattle.fm_base.specs.{View.{View, Makes, Did, inside_next}, Does.{DoesEnter, DoesAct}, Visits.{Acts, visit}}
use Rattle.fm_base.proofs.Visiting.{entered_makes, visit_of_one, visit_of_inside}
use Rattle.fm_lanes.specs.declared.value.Value.{Value}
use Rattle.fm_path.specs.Resolution.{Resolution}
use Rattle.fm_segment_access.{specs.{Found.{DoesAt}, Learnt.{Visited}}, proofs.Touching.{visited}}
use Rattle.fm_segment.specs.Region.{Region}
use Rattle.fm_handle.{specs.{Access.{DoesInside, DoesVisit, Wins}, Place.{FindsWhere, ValueStands}}, proofs.Alone.{supported}}

module _ {X : Type 0} {x y u v : View} (id : ArenaId) (Give : X → Acts → Type 0) (r : X) (w : Unit {0}) where
  -- One act between Enter and Leave.
  pub one_act : (f : ArenaId → Call) (reply : Reply) → inside_next (Some id) (f id) reply ≡ Some id → Give r ((f id, reply) ∷ [])
      → Did x y (DoesEnter x.caller id (Ok w)) → Did y u (DoesAct y.inside y.caller f reply) → Did u v (DoesAct u.inside u.caller Leave Fine)
      → v.inside ≡ None → Visited x v (DoesVisit x.caller id Give (Ok r))
  one_act f reply stays are enter act leave out =
      let e = entered_makes x y id w enter in
      let acts = (f id, reply) ∷ [] in
      visited (record {
        own = visit x.caller id acts;
        does = (e.0, record { acts = acts; are = are; visits = refl });
        makes = visit_of_one x y u v id f reply stays e.1 act leave;
      }) out

  -- Acts between Enter and Leave.
  pub acts_inside : u.inside ≡ Some id → Did x y (DoesEnter x.caller id (Ok w)) → Did y u (DoesInside y.caller (Give r))
      → Did u v (DoesAct u.inside u.caller Leave Fine) → v.inside ≡ None → Visited x v (DoesVisit x.caller id Give (Ok r))
  acts_inside inside enter d leave out =
      let e = entered_makes x y id w enter in
      let acts = d.does.acts in
      visited (record {
        own = visit x.caller id acts;
        does = (e.0, record { acts = acts; are = d.does.are; visits = refl });
        makes = visit_of_inside x y u v id acts inside e.1 (subst (λ (es : List Entry). Makes y u es) d.does.entries d.makes) leave;
      }) out

-- ---- at the place found

-- An exchange, seen by whether it won.
pub won : (c : Caller) (id : ArenaId) (found : Result ℕ Refusal) (Exchange : ℕ → Value → Acts → Type 0) (expected x : Value) (b : Bool) (own : List Entry)
    → MatchBool b (x ≡ expected) (x ≢ expected)
    → DoesAt found (λ place. DoesVisit c id (Exchange place)) (Ok x) own → DoesAt found (λ place. DoesVisit c id (Wins (Exchange place) expected)) (Ok b) own
won c id (Err r) Exchange expected x b own is d = absurd (let e : Ok x ≡ Err r = d.0 in let no : ⊥ = cc in no)
won c id (Ok place) Exchange expected x true own is d =
    let Here : Value → Type 0 = λ y. Exchange place y d.1.acts in
    (d.0, record { acts = d.1.acts; are = subst Here is d.1.are; visits = d.1.visits })
won c id (Ok place) Exchange expected x false own is d = (d.0, record { acts = d.1.acts; are = (x, is, d.1.are); visits = d.1.visits })

-- An exchange that was refused.
pub not_made : (c : Caller) (id : ArenaId) (found : Result ℕ Refusal) (Exchange : ℕ → Value → Acts → Type 0) (expected : Value) (e : Refusal) (own : List Entry)
    → DoesAt found (λ place. DoesVisit c id (Exchange place)) (Err e) own → DoesAt found (λ place. DoesVisit c id (Wins (Exchange place) expected)) (Err e) own
not_made c id (Err r) Exchange expected e own d = (let same = d.0 in cc, d.1)
not_made c id (Ok place) Exchange expected e own d = d

-- Where a call that is tested finds a place, it works on the value, and the value stands there.
pub reaches : {b : Bool} {base : ℕ} {is : List ℕ} {h : Resolution} {r : Region} {found : Result ℕ Refusal} {place : ℕ} → FindsWhere b base is h r found
    → found ≡ Ok place → (b ≡ true) × ValueStands h r place
reaches f was = ((supported _ _ _ (sym f.place ∙ was)).0, rw was at f.stands)
