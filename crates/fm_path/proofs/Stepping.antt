-- The step that a line takes to a member leads there.
use Rattle.std.proofs.{Common.{◌≡◌, refl, sym, ap, ℕ, Bool, true, false, if◌then◌else◌, Option, Some, None, Result, Ok, List, ◌∙◌}, lemmas.Bool.{eqb-true}}
use Rattle.fm_base.specs.declared.refusal.Refusal.{Refusal}
use Rattle.fm_layout.specs.{Tree.{Tree, Struct, Union, name_of}, Parts.{member_of}}
use Rattle.fm_path_text.specs.declared.step.PathStep.TheVariants.{Name, Group}
use Rattle.fm_path_meaning.specs.{Places.{Member}, Follow.{members_of, index_in, Lead, Part, lead_member, lead_found, in_group, lead}}
use Rattle.fm_path.specs.Listing.{is_index, step_named, step_to}

-- the index that the test finds
found_at : (i : ℕ) (o : Option ℕ) → is_index i o ≡ true → o ≡ Some i
found_at i None h = absurd (cc)
found_at i (Some j) h = ap Some (sym (eqb-true i j h))

-- what has a member is a group
of_group : (k i : ℕ) (t u : Tree) (r : Result Lead Refusal) → member_of i t ≡ Some u → in_group k (members_of t) r ≡ r
of_group k i (Struct ms l) u r e = refl
of_group k i (Union ms l) u r e = refl
of_group k i t u r e = absurd (cc)

-- the step to the member leads there
pub member_lead : (k i : ℕ) (group u : Tree) → member_of i group ≡ Some u → lead k (step_to group i u) group ≡ Ok (Part (Member i) u)
member_lead k i group u e = by (name_of u)
  where
    numbered : lead k (Group i) group ≡ Ok (Part (Member i) u)
    numbered = of_group k i group u _ e ∙ ap (lead_member k i) e

    tested : (name : List ℕ) (b : Bool) → is_index i (index_in name (members_of group)) ≡ b → lead k (if b then Name name else Group i) group
        ≡ Ok (Part (Member i) u)
    tested name true h = of_group k i group u _ e ∙ ap (lead_found k group) (found_at i (index_in name (members_of group)) h) ∙ ap (lead_member k i) e
    tested name false h = numbered

    by : (own : Option (List ℕ)) → lead k (step_named group i own) group ≡ Ok (Part (Member i) u)
    by None = numbered
    by (Some name) = tested name (is_index i (index_in name (members_of group))) refl
