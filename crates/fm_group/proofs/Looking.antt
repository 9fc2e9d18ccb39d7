-- A visit that reads the words of a run, put together from its calls.
use Rattle.std.proofs.Common.{◌≡◌, ℕ, ◌*◌, List, ap, ◌∙◌, subst, Some, Ok}
use Rattle.fm_base.specs.{declared.{arena_id.ArenaId.{ArenaId}}, Calls.{Entry, Fine, Leave}, Does.{DoesAct, DoesActs, DoesEnter}, Learnt.{AfterLoads}}
use Rattle.fm_base.{specs.{View.{Did, Makes, View}, Visits.{entries_of, reads, visit}}, proofs.{Visiting.{entered_makes, visit_of_inside}}}
use Rattle.fm_group.specs.{Reading.{DoesLook, run_seen}, Table.{Counter, claim_word}}

module _ {x y : View} (w : Counter) (a : ArenaId) (same : a ≡ w.table.arena) where
  pub looked : {u v : View} (e : Unit {0}) → Did x y (DoesEnter x.caller a (Ok e)) → (k first : ℕ) (words : List ℕ) → first ≡ claim_word w.table (64 * k)
      → AfterLoads y u first words → Did u v (DoesAct u.inside u.caller Leave Fine) → Did x v (DoesLook x.caller w k words (Ok tt))
  looked {u} {v} e enter k first words at loads leave =
      let m = entered_makes x y a e enter in
      let acts : DoesActs (Some a) y.caller (λ id. reads id first words) loads.did.own = rw m.1.inside at loads.did.does in
      let makes : Makes y u (entries_of y.caller (reads a first words)) = subst (λ (es : List Entry). Makes y u es) acts loads.did.makes in
      let is : visit x.caller a (reads a first words) ≡ run_seen x.caller w k words =
      ap (λ (i : ArenaId). visit x.caller i (reads i first words)) same ∙ ap (λ (n : ℕ). visit x.caller w.table.arena (reads w.table.arena n words)) at in
      record {
        own = visit x.caller a (reads a first words);
        does = is;
        makes = visit_of_inside x y u v a (reads a first words) (loads.inside ∙ m.1.inside) m.1 makes leave;
      }
