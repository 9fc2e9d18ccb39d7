-- What the pass can do that is left when the others were gathered.
use Rattle.std.{proofs.Common.{◌≡◌, ◌<◌, List, [], ◌∷◌, ◌++◌, length, ap, sym, ◌∙◌, append_assoc, arith, None}, specs.{Prelude.{slice_index_or}, List.{remove}}}
use Rattle.fm_base.specs.{Calls.{Entry}, View.{Did}}
use Rattle.fm_rule_facts.specs.Views.{View}
use Rattle.fm_rule.specs.{declared.pool.Pool.{Pool}, Passes.{GoesOnFrom}}
use Rattle.fm_arena.specs.Learnt.{AfterMeet}
use Rattle.fm_rule_calls.{specs.{Kept.{Lasts}, Told.{view_of_pass}}, proofs.{Going.{lasts_by, reached_by}, Telling.{did_of}}}
use Rattle.fm_workers_crew.{specs.Rounds.{CanLater, IsSpare}, proofs.Workers.{spare_worked}}

-- Who could do it can do it once it has seen more.
pub can_later : (Can : View → Type 0) (old now : View) → now.shape ≡ old.shape → GoesOnFrom old.seen now.seen → CanLater Can old → CanLater Can now
can_later Can old now shape on can p sound same after =
    can p sound (same ∙ shape) (on.0 ++ after.0, after.1 ∙ (ap (λ (es : List Entry). es ++ after.0) on.1 ∙ append_assoc old.seen on.0 after.0))

-- So it can where it lasts.
pub later_by : (Can : View → Type 0) (old : View) → ((p q : View) → Lasts p q → Can p → Can q) → Can old → CanLater Can old
later_by Can old stays can p sound shape on = stays old p (lasts_by (reached_by on.0 on.1 shape sound)) can

-- It has nothing after it met what others had seen, and went on.
pub spare_on : {pool : Pool} {left cut last : View} {seen : List Entry} {P : List Entry → Type 0} → IsSpare pool left → AfterMeet left cut seen
    → Did (view_of_pass cut) (view_of_pass last) P → last.inside ≡ None → IsSpare pool last
spare_on {left = left} {cut = cut} s m k outside =
    spare_worked (spare_worked {d = left} {e = cut} s (did_of left cut (λ own. own ≡ []) m.did) (m.inside ∙ s.outside)) k outside

-- What was removed at the front stood there.
pub first_of : {X : Type 0} (xs ys : List X) (x : X) → 0 < length xs → x ≡ slice_index_or xs 0 x → ys ≡ remove xs 0 → xs ≡ x ∷ ys
first_of [] ys x some is rest = absurd (omega arith)
first_of (z ∷ zs) ys x some is rest = λ i. sym is i ∷ sym rest i
