-- A pass closes an arena that it alone uses, or waits.
use Rattle.std.proofs.Common.{◌≡◌, ℕ, List, [], ◌∷◌, Ok, Err, refl, ap, sym, ◌∙◌, subst, inr}
use Rattle.fm_base.specs.{declared.{arena_id.ArenaId.{ArenaId}, caller.Caller.{Caller}, refusal.Refusal.{Refusal}}, Arenas.{Arena, State, arena_of, changed}}
use Rattle.fm_base.specs.{Calls.{End, Entry, Fine, Shut, entry_of}, Does.{DidClose, DoesClose}, Histories.{state_after}, Machine.{closing, ended}}
use Rattle.fm_base.{specs.View.{but_loans}, proofs.Lookup.{changed_twice, lookup_changed}}
use Rattle.fm_base.specs.declared.refusal.Refusal.TheVariants as refusal
use Rattle.fm_close.specs.Learnt.{AfterClose}
use Rattle.fm_rule_calls.{specs.Told.{view_of_pass}, proofs.Telling.{did_of}}
use Rattle.fm_rule_facts.specs.Views.{View, IsKnown, limit_of, state_in}
use Rattle.fm_rule.specs.declared.pool.Pool.{Pool}
use Rattle.fm_top_load.proofs.Holding.{did_only, only_changed}
use Rattle.fm_top_pooled.proofs.Tidying.{AllChangeNone}
use Rattle.fm_top_stream.{specs.Steps.{CanClose, Closes, GoesOn}, proofs.Going.{goes_here, goes_then, kept_goes}}

-- what a close that is refused leaves
record LeavesAll (es : List Entry) : Type 0 where
  none : AllChangeNone es
  state : (limit : ℕ) (s : State) → state_after limit s es ≡ s

leaves_none : LeavesAll []
leaves_none = record { none = tt; state = λ limit s. refl }

close_refused : (c : Caller) (a : ArenaId) (r : Refusal) (es : List Entry) → DoesClose c a (Err r) es → LeavesAll es
close_refused c a (refusal.CannotClose kind) es does = subst LeavesAll (sym does.2) leaves_none
close_refused c a refusal.WrongThread es does = subst LeavesAll (sym does.2) leaves_none
close_refused c a refusal.Closed es does = subst LeavesAll (sym does.2) (record { none = (tt, tt); state = λ limit s. refl })
close_refused c a (refusal.Held holds) es does = subst LeavesAll (sym does.3) (record { none = (tt, tt); state = λ limit s. refl })
close_refused c a r es does = absurd does

-- it waited, and the arenas are as they were
pub record WaitsToClose (pool : Pool) (p m : View) : Type 0 where
  pub goes : GoesOn pool p m
  pub state : state_in m ≡ state_in p

pub waits_none : {pool : Pool} {p : View} {a : ArenaId} → CanClose pool p a → WaitsToClose pool p p
waits_none can = record { goes = goes_here can.alone; state = refl }

-- what an arena becomes that is shut and ends
abbrev over : Arena → Arena
over x = ended (closing x)

module _ {pool : Pool} {p m q : View} (a : ArenaId) (w : WaitsToClose pool p m) where
  pub waits_more : (r : Refusal) → AfterClose pool m q a (Err r) → WaitsToClose pool p q
  waits_more r after =
      let alone = w.goes.alone in
      let did : DidClose (view_of_pass m) (view_of_pass q) a (Err r) = did_of m q (λ own. DoesClose m.caller a (Err r) (but_loans own)) after.did in
      let leaves = close_refused m.caller a r (but_loans after.did.own) after.did.does in
      record {
        goes = goes_then w.goes (kept_goes alone after.did after.outside leaves.none);
        state = (did_only (view_of_pass m) (view_of_pass q) did.own (but_loans did.own) (inr alone.whole) did.makes refl).state
            ∙ (close_refused m.caller a r (but_loans did.own) did.does).state (limit_of m.shape) (state_in m) ∙ w.state;
      }

  pub closes_then : IsKnown p a → AfterClose pool m q a (Ok tt) → Closes pool p q a
  closes_then known after =
      let alone = w.goes.alone in
      let did : DidClose (view_of_pass m) (view_of_pass q) a (Ok tt) = did_of m q (λ own. DoesClose m.caller a (Ok tt) (but_loans own)) after.did in
      let two : List Entry = entry_of m.caller (Shut a) Fine ∷ entry_of m.caller (End a) Fine ∷ [] in
      let only = did_only (view_of_pass m) (view_of_pass q) did.own two (inr alone.whole) did.makes did.does.2 in
      let state : state_in q ≡ changed (state_in p) a over =
      only.state ∙ changed_twice (state_in m) a closing ended (λ x. refl) ∙ ap (λ (s : State). changed s a over) w.state in
      record {
        goes = goes_then w.goes (kept_goes alone after.did after.outside (subst AllChangeNone (sym after.did.does.2) (tt, (tt, tt))));
        ended = after.ended.life;
        words = ap (λ (s : State). (arena_of s a).words) state ∙ ap (λ (x : Arena). x.words) (lookup_changed (state_in p) a over (λ x. refl) known);
        elsewhere = only_changed (state_in p) (state_in q) a over (λ x. refl) state;
      }
