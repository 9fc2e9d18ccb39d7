-- A line that gives a hold or a handle back.
use Rattle.std.{proofs.Common.{◌≡◌, ℕ, ◌<◌, List, set, get_or, length, refl, ap, sym, ◌∙◌, subst, Option, Some, None}, specs.Option.{option_map}}
use Rattle.std.proofs.lemmas.List.{length-set}
use Rattle.fm_arena.specs.declared.handle.AutoHandle.{AutoHandle}
use Rattle.fm_base.specs.declared.arena_id.ArenaId.{ArenaId}
use Rattle.fm_gate.specs.declared.held.Hold as held
use Rattle.fm_rule_facts.specs.{Holds.{released}, Views.{View}}
use Rattle.fm_script_text.specs.declared.command.Command.TheVariants.{Unhold, Back}
use Rattle.fm_script_lines.specs.declared.{outcome.LineOutcome.{LineOutcome}, reply.Reply.{Reply, TheVariants.{Fine, Skipped}}, standing.Standing.{Standing}}
use Rattle.fm_script_lines.specs.{declared.{standing.Standing.TheVariants.{Nothing}, table.Table.{Table}}, Calls.{On, GivesBack, Unholds}}
use Rattle.fm_script_lines.specs.{Learnt.{CallRan, KeepsTable, Leaves, TookFrom, stands_by}, Numbers.{number_at}, Outcomes.{plain}, Runs.{RanLineWith, RanWith}}
use Rattle.fm_script_lines.specs.{Standings.{handed_back, handle_in, hold_in, unheld}, Tokens.{BacksWith, without}}
use Rattle.fm_script_lines.proofs.{Backing.{backs_handed, backs_unheld}, Lines.{line_none}}
use Rattle.fm_script_lines.proofs.Naming.{Left, handed-same, left-none, left-taken, standing-here, unheld-same}

-- A token was taken out of a table by a name, or there was none.
module _ {T : Type 0} (left : Standing → Standing) (token : Standing → Option T) (arena : T → ArenaId) (t next : Table) (name : List ℕ) where
  -- There are as many names.
  many_left : (o : Option T) → TookFrom left token t next name o → length next.own.items ≡ length t.own.items
  many_left None took = ap (λ (xs : List Standing). length xs) took.1
  many_left (Some x) took =
      ap (λ (xs : List Standing). length xs) took.1.1.new_is ∙ length-set t.own.items took.1.0 (left (get_or t.own.items took.1.0 Nothing))

  -- The name stands for what is left of it, and each other one for what it did.
  stands_left : ((s : Standing) → option_map arena (token s) ≡ None → left s ≡ s) → (o : Option T) → TookFrom left token t next name o
      → Left left t.base.now t.start t.own.items (number_at t.names.now name) next.own.items
  stands_left same None took =
      left-none left t.base.now t.start t.own.items next.own.items (number_at t.names.now name) took.1 (same _ (ap (option_map arena) took.0))
  stands_left same (Some x) took =
      left-taken left t.base.now t.start t.own.items next.own.items (number_at t.names.now name) took.1.0 t.behind took.1.1

  -- What a pass has for the names it has for those that are left, but for the token.
  has_left : (Has : Option ArenaId → List Standing → Type 0)
      → ((at : ℕ) (a : ArenaId) → at < length t.own.items → option_map arena (token (get_or t.own.items at Nothing)) ≡ Some a
      → Has (Some a) (set t.own.items at (left (get_or t.own.items at Nothing))))
      → (o : Option T) → TookFrom left token t next name o → Has None t.own.items → Has (option_map arena (token (stands_by t name))) next.own.items
  has_left Has less None took b =
      subst (λ (xs : List Standing). Has (option_map arena (token (stands_by t name))) xs) (sym took.1)
      (subst (λ (o : Option ArenaId). Has o t.own.items) (sym (ap (option_map arena) took.0)) b)
  has_left Has less (Some x) took b =
      let at = took.1.0 in
      let some = ap (option_map arena) took.0 in
      let here = standing-here t.base.now t.start t.own.items (number_at t.names.now name) at took.1.1.own in
      subst (λ (xs : List Standing). Has (option_map arena (token (stands_by t name))) xs) (sym took.1.1.new_is)
      (subst (λ (o : Option ArenaId). Has o (set t.own.items at (left (get_or t.own.items at Nothing)))) (sym some)
      (less at (arena x) took.1.1.own.within (ap (λ (s : Standing). option_map arena (token s)) (sym here) ∙ some)))

module _ (p q : View) (t next : Table) (name : List ℕ) where
  -- A hold that isn't there.
  pub unheld_none : (out : LineOutcome) → hold_in (stands_by t name) ≡ None → p.inside ≡ None → out ≡ plain Skipped
      → CallRan p p (stands_by t) (Unhold name) out
  unheld_none out none outside said = record {
    ran = subst (λ (o : Option ArenaId). RanLineWith p p (without o p.holds) p.handles (On o (Unholds p.caller)) out)
        (sym (ap (option_map (λ (h : held.Hold). h.arena)) none)) (line_none p None (Unholds p.caller) out refl outside said);
    slots = λ o. absurd (cc);
    pages = tt;
  }

  -- One that was given back.
  pub unheld_ran : (hold : held.Hold) (out : LineOutcome) → hold_in (stands_by t name) ≡ Some hold → out ≡ plain Fine
      → RanWith p q (released hold.arena p.holds) p.handles (Unholds p.caller hold.arena (plain Fine))
      → CallRan p q (stands_by t) (Unhold name) out
  unheld_ran hold out some said r = record {
    ran = subst (λ (o : Option ArenaId). RanLineWith p q (without o p.holds) p.handles (On o (Unholds p.caller)) out)
        (sym (ap (option_map (λ (h : held.Hold). h.arena)) some))
        (subst (λ (x : LineOutcome). RanLineWith p q (released hold.arena p.holds) p.handles (Unholds p.caller hold.arena) x) (sym said)
        (record { ran = r; backed = tt }));
    slots = λ o. absurd (cc);
    pages = tt;
  }

  -- A handle that isn't there.
  pub handed_none : (out : LineOutcome) → handle_in (stands_by t name) ≡ None → p.inside ≡ None → out ≡ plain Skipped
      → CallRan p p (stands_by t) (Back name) out
  handed_none out none outside said = record {
    ran = subst (λ (o : Option ArenaId). RanLineWith p p p.holds (without o p.handles) (On o (GivesBack p.caller)) out)
        (sym (ap (option_map (λ (h : AutoHandle). h.arena)) none)) (line_none p None (GivesBack p.caller) out refl outside said);
    slots = λ o. absurd (cc);
    pages = tt;
  }

  -- One that was given back.
  pub handed_ran : (handle : AutoHandle) (reply : Reply) (out : LineOutcome) → handle_in (stands_by t name) ≡ Some handle → out ≡ plain reply
      → RanWith p q p.holds (released handle.arena p.handles) (GivesBack p.caller handle.arena (plain reply))
      → CallRan p q (stands_by t) (Back name) out
  handed_ran handle reply out some said r = record {
    ran = subst (λ (o : Option ArenaId). RanLineWith p q p.holds (without o p.handles) (On o (GivesBack p.caller)) out)
        (sym (ap (option_map (λ (h : AutoHandle). h.arena)) some))
        (subst (λ (x : LineOutcome). RanLineWith p q p.holds (released handle.arena p.handles) (GivesBack p.caller handle.arena) x) (sym said)
        (record { ran = r; backed = tt }));
    slots = λ o. absurd (cc);
    pages = tt;
  }

  -- What is left of the table.
  pub unheld_leaves : (o : Option held.Hold) → KeepsTable t next → TookFrom unheld hold_in t next name o → Leaves p t next (Unhold name)
  unheld_leaves o keeps took = record {
    keeps = keeps;
    many = many_left unheld hold_in (λ h. h.arena) t next name o took;
    stands = stands_left unheld hold_in (λ h. h.arena) t next name unheld-same o took;
    backs = λ holds handles b.
        has_left unheld hold_in (λ h. h.arena) t next name (λ a xs. BacksWith p (without a p.holds) p.handles holds handles t.base.now xs)
        (λ at a l is. backs_unheld p b at a l is) o took b;
  }

  pub handed_leaves : (o : Option AutoHandle) → KeepsTable t next → TookFrom handed_back handle_in t next name o → Leaves p t next (Back name)
  handed_leaves o keeps took = record {
    keeps = keeps;
    many = many_left handed_back handle_in (λ h. h.arena) t next name o took;
    stands = stands_left handed_back handle_in (λ h. h.arena) t next name handed-same o took;
    backs = λ holds handles b.
        has_left handed_back handle_in (λ h. h.arena) t next name (λ a xs. BacksWith p p.holds (without a p.handles) holds handles t.base.now xs)
        (λ at a l is. backs_handed p b at a l is) o took b;
  }
