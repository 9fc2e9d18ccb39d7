-- A pass's next line, with what it leaves of names.
use Rattle.std.proofs.Common.{◌≡◌, ℕ, ◌+◌, ◌==◌, Bool, true, false, if◌then◌else◌, List, [], ◌∷◌, ◌++◌, length, length-append, refl, ap, sym, ◌∙◌, subst, Err}
use Rattle.fm_base.specs.declared.arena_id.ArenaId.{ArenaId}
use Rattle.fm_rule_facts.specs.Views.{View}
use Rattle.fm_script_text.specs.declared.command.Command.{Command, TheVariants.{Unhold, Back}}
use Rattle.fm_script_lines.specs.declared.{outcome.LineOutcome.{LineOutcome}, reply.Reply.{Reply}, standing.Standing.{Standing}, table.Table.{Table}}
use Rattle.fm_script_lines.specs.{Calls.{CallDoes}, Learnt.{AfterLine, CallRan, KeepsTable, Leaves, MadeNoCall, stands_by}, Lines.{LineRan}, Outcomes.{outcome}}
use Rattle.fm_script_lines.{specs.{Pages.{PagesToldBy}, Slots.{SlotsTold}, Standings.{standing_at}, Tokens.{Backs}}, proofs.Backing.{backs_more}}
use Rattle.fm_script_lines.proofs.{Going.{went_made}, Naming.{standing-push}}

-- the line gives back no hold and no handle
abbrev pub keeps_tokens : Command → Bool
keeps_tokens (Unhold hold) = false
keeps_tokens (Back handle) = false
keeps_tokens c = true

-- A line that gives nothing back leaves the table as it is.
pub leaves_kept : (p : View) (t : Table) (c : Command) → keeps_tokens c ≡ true → Leaves p t t c
leaves_kept p t (Unhold hold) e = absurd (cc)
leaves_kept p t (Back handle) e = absurd (cc)
leaves_kept p t c e = record {
  keeps = record { names = refl; base = refl; start = refl; room = refl };
  many = refl;
  stands = λ n. refl;
  backs = λ holds handles b. b;
}

-- Keeping once and again.
pub keeps_then : {t u v : Table} → KeepsTable t u → KeepsTable u v → KeepsTable t v
keeps_then a b = record { names = b.names ∙ a.names; base = b.base ∙ a.base; start = b.start ∙ a.start; room = b.room ∙ a.room }

-- Where memory was wanting all is as it was.
pub line_wanted : {E : Type 0} (p q : View) (was now : Table) (c : Command) (e : E) → MadeNoCall p q was now c → AfterLine p q was now c (Err e)
line_wanted p q was now c e n = record {
  keeps = subst (λ (t : Table). KeepsTable was t) (sym n.table) (record { names = refl; base = refl; start = refl; room = refl });
  ran = tt;
  backs = λ holds handles b. subst (λ (r : View). Backs r holds handles was.base.now now.own.items) (sym n.pass)
      (subst (λ (t : Table). Backs p holds handles was.base.now t.own.items) (sym n.table) b);
  no_call = n;
}

module _ (p q : View) (was left now : Table) (c : Command) (out : LineOutcome) (reply : Reply) (l : Leaves p was left c)
    (is : now.own.items ≡ left.own.items ++ out.made ∷ []) (ran : CallRan p q (stands_by was) c out) where
  -- The line ran, and its name stands for what it made.
  pub line_ran : reply ≡ out.reply → LineRan p q was.names.now was.base.now was.start was.own.items now.own.items c reply
  line_ran said = record {
    made = out.made;
    run = ran.ran.ran.own;
    does = subst (λ (x : Reply). CallDoes p.caller (stands_by was) c (outcome x out.made) ran.ran.ran.own) (sym said) ran.ran.ran.does;
    went = ran.ran.ran.went;
    outside = ran.ran.ran.outside;
    lasts = ran.ran.ran.lasts;
    one_more = ap (λ (xs : List Standing). length xs) is
        ∙ (length-append left.own.items (out.made ∷ []) ∙ ap (λ (k : ℕ). k + 1) l.many);
    stands = λ n. ap (λ (xs : List Standing). standing_at was.base.now was.start xs n) is
        ∙ (standing-push was.base.now was.start left.own.items out.made n was.behind
        ∙ (ap (λ (k : ℕ). if n == was.start + k then out.made else standing_at was.base.now was.start left.own.items n) l.many
        ∙ ap (λ (s : Standing). if n == was.start + length was.own.items then out.made else s) (l.stands n)));
    slots = λ o. subst (λ (x : Reply). SlotsTold p q x) (sym said) (ran.slots o);
    pages = subst (λ (x : Reply). PagesToldBy (stands_by was) p q c x) (sym said) ran.pages;
  }

  -- And the pass has what its names stand for.
  pub line_backs : (holds handles : List ArenaId) → Backs p holds handles was.base.now was.own.items
      → Backs q holds handles was.base.now now.own.items
  line_backs holds handles b =
      subst (λ (xs : List Standing). Backs q holds handles was.base.now xs) (sym is)
      (backs_more p q (l.backs holds handles b) ran.ran.ran.lasts (went_made ran.ran.ran.went) out.made ran.ran.ran.same_holds
      ran.ran.ran.same_handles ran.ran.backed)
