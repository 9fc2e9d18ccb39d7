-- A table that no line has used, and what lines leave of it.
use Rattle.std.proofs.Common.{◌≡◌, ℕ, List, Result, All, sym, subst}
use Rattle.fm_rule_facts.specs.Views.{View}
use Rattle.fm_script_text.specs.declared.line.Line.{Line}
use Rattle.fm_script_lines.specs.declared.{numbers.Numbers.{Numbers}, reply.Reply.{Reply}, standing.Standing.{Standing}, table.Table.{Table}}
use Rattle.fm_script_lines.specs.{Learnt.{AfterLines, IsFresh}, Standings.{IsBacked, lent}, Tokens.{Backs, IsReady}}

module _ {ns : Numbers} {others : List Standing} {first lines : ℕ} {t : Table} (p : View) (e : IsFresh ns others first lines t)
    (known : All (λ s. IsBacked p (lent s)) others) where
  -- It is ready for a pass that knows what others' names stand for,
  pub fresh_ready : IsReady p t.base.now t.own.items
  fresh_ready = record {
    other_holds = p.holds;
    other_handles = p.handles;
    backs = subst (λ (bs : List Standing). Backs p p.holds p.handles bs t.own.items) (sym e.base) (e.backs p known);
  }

  -- and lines leave it ready, with the others' holds and handles that the pass had.
  pub played_backs : {E : Type 0} (q : View) (u : Table) {ls : List Line} {rs : List Reply} {r : Result (Unit {0}) E} → AfterLines p q t u ls rs r
      → Backs q p.holds p.handles u.base.now u.own.items
  unfolding fresh_ready
  played_backs q u a =
      let same : u.base.now ≡ t.base.now = λ i. (a.keeps.base i).now in
      subst (λ (bs : List Standing). Backs q p.holds p.handles bs u.own.items) (sym same) (a.backs p.holds p.handles fresh_ready.backs)

  pub played_ready : {E : Type 0} (q : View) (u : Table) {ls : List Line} {rs : List Reply} {r : Result (Unit {0}) E} → AfterLines p q t u ls rs r
      → IsReady q u.base.now u.own.items
  played_ready q u a = record { other_holds = p.holds; other_handles = p.handles; backs = played_backs q u a }
