-- What a line that opens an arena tells of slots.
use Rattle.std.proofs.Common.{◌≡◌, ℕ, zero, suc, ◌<◌, true, arith, get_or, length, List, [], ◌∷◌, ◌++◌, refl, ap, sym, ◌∙◌, subst, append_assoc, inl, inr, Ok, Err}
use Rattle.std.proofs.lemmas.List.{append-nil, Elements.{filter-append}}
use Rattle.fm_words.specs.declared.shape.Shape.{Shape}
use Rattle.fm_base.specs.declared.{arena_id.ArenaId.{ArenaId}, caller.Caller.{Caller}, kind.Kind.{Kind}, refusal.Refusal.{Refusal}}
use Rattle.fm_base.specs.{declared.refusal.Refusal.TheVariants.{NoSlot, Memory}, Calls.{Entry}, Does.{DoesOpen}, Finds.{Find, FindsMore, Rest}}
use Rattle.fm_base.{specs.{Histories.{made_by}, Learnt.{AfterOpen}, Outcomes.{MayRefuse}, View.{but_loans}}, proofs.Making.{but_loans-append}}
use Rattle.fm_rule_facts.{specs.Views.{View, Begins, In}, proofs.Keeping.{begins_on, in_left, in_right}}
use Rattle.fm_rule_calls.specs.Told.{view_of_pass}
use Rattle.fm_arena.specs.{Shares.{nature_of_shared}, Opening.{FoundNoneLeft, HasNoSlot, OpensExactly}}
use Rattle.fm_script_text.specs.declared.command.Command.{Command, TheVariants.{Open}}
use Rattle.fm_script_lines.specs.declared.{outcome.LineOutcome.{LineOutcome}, reply.Reply.{Reply, TheVariants.{Fine, Refused}}, standing.Standing.{Standing}}
use Rattle.fm_script_lines.specs.{Calls.{CallDoes, CalledBut, OverPool}, Outcomes.{outcome}, Played.{Done, runs}, Runs.{Went}, Standings.{opened_as}}
use Rattle.fm_script_lines.{specs.Slots.{AllBusyIn, AreFound, FindsNoSlot, FoundAt, OpenRightly, OpensRightly, SlotsTold, opens}, proofs.Going.{went_then}}

-- ---- one line

-- A call that was answered ok.
pub told_fine : {X : Type 0} {p q : View} (x : X) (reply : Reply) → reply ≡ Fine → OpensExactly p q (Ok x) → SlotsTold p q reply
told_fine {p = p} {q = q} x reply is e = subst (λ (r : Reply). SlotsTold p q r) (sym is) (record {
  exact = λ whole none. ((λ r. absurd (cc)), λ r. e.opened whole);
  found = λ r. absurd (cc);
})

-- One that was refused.
pub told_refused : {X : Type 0} {p q : View} (r : Refusal) (reply : Reply) → reply ≡ Refused r → r ≡ NoSlot → OpensExactly {X = X} p q (Err r)
    → SlotsTold p q reply
told_refused r reply is lacks e = record {
  exact = λ whole none. ((λ x. e.refused whole none), λ x. absurd (x (is ∙ ap Refused lacks)));
  found = λ x. e.found;
}

-- No other refusal comes of it.
only_no_slot : (c : Caller) (k : Kind) (r : Refusal) (own : List Entry) → DoesOpen c k (Err r) own → MayRefuse nature_of_shared r → r ≡ NoSlot
only_no_slot c k NoSlot own d m = refl
only_no_slot c k Memory own d m = absurd (cc)
only_no_slot c k r own d m = absurd d

-- One of an arena that isn't automatic.
pub told_by_hand : {p q : View} (k : Kind) (r : Refusal) (reply : Reply) → reply ≡ Refused r
    → AfterOpen nature_of_shared (view_of_pass p) (view_of_pass q) k (Err r) → OpensExactly {X = ArenaId} p q (Err r) → SlotsTold p q reply
told_by_hand {p = p} k r reply is a e = told_refused r reply is (only_no_slot p.caller k r (but_loans a.did.own) a.did.does a.comes) e

-- A call that found no slot made no entry, but for loans.
silent : (c : Caller) (k : Kind) (run : List Entry) (reply : Reply) (made : Standing) (ok : ArenaId → LineOutcome)
    → ((id : ArenaId) → (ok id).reply ≡ Fine) → reply ≡ Refused NoSlot
    → CalledBut (OverPool (DoesOpen c k)) ok (outcome reply made) run → but_loans run ≡ []
silent c k run reply made ok fine lacks (Ok id, does, comes) =
    let said : reply ≡ Fine = ap (λ (o : LineOutcome). o.reply) comes ∙ fine id in
    absurd (cc)
silent c k run reply made ok fine lacks (Err r, does, comes) =
    let said : reply ≡ Refused r = ap (λ (o : LineOutcome). o.reply) comes in
    let is : r ≡ NoSlot = cc in
    subst (λ (x : Refusal). DoesOpen c k (Err x) (but_loans run)) is does.1

-- Nor did a line that opens an arena.
pub line_silent : (c : Caller) (stands : List ℕ → Standing) (command : Command) (reply : Reply) (made : Standing) (run : List Entry)
    → opens command ≡ true → reply ≡ Refused NoSlot → CallDoes c stands command (outcome reply made) run → but_loans run ≡ []
line_silent c stands (Open name kind) reply made run o lacks does =
    silent c kind run reply made (λ id. outcome Fine (opened_as does.0 kind id)) (λ id. refl) lacks does.1
line_silent c stands command reply made run o lacks does = absurd (cc)

-- The entries of a pass, behind some of its own.
pub made_after : {p q : View} {own : List Entry} → Went p q own → made_by p.caller q.seen ≡ made_by p.caller p.seen ++ own
made_after {p = p} w =
    ap (λ (es : List Entry). made_by p.caller es) w.seen
    ∙ (filter-append _ p.seen w.more ∙ ap (λ (es : List Entry). made_by p.caller p.seen ++ es) w.by_pass)

-- Lines leave a pass without a slot as it was.
pub no_slot_still : {p q : View} {own : List Entry} → Went p q own → HasNoSlot p → HasNoSlot q
no_slot_still w none = record { sweeps = ap (λ (x : Rest). x.sweeps) w.rest ∙ none.sweeps; slots = ap (λ (x : Rest). x.slots) w.rest ∙ none.slots }

-- What a pass by itself was told of slots, in the words of entries.
pub opens_rightly : {p q r : View} {own : List Entry} (d : Done) → Went p q own → SlotsTold q r d.reply → p.whole ≡ true → HasNoSlot p
    → OpensRightly p.shape (p.seen ++ own) d
opens_rightly {p = p} {q = q} {own = own} d w told whole none =
    let t = told.exact (ap (λ (x : Rest). x.whole) w.rest ∙ whole) (no_slot_still w none) in
    let seen : q.seen ≡ p.seen ++ own = w.seen ∙ ap (λ (es : List Entry). p.seen ++ es) (w.alone whole) in
    record {
      refused = λ lacks. subst (λ (z : Shape). AllBusyIn z (p.seen ++ own)) w.same_shape (subst (λ (es : List Entry). AllBusyIn q.shape es) seen (t.0 lacks));
      opened = λ yes busy. t.1 yes (subst (λ (es : List Entry). AllBusyIn q.shape es) (sym seen)
          (subst (λ (z : Shape). AllBusyIn z (p.seen ++ own)) (sym w.same_shape) busy));
    }

-- What a list has at a place is in it.
in_at : {A : Type 0} (xs : List A) (k : ℕ) (x : A) → k < length xs → get_or xs k x ≡ x → In x xs
in_at [] k x l e = absurd (omega (arith, l))
in_at (y ∷ xs) zero x l e = inl (sym e)
in_at (y ∷ xs) (suc k) x l e = inr (in_at xs k x (omega (arith, l)) e)

-- Where a pass found none, behind these of its entries.
pub found_at : {p q r : View} {own run : List Entry} → Went p q own → Went q r run → FoundNoneLeft q r → but_loans run ≡ []
    → FoundAt p.caller r.finds r.seen (made_by p.caller p.seen ++ own)
found_at {p = p} {q = q} {r = r} {own = own} {run = run} w v f silent =
    let mine : List Entry = made_by p.caller p.seen in
    let i = f.find.among in
    let there : In f.find.find f.find.more = in_at f.find.more i.0 f.find.find i.1 i.2 in
    let all = made_after (went_then p q r own run w v) in
    record {
      find = f.find.find;
      among = subst (λ (fs : List Find). In f.find.find fs) (sym f.find.grown) (in_right f.find.find q.finds f.find.more there);
      step = f.find.step;
      nothing = f.find.nothing;
      at = r.seen;
      begins = ([], sym (append-nil r.seen));
      early = f.early;
      own_at = ap but_loans (all ∙ sym (append_assoc mine own run))
          ∙ (but_loans-append (mine ++ own) run
          ∙ (ap (λ (es : List Entry). but_loans (mine ++ own) ++ es) silent ∙ append-nil (but_loans (mine ++ own))));
    }

-- ---- lines in a row

-- One more line of a pass by itself.
pub opens_more : (z : Shape) (before : List Entry) (ds : List Done) (d : Done) → OpenRightly z before ds
    → (opens d.line.command ≡ true → OpensRightly z (before ++ runs ds) d) → OpenRightly z before (ds ++ d ∷ [])
opens_more z before [] d rs r = ((λ o. subst (λ (es : List Entry). OpensRightly z es d) (append-nil before) (r o)), tt)
opens_more z before (e ∷ ds) d rs r = (
  rs.0,
  opens_more z (before ++ e.run) ds d rs.1
      (λ o. subst (λ (es : List Entry). OpensRightly z es d) (sym (append_assoc before e.run (runs ds))) (r o)),
)

module _ (c : Caller) (finds : List Find) (seen : List Entry) where
  -- One more of a pass among others.
  pub found_more : (own : List Entry) (ds : List Done) (d : Done) → AreFound c finds seen own ds
      → (FindsNoSlot d → FoundAt c finds seen (own ++ runs ds)) → AreFound c finds seen own (ds ++ d ∷ [])
  found_more own [] d rs r = ((λ n. subst (λ (es : List Entry). FoundAt c finds seen es) (append-nil own) (r n)), tt)
  found_more own (e ∷ ds) d rs r = (
    rs.0,
    found_more (own ++ e.run) ds d rs.1
        (λ n. subst (λ (es : List Entry). FoundAt c finds seen es) (sym (append_assoc own e.run (runs ds))) (r n)),
  )

  module _ (more : List Find) (next : List Entry) (f : FindsMore finds more) (b : Begins seen next) where
    still_found : (own : List Entry) → FoundAt c finds seen own → FoundAt c more next own
    still_found own x = record {
      find = x.find;
      among = subst (λ (fs : List Find). In x.find fs) (sym f.grown) (in_left x.find finds f.more x.among);
      step = x.step;
      nothing = x.nothing;
      at = x.at;
      begins = subst (λ (es : List Entry). Begins x.at es) (sym b.1) (begins_on x.at seen b.0 x.begins);
      early = x.early;
      own_at = x.own_at;
    }

    -- What was found stays found when the pass has seen and found more.
    pub found_later : (own : List Entry) (ds : List Done) → AreFound c finds seen own ds → AreFound c more next own ds
    found_later own [] rs = tt
    found_later own (d ∷ ds) rs = ((λ n. still_found own (rs.0 n)), found_later (own ++ d.run) ds rs.1)
