-- Callers that were drawn one after the other.
use Rattle.std.proofs.{Common.{◌≡◌, List, [], ◌∷◌, ◌++◌, Option, Some, None, ap, sym, ◌∙◌, subst, append_assoc, ⊎_elim, inl, inr}, lemmas.List.{append-nil}}
use Rattle.fm_base_lists.specs.Among.{IsAmong}
use Rattle.fm_base.specs.{declared.caller.Caller.{Caller}, Finds.{Find}}
use Rattle.fm_rule_facts.{specs.Views.{In}, proofs.Keeping.{in_append, in_right}}
use Rattle.fm_rule.specs.Draws.{Drew}
use Rattle.fm_workers_crew.specs.Crew.{DrewEach}

-- Who drew nobody drew no caller.
drew_none : (x : Option Caller) (c : Caller) → x ≡ None → x ≡ Some c → ⊥
drew_none None c is drew = absurd (cc)
drew_none (Some d) c is drew = absurd (cc)

-- Finds behind them that drew nobody change nothing.
pub drew_each_more : (fs gs : List Find) (cs : List Caller) → DrewEach fs cs → ((f : Find) → In f gs → f.drew ≡ None) → DrewEach (fs ++ gs) cs
drew_each_more fs gs [] d none = λ f i. ⊎_elim (d f) (none f) (in_append f fs gs i)
drew_each_more fs gs (c ∷ cs) d none =
    (d.0, d.1 ++ gs, ap (λ (xs : List Find). xs ++ gs) d.2 ∙ append_assoc d.0 d.1 gs, d.3, drew_each_more d.1 gs cs d.4 none)

-- Finds before them that drew nobody change nothing either.
drew_behind : (fs gs : List Find) (c : Caller) → ((f : Find) → In f fs → f.drew ≡ None) → Drew c gs → Drew c (fs ++ gs)
drew_behind fs gs c none o = record {
  find = o.find;
  among = in_right o.find fs gs o.among;
  step = o.step;
  drew = o.drew;
  only = λ f d i drew. ⊎_elim (λ (a : In f fs). absurd (drew_none f.drew d (none f a) drew)) (λ (b : In f gs). o.only f d b drew) (in_append f fs gs i);
}

-- One more was drawn.
pub drew_each_push : (fs gs : List Find) (cs : List Caller) {c : Caller} → DrewEach fs cs → Drew c gs → DrewEach (fs ++ gs) (cs ++ c ∷ [])
drew_each_push fs gs [] {c} d o = (fs ++ gs, [], sym (append-nil (fs ++ gs)), drew_behind fs gs c d o, λ f i. absurd i)
drew_each_push fs gs (x ∷ cs) {c} d o =
    (d.0, d.1 ++ gs, ap (λ (xs : List Find). xs ++ gs) d.2 ∙ append_assoc d.0 d.1 gs, d.3, drew_each_push d.1 gs cs d.4 o)

-- Whoever they drew is one of these.
pub drew_among : (fs : List Find) (cs : List Caller) → DrewEach fs cs → (f : Find) (c : Caller) → In f fs → f.drew ≡ Some c → IsAmong c cs
drew_among fs [] d f c i drew = absurd (drew_none f.drew c (d f i) drew)
drew_among fs (x ∷ cs) d f c i drew =
    ⊎_elim (λ (a : In f d.0). inl (d.3.only f c a drew)) (λ (b : In f d.1). inr (drew_among d.1 cs d.4 f c b drew))
    (in_append f d.0 d.1 (subst (In f) d.2 i))
