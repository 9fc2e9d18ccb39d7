-- Finds of the word 0 of slot bits stay true over each step.
use Rattle.std.proofs.{Common.{◌≡◌, ◌⊎◌, ℕ, true, false, List, [], ◌++◌, length, sym, ap, ◌∙◌, subst, inl, inr, ⊎_elim, Option}, lemmas.List.{append-nil}}
use Rattle.fm_words.specs.declared.shape.Shape.{Shape}
use Rattle.fm_base.specs.{declared.{caller.Caller.{Caller}, arena_id.ArenaId.{ArenaId}}, Calls.{Entry}, Finds.{Find, is_slot, is_page}}
use Rattle.fm_base_machine.specs.{Functions.{Stage, Machine}, Steps.{moved_by}}
use Rattle.fm_rule_facts.specs.{Views.{View, In, all_gathered}, PoolWords.{PoolWords}, Gone.{IsTakenBy, OpenedBy, IsGone, FoundBy, IsFounded}, Splits.{gather}}
use Rattle.fm_rule_facts.{specs.{Steps.{note_draw}, Moves.{told}}, proofs.{Frame.{still_known}, Keeping.{begins_on, in_append, all_gather}}}

-- what is noted has no find of slots or pages
abbrev pub NoSlots : (ℕ → List Find) → Type 0
NoSlots fs = (n : ℕ) (f : Find) → In f (fs n) → (is_slot f.step ≡ false) × (is_page f.step ≡ false)

-- ---- over entries

module _ (z : Shape) (h : List Entry) (m : PoolWords) (t : Machine) (taker : ℕ → Option Caller) (es : List Entry) (m' : PoolWords) (taker' : ℕ → Option Caller)
    (frame : (s : ℕ) (k : Caller) → IsTakenBy z m.bits m.sessions taker s k
    → IsTakenBy z m'.bits m'.sessions taker' s k ⊎ OpenedBy (moved_by t es).life s k) where
  gone_on : (before : List Entry) (c : Caller) (s : ℕ) → IsGone z before m taker t.life c s → IsGone z before m' taker' (moved_by t es).life c s
  gone_on before c s (inl o) = inl (record { arena = o.arena; in_slot = o.in_slot; opened = still_known o.arena es t o.opened; apart = o.apart })
  gone_on before c s (inr x) = ⊎_elim
      (λ (y : IsTakenBy z m'.bits m'.sessions taker' s x.0). inr (x.0, y, x.2))
      (λ (y : OpenedBy (moved_by t es).life s x.0).
      inl (record { arena = y.arena; in_slot = y.in_slot; opened = y.opened; apart = inr (λ e. x.2 (sym y.owner ∙ e)) }))
      (frame s x.0 x.1)

  pub found_on : (c : Caller) (f : Find) → FoundBy z h m taker t.life c f → FoundBy z (h ++ es) m' taker' (moved_by t es).life c f
  found_on c f was = record {
    slot = λ i e.
        let y = was.slot i e in
        record {
          before = y.before;
          begins = begins_on y.before h es y.begins;
          long = y.long;
          gone = λ s l. gone_on y.before c s (y.gone s l);
          busy = y.busy;
        };
    page = λ i e.
        let y = was.page i e in
        record { before = y.before; begins = begins_on y.before h es y.begins; long = y.long; few = y.few; none = y.none };
  }

  pub founded_on : (v : View) → IsFounded z h m taker t.life v → IsFounded z (h ++ es) m' taker' (moved_by t es).life v
  founded_on v y = record { finds = λ f i. found_on v.caller f (y.finds f i); theirs = λ g j f i. found_on g.caller f (y.theirs g j f i) }

-- ---- where another memory has the same slots

module _ (z : Shape) (h : List Entry) (m m' : PoolWords) (taker : ℕ → Option Caller) (life : ArenaId → Stage)
    (same : (s : ℕ) (k : Caller) → IsTakenBy z m.bits m.sessions taker s k → IsTakenBy z m'.bits m'.sessions taker s k) where
  gone_same : (before : List Entry) (c : Caller) (s : ℕ) → IsGone z before m taker life c s → IsGone z before m' taker life c s
  gone_same before c s (inl o) = inl o
  gone_same before c s (inr x) = inr (x.0, same s x.0 x.1, x.2)

  found_same : (c : Caller) (f : Find) → FoundBy z h m taker life c f → FoundBy z h m' taker life c f
  found_same c f was = record {
    slot = λ i e.
        let y = was.slot i e in
        record { before = y.before; begins = y.begins; long = y.long; gone = λ s l. gone_same y.before c s (y.gone s l); busy = y.busy };
    page = was.page;
  }

  pub founded_same : (v : View) → IsFounded z h m taker life v → IsFounded z h m' taker life v
  founded_same v y = record { finds = λ f i. found_same v.caller f (y.finds f i); theirs = λ g j f i. found_same g.caller f (y.theirs g j f i) }

-- ---- over steps, splits and joins

module _ (z : Shape) (h : List Entry) (m : PoolWords) (taker : ℕ → Option Caller) (life : ArenaId → Stage) where
  pub founded_told : (v p : View) (zs es : List Entry) (fs : ℕ → List Find) → p.caller ≡ v.caller → p.finds ≡ v.finds → all_gathered p ≡ all_gathered v
      → ((f : Find) → In f (fs (length (p.seen ++ zs))) → FoundBy z h m taker life v.caller f) → IsFounded z h m taker life v
      → IsFounded z h m taker life (told p zs es fs)
  founded_told v p zs es fs same finds gs new y = record {
    finds = λ f i. subst (λ (c : Caller). FoundBy z h m taker life c f) (sym same) (⊎_elim
        (λ (j : In f p.finds). y.finds f (subst (In f) finds j))
        (λ (j : In f (fs (length (p.seen ++ zs)))). new f j)
        (in_append f p.finds (fs (length (p.seen ++ zs))) i));
    theirs = λ g j. y.theirs g (subst (In g) (append-nil (all_gathered p) ∙ gs) j);
  }

  -- who has nothing has found nothing
  pub founded_bare : (v : View) → v.finds ≡ [] → all_gathered v ≡ [] → IsFounded z h m taker life v
  founded_bare v finds gs = record {
    finds = λ f i. absurd (subst (In f) finds i);
    theirs = λ g j. absurd (subst (In g) gs j);
  }

  pub founded_gather : (v w : View) → IsFounded z h m taker life v → IsFounded z h m taker life w → IsFounded z h m taker life (gather v w)
  founded_gather v w a b = record {
    finds = a.finds;
    theirs = all_gather v w (λ g. (f : Find) → In f g.finds → FoundBy z h m taker life g.caller f) a.theirs b.theirs b.finds;
  }

-- a draw notes no find of slots
pub draw_no_slots : (expected x : ℕ) (v : View) → NoSlots (note_draw expected x v)
draw_no_slots expected x v n f (inl q) = (ap (λ (g : Find). is_slot g.step) q, ap (λ (g : Find). is_page g.step) q)
draw_no_slots expected x v n f (inr i) = absurd i

-- where nothing was noted of slots, all that was is so
pub none_founded : (z : Shape) (h : List Entry) (m : PoolWords) (taker : ℕ → Option Caller) (life : ArenaId → Stage) (c : Caller) (fs : ℕ → List Find)
    → NoSlots fs → (n : ℕ) (f : Find) → In f (fs n) → FoundBy z h m taker life c f
none_founded z h m taker life c fs slots n f i = record {
  slot = λ e. let q : true ≡ false = sym e ∙ (slots n f i).0 in absurd (cc);
  page = λ e. let q : true ≡ false = sym e ∙ (slots n f i).1 in absurd (cc);
}
