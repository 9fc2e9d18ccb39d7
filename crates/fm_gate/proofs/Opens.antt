-- What is learnt of opening an arena.
use Rattle.std.{proofs.Common.{◌≡◌, ℕ, Bool, true, if◌then◌else◌, List, [], ◌∷◌, refl, sym, ap, ◌∙◌, subst, inl}, specs.Prelude.{Ok, Err}}
use Rattle.fm_base.specs.{declared.{caller.Caller.{Caller}, arena_id.ArenaId.{ArenaId}, kind.Kind.{Kind}}, Calls.{Entry, Open, Fine, entry_of}}
use Rattle.fm_base.proofs.Outcomes.{opened_new}
use Rattle.fm_base.specs.declared.kind.Kind.TheVariants as kind
use Rattle.fm_base.specs.declared.refusal.Refusal.TheVariants as refusal
use Rattle.fm_rule_facts.specs.{Hands.{Hand, nothing, slots_in}, Loans.{loans_of, loans_after}, Views.{View, In}, Holds.{is_automatic, handles_with}}
use Rattle.fm_rule_facts.proofs.{Gripping.{automatic}, Lending.{loans_after-append}}
use Rattle.fm_rule.specs.declared.pool.Pool.{Pool}
use Rattle.fm_rule_calls.{specs.{Kept.{Goes, rest_of}, Told.{silent_view}}, proofs.{Going.{goes_then, lasts_on}, Telling.{silent_makes}}}
use Rattle.fm_gate.specs.{Needs.{IsOutside}, Slots.{SlotTaken, NoneTaken, OpenedIn}, Learnt.{IsNew, handles_opened, AfterOpen}}
use Rattle.fm_gate.proofs.Outside.{of_on, stands_outside}

-- What the pass has then is what it had, but for these handles: it has no slot.
rest_with : (p q : View) (hs : List ArenaId) → p.hand ≡ nothing → q ≡ record p { seen = q.seen; finds = q.finds; hand = nothing; handles = hs }
    → rest_of q ≡ record (rest_of p) { handles = hs }
rest_with p q hs h is = ap rest_of is ∙ ap (λ (x : Hand). record (rest_of p) { slots = slots_in x; handles = hs }) (sym h)

no_handle : (k : Kind) (hs : List ArenaId) → hs ≡ handles_opened k (Err refusal.NoSlot) hs
no_handle kind.Global hs = refl
no_handle kind.Automatic hs = refl
no_handle kind.Confined hs = refl
no_handle kind.Shared hs = refl

-- A whole pass whose entries lend nothing leaves the loans as they were.
lends_none : {p q : View} {own : List Entry} → Goes p q own → loans_after (loans_of p.seen) own ≡ loans_of p.seen
    → p.whole ≡ true → loans_of q.seen ≡ loans_of p.seen
lends_none {p = p} g none whole =
    ap loans_of g.seen ∙ (loans_after-append [] p.seen g.more ∙ (ap (loans_after (loans_of p.seen)) (g.alone whole) ∙ none))

-- What is learnt where no slot could be taken.
pub after_no_slot : {pool : Pool} {p q : View} {k : Kind} → IsOutside pool p → NoneTaken p q → AfterOpen pool p q k (Err refusal.NoSlot)
after_no_slot {p = p} {q = q} {k = k} out n =
    let is = n.went.is in
    record {
      did = record {
        own = [];
        does = refl;
        goes = n.went.goes;
        rest = rest_with p q p.handles out.no_slot is ∙ ap (λ (hs : List ArenaId). record (rest_of p) { handles = hs }) (no_handle k p.handles);
      };
      no_loan = refl;
      is_new = tt;
      handle = λ e. tt;
      slot = tt;
      no_slot = (
        refl,
        record {
          find = n.found;
          early = n.early;
          busy = n.busy;
          is = is ∙ ap (λ (x : Hand). record p { seen = q.seen; finds = q.finds; hand = x }) (sym out.no_slot);
        },
      );
      lends = lends_none n.went.goes refl;
      outside = stands_outside n.went.goes out.of out.no_number (ap (λ (x : View). x.hand) is) (ap (λ (x : View). x.swept) is ∙ out.no_part)
          (ap (λ (x : View). x.inside) is ∙ out.outside) (ap (λ (x : View). x.mark) is ∙ out.unmarked);
      lasts = lasts_on n.went.goes;
    }

-- An automatic arena has its first handle, and no other arena has one.
first_handle : (a : ArenaId) (hs : List ArenaId) → a.kind ≡ kind.Automatic → handles_with a hs ≡ a ∷ hs
first_handle a hs e = ap (λ (b : Bool). if b then a ∷ hs else hs) (automatic a e)

handles_by : (k : Kind) (a : ArenaId) (hs : List ArenaId) → a.kind ≡ k → handles_with a hs ≡ handles_opened k (Ok a) hs
handles_by kind.Global a hs e = ap (λ (x : Kind). if is_automatic x then a ∷ hs else hs) e
handles_by kind.Automatic a hs e = first_handle a hs e
handles_by kind.Confined a hs e = ap (λ (x : Kind). if is_automatic x then a ∷ hs else hs) e
handles_by kind.Shared a hs e = ap (λ (x : Kind). if is_automatic x then a ∷ hs else hs) e

abbrev opens : ArenaId → Caller → List Entry
opens a c = entry_of c (Open a) Fine ∷ []

module _ {p m q : View} {a : ArenaId} {slot : ℕ} {k : Kind} (t : SlotTaken p m slot) (o : OpenedIn m q slot k a) where
  goes : Goes p q (opens a p.caller)
  goes = goes_then t.went.goes (subst (λ (c : Caller). Goes m q (opens a c)) t.went.goes.same_caller o.goes)

  is : q ≡ record p { seen = q.seen; finds = q.finds; hand = nothing; handles = handles_with a p.handles }
  is = o.is ∙ ap (λ (x : View). record x { seen = q.seen; finds = q.finds; hand = nothing; handles = handles_with a x.handles }) t.went.is

  -- The arena is new.
  is_new : IsNew p q a
  is_new =
      let n = opened_new (silent_view p) (silent_view q) (opens a p.caller) p.caller a (silent_makes goes) (inl refl) in
      record { unknown = λ h. (let u = n.unknown in absurd (cc)); known = n.known }

  -- What is learnt where one was taken.
  pub after_opened : {pool : Pool} → IsOutside pool p → AfterOpen pool p q k (Ok a)
  after_opened {pool = pool} out = record {
    did = record {
      own = opens a p.caller;
      does = (o.kind, o.owner ∙ t.went.goes.same_caller, refl);
      goes = goes;
      rest = rest_with p q (handles_with a p.handles) out.no_slot is
          ∙ ap (λ (hs : List ArenaId). record (rest_of p) { handles = hs }) (handles_by k a p.handles o.kind);
    };
    no_loan = refl;
    is_new = is_new;
    handle = λ auto. record {
      of = of_on pool goes out.of;
      known = is_new.known;
      has = subst (λ (hs : List ArenaId). In a hs) (sym (ap (λ (x : View). x.handles) is ∙ first_handle a p.handles (o.kind ∙ auto))) (inl refl);
      automatic = o.kind ∙ auto;
    };
    slot = λ w all. t.idle w (all slot t.low);
    no_slot = tt;
    lends = lends_none goes refl;
    outside = stands_outside goes out.of out.no_number (ap (λ (x : View). x.hand) is) (ap (λ (x : View). x.swept) is ∙ out.no_part)
        (ap (λ (x : View). x.inside) is ∙ out.outside) (ap (λ (x : View). x.mark) is ∙ out.unmarked);
    lasts = lasts_on goes;
  }
