-- Acts inside an arena, and leaving it.
use Rattle.std.proofs.Common.{◌≡◌, ℕ, ◌/◌, ◌%◌, ◌<◌, List, [], refl, ap, sym, ◌∙◌, subst, ⊎_elim, Option, Some, None, inl}
use Rattle.fm_base.specs.{declared.{caller.Caller.{Caller}, arena_id.ArenaId.{ArenaId}}, Calls.{Call, Leave, Reply, Fine}, View.{inside_after, inside_next}}
use Rattle.fm_base.specs.Does.{DoesAct}
use Rattle.fm_words.specs.{declared.shape.Shape.{Shape}, Places.{at, page_word}}
use Rattle.fm_rule_facts.specs.{Parts.{Mapping, mapping_of}, Views.{View, In}, Steps.{Stepped, HasPlace, none_noted, acted}}
use Rattle.fm_rule.specs.{declared.pool.Pool.{Pool}, Passes.{IsOf}}
use Rattle.fm_rule_calls.specs.Kept.{Goes, rest_of}
use Rattle.fm_rule_calls.proofs.Going.{goes_then, made_by-acted, no_draws, rest_is, hand_is, inside_is, mark_is, lasts_on, goes_step}
use Rattle.fm_pages.specs.Places.{CanFind, Placed}
use Rattle.fm_gate.specs.{Needs.{CanReach, CanLeave}, Learnt.{AfterAct, AfterLeave}, Reaching.{Found, Reached}}
use Rattle.fm_gate.proofs.Outside.{swept_is, stands_outside, stands_inside}

-- The call neither comes into an arena nor leaves one
pub record IsAct (f : ArenaId → Call) (reply : Reply) : Type 0 where
  pub stays : (a : ArenaId) → inside_next (Some a) (f a) reply ≡ Some a

inside_acted : (i : Option ArenaId) (c : Caller) (f : ArenaId → Call) (reply : Reply) → IsAct f reply → i ≡ inside_after i (acted i c f reply)
inside_acted None c f reply is = refl
inside_acted (Some a) c f reply is = sym (is.stays a)

does_act : (i : Option ArenaId) (id : ArenaId) (c : Caller) (f : ArenaId → Call) (reply : Reply) → i ≡ Some id → DoesAct i c f reply (acted i c f reply)
does_act i id c f reply e = subst (λ (x : Option ArenaId). DoesAct x c f reply (acted x c f reply)) (sym e) refl

-- ---- an act

-- It has made no step.
pub found_here : {p m : View} → m ≡ p → Found p m
found_here {p = p} e = record {
  onward = λ q own g. subst (λ (x : View). Goes x q own) e g;
  is = e ∙ (λ j. record p {
    seen = ap (λ (x : View). x.seen) (sym e) j;
    finds = ap (λ (x : View). x.finds) (sym e) j;
    reads = ap (λ (x : View). x.reads) (sym e) j;
  });
}

-- It has read a map word.
found_by : {p m : View} (reads : List Mapping) → Stepped p m (record p { reads = reads }) [] none_noted → Found p m
found_by {p = p} {m = m} reads s =
    let g : Goes p m [] = goes_step s refl refl refl no_draws in
    record {
      onward = λ q own h. goes_then g h;
      is = s.is_part ∙ (λ j. record p {
        seen = m.seen;
        finds = ap (λ (x : View). x.finds) (sym s.is_part) j;
        reads = ap (λ (x : View). x.reads) (sym s.is_part) j;
      });
    }

-- Where a word was found.
found_word : {p m : View} {word place : ℕ} → Placed p m word place → Found p m
found_word {p = p} {m = m} at = ⊎_elim
    (λ (e : m ≡ p). found_here e)
    (λ (s : (reads : List Mapping) × Stepped p m (record p { reads = reads }) [] none_noted). found_by s.0 s.1)
    at.by

-- A word that can be reached can be found,
pub can_find : {pool : Pool} {p : View} {word : ℕ} → CanReach pool p word → CanFind p word
can_find r = record { id = r.id; inside = r.inside.inside; part = inl r.given }

-- and be reached where it was found.
pub reached : {pool : Pool} {p m : View} {word place : ℕ} → CanReach pool p word → Placed p m word place → Reached pool p m word place
reached {pool = pool} r at =
    let w = found_word at in
    record {
      found = w;
      of = subst (λ (x : View). IsOf pool x) (sym w.is) r.inside.of;
      given = at.reach (record { id = r.id; inside = r.inside.inside; given = r.given });
      place = at.place;
    }

module _ {p m q : View} {f : ArenaId → Call} {reply : Reply} (is : IsAct f reply) (w : Found p m)
    (s : Stepped m q m (acted m.inside m.caller f reply) none_noted) where
  pub act_goes : Goes p q (acted p.inside p.caller f reply)
  act_goes =
      let g : Goes m q (acted m.inside m.caller f reply) = goes_step s refl (inside_acted m.inside m.caller f reply is) (made_by-acted m.inside m.caller f reply) no_draws in
      subst (λ (x : View). Goes p q (acted x.inside x.caller f reply)) w.is (w.onward q (acted m.inside m.caller f reply) g)

  -- What is learnt of one act.
  pub after_act : {pool : Pool} {word : ℕ} → CanReach pool p word → AfterAct pool p q f reply
  after_act can = record {
    did = record {
      own = acted p.inside p.caller f reply;
      does = does_act p.inside can.id p.caller f reply can.inside.inside;
      goes = act_goes;
      rest = rest_is s ∙ ap rest_of w.is;
    };
    inside = λ id now. stands_inside act_goes now.of now.no_number (hand_is s ∙ (ap (λ (x : View). x.hand) w.is ∙ now.no_slot))
        (swept_is s ∙ (ap (λ (x : View). x.swept) w.is ∙ now.no_part)) (inside_is s ∙ (ap (λ (x : View). x.inside) w.is ∙ now.inside));
    lasts = lasts_on act_goes;
  }

  -- A place that was found stands.
  pub place_on : {word place : ℕ} → HasPlace m word place → HasPlace q word place
  place_on {word = word} h =
      let shape : m.shape ≡ q.shape = ap (λ (x : View). x.shape) (sym s.is_part) in
      let reads : m.reads ≡ q.reads = ap (λ (x : View). x.reads) (sym s.is_part) in
      record {
        page = h.page;
        low = subst (λ (z : Shape). h.page < z.pages) shape h.low;
        read = subst (λ (x : Shape × List Mapping). In (mapping_of (word / x.0.page_words) h.page) x.1) (λ j. (shape j, reads j)) h.read;
        is = h.is ∙ ap (λ (z : Shape). at z (page_word h.page (word % z.page_words))) shape;
      }

-- ---- leaving

leaves_to : (i : Option ArenaId) (c : Caller) → None ≡ inside_after i (acted i c Leave Fine)
leaves_to None c = refl
leaves_to (Some a) c = refl

module _ {p q : View} (s : Stepped p q (record p { inside = None; mark = None }) (acted p.inside p.caller Leave Fine) none_noted) where
  -- To clear the mark is to leave the arena that the pass is inside.
  pub unmark_goes : Goes p q (acted p.inside p.caller Leave Fine)
  unmark_goes = goes_step s refl (leaves_to p.inside p.caller) (made_by-acted p.inside p.caller Leave Fine) no_draws

  -- What is learnt of `leave`.
  pub after_leave : {pool : Pool} → CanLeave pool p → AfterLeave pool p q
  after_leave can = record {
    did = record {
      own = acted p.inside p.caller Leave Fine;
      does = does_act p.inside can.id p.caller Leave Fine can.inside.inside;
      goes = unmark_goes;
      rest = rest_is s;
    };
    outside = stands_outside unmark_goes can.inside.of can.inside.no_number (hand_is s ∙ can.inside.no_slot) (swept_is s ∙ can.inside.no_part)
        (inside_is s) (mark_is s);
    lasts = lasts_on unmark_goes;
  }
