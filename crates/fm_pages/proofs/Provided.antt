-- A part gets a page, where it has none and one is free.
use Rattle.std.proofs.Common.{◌≡◌, ◌≢◌, ℕ, ◌-◌, true, false, List, [], ◌∷◌, refl, ap, sym, ◌∙◌, subst, inl, inr, Err}
use Rattle.fm_words.specs.declared.shape.Shape.{Shape}
use Rattle.fm_base.specs.{declared.{caller.Caller.{Caller}, arena_id.ArenaId.{ArenaId}}, Calls.{Entry, Lend, Fine, entry_of}, Histories.{made_by}}
use Rattle.fm_base.specs.declared.refusal.Refusal.{Refusal}
use Rattle.fm_rule_facts.specs.{Loans.{HasPart, loans_of}, Parts.{mapping_of, reads_after}, Views.{View, unlent}, Moves.{LearnsMap}}
use Rattle.fm_rule_facts.specs.Steps.{Stepped, none_noted}
use Rattle.fm_pages.specs.{Claims.{Went, PageClaimed, NoneClaimed, ClaimOutcome}, Maps.{Way, PageMapped, PartTaken}, Provides.{Provided}}
use Rattle.fm_pages.proofs.{Clear.{still_seen}, Looking.{all_earlier}, Parts.{way_then, way_went, way_read, read_there, clear_way}}
use Rattle.fm_base.specs.declared.refusal.Refusal.TheVariants as refusal
use Rattle.fm_rule_steps.proofs.Claiming.{whole_clear}

-- `claim` is refused with nothing else
pub refused : {q r : View} (f : Refusal) → ClaimOutcome q r (Err f) → NoneClaimed q r
refused refusal.PoolFull n = n
refused f n = absurd n

-- The part had a page.
pub had_page : {p q : View} (a : ArenaId) (i x : ℕ) → x ≢ 0 → p.pages ≡ [] → Stepped p q (record p { reads = reads_after i x p.reads }) [] none_noted
    → Provided p q a i true
had_page a i x n none s = record { own = []; lends = inl refl; way = way_read i x none s; outcome = (x - 1, read_there i x n s) }

-- ---- no page is free

pub none_free : {p q r : View} (a : ArenaId) (i x : ℕ) → x ≡ 0 → p.pages ≡ [] → Stepped p q (record p { reads = reads_after i x p.reads }) [] none_noted
    → LearnsMap p a i x q → NoneClaimed q r → Provided p r a i false
none_free {p = p} {q = q} {r = r} a i x zero none s l c =
    let v = way_read i x none s in
    record {
      own = [];
      lends = inl refl;
      way = way_then v (way_went c.went);
      outcome = record {
        found = all_earlier v.goes c.found;
        before = q.seen;
        later = c.went.goes.more;
        since = (v.goes.more, v.goes.seen);
        seen = c.went.goes.seen;
        quiet = ap (λ (k : Caller). made_by k c.went.goes.more) (sym v.goes.same_caller) ∙ c.went.goes.by_pass;
        lacked = l.none zero;
        exact = λ h.
            let now = clear_way v h in
            let shape : r.shape ≡ p.shape = c.went.goes.same_shape ∙ v.goes.same_shape in record {
              all_lent = subst (λ (z : Shape). unlent z.pages (loans_of r.seen) ≡ 0) shape (c.all_lent now);
              lacks = subst (λ (es : List Entry). ¬ (HasPart (loans_of es) a i)) (sym (still_seen c.went.goes (whole_clear q now))) (l.none zero);
            };
      };
    }

-- ---- a page is claimed and mapped

module _ {p q r : View} (a : ArenaId) (i x page : ℕ) (none : p.pages ≡ [])
    (s : Stepped p q (record p { reads = reads_after i x p.reads }) [] none_noted) (c : PageClaimed q r page) where
  before_map : Way p r [] (page ∷ [])
  before_map = way_then (way_read i x none s) (way_went c.went)

  pub provided : {m : View} → PageMapped r m a i page → Provided p m a i true
  provided t = record {
    own = entry_of r.caller (Lend page a i) Fine ∷ [];
    lends = inr (page, ap (λ (k : Caller). entry_of k (Lend page a i) Fine ∷ []) before_map.goes.same_caller);
    way = way_then before_map t.way;
    outcome = (page, t.read);
  }

  -- Another pass was first.
  pub race_lost : {m z : View} → PartTaken r m a i page → Went m z [] → Provided p z a i true
  race_lost t g =
      let w = way_went g in
      record { own = []; lends = inl refl; way = way_then (way_then before_map t.way) w; outcome = (t.other, w.keeps (mapping_of i t.other) t.read) }
