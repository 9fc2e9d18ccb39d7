-- A handle of an automatic arena is given back.
use Rattle.std.proofs.Common.{◌≡◌, ◌≢◌, ℕ, ◌<◌, ◌==◌, Bool, true, List, [], ◌∷◌, refl, ap, sym, ◌∙◌, subst, arith, Some, None, eq-eqb, ne_eqb}
use Rattle.fm_base.specs.{declared.{caller.Caller.{Caller}, arena_id.ArenaId.{ArenaId}}, Calls.{Unhold, Shut, End, Fine, Entry, entry_of}, Finds.{Close, Rest}}
use Rattle.fm_base.specs.{declared.kind.Kind.TheVariants.{Automatic}, Arenas.{Alive, Ended}}
use Rattle.fm_rule_facts.{specs.{Views.{View, In}, Words.{alive_holds}, Holds.{released}}, proofs.Gripping.{handles_are}}
use Rattle.fm_rule_facts.specs.Handles.{Giving, Missed, Kept, Last, last_if, giving_by, giving, given_back, giving_entries}
use Rattle.fm_rule_facts.specs.{Closes.{walk_of, passed_of, dropped}, Steps.{Stepped, none_noted}}
use Rattle.fm_rule.specs.declared.pool.Pool.{Pool}
use Rattle.fm_rule_calls.specs.Kept.{Goes, rest_of, HasEnded, HasNoWords}
use Rattle.fm_rule_calls.proofs.Going.{no_draws, made_by-one, rest_is, hand_is, inside_is, mark_is, known_on, lasts_on, goes_step}
use Rattle.fm_rule_calls.proofs.Waiting.{Waited, waits_by, waits_on}
use Rattle.fm_gate.{specs.{Makers.{Made, made_by_pass}, Needs.{IsOutside}}, proofs.{Outside.{made_on, stands_outside, swept_is}, Handles.{owner_low}}}
use Rattle.fm_close.specs.declared.gave_back.GaveBack.TheVariants as gave
use Rattle.fm_close.specs.{declared.shutting.Shutting.{Shutting}, Does.{begun}, Learnt.{CanGiveBack, AfterBack, AfterSpend, AfterGiveBack}}
use Rattle.fm_close.proofs.{Closes.{passed_of-begun}, Walks.{Finished, ends_so, closed_goes, closed_left}}

-- ---- the exchanges

-- A step that gives back a handle goes on by its own entry.
goes_given : {p q : View} (a : ArenaId) (g : Giving) → Stepped p q (given_back a g p) (giving_entries a g p.caller) none_noted
    → Goes p q (giving_entries a g p.caller)
goes_given a Missed s = waits_by s
goes_given {p = p} a Kept s = goes_step s refl refl (made_by-one p.caller (Unhold a) Fine) no_draws
goes_given {p = p} a Last s = goes_step s refl refl (made_by-one p.caller (Shut a) Fine) no_draws

abbrev Exchanges : Bool → View → View → ArenaId → ℕ → Type 0
Exchanges found p q a word =
    Stepped p q (given_back a (giving found (alive_holds a word)) p) (giving_entries a (giving found (alive_holds a word)) p.caller) none_noted

module _ {o p q : View} (a : ArenaId) (word found : ℕ) (w : Waited o p) (s : Exchanges (found == word) p q a word) where
  -- An exchange that found another word leaves the pass as it was.
  pub backs_on : found ≢ word → Waited o q
  backs_on n = waits_on w (subst (λ (b : Bool). Exchanges b p q a word) (ne_eqb found word n) s)

  -- One that found the word that it expected gives back a handle.
  pub after_back : found ≡ word → alive_holds a found ≢ None → AfterBack o q a word
  after_back e alive =
      let g : Giving = giving_by (alive_holds a word) in
      let hit : Exchanges true p q a word = subst (λ (b : Bool). Exchanges b p q a word) (eq-eqb found word e) s in
      let same : p.caller ≡ o.caller = ap (λ (x : View). x.caller) w.is in
      record {
        goes = w.onward q (giving_entries a g o.caller) (subst (λ (c : Caller). Goes p q (giving_entries a g c)) same (goes_given a g hit));
        rest = rest_is hit ∙ ap (λ (x : View). rest_of (given_back a g x)) w.is;
        alive = subst (λ (n : ℕ). alive_holds a n ≢ None) e alive;
        inside = inside_is hit ∙ ap (λ (x : View). x.inside) w.is;
        mark = mark_is hit ∙ ap (λ (x : View). x.mark) w.is;
        hand = hand_is hit ∙ ap (λ (x : View). x.hand) w.is;
        swept = swept_is hit ∙ ap (λ (x : View). x.swept) w.is;
      }

-- ---- a handle is spent

module _ {pool : Pool} {p q : View} {a : ArenaId} {word : ℕ} (can : CanGiveBack pool p a) (t : AfterBack p q a word) where
  -- Its owner has a number.
  pub owner_after : a.owner < 4096
  owner_after = owner_low a t.goes.sound (known_on t.goes a can.handle.known)

  out : IsOutside pool q
  out = stands_outside t.goes can.outside.of can.outside.no_number (t.hand ∙ can.outside.no_slot)
      (t.swept ∙ can.outside.no_part) (t.inside ∙ can.outside.outside) (t.mark ∙ can.outside.unmarked)

  goes_by : (g : Giving) → giving_by (alive_holds a word) ≡ g → Goes p q (giving_entries a g p.caller)
  goes_by g e = subst (λ (x : Giving). Goes p q (giving_entries a x p.caller)) e t.goes

  rest_by : (g : Giving) → giving_by (alive_holds a word) ≡ g → rest_of q ≡ rest_of (given_back a g p)
  rest_by g e = t.rest ∙ ap (λ (x : Giving). rest_of (given_back a x p)) e

  -- Where there were holds, others are left.
  pub spent_one : (n : ℕ) → alive_holds a word ≡ Some n → 0 < n → AfterSpend pool p q a None
  spent_one n f h =
      let e : giving_by (alive_holds a word) ≡ Kept = ap giving_by f ∙ ap last_if (ne_eqb n 0 (λ z. omega arith)) in
      record {
        did = record { own = entry_of p.caller (Unhold a) Fine ∷ []; does = refl; goes = goes_by Kept e; rest = rest_by Kept e };
        walks = tt;
        outside = out;
      }

  -- Where there were none, the close has visited no mark.
  pub spent_last : (m : Made) → m ≡ made_by_pass q → (n : ℕ) → alive_holds a word ≡ Some n → n ≡ 0 → AfterSpend pool p q a (Some (begun m a))
  spent_last m mine n f z =
      let e : giving_by (alive_holds a word) ≡ Last = ap giving_by f ∙ ap last_if (eq-eqb n 0 z) in
      let g = goes_by Last e in
      let rest = rest_by Last e in
      record {
        did = record { own = entry_of p.caller (Shut a) Fine ∷ []; does = (ap (λ (x : Made). begun x a) (mine ∙ made_on g), refl); goes = g; rest = rest };
        walks = record {
          outside = out;
          walks = record {
            maker = mine;
            unfinished = refl;
            known = known_on g a can.handle.known;
            at = ap (λ (r : Rest). passed_of r.closes a) rest ∙ passed_of-begun p.closes a;
            low = (let n = g.sound.number in omega arith);
          };
        };
        outside = out;
      }

-- ---- and given back

-- What is learnt where others are left.
pub after_kept : {pool : Pool} {p q : View} {a : ArenaId} → AfterSpend pool p q a None → AfterGiveBack pool p q a gave.Kept
after_kept {p = p} {a = a} h =
    let d = h.did in
    record {
      did = record {
        own = entry_of p.caller (Unhold a) Fine ∷ [];
        does = refl;
        goes = subst (λ (es : List Entry). Goes p _ es) d.does d.goes;
        rest = d.rest;
      };
      ended = λ e. absurd (cc);
      no_words = λ e. absurd (cc);
      last = λ e. absurd (cc);
      outside = h.outside;
      lasts = lasts_on d.goes;
    }

-- What is learnt where all marks were visited after the last one, and the arena was swept.
pub after_ended : {pool : Pool} {p q r : View} {a : ArenaId} {s : Shutting} → a.kind ≡ Automatic → AfterSpend pool p q a (Some s) → Finished pool q r s.arena
    → AfterGiveBack pool p r a gave.Ended
after_ended {p = p} {q = q} {r = r} {a = a} {s = s} automatic h w =
    let arena : s.arena ≡ a = ap (λ (x : Shutting). x.arena) h.did.does.0 in
    let shut : Goes p q (entry_of p.caller (Shut a) Fine ∷ []) = subst (λ (es : List Entry). Goes p q es) h.did.does.1 h.did.goes in
    let begun : q.closes ≡ walk_of a 0 ∷ p.closes = ap (λ (x : Rest). x.closes) h.did.rest in
    let all = closed_goes arena shut begun w in
    record {
      did = record {
        own = entry_of p.caller (Shut a) Fine ∷ entry_of p.caller (End a) Fine ∷ w.backs;
        does = ends_so p.caller a q.caller w.backs w.are;
        goes = all;
        rest = w.rest ∙ (ap (λ (x : Rest). record x { closes = dropped s.arena q.closes }) h.did.rest
            ∙ ap (λ (xs : List Close). record (rest_of p) { closes = xs; handles = released a p.handles }) (closed_left arena shut begun w));
      };
      ended = λ e. subst (HasEnded r) arena w.over;
      no_words = λ e. subst (HasNoWords r) arena w.no_words;
      last = λ e i.
          let alive = all.sound.held a (subst (λ (hs : List ArenaId). In a hs) (sym (handles_are a r automatic)) i) in
          let life : Alive ≡ Ended = sym alive.1 ∙ (subst (HasEnded r) arena w.over).life in
          absurd (cc);
      outside = w.outside;
      lasts = lasts_on all;
    }
