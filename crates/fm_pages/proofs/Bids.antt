-- Claiming a page.
use Rattle.std.proofs.Common.{◌≡◌, ◌⊎◌, ℕ, ◌==◌, ◌<◌, Bool, true, false, if◌then◌else◌, List, [], ◌∷◌, refl, ap, sym, ◌∙◌, subst, inl, inr, ⊎_elim, eq-eqb}
use Rattle.std.{proofs.lemmas.List.Elements.{All-cons, All-nil}, specs.Int.{bit_at}}
use Rattle.fm_words.specs.{declared.shape.Shape.{Shape}, Bits.{number_at}}
use Rattle.fm_base.specs.{Calls.{Entry}, Finds.{Find, TakesPage, is_draw}}
use Rattle.fm_rule_facts.specs.{Hands.{takes}, Parts.{pages_taken}, Views.{View}, Steps.{Stepped, none_noted, note_of, is_clear}}
use Rattle.fm_rule.specs.{declared.pool.Pool.{Pool}, Passes.{IsOf}}
use Rattle.fm_rule_calls.proofs.Going.{NoDraws, goes_step, goes_then, no_draws}
use Rattle.fm_rule_calls.specs.Kept.{Goes}
use Rattle.fm_pages.{specs.{declared.page.Page.{Page}, Makers.{made_by_pass}, Claims.{Went, PageClaimed, HasClaimed, TryOutcome}}, proofs.Clear.{clear_still}}

abbrev pub Takes : View → View → (group word bit found : ℕ) → Type 0
Takes p q group word bit found =
    Stepped p q (record p { pages = pages_taken (takes word bit found) (number_at group bit) p.pages }) [] (note_of (TakesPage group word bit) found p)

-- What such a step notes is no draw.
no_draw : (p : View) (group word bit found : ℕ) → NoDraws (note_of (TakesPage group word bit) found p)
no_draw p group word bit found n = All-cons (λ f. is_draw f.step ≡ false) _ [] refl (All-nil (λ f. is_draw f.step ≡ false))

-- ---- one exchange

module _ {p q : View} (group word bit found : ℕ) (none : p.pages ≡ []) (s : Takes p q group word bit found) where
  -- where it is known whether the page is taken
  pub took : (b : Bool) → takes word bit found ≡ b → Went p q (pages_taken b (number_at group bit) [])
  took b e =
      let pages : List ℕ = pages_taken b (number_at group bit) [] in
      let hand : pages_taken (takes word bit found) (number_at group bit) p.pages ≡ pages = (λ j. pages_taken (e j) (number_at group bit) (none j)) in
      let t : Stepped p q (record p { pages = pages }) [] (note_of (TakesPage group word bit) found p) =
      subst (λ (ps : List ℕ). Stepped p q (record p { pages = ps }) [] (note_of (TakesPage group word bit) found p)) hand s in
      record {
        goes = goes_step t refl refl refl (no_draw p group word bit found);
        is = t.is_part ∙ ap (λ (fs : List Find). record p { seen = q.seen; finds = fs; pages = pages }) (sym (ap (λ (x : View). x.finds) t.is_part));
      }

  -- The bit is 1 in the word: the page is taken just where the word is found.
  pub tried : number_at group bit < p.shape.pages → bit_at word bit ≡ 1 → (b : Bool) → (found == word) ≡ b → TryOutcome p q (number_at group bit) b
  tried low one true e = record {
    went = took true (ap (λ (c : Bool). if c then bit_at word bit == 1 else false) e ∙ eq-eqb (bit_at word bit) 1 one);
    low = low;
  }
  tried low one false e = took false (ap (λ (c : Bool). if c then bit_at word bit == 1 else false) e)

-- ---- exchanges that took nothing

-- by them the pass has come from o to p
pub record Bidding (pool : Pool) (o p : View) : Type 0 where
  pub of : IsOf pool p
  pub none : p.pages ≡ []
  pub went : (p ≡ o) ⊎ Went o p []

pub bids_begin : {pool : Pool} {p : View} → IsOf pool p → p.pages ≡ [] → Bidding pool p p
bids_begin o h = record { of = o; none = h; went = inl refl }

module _ {pool : Pool} {o p : View} (b : Bidding pool o p) where
  pub bids_shape : p.shape ≡ o.shape
  bids_shape = ⊎_elim (λ (e : p ≡ o). ap (λ (x : View). x.shape) e) (λ (w : Went o p []). w.goes.same_shape) b.went

  pub bids_clear : is_clear o ≡ true → is_clear p ≡ true
  bids_clear h = ⊎_elim
      (λ (e : p ≡ o). ap is_clear e ∙ h)
      (λ (w : Went o p []). ap is_clear w.is ∙ clear_still o p.seen p.finds o.reads h)
      b.went

  module _ {q : View} where
    -- the way from the first
    pub went_on : {pages : List ℕ} → Went p q pages → Went o q pages
    went_on {pages = pages} w = ⊎_elim
        (λ (e : p ≡ o). subst (λ (x : View). Went x q pages) e w)
        (λ (v : Went o p []). record {
          goes = goes_then v.goes w.goes;
          is = w.is ∙ ap (λ (x : View). record x { seen = q.seen; finds = q.finds; pages = pages }) v.is;
        })
        b.went

    pub bids_go_on : Went p q [] → Bidding pool o q
    bids_go_on w = record {
      of = (w.goes.same_home ∙ b.of.0, w.goes.same_shape ∙ b.of.1);
      none = ap (λ (x : View). x.pages) w.is;
      went = inr (went_on w);
    }

    pub bid_claimed : (page : ℕ) → PageClaimed p q page → PageClaimed o q page
    bid_claimed page c = record { went = went_on c.went; low = subst (λ (z : Shape). page < z.pages) bids_shape c.low }

-- ---- A page is given back.

pub page_freed : {p q : View} → Stepped p q (record p { pages = [] }) [] none_noted → Went p q []
page_freed {p = p} {q = q} s = record {
  goes = goes_step s refl refl refl no_draws;
  is = s.is_part ∙ ap (λ (fs : List Find). record p { seen = q.seen; finds = fs; pages = [] }) (sym (ap (λ (x : View). x.finds) s.is_part));
}

-- A pass that has the page in its hand still is the one that claimed it.
pub claimed_still : {p q : View} {own : List Entry} {page : Page} → Goes p q own → q.pages ≡ page.index ∷ [] → HasClaimed p page → HasClaimed q page
claimed_still g there has =
    record { there = there; maker = has.maker ∙ (λ j. record { home = sym g.same_home j; caller = sym g.same_caller j }) }

-- A page that was claimed just now is in the hand of the pass that claimed it.
pub page_claimed : {o p q : View} {page : Page} → PageClaimed o p page.index → q ≡ p → page.maker ≡ made_by_pass p
    → PageClaimed o q page.index × HasClaimed q page
page_claimed {o = o} {page = page} c same maker = subst (λ (x : View). PageClaimed o x page.index × HasClaimed x page) (sym same)
    (c, record { there = ap (λ (x : View). x.pages) c.went.is; maker = maker })
