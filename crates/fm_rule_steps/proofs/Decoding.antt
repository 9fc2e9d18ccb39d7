-- The words of sessions, read back.
use Rattle.std.proofs.Common.{◌≡◌, ◌≢◌, ℕ, suc, ◌+◌, ◌-◌, ◌<◌, ◌≤◌, ◌==◌, Bool, true, false, if◌then◌else◌, ap, ◌∙◌, arith, inl, inr, eq-eqb, ne_eqb, ◌/◌, ◌%◌, Some, List, get_or, sym, refl}
use Rattle.std.{proofs.{Math.Nat.{mod-lt}, lemmas.List.Elements.{All-contains}}, specs.Prelude.{Contains}}
use Rattle.fm_words.specs.{declared.session.Session.{Session as Decoded}, Sessions.{session_of, free_session, alive, closing}}
use Rattle.fm_words.{proofs.Sessions.{session_of-session_word}, specs.{declared.shape.Shape.{Shape}, Places.{at as place_at, page_word}}}
use Rattle.fm_base.specs.{declared.arena_id.ArenaId.{ArenaId}, Arenas.{kind_number}}
use Rattle.fm_base_machine.specs.Functions.{Stage, Lives, Closes}
use Rattle.fm_rule_facts.specs.{Words.{kept, free_word, alive_word, closing_word}, Facts.{IsStanding, Berth, loose, claimed, mapped, unmapped, Rule}}
use Rattle.fm_rule_facts.specs.{Views.{View}, Loans.{Loan, loan_of, loans_of, IsFree}}
use Rattle.fm_rule_steps.proofs.Reading.{kind_below}

pub kept_else : (n g : ℕ) → g ≢ n → kept n g ≡ g
unfolding kept
kept_else n g ne = ap (λ (b : Bool). if b then g - 1 else g) (ne_eqb g n ne)

pub kept_last : (n g : ℕ) → suc g ≡ n → kept n (suc g) ≡ g
unfolding kept
kept_last n g e =
    ap (λ (b : Bool). if b then suc g - 1 else suc g) (eq-eqb (suc g) n e) ∙ (let q : suc g - 1 ≡ g = omega arith in q)

pub kept_least : (n g : ℕ) → g ≤ kept n g + 1
unfolding kept
kept_least n g = go (g == n)
  where
    go : (b : Bool) → g ≤ (if b then g - 1 else g) + 1
    go true = omega arith
    go false = omega arith

abbrev pub alive_session : ArenaId → ℕ → Decoded
alive_session a holds = record { generation = a.generation; life = alive; kind = kind_number a.kind; owner = a.owner; holds = holds }

abbrev pub shut_session : ArenaId → Decoded
shut_session a = record { generation = a.generation; life = closing; kind = kind_number a.kind; owner = a.owner; holds = 0 }

pub free_read : (n g : ℕ) → session_of (free_word n g) ≡ free_session (kept n g)
unfolding free_word
free_read n g = session_of-session_word (free_session (kept n g))
    (record { kind = omega arith; owner = omega arith; holds = omega arith })

pub live_read : (a : ArenaId) (c : ℕ) → a.owner < 4096 → c ≤ 65535 → session_of (alive_word a c) ≡ alive_session a c
unfolding alive_word
live_read a c o h =
    session_of-session_word (alive_session a c) (record { kind = kind_below a.kind; owner = o; holds = h })

pub shut_read : (a : ArenaId) → a.owner < 4096 → session_of (closing_word a) ≡ shut_session a
unfolding closing_word
shut_read a o =
    session_of-session_word (shut_session a) (record { kind = kind_below a.kind; owner = o; holds = omega arith })

pub stands_not : (x : Stage) → x ≢ Lives → x ≢ Closes → ¬ (IsStanding x)
stands_not x n m (inl e) = n e
stands_not x n m (inr e) = m e

-- ---- words of pages

module _ (z : Shape) (ws : List ℕ) (vs : List View) (r : Rule z ws vs) where
  -- a word of a page that a part of a standing arena has
  pub page_word_of : (a : ArenaId) (w p : ℕ) → IsStanding (r.machine.life a) → r.memory.maps a.slot (w / z.page_words) ≡ Some p
      → r.machine.word a w ≡ get_or ws (place_at z (page_word p (w % z.page_words))) 0
  page_word_of a w p st e =
      let y = r.pages.mapped_is p a.slot (w / z.page_words) (r.pages.map_is a.slot (w / z.page_words) p e) in
      r.pages.says.words a w p st e ∙ sym (r.shows.cells p (w % z.page_words) y.page (mod-lt w r.valid.page_words.0))

  -- a block that isn't lent has zeros
  pub blank_block : (b w : ℕ) → w < z.page_words → IsFree (loans_of r.history) b → r.memory.cells b w ≡ 0
  blank_block b w h f = go (r.owners.berth b) refl
    where
      unlent : (l : Loan) → Contains (loans_of r.history) l → l.block ≢ b
      unlent l i = All-contains (λ (x : Loan). x.block ≢ b) (loans_of r.history) l f i

      go : (x : Berth) → r.owners.berth b ≡ x → r.memory.cells b w ≡ 0
      go loose e = r.pages.loose_is b e w h
      go (claimed j) e = (r.pages.claimed_is b j e).1 w h
      go (mapped k i) e = let y = r.pages.mapped_is b k i e in absurd (unlent (loan_of b y.arena i) y.lent refl)
      go (unmapped j a i) e = absurd (unlent (loan_of b a i) (r.pages.unmapped_is b j i a e).lent refl)
