-- What is found of a hold or a handle where the name is no line's own.
use Rattle.std.{proofs.{Common.{◌≡◌, ℕ, length, List, refl, subst, sym, Option, None}, lemmas.Option.{MatchOption-at_none}}, specs.Prelude.{MatchOption}}
use Rattle.fm_script_lines.specs.{declared.{standing.Standing.{Standing}, table.Table.{Table}}, Learnt.{TookFrom, stands_by}, Numbers.{number_at}}
use Rattle.fm_script_lines.{specs.{Standings.{handle_in, hold_in}, Tables.{IsOwn}}, proofs.Naming.{lent_none, not-own}}

-- the place of a name among the table's own, or that there is none
abbrev IsPlace : Table → List ℕ → Option ℕ → Type 0
IsPlace t name place = MatchOption place
    ((at : ℕ) → IsOwn (length t.base.now) t.start (length t.own.items) (number_at t.names.now name) at → ⊥)
    (IsOwn (length t.base.now) t.start (length t.own.items) (number_at t.names.now name))

module _ (t : Table) (name : List ℕ) (place : Option ℕ) (is : IsPlace t name place) (none : place ≡ None) where
  -- There is no hold.
  pub no_hold : hold_in (stands_by t name) ≡ None
  no_hold =
      not-own hold_in (λ s. (lent_none s).0) refl t.base.now t.start t.own.items (number_at t.names.now name) (MatchOption-at_none _ _ none is)

  -- Nor is there a handle.
  pub no_handle : handle_in (stands_by t name) ≡ None
  no_handle =
      not-own handle_in (λ s. (lent_none s).1) refl t.base.now t.start t.own.items (number_at t.names.now name) (MatchOption-at_none _ _ none is)

-- Nothing was taken.
pub none_taken : {T : Type 0} (left : Standing → Standing) (token : Standing → Option T) (t : Table) (name : List ℕ) (found : Option T)
    → token (stands_by t name) ≡ None → found ≡ None → TookFrom left token t t name found
none_taken left token t name found none is = subst (λ o. TookFrom left token t t name o) (sym is) (none, refl)
