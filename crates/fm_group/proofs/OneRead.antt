-- One run is read.
use Rattle.std.{proofs.Common.{◌≡◌, ◌≢◌, ℕ, ◌+◌, ◌*◌, ◌/◌, ◌<◌, ◌≤◌, List, [], ◌∷◌, ◌++◌, length, append_assoc, refl, sym, ap, ◌∙◌, subst, arith, None, Some, Result, Ok, Err}, specs.Prelude.{ℤ}, proofs.lemmas.List.{append-nil}}
use Rattle.fm_base.specs.{declared.{caller.Caller.{Caller}, refusal.Refusal.{Refusal, TheVariants.{Closed, Memory}}}, Calls.{Entry}}
use Rattle.fm_base.{specs.{View.{Did, Makes, View}}, proofs.{Making.{Makes-none, Makes-then}}}
use Rattle.fm_group_lists.specs.Groups.{Group}
use Rattle.fm_group.proofs.Lasting.{later}
use Rattle.fm_group.specs.{Asked.{CanTry}, Counting.{ReadsValue}, Table.{Counter, named_by}}
use Rattle.fm_group.specs.Reading.{DoesLook, DoesReadNamed, DoesReadRun, EndsAt, ReadsNamed, ReadsPart, claim_of, count_of, free, none_read, records_shut, run_length, table_shut, taken}

-- ---- the values that its claims name

-- those of so many places were read, and stand behind what was found before
pub record NamedTo (x y : View) (w : Counter) (words : List ℕ) (j : ℕ) (old new : List Group) : Type 0 where
  pub xs : List Group
  pub grown : new ≡ old ++ xs
  pub did : Did x y (ReadsNamed x.caller w words j xs)
  pub can : CanTry y w 0

pub named_none : {x : View} {w : Counter} (words : List ℕ) (old : List Group) → CanTry x w 0 → NamedTo x x w words 0 old old
named_none {x} words old can =
    record { xs = []; grown = sym (append-nil old); did = record { own = []; does = none_read; makes = Makes-none x }; can = can }

pub some_last : (xs : List Group) (g : Group) → xs ++ g ∷ [] ≢ []
some_last [] g e = absurd (cc)
some_last (x ∷ xs) g e = absurd (cc)

module _ {x y : View} {w : Counter} {words : List ℕ} {j : ℕ} {old new : List Group} (h : NamedTo x y w words j old new) where
  pub named_free : named_by w.values (claim_of words j) ≡ None → NamedTo x y w words (j + 1) old new
  named_free none = record {
    xs = h.xs;
    grown = h.grown;
    did = record { own = h.did.own; does = free h.did.does none; makes = h.did.makes };
    can = h.can;
  }

  module _ (value : ℕ) (names : named_by w.values (claim_of words j) ≡ Some value) {u : View} where
    one_more : (z : ℤ) (d : Did y u (ReadsValue y.caller w.values value (Ok z)))
        → Did x u (ReadsNamed x.caller w words (j + 1) (h.xs ++ (z, count_of words j) ∷ []))
    one_more z d = record {
      own = h.did.own ++ d.own;
      does = taken h.did.does (z, count_of words j) value d.own names refl
          (subst (λ (c : Caller). ReadsValue c w.values value (Ok z) d.own) h.did.makes.same_caller d.does);
      makes = Makes-then x y u h.did.own d.own h.did.makes d.makes;
    }

    pub named_taken : (z : ℤ) → Did y u (ReadsValue y.caller w.values value (Ok z)) → u.inside ≡ None
        → NamedTo x u w words (j + 1) old (new ++ (z, count_of words j) ∷ [])
    named_taken z d outside = record {
      xs = h.xs ++ (z, count_of words j) ∷ [];
      grown = ap (λ (gs : List Group). gs ++ (z, count_of words j) ∷ []) h.grown ∙ append_assoc old h.xs ((z, count_of words j) ∷ []);
      did = one_more z d;
      can = later h.can d.makes outside;
    }

    -- There was no memory for it,
    pub named_no_memory : j < length words / 2 → (z : ℤ) → Did y u (ReadsValue y.caller w.values value (Ok z)) → (left : List Group)
        → Did x u (DoesReadNamed x.caller w words old left (Err Memory))
    named_no_memory within z d left =
        let more = one_more z d in
        record {
          own = more.own;
          does = (j + 1, h.xs ++ (z, count_of words j) ∷ [], omega (arith, within), more.does, some_last h.xs (z, count_of words j));
          makes = more.makes;
        }

    -- or its arena was found closed.
    pub named_shut : j < length words / 2 → (r : Refusal) → Did y u (ReadsValue y.caller w.values value (Err r)) → (left : List Group)
        → Did x u (DoesReadNamed x.caller w words old left (Err r))
    named_shut within r d left = by r d.own d.makes d.does
      where
        by : (q : Refusal) (own : List Entry) → Makes y u own → ReadsValue y.caller w.values value (Err q) own
            → Did x u (DoesReadNamed x.caller w words old left (Err q))
        by Closed own makes e = record {
          own = h.did.own ++ own;
          does = record {
            j = j;
            within = within;
            value = value;
            xs = h.xs;
            first = h.did.own;
            more = own;
            named = h.did.does;
            names = names;
            read = subst (λ (c : Caller). ReadsValue c w.values value (Err Closed) own) h.did.makes.same_caller e;
            parts = refl;
          };
          makes = Makes-then x y u h.did.own own h.did.makes makes;
        }
        by Memory own makes e = absurd e.does
        by q own makes e = absurd e.to

  pub named_all : j ≡ length words / 2 → Did x y (DoesReadNamed x.caller w words old new (Ok tt))
  named_all all = record {
    own = h.did.own;
    does = (h.xs, h.grown, subst (λ (n : ℕ). ReadsNamed x.caller w words n h.xs h.did.own) all h.did.does);
    makes = h.did.makes;
  }

-- ---- the run

module _ {x y : View} (w : Counter) (k : ℕ) (words : List ℕ) where
  -- The table's arena was found closed,
  pub run_shut : (r : Refusal) → Did x y (DoesLook x.caller w k words (Err r)) → (old new : List Group) → Did x y (DoesReadRun x.caller w k old new (Err r))
  run_shut r d old new = by r d.own d.makes d.does
    where
      by : (q : Refusal) (own : List Entry) → Makes x y own → DoesLook x.caller w k words (Err q) own → Did x y (DoesReadRun x.caller w k old new (Err q))
      by Closed own makes h = record { own = own; does = subst (λ (es : List Entry). EndsAt x.caller w k es) (sym h) table_shut; makes = makes }
      by q own makes h = absurd h

  -- or its words were read, and what came then comes of all.
  module _ (long : length words ≡ 2 * run_length w.table k) (d : Did x y (DoesLook x.caller w k words (Ok tt))) where
    half : length words / 2 ≡ run_length w.table k
    half = omega (arith, long)

    abbrev named_there : (j : ℕ) (xs : List Group) (own : List Entry) → ReadsNamed y.caller w words j xs own → ReadsPart x.caller w k j xs (d.own ++ own)
    named_there j xs own h = record {
      words = words;
      long = long;
      values = own;
      named = subst (λ (c : Caller). ReadsNamed c w words j xs own) d.makes.same_caller h;
      parts = ap (λ (es : List Entry). es ++ own) d.does;
    }

    pub run_read : {u : View} (old new : List Group) (r : Result (Unit {0}) Refusal) → Did y u (DoesReadNamed y.caller w words old new r)
        → Did x u (DoesReadRun x.caller w k old new r)
    run_read {u} old new r e = by r e.own e.makes e.does
      where
        by : (q : Result (Unit {0}) Refusal) (own : List Entry) → Makes y u own → DoesReadNamed y.caller w words old new q own
            → Did x u (DoesReadRun x.caller w k old new q)
        by (Ok t) own makes h = record {
          own = d.own ++ own;
          does = (h.0, h.1, subst (λ (n : ℕ). ReadsPart x.caller w k n h.0 (d.own ++ own)) half (named_there (length words / 2) h.0 own h.2));
          makes = Makes-then x y u d.own own d.makes makes;
        }
        by (Err Closed) own makes h = record {
          own = d.own ++ own;
          does = subst (λ (es : List Entry). EndsAt x.caller w k es) (append_assoc d.own h.first h.more ∙ ap (λ (es : List Entry). d.own ++ es) (sym h.parts))
              (records_shut h.j h.value h.xs (d.own ++ h.first) h.more (named_there h.j h.xs h.first h.named) (let within = h.within in omega (arith, within, half)) h.names
              (subst (λ (c : Caller). ReadsValue c w.values h.value (Err Closed) h.more) d.makes.same_caller h.read));
          makes = Makes-then x y u d.own own d.makes makes;
        }
        by (Err Memory) own makes h = record {
          own = d.own ++ own;
          does = (h.0, h.1, subst (λ (n : ℕ). h.0 ≤ n) half h.2, named_there h.0 h.1 own h.3, h.4);
          makes = Makes-then x y u d.own own d.makes makes;
        }
        by (Err q) own makes h = absurd h
