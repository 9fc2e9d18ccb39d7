-- Runs are read in their order, and all of them.
use Rattle.std.proofs.Common.{◌≡◌, ℕ, ◌+◌, ◌<◌, List, [], ◌++◌, refl, subst, None, Ok, Err}
use Rattle.fm_base.specs.{declared.{caller.Caller.{Caller}, refusal.Refusal.{Refusal, TheVariants.{Closed, Memory}}}, Calls.{Entry}}
use Rattle.fm_base.{specs.{View.{Did, Makes, View}}, proofs.{Making.{Makes-none, Makes-then}}}
use Rattle.fm_group_lists.specs.Groups.{Group}
use Rattle.fm_group.proofs.Lasting.{later}
use Rattle.fm_group.specs.{Asked.{CanTry}, Table.{Counter}}
use Rattle.fm_group.specs.Reading.{DoesReadPlaces, DoesReadRun, EndsAt, ReadsPart, ReadsRun, ReadsRuns, at_run, no_run, one_run, runs_in}

-- so many runs were read, and this was found
pub record ReadTo (x y : View) (w : Counter) (k : ℕ) (xs : List Group) : Type 0 where
  pub did : Did x y (ReadsRuns x.caller w k xs)
  pub can : CanTry y w 0

pub read_none : {x : View} {w : Counter} → CanTry x w 0 → ReadTo x x w 0 []
read_none {x} can = record { did = record { own = []; does = no_run; makes = Makes-none x }; can = can }

module _ {x y u : View} {w : Counter} {k : ℕ} {xs : List Group} (h : ReadTo x y w k xs) (new : List Group) where
  pub read_more : Did y u (DoesReadRun y.caller w k xs new (Ok tt)) → u.inside ≡ None → ReadTo x u w (k + 1) new
  read_more d outside =
      let r = d.does in
      record {
        did = record {
          own = h.did.own ++ d.own;
          does = rw r.1 (one_run r.0 h.did.own d.own h.did.does (subst (λ (c : Caller). ReadsRun c w k r.0 d.own) h.did.makes.same_caller r.2));
          makes = Makes-then x y u h.did.own d.own h.did.makes d.makes;
        };
        can = later h.can d.makes outside;
      }

  pub read_ended : k < runs_in w.table → (r : Refusal) → Did y u (DoesReadRun y.caller w k xs new (Err r)) → Did x u (DoesReadPlaces x.caller w (Err r))
  read_ended within r d = by r d.own d.makes d.does
    where
      same : y.caller ≡ x.caller
      same = h.did.makes.same_caller

      by : (q : Refusal) (own : List Entry) → Makes y u own → DoesReadRun y.caller w k xs new (Err q) own → Did x u (DoesReadPlaces x.caller w (Err q))
      by Closed own makes e = record {
        own = h.did.own ++ own;
        does = record {
          k = k;
          within = within;
          found = xs;
          before = h.did.own;
          reads = h.did.does;
          last = own;
          ended = subst (λ (c : Caller). EndsAt c w k own) same e;
          parts = refl;
        };
        makes = Makes-then x y u h.did.own own h.did.makes makes;
      }
      by Memory own makes (j, ys, most, part, some) = record {
        own = h.did.own ++ own;
        does = at_run k j xs ys h.did.own own within most h.did.does (subst (λ (c : Caller). ReadsPart c w k j ys own) same part) some;
        makes = Makes-then x y u h.did.own own h.did.makes makes;
      }
      by q own makes e = absurd e

pub all_read : {x y : View} {w : Counter} {k : ℕ} {xs : List Group} → ReadTo x y w k xs → k ≡ runs_in w.table → Did x y (DoesReadPlaces x.caller w (Ok xs))
all_read {x} {y} {w} {k} {xs} h all = record { own = h.did.own; does = subst (λ (m : ℕ). ReadsRuns x.caller w m xs h.did.own) all h.did.does; makes = h.did.makes }
