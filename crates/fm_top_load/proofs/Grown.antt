-- What is learnt where a portion was put.
use Rattle.std.{proofs.{Common.{◌≡◌, ℕ, ◌%◌, List, ◌++◌, length, Result, Ok, Err, None, refl, subst, ◌∙◌}, Math.Nat.{le_trans}}, specs.Prelude.{IfErr}}
use Rattle.fm_base.specs.{declared.{arena_id.ArenaId.{ArenaId}, caller.Caller.{Caller}, refusal.Refusal.{Refusal}}, Does.{DidAllocate}, Outcomes.{Lasts, Nature}}
use Rattle.fm_base.{specs.View.{View, Did}, proofs.Making.{Makes-then}}
use Rattle.fm_base_bytes.specs.Bytes.{AreBytes}
use Rattle.fm_segment_access.specs.{Learnt.{AfterPutAll}, Runs.{DoesPutAll}}
use Rattle.fm_top_load.specs.{Filled.{AfterGrow, AfterPutPortion, Fits, StaysHeld}, Held.{IsHeld}, Putting.{DoesGrow, shut_behind}, declared.room.Room.TheVariants.{Given, Growing}}
use Rattle.fm_top_load.proofs.Holding.{allocated_held}

lasts_then : {x y z : View} → Lasts x y → Lasts y z → Lasts x z
lasts_then first next = record {
  known = λ id k. next.known id (first.known id k);
  given = λ id. le_trans (first.given id) (next.given id);
  limit = next.limit ∙ first.limit;
  caller = next.caller ∙ first.caller;
}

module _ {x y z : View} {a : ArenaId} (bytes : List ℕ) (place : ℕ) (d : DidAllocate x y a (length bytes) 8 (Ok place)) where
  did_grow : (result : Result (Unit {0}) Refusal) → Did y z (DoesPutAll y.caller a place bytes result) → Did x z (DoesGrow x.caller a bytes result)
  did_grow (Ok u) e = record {
    own = d.own ++ e.own;
    does = (
      place,
      record {
        gave = d.own;
        put = e.own;
        parts = refl;
        given = d.does;
        written = subst (λ (c : Caller). DoesPutAll c a place bytes (Ok tt) e.own) d.makes.same_caller e.does;
      },
    );
    makes = Makes-then x y z d.own e.own d.makes e.makes;
  }
  did_grow (Err r) e = record {
    own = d.own ++ e.own;
    does = shut_behind place d.own e.own d.does (subst (λ (c : Caller). DoesPutAll c a place bytes (Err r) e.own) d.makes.same_caller e.does);
    makes = Makes-then x y z d.own e.own d.makes e.makes;
  }

  -- The arena is open to its only caller, so bytes that it gave are put.
  never_shut : (nature : Nature) (result : Result (Unit {0}) Refusal) → y.inside ≡ None → AfterPutAll y z a place bytes result → Fits x a (length bytes)
      → IfErr result (StaysHeld nature x z a)
  never_shut nature (Ok u) out put fits = tt
  never_shut nature (Err r) out put fits =
      let held = (allocated_held x y a (length bytes) place fits.held out d).1.held in
      absurd ((put.shut held.by_itself).shut (record { alive = held.alive; usable = held.usable }))

  -- It gave room for bytes, and they were put.
  pub grew : (nature : Nature) (result : Result (Unit {0}) Refusal) → y.inside ≡ None → Lasts x y → AfterPutAll y z a place bytes result
      → AfterGrow nature x z a bytes result
  grew nature result out lasts put = record {
    did = did_grow result put.did;
    alone = never_shut nature result out put;
    outside = put.outside;
    lasts = lasts_then lasts put.lasts;
  }

-- Bytes were put where there was room for them.
pub put_given : {x z : View} {a : ArenaId} {behind : ℕ} {bytes : List ℕ} (nature : Nature) (result : Result (Unit {0}) Refusal) → AreBytes bytes
    → AfterPutAll x z a behind bytes result → AfterPutPortion nature x z (Given a) behind bytes result
put_given {x} {z} {a} {behind} {bytes} nature result are put = record {
  did = put.did;
  are = are;
  alone = never result put;
  outside = put.outside;
  lasts = put.lasts;
}
  where
    never : (r : Result (Unit {0}) Refusal) → AfterPutAll x z a behind bytes r → IsHeld x a → IfErr r (λ e. ⊥)
    never (Ok u) put held = tt
    never (Err r) put held = (put.shut held.by_itself).shut (record { alive = held.alive; usable = held.usable })

-- Or where the arena was to give it.
pub put_growing : {x z : View} {a : ArenaId} {behind : ℕ} {bytes : List ℕ} (nature : Nature) (result : Result (Unit {0}) Refusal) → AreBytes bytes
    → behind % 8 ≡ 0 → AfterGrow nature x z a bytes result → AfterPutPortion nature x z (Growing a) behind bytes result
put_growing nature result are even grow = record {
  did = record { own = grow.did.own; does = (even, grow.did.does); makes = grow.did.makes };
  are = are;
  alone = grow.alone;
  outside = grow.outside;
  lasts = grow.lasts;
}
