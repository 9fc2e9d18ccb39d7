-- A chunk came back, and its note was met.
use Rattle.std.{proofs.Common.{◌≡◌, ◌+◌, ◌++◌, ◌∷◌, ℕ, None, List, [], refl, ap, sym, ◌∙◌, subst, append_assoc, Ok}, specs.List.{AllByRecursion}}
use Rattle.fm_arena.specs.{Lasting.{SamePool}, Learnt.{AfterMeet}}
use Rattle.fm_base.specs.{declared.arena_id.ArenaId.{ArenaId}, Calls.{Entry}, View.{Did}}
use Rattle.fm_records_query.specs.Plan.{Plan}
use Rattle.fm_rule.specs.Passes.{GoesOnFrom}
use Rattle.fm_rule_calls.{specs.Told.{view_of_pass}, proofs.Telling.{did_of}}
use Rattle.fm_rule_facts.specs.Views.{View}
use Rattle.fm_workers_chunks.specs.{Served.{IsServed}, declared.served.Served.{Served}}
use Rattle.fm_workers_queue.specs.{Accounts.{after_take}, Turns.{HasAccount, account_of}}
use Rattle.fm_top_chunks.specs.{Keeping.{CanWait, CameBack, IsBack, IsOf, Waits}, declared.keeper.{Back.{Back}, Keeper.{Keeper}}}

module _ (home : List ℕ) (limit : ℕ) (p : Plan) (Stands : ℕ → ArenaId → ℕ → List Entry → Type 0) where
  -- What was met is met later.
  pub back_later : (seen more : List Entry) (bs : List Back) → AllByRecursion (IsBack home limit p Stands seen) bs
      → AllByRecursion (IsBack home limit p Stands (seen ++ more)) bs
  back_later seen more [] all = tt
  back_later seen more (b ∷ bs) all =
      let one = all.0 in (
        record {
          served = one.served;
          is_of = one.is_of;
          promise = one.promise;
          met = (one.met.0 ++ more, ap (λ (es : List Entry). es ++ more) one.met.1 ∙ append_assoc one.served.note.seen one.met.0 more);
        },
        back_later seen more bs all.1,
      )

  one_behind : (seen : List Entry) (bs : List Back) (b : Back) → AllByRecursion (IsBack home limit p Stands seen) bs → IsBack home limit p Stands seen b
      → AllByRecursion (IsBack home limit p Stands seen) (bs ++ b ∷ [])
  one_behind seen [] b all one = (one, tt)
  one_behind seen (x ∷ bs) b all one = (all.0, one_behind seen bs b all.1 one)

  pub came_back : {K : Type 0} {old new : View} {k l : Keeper K} (served : Served) (one : Back) → CanWait home limit p Stands old k
      → IsServed home limit p Stands served → AfterMeet old new served.note.seen → IsOf served one → l.out + 1 ≡ k.out
      → l.back.items ≡ k.back.items ++ one ∷ [] → HasAccount k.desk.served.now l.taking (after_take (account_of k.taking) served) → l.desk ≡ k.desk
      → l.giving ≡ k.giving → Waits home limit p Stands old new k l (Ok tt)
  came_back {K} {old} {new} {k} {l} served one can promise met is out back taking desk giving =
      let goes = met.did.goes in
      let all = back_later old.seen goes.more k.back.items can.kept in
      let later = subst (λ (es : List Entry). AllByRecursion (IsBack home limit p Stands es) k.back.items) (sym goes.seen) all in
      record {
        did = did_of old new (λ own. own ≡ []) met.did;
        outside = met.inside ∙ can.outside;
        pool = record { home = goes.same_home; shape = goes.same_shape };
        lasts = met.lasts;
        kept = subst (λ (bs : List Back). AllByRecursion (IsBack home limit p Stands new.seen) bs) (sym back)
            (one_behind new.seen k.back.items one later (record { served = served; is_of = is; promise = promise; met = met.met }));
        desk = desk;
        giving = giving;
        came = record { served = served; one = one; is_of = is; out = out; back = back; taking = taking };
        none = tt;
      }
