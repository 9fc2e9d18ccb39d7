-- Passes that are gathered one by one.
use Rattle.std.{proofs.Common.{◌≡◌, List, [], ◌∷◌, ◌++◌, length, refl, ap, sym, ◌∙◌, subst, append_assoc, All, get_or, take}, specs.List.{AllByRecursion}}
use Rattle.std.proofs.lemmas.List.{append-nil, take_at, Elements.{recursion_from_All, All-take, All-same}}
use Rattle.fm_base_lists.proofs.Each.{all_split}
use Rattle.fm_base.specs.{declared.caller.Caller.{Caller}, Calls.{Entry}, Histories.{made_by}, Finds.{Gathered}}
use Rattle.fm_rule_facts.specs.{Hands.{no_number}, Views.{View}, Splits.{as_gathered}}
use Rattle.fm_rule.specs.{declared.pool.Pool.{Pool}, Draws.{CanGather, Gathers}}
use Rattle.fm_gate.specs.Needs.{IsOutside}
use Rattle.fm_workers_crew.{specs.{declared.worker.Worker.{Worker}, Crew.{IsIn}, Rounds.{IsSpare, GatheredCrew, crew_of}}, proofs.Drawing.{made_behind}}

abbrev pub Made : List Entry → Gathered → Type 0
Made es g = made_by g.caller es ≡ []

-- What holds of each of a list's first elements.
pub all_first : {X : Type 0} (P : X → Type 0) (xs ys : List X) → All P (xs ++ ys) → All P xs
all_first P xs ys h = All-same P xs (take (length xs) (xs ++ ys)) (sym (take_at xs ys (length xs) refl)) (All-take P (length xs) (xs ++ ys) h)

-- A pass that was outside and spare can be gathered.
pub can_gather : {pool : Pool} {d p : View} → p ≡ d → IsSpare pool d → IsOutside pool p → CanGather pool p
can_gather {pool = pool} {d = d} {p = p} e s o = record {
  of = o.of;
  outside = o.outside;
  unmarked = o.unmarked;
  no_number = o.no_number;
  no_slot = o.no_slot;
  no_hold = ap (λ (v : View). v.holds) e ∙ s.no_hold;
  no_handle = ap (λ (v : View). v.handles) e ∙ s.no_handle;
  no_page = ap (λ (v : View). v.pages) e ∙ s.no_page;
  no_close = ap (λ (v : View). v.closes) e ∙ s.no_close;
  no_sweep = ap (λ (v : View). v.sweeps) e ∙ s.no_sweep;
}

pub in_still : {d now next : View} (more : List Entry) → next.shape ≡ now.shape → next.seen ≡ now.seen ++ more → made_by d.caller more ≡ [] → IsIn d now
    → IsIn d next
in_still {d = d} more shape seen quiet i = record {
  shape = i.shape ∙ sym shape;
  rest = i.rest ++ more;
  seen = seen ∙ (ap (λ (es : List Entry). es ++ more) i.seen ∙ append_assoc d.seen i.rest more);
  quiet = made_behind d.caller i.rest more i.quiet ∙ quiet;
}

module _ {T : Type 0} where
  -- Who was gathered makes no entry any more.
  pub all_in_still : (now next : View) (more : List Entry) (ws : List (Worker T)) → next.shape ≡ now.shape → next.seen ≡ now.seen ++ more
      → AllByRecursion (Made more) (crew_of ws) → AllByRecursion (λ (w : Worker T). IsIn w.memory now) ws
      → AllByRecursion (λ (w : Worker T). IsIn w.memory next) ws
  all_in_still now next more [] shape seen q i = tt
  all_in_still now next more (w ∷ ws) shape seen q i =
      let parts = all_split (Made more) (crew_of ws) (as_gathered w.memory ∷ []) q in
      (in_still more shape seen parts.1.0 i.0, all_in_still now next more ws shape seen parts.0 i.1)

  pub gathered_none : (p : View) → GatheredCrew {T = T} p p []
  gathered_none p = record {
    more = [];
    seen = sym (append-nil p.seen);
    own = refl;
    apart = λ i g l. refl;
    is = λ i. record p { gathered = sym (append-nil p.gathered) i };
    workers = tt;
  }

  module _ {old now : View} {done : List (Worker T)} (m : GatheredCrew old now done) where
    pub gatherer_still : now.caller ≡ old.caller
    gatherer_still = ap (λ (x : View). x.caller) m.is

    pub gathered_is : now.gathered ≡ old.gathered ++ crew_of done
    gathered_is = ap (λ (x : View). x.gathered) m.is

    -- those that were gathered before made none of these, nor did those since
    pub apart_before : (more : List Entry) → All (Made more) now.gathered → All (Made more) old.gathered
    apart_before more a = all_first (Made more) old.gathered (crew_of done) (subst (λ (gs : List Gathered). All (Made more) gs) gathered_is a)

    pub apart_since : (more : List Entry) → All (Made more) now.gathered → AllByRecursion (Made more) (crew_of done)
    apart_since more a = (all_split (Made more) old.gathered (crew_of done) (recursion_from_All (Made more) (old.gathered ++ crew_of done)
        (subst (λ (gs : List Gathered). All (Made more) gs) gathered_is a))).1

    -- One more is gathered.
    pub gathered_more : {next : View} (w : Worker T) → old.number ≡ no_number → w.memory.gathered ≡ [] → w.memory.shape ≡ now.shape
        → Gathers now w.memory no_number next → GatheredCrew old next (w ∷ done)
    gathered_more {next = next} w number none shape k =
        let same : next.shape ≡ now.shape = ap (λ (v : View). v.shape) k.is in
        let before = apart_before k.more k.apart in
        let all : now.gathered ++ (as_gathered w.memory ∷ w.memory.gathered) ≡ old.gathered ++ crew_of (w ∷ done) =
        ap (λ (gs : List Gathered). gs ++ (as_gathered w.memory ∷ w.memory.gathered)) gathered_is
        ∙ (ap (λ (gs : List Gathered). (old.gathered ++ crew_of done) ++ (as_gathered w.memory ∷ gs)) none
        ∙ append_assoc old.gathered (crew_of done) (as_gathered w.memory ∷ [])) in
        record {
          more = m.more ++ k.more;
          seen = k.seen ∙ (ap (λ (es : List Entry). es ++ k.more) m.seen ∙ append_assoc old.seen m.more k.more);
          own = made_behind old.caller m.more k.more m.own ∙ (ap (λ (c : Caller). made_by c k.more) (sym gatherer_still) ∙ k.quiet);
          apart = λ i g l. made_behind (get_or old.gathered i g).caller m.more k.more (m.apart i g l) ∙ before i g l;
          is = k.is ∙ (ap (λ (v : View). record v {
            seen = next.seen;
            gathered = now.gathered ++ (as_gathered w.memory ∷ w.memory.gathered);
            number = no_number;
          }) m.is ∙ (λ i. record old { seen = next.seen; gathered = all i; number = sym number i }));
          workers = (
            record { shape = shape ∙ sym same; rest = k.rest; seen = k.its_seen; quiet = k.its_quiet },
            all_in_still now next k.more done same k.seen (apart_since k.more k.apart) m.workers,
          );
        }

pub outside_gathered : {pool : Pool} {p d q : View} → IsOutside pool p → Gathers p d no_number q → IsOutside pool q
outside_gathered o k = record {
  of = (ap (λ (v : View). v.home) k.is ∙ o.of.0, ap (λ (v : View). v.shape) k.is ∙ o.of.1);
  outside = ap (λ (v : View). v.inside) k.is ∙ o.outside;
  unmarked = ap (λ (v : View). v.mark) k.is ∙ o.unmarked;
  no_number = ap (λ (v : View). v.number) k.is;
  no_slot = ap (λ (v : View). v.hand) k.is ∙ o.no_slot;
  no_part = ap (λ (v : View). v.swept) k.is ∙ o.no_part;
}

-- What holds of all of a list holds of one in its middle.
pub middle : {X : Type 0} (P : X → Type 0) (all now next done : List X) (x : X) → all ≡ now ++ done → now ≡ next ++ x ∷ [] → AllByRecursion P all → P x
middle P all now next done x e d h =
    (all_split P next (x ∷ []) (subst (λ ys. AllByRecursion P ys) d (all_split P now done (subst (λ ys. AllByRecursion P ys) e h)).0)).1.0

pub split_more : {X : Type 0} (all now next done : List X) (x : X) → all ≡ now ++ done → now ≡ next ++ x ∷ [] → all ≡ next ++ x ∷ done
split_more {X} all now next done x e d = e ∙ (ap (λ (us : List X). us ++ done) d ∙ append_assoc next (x ∷ []) done)
