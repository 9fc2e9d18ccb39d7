-- The first chunk stands in an arena.
use Rattle.std.proofs.Common.{◌≡◌, ℕ, ◌≤◌, List, [], ◌∷◌, ◌++◌, ◌≢◌, take, Option, Ok, ap, sym, ◌∙◌, subst, inr, arith}
use Rattle.fm_base.specs.{declared.arena_id.ArenaId.{ArenaId}, Arenas.{arena_of}}
use Rattle.fm_base.specs.{Calls.{Entry}, Outcomes.{Nature}, View.{Did, given_in}}
use Rattle.fm_gate.specs.Needs.{IsOutside}
use Rattle.fm_io.specs.Files.{Contents}
use Rattle.fm_rule_calls.specs.Told.{view_of_pass}
use Rattle.fm_segment_access.specs.Alone.{bytes_of_arena}
use Rattle.fm_top_pooled.proofs.{Filed.{puts_stay}, Filling.{only_on, stay_lone}}
use Rattle.fm_records_query.specs.Plan.{Plan}
use Rattle.fm_rule_facts.specs.Views.{View, IsKnown, IsSound, limit_of, state_in}
use Rattle.fm_rule.specs.{declared.pool.Pool.{Pool}, Passes.{IsOf}}
use Rattle.fm_top_load.specs.{declared.{reached.Reached.{Reached}, room.Room.TheVariants.{Given}, stretch.Stretch.{Stretch}}, Filled.{Fills, HoldsRoom}, Held.{IsHeld}, Putting.{CanPut, PutsStretch}, Whole.{IsCut}}
use Rattle.fm_top_stream.specs.{Gone.{CanBegin, GoneSoFar, HasGone, HasNext}, declared.under_way.UnderWay.{UnderWay}, Steps.{Gives, GoesOn, Opens, StandsIn}}
use Rattle.fm_top_stream.proofs.{Going.{alone_still, goes_then}, GoesOn.{gone_behind, gone_later}}

pub begins : {stretch : Stretch} {told : Option Contents} {threads : ℕ} {p : Plan} {pool : Pool} {g h : UnderWay} {u w m n q : View} {a : ArenaId} {chunk : Reached}
    {nature : Nature} → CanBegin stretch told threads p pool g → Opens pool g.pass u a → Gives pool u w a stretch.most → m ≡ w
    → Did (view_of_pass m) (view_of_pass n) (PutsStretch stretch told m.caller (Given a) g.portion chunk)
    → Fills nature stretch told (view_of_pass m) (view_of_pass n) (Given a) (Ok chunk) → q ≡ n → (IsOf pool n → IsOutside pool q) → IsSound q
    → h.pass ≡ q → h.answer ≡ g.answer
    → HasNext stretch.limit stretch.most told stretch.name.now stretch.at p pool h (record { arena = a; chunk = chunk })
begins {stretch} {told} {p = p} {pool = pool} {g = g} {h = h} {u = u} {w = w} {m = m} {n = n} {q = q} {a = a} {chunk = chunk} can opens gives at did fills is outside sound here same =
    let put = did.does in
    let count = put.count in
    let within = put.cut.within in
    let more = put.more in
    let some = can.some in
    let goes : GoesOn pool w q = record {
      alone = alone_still (stay_lone pool w m n q a stretch.most did.own gives.goes.alone at did.makes (puts_stay m.caller a stretch.most put.bytes did.own put.put within)
          (let g = gives.held.given_is in omega (arith, g)) is outside sound);
      more = did.own;
      seen = ap (λ (v : View). v.seen) is ∙ did.makes.told.seen
          ∙ ap (λ (es : List Entry). m.seen ++ es) (did.makes.alone (inr (ap (λ (v : View). v.whole) at ∙ gives.goes.alone.whole)))
          ∙ ap (λ (v : View). v.seen ++ did.own) at;
    } in
    let only = only_on w m n q a at fills.elsewhere is in
    let given = ap (λ (v : View). given_in (view_of_pass v) a) is ∙ fills.given ∙ ap (λ (v : View). given_in (view_of_pass v) a) at ∙ gives.held.given_is in
    let other : (b : ArenaId) → IsKnown g.pass b → b ≢ a = λ b k e. opens.opened.unknown (subst (λ (i : ArenaId). IsKnown g.pass i) e k) in
    let still : (b : ArenaId) → IsKnown g.pass b → arena_of (state_in q) b ≡ arena_of (state_in g.pass) b =
    λ b k. only.others b (other b k) ∙ gives.elsewhere.others b (other b k) ∙ opens.opened.keeps.same b k in
    let gone : HasGone pool q p (a ∷ []) can.gone.runs g.answer =
    gone_behind (a ∷ []) can.gone.gone (goes_then opens.goes (goes_then gives.goes goes)) (λ b k. ap (λ o. o.life) (still b k)) (λ b k. ap (λ o. o.words) (still b k))
    (only.names ∙ gives.elsewhere.names ∙ opens.opened.names) (opens.opened.unknown, tt) in
    record {
      gone = subst (GoneSoFar told stretch.name.now stretch.most stretch.at pool h.pass p (a ∷ [])) (sym same)
          (gone_later can.gone (subst (λ (v : View). HasGone pool v p (a ∷ []) can.gone.runs g.answer) (sym here) gone));
      stands = subst (λ (v : View). StandsIn stretch.limit stretch.most told stretch.name.now stretch.at v (record { arena = a; chunk = chunk })) (sym here) (record {
        held = subst (λ (v : View). IsHeld (view_of_pass v) a) (sym is) fills.held;
        given = omega (arith, given);
        shared = opens.opened.shared;
        cut = subst (λ (v : View). IsCut stretch.limit stretch.most told stretch.name.now stretch.at (take chunk.count (bytes_of_arena (state_in v) a)) chunk.ended) (sym is) fills.stand;
        some = omega (arith, more, some);
        within = omega (arith, count, within);
      });
    }

-- There is room for it.
pub room_for : (stretch : Stretch) {pool : Pool} {u w m : View} {a : ArenaId} → Gives pool u w a stretch.most → m ≡ w → stretch.most ≤ limit_of pool.shape
    → HoldsRoom stretch (view_of_pass m) (Given a)
room_for stretch {pool} {w = w} {a = a} gives at room =
    let limit = ap limit_of gives.goes.alone.outside.of.1 in
    let fits : stretch.most ≤ limit_of w.shape = omega (arith, room, limit) in
    subst (λ (v : View). IsHeld (view_of_pass v) a × (stretch.most ≤ limit_of v.shape)) (sym at) (gives.held.held, fits)

-- It can be put.
pub can_put : {stretch : Stretch} {told : Option Contents} {threads : ℕ} {p : Plan} {pool : Pool} {g : UnderWay} {u w m : View} {a : ArenaId}
    → CanBegin stretch told threads p pool g → Gives pool u w a stretch.most → m ≡ w → CanPut stretch told g.portion (view_of_pass m) (Given a)
can_put {stretch} {told} {pool = pool} {g = g} {w = w} {a = a} can gives at =
    let held = gives.held.held in
    let given = gives.held.given_is in
    let small = held.small in
    let limit = ap limit_of gives.goes.alone.outside.of.1 in
    let room = can.asks.room in
    subst (λ (v : View). CanPut stretch told g.portion (view_of_pass v) (Given a)) (sym at) (record {
      hold = record { outside = held.outside; known = held.known; given = omega (arith, given); small = omega (arith, small, limit, room) };
      read = can.read;
      next = can.next;
      some = can.asks.any;
    })
