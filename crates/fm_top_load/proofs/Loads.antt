-- A record file that is loaded into an arena that gives room as it comes.
use Rattle.std.proofs.Common.{◌≡◌, ℕ, ◌+◌, Bool, true, false, List, [], length, take, Option, Some, None, Err, refl, ap, sym, subst, ◌∙◌, inl, inr, arith}
use Rattle.std.proofs.lemmas.Bool.{true_from_ne_false}
use Rattle.fm_base.specs.{declared.{arena_id.ArenaId.{ArenaId}, caller.Caller.{Caller}, refusal.Refusal.{Refusal}}, Calls.{Entry}, Outcomes.{Nature}, View.{View, Did}}
use Rattle.fm_base.proofs.Making.{Makes-none}
use Rattle.fm_io.specs.{Files.{Contents, AreBytesFrom, EndsBefore}, Reads.{Read, Next, ReadsFile}, View.{FilesView}}
use Rattle.fm_segment_access.specs.Alone.{bytes_of_arena}
use Rattle.fm_segment.specs.Region.{Region, region_of}
use Rattle.fm_top_load.specs.{Filled.{HoldsRoom}, Held.{IsHeld, IsReady, Wants, loaded_in}, Limits.{record_file_limit}, Loading.{BeginsToPut, HasBegun, HasLoaded, Stops}}
use Rattle.fm_top_load.specs.{Portions.{PortionView}, Putting.{ArePut, DoesPutStretch, PutsStretch, none_put}, Reading.{portion_limit}, Stretches.{IsWholeStretch}, Whole.{ByPuts, IsWhole, TellsLoad}}
use Rattle.fm_top_load.specs.declared.{load_fault.LoadFault.{LoadFault, TheVariants.{Missing, Failed, TooLong, Memory, Ragged, Refused}}, reached.Reached.{Reached}, room.Room.TheVariants.{Growing}}
use Rattle.fm_top_load.specs.declared.stretch.Stretch.{Stretch}
use Rattle.fm_top_load.proofs.{Alone.{stands}, FileBytes.{first_to_last}, Following.{same_reads}, GivenBytes.{loaded_first}, Telling.{tells_of}}

-- ---- what was read

-- reads of all of a file
pub reads_whole : {old new : Option (List Read)} {name : List ℕ} {limit : ℕ} {s : Stretch} {Goes Says : Next → Type 0} → IsWholeStretch name limit s
    → ReadsFile old new s.name.now portion_limit (s.limit + 1) s.at Goes → ((next : Next) → Goes next → Says next)
    → ReadsFile old new name portion_limit (limit + 1) 0 Says
reads_whole {old} {new} {name} {limit} {s} {Goes} {Says} whole reads says =
    subst (λ (q : List ℕ × ℕ). ReadsFile old new q.0 portion_limit (q.1 + 1) 0 Says) (λ i. (whole.named i, whole.limited i))
    (same_reads {Goes = Goes} {Says = Says} reads whole.first says)

-- what they tell
pub tells_whole : {Says : LoadFault → Type 0} {limit : ℕ} {old new : FilesView} {name : List ℕ} {fault : Option LoadFault} {s : Stretch} → IsWholeStretch name limit s
    → TellsLoad Says s.limit old new s.name.now fault → TellsLoad Says limit old new name fault
tells_whole {Says} {limit} {old} {new} {name} {fault} whole tells =
    subst (λ (q : List ℕ × ℕ). TellsLoad Says q.1 old new q.0 fault) (λ i. (whole.named i, whole.limited i)) tells

-- ---- the arena

-- nothing was put
pub begun_none : {v : View} {a : ArenaId} → IsHeld v a → HasBegun v v a
begun_none {v} held = record { did = record { own = []; does = inl ([], none_put); makes = Makes-none v }; held = held }

begins : (stretch : Stretch) (told : Option Contents) (c : Caller) (a : ArenaId) (first : PortionView) (fault : LoadFault) (own : List Entry)
    → DoesPutStretch stretch told c (Growing a) first (Err fault) own → BeginsToPut c (Growing a) own
begins stretch told c a first Missing own does = inl does
begins stretch told c a first Failed own does = inl does
begins stretch told c a first TooLong own does = inl does
begins stretch told c a first Memory own does = inl does
begins stretch told c a first (Ragged rest) own does = inl does
begins stretch told c a first (Refused r) own does = inr (r, does)

-- some was
pub begun : (stretch : Stretch) (told : Option Contents) {x z : View} {a : ArenaId} (first : PortionView) (fault : LoadFault)
    → Did x z (DoesPutStretch stretch told x.caller (Growing a) first (Err fault)) → IsHeld z a → HasBegun x z a
begun stretch told {x} {z} {a} first fault did held = record { did = record { own = did.own; does = begins stretch told x.caller a first fault did.own did.does; makes = did.makes }; held = held }

-- all of it was
pub loads : {stretch : Stretch} {told now : Option Contents} {name : List ℕ} {x z : View} {a : ArenaId} {first : PortionView} {reached : Reached} (s : Region)
    → IsWholeStretch name record_file_limit stretch → HoldsRoom stretch x (Growing a) → z.inside ≡ None
    → Did x z (PutsStretch stretch now x.caller (Growing a) first reached) → now ≡ told → s ≡ region_of a 0 reached.count → HasLoaded told name x z a s
loads {stretch} {told} {now} {name} {x} {z} {a} {first} {reached} s whole room out did same is =
    let put = did.does in
    let bytes = put.bytes in
    let cut = put.cut in
    let count = put.count in
    let short = cut.short in
    let at = whole.first in
    let limited = whole.limited in
    let past = whole.past in
    let stand = stands stretch room out put.bytes did.own cut.within cut.short did.makes put.put in
    let ended : reached.ended ≡ true = true_from_ne_false reached.ended (λ f. let all = cut.full f in omega (arith, all, short, past, limited)) in
    let loaded : loaded_in z s ≡ put.bytes =
    ap (loaded_in z) is ∙ loaded_first z (region_of a 0 reached.count) refl ∙ ap (λ n. take n (bytes_of_arena z.state a)) (sym count) ∙ stand.stand in
    let from : AreBytesFrom told name 0 put.bytes =
    subst (λ (q : Option Contents × List ℕ × ℕ). AreBytesFrom q.0 q.1 q.2 bytes) (λ i. (same i, whole.named i, at i)) cut.bytes_are in
    let end : stretch.at + length put.bytes ≡ length put.bytes = omega (arith, at) in
    let ends : EndsBefore told name (length put.bytes) =
    subst (λ (q : Option Contents × List ℕ × ℕ). EndsBefore q.0 q.1 q.2) (λ i. (same i, whole.named i, end i)) (cut.ends ended) in
    let all = room.room in
    let limit = did.makes.same_limit in
    record {
      ready = subst (λ (r : Region). IsReady z r) (sym is) (record {
        held = stand.held;
        whole = refl;
        counted = stand.given ∙ count;
        within = omega (arith, short, count, all, limit);
      });
      arena = ap (λ (r : Region). r.arena) is;
      short = omega (arith, ap (λ (r : Region). r.size) is, short, count, limited);
      whole = subst (λ (bs : List ℕ). IsWhole told name bs) (sym loaded) (first_to_last told name put.bytes from ends);
      did = record {
        own = did.own;
        does = subst (λ (bs : List ℕ). ArePut x.caller (Growing a) bs did.own) (sym loaded) put.put;
        makes = did.makes;
      };
    }

-- ---- a fault

stops_as : (nature : Nature) (x z : View) (fault : LoadFault) → ByPuts fault → ((r : Refusal) → fault ≡ Refused r → Wants nature x z r) → Stops nature x z fault
stops_as nature x z Missing by wants = tt
stops_as nature x z Failed by wants = tt
stops_as nature x z TooLong by wants = tt
stops_as nature x z Memory by wants = tt
stops_as nature x z (Ragged rest) by wants = absurd by
stops_as nature x z (Refused r) by wants = wants r refl

pub stops : (nature : Nature) (x z : View) {limit : ℕ} {old new : FilesView} {name : List ℕ} (fault : LoadFault) → ((r : Refusal) → fault ≡ Refused r → Wants nature x z r)
    → TellsLoad ByPuts limit old new name (Some fault) → TellsLoad (Stops nature x z) limit old new name (Some fault)
stops nature x z fault wants tells = tells_of (λ by. stops_as nature x z fault by wants) tells
