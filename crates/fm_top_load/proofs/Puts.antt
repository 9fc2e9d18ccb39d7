-- A stretch of a file that is put portion behind portion.
use Rattle.std.proofs.Common.{◌≡◌, ℕ, ◌+◌, ◌-◌, ◌%◌, ◌<◌, ◌≤◌, List, [], ◌++◌, length, false, Option, None, Ok, Err, refl, ap, sym, subst, ◌∙◌, arith, length-append}
use Rattle.std.specs.Prelude.{⊤}
use Rattle.fm_base.specs.{declared.{caller.Caller.{Caller}, refusal.Refusal.{Refusal}}, Calls.{Entry}, Outcomes.{Lasts}}
use Rattle.fm_base.{specs.View.{View, Did, given_in}, proofs.Making.{Makes-then, Makes-none}}
use Rattle.fm_base_bytes.specs.Bytes.{AreBytes}
use Rattle.fm_io.specs.Files.{Contents, AreBytesFrom}
use Rattle.fm_top_load.specs.{Portions.{PortionView}, Putting.{ArePut, CanHold, CanHoldAll, DoesPutPortion, DoesPutStretch, PutsStretch, StopsPutting, none_put, put_more}, Whole.{ByReads, IsCut, IsPortion}}
use Rattle.fm_top_load.specs.declared.load_fault.LoadFault.{LoadFault, TheVariants.{Missing, Failed, TooLong, Memory, Ragged, Refused}}
use Rattle.fm_top_load.specs.declared.{reached.Reached.{Reached}, room.Room.{Room, TheVariants.{Given, Growing}}, stretch.Stretch.{Stretch}}
use Rattle.fm_top_load.proofs.{FileBytes.{no_bytes_from}, Portions.{first_then, is_cut, portion_even, portion_fits}}

-- so many of the file's bytes from the place on were put
pub record PutSoFar (told : Option Contents) (name : List ℕ) (at : ℕ) (c : Caller) (room : Room) (size : ℕ) (own : List Entry) : Type 0 where
  pub bytes : List ℕ
  pub put : ArePut c room bytes own
  pub count : length bytes ≡ size
  pub first : AreBytesFrom told name at bytes

-- Nothing was put.
pub put_nothing : (x : View) {told : Option Contents} {name : List ℕ} {at : ℕ} {room : Room} → Did x x (PutSoFar told name at x.caller room 0)
put_nothing x {told} {name} {at} = record {
  own = [];
  does = record { bytes = []; put = none_put; count = refl; first = no_bytes_from told name at [] refl };
  makes = Makes-none x;
}

-- ---- the room

-- so many bytes are whole words, where an arena gives room as they come
abbrev pub AreWords : Room → ℕ → Type 0
AreWords (Given a) n = ⊤
AreWords (Growing a) n = n % 8 ≡ 0

pub no_words : (room : Room) → AreWords room 0
no_words (Given a) = tt
no_words (Growing a) = refl

pub holds_outside : (v : View) (most : ℕ) (room : Room) → CanHoldAll v room most → v.inside ≡ None
holds_outside v most (Given a) hold = hold.outside
holds_outside v most (Growing a) hold = hold.0.outside

-- What was given and known is so still.
pub hold_still : (x y : View) (most : ℕ) (room : Room) → CanHoldAll x room most → Lasts x y → y.inside ≡ None → CanHoldAll y room most
hold_still x y most (Given a) hold lasts outside =
    let more : given_in x a ≤ given_in y a = lasts.given a in
    let given = hold.given in
    let small = hold.small in
    record { outside = outside; known = lasts.known a hold.known; given = omega (arith, more, given); small = small }
hold_still x y most (Growing a) hold lasts outside = (record { outside = outside; known = lasts.known a hold.0.known }, hold.1)

module _ {limit most size : ℕ} (place : ℕ) {told : Option Contents} {name : List ℕ} {p : PortionView} (below : size < most)
    (next : IsPortion limit (most - size) told name (place + size) p) where
  -- The portion can be put.
  pub can_put : (v : View) (room : Room) → CanHoldAll v room most → AreWords room size → (bytes : List ℕ) → bytes ≡ p.bytes → CanHold v room size (length bytes)
  can_put v (Given a) hold even bytes is =
      let fits = portion_fits place below next in
      let given = hold.given in
      let small = hold.small in
      let same = ap length is in
      record { outside = hold.outside; known = hold.known; given = omega (arith, same, fits, given); small = omega (arith, same, fits, small) }
  can_put v (Growing a) hold even bytes is = (hold.0, even)

  -- Behind it words follow on words.
  pub words_on : (v : View) (room : Room) → CanHoldAll v room most → AreWords room size → p.ended ≡ false → (n : ℕ) → n ≡ length p.bytes → AreWords room (size + n)
  words_on v (Given a) hold even goes n is = tt
  words_on v (Growing a) hold even goes n is = ap (λ k. (size + k) % 8) is ∙ portion_even place below next goes hold.1 even

  module _ {x y z : View} {room : Room} (old : Did x y (PutSoFar told name place x.caller room size)) where
    -- It was put behind what was put before.
    pub portion_put : AreBytes p.bytes → Did y z (DoesPutPortion y.caller room size p.bytes (Ok tt)) → (n : ℕ) → n ≡ length p.bytes
        → Did x z (PutSoFar told name place x.caller room (size + n))
    portion_put are k n is =
        let so_far = old.does in
        let count = so_far.count in
        let here : DoesPutPortion x.caller room (length so_far.bytes) p.bytes (Ok tt) k.own =
        subst (λ n. DoesPutPortion x.caller room n p.bytes (Ok tt) k.own) (sym count)
        (subst (λ (c : Caller). DoesPutPortion c room size p.bytes (Ok tt) k.own) old.makes.same_caller k.does) in
        record {
          own = old.own ++ k.own;
          does = record {
            bytes = so_far.bytes ++ p.bytes;
            put = put_more so_far.bytes p.bytes old.own k.own so_far.put are here;
            count = length-append so_far.bytes p.bytes ∙ omega (arith, count, is);
            first = first_then place below next so_far.bytes count so_far.first;
          };
          makes = Makes-then x y z old.own k.own old.makes k.makes;
        }

    -- It was refused.
    pub portion_refused : (r : Refusal) → Did y z (DoesPutPortion y.caller room size p.bytes (Err r)) → Did x z (StopsPutting x.caller room r)
    portion_refused r k =
        let so_far = old.does in
        record {
          own = old.own ++ k.own;
          does = record {
            all = so_far.bytes;
            bytes = p.bytes;
            before = old.own;
            last = k.own;
            parts = refl;
            put = so_far.put;
            refused = subst (λ n. DoesPutPortion x.caller room n p.bytes (Err r) k.own) (sym so_far.count)
                (subst (λ (c : Caller). DoesPutPortion c room size p.bytes (Err r) k.own) old.makes.same_caller k.does);
          };
          makes = Makes-then x y z old.own k.own old.makes k.makes;
        }

    -- The stretch's last portion was put.
    pub stretch_put : (stretch : Stretch) (first : PortionView) → limit ≡ stretch.limit → most ≡ stretch.most → place ≡ stretch.at → name ≡ stretch.name.now
        → AreBytes p.bytes → Did y z (DoesPutPortion y.caller room size p.bytes (Ok tt)) → (p.ended ≡ false → size + length p.bytes ≡ most)
        → length first.bytes ≤ size + length p.bytes → (reached : Reached) → reached.count ≡ size + length p.bytes → reached.ended ≡ p.ended
        → Did x z (PutsStretch stretch told x.caller room first reached)
    unfolding portion_put
    stretch_put stretch first e1 e2 e3 e4 are k full more reached count ended =
        let so_far = old.does in
        let bytes = so_far.bytes ++ p.bytes in
        let put = portion_put are k (length p.bytes) refl in
        let cut = is_cut place below next so_far.bytes so_far.count so_far.first full in
        record {
          own = put.own;
          does = record {
            bytes = bytes;
            put = put.does.put;
            count = put.does.count ∙ sym count;
            cut = subst (IsCut stretch.limit stretch.most told stretch.name.now stretch.at bytes) (sym ended)
                (subst (λ (q : ℕ × ℕ × ℕ). IsCut q.0 q.1 told stretch.name.now q.2 bytes p.ended) (λ i. (e1 i, e2 i, e3 i))
                (subst (λ n. IsCut limit most told n place bytes p.ended) e4 cut));
            more = omega (arith, count, more);
          };
          makes = put.makes;
        }

-- What was put before a read came to nothing.
pub put_before : {x z : View} (stretch : Stretch) {told : Option Contents} {room : Room} (first : PortionView) {size : ℕ} (fault : LoadFault) → ByReads fault
    → Did x z (PutSoFar told stretch.name.now stretch.at x.caller room size) → Did x z (DoesPutStretch stretch told x.caller room first (Err fault))
put_before stretch first Missing by put = record { own = put.own; does = (put.does.bytes, put.does.put); makes = put.makes }
put_before stretch first Failed by put = record { own = put.own; does = (put.does.bytes, put.does.put); makes = put.makes }
put_before stretch first TooLong by put = record { own = put.own; does = (put.does.bytes, put.does.put); makes = put.makes }
put_before stretch first Memory by put = record { own = put.own; does = (put.does.bytes, put.does.put); makes = put.makes }
put_before stretch first (Refused r) by put = absurd by
put_before stretch first (Ragged rest) by put = absurd by
