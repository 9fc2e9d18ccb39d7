-- Where a call that is tested finds a place, the value's bytes lie in one word.
use Rattle.std.proofs.Common.{◌≡◌, ℕ, true, List, Result, Ok, Err, IfOk, refl, ap}
use Rattle.fm_base.specs.declared.refusal.Refusal.{Refusal}
use Rattle.fm_lanes.{specs.Kind.{width_of}, proofs.Meaning.{width_of-bounds}}
use Rattle.fm_path.specs.Resolution.{Resolution}
use Rattle.fm_segment.specs.Region.{Region}
use Rattle.fm_handle.specs.{Place.{FindsWhere, Lies, ValueStands, fills_word, supports}, declared.handle.place.Support.{Support}}
use Rattle.fm_handle.{specs.declared.handle.place.Support.TheVariants.{Number, Long, Word}, proofs.Places.{in_one_word, whole_word, word_parts}}
use Rattle.fm_handle.proofs.Visiting.{reaches}

module _ (base : ℕ) (is : List ℕ) (h : Resolution) (r : Region) where
  -- A long that fills a word.
  fills : (place : ℕ) → ValueStands h r place → fills_word h.value ≡ true → Lies Long h.value place
  fills place stands works = let w = whole_word h r place stands works in (ap width_of w.kind, w.fits)

  -- A value that the call works on.
  pub lies : (support : Support) (found : Result ℕ Refusal) → FindsWhere (supports support h.value) base is h r found
      → IfOk found (Lies support h.value)
  lies Number (Ok place) f = let here = reaches f refl in ((width_of-bounds h.value.kind).0, in_one_word h r place here.1 here.0)
  lies Long (Ok place) f = let here = reaches f refl in fills place here.1 here.0
  lies Word (Ok place) f = let here = reaches f refl in fills place here.1 (word_parts h.value here.0).0
  lies support (Err e) f = tt
