-- What follows on a portion of a file that was read.
use Rattle.std.proofs.Common.{◌≡◌, ℕ, ◌+◌, ◌≤◌, ◌<◌, List, ◌++◌, length, take, drop, take-append-drop, Option, refl, sym, ap, subst, ◌∙◌, arith, length-append}
use Rattle.std.{specs.Prelude.{nat_lt}, proofs.lemmas.Bool.Decides.{Decides-ltb, not_from_Decides}}
use Rattle.fm_io.{specs.Reads.{Read, Next, At, ReadsFile, GoesOn}, proofs.Followed.{ReadsFile-append, ReadsFile-wider}}
use Rattle.fm_top_load.specs.Reading.{portion_limit, GoesBy}

-- so many bytes were asked for, which came whole or up to the file's end
pub goes_by : (at asked room n place : ℕ) (next : Next) → asked ≡ room → n ≤ room → place ≡ at + n → GoesOn at asked n next → GoesBy (nat_lt n room) place next
goes_by at asked room n place next all fits is goes =
    let less = Decides-ltb n room in (
      λ ended. let below : n < room = less.0 ended in goes.1 (λ same. omega (arith, below, same, all)),
      λ whole. let past : n < room → ⊥ = not_from_Decides (nat_lt n room) less whole in
          let same : n ≡ asked = omega (arith, past, fits, all) in goes.0 same ∙ ap At (sym is),
    )

-- what was read of a file into a buffer with room for no more than a portion
pub filled_reads : {old new : Option (List Read)} {name : List ℕ} {at from room end : ℕ} {Goes Says : Next → Type 0}
    → ReadsFile old new name room (at + room) at Goes
    → at ≡ from → room ≤ portion_limit → at + room ≤ end → ((next : Next) → Goes next → Says next) → ReadsFile old new name portion_limit end from Says
filled_reads {old} {new} {name} {at} {from} {room} {end} {Goes} {Says} reads same small within says =
    subst (λ (k : ℕ). ReadsFile old new name portion_limit end k Says) same
    (ReadsFile-wider old new name room (at + room) portion_limit end at Goes Says small within says reads)

-- the same, whatever followed
pub filled_some : {old new : Option (List Read)} {name : List ℕ} {at room end : ℕ} {Goes : Next → Type 0} → ReadsFile old new name room (at + room) at Goes
    → room ≤ portion_limit → at + room ≤ end → ReadsFile old new name portion_limit end at (λ next. Unit {0})
filled_some {Goes = Goes} reads small within = filled_reads {Goes = Goes} {Says = λ next. Unit {0}} reads refl small within (λ next goes. tt)

-- what was read of a file from the same place on, and a weaker thing of what followed
pub same_reads : {old new : Option (List Read)} {name : List ℕ} {end at from : ℕ} {Goes Says : Next → Type 0}
    → ReadsFile old new name portion_limit end at Goes → at ≡ from → ((next : Next) → Goes next → Says next)
    → ReadsFile old new name portion_limit end from Says
same_reads {old} {new} {name} {end} {at} {from} {Goes} {Says} reads same says =
    subst (λ (k : ℕ). ReadsFile old new name portion_limit end k Says) same
    (ReadsFile-wider old new name portion_limit end portion_limit end at Goes Says (omega arith) (omega arith) says reads)

-- what was read of a file up to a place, and then from there, and a weaker thing of what followed
pub reads_then : {old mid new : Option (List Read)} {name : List ℕ} {end from at : ℕ} {Goes Says : Next → Type 0}
    → ReadsFile old mid name portion_limit end from (λ next. next ≡ At at) → ReadsFile mid new name portion_limit end at Goes
    → ((next : Next) → Goes next → Says next) → ReadsFile old new name portion_limit end from Says
reads_then {old} {mid} {new} {name} {end} {from} {at} {Goes} {Says} first second says =
    ReadsFile-append old mid new name portion_limit end from at Says first (same_reads {Goes = Goes} {Says = Says} second refl says)

-- The front of a buffer was written over.
pub buffer_kept : (front buffer : List ℕ) (room : ℕ) → length front ≡ length (take room buffer) → length buffer ≡ portion_limit
    → length (front ++ drop room buffer) ≡ portion_limit
buffer_kept front buffer room same sized =
    length-append front (drop room buffer) ∙ ap (λ n. n + length (drop room buffer)) same
    ∙ sym (length-append (take room buffer) (drop room buffer)) ∙ ap length (take-append-drop room buffer) ∙ sized
