-- An arena that was opened in a memory of one thread, and gave room.
use Rattle.std.proofs.Common.{◌≡◌, inl, ℕ, ◌^◌, ◌≤◌, [], None, Ok, Err, refl, ap, sym, subst, ◌∙◌, arith}
use Rattle.fm_base.specs.declared.{arena_id.ArenaId.{ArenaId}, kind.Kind.{Kind}, refusal.Refusal.{Refusal}}
use Rattle.fm_base.specs.declared.refusal.Refusal.TheVariants as refusal
use Rattle.fm_base.specs.{Learnt.{AfterOpen, AfterAllocate}, Machine.{rounded_up}, View.{View, given_in}}
use Rattle.fm_mono.specs.Shown.{Arenas, nature_of_mono, view_of}
use Rattle.fm_top_load.{specs.{Held.{IsEmpty, IsHeld, Wants}, Limits.{record_file_limit}}, proofs.Holding.{opened_held, allocated_held, refusal_wants}}

-- no arenas yet, each of which may give as many bytes as a record file has
abbrev pub none_yet : Arenas
none_yet = record { limit = record_file_limit; state = []; inside = None }

-- A memory that never lacks a page refuses for want of memory alone.
wants_memory : (v w : View) (r : Refusal) → Wants nature_of_mono v w r → r ≡ refusal.Memory
wants_memory v w refusal.Memory h = refl
wants_memory v w refusal.PoolFull h = absurd (cc)
wants_memory v w r h = absurd h

module _ {m n : Arenas} {a : ArenaId} {kind : Kind} (none : m ≡ none_yet) (opens : AfterOpen nature_of_mono (view_of m) (view_of n) kind (Ok a)) where
  small : (view_of m).limit ≤ 2 ^ 40
  small = subst (λ (x : Arenas). x.limit ≤ 2 ^ 40) (sym none) (omega arith)

  empty : IsEmpty (view_of n) a
  empty = opened_held (view_of m) (view_of n) a kind (inl refl) small opens.outside opens.did

  limit_is : (view_of n).limit ≡ record_file_limit
  limit_is = opens.did.makes.same_limit ∙ ap (λ (x : Arenas). x.limit) none

  module _ {o : Arenas} {size : ℕ} where
    pub room_held : {place : ℕ} → AfterAllocate nature_of_mono (view_of n) (view_of o) a size 8 (Ok place) → IsHeld (view_of o) a
    room_held {place} got = (allocated_held (view_of n) (view_of o) a size place empty.held got.outside got.did).1.held

    pub room_given : {place : ℕ} → AfterAllocate nature_of_mono (view_of n) (view_of o) a size 8 (Ok place) → given_in (view_of o) a ≡ size
    room_given {place} got =
        let gave = allocated_held (view_of n) (view_of o) a size place empty.held got.outside got.did in
        let at : place ≡ rounded_up 0 8 = gave.0 ∙ ap (λ n. rounded_up n 8) empty.none in
        omega (arith, at, gave.1.given_is)

    -- An allocation that fits is refused for want of memory alone.
    pub room_wanting : {r : Refusal} → size ≤ record_file_limit → AfterAllocate nature_of_mono (view_of n) (view_of o) a size 8 (Err r) → r ≡ refusal.Memory
    room_wanting {r} fits got =
        let none_given = empty.none in
        let limit = limit_is in
        wants_memory (view_of n) (view_of o) r
        (refusal_wants nature_of_mono (view_of n) (view_of o) a size r empty.held (omega (arith, none_given, limit, fits)) got.did got.comes
        (λ is. got.pool_full (ap Err is)))
