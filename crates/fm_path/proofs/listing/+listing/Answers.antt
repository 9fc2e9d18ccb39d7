-- The members' texts follow one another, each at its offset.
use Rattle.std.proofs.Common.{◌∙◌, ◌<◌, ◌≤◌, ◌+◌, ◌*◌, ◌^◌, ◌++◌, length, ap, sym, arith}
use Rattle.fm_layout.specs.Depth.{depth}
use Rattle.fm_path_text.specs.Grammar.{piece_of}
use Rattle.fm_path.proofs.{Noted.{note_start, note_more, step_is}, Texts.{list_start, list_more, list_past, list_end, deep_member, inner_fits}}
use Rattle.fm_path.proofs.listing.+listing.Goals as goal

pub list_members-loop-i-init : goal.list_members-loop-i-init
list_members-loop-i-init t c = (list_start _ _ _ _ _ _ c.requires.1.1.1, note_start _ _ c.new-names.ensures.empty)

pub list_members-returns-in_default : goal.list_members-returns-in_default
list_members-returns-in_default t c = list_past _ _ _ _ _ _ _ _ c.loop-i.invariant.0 (sym c.in_default.ensures)

pub list_members-list-requires : goal.list_members-list-requires
list_members-list-requires t c =
    let at : c.loop-i.inner ≤ 2 ^ 40 * (length c.args.path.now + 1) =
    inner_fits _ _ _ _ _ _ _ _ c.size-size.ensures.well_formed c.loop-i.invariant.0 c.requires.1.1.0 in
    let deep : depth c.in-Some.member.now < depth c.args.layout.now = deep_member c.loop-i.i _ _ (sym c.in-Some.ensures) in
    (omega (arith, deep, c.requires.1.0), omega (arith, at, c.in_ok-to.ensures.longer, ap length c.deref.ensures))

pub list_members-overflow_add-inner : goal.list_members-overflow_add-inner
list_members-overflow_add-inner t c =
    let at : c.loop-i.inner ≤ 2 ^ 40 * (length c.args.path.now + 1) =
    inner_fits _ _ _ _ _ _ _ _ c.size-size.ensures.well_formed c.loop-i.invariant.0 c.requires.1.1.0 in
    omega (arith, at, c.in_ok-to.ensures.longer, ap length c.deref.ensures, c.deref.type_inv.0, c.extent.ensures.fits, c.from-inner.ensures)

pub list_members-loop-i-preserved : goal.list_members-loop-i-preserved
list_members-loop-i-preserved t c =
    let first = step_is _ _ _ _ _ c.loop-i.invariant.1 (sym c.in-Some.ensures) c.in_ok-first.ensures.first in (
      list_more _ _ _ _ _ _ _ _ _ _ _ _ c.size-size.ensures.well_formed c.loop-i.invariant.0 (sym c.in-Some.ensures) (c.deref.ensures
          ∙ c.in_ok-to.ensures.text ∙ ap (λ p. c.args.path.now ++ piece_of p) first) c.in_ok-list.ensures (c.from-inner.ensures ∙ c.extent.ensures.extent),
      note_more _ _ _ _ _ c.loop-i.invariant.1 (sym c.in-Some.ensures) c.in_ok-first.ensures.noted,
    )

pub list_members-returns : goal.list_members-returns
list_members-returns t c = list_end _ _ _ _ _ _ _ _ _ c.loop-i.invariant.0 c.requires.1.1.1 c.loop-i-test.false
