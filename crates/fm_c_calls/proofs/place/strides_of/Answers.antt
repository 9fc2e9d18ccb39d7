-- Dim by dim.
use Rattle.std.proofs.{Common.{◌≡◌, ◌+◌, ◌<◌, ℕ, List, [], ◌∷◌, ◌++◌, length, get_or, take, ◌∙◌, ap, sym}, lemmas.List.{map-append, take_all, take_more}}
use Rattle.std.proofs.lemmas.Result.{IfOk-from_err}
use Rattle.fm_path_meaning.specs.declared.dim.Dim.{Dim}
use Rattle.fm_c_calls.specs.Placed.{stride_of, strides_of}
use Rattle.fm_c_calls.proofs.place.strides_of.Goals as goal

one_more : (dims : List Dim) (i : ℕ) (d : Dim) → i < length dims
    → strides_of (take i dims) ++ stride_of (get_or dims i d) ∷ [] ≡ strides_of (take (i + 1) dims)
one_more dims i d below =
    sym (ap strides_of (take_more dims i d below) ∙ map-append stride_of (take i dims) (get_or dims i d ∷ []))

pub loop-dim-preserved : goal.loop-dim-preserved
loop-dim-preserved c =
    let dims = c.args.dims.now in
    let i = c.loop-dim.dim-index in
    c.in_ok-push.ensures.items ∙ ap (λ ss. ss ++ c.stride_of.result ∷ []) c.loop-dim.invariant
    ∙ ap (λ s. strides_of (take i dims) ++ s ∷ []) c.stride_of.ensures
    ∙ one_more dims i _ c.loop-dim-test.true

pub returns-in_err-push : goal.returns-in_err-push
returns-in_err-push c =
    IfOk-from_err c.from_residual.result (λ strides. strides.items ≡ strides_of c.args.dims.now) c.from_residual.ensures.0

pub returns : goal.returns
returns c = c.loop-dim.invariant ∙ ap strides_of (take_all c.loop-dim.dim-index c.args.dims.now c.loop-dim-test.false)
