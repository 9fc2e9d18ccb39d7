use Rattle.std.proofs.Common.{◌≡◌, ◌≤◌, ◌+◌, ℕ, List, ap, arith, drop, length, subst, sym, take, ◌∙◌}
use Rattle.fm_mono.specs.Shown.{view_of}
use Rattle.fm_segment.specs.Region.{Region}
use Rattle.fm_text.specs.{Getting.{AfterGetText}, Texts.{IsTextOf, text_bytes}}
use Rattle.fm_top_load.proofs.{GivenBytes.{length-loaded, loaded_is}, Texts.{slice_is, text_told, wants_memory}}
use Rattle.fm_top_load.proofs.loaded.Loaded.text.Goals as goal

pub returns-clause-text : goal.returns-clause-text
returns-clause-text c had =
    let l = c.self.inside in
    let all = loaded_is (view_of l.memory) l.segment ∙ c.self.view_is in
    let long : length c.args.self.now ≡ l.segment.size = sym (ap length all) ∙ length-loaded c.self.invariant in
    let within : c.args.place + c.args.size ≤ l.segment.size = omega (arith, c.requires.within, long) in
    let slice = slice_is l.segment c.in-Ok.slice c.args.place c.args.size (sym c.in-Ok.is ∙ c.as_slice.ensures) in
    subst (λ (bytes : List ℕ). IsTextOf (take c.args.size (drop c.args.place bytes)) (text_bytes c.get_text.result)) c.self.view_is
    (text_told (view_of l.memory) (view_of c.get_text.new.m) l.segment c.args.place c.args.size _ c.self.invariant within
    (subst (λ (r : Region). AfterGetText (view_of l.memory) (view_of c.get_text.new.m) r 0 (text_bytes c.get_text.result)) slice c.get_text.ensures)
    (λ e. had (wants_memory c.get_text.result e)))
