use Rattle.std.{proofs.{Common.{◌≡◌, List, length, sym, ◌∙◌, arith, vec_len}, lemmas.List.{length-map}}, specs.Borrow.{Bor}}
use Rattle.fm_script_text.specs.declared.line.Line.{Line}
use Rattle.fm_script_lines.{specs.Ordering.{lines_at}, proofs.Picking.{lines_so_far, starts-push}}
use Rattle.fm_script_lines.proofs.ordering.in_order.Goals as goal

pub loop-worker-preserved : goal.loop-worker-preserved
loop-worker-preserved c =
    let i = c.loop-worker.invariant in
    let order : List (Bor Line) = c.loop-worker.order.items in
    let n = c.loop-worker.worker in
    let ls : List Line = c.args.lines.now in
    let long : vec_len c.loop-worker.order ≡ length order = omega (arith, c.loop-worker.order.ok.0) in
    record {
      so_far = lines_so_far (lines_at order) (lines_at c.add_lines-in-loop-worker.new.order.items) n ls i.so_far c.in_ok-add_lines-2.ensures;
      starts = starts-push c.loop-worker.starts.items c.push.new.self.items n c.len.result (lines_at order) ls i.starts c.in_ok-push.ensures.items
          (c.len.ensures ∙ long ∙ sym (length-map order (λ (l : Bor Line). l.now))) i.so_far;
    }
