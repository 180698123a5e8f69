-- One line more, and then all.
use Rattle.pr_commands.proofs.Common.{◌≡◌, ℕ, List, ap, ◌∙◌, subst, Appends, End, names_of, Together, FallsShort, flat_map_end, flat_map_from, puts_err, wrote_all, wrote_front, wrote_more, ends_line}
use Rattle.std.proofs.Common.{get_or}
use Rattle.pr_commands.proofs.ends_text.put_lines.Goals as goal

pub returns-in_err-put_ends : goal.returns-in_err-put_ends
returns-in_err-put_ends g c =
    let names = names_of c.args.nexuses.now in
    let f : Together → List ℕ = λ t. ends_line names t.ends.items t.steps in
    let t = c.together-item.result in
    let here = flat_map_from f c.args.all.now c.loop-together.together-index t c.loop-together-test.true in
    let same : ends_line names c.deref.result.now t.steps ≡ f (get_or c.args.all.now c.loop-together.together-index t) =
    ap (λ (es : List End). ends_line names es t.steps) c.deref.ensures.value ∙ ap f c.together-item.is in
    let short = subst (λ (x : List ℕ). FallsShort (g.W.Write.contents c.loop-together.writer) (g.W.Write.contents c.put_ends.new.writer) x) same c.in_err-put_ends.ensures in
    puts_err _ _ _ _ (wrote_front _ _ _ _ _ _ (rw here at c.loop-together.invariant) short) c.from_residual.ensures.0

pub loop-together-preserved : goal.loop-together-preserved
loop-together-preserved g c =
    let names = names_of c.args.nexuses.now in
    let f : Together → List ℕ = λ t. ends_line names t.ends.items t.steps in
    let t = c.together-item.result in
    let here = flat_map_from f c.args.all.now c.loop-together.together-index t c.loop-together-test.true in
    let same : ends_line names c.deref.result.now t.steps ≡ f (get_or c.args.all.now c.loop-together.together-index t) =
    ap (λ (es : List End). ends_line names es t.steps) c.deref.ensures.value ∙ ap f c.together-item.is in
    let done = subst (λ (x : List ℕ). Appends (g.W.Write.contents c.loop-together.writer) (g.W.Write.contents c.put_ends.new.writer) x) same c.in_ok-put_ends.ensures in
    wrote_more _ _ _ _ _ _ (rw here at c.loop-together.invariant) done

pub returns : goal.returns
returns g c =
    let f : Together → List ℕ = λ t. ends_line (names_of c.args.nexuses.now) t.ends.items t.steps in
    wrote_all _ _ _ (rw (flat_map_end f c.args.all.now c.loop-together.together-index c.loop-together-test.false) at c.loop-together.invariant)
