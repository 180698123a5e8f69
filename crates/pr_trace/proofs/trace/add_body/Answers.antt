use Rattle.pr_trace.proofs.Common.{◌++◌, map, refl, ending_of, names_of, item_lines, ending_lines, unit_line}
use Rattle.pr_trace.proofs.lemmas.FrontsWritten.HeldLines.{held_all, held_err, held_front, held_more, held_through}
use Rattle.pr_trace.proofs.trace.add_body.Goals as goal

pub returns-in_err-add_items : goal.returns-in_err-add_items
returns-in_err-add_items g c =
    let names = names_of c.args.nexuses.now in
    let last = unit_line names c.args.unit.now ++ ending_lines 0 names c.args.counts.now (map ending_of c.args.ends.now) in
    let items = item_lines 0 names c.args.history.now in
    let held = c.args.page.now.items in
    held_err _ _ _ _ _ (held_front _ _ _ (held ++ (items ++ last)) held items last (held_all _ _ _ refl) c.in_err-add_items.ensures) c.from_residual.ensures.0

pub returns-in_err-add_line : goal.returns-in_err-add_line
returns-in_err-add_line g c =
    let names = names_of c.args.nexuses.now in
    let ended = ending_lines 0 names c.args.counts.now (map ending_of c.args.ends.now) in
    let unit = unit_line names c.args.unit.now in
    let items = item_lines 0 names c.args.history.now in
    let held = c.args.page.now.items in
    let first = held_more _ _ _ (held ++ (items ++ (unit ++ ended))) held items (unit ++ ended) c.add_items.new.page.items (held_all _ _ _ refl) c.in_ok-add_items.ensures in
    held_err _ _ _ _ _ (held_front _ _ _ (held ++ (items ++ (unit ++ ended))) c.add_items.new.page.items unit ended first c.in_err-add_line.ensures) c.from_residual-in_err-add_line.ensures.0

pub returns : goal.returns
returns g c =
    let names = names_of c.args.nexuses.now in
    let ended = ending_lines 0 names c.args.counts.now (map ending_of c.args.ends.now) in
    let unit = unit_line names c.args.unit.now in
    let items = item_lines 0 names c.args.history.now in
    let held = c.args.page.now.items in
    let whole = held ++ (items ++ (unit ++ ended)) in
    let first = held_more _ _ _ whole held items (unit ++ ended) c.add_items.new.page.items (held_all _ _ _ refl) c.in_ok-add_items.ensures in
    let second = held_more _ _ _ whole c.add_items.new.page.items unit ended c.add_line.new.page.items first c.in_ok-add_line.ensures in
    held_through _ _ _ whole (c.add_line.new.page.items ++ ended) _ _ second c.add_ends.ensures
