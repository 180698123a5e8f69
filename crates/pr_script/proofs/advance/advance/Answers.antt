-- Where one advance leads from the end of a body, from a repeat and from a break.
use Rattle.pr_script.proofs.Common.{length, meanings}
use Rattle.pr_script.proofs.lemmas.Program.Places.{place-zero}
use Rattle.pr_script.proofs.lemmas.Program.Successors.{if_none, end_rests, placed_on, room_again, places_again, leads_again, next_within, body_within, room_in, leads_in, leads_out}
use Rattle.pr_script.proofs.advance.advance.Goals as goal

pub returns-in_err-again-clause-rests : goal.returns-in_err-again-clause-rests
returns-in_err-again-clause-rests c =
    if_none _ (end_rests c.args.rows.now c.args.at c.args.opens.now.items c.if-at-eq0.true
    (λ some. cc (c.in_err-again.ensures.variant.1 some)))

pub repeat_or_exit-requires : goal.repeat_or_exit-requires
repeat_or_exit-requires c = λ _. room_again c.args.rows.now _ _ _ _ c.requires c.if-at-eq0.true c.in_ok-again.ensures.items

pub returns-then-at-eq0-clause-leads : goal.returns-then-at-eq0-clause-leads
returns-then-at-eq0-clause-leads c =
    leads_again c.args.rows.now _ _ _ _ c.repeat_or_exit.new.opens.items c.in_ok-again.again c.if-at-eq0.true c.in_ok-again.ensures.items (c.repeat_or_exit.ensures.to (meanings c.args.rows.now))

pub returns-then-at-eq0-clause-placed : goal.returns-then-at-eq0-clause-placed
returns-then-at-eq0-clause-placed c =
    let places = places_again c.args.rows.now c.args.at _ _ c.in_ok-again.again c.requires c.in_ok-again.ensures.items in
    placed_on c.args.rows.now c.args.at c.repeat_or_exit.result c.args.opens.now.items c.repeat_or_exit.new.opens.items c.requires (returns-then-at-eq0-clause-leads c)
    (c.repeat_or_exit.ensures.within (length c.args.rows.now) places.1 places.2 places.0)

pub repeat_or_exit-requires-in-Repeat : goal.repeat_or_exit-requires-in-Repeat
repeat_or_exit-requires-in-Repeat c = λ _. room_in c.args.rows.now c.args.at _ _ c.requires c.if-at-eq0.false c.index-rows-at.is _ _ c.in-Repeat.is

pub returns-in-Repeat-clause-leads : goal.returns-in-Repeat-clause-leads
returns-in-Repeat-clause-leads c =
    leads_in c.args.rows.now c.args.at _ _ c.requires c.if-at-eq0.false c.index-rows-at.is _ _ c.in-Repeat.is _ c.repeat_or_exit-in-Repeat.new.opens.items (c.repeat_or_exit-in-Repeat.ensures.to (meanings c.args.rows.now))

pub returns-in-Repeat-clause-placed : goal.returns-in-Repeat-clause-placed
returns-in-Repeat-clause-placed c =
    placed_on c.args.rows.now c.args.at c.repeat_or_exit-in-Repeat.result c.args.opens.now.items c.repeat_or_exit-in-Repeat.new.opens.items c.requires
    (returns-in-Repeat-clause-leads c)
    (c.repeat_or_exit-in-Repeat.ensures.within (length c.args.rows.now)
    (body_within c.args.rows.now c.args.at _ _ c.requires c.if-at-eq0.false c.index-rows-at.is _ _ c.in-Repeat.is)
    (next_within c.args.rows.now c.args.at _ _ c.requires c.if-at-eq0.false c.index-rows-at.is)
    c.requires.repeats)

pub returns-in-Break-clause-leads : goal.returns-in-Break-clause-leads
returns-in-Break-clause-leads c =
    leads_out c.args.rows.now c.args.at _ _ c.requires c.if-at-eq0.false c.index-rows-at.is _ c.exit_loop.new.opens.items c.in-Break.is
    (c.exit_loop.ensures.to (meanings c.args.rows.now) (place-zero c.args.rows.now))

pub returns-in-Break-clause-placed : goal.returns-in-Break-clause-placed
returns-in-Break-clause-placed c =
    placed_on c.args.rows.now c.args.at c.exit_loop.result c.args.opens.now.items c.exit_loop.new.opens.items c.requires (returns-in-Break-clause-leads c)
    (c.exit_loop.ensures.within (length c.args.rows.now) c.requires.repeats)
