use Rattle.pr_registry.proofs.Common.{◌<◌, ◌≤◌, sym, ap, ◌∙◌, arith, MOST_NEXUSES, is_key}
use Rattle.pr_registry.proofs.lemmas.Tables.{slot, get-table_keys_in, get-table_keys_past}
use Rattle.pr_registry.proofs.table.has_key.Goals as goal

pub returns-then-place-ge-MOST_NEXUSES : goal.returns-then-place-ge-MOST_NEXUSES
returns-then-place-ge-MOST_NEXUSES c =
    let large : MOST_NEXUSES ≤ c.args.host = omega arith in
    sym (ap (λ o. is_key o c.args.key) (get-table_keys_past c.args.slots.now c.args.host large))

pub returns-in-Some : goal.returns-in-Some
returns-in-Some c =
    let small : c.args.host < MOST_NEXUSES = omega arith in
    sym (ap (λ o. is_key o c.args.key) (get-table_keys_in MOST_NEXUSES c.args.slots.now c.args.host small
    ∙ ap (slot c.args.slots.now) (sym c.from-place.ensures) ∙ c.in-Some.is))

pub returns-in-None : goal.returns-in-None
returns-in-None c =
    let small : c.args.host < MOST_NEXUSES = omega arith in
    sym (ap (λ o. is_key o c.args.key) (get-table_keys_in MOST_NEXUSES c.args.slots.now c.args.host small
    ∙ ap (slot c.args.slots.now) (sym c.from-place.ensures) ∙ c.in-None.is))
