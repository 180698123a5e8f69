use Rattle.pr_unit.proofs.Common.{◌≡◌, ℕ, ◌<◌, length, sym, ap, ◌∙◌, arith, MOST_NEXUSES, code_of, contains-no_code, table_pairs}
use Rattle.std.proofs.Common.{get_or}
use Rattle.std.specs.FinSet as set
use Rattle.std.proofs.lemmas.Option.{IfSome_then}
use Rattle.pr_attention.proofs.lemmas.Sets.{same_codes}
use Rattle.pr_unit.proofs.lemmas.Attentions.Pairs.{place_read, contains-table_pairs_in}
use Rattle.pr_unit.proofs.pending_table.lowest.Goals as goal

-- what the host has at its place is what is pending for it
at_place : (c : goal.After-lowest) (code : ℕ)
    → set.contains (table_pairs c.args.pendings.now) (c.args.host, code) ≡ set.contains (get_or c.args.pendings.now c.from.result c.index-pendings-from.result) code
at_place c code =
    let table = c.args.pendings.now in
    let whole = c.type_inv.pendings in
    let small : c.from.result < MOST_NEXUSES = omega arith in
    let there : c.from.result < length table = omega arith in
    ap (λ h. set.contains (table_pairs table) (h, code)) (sym c.from.ensures) ∙ contains-table_pairs_in table c.from.result code small
    ∙ ap (λ s. set.contains s code) (sym (place_read table c.from.result c.index-pendings-from.result there))

pub returns-clause-some : goal.returns-clause-some
returns-clause-some c =
    IfSome_then c.lowest.result c.lowest.ensures.some (λ attention lowest. record {
      there = at_place c (code_of attention) ∙ lowest.pending;
      least = λ other is. lowest.least other (sym (at_place c other) ∙ is);
    })

pub returns-clause-none : goal.returns-clause-none
returns-clause-none c = (
  λ none code. at_place c code ∙ ap (λ s. set.contains s code) (c.lowest.ensures.none.0 none) ∙ contains-no_code code,
  λ none. c.lowest.ensures.none.1 (same_codes _ _ (λ code. sym (at_place c code) ∙ none code ∙ sym (contains-no_code code))),
)
