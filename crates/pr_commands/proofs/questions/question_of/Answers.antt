-- The facts first, and then the ends.
use Rattle.pr_commands.proofs.Common.{◌≡◌, true, false, Some, option_map, ap, sym, ◌∙◌, arith, length, Parts, scenario_of, names_in, names_of, names_of_scenario}
use Rattle.std.specs.Prelude.{not}
use Rattle.pr_roles.specs.Fitting.{are_distinct}
use Rattle.pr_commands.specs.Asked.{asks_of}
use Rattle.pr_commands.specs.Facts.{are_of_the_same, facts_of}
use Rattle.pr_commands.specs.Questions.{has_wrong_count}
use Rattle.pr_commands.specs.Steps.{texts_of}
use Rattle.pr_commands.proofs.lemmas.Never.Asking.{no_fact, with_facts}
use Rattle.pr_commands.proofs.lemmas.Steps.Words.{few_nexuses}
use Rattle.pr_commands.proofs.questions.question_of.Goals as goal

pub facts_of-requires : goal.facts_of-requires
facts_of-requires c =
    omega (arith, few_nexuses c.args.scenario.now c.parts.ensures.fits, ap length c.deref-2.ensures.value, ap (λ (p : Parts). length p.nexuses.items) c.parts.ensures.value)

pub returns-in_default : goal.returns-in_default
returns-in_default c =
    let p = c.args.scenario.now in
    let words = texts_of c.args.words.now in
    let few : has_wrong_count words ≡ false = sym c.has_wrong_count.ensures ∙ c.if-has_wrong_count.false in
    let names : names_of c.deref-2.result.now ≡ names_in (scenario_of p) = ap names_of (c.deref-2.ensures.value ∙ ap (λ (q : Parts). q.nexuses.items) c.parts.ensures.value) ∙ names_of_scenario p in
    let texts = ap texts_of c.deref.ensures.value ∙ c.in_ok-ends.ensures.others in
    let none = sym (c.in_ok-facts.ensures ∙ (λ i. facts_of (names i) (texts i))) ∙ ap (option_map _) c.in_default.is in
    sym (no_fact (scenario_of p) words few none)

pub returns-then-not-are_of_others : goal.returns-then-not-are_of_others
returns-then-not-are_of_others c =
    let p = c.args.scenario.now in
    let words = texts_of c.args.words.now in
    let facts = c.in-Some.facts.items in
    let few : has_wrong_count words ≡ false = sym c.has_wrong_count.ensures ∙ c.if-has_wrong_count.false in
    let names : names_of c.deref-2.result.now ≡ names_in (scenario_of p) = ap names_of (c.deref-2.ensures.value ∙ ap (λ (q : Parts). q.nexuses.items) c.parts.ensures.value) ∙ names_of_scenario p in
    let texts = ap texts_of c.deref.ensures.value ∙ c.in_ok-ends.ensures.others in
    let is = sym (c.in_ok-facts.ensures ∙ (λ i. facts_of (names i) (texts i))) ∙ ap (option_map _) c.in-Some.is in
    let apart : are_distinct are_of_the_same facts ≡ false = ap (are_distinct are_of_the_same) (sym c.deref-3.ensures.value) ∙ sym c.are_of_others.ensures ∙ c.if-not-are_of_others.true in
    sym (with_facts (scenario_of p) words few facts false is apart)

pub returns : goal.returns
returns c =
    let p = c.args.scenario.now in
    let s = scenario_of p in
    let words = texts_of c.args.words.now in
    let facts = c.in-Some.facts.items in
    let few : has_wrong_count words ≡ false = sym c.has_wrong_count.ensures ∙ c.if-has_wrong_count.false in
    let names : names_of c.deref-2.result.now ≡ names_in s = ap names_of (c.deref-2.ensures.value ∙ ap (λ (q : Parts). q.nexuses.items) c.parts.ensures.value) ∙ names_of_scenario p in
    let texts = ap texts_of c.deref.ensures.value ∙ c.in_ok-ends.ensures.others in
    let is = sym (c.in_ok-facts.ensures ∙ (λ i. facts_of (names i) (texts i))) ∙ ap (option_map _) c.in-Some.is in
    let apart : are_distinct are_of_the_same facts ≡ true = ap (are_distinct are_of_the_same) (sym c.deref-3.ensures.value) ∙ sym c.are_of_others.ensures ∙ c.if-not-are_of_others.false in
    let asks = sym (c.in_ok-asked.ensures ∙ ap (asks_of s) (ap texts_of c.deref-4.ensures.value ∙ c.in_ok-ends.ensures.ends)) ∙ ap (option_map _) c.in-Some-2.is in
    sym (with_facts s words few facts true is apart ∙ ap (option_map (λ asked. (asked, facts))) asks)
