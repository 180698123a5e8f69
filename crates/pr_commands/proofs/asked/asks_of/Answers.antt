-- One word after another.
use Rattle.pr_commands.proofs.Common.{◌≡◌, ℕ, ◌+◌, true, false, List, length, drop, Option, Some, None, sym, ap, ◌∙◌, arith, map, replicate, slice_index_or, Parts, scenario_of, task, End, names_in, names_of, ask_of, asks_from, exits_of, names_of_scenario}
use Rattle.std.proofs.Common.{◌&&◌, option_map}
use Rattle.std.specs.Prelude.{slice_set}
use Rattle.std.specs.Borrow.{Bor}
use Rattle.std.proofs.lemmas.List.{drop_more, length-replicate, length-set}
use Rattle.pr_explore.specs.Exits.{Exit}
use Rattle.pr_explore.specs.Together.{exit_in}
use Rattle.pr_commands.specs.Asked.{is_free}
use Rattle.pr_commands.specs.Sayings.{may_end_so}
use Rattle.pr_commands.proofs.lemmas.Ends.Asks.{ask_none, asked_so, exits_set, nothing_asked}
use Rattle.pr_commands.proofs.lemmas.Replays.Plans.{nexuses_in}
use Rattle.pr_commands.proofs.lemmas.Steps.Words.{few_nexuses}
use Rattle.pr_commands.proofs.asked.asks_of.Goals as goal
use Rattle.pr_commands.proofs.asked.asks_of.Goals.{then-not-may_end_so-via-then-not-may_end_so, then-not-may_end_so-via-else-not-may_end_so+then-not-is_free}

pub loop-word-init : goal.loop-word-init
loop-word-init c =
    let p = c.args.scenario.now in
    let items = ap (λ (q : Parts). length q.nexuses.items) c.parts.ensures.value in
    let count : c.len.result ≡ length (scenario_of p).nexuses = omega (arith, c.len.ensures, items, nexuses_in p, c.parts.result.now.nexuses.ok.0) in (
      ap (λ (ys : List (Option Exit)). asks_from (scenario_of p) ys (map (λ w. w.now) c.args.words.now))
          (ap exits_of c.in_ok-asked.ensures ∙ nothing_asked c.len.result ∙ ap (λ n. replicate n None) count),
      ap length c.in_ok-asked.ensures ∙ length-replicate c.len.result None ∙ omega (arith, c.len.ensures, c.parts.result.now.nexuses.ok.0),
    )

pub ask_of-requires : goal.ask_of-requires
ask_of-requires c =
    omega (arith, few_nexuses c.args.scenario.now c.parts.ensures.fits, ap length c.deref.ensures.value, ap (λ (p : Parts). length p.nexuses.items) c.parts.ensures.value)

pub returns-in_default : goal.returns-in_default
returns-in_default c =
    let p = c.args.scenario.now in
    let s = scenario_of p in
    let asks = exits_of c.loop-word.asked.items in
    let names : names_of c.deref.result.now ≡ names_in s = ap names_of (c.deref.ensures.value ∙ ap (λ (q : Parts). q.nexuses.items) c.parts.ensures.value) ∙ names_of_scenario p in
    let this = ap (λ (ws : List (Bor (List ℕ))). asks_from s asks (map (λ w. w.now) ws)) (drop_more c.args.words.now c.loop-word.word-index _ c.loop-word-test.true) in
    let none = (λ i. ask_of (sym names i) (sym c.as_bytes.ensures.value i)) ∙ sym c.ask_of.ensures.ask ∙ ap (option_map _) c.in_default.is in
    sym (sym c.loop-word.invariant.0 ∙ this ∙ ask_none s asks _ _ none)

pub returns-then-not-may_end_so : goal.returns-then-not-may_end_so
returns-then-not-may_end_so c =
    let p = c.args.scenario.now in
    let s = scenario_of p in
    let asks = exits_of c.loop-word.asked.items in
    let names : names_of c.deref.result.now ≡ names_in s = ap names_of (c.deref.ensures.value ∙ ap (λ (q : Parts). q.nexuses.items) c.parts.ensures.value) ∙ names_of_scenario p in
    let this = ap (λ (ws : List (Bor (List ℕ))). asks_from s asks (map (λ w. w.now) ws)) (drop_more c.args.words.now c.loop-word.word-index _ c.loop-word-test.true) in
    let is = (λ i. ask_of (sym names i) (sym c.as_bytes.ensures.value i)) ∙ sym c.ask_of.ensures.ask ∙ ap (option_map (λ (a : ℕ × End). (a.0, exit_in (Some a.1)))) c.in-Some.is in
    let no : (may_end_so (exit_in (Some c.in-Some.end)) (task s c.in-Some.host) && is_free (slice_index_or asks c.in-Some.host None)) ≡ false = elim c.then-not-may_end_so.branch [
      | then-not-may_end_so-via-then-not-may_end_so w ↦ ap (λ b. b && is_free (slice_index_or asks c.in-Some.host None)) (sym c.may_end_so.ensures ∙ w.if-not-may_end_so.true)
      | then-not-may_end_so-via-else-not-may_end_so+then-not-is_free w ↦
          (λ i. (sym c.may_end_so.ensures ∙ w.if-not-may_end_so.false) i
          && (ap (λ (es : List (Option End)). is_free (slice_index_or (exits_of es) c.in-Some.host None)) (sym w.deref-else-not-may_end_so.ensures.value) ∙ sym w.is_free.ensures ∙ w.if-not-is_free.true) i)
    ] in
    sym (sym c.loop-word.invariant.0 ∙ this ∙ asked_so s asks _ _ (c.in-Some.host, exit_in (Some c.in-Some.end)) false is no)

pub loop-word-preserved : goal.loop-word-preserved
loop-word-preserved c =
    let p = c.args.scenario.now in
    let s = scenario_of p in
    let items = c.loop-word.asked.items in
    let asks = exits_of items in
    let x = exit_in (Some c.in-Some.end) in
    let rest : List (List ℕ) = map (λ w. w.now) (drop (c.loop-word.word-index + 1) c.args.words.now) in
    let names : names_of c.deref.result.now ≡ names_in s = ap names_of (c.deref.ensures.value ∙ ap (λ (q : Parts). q.nexuses.items) c.parts.ensures.value) ∙ names_of_scenario p in
    let this = ap (λ (ws : List (Bor (List ℕ))). asks_from s asks (map (λ w. w.now) ws)) (drop_more c.args.words.now c.loop-word.word-index _ c.loop-word-test.true) in
    let is = (λ i. ask_of (sym names i) (sym c.as_bytes.ensures.value i)) ∙ sym c.ask_of.ensures.ask ∙ ap (option_map (λ (a : ℕ × End). (a.0, exit_in (Some a.1)))) c.in-Some.is in
    let scripted : may_end_so x (task s c.in-Some.host) ≡ true = sym c.may_end_so.ensures ∙ c.if-not-may_end_so.false in
    let free : is_free (slice_index_or asks c.in-Some.host None) ≡ true =
    ap (λ (es : List (Option End)). is_free (slice_index_or (exits_of es) c.in-Some.host None)) (sym c.deref-else-not-may_end_so.ensures.value) ∙ sym c.is_free.ensures ∙ c.if-not-is_free.false in
    let more = asked_so s asks _ rest (c.in-Some.host, x) true is (λ i. scripted i && free i) in (
      ap (λ (ys : List (Option Exit)). asks_from s ys rest) (exits_set items c.from.result c.in-Some.end ∙ ap (λ (h : ℕ). slice_set asks h (Some x)) c.from.ensures) ∙ sym more ∙ sym this ∙ c.loop-word.invariant.0,
      length-set items c.from.result (Some c.in-Some.end) ∙ c.loop-word.invariant.1,
    )
