-- A script sends at most as many commands as it costs.
use Rattle.pr_script.proofs.Common.{◌≡◌, ℕ, suc, ◌+◌, ◌≤◌, max, true, false, List, [], ◌∷◌, drop, Some, option_map, ap, arith, cost_of, cost_of_all, greatest, sends, repeats, breaks, Stmts, none, more, Arms, no_arm, arm, statement, mark, Configuration, before, past_mark, becomes, settled_form, matches}
use Rattle.std.specs.Prelude.{if◌then◌else◌}
use Rattle.pr_cdb.specs.declared.reply.Reply.{Reply}
use Rattle.pr_script.specs.Scripts.{first_configuration}
use Rattle.pr_script.specs.Takes.{first_match, take}
use Rattle.pr_script.specs.Costs.{commands, commands_sent, count_in}
use Rattle.pr_script.specs.Laws.{CostBoundsSends}
use Rattle.pr_script.proofs.lemmas.Next.Settlement.{kept}

-- the cost of what is still to do
cost_in : Configuration → ℕ
cost_in [] = 0
cost_in (mark ∷ l) = cost_in l
cost_in ((statement s) ∷ l) = cost_of s + cost_in l

cost_in-before : (b : Stmts) (l : Configuration) → cost_in (before b l) ≡ cost_of_all b + cost_in l
unfolding cost_in
cost_in-before none l = omega arith
cost_in-before (more s ss) l = omega (arith, cost_in-before ss l)

cost_in-drop : (l : Configuration) → cost_in (drop 1 l) ≤ cost_in l
unfolding cost_in
cost_in-drop [] = omega arith
cost_in-drop (mark ∷ l) = omega arith
cost_in-drop ((statement s) ∷ l) = omega arith

cost_in-past_mark : (l : Configuration) → cost_in (past_mark l) ≤ cost_in l
unfolding cost_in
cost_in-past_mark [] = omega arith
cost_in-past_mark ((statement s) ∷ l) = omega (arith, cost_in-past_mark l)
cost_in-past_mark (mark ∷ l) = omega (arith, cost_in-drop l)

-- an unfolding costs no more
cost_in-becomes : (l : Configuration) → cost_in (becomes l) ≤ cost_in l
unfolding cost_in
cost_in-becomes ((statement (repeats (suc n) b)) ∷ l) = omega (arith, cost_in-before b (mark ∷ statement (repeats n b) ∷ l))
cost_in-becomes ((statement breaks) ∷ l) = omega (arith, cost_in-past_mark l)
cost_in-becomes _ = omega arith

cost_in-settled : (l : Configuration) → cost_in (settled_form l) ≤ cost_in l
cost_in-settled l = kept (λ m. cost_in m ≤ cost_in l) (λ m h. omega (arith, cost_in-becomes m)) l (omega arith)

-- the arm that matches costs no more than the greatest
through_arms : (rs : List Reply) (r : Reply) (l : Configuration) → ((m : Configuration) → commands_sent rs m ≤ cost_in m) → (a : Arms)
    → count_in (commands_sent rs) (option_map (λ body. settled_form (before body l)) (first_match a r)) ≤ greatest a + cost_in l
through_arms rs r l within no_arm = omega arith
through_arms rs r l within (arm test body rest) =
    elim (matches test r) as (λ b. count_in (commands_sent rs) (option_map (λ body'. settled_form (before body' l)) (if b then Some body else first_match rest r)) ≤ max (cost_of_all body) (greatest rest) + cost_in l) [
      | true ↦ omega (arith, within (settled_form (before body l)), cost_in-settled (before body l), cost_in-before body l)
      | false ↦ omega (arith, through_arms rs r l within rest)
    ]

sent_within_cost : (rs : List Reply) (l : Configuration) → commands_sent rs l ≤ cost_in l
unfolding cost_in
sent_within_cost (r ∷ rs) ((statement (sends n c a)) ∷ l) = omega (arith, through_arms rs r l (sent_within_cost rs) a)
sent_within_cost _ _ = omega arith

pub cost_bounds_sends : CostBoundsSends
unfolding cost_in
cost_bounds_sends b rs = omega (arith, sent_within_cost rs (first_configuration b), cost_in-settled (before b []), cost_in-before b [])

-- ---- within a cost

-- with these replies to come, what was sent and what is sent yet is within the cost
abbrev pub IsWithinCost : ℕ → Configuration → ℕ → Type 0
IsWithinCost sent l cost = (rs : List Reply) → sent + commands_sent rs l ≤ cost

-- one command more
pub within_cost_taken : (before : ℕ) (l m : Configuration) (r : Reply) (cost : ℕ) → commands l ≡ 1 → take l r ≡ Some m → IsWithinCost before l cost → IsWithinCost (before + 1) m cost
within_cost_taken before l m r cost one taken within rs =
    let more = within (r ∷ rs) in
    let rest = ap (count_in (commands_sent rs)) taken in
    omega (arith, more, rest, one)
