-- What a question comes to, step by step.
use Rattle.pr_commands.proofs.Common.{◌≡◌, ℕ, Bool, false, List, Option, Some, None, option_map, option_and_then, ap, ◌∙◌, Scenario, names_in}
use Rattle.std.specs.Prelude.{filter, not, if◌then◌else◌}
use Rattle.pr_roles.specs.Fitting.{are_distinct}
use Rattle.pr_explore.specs.declared.moments.Fact.{Fact}
use Rattle.pr_commands.specs.Asked.{asks_of}
use Rattle.pr_commands.specs.Facts.{are_of_the_same, facts_of}
use Rattle.pr_commands.specs.Questions.{has_equals, has_wrong_count, question_of, question_with}

module _ (s : Scenario) (words : List (List ℕ)) (few : has_wrong_count words ≡ false) where
  abbrev facts_asked : Option (List Fact)
  facts_asked = facts_of (names_in s) (filter (λ w. not (has_equals w)) words)

  -- of so many words
  counted : question_of s words ≡ option_and_then (question_with s words) facts_asked
  counted = ap (λ b. if b then None else option_and_then (question_with s words) facts_asked) few

  -- where one is no fact
  pub no_fact : facts_asked ≡ None → question_of s words ≡ None
  no_fact none = counted ∙ ap (option_and_then (question_with s words)) none

  -- where each is one, and whether two are of the same
  pub with_facts : (facts : List Fact) (b : Bool) → facts_asked ≡ Some facts → are_distinct are_of_the_same facts ≡ b
      → question_of s words ≡ (if b then option_map (λ asked. (asked, facts)) (asks_of s (filter has_equals words)) else None)
  with_facts facts b is apart =
      counted ∙ ap (option_and_then (question_with s words)) is
      ∙ ap (λ c. if c then option_map (λ asked. (asked, facts)) (asks_of s (filter has_equals words)) else None) apart
