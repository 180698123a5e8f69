-- How much is taken of a trace.
use Rattle.pr_commands.proofs.Common.{ℕ, ◌≤◌, List, [], Option, ap, subst, arith, IfSome, Scenario, IsWrittenAs}
use Rattle.std.specs.Io.KnownBytes.{Keeps}
use Rattle.std.proofs.KnownBytes.{Consumes-nil, Consumes-kept}
use Rattle.pr_text.proofs.lemmas.ScenarioRoundTrip.Uniqueness.{written_once}
use Rattle.pr_trace.specs.Versions.{most_items}
use Rattle.pr_trace.specs.BytesTaken.{LosesUpTo, most_of_trace, most_of_any_trace}
use Rattle.pr_trace.proofs.lemmas.LinesAhead.EntriesInFront.{entries_bounded}
use Rattle.pr_commands.specs.Audits.{TakesOfTrace}

-- nothing is
pub untaken : (text old new : Option (List ℕ)) → Keeps old new → TakesOfTrace text old new
untaken text old new kept = record {
  limited = none most_of_any_trace;
  dated = λ known s is written. none (most_of_trace s.version);
}
  where
    none : (limit : ℕ) → LosesUpTo limit old new
    none limit = record { lost = []; taken = Consumes-kept old old new [] (Consumes-nil old) kept; limited = omega arith }

most_of_any : (version : ℕ) → most_of_trace version ≤ most_of_any_trace
most_of_any version =
    let few = entries_bounded version (most_items version) (omega arith) in omega (arith, few)

-- no more than a trace of the scenario's version has, and there is one scenario of a text
pub taken_by : (text old new : Option (List ℕ)) (s : Scenario) → IfSome text (λ known. IsWrittenAs known s) → LosesUpTo (most_of_trace s.version) old new → TakesOfTrace text old new
taken_by text old new s written lost = record {
  limited = record { lost = lost.lost; taken = lost.taken; limited = omega (arith, lost.limited, most_of_any s.version) };
  dated = λ known t is other.
      let here = subst (λ o. IfSome o (λ known. IsWrittenAs known s)) is written in
      subst (λ v. LosesUpTo (most_of_trace v) old new) (ap (λ (x : Scenario). x.version) (written_once known s t here other)) lost;
}
