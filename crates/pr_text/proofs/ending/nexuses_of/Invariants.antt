use Rattle.pr_text.proofs.Common.{◌≡◌, map, nexus_written, nexus_declared, draft_seen}
use Rattle.pr_roles.specs.Scenarios.{nexus_of}
use Rattle.pr_text.specs.Reading.{is_shared_path}
use Rattle.pr_text.proofs.ending.nexuses_of.Given as goal

abbrev pub invariant-loop-draft : goal.invariant-loop-draft
invariant-loop-draft l = record {
  declared : map nexus_written (map nexus_of l.nexuses.items) ≡ map nexus_declared (map draft_seen l.yielded);
  paths : map (λ nexus. nexus.shared) l.nexuses.items ≡ map (is_shared_path l.version) (map draft_seen l.yielded);
}
