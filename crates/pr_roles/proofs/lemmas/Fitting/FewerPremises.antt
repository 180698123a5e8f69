-- What fits as a text of some version fits as one of version 3, and with fewer premises.
use Rattle.pr_roles.proofs.Common.{◌≡◌, ℕ, Bool, true, false, not, ◌&&◌, ◌||◌, ◌⊎◌, List, [], ◌∷◌, length, map, nat_le, ◌==◌, bytes_eq, list_all, refl, sym, subst, inl, inr, arith, and_parts, are_distinct, Nexus, Scenario, Task, Fits}
use Rattle.std.specs.Prelude.{if◌then◌else◌}
use Rattle.std.proofs.lemmas.Bool.{and_from, or_cases, or_left, or_right, le-leb, leb-true}
use Rattle.pr_script.specs.declared.script.Test.{Test}
use Rattle.pr_script.specs.declared.script.Test.TheVariants as test
use Rattle.pr_script.specs.Scripts.{Stmt, Stmts, Arms, sends, repeats, breaks, stops, none, more, no_arm, arm}
use Rattle.pr_script.specs.Versions.{since, is_statement_of, is_script_of, are_arms_of}
use Rattle.pr_roles.specs.declared.limits.TheConstants.{MOST_DECLARED_1, MOST_DECLARED_2, MOST_REFUSALS, MOST_RESETS}
use Rattle.pr_roles.specs.Fitting.{are_nexuses, are_of, is_count, is_nexus, is_task_of, most_declared}
use Rattle.pr_roles.specs.Scenarios.{Scripted, Planned}
use Rattle.pr_roles.specs.SafeRuns.{without_premises}
use Rattle.pr_roles.specs.Starts.{CanStart}

-- none, or a number that versions past 1 have
later : (version n most : ℕ) → (n == 0 || (nat_le 2 version && nat_le n most)) ≡ true → (n == 0 || nat_le n most) ≡ true
later version n most fits = at (or_cases (n == 0) (nat_le 2 version && nat_le n most) fits)
  where
    at : ((n == 0) ≡ true) ⊎ ((nat_le 2 version && nat_le n most) ≡ true) → (n == 0 || nat_le n most) ≡ true
    at (inl nil) = or_left (n == 0) (nat_le n most) nil
    at (inr some) = or_right (n == 0) (nat_le n most) (and_parts (nat_le 2 version) (nat_le n most) some).1

since_at_most : (t : Test) → nat_le (since t) 3 ≡ true
since_at_most test.Good = refl
since_at_most (test.GoodHas key) = refl
since_at_most (test.GoodHeld key) = refl
since_at_most test.GoodUnheld = refl
since_at_most test.Conflict = refl
since_at_most test.Busy = refl
since_at_most test.Full = refl
since_at_most test.Attention = refl
since_at_most (test.Sense sense) = refl

mutual
  statement_later : (version : ℕ) (s : Stmt) → is_statement_of version s ≡ true → is_statement_of 3 s ≡ true
  statement_later version (sends n c a) is = arms_later version a is
  statement_later version (repeats n b) is = script_later version b is
  statement_later version breaks is = refl
  statement_later version (stops w) is = refl

  script_later : (version : ℕ) (s : Stmts) → is_script_of version s ≡ true → is_script_of 3 s ≡ true
  script_later version none is = refl
  script_later version (more s rest) is =
      let both = and_parts (is_statement_of version s) (is_script_of version rest) is in
      and_from (is_statement_of 3 s) (is_script_of 3 rest) (statement_later version s both.0) (script_later version rest both.1)

  arms_later : (version : ℕ) (a : Arms) → are_arms_of version a ≡ true → are_arms_of 3 a ≡ true
  arms_later version no_arm is = refl
  arms_later version (arm t body rest) is =
      let both = and_parts (nat_le (since t) version && is_script_of version body) (are_arms_of version rest) is in
      let one = and_parts (nat_le (since t) version) (is_script_of version body) both.0 in
      and_from (nat_le (since t) 3 && is_script_of 3 body) (are_arms_of 3 rest)
      (and_from (nat_le (since t) 3) (is_script_of 3 body) (since_at_most t) (script_later version body one.1)) (arms_later version rest both.1)

task_later : (version : ℕ) (t : Task) → is_task_of version t ≡ true → is_task_of 3 t ≡ true
task_later version (Scripted script budget) is = script_later version script is
task_later version (Planned commands) is = refl

each_later : (version : ℕ) (ns : List Nexus) → are_of version ns ≡ true → are_of 3 ns ≡ true
each_later version [] are = refl
each_later version (n ∷ ns) are =
    let both = and_parts (is_count version n.busy && (is_count version n.full && is_task_of version n.task)) (are_of version ns) are in
    let busy = and_parts (is_count version n.busy) (is_count version n.full && is_task_of version n.task) both.0 in
    let full = and_parts (is_count version n.full) (is_task_of version n.task) busy.1 in
    and_from (is_count 3 n.busy && (is_count 3 n.full && is_task_of 3 n.task)) (are_of 3 ns)
    (and_from (is_count 3 n.busy) (is_count 3 n.full && is_task_of 3 n.task) (later version n.busy MOST_REFUSALS busy.0)
    (and_from (is_count 3 n.full) (is_task_of 3 n.task) (later version n.full MOST_REFUSALS full.0) (task_later version n.task full.1)))
    (each_later version ns both.1)

few_later : (version n : ℕ) → nat_le n (most_declared version) ≡ true → nat_le n MOST_DECLARED_2 ≡ true
few_later version n few = at (version == 1) few
  where
    at : (b : Bool) → nat_le n (if b then MOST_DECLARED_1 else MOST_DECLARED_2) ≡ true → nat_le n MOST_DECLARED_2 ≡ true
    at true less = le-leb n MOST_DECLARED_2 (omega (arith, leb-true n MOST_DECLARED_1 less))
    at false less = less

nexuses_later : (version : ℕ) (keys : List ℕ) (ns : List Nexus) → are_nexuses version keys ns ≡ true → are_nexuses 3 keys ns ≡ true
nexuses_later version keys ns are =
    let apart = are_distinct bytes_eq (map (λ n. n.name) ns) && list_all (is_nexus keys) ns in
    let some = and_parts (not (length ns == 0)) (nat_le (length ns) (most_declared version) && apart) are in
    let few = and_parts (nat_le (length ns) (most_declared version)) apart some.1 in
    and_from (not (length ns == 0)) (nat_le (length ns) MOST_DECLARED_2 && apart) some.0
    (and_from (nat_le (length ns) MOST_DECLARED_2) apart (few_later version (length ns) few.0) few.1)

fits_later : (s : Scenario) → Fits s → Fits (without_premises s)
fits_later s fits = record {
  version = refl;
  dated = each_later s.version s.nexuses fits.dated;
  resets = later s.version s.resets MOST_RESETS fits.resets;
  order = refl;
  keys = fits.keys;
  reservations = fits.reservations;
  nexuses = nexuses_later s.version s.keys s.nexuses fits.nexuses;
}

starts_later : (s : Scenario) → CanStart s → CanStart (without_premises s)
starts_later s can = record {
  unit = can.unit;
  allowed = record {
    formed = can.allowed.formed;
    hosts = can.allowed.hosts;
    registrations = can.allowed.registrations;
    reservation = can.allowed.reservation;
    pending = can.allowed.pending;
  };
}

-- parts that are those of a scenario with fewer premises make one
pub makes_one : (s t : Scenario) → t ≡ without_premises s → Fits s × CanStart s → Fits t × CanStart t
makes_one s t same is = (subst Fits (sym same) (fits_later s is.0), subst CanStart (sym same) (starts_later s is.1))
