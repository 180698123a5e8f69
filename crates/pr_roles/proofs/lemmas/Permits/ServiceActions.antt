-- A command only looks, or is a service action, which a clause has to permit.
use Rattle.pr_roles.proofs.Common.{◌≡◌, Bool, true, false, ◌⊎◌, ◌==◌, refl, ap, inl, inr, IsTrue, not, ◌||◌, Command}
use Rattle.std.proofs.lemmas.Bool.{eqb-true}
use Rattle.pr_cdb.specs.declared.codes.TheConstants.{TEST_UNIT_READY, REQUEST_SENSE, PERSISTENT_RESERVE_IN, PERSISTENT_RESERVE_OUT}
use Rattle.pr_cdb.specs.declared.wire.Request.TheVariants.{Plain}
use Rattle.pr_cdb.specs.Spelling.{operation_code}
use Rattle.pr_unit.specs.Laws.{request_looks}
use Rattle.pr_unit.specs.Replies.{is_request_sense}
use Rattle.pr_roles.specs.Permits.{is_always_permitted}

pub record Serves (c : Command) : Type 0 where
  pub clause : is_always_permitted c ≡ false
  pub acts : is_request_sense (Plain c) ≡ false
  pub looks : request_looks (Plain c) ≡ false

pub looks_or_serves : (c : Command) → IsTrue (request_looks (Plain c)) ⊎ Serves c
looks_or_serves c = at (operation_code c == PERSISTENT_RESERVE_OUT) refl
  where
    at : (serves : Bool) → (operation_code c == PERSISTENT_RESERVE_OUT) ≡ serves → IsTrue (request_looks (Plain c)) ⊎ Serves c
    at false is = inl (ap not is)
    at true is =
        let code : operation_code c ≡ PERSISTENT_RESERVE_OUT = eqb-true (operation_code c) PERSISTENT_RESERVE_OUT is in
        inr (record {
          clause = ap (λ n. n == TEST_UNIT_READY || (n == REQUEST_SENSE || n == PERSISTENT_RESERVE_IN)) code;
          acts = ap (λ n. n == REQUEST_SENSE) code;
          looks = ap not is;
        })
