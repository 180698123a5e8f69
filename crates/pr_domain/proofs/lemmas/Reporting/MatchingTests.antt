-- Which test is the first that matches a reply, by the class of the reply.
use Rattle.pr_domain.proofs.Common.{◌≡◌, ◌&&◌, List, [], sym, refl, ◌∙◌, Reply, matches, Test, first_test, IsClass, Class, Good}
use Rattle.std.specs.List.{position}
use Rattle.pr_cdb.specs.Statuses.{is_check_status}
use Rattle.pr_script.specs.declared.script.Test.TheVariants as test
use Rattle.pr_script.specs.Takes.{is_unit_attention, is_sense}
use Rattle.pr_script.specs.declared.landing.Class.TheVariants.{Sense as WithSense}
use Rattle.pr_regions.proofs.lemmas.Readings.ReservationArms.{position_alike}
use Rattle.pr_domain.specs.inside.Reporting.{IsBlind, takes, AreBlind}

-- the test does not look at the data of a reply of the class
abbrev IsBlindTo : Class → Test → Type 0
IsBlindTo Good t = IsBlind t
IsBlindTo _ t = Unit {0}

matches_class : (t : Test) (class : Class) (r : Reply) → IsClass r class → IsBlindTo class t → matches t r ≡ takes t class
matches_class test.Attention (WithSense s) r is blind = λ i. is_check_status (is.0 i) && is_unit_attention (is.1 i)
matches_class (test.Sense wanted) (WithSense s) r is blind = λ i. is_check_status (is.0 i) && is_sense (is.1 i) wanted
matches_class _ (WithSense s) r is blind = rw is.0 refl
matches_class _ Good r is blind = sym (blind r []) ∙ rw is refl
matches_class _ _ r is blind = rw is refl

pub first_of_class : (tests : List Test) (class : Class) (r : Reply) → IsClass r class → AreBlind tests class → first_test tests r ≡ position (λ t. takes t class) tests
first_of_class tests Good r is blind = position_alike (λ t. matches t r) (λ t. takes t Good) tests (λ i d there. matches_class _ Good r is (blind i d there))
first_of_class tests class r is blind = position_alike (λ t. matches t r) (λ t. takes t class) tests (λ i d there. matches_class _ class r is tt)
