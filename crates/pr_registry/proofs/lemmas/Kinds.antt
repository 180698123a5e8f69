-- Types that are the same.
use Rattle.pr_registry.proofs.Common.{◌≡◌, true, Some, sym, refl, ap, ◌∙◌, eqb-true}
use Rattle.pr_cdb.specs.declared.command.Kind.{Kind}
use Rattle.pr_cdb.specs.declared.command.Kind.TheVariants.{WriteExclusive}
use Rattle.pr_cdb.specs.Kinds.{type_code, kind_of_code}
use Rattle.pr_registry.specs.Changes.{is_kind}

kind_back : (k : Kind) → kind_of_code (type_code k) ≡ Some k
unfolding kind_of_code
kind_back WriteExclusive = refl
kind_back _ = refl

pub same_kind : (s t : Kind) → is_kind s t ≡ true → s ≡ t
same_kind s t is =
    let both : Some s ≡ Some t = sym (kind_back s) ∙ ap kind_of_code (eqb-true (type_code s) (type_code t) is) ∙ kind_back t in cc
