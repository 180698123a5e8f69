-- Inclusion as an order, and the union as its join.
use Rattle.pr_sets.proofs.Common.{inl, inr, sym, ap, ◌∙◌, Numbers, Within}
use Rattle.std.specs.FinSet as set
use Rattle.pr_sets.specs.Laws.{InclusionIsAnOrder, UnionIsTheLeastAbove, UnionKeepsWhatHasIt, EmptyIsTheLeast, InsertAddsOne}
use Rattle.pr_sets.proofs.lemmas.Members.{same_numbers, same_from_within, contains-empty, of_either, Has-union_left, Has-union_right, of_insert, Has-insert_same, Has-insert_other}

pub inclusion_is_an_order : InclusionIsAnOrder
inclusion_is_an_order = record {
  reflexive = λ a q there. there;
  transitive = λ a b c first second q there. second q (first q there);
  antisymmetric = λ a b there back. same_from_within a b there back;
}

pub union_is_the_least_above : UnionIsTheLeastAbove
union_is_the_least_above = record {
  left = λ a b q there. Has-union_left a b q there;
  right = λ a b q there. Has-union_right a b q there;
  least = least;
}
  where
    least : (a b c : Numbers) → Within a c → Within b c → Within (set.union a b) c
    least a b c one other q there =
        elim (of_either a b q there) [
          | inl in_a ↦ one q in_a
          | inr in_b ↦ other q in_b
        ]

pub union_keeps_what_has_it : UnionKeepsWhatHasIt
union_keeps_what_has_it a b = (
  λ same q there. sym (ap (λ s. set.contains s q) same) ∙ Has-union_right a b q there,
  λ within. same_from_within (set.union a b) a
      (union_is_the_least_above.least a b a (λ q there. there) within) (union_is_the_least_above.left a b),
)

pub empty_is_the_least : EmptyIsTheLeast
empty_is_the_least = record {
  within = λ a q there. let none = contains-empty q in cc;
  alone = λ a. (
    λ same n. ap (λ s. set.contains s n) same ∙ contains-empty n,
    λ none. same_numbers a set.empty (λ q. none q ∙ sym (contains-empty q)),
  );
}

pub insert_adds_one : InsertAddsOne
insert_adds_one a n m = (
  λ there. of_insert a n m there,
  λ either. elim either [
    | inl same ↦ ap (set.contains (set.insert a n)) same ∙ Has-insert_same a n
    | inr was ↦ Has-insert_other a n m was
  ],
)
