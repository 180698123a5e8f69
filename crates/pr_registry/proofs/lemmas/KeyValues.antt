-- The keys of a table, in the order of the hosts.
use Rattle.pr_registry.proofs.Common.{◌≡◌, ℕ, zero, suc, ◌+◌, ◌<◌, List, [], ◌∷◌, Some, None, Option, sym, refl, ap, ◌∙◌, subst, arith, nat_tests, Keys, map_where}
use Rattle.std.proofs.Common.{nat_cmp, ◌++◌, map, add-one}
use Rattle.std.specs.declared.cmp.Ordering.TheVariants.{Greater}
use Rattle.std.specs.Cmp.{nat_cmp_total}
use Rattle.std.specs.FinMap as finmap
use Rattle.std.specs.FinMap.{put}
use Rattle.std.proofs.lemmas.List.{nil_from_length, map_push}
use Rattle.pr_registry.specs.Tables.{with_pair}

-- each host of the list is below n
abbrev AreBelow : ℕ → List (ℕ × ℕ) → Type 0
AreBelow n [] = Unit {0}
AreBelow n (e ∷ es) = (e.0 < n) × AreBelow n es

greater : (a b : ℕ) → b < a → nat_cmp a b ≡ Greater
greater a b h = grind (arith, nat_tests)

put_last : (n k : ℕ) (es : List (ℕ × ℕ)) → AreBelow n es → put nat_cmp n k es ≡ es ++ (n, k) ∷ []
put_last n k [] below = refl
put_last n k (e ∷ es) below = rw (greater n e.0 below.0) (ap (λ l. e ∷ l) (put_last n k es below.1))

AreBelow-more : (n : ℕ) (es : List (ℕ × ℕ)) → AreBelow n es → AreBelow (suc n) es
AreBelow-more n [] below = tt
AreBelow-more n (e ∷ es) below = (omega (arith, below.0), AreBelow-more n es below.1)

AreBelow-last : (n k : ℕ) (es : List (ℕ × ℕ)) → AreBelow n es → AreBelow (suc n) (es ++ (n, k) ∷ [])
AreBelow-last n k [] below = (omega arith, tt)
AreBelow-last n k (e ∷ es) below = (omega (arith, below.0), AreBelow-last n k es below.1)

entries-insert_last : (m : Keys) (n k : ℕ) → AreBelow n (finmap.entries m) → finmap.entries (finmap.insert m n k) ≡ finmap.entries m ++ (n, k) ∷ []
entries-insert_last m n k below = finmap.entries-insert nat_cmp_total m n k ∙ put_last n k (finmap.entries m) below

no_entries : finmap.entries (finmap.empty {X = ℕ} {R = nat_cmp}) ≡ []
no_entries =
    nil_from_length (finmap.entries (finmap.empty {X = ℕ} {R = nat_cmp})) (sym (finmap.len-entries (finmap.empty {X = ℕ} {R = nat_cmp})) ∙ finmap.len-empty nat_cmp ℕ)

below-with_pair : (n : ℕ) (m : Keys) (o : Option ℕ) → AreBelow n (finmap.entries m) → AreBelow (suc n) (finmap.entries (with_pair m n o))
below-with_pair n m None below = AreBelow-more n (finmap.entries m) below
below-with_pair n m (Some k) below =
    subst (AreBelow (suc n)) (sym (entries-insert_last m n k below)) (AreBelow-last n k (finmap.entries m) below)

entries_below : (n : ℕ) (f : ℕ → Option ℕ) → AreBelow n (finmap.entries (map_where n f))
unfolding map_where
entries_below zero f = subst (AreBelow 0) (sym no_entries) tt
entries_below (suc n) f = below-with_pair n (map_where n f) (f n) (entries_below n f)

pub values-map_where-some : (n k : ℕ) (f : ℕ → Option ℕ) → f n ≡ Some k → finmap.values (map_where (n + 1) f) ≡ finmap.values (map_where n f) ++ k ∷ []
unfolding map_where
values-map_where-some n k f is =
    rw add-one (rw is (ap (map (λ p. p.1)) (entries-insert_last (map_where n f) n k (entries_below n f)) ∙ map_push (λ p. p.1) (finmap.entries (map_where n f)) (n, k)))

pub values-map_where-none : (n : ℕ) (f : ℕ → Option ℕ) → f n ≡ None → finmap.values (map_where (n + 1) f) ≡ finmap.values (map_where n f)
unfolding map_where
values-map_where-none n f is = rw add-one (rw is refl)

pub values-map_where-zero : (f : ℕ → Option ℕ) → finmap.values (map_where 0 f) ≡ []
unfolding map_where
values-map_where-zero f = ap (map (λ p. p.1)) no_entries
