-- A set of hosts as the bits of a word.
use Rattle.pr_registry.proofs.Common.{◌≡◌, ℕ, ◌<◌, ◌==◌, sym, ap, ◌∙◌, Hosts, nobody, hosts_where}
use Rattle.std.proofs.Common.{◌-◌, ◌*◌, ◌%◌, ◌^◌, w16, bit_or, bit_and}
use Rattle.std.specs.Int.{bit_at}
use Rattle.std.specs.FinSet as set
use Rattle.pr_sets.proofs.lemmas.BitPlaces.{placed, placed-insert, placed-remove, placed-difference, placed-zero, zero_from_empty}
use Rattle.pr_registry.proofs.lemmas.Sets.{hosts_where-numbers_where}

abbrev pub of_bits : ℕ → Hosts
of_bits bits = hosts_where 16 (λ h. bit_at bits h == 1)

pub of_bits-placed : (bits : ℕ) → of_bits bits ≡ placed w16 bits
of_bits-placed bits = hosts_where-numbers_where 16 (λ h. bit_at bits h == 1)

pub of_bits-insert : (bits h : ℕ) → h < 16 → of_bits (bit_or bits (1 * 2 ^ h % 65536)) ≡ set.insert (of_bits bits) h
of_bits-insert bits h small = of_bits-placed _ ∙ placed-insert w16 bits h small ∙ ap (λ s. set.insert s h) (sym (of_bits-placed bits))

pub of_bits-without : (bits h : ℕ) → h < 16 → of_bits (bit_and bits (65535 - 1 * 2 ^ h % 65536)) ≡ set.remove (of_bits bits) h
of_bits-without bits h small = of_bits-placed _ ∙ placed-remove w16 bits h small ∙ ap (λ s. set.remove s h) (sym (of_bits-placed bits))

pub of_bits-difference : (a b : ℕ) → b < 65536 → of_bits (bit_and a (65535 - b)) ≡ set.difference (of_bits a) (of_bits b)
of_bits-difference a b fits =
    of_bits-placed _ ∙ placed-difference w16 a b fits ∙ (λ i. set.difference (sym (of_bits-placed a) i) (sym (of_bits-placed b) i))

pub of_bits-zero : of_bits 0 ≡ nobody
of_bits-zero = of_bits-placed 0 ∙ placed-zero w16

pub zero_of_nobody : (bits : ℕ) → bits < 65536 → of_bits bits ≡ nobody → bits ≡ 0
zero_of_nobody bits fits none = zero_from_empty w16 bits fits (sym (of_bits-placed bits) ∙ none)
