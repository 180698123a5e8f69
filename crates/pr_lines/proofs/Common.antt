-- The names that most proofs of this crate cite, passed on from one place. Declares nothing.
pub use Rattle.std.proofs.Common.{◌≡◌, ℕ, ◌+◌, ◌*◌, ◌^◌, ◌<◌, ◌≤◌, Bool, true, false, cond, List, [], ◌∷◌, map, length, take, drop, nat_lt, Some, None, fold, Option, sym, refl, ap, ◌∙◌, arith, lit<}
pub use Rattle.std.specs.List.{list_all}
pub use Rattle.std.proofs.lemmas.Bool.Decides.{nat_tests}
pub use Rattle.pr_lines.specs.Chain.{each}
unfoldable pub use Rattle.pr_lines.specs.TextLines.{words}
pub use Rattle.pr_script.specs.Digits.{digit_value}
pub use Rattle.pr_lines.specs.inside.Lists.{each_onto}
