-- What a line says is what the words behind its keyword say.
use Rattle.pr_lines.proofs.Common.{◌≡◌, ℕ, Bool, true, false, cond, List, Some, Option, refl}
use Rattle.std.specs.Prelude.{codes, bytes_eq}
use Rattle.pr_lines.specs.declared.keyword.Keyword.{Keyword}
use Rattle.pr_lines.specs.declared.keyword.Keyword.TheVariants as keyword
use Rattle.pr_lines.specs.ScenarioLines.{ScenarioLine, item_of}
use Rattle.pr_lines.specs.Keywords.{keyword_of}
use Rattle.pr_lines.specs.inside.Keywords.{parse_after, parse_with}

with_keyword : (b : Bool) (k : Keyword) (o : Option Keyword) (w : List ℕ) (ws : List (List ℕ)) (i : Option ScenarioLine)
    → i ≡ parse_with o w ws → cond b (parse_after k ws) i ≡ parse_with (cond b (Some k) o) w ws
with_keyword true k o w ws i rest = refl
with_keyword false k o w ws i rest = rest

pub by_keyword : (w : List ℕ) (ws : List (List ℕ)) → item_of w ws ≡ parse_with (keyword_of w) w ws
unfolding item_of keyword_of
by_keyword w ws =
    with_keyword (bytes_eq w (codes "fence")) keyword.Fence _ w ws _ (
    with_keyword (bytes_eq w (codes "keys")) keyword.Keys _ w ws _ (
    with_keyword (bytes_eq w (codes "host")) keyword.Host _ w ws _ (
    with_keyword (bytes_eq w (codes "guest")) keyword.Guest _ w ws _ (
    with_keyword (bytes_eq w (codes "start")) keyword.Start _ w ws _ (
    with_keyword (bytes_eq w (codes "pending")) keyword.Pending _ w ws _ (
    with_keyword (bytes_eq w (codes "busy")) keyword.Busy _ w ws _ (
    with_keyword (bytes_eq w (codes "full")) keyword.Full _ w ws _ (
    with_keyword (bytes_eq w (codes "reservation")) keyword.Reservation _ w ws _ (
    with_keyword (bytes_eq w (codes "generation")) keyword.Generation _ w ws _ (
    with_keyword (bytes_eq w (codes "resets")) keyword.Resets _ w ws _ (
    with_keyword (bytes_eq w (codes "alone")) keyword.Alone _ w ws _ (
    with_keyword (bytes_eq w (codes "order")) keyword.Order _ w ws _ (
    with_keyword (bytes_eq w (codes "role")) keyword.Role _ w ws _ (
    with_keyword (bytes_eq w (codes "script")) keyword.Script _ w ws _ (
    with_keyword (bytes_eq w (codes "plan")) keyword.Plan _ w ws _ (
    with_keyword (bytes_eq w (codes "end")) keyword.End _ w ws _ (
    with_keyword (bytes_eq w (codes "send")) keyword.Send _ w ws _ (
    with_keyword (bytes_eq w (codes "on")) keyword.On _ w ws _ (
    with_keyword (bytes_eq w (codes "done")) keyword.Done _ w ws _ (
    with_keyword (bytes_eq w (codes "repeat")) keyword.Repeat _ w ws _ (
    with_keyword (bytes_eq w (codes "break")) keyword.Break _ w ws _ (
    with_keyword (bytes_eq w (codes "stop")) keyword.Stop _ w ws _ (
    refl)))))))))))))))))))))))
