-- What a command is spelled as are bytes, as many as a wire holds.
use Rattle.pr_roles.proofs.Common.{◌≡◌, ℕ, zero, suc, ◌<◌, ◌≤◌, Bool, true, false, List, [], ◌∷◌, ◌++◌, length, nat_lt, Some, None, Option, refl, arith, list_all, nat_tests, Command, ◌&&◌, Kind}
use Rattle.pr_cdb.specs.declared.codes.TheConstants.{MOST_CDB_LENGTH, PARAMETER_LIST_LENGTH}
unfoldable use Rattle.pr_cdb.specs.Spelling.{spelling}
use Rattle.std.proofs.Common.{◌/◌, ◌%◌, ◌^◌}
use Rattle.std.specs.Int.{w16, w32, w64, byte_at, bytes_high_first, to_be_bytes}
use Rattle.pr_cdb.specs.declared.command.Kind.TheVariants.{WriteExclusive}
use Rattle.pr_cdb.specs.declared.action.ServiceAction.{ServiceAction}
use Rattle.pr_cdb.specs.declared.action.ServiceAction.TheVariants.{ReadKeys}
use Rattle.pr_cdb.specs.declared.layout.Layout.{Layout}
use Rattle.pr_cdb.specs.declared.layout.Layout.TheVariants.{TestUnitReady, RequestSense, Read, Write, ReserveIn, ReserveOut}
use Rattle.pr_cdb.specs.Kinds.{type_code}
use Rattle.pr_cdb.specs.Requests.{AreBytes}
use Rattle.pr_cdb.specs.Spelling.{action_number, kind_byte, laid_out, layout_of, transfer, reserve_in, reserve_out}

pub none : AreBytes []
none i = omega arith

pub more : (b : ℕ) (bs : List ℕ) → b < 256 → AreBytes bs → AreBytes (b ∷ bs)
more b bs small rest zero = small
more b bs small rest (suc i) = rest i

pub both : (bs cs : List ℕ) → AreBytes bs → AreBytes cs → AreBytes (bs ++ cs)
both [] cs first rest = rest
both (b ∷ bs) cs first rest = more b (bs ++ cs) (first 0) (both bs cs (λ i. first (suc i)) rest)

remainder_small : (x : ℕ) → x % 256 < 256
remainder_small x = omega arith

byte_small : (i n : ℕ) → byte_at i n < 256
byte_small zero n = remainder_small n
byte_small (suc i) n = remainder_small (n / 256 ^ suc i)

pub number : (k n : ℕ) → AreBytes (bytes_high_first k n)
number zero n = none
number (suc k) n = more (byte_at k n) (bytes_high_first k n) (byte_small k n) (number k n)

pub literal : (bs : List ℕ) → list_all (λ b. nat_lt b 256) bs ≡ true → AreBytes bs
literal [] is = none
literal (b ∷ bs) is = at (nat_lt b 256) (list_all (λ x. nat_lt x 256) bs) refl is (literal bs)
  where
    at : (here rest : Bool) → nat_lt b 256 ≡ here → (here && rest) ≡ true → (rest ≡ true → AreBytes bs) → AreBytes (b ∷ bs)
    at true rest first is later = more b bs (grind (arith, nat_tests)) (later is)
    at false rest first is later = let bad : false ≡ true = is in cc

pub code_small : (kind : Kind) → type_code kind < 256
code_small WriteExclusive = omega arith
code_small _ = omega arith

kind_small : (kind : Option Kind) → kind_byte kind < 256
kind_small None = omega arith
kind_small (Some kind) = code_small kind

transferred : (opcode lba blocks : ℕ) → opcode < 256 → AreBytes (transfer opcode lba blocks).cdb.items × AreBytes (transfer opcode lba blocks).params.items
transferred opcode lba blocks small =
    let head = more opcode (0 ∷ []) small (literal (0 ∷ []) refl) in
    let address = both (opcode ∷ 0 ∷ []) (to_be_bytes w32 lba) head (number 4 lba) in
    let group = both ((opcode ∷ 0 ∷ []) ++ to_be_bytes w32 lba) (0 ∷ []) address (literal (0 ∷ []) refl) in
    let count = both ((opcode ∷ 0 ∷ []) ++ to_be_bytes w32 lba ++ (0 ∷ [])) (to_be_bytes w16 blocks) group (number 2 blocks) in
    (both ((opcode ∷ 0 ∷ []) ++ to_be_bytes w32 lba ++ (0 ∷ []) ++ to_be_bytes w16 blocks) (0 ∷ []) count (literal (0 ∷ []) refl), none)

asked : (action alloc : ℕ) → action < 256 → AreBytes (reserve_in action alloc).cdb.items × AreBytes (reserve_in action alloc).params.items
asked action alloc small =
    let head = more 0x5e (action ∷ 0 ∷ 0 ∷ 0 ∷ 0 ∷ 0 ∷ []) (omega arith) (more action (0 ∷ 0 ∷ 0 ∷ 0 ∷ 0 ∷ []) small (literal (0 ∷ 0 ∷ 0 ∷ 0 ∷ 0 ∷ []) refl)) in
    let length = both (0x5e ∷ action ∷ 0 ∷ 0 ∷ 0 ∷ 0 ∷ 0 ∷ []) (to_be_bytes w16 alloc) head (number 2 alloc) in
    (both ((0x5e ∷ action ∷ 0 ∷ 0 ∷ 0 ∷ 0 ∷ 0 ∷ []) ++ to_be_bytes w16 alloc) (0 ∷ []) length (literal (0 ∷ []) refl), none)

told : (action kind rk sark : ℕ) → action < 256 → kind < 256 → AreBytes (reserve_out action kind rk sark).cdb.items × AreBytes (reserve_out action kind rk sark).params.items
told action kind rk sark small also =
    let rest = literal (0 ∷ 0 ∷ 0 ∷ 0 ∷ 0 ∷ 24 ∷ 0 ∷ []) refl in
    let cdb = more 0x5f (action ∷ kind ∷ 0 ∷ 0 ∷ 0 ∷ 0 ∷ 0 ∷ 24 ∷ 0 ∷ []) (omega arith) (more action (kind ∷ 0 ∷ 0 ∷ 0 ∷ 0 ∷ 0 ∷ 24 ∷ 0 ∷ []) small (more kind (0 ∷ 0 ∷ 0 ∷ 0 ∷ 0 ∷ 24 ∷ 0 ∷ []) also rest)) in
    let keys = both (to_be_bytes w64 rk) (to_be_bytes w64 sark) (number 8 rk) (number 8 sark) in
    (cdb, both (to_be_bytes w64 rk ++ to_be_bytes w64 sark) (0 ∷ 0 ∷ 0 ∷ 0 ∷ 0 ∷ 0 ∷ 0 ∷ 0 ∷ []) keys (literal (0 ∷ 0 ∷ 0 ∷ 0 ∷ 0 ∷ 0 ∷ 0 ∷ 0 ∷ []) refl))

number_small : (action : ServiceAction) → action_number action < 256
number_small ReadKeys = omega arith
number_small _ = omega arith

laid_out_in_bytes : (layout : Layout) → AreBytes (laid_out layout).cdb.items × AreBytes (laid_out layout).params.items
laid_out_in_bytes TestUnitReady = (literal (0 ∷ 0 ∷ 0 ∷ 0 ∷ 0 ∷ 0 ∷ []) refl, none)
laid_out_in_bytes RequestSense = (literal (3 ∷ 0 ∷ 0 ∷ 0 ∷ 18 ∷ 0 ∷ []) refl, none)
laid_out_in_bytes (Read lba blocks) = transferred 0x28 lba blocks (omega arith)
laid_out_in_bytes (Write lba blocks) = transferred 0x2a lba blocks (omega arith)
laid_out_in_bytes (ReserveIn action alloc) = asked (action_number action) alloc (number_small action)
laid_out_in_bytes (ReserveOut action kind rk sark) = told (action_number action) (kind_byte kind) rk sark (number_small action) (kind_small kind)

pub are_bytes : (c : Command) → AreBytes (spelling c).cdb.items × AreBytes (spelling c).params.items
unfolding spelling
are_bytes c = laid_out_in_bytes (layout_of c)

laid_out_short : (layout : Layout) → (length (laid_out layout).cdb.items ≤ MOST_CDB_LENGTH) × (length (laid_out layout).params.items ≤ PARAMETER_LIST_LENGTH)
laid_out_short TestUnitReady = (omega arith, omega arith)
laid_out_short _ = (omega arith, omega arith)

pub are_short : (c : Command) → (length (spelling c).cdb.items ≤ MOST_CDB_LENGTH) × (length (spelling c).params.items ≤ PARAMETER_LIST_LENGTH)
unfolding spelling
are_short c = laid_out_short (layout_of c)
