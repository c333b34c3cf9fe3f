use Rattle.std.proofs.Common.{ℕ, ◌+◌, ◌*◌, ◌<◌, ◌≤◌, ⊎_elim, mul-le-mul, arith}
use Rattle.std.proofs.lemmas.Bool.Decides.{nat_tests}
use Rattle.std.proofs.str.Laws.{order}
use Rattle.endgame.specs.Verdicts.{bytes_of_table}
use Rattle.session.specs.Sizes.{within}
use Rattle.session.proofs.lent.memory_for.Goals as goal

-- the table is within the bound, since a board of at most 9 cells is at most 3 wide
small : (n : ℕ) → n ≤ 3 → n * n ≤ 9
small n h = mul-le-mul h h

large : (n : ℕ) → 3 < n → 16 ≤ n * n
large n h = mul-le-mul h h

table-within : (n : ℕ) → 6 * (n * n) + bytes_of_table n ≤ within n
table-within n = ⊎_elim (λ less. let all = small n (omega arith) in grind (arith, nat_tests)) (λ more. let all = large n (omega arith) in grind (arith, nat_tests)) (order n 4)

pub returns-clause-bound : goal.returns-clause-bound
returns-clause-bound c = omega (arith, c.cells.ensures.value, c.table_bytes.ensures, table-within c.args.size.n)
