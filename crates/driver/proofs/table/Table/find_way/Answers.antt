use Rattle.std.proofs.Common.{Some, None, if◌then◌else◌, ap, refl}
use Rattle.hexboard.specs.Games as games
use Rattle.driver.proofs.Answering.{found}
use Rattle.driver.proofs.Outcomes.{who_keeps}
use Rattle.driver.proofs.table.Table.find_way.Goals as goal

pub returns-in-Some-clause-kept : goal.returns-in-Some-clause-kept
returns-in-Some-clause-kept c = ap (λ (g : games.Game). if c.args.self.now.is_open then Some g else None) (who_keeps c.in-Some.ensures.right refl)

pub returns-in-Some-clause-way : goal.returns-in-Some-clause-way
returns-in-Some-clause-way c = found c.args.self.now.is_open _ _ _ _ c.in-Some.ensures.right c.in-Some.ensures.short refl

pub returns-in-None-clause-kept : goal.returns-in-None-clause-kept
returns-in-None-clause-kept c = ap (λ (g : games.Game). if c.args.self.now.is_open then Some g else None) (who_keeps c.in-None.ensures.right refl)

pub returns-in-None-clause-way : goal.returns-in-None-clause-way
returns-in-None-clause-way c = found c.args.self.now.is_open _ _ _ _ c.in-None.ensures.right c.in-None.ensures.short refl
