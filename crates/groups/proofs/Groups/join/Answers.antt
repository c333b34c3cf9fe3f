use Rattle.groups.proofs.Behind.{rest_kept}
use Rattle.groups.proofs.Groups.join.Goals as goal

pub returns-clause-behind : goal.returns-clause-behind
returns-clause-behind c =
    rest_kept c.args.self.parents.now _ c.args.top _ c.set_word.auto.bytes c.set_word.ensures.told c.set_word.ensures.refused c.set_word.ensures.behind
