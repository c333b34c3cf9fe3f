use Rattle.std.proofs.Common.{◌≡◌, length, sym, ap, ◌∙◌, subst, arith}
use Rattle.hexboard.specs.Games as games
use Rattle.history.specs.Holds.{lent, Holds}
use Rattle.session.specs.Desks.{memory_of}
use Rattle.session.specs.Told.{told_who}
use Rattle.session.proofs.Asking.{stones_long}
use Rattle.session.proofs.Keeping.{whole, desk_holds, given_back, right_as, short_as}
use Rattle.session.proofs.desk.Desk.who.Goals.{After-who}
use Rattle.session.proofs.desk.Desk.who.Goals as goal

pub who-requires-clause-long : goal.who-requires-clause-long
who-requires-clause-long c = let d = c.args.self.now in ap length c.deref.ensures.value ∙ stones_long d.game (memory_of d) (desk_holds d)

-- what is lent is what the desk holds
lent-now : (c : After-who) → lent c.deref.result.now c.args.self.now.log.items c.args.self.now.parents.items c.args.self.now.borders.items ≡ memory_of c.args.self.now
lent-now c = let d = c.args.self.now in ap (λ xs. lent xs d.log.items d.parents.items d.borders.items) c.deref.ensures.value

-- and the way's bytes are given back
back : (c : After-who) → c.who.new.way ≡ whole c.who.new.way c.args.self.now.way.items c.args.self.now.way.len
back c = given_back c.who.new.way c.args.self.now.way.items c.args.self.now.way.len (omega (arith, c.who.auto.way, c.deref_mut-2.ensures.len))

pub returns-clause-right : goal.returns-clause-right
returns-clause-right c =
    let d = c.args.self.now in
    let same = lent-now (goal.at.returns-clause-right c).After-who in
    right_as d.game d.game _ (memory_of d) _ (memory_of d) games.who (told_who c.who.result) c.who.new.way _ same same (back (goal.at.returns-clause-right c).After-who)
    (c.who.ensures.right d.log.items d.parents.items d.borders.items (subst (Holds d.game) (sym same) (desk_holds d)))

pub returns-clause-short : goal.returns-clause-short
returns-clause-short c =
    let d = c.args.self.now in
    let same = lent-now (goal.at.returns-clause-short c).After-who in
    short_as d.game _ (memory_of d) (told_who c.who.result) c.who.new.way _ same (back (goal.at.returns-clause-short c).After-who)
    (c.who.ensures.short d.log.items d.parents.items d.borders.items (subst (Holds d.game) (sym same) (desk_holds d)))
