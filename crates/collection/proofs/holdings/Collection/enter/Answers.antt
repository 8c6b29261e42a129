-- What entering leaves once the draft is dropped, or the slip is another's.
use Rattle.std.proofs.Common.{sym, ◌∙◌}
use Rattle.collection.proofs.Serving.{enter_wrong, enter_done}
use Rattle.collection.proofs.holdings.Collection.enter.Goals as goal

pub returns-then-not-has : goal.returns-then-not-has
returns-then-not-has g c =
    let s = c.args.self.now in
    enter_wrong g.A.Algebra.meaning g.met.A.Algebra.lawful.formed s.serials s.draft s.tables c.args.slip.serial (sym c.has.ensures ∙ c.if-not-has.true)

pub returns : goal.returns
returns g c =
    let s = c.args.self.now in
    enter_done g.A.Algebra.meaning g.met.A.Algebra.lawful.formed s.serials s.draft s.tables c.args.slip.serial c.entered-answer.result c.entered-answer.new.draft c.entered-answer.new.tables c.drop_lines.new.self
    (sym c.has.ensures ∙ c.if-not-has.false) c.entered-answer.ensures c.drop_lines.ensures
