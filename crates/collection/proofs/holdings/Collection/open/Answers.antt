-- A draft is opened, or one of the two questions is answered by no.
use Rattle.std.proofs.Common.{ap, ◌∙◌}
use Rattle.std.proofs.lemmas.Bool.{lt-ltb, le-ltb}
use Rattle.lines.specs.Lines.{types_given}
use Rattle.checker.specs.declared.drafts.Draft.{Draft}
use Rattle.checker.specs.Sound.{sound}
use Rattle.checker.proofs.Sounding.{begun_sound}
use Rattle.collection.proofs.Serving.{open_many, open_unknown, open_done}
use Rattle.collection.proofs.holdings.Collection.open.Goals as goal

pub returns-then-self-ge1000000 : goal.returns-then-self-ge1000000
returns-then-self-ge1000000 g c =
    let s = c.args.self.now in
    open_many g.A.Algebra.meaning g.met.A.Algebra.lawful.formed s.serials s.draft s.tables (types_given c.args.parameters.now) (le-ltb s.serials 1000000 c.if-self-ge1000000.true)

pub returns-in_default : goal.returns-in_default
returns-in_default g c =
    let s = c.args.self.now in
    open_unknown g.A.Algebra.meaning g.met.A.Algebra.lawful.formed s.serials s.draft s.tables (types_given c.args.parameters.now)
    (lt-ltb s.serials 1000000 c.if-self-ge1000000.false) c.in_default.ensures

pub invariant_of-self : goal.invariant_of-self
invariant_of-self g c =
    let s = c.args.self.now in
    let d = s.draft in
    record { sound = ap (λ (e : Draft). sound e s.tables) c.begin.ensures ∙ begun_sound d s.tables s.serials c.in-Some.kept s.sound }

pub returns : goal.returns
returns g c =
    let s = c.args.self.now in
    open_done g.A.Algebra.meaning g.met.A.Algebra.lawful.formed s.serials s.draft s.tables (types_given c.args.parameters.now) c.in-Some.kept c.begin.new.self
    (lt-ltb s.serials 1000000 c.if-self-ge1000000.false) c.in-Some.ensures c.begin.ensures
