-- A shape that is longer does not begin the other; else its axes are tested beside the other's.
use Rattle.std.proofs.Common.{◌≡◌, ℕ, ◌<◌, ◌≤◌, eqb, leb, length, sym, ◌∙◌, arith, rules, tests}
use Rattle.std.proofs.lemmas.Bool.{lt-leb}
use Rattle.std.proofs.lemmas.Iterator.{YieldsList-from_slice, YieldsList-from_zip}
use Rattle.std.proofs.lemmas.Iterator.Search.{all_from_yields_List}
use Rattle.remora.specs.Shapes.{begins}
use Rattle.shapes.specs.Axes.{dims}
use Rattle.shapes.proofs.Prefixes.{begins_zip, begins_long, same_level}
use Rattle.shapes.proofs.Shape.begins.Goals as goal

pub returns-then-rank : goal.returns-then-rank
returns-then-rank c =
    let f = dims c.args.self in
    let g = dims c.args.other in
    let fits : length f ≤ length g = omega arith in
    let e : c.all.result ≡ begins f g =
    all_from_yields_List (λ (p : ℕ × ℕ). eqb p.0 p.1) c.all.new.self _ c.all.result c.all.ensures.ran
    (YieldsList-from_zip (YieldsList-from_slice f cc) (YieldsList-from_slice g cc)) (λ x b q k. search (rules, tests))
    ∙ begins_zip f g fits in
    record { exact = e; level = λ s. e ∙ sym (same_level f g s) }

pub returns-else-rank : goal.returns-else-rank
returns-else-rank c =
    let f = dims c.args.self in
    let g = dims c.args.other in
    let longer : length g < length f = omega arith in
    let e : leb c.rank.result c.rank-2.result ≡ begins f g = lt-leb c.rank.result c.rank-2.result c.if-rank.false ∙ sym (begins_long f g longer) in
    record { exact = e; level = λ s. absurd (omega arith) }
