-- The cell's axes are written behind the frame's.
use Rattle.std.proofs.Common.{◌≡◌, ℕ, List, ap, ◌∙◌, arith}
use Rattle.std.proofs.lemmas.List.{take_all}
use Rattle.shapes.specs.Axes.{dims, shape_of}
use Rattle.shapes.proofs.Views.{both_are}
use Rattle.shapes.proofs.Shape.followed_by.Goals as goal

pub returns : goal.returns
returns c =
    let f : List ℕ = dims c.args.self in
    let g : List ℕ = dims c.args.cell in
    let n : ℕ = c.rank-outer.result in
    let m : ℕ = c.rank.result in
    let first : c.front.result ≡ shape_of f = c.front.ensures.whole ∙ ap shape_of (take_all n f (omega arith)) in
    both_are c.front.result f g c.copy_from_slice.new.self n m first c.rank-outer.ensures.0 c.rank.ensures.0 (c.copy_from_slice.ensures.after ∙ c.axes.ensures.axes)
