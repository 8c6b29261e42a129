-- The axes of a shape: those it is made of, and those of a frame and a cell put together.
use Rattle.std.proofs.Common.{◌≡◌, ℕ, ◌+◌, ◌-◌, List, ◌++◌, length, drop, replicate, sym, ap, ◌∙◌, arith, length-append}
use Rattle.std.proofs.lemmas.List.{take_at, drop-drop, drop_at, drop-replicate, append_assoc}
use Rattle.std.proofs.lemmas.Slice.{put_mid-paste}
use Rattle.std.proofs.lemmas.List.Edits.{paste_all}
use borrow.Rule.Slice.PartMut.{put_mid}
use Rattle.shapes.specs.declared.Shape.{Shape}
use Rattle.shapes.specs.Axes.{shape_of}

-- A shape is made of axes if it holds them, then zeros.
pub made_of : (xs ys : List ℕ) (n : ℕ) → n ≡ length xs → ys ≡ xs ++ drop n (replicate 4 0) → ◌≡◌ {A = Shape} (record { axes = ys; rank = n }) (shape_of xs)
made_of xs ys n e p =
    let zeros : drop n (replicate 4 0) ≡ replicate (4 - length xs) 0 = drop-replicate n 4 0 ∙ ap (λ (k : ℕ). replicate (4 - k) 0) e in
    let q : ys ≡ xs ++ replicate (4 - length xs) 0 = p ∙ ap (λ (z : List ℕ). xs ++ z) zeros in
    λ j. record { axes = q j; rank = e j }

-- A frame's axes with a cell's written behind them are those of both.
pub both_are : (s : Shape) (f g zs : List ℕ) (n m : ℕ) → s ≡ shape_of f → n ≡ length f → m ≡ length g → zs ≡ g
    → ◌≡◌ {A = Shape} (record { axes = put_mid n (n + m - n) s.axes zs; rank = n + m }) (shape_of (f ++ g))
both_are s f g zs n m w e h p =
    let rest : List ℕ = replicate (4 - length f) 0 in
    let after : drop (n + m) (f ++ rest) ≡ drop (n + m) (replicate 4 0) =
    sym (drop-drop m n (f ++ rest)) ∙ ap (drop m) (drop_at f rest n (sym e)) ∙ drop-replicate m (4 - length f) 0
    ∙ ap (λ (k : ℕ). replicate k 0) (omega arith) ∙ sym (drop-replicate (n + m) 4 0) in
    made_of (f ++ g) _ (n + m) (omega (arith, length-append f g))
    (ap (λ (t : Shape). put_mid n (n + m - n) t.axes zs) w
    ∙ put_mid-paste n (n + m - n) (f ++ rest) zs g m p (omega arith) h
    ∙ paste_all (f ++ rest) n g m h
    ∙ ap (λ (l : List ℕ). l ++ (g ++ drop (n + m) (f ++ rest))) (take_at f rest n (sym e))
    ∙ ap (λ (l : List ℕ). f ++ (g ++ l)) after
    ∙ sym (append_assoc f g (drop (n + m) (replicate 4 0))))
