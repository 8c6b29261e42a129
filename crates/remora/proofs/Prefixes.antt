-- The prefix order: its tests say what they should, and the principal frame of frames that agree is their join.
use Rattle.std.proofs.Common.{◌≡◌, ℕ, ◌+◌, ◌-◌, ◌≤◌, Bool, true, false, ◌||◌, eqb, ltb, ◌⊎◌, List, [], ◌∷◌, ◌++◌, length, take, drop, sym, refl, ap, ◌∙◌, inl, inr, append_assoc, append-nil, arith, length-append, take-append-drop, take_at, drop_at}
use Rattle.std.proofs.lemmas.Bool.{and_parts, and_from, or_cases, eqb-true, ltb-true, ltb-false, eq-eqb, le-leb, both_ways}
use Rattle.remora.specs.Shapes.{Shape, Prefix, same, begins, ends, frame_of, comparable, agree_with, agree, longer, principal, Bounds, Join}

pub same_equal : (a b : Shape) → same a b ≡ true → a ≡ b
same_equal [] [] h = refl
same_equal [] (y ∷ b) h = absurd (both_ways false refl h)
same_equal (x ∷ a) [] h = absurd (both_ways false refl h)
same_equal (x ∷ a) (y ∷ b) h = let u = and_parts _ _ h in rw (eqb-true x y u.0, same_equal a b u.1)

pub same_self : (a : Shape) → same a a ≡ true
same_self [] = refl
same_self (x ∷ a) = and_from _ _ (eq-eqb x x refl) (same_self a)

pub begins_prefix : (f s : Shape) → begins f s ≡ true → Prefix f s
begins_prefix [] s h = (s, refl)
begins_prefix (x ∷ f) [] h = absurd (both_ways false refl h)
begins_prefix (x ∷ f) (y ∷ s) h =
    let u = and_parts (eqb x y) (begins f s) h in
    let v = begins_prefix f s u.1 in
    (v.0, ap (λ (z : ℕ). z ∷ s) (sym (eqb-true x y u.0)) ∙ ap (λ (z : Shape). x ∷ z) v.1)

begins_append : (f r : Shape) → begins f (f ++ r) ≡ true
begins_append [] r = refl
begins_append (x ∷ f) r = and_from _ _ (eq-eqb x x refl) (begins_append f r)

pub prefix_begins : (f s : Shape) → Prefix f s → begins f s ≡ true
prefix_begins f s p = rw p.1 (begins_append f p.0)

pub prefix_self : (f : Shape) → Prefix f f
prefix_self f = ([], sym (append-nil f))

nil_length : (r : Shape) → length r ≡ 0 → r ≡ []
nil_length [] h = refl
nil_length (x ∷ r) h = absurd (omega arith)

-- two prefixes of each other are one
prefix_both : (f g : Shape) → Prefix f g → Prefix g f → f ≡ g
prefix_both f g p q =
    let a : length g ≡ length f + length p.0 = ap length p.1 ∙ length-append f p.0 in
    let b : length f ≡ length g + length q.0 = ap length q.1 ∙ length-append g q.0 in
    let z : p.0 ≡ [] = nil_length p.0 (omega arith) in
    sym (p.1 ∙ ap (λ (r : Shape). f ++ r) z ∙ append-nil f)

prefix_length : (f g : Shape) → Prefix f g → length f ≤ length g
prefix_length f g p = let a : length g ≡ length f + length p.0 = ap length p.1 ∙ length-append f p.0 in omega arith

-- of two prefixes of one shape, one is a prefix of the other
pub prefixes_compare : (f g s : Shape) → begins f s ≡ true → begins g s ≡ true → comparable f g ≡ true
prefixes_compare [] g s h k = refl
prefixes_compare (x ∷ f) [] s h k = refl
prefixes_compare (x ∷ f) (y ∷ g) [] h k = absurd (both_ways false refl h)
prefixes_compare (x ∷ f) (y ∷ g) (z ∷ s) h k =
    let u = and_parts (eqb x z) (begins f s) h in
    let v = and_parts (eqb y z) (begins g s) k in
    let e : eqb x y ≡ true = eq-eqb x y (eqb-true x z u.0 ∙ sym (eqb-true y z v.0)) in
    let e' : eqb y x ≡ true = eq-eqb y x (eqb-true y z v.0 ∙ sym (eqb-true x z u.0)) in
    rw (e, e') (prefixes_compare f g s u.1 v.1)

-- of two that compare, the shorter is a prefix of the longer
shorter_begins : (f g : Shape) → comparable f g ≡ true → length f ≤ length g → Prefix f g
shorter_begins f g h l = go (or_cases (begins f g) (begins g f) h)
  where
    back : Prefix g f → Prefix f g
    back p =
        let a : length f ≡ length g + length p.0 = ap length p.1 ∙ length-append g p.0 in
        let z : p.0 ≡ [] = nil_length p.0 (omega arith) in
        let e : f ≡ g = p.1 ∙ ap (λ (r : Shape). g ++ r) z ∙ append-nil g in
        ([], sym e ∙ sym (append-nil f))

    go : (begins f g ≡ true) ⊎ (begins g f ≡ true) → Prefix f g
    go (inl e) = begins_prefix f g e
    go (inr e) = back (begins_prefix g f e)

comparable_swap : (f g : Shape) → comparable f g ≡ true → comparable g f ≡ true
comparable_swap f g h = go (or_cases (begins f g) (begins g f) h)
  where
    left : (b c : Bool) → b ≡ true → (b || c) ≡ true
    left true c e = refl
    left false c e = absurd (both_ways false refl e)

    right : (b c : Bool) → c ≡ true → (b || c) ≡ true
    right true c e = refl
    right false c e = e

    go : (begins f g ≡ true) ⊎ (begins g f ≡ true) → comparable g f ≡ true
    go (inl e) = right (begins g f) (begins f g) e
    go (inr e) = left (begins g f) (begins f g) e

nil_compares : (f : Shape) → comparable f [] ≡ true
nil_compares [] = refl
nil_compares (x ∷ f) = refl

principal_compares : (f : Shape) (fs : List Shape) → agree_with f fs ≡ true → comparable f (principal fs) ≡ true
principal_compares f [] h = nil_compares f
principal_compares f (g ∷ fs) h =
    let u = and_parts (comparable f g) (agree_with f fs) h in
    go (ltb (length g) (length (principal fs))) u.0 (principal_compares f fs u.1)
  where
    go : (b : Bool) → comparable f g ≡ true → comparable f (principal fs) ≡ true → comparable f (longer b g (principal fs)) ≡ true
    go true u ih = ih
    go false u ih = u

-- what bounds frames that agree with a longer frame is bounded by it
pub bounds_longer : (f p : Shape) (fs : List Shape) → agree_with f fs ≡ true → Bounds p fs → length p ≤ length f → Bounds f fs
bounds_longer f p [] h k l = tt
bounds_longer f p (g ∷ fs) h k l =
    let u = and_parts (comparable f g) (agree_with f fs) h in
    let v = prefix_length g p k.0 in
    (shorter_begins g f (comparable_swap f g u.0) (omega arith), bounds_longer f p fs u.1 k.1 l)

-- if of every two frames one is a prefix of the other, each is a prefix of the longest
pub principal_bounds : (fs : List Shape) → agree fs ≡ true → Bounds (principal fs) fs
principal_bounds [] h = tt
principal_bounds (f ∷ fs) h =
    let u = and_parts (agree_with f fs) (agree fs) h in
    go (ltb (length f) (length (principal fs))) refl (principal_compares f fs u.0) u.0 (principal_bounds fs u.1)
  where
    go : (b : Bool) → ltb (length f) (length (principal fs)) ≡ b → comparable f (principal fs) ≡ true → agree_with f fs ≡ true → Bounds (principal fs) fs
        → Bounds (longer b f (principal fs)) (f ∷ fs)
    go true e c a ih = (shorter_begins f (principal fs) c (let l = ltb-true (length f) (length (principal fs)) e in omega arith), ih)
    go false e c a ih = (prefix_self f, bounds_longer f (principal fs) fs a ih (ltb-false (length f) (length (principal fs)) e))

-- the longest is a prefix of whatever bounds them all
principal_least : (fs : List Shape) (q : Shape) → Bounds q fs → Prefix (principal fs) q
principal_least [] q h = (q, refl)
principal_least (f ∷ fs) q h = go (ltb (length f) (length (principal fs))) (principal_least fs q h.1)
  where
    go : (b : Bool) → Prefix (principal fs) q → Prefix (longer b f (principal fs)) q
    go true ih = ih
    go false ih = h.0

pub principal_join : (fs : List Shape) → agree fs ≡ true → Join fs (principal fs)
principal_join fs h = record { upper = principal_bounds fs h; least = principal_least fs }

agree_with_bounded : (f p : Shape) (fs : List Shape) → Prefix f p → Bounds p fs → agree_with f fs ≡ true
agree_with_bounded f p [] h k = refl
agree_with_bounded f p (g ∷ fs) h k = and_from _ _ (prefixes_compare f g p (prefix_begins f p h) (prefix_begins g p k.0)) (agree_with_bounded f p fs h k.1)

pub agree_bounded : (p : Shape) (fs : List Shape) → Bounds p fs → agree fs ≡ true
agree_bounded p [] k = refl
agree_bounded p (f ∷ fs) k = and_from _ _ (agree_with_bounded f p fs k.0 k.1) (agree_bounded p fs k.1)

-- frames that have a join agree, and the join is the principal frame
pub join_principal : (fs : List Shape) (p : Shape) → Join fs p → (agree fs ≡ true) × (p ≡ principal fs)
join_principal fs p j =
    let a = agree_bounded p fs j.upper in
    let k = principal_join fs a in
    (a, prefix_both p (principal fs) (j.least (principal fs) k.upper) (k.least p j.upper))

-- ---- one frame more

bounds_snoc : (q f : Shape) (fs : List Shape) → Bounds q fs → Prefix f q → Bounds q (fs ++ f ∷ [])
bounds_snoc q f [] b p = (p, tt)
bounds_snoc q f (g ∷ fs) b p = (b.0, bounds_snoc q f fs b.1 p)

bounds_front : (q f : Shape) (fs : List Shape) → Bounds q (fs ++ f ∷ []) → Bounds q fs × Prefix f q
bounds_front q f [] b = (tt, b.0)
bounds_front q f (g ∷ fs) b = let u = bounds_front q f fs b.1 in ((b.0, u.0), u.1)

prefix_trans : (f g h : Shape) → Prefix f g → Prefix g h → Prefix f h
prefix_trans f g h p q = (p.0 ++ q.0, q.1 ∙ ap (λ (z : Shape). z ++ q.0) p.1 ∙ append_assoc f p.0 q.0)

bounds_more : (p q : Shape) (fs : List Shape) → Bounds p fs → Prefix p q → Bounds q fs
bounds_more p q [] b e = tt
bounds_more p q (g ∷ fs) b e = (prefix_trans g p q b.0 e, bounds_more p q fs b.1 e)

-- one frame more agrees exactly if it compares with the principal frame, and the longer of the two is then the principal frame
pub join_snoc : (fs : List Shape) (f : Shape) → agree fs ≡ true
    → (agree (fs ++ f ∷ []) ≡ comparable (principal fs) f) × (comparable (principal fs) f ≡ true → principal (fs ++ f ∷ []) ≡ longer (ltb (length (principal fs)) (length f)) (principal fs) f)
join_snoc fs f a = (go (comparable (principal fs) f) refl, λ c. sym (join_principal (fs ++ f ∷ []) _ (joined c (ltb (length (principal fs)) (length f)) refl)).1)
  where
    p : Shape
    p = principal fs

    b : Bounds (principal fs) fs
    b = principal_bounds fs a

    joined : comparable (principal fs) f ≡ true → (t : Bool) → ltb (length (principal fs)) (length f) ≡ t → Join (fs ++ f ∷ []) (longer t (principal fs) f)
    joined c true e =
        let u : Prefix (principal fs) f = shorter_begins (principal fs) f c (let k = ltb-true (length (principal fs)) (length f) e in omega arith) in
        record { upper = bounds_snoc f f fs (bounds_more (principal fs) f fs b u) (prefix_self f); least = λ q w. (bounds_front q f fs w).1 }
    joined c false e =
        let u : Prefix f (principal fs) = shorter_begins f (principal fs) (comparable_swap (principal fs) f c) (ltb-false (length (principal fs)) (length f) e) in
        record { upper = bounds_snoc (principal fs) f fs b u; least = λ q w. principal_least fs q (bounds_front q f fs w).0 }

    go : (t : Bool) → comparable (principal fs) f ≡ t → agree (fs ++ f ∷ []) ≡ t
    go true c = (join_principal (fs ++ f ∷ []) _ (joined c (ltb (length (principal fs)) (length f)) refl)).0
    go false c = apart (agree (fs ++ f ∷ [])) refl
      where
        apart : (t : Bool) → agree (fs ++ f ∷ []) ≡ t → t ≡ false
        apart true e =
            let w = bounds_front (principal (fs ++ f ∷ [])) f fs (principal_bounds (fs ++ f ∷ []) e) in
            let d : comparable (principal fs) f ≡ true = prefixes_compare (principal fs) f (principal (fs ++ f ∷ [])) (prefix_begins _ _ (principal_least fs _ w.0)) (prefix_begins _ _ w.1) in
            absurd (both_ways (comparable (principal fs) f) c d)
        apart false e = refl

-- ---- cells

pub ends_split : (w s : Shape) → ends w s ≡ true → s ≡ frame_of w s ++ w
ends_split w s h =
    let e : drop (length s - length w) s ≡ w = same_equal _ _ (and_parts _ _ h).1 in
    sym (ap (λ (z : Shape). take (length s - length w) s ++ z) (sym e) ∙ take-append-drop (length s - length w) s)

pub frame_length : (f w : Shape) → length (f ++ w) - length w ≡ length f
frame_length f w = rw length-append (omega arith)

pub frame_is : (f w : Shape) → frame_of w (f ++ w) ≡ f
frame_is f w = rw frame_length (take_at f w (length f) refl)

pub cell_is : (f w : Shape) → drop (length (f ++ w) - length w) (f ++ w) ≡ w
cell_is f w = rw frame_length (drop_at f w (length f) refl)

pub ends_append : (f w : Shape) → ends w (f ++ w) ≡ true
ends_append f w = and_from _ _ (le-leb (length w) (length (f ++ w)) (rw length-append (omega arith))) (rw (cell_is f w) (same_self w))
