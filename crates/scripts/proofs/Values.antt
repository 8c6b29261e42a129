-- The values that a field is given by, each by a call of `next` on the words that are left.
use Rattle.std.proofs.Common.{◌≡◌, ℕ, List, [], ◌∷◌, Some, None, Ok, Err, Option, Bor, MatchOption, IsSome, sym, ap, ◌∙◌, subst}
use Rattle.std.specs.Fn.{Called, Mut}
use Rattle.std.specs.Iterator.{Yields, YieldsFirstRef}
use Rattle.std.specs.Iterator.Adapters.{filter_map_source, filter_map_callee, filter_map_steps}
use Rattle.std.specs.List.{FoldsTo}
use Rattle.std.specs.declared.iter.FilterMap.{FilterMap}
use Rattle.scripts.specs.Readings.{twice}
use Rattle.scripts.specs.Fields.{value_of, with_value, values_of, sole}
use Rattle.scripts.specs.Views.{text_seen}

-- What a call of `next` gave of these values, and what it left.
abbrev pub Gave : List (List ℕ) → Option (Bor (List ℕ)) → List (List ℕ) → Type 0
Gave vs r ws = MatchOption r ((vs ≡ []) × (ws ≡ [])) (λ v. vs ≡ v.now ∷ ws)

module _ {S F : Type 0} (rest : S → List (List ℕ)) (g : Mut F (Bor (List ℕ) × Unit {0}) (Option (Bor (List ℕ)))) (name : List ℕ) (f : F)
    (told : (x : Bor (List ℕ)) (r : Option (Bor (List ℕ))) (q : F) → Called g f (x, tt) r q → (q ≡ f) × (value_of name x.now ≡ text_seen r)) where
  -- Words that give no value are passed over.
  passed : (xs : List (Bor (List ℕ))) (s t : S) (p q : F) → p ≡ f → Yields (YieldsFirstRef rest) s xs t → FoldsTo (λ a x b. Called g a (x, tt) None b) p xs q
      → (q ≡ f) × (values_of name (rest s) ≡ values_of name (rest t))
  passed [] s t p q e y h = (sym h ∙ e, ap (λ z. values_of name (rest z)) y)
  passed (x ∷ xs) s t p q e y h =
      let here = told x None h.0 (subst (λ a. Called g a (x, tt) None h.0) e h.1) in
      let later = passed xs y.0 t h.0 q here.0 y.2 h.2 in
      (later.0, ap (values_of name) y.1 ∙ ap (λ v. with_value v (values_of name (rest y.0))) here.1 ∙ later.1)

  -- The word after them gives the next value, or there is none.
  given : (o r : Option (Bor (List ℕ))) (s t : S) (p q : F) → p ≡ f → YieldsFirstRef rest s o t → MatchOption o ((r ≡ None) × (q ≡ p)) (λ x. Called g p (x, tt) r q × IsSome r)
      → (q ≡ f) × Gave (values_of name (rest s)) r (values_of name (rest t))
  given None None s t p q e y h = (h.1 ∙ e, (ap (values_of name) y.0, ap (values_of name) y.1))
  given None (Some v) s t p q e y h = absurd (cc h.0)
  given (Some x) None s t p q e y h = absurd (cc h.1)
  given (Some x) (Some v) s t p q e y h =
      let here = told x (Some v) q (subst (λ a. Called g a (x, tt) (Some v) q) e h.0) in
      (here.0, ap (values_of name) y ∙ ap (λ v. with_value v (values_of name (rest t))) here.1)

  -- A call of `next` gives the next value.
  pub next_given : (s t : FilterMap S F) (r : Option (Bor (List ℕ))) → filter_map_callee s ≡ f → filter_map_steps (YieldsFirstRef rest) g s r t
      → (filter_map_callee t ≡ f) × Gave (values_of name (rest (filter_map_source s))) r (values_of name (rest (filter_map_source t)))
  next_given s t r e h =
      let front = passed h.0 (filter_map_source s) h.3.0 (filter_map_callee s) h.2 e h.3.1 h.4 in
      let here = given h.1 r h.3.0 (filter_map_source t) h.2 (filter_map_callee t) front.0 h.3.2 h.5 in
      (here.0, subst (λ vs. Gave vs r (values_of name (rest (filter_map_source t)))) (sym front.1) here.1)

-- A second value is one too many.
pub two_given : (name : List ℕ) (vs ws us : List (List ℕ)) (a : Option (Bor (List ℕ))) (b : Bor (List ℕ)) → Gave vs a ws → ws ≡ b.now ∷ us → sole name vs ≡ Err (twice name)
two_given name vs ws us None b h e = let no : ◌≡◌ {A = List (List ℕ)} [] (b.now ∷ us) = sym h.1 ∙ e in absurd (cc)
two_given name vs ws us (Some v) b h e = ap (sole name) (h ∙ ap (λ l. v.now ∷ l) e)

-- One value is the sole one, and so is none.
pub one_given : (name : List ℕ) (vs ws : List (List ℕ)) (a : Option (Bor (List ℕ))) → Gave vs a ws → ws ≡ [] → sole name vs ≡ Ok (text_seen a)
one_given name vs ws None h e = ap (sole name) h.0
one_given name vs ws (Some v) h e = ap (sole name) (h ∙ ap (λ l. v.now ∷ l) e)
