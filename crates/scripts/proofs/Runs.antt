-- Items that are read one after the other.
use Rattle.std.proofs.Common.{◌≡◌, List, [], ◌∷◌, ◌++◌, Ok, Err, sym, refl, ap, ◌∙◌, append_assoc}
use Rattle.scripts.specs.declared.errors.ReadError.{ReadError}
use Rattle.scripts.specs.Readings.{Fault, Said, Blames, and_then, before}
use Rattle.scripts.proofs.Exits.{blames_like}

-- Items that are read before others that are said.
abbrev pub after : {X : Type 0} → List X → Said (List X) → Said (List X)
after xs (Err f) = Err f
after xs (Ok ys) = Ok (xs ++ ys)

module _ {X : Type 0} where
  -- One more item is read.
  after_push : (xs : List X) (x : X) (o : Said (List X)) → after xs (before x o) ≡ after (xs ++ (x ∷ [])) o
  after_push xs x (Err f) = refl
  after_push xs x (Ok ys) = ap Ok (sym (append_assoc xs (x ∷ []) ys))

  -- The next item is said, and read after those before it.
  pub after_more : (xs : List X) (first : Said X) (x : X) (others : Said (List X)) → first ≡ Ok x → after xs (and_then first (λ y. before y others)) ≡ after (xs ++ (x ∷ [])) others
  after_more xs first x others e = ap (λ o. after xs (and_then o (λ y. before y others))) e ∙ after_push xs x others

  -- A fault of the next item is one of all.
  pub after_bad : (xs : List X) (first : Said X) (others : Said (List X)) (f : Fault) → first ≡ Err f → after xs (and_then first (λ y. before y others)) ≡ Err f
  after_bad xs first others f e = ap (λ o. after xs (and_then o (λ y. before y others))) e

  -- Nothing is read before what is said.
  pub after_none : (o : Said (List X)) → o ≡ after [] o
  after_none (Err f) = refl
  after_none (Ok ys) = refl

  -- What is blamed of other items is blamed of one more before them.
  pub before_wrong : (x : X) (others : Said (List X)) (e : ReadError) → Blames others e → Blames (before x others) e
  before_wrong x others e = blames_like others (before x others) e (λ f h. ap (before x) h)
